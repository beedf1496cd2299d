-- The words that an operation takes behind its own.
use Rattle.std.specs.Prelude.{◌≡◌, ◌⊎◌, ℕ, ◌<◌, List, [], ◌∷◌, map, Option, Some, None}
use Rattle.std.specs.Fmt.{decimal}
use Rattle.sea_base.specs.Name.{IsName}
use Rattle.sea_script.specs.declared.argument.Argument.{Argument}
use Rattle.sea_script.specs.declared.argument.Argument.TheVariants.{Name, Number, Bytes}
use Rattle.sea_script.specs.declared.table.Kind.{Kind}
use Rattle.sea_script.specs.declared.table.Kind.TheVariants.{Name as NameKind, Number as NumberKind, Bytes as BytesKind}
use Rattle.sea_script.specs.declared.script.ScriptWhy.{ScriptWhy}
use Rattle.sea_script.specs.declared.script.ScriptWhy.TheVariants.{BadName, BadNumber, BadHex}
use Rattle.sea_script.specs.Word.{AreBytes, data_text, name_text}

-- its kind
abbrev pub kind_of : Argument → Kind
kind_of (Name name) = NameKind
kind_of (Number n) = NumberKind
kind_of (Bytes bytes) = BytesKind

-- how a word says it
abbrev pub argument_text : Argument → List ℕ
argument_text (Name name) = name_text name
argument_text (Number n) = decimal n
argument_text (Bytes bytes) = data_text bytes

-- names of 1 to 64 bytes, numbers of 1 to 9 digits, bytes
abbrev pub IsArgument : Argument → Type 0
IsArgument (Name name) = IsName name × AreBytes name
IsArgument (Number n) = n < 1000000000
IsArgument (Bytes bytes) = AreBytes bytes

-- a word of this kind
abbrev pub IsOfKind : Kind → List ℕ → Type 0
IsOfKind kind word = (a : Argument) × IsArgument a × (kind_of a ≡ kind) × (word ≡ argument_text a)

abbrev pub kinds : List Argument → List Kind
kinds arguments = map kind_of arguments

-- a key and its value
abbrev pub pair_arguments : List ℕ × List ℕ → List Argument
pair_arguments pair = Name pair.0 ∷ Bytes pair.1 ∷ []

-- a name that may be left out
abbrev pub option_arguments : Option (List ℕ) → List Argument
option_arguments None = []
option_arguments (Some name) = Name name ∷ []

-- why a word that isn't of a kind is refused
abbrev pub bad : Kind → ScriptWhy
bad NameKind = BadName
bad NumberKind = BadNumber
bad BytesKind = BadHex

-- the first word that isn't of its kind
abbrev pub IsFirstBad : List Kind → List (List ℕ) → ScriptWhy → Type 0
IsFirstBad (kind ∷ kinds) (word ∷ words) why =
    ((IsOfKind kind word → ⊥) × (why ≡ bad kind))
    ⊎ (IsOfKind kind word × IsFirstBad kinds words why)
IsFirstBad _ _ why = ⊥
