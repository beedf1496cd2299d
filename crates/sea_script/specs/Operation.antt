-- How operations are spelled, and which words spell none.
use Rattle.std.specs.Prelude.{◌≡◌, ◌⊎◌, ℕ, List, [], ◌∷◌, length, map}
use Rattle.std.specs.List.{flat_map, AllByRecursion}
use Rattle.sea_object.specs.declared.op.Op.{Op}
use Rattle.sea_object.specs.declared.op.Op.TheVariants.{Touch, Write, Zero, Truncate, Remove, SetAttr, RmAttr, RmAttrs, OmapSetKeys, OmapRmKeys, OmapRmKeyRange, OmapClear, Read, Stat, GetAttr, GetAttrs, OmapGet, OmapList, List as ListNames}
use Rattle.sea_script.specs.declared.argument.Argument.{Argument}
use Rattle.sea_script.specs.declared.argument.Argument.TheVariants.{Name, Number, Bytes}
use Rattle.sea_script.specs.declared.table.Verb.{Verb}
use Rattle.sea_script.specs.declared.table.Verb.TheVariants as verb
use Rattle.sea_script.specs.declared.script.ScriptWhy.{ScriptWhy}
use Rattle.sea_script.specs.declared.script.ScriptWhy.TheVariants.{BadOp}
use Rattle.sea_script.specs.Table.{IsCount, kinds_for, word_of}
use Rattle.sea_script.specs.Argument.{IsArgument, IsFirstBad, argument_text, kinds, option_arguments, pair_arguments}

-- ---- operations

-- what an operation is called, and its parts in the order of their words
abbrev pub spelling : Op → Verb × List Argument
spelling (Touch name) = (verb.Touch, Name name ∷ [])
spelling (Write name offset bytes) = (verb.Write, Name name ∷ Number offset ∷ Bytes bytes ∷ [])
spelling (Zero name offset count) = (verb.Zero, Name name ∷ Number offset ∷ Number count ∷ [])
spelling (Truncate name size) = (verb.Truncate, Name name ∷ Number size ∷ [])
spelling (Remove name) = (verb.Remove, Name name ∷ [])
spelling (SetAttr name key value) = (verb.SetAttr, Name name ∷ Name key ∷ Bytes value ∷ [])
spelling (RmAttr name key) = (verb.RmAttr, Name name ∷ Name key ∷ [])
spelling (RmAttrs name) = (verb.RmAttrs, Name name ∷ [])
spelling (OmapSetKeys name pairs) = (verb.OmapSetKeys, Name name ∷ flat_map pair_arguments pairs)
spelling (OmapRmKeys name keys) = (verb.OmapRmKeys, Name name ∷ map Name keys)
spelling (OmapRmKeyRange name from to bound) =
    (verb.OmapRmKeyRange, Name name ∷ Name from ∷ Name to ∷ Number bound ∷ [])
spelling (OmapClear name) = (verb.OmapClear, Name name ∷ [])
spelling (Read name offset count) = (verb.Read, Name name ∷ Number offset ∷ Number count ∷ [])
spelling (Stat name) = (verb.Stat, Name name ∷ [])
spelling (GetAttr name key) = (verb.GetAttr, Name name ∷ Name key ∷ [])
spelling (GetAttrs name) = (verb.GetAttrs, Name name ∷ [])
spelling (OmapGet name key) = (verb.OmapGet, Name name ∷ Name key ∷ [])
spelling (OmapList name limit after) =
    (verb.OmapList, Name name ∷ Number limit ∷ option_arguments after)
spelling (ListNames limit after) = (verb.List, Number limit ∷ option_arguments after)

abbrev pub verb_of : Op → Verb
verb_of op = (spelling op).0

abbrev pub arguments : Op → List Argument
arguments op = (spelling op).1

-- The words spell the operation: its own word, and its parts. There are as many as the table has for it, of
-- the same kinds.
pub record Spells (words : List (List ℕ)) (op : Op) : Type 0 where
  pub counted : IsCount (verb_of op) (length (arguments op))
  pub listed : kinds (arguments op) ≡ kinds_for (verb_of op) (length (arguments op))
  pub good : AllByRecursion IsArgument (arguments op)
  pub words_are : words ≡ word_of (verb_of op) ∷ map argument_text (arguments op)

-- ---- words that spell no operation

-- the words begin with an operation's word, and the table has so many words behind it
pub record HasForm (words : List (List ℕ)) (called : Verb) (others : List (List ℕ)) : Type 0 where
  pub words_are : words ≡ word_of called ∷ others
  pub counted : IsCount called (length others)

-- no operation's word, or another number of words than the table has behind it
abbrev pub HasNoForm : List (List ℕ) → Type 0
HasNoForm words = (called : Verb) (others : List (List ℕ)) → HasForm words called others → ⊥

-- one of the words behind an operation's own is the first that isn't of its kind
abbrev pub HasBadWord : List (List ℕ) → ScriptWhy → Type 0
HasBadWord words why =
    (called : Verb) × (others : List (List ℕ)) × HasForm words called others
    × IsFirstBad (kinds_for called (length others)) others why

-- why words spell no operation: they have no form, or else a bad word
abbrev pub IsOpFault : List (List ℕ) → ScriptWhy → Type 0
IsOpFault words why = (HasNoForm words × (why ≡ BadOp)) ⊎ HasBadWord words why

-- why the parts between words `;` don't spell operations: the fault of the first that spells none
abbrev pub IsFirstFault : List (List (List ℕ)) → ScriptWhy → Type 0
IsFirstFault [] why = ⊥
IsFirstFault (part ∷ parts) why =
    IsOpFault part why ⊎ (((op : Op) × Spells part op) × IsFirstFault parts why)
