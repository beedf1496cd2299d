-- What the readers of words give.
use Rattle.std.specs.Prelude.{◌≡◌, ◌⊎◌, ℕ, ◌<◌, List, [], ◌++◌, ◌==◌, map, length, Option, Some, None, Result, Ok, Err}
use Rattle.std.specs.List.{AllByRecursion, slice_split}
use Rattle.std.specs.Borrow.{Bor}
use Rattle.sea_script.specs.declared.argument.Argument.{Argument}
use Rattle.sea_script.specs.declared.fault.LineFault.{LineFault}
use Rattle.sea_script.specs.declared.fault.LineFault.TheVariants.{NoMemory, Why}
use Rattle.sea_script.specs.declared.parts.Parts.{Parts}
use Rattle.sea_script.specs.declared.script.ScriptWhy.{ScriptWhy}
use Rattle.sea_script.specs.declared.script.ScriptWhy.TheVariants.{BadOp}
use Rattle.sea_script.specs.declared.table.Further.{Further}
use Rattle.sea_script.specs.declared.table.Kind.{Kind}
use Rattle.sea_script.specs.declared.table.Verb.{Verb}
use Rattle.sea_script.specs.Argument.{IsArgument, IsFirstBad, argument_text, kind_of, kinds}
use Rattle.sea_script.specs.Table.{IsCount, first_kinds, further_of, kinds_for, word_of}

-- the parts that are left, which the separator cuts
abbrev pub parts_left : ℕ → Option (Bor (List ℕ)) → List (List ℕ)
parts_left separator None = []
parts_left separator (Some rest) = slice_split (λ b. b == separator) rest.now

abbrev pub left : Parts → List (List ℕ)
left parts = parts_left parts.separator parts.rest

-- words that are borrowed
abbrev pub seen : List (Bor (List ℕ)) → List (List ℕ)
seen words = map (λ word. word.now) words

-- The value that the fact holds of, or want of memory. Where it holds of none the line is refused for this.
abbrev pub Finds : {V : Type 0} → (V → Type 0) → ScriptWhy → Result V LineFault → Type 0
Finds Is why (Ok value) = Is value
Finds Is why (Err NoMemory) = Unit {0}
Finds {V} Is why (Err (Why other)) = ((value : V) → Is value → ⊥) × (other ≡ why)

-- A byte's text is at the front of a text, with the rest behind it; or that of no byte is.
abbrev pub TakesByte : (ℕ → List ℕ) → List ℕ → Option (ℕ × Bor (List ℕ)) → Type 0
TakesByte spelled text None = (b : ℕ) (rest : List ℕ) → b < 256 → text ≡ spelled b ++ rest → ⊥
TakesByte spelled text (Some taken) = (taken.0 < 256) × (text ≡ spelled taken.0 ++ taken.1.now)

-- what a word of this kind says
abbrev pub Says : Kind → List ℕ → Argument → Type 0
Says kind word a = IsArgument a × (kind_of a ≡ kind) × (word ≡ argument_text a)

-- a row of the table, as these words have it of its operation
abbrev pub IsRow : Bor (List ℕ) × Verb × Bor (List Kind) × Further → Type 0
IsRow row = (row.0.now ≡ word_of row.1) × (row.2.now ≡ first_kinds row.1)
    × (row.3 ≡ further_of row.1)

-- the parts of the operation, read from the words behind its own
abbrev pub AreRead : Verb → List (List ℕ) → List Argument → Type 0
AreRead called words arguments =
    IsCount called (length arguments) × (kinds arguments ≡ kinds_for called (length arguments))
    × AllByRecursion IsArgument arguments × (words ≡ map argument_text arguments)

-- the same, or why there are none: so many words may not stand there, or one is the first bad one
abbrev pub ReadsArguments : Verb → List (List ℕ) → Result (List Argument) LineFault → Type 0
ReadsArguments called words (Ok arguments) = AreRead called words arguments
ReadsArguments called words (Err NoMemory) = Unit {0}
ReadsArguments called words (Err (Why why)) =
    ((IsCount called (length words) → ⊥) × (why ≡ BadOp))
    ⊎ (IsCount called (length words) × IsFirstBad (kinds_for called (length words)) words why)
