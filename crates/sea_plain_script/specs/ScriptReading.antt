-- What the readers of a line give.
use Rattle.std.specs.Prelude.{◌≡◌, ℕ, List, [], ◌++◌, ◌==◌, ◌<◌, Option, Some, None, Result, Ok, Err, codes, ◌⊎◌, ◌≤◌, ◌∷◌, length}
use Rattle.std.specs.List.{AllByRecursion, slice_split}
use Rattle.std.specs.Borrow.{Bor}
use Rattle.sea_base.specs.Name.{IsName}
use Rattle.sea_plain.specs.declared.op.Op.{Op}
use Rattle.sea_plain.specs.declared.op.Op.TheVariants.{Write, Read}
use Rattle.sea_plain_script.specs.Script.{AreBytes, Asks, IsBlank, ops_words}
use Rattle.sea_plain_script.specs.declared.plan.Asked.{Asked}
use Rattle.sea_plain_script.specs.declared.script.ScriptFault.{ScriptFault}
use Rattle.sea_plain_script.specs.declared.script.ScriptFault.TheVariants.{NoMemory as NoMemoryAt, Refused}
use Rattle.sea_plain_script.specs.declared.script.fault.LineFault.{LineFault}
use Rattle.sea_plain_script.specs.declared.script.fault.LineFault.TheVariants.{NoMemory, Why}
use Rattle.sea_plain_script.specs.declared.script.parts.Parts.{Parts}
use Rattle.sea_plain_script.specs.declared.script.request.Verb.{Verb}
use Rattle.sea_plain_script.specs.declared.script.request.Verb.TheVariants.{Write as WriteVerb, Read as ReadVerb}

-- the words of a line, which is cut at each space
abbrev pub words : List ℕ → List (List ℕ)
words line = slice_split (λ b. b == 32) line

-- the parts that are left, which the separator cuts
abbrev pub parts_left : ℕ → Option (Bor (List ℕ)) → List (List ℕ)
parts_left separator None = []
parts_left separator (Some rest) = slice_split (λ b. b == separator) rest.now

abbrev pub left : Parts → List (List ℕ)
left parts = parts_left parts.separator parts.rest

-- the value that the fact holds of, or want of memory; another fault comes where it holds of none
abbrev pub Finds : {V : Type 0} → (V → Type 0) → Result V LineFault → Type 0
Finds Is (Ok value) = Is value
Finds Is (Err NoMemory) = Unit {0}
Finds {V} Is (Err (Why why)) = (value : V) → Is value → ⊥

-- The words begin with those of the value, and the others are left; or memory ran out; another fault comes
-- where they begin with those of no value.
abbrev pub Reads : {V : Type 0} → (V → Type 0) → (V → List (List ℕ)) → List (List ℕ) → List (List ℕ) → Result V LineFault → Type 0
Reads Is spelled old new (Ok value) = Is value × (old ≡ spelled value ++ new)
Reads Is spelled old new (Err NoMemory) = Unit {0}
Reads {V} Is spelled old new (Err (Why why)) =
    (value : V) (rest : List (List ℕ)) → Is value → old ≡ spelled value ++ rest → ⊥

-- A byte's text is at the front of a text, with the rest behind it; or that of no byte is.
abbrev pub TakesByte : (ℕ → List ℕ) → List ℕ → Option (ℕ × Bor (List ℕ)) → Type 0
TakesByte spelled text None = (b : ℕ) (rest : List ℕ) → b < 256 → text ≡ spelled b ++ rest → ⊥
TakesByte spelled text (Some taken) = (taken.0 < 256) × (text ≡ spelled taken.0 ++ taken.1.now)

-- an operation that words can spell
abbrev pub IsSpelled : Op → Type 0
IsSpelled (Write name offset bytes) =
    IsName name × AreBytes name × (offset < 1000000000) × AreBytes bytes
IsSpelled (Read name offset count) =
    IsName name × AreBytes name × (offset < 1000000000) × (count < 1000000000)

-- words that spell some operations
abbrev pub AreOps : List (List ℕ) → List Op → Type 0
AreOps words ops = (1 ≤ length ops) × AllByRecursion IsSpelled ops × (words ≡ ops_words ops)

-- an operation's word
abbrev pub verb_word : Verb → List ℕ
verb_word WriteVerb = codes "write"
verb_word ReadVerb = codes "read"

-- how a line's fault stands among those of the whole
abbrev pub fault_at : ℕ → LineFault → ScriptFault
fault_at line NoMemory = NoMemoryAt
fault_at line (Why why) = Refused line why

-- What a line makes of a plan: it is blank, or asks for a request that the plan has room for. Another fault than
-- want of memory comes where it does neither.
abbrev pub AddsLine : List ℕ → List Asked → List Asked → Result (Unit {0}) LineFault → Type 0
AddsLine line old new (Ok done) =
    (IsBlank line × (new ≡ old)) ⊎ ((asked : Asked) × Asks line asked × (length old < 10000) × (new ≡ old ++ asked ∷ []))
AddsLine line old new (Err NoMemory) = Unit {0}
AddsLine line old new (Err (Why why)) =
    (IsBlank line → ⊥) × ((asked : Asked) → Asks line asked → 10000 ≤ length old)
