-- What the readers of lines give.
use Rattle.std.specs.Prelude.{◌≡◌, ◌⊎◌, ℕ, ◌≤◌, ◌-◌, ◌^◌, List, [], ◌∷◌, ◌++◌, Bool, length, Option, Some, None, Result, Ok, Err, slice_index}
use Rattle.std.specs.List.{AllByRecursion}
use Rattle.std.specs.Borrow.{Bor}
use Rattle.sea_object.specs.declared.op.Op.{Op}
use Rattle.sea_script.specs.declared.asked.Asked.{Asked}
use Rattle.sea_script.specs.declared.event.Event.{Event}
use Rattle.sea_script.specs.declared.draft.Draft.TheInside.{Inside}
use Rattle.sea_script.specs.declared.fault.LineFault.{LineFault}
use Rattle.sea_script.specs.declared.fault.LineFault.TheVariants.{NoMemory, Why}
use Rattle.sea_script.specs.declared.script.ScriptFault.{ScriptFault}
use Rattle.sea_script.specs.declared.script.ScriptFault.TheVariants.{NoMemory as NoMemoryAt, Refused}
use Rattle.sea_object.specs.declared.request.RequestFault.{RequestFault}
use Rattle.sea_object.specs.declared.request.RequestFault.TheVariants.{Empty, TooManyOps, BadRange, BadValue, TooManyBlocks, TooManyKeys}
use Rattle.sea_script.specs.declared.script.ScriptWhy.{ScriptWhy}
use Rattle.sea_script.specs.declared.script.ScriptWhy.TheVariants.{BadOp, BadEvent, TooManyOps as ManyOps, BadRange as Range, BadValue as Value, TooManyBlocks as ManyBlocks, TooManyKeys as ManyKeys, TooManyRequests as ManyRequests, TooMuchRead as MuchRead}
use Rattle.sea_script.specs.Operation.{IsFirstFault, IsOpFault, Spells}
use Rattle.sea_script.specs.Reading.{seen}
use Rattle.sea_script.specs.Script.{Asks, Given, Gives, HasNoEvent, HasTurn, HasWeight, IsClient, IsNoRequest, IsRefusedFor, OneByOne, StandsFor, parts, requests_by, weight_of}

-- the operation that words spell, or why they spell none
abbrev pub ReadsOp : List (List ℕ) → Result Op LineFault → Type 0
ReadsOp words (Ok op) = Spells words op
ReadsOp words (Err NoMemory) = Unit {0}
ReadsOp words (Err (Why why)) = IsOpFault words why

-- the same of the parts between words `;`
abbrev pub ReadsOps : List (List (List ℕ)) → Result (List Op) LineFault → Type 0
ReadsOps parts (Ok ops) = OneByOne Spells parts ops
ReadsOps parts (Err NoMemory) = Unit {0}
ReadsOps parts (Err (Why why)) = IsFirstFault parts why

-- the parts that are left
abbrev pub op_parts_left : Option (Bor (List (Bor (List ℕ)))) → List (List (List ℕ))
op_parts_left None = []
op_parts_left (Some words) = parts (seen words.now)

-- the request that words ask for, or why they ask for none
abbrev pub ReadsRequest : List (List ℕ) → Given → Result Asked LineFault → Type 0
ReadsRequest said given (Ok asked) = Asks said asked
ReadsRequest said given (Err NoMemory) = Unit {0}
ReadsRequest said given (Err (Why why)) = IsNoRequest why said given

-- why operations that are spelled make no request
abbrev pub why_none : RequestFault → ScriptWhy
why_none Empty = BadOp
why_none TooManyOps = ManyOps
why_none (BadRange op) = Range
why_none (BadValue op) = Value
why_none TooManyBlocks = ManyBlocks
why_none TooManyKeys = ManyKeys

-- the events that words stand for
abbrev pub ReadsEvents : List (List ℕ) → Result (List Event) LineFault → Type 0
ReadsEvents said (Ok events) = OneByOne StandsFor said events
ReadsEvents said (Err NoMemory) = Unit {0}
ReadsEvents said (Err (Why why)) = HasNoEvent said × (why ≡ BadEvent)

-- what a request adds, or why its turn or its weight is refused
abbrev pub AddsRequest : Asked → Given → Given → Result (Unit {0}) LineFault → Type 0
AddsRequest asked old new (Ok done) =
    HasTurn old asked × HasWeight old asked × (new ≡ record old { asked = old.asked ++ asked ∷ [] })
AddsRequest asked old new (Err NoMemory) = Unit {0}
AddsRequest asked old new (Err (Why why)) =
    ((why ≡ ManyRequests) × (HasTurn old asked → ⊥))
    ⊎ ((why ≡ MuchRead) × HasTurn old asked × (HasWeight old asked → ⊥))

-- what a line adds, or why it is refused
abbrev pub AddsLine : Bool → List ℕ → Given → Given → Result (Unit {0}) LineFault → Type 0
AddsLine scheduled line old new (Ok done) = Gives scheduled line old new
AddsLine scheduled line old new (Err NoMemory) = Unit {0}
AddsLine scheduled line old new (Err (Why why)) = IsRefusedFor why scheduled line old

-- how a line's fault stands among those of the whole
abbrev pub fault_at : ℕ → LineFault → ScriptFault
fault_at line NoMemory = NoMemoryAt
fault_at line (Why why) = Refused line why

-- what a draft has
abbrev pub given_of : Inside → Given
given_of d = record { asked = d.asked.items; events = d.events }

-- Its counts are those of each client's requests, and its weight that of all reads.
pub record IsDraft (d : Inside) : Type 0 where
  pub counts : length d.counts ≡ 16
  pub counted : (client : ℕ) → IsClient client →
      slice_index d.counts (client - 1) ≡ length (requests_by client d.asked.items)
  pub few : (client : ℕ) → IsClient client → length (requests_by client d.asked.items) ≤ 10000
  pub clients : AllByRecursion (λ a. IsClient a.client) d.asked.items
  pub weight : d.weight ≡ weight_of d.asked.items
  pub light : d.weight ≤ 2 ^ 30
