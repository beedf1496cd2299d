-- What a script is, what it asks for, and why an input is none.
use Rattle.std.specs.Prelude.{◌≡◌, ◌⊎◌, ℕ, ◌+◌, ◌-◌, ◌*◌, ◌^◌, ◌<◌, ◌≤◌, Bool, true, false, List, [], ◌∷◌, ◌++◌, length, take, map, filter, max, nat_eq, sum_by, Option, Some, None, slice_get, unwrap_or, codes, ◌==◌}
use Rattle.std.specs.List.{slice_split, range_with_len, AllByRecursion}
use Rattle.std.specs.Str.{bytes_eq}
use Rattle.std.specs.Fmt.{decimal}
use Rattle.sea_object.specs.declared.op.Op.{Op}
use Rattle.sea_object.specs.declared.op.Op.TheVariants.{Read, GetAttr, GetAttrs, OmapGet, OmapList, List as ListNames}
use Rattle.sea_object.specs.declared.request.RequestFault.{RequestFault}
use Rattle.sea_object.specs.declared.request.RequestFault.TheVariants as fault
use Rattle.sea_object.specs.Request.{IsRequest}
use Rattle.sea_object.specs.Refusal.{Refuses}
use Rattle.sea_history.specs.Plan.{Requests}
use Rattle.sea_script.specs.declared.asked.Asked.{Asked}
use Rattle.sea_script.specs.declared.event.Event.{Event}
use Rattle.sea_script.specs.declared.event.Event.TheVariants.{Client, Sync, Trim, Pick, Move, Release}
use Rattle.sea_script.specs.declared.script.Script.{Script}
use Rattle.sea_script.specs.declared.script.ScriptFault.{ScriptFault}
use Rattle.sea_script.specs.declared.script.ScriptFault.TheVariants.{NoMemory, Refused}
use Rattle.sea_script.specs.declared.script.ScriptWhy.{ScriptWhy}
use Rattle.sea_script.specs.declared.script.ScriptWhy.TheVariants.{TooLong, BadText, ScheduleInRun, BadEvent, BadClient, BadOp, BadName, BadNumber, BadHex, TooManyOps, BadRange, BadValue, TooManyBlocks, TooManyKeys, TooManyRequests, TooMuchRead}
use Rattle.sea_script.specs.Operation.{Spells, IsFirstFault}

-- ---- lines and words

-- the lines of an input, each without the byte 10 behind it
abbrev pub lines : List ℕ → List (List ℕ)
lines input = slice_split (λ b. b == 10) input

-- an empty line, or a comment
abbrev pub IsBlank : List ℕ → Type 0
IsBlank [] = Unit {0}
IsBlank (b ∷ line) = b ≡ 35

-- the words of a line, with one space between two
abbrev pub words : List ℕ → List (List ℕ)
words line = slice_split (λ b. b == 32) line

-- the space, or a byte that can be printed
abbrev pub IsPrinted : ℕ → Type 0
IsPrinted b = (32 ≤ b) × (b ≤ 126)

-- no other bytes, and no empty word
abbrev pub IsText : List ℕ → Type 0
IsText line = AllByRecursion IsPrinted line × AllByRecursion (λ word. 1 ≤ length word) (words line)

-- a line that means something
abbrev pub IsFilled : List ℕ → Type 0
IsFilled line = (IsBlank line → ⊥) × IsText line

-- the word between two operations
abbrev pub is_mark : List ℕ → Bool
is_mark word = bytes_eq word (codes ";")

-- the parts of words between these
abbrev pub parts : List (List ℕ) → List (List (List ℕ))
parts words = slice_split is_mark words

-- what holds of two lists one by one
abbrev pub OneByOne : {A B : Type 0} → (A → B → Type 0) → List A → List B → Type 0
OneByOne Holds [] [] = Unit {0}
OneByOne Holds (a ∷ as_) (b ∷ bs) = Holds a b × OneByOne Holds as_ bs
OneByOne Holds _ _ = ⊥

-- ---- requests

abbrev pub IsClient : ℕ → Type 0
IsClient client = (1 ≤ client) × (client ≤ 16)

-- of the words of a line the first is a client, and these are the others
abbrev pub Names : List (List ℕ) → ℕ → List (List ℕ) → Type 0
Names said client others = IsClient client × (said ≡ decimal client ∷ others)

-- the words are a client, and operations with the word `;` between two
abbrev pub SpellsOps : List (List ℕ) → ℕ → List Op → Type 0
SpellsOps said client ops =
    (others : List (List ℕ)) × Names said client others × OneByOne Spells (parts others) ops

-- the words of a line that asks for a client's request
abbrev pub Asks : List (List ℕ) → Asked → Type 0
Asks said asked = SpellsOps said asked.client asked.request × IsRequest asked.request

-- the bytes that an operation's read may take
abbrev pub read_weight : Op → ℕ
read_weight (Read name offset count) = count
read_weight (GetAttr name key) = 1024
read_weight (OmapGet name key) = 1024
read_weight (GetAttrs name) = 73728
read_weight (OmapList name limit after) = 1152 * limit
read_weight (ListNames limit after) = 64 * limit
read_weight _ = 0

abbrev pub reads_weight : List Op → ℕ
reads_weight ops = sum_by read_weight ops

-- ---- events

abbrev pub event_text : Event → List ℕ
event_text (Client client) = decimal client
event_text Sync = codes "sync"
event_text Trim = codes "trim"
event_text Pick = codes "pick"
event_text Move = codes "move"
event_text Release = codes "release"

abbrev pub IsEvent : Event → Type 0
IsEvent (Client client) = IsClient client
IsEvent _ = Unit {0}

-- a word that stands for an event
abbrev pub StandsFor : List ℕ → Event → Type 0
StandsFor word event = IsEvent event × (word ≡ event_text event)

-- some word stands for no event
abbrev pub HasNoEvent : List (List ℕ) → Type 0
HasNoEvent [] = ⊥
HasNoEvent (word ∷ words) = ((event : Event) → StandsFor word event → ⊥) ⊎ HasNoEvent words

-- ---- what lines give

-- what the lines so far give: requests, and events once `schedule` has come
pub record Given : Type 0 where
  pub asked : List Asked
  pub events : Option (List Event)

abbrev pub nothing : Given
nothing = record { asked = []; events = None }

-- the requests of a client, in order
abbrev pub requests_by : ℕ → List Asked → List (List Op)
requests_by client asked = map (λ a. a.request) (filter (λ a. nat_eq client a.client) asked)

-- how many bytes may be read
abbrev pub weight_of : List Asked → ℕ
weight_of asked = sum_by (λ a. reads_weight a.request) asked

-- the client has fewer than 10,000 requests
abbrev pub HasTurn : Given → Asked → Type 0
HasTurn given asked = length (requests_by asked.client given.asked) < 10000

-- the reads weigh 2^30 bytes at most, with those of the request
abbrev pub HasWeight : Given → Asked → Type 0
HasWeight given asked = weight_of given.asked + reads_weight asked.request ≤ 2 ^ 30

-- a line that is words, before `schedule`
abbrev pub IsBefore : Given → List ℕ → Type 0
IsBefore given line = IsFilled line × (given.events ≡ None)

-- a line before `schedule` that isn't this word
abbrev pub IsForRequest : Given → List ℕ → Type 0
IsForRequest given line = IsBefore given line × (line ≡ codes "schedule" → ⊥)

abbrev pub GivesNothing : List ℕ → Given → Given → Type 0
GivesNothing line given new = IsBlank line × (new ≡ given)

abbrev pub GivesRequest : List ℕ → Given → Given → Type 0
GivesRequest line given new =
    (asked : Asked) × IsForRequest given line × Asks (words line) asked × HasTurn given asked
    × HasWeight given asked × (new ≡ record given { asked = given.asked ++ asked ∷ [] })

abbrev pub GivesSchedule : Bool → List ℕ → Given → Given → Type 0
GivesSchedule scheduled line given new =
    IsBefore given line × (line ≡ codes "schedule") × (scheduled ≡ true)
    × (new ≡ record given { events = Some [] })

abbrev pub GivesEvents : List ℕ → Given → Given → Type 0
GivesEvents line given new =
    (old : List Event) × (events : List Event) × IsFilled line × (given.events ≡ Some old)
    × OneByOne StandsFor (words line) events
    × (new ≡ record given { events = Some (old ++ events) })

-- what a line adds to what those before it give
abbrev pub Gives : Bool → List ℕ → Given → Given → Type 0
Gives scheduled line given new =
    GivesNothing line given new
    ⊎ (GivesRequest line given new
    ⊎ (GivesSchedule scheduled line given new ⊎ GivesEvents line given new))

-- what lines give, one after the other
abbrev pub AllGive : Bool → List (List ℕ) → Given → Given → Type 0
AllGive scheduled [] given last = last ≡ given
AllGive scheduled (line ∷ others) given last =
    (next : Given) × Gives scheduled line given next × AllGive scheduled others next last

-- ---- scripts

-- the greatest client that is named, or 1
abbrev pub greatest_client : List Asked → ℕ
greatest_client [] = 1
greatest_client (a ∷ asked) = max a.client (greatest_client asked)

-- the requests of each client up to the greatest
abbrev pub plan_of : List Asked → Requests
plan_of asked = map (λ client. requests_by client asked) (range_with_len 1 (greatest_client asked))

-- The input is a script that asks for this. A schedule may stand in it where one is wanted.
pub record IsScript (scheduled : Bool) (input : List ℕ) (script : Script) : Type 0 where
  pub short : length input ≤ 67108864
  pub given : Given
  pub give : AllGive scheduled (lines input) nothing given
  pub plan : script.plan ≡ plan_of given.asked
  pub events : script.events ≡ unwrap_or given.events []

-- ---- why an input is no script

-- a client is named, and what stands behind it doesn't spell operations
abbrev pub HasOpFault : List (List ℕ) → ScriptWhy → Type 0
HasOpFault said why =
    (client : ℕ) × (others : List (List ℕ)) × Names said client others
    × IsFirstFault (parts others) why

-- operations are spelled that are no request
abbrev pub HasRequestFault : List (List ℕ) → RequestFault → Type 0
HasRequestFault said why =
    (client : ℕ) × (ops : List Op) × SpellsOps said client ops × Refuses ops why

-- why the words of a line ask for no request, in the order of these reasons
abbrev pub IsNoRequest : ScriptWhy → List (List ℕ) → Given → Type 0
IsNoRequest BadClient said given = (client : ℕ) (others : List (List ℕ)) → Names said client others
    → ⊥
IsNoRequest BadOp said given = HasOpFault said BadOp
IsNoRequest BadName said given = HasOpFault said BadName
IsNoRequest BadNumber said given = HasOpFault said BadNumber
IsNoRequest BadHex said given = HasOpFault said BadHex
IsNoRequest TooManyOps said given = HasRequestFault said fault.TooManyOps
IsNoRequest BadRange said given = (op : ℕ) × HasRequestFault said (fault.BadRange op)
IsNoRequest BadValue said given = (op : ℕ) × HasRequestFault said (fault.BadValue op)
IsNoRequest TooManyBlocks said given = HasRequestFault said fault.TooManyBlocks
IsNoRequest TooManyKeys said given = HasRequestFault said fault.TooManyKeys
IsNoRequest TooManyRequests said given = (asked : Asked) × Asks said asked
    × (HasTurn given asked → ⊥)
IsNoRequest TooMuchRead said given =
    (asked : Asked) × Asks said asked × HasTurn given asked × (HasWeight given asked → ⊥)
IsNoRequest _ said given = ⊥

-- Why a line that stands behind lines that gave this is refused: the first of the reasons, in this order.
abbrev pub IsRefusedFor : ScriptWhy → Bool → List ℕ → Given → Type 0
IsRefusedFor BadText scheduled line given = (IsBlank line → ⊥) × (IsText line → ⊥)
IsRefusedFor ScheduleInRun scheduled line given =
    IsBefore given line × (line ≡ codes "schedule") × (scheduled ≡ false)
IsRefusedFor BadEvent scheduled line given =
    (old : List Event) × IsFilled line × (given.events ≡ Some old) × HasNoEvent (words line)
IsRefusedFor why scheduled line given = IsForRequest given line × IsNoRequest why (words line) given

-- The line of this number, from 1 on, is the first that is refused: those before it give something.
pub record IsFirstRefused (scheduled : Bool) (input : List ℕ) (number : ℕ) (why : ScriptWhy) : Type 0 where
  pub counted : 1 ≤ number
  pub before : Given
  pub give : AllGive scheduled (take (number - 1) (lines input)) nothing before
  pub line : List ℕ
  pub here : slice_get (lines input) (number - 1) ≡ Some line
  pub refused : IsRefusedFor why scheduled line before

-- Why an input is no script: it is too long, which stands for line 0, or a line is refused. Want of memory may
-- come at any input.
abbrev pub IsRefusal : Bool → List ℕ → ScriptFault → Type 0
IsRefusal scheduled input NoMemory = Unit {0}
IsRefusal scheduled input (Refused number why) =
    ((why ≡ TooLong) × (number ≡ 0) × (67108864 < length input))
    ⊎ ((length input ≤ 67108864) × IsFirstRefused scheduled input number why)
