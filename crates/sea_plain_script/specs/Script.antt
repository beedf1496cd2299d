-- How a script spells its requests, and what it refuses.
use Rattle.std.specs.Prelude.{◌≡◌, ◌⊎◌, ℕ, ◌-◌, ◌<◌, ◌≤◌, Bool, not, ◌&&◌, ◌==◌, nat_le, if◌then◌else◌, List, [], ◌∷◌, ◌++◌, length, take, slice_get, Some, codes}
use Rattle.std.specs.List.{flat_map, join_with_byte, slice_split, AllByRecursion}
use Rattle.std.specs.Fmt.{decimal}
use Rattle.hex.specs.Hex.{encode_lower}
use Rattle.sea_plain.specs.declared.op.Op.{Op}
use Rattle.sea_plain.specs.declared.op.Op.TheVariants.{Write, Read}
use Rattle.sea_plain.specs.Request.{IsRequest}
use Rattle.sea_plain_script.specs.declared.plan.Asked.{Asked}
use Rattle.sea_plain_script.specs.declared.script.ScriptFault.{ScriptFault}
use Rattle.sea_plain_script.specs.declared.script.ScriptFault.TheVariants.{NoMemory, Refused}
use Rattle.sea_plain_script.specs.declared.script.ScriptWhy.TheVariants.{NotBuilt}

-- a byte of a name that stands for itself: it can be printed, and is no space, `%` or `;`
abbrev pub stands_for_itself : ℕ → Bool
stands_for_itself b = nat_le 33 b && nat_le b 126 && not (b == 37) && not (b == 59)

-- a byte's two digits
unfoldable pub pair_text : ℕ → List ℕ
pair_text b = encode_lower (b ∷ [])

-- a byte of a name, which is `%` and its digits where it doesn't stand for itself
unfoldable pub byte_text : ℕ → List ℕ
byte_text b = if stands_for_itself b then b ∷ [] else 37 ∷ pair_text b

unfoldable pub name_text : List ℕ → List ℕ
name_text name = flat_map byte_text name

-- bytes are `x` and their digits
unfoldable pub data_text : List ℕ → List ℕ
data_text bytes = 120 ∷ encode_lower bytes

-- an operation is its word, and the words of its parts
abbrev pub op_words : Op → List (List ℕ)
op_words (Write name offset bytes) =
    codes "write" ∷ name_text name ∷ decimal offset ∷ data_text bytes ∷ []
op_words (Read name offset count) =
    codes "read" ∷ name_text name ∷ decimal offset ∷ decimal count ∷ []

-- operations have the word `;` between two
abbrev pub ops_words : List Op → List (List ℕ)
ops_words [] = []
ops_words (op ∷ []) = op_words op
ops_words (op ∷ next ∷ ops) = op_words op ++ codes ";" ∷ ops_words (next ∷ ops)

-- a client and its request
abbrev pub request_words : ℕ → List Op → List (List ℕ)
request_words client ops = decimal client ∷ ops_words ops

-- the same as a line, with a space between two words
unfoldable pub request_text : ℕ → List Op → List ℕ
request_text client ops = join_with_byte 32 (request_words client ops)

-- the lines of an input, each without the byte 10 behind it
abbrev pub lines : List ℕ → List (List ℕ)
lines input = slice_split (λ b. b == 10) input

-- numbers that are bytes
abbrev pub AreBytes : List ℕ → Type 0
AreBytes bytes = AllByRecursion (λ b. b < 256) bytes

-- the name and the data of an operation are bytes
abbrev pub HasBytes : Op → Type 0
HasBytes (Write name offset bytes) = AreBytes name × AreBytes bytes
HasBytes (Read name offset count) = AreBytes name

-- an empty line, or a comment
abbrev pub IsBlank : List ℕ → Type 0
IsBlank [] = Unit {0}
IsBlank (b ∷ line) = b ≡ 35

-- a line that asks for a request of client 1
pub record Asks (line : List ℕ) (asked : Asked) : Type 0 where
  pub client : asked.client ≡ 1
  pub request : IsRequest asked.request
  pub bytes : AllByRecursion HasBytes asked.request
  pub spelled : line ≡ request_text asked.client asked.request

-- the requests that lines ask for, in order
abbrev pub Ask : List (List ℕ) → List Asked → Type 0
Ask [] plan = plan ≡ []
Ask (line ∷ others) [] = IsBlank line × Ask others []
Ask (line ∷ others) (asked ∷ plan) = (IsBlank line × Ask others (asked ∷ plan)) ⊎ (Asks line asked × Ask others plan)

-- the input is a script with this plan
pub record IsScript (input : List ℕ) (plan : List Asked) : Type 0 where
  pub short : length input ≤ 67108864
  pub asked : Ask (lines input) plan
  pub few : length plan ≤ 10000

-- The line of this number, from 1 on, is the first of another form: the lines before it ask for a plan, and
-- it is neither blank nor asks for a request that the plan has room for.
pub record IsFirstOther (input : List ℕ) (number : ℕ) : Type 0 where
  pub counted : 1 ≤ number
  pub before : List Asked
  pub asked : Ask (take (number - 1) (lines input)) before
  pub few : length before ≤ 10000
  pub line : List ℕ
  pub here : slice_get (lines input) (number - 1) ≡ Some line
  pub not_blank : IsBlank line → ⊥
  pub asks_not : (asked : Asked) → Asks line asked → 10000 ≤ length before

-- Why an input is no script, as the number of a line; 0 stands for one that is too long.
abbrev pub IsRefusedAt : List ℕ → ℕ → Type 0
IsRefusedAt input number =
    ((number ≡ 0) × (67108864 < length input)) ⊎ ((length input ≤ 67108864) × IsFirstOther input number)

-- Want of memory may come at any input.
abbrev pub IsRefusal : List ℕ → ScriptFault → Type 0
IsRefusal input NoMemory = Unit {0}
IsRefusal input (Refused number NotBuilt) = IsRefusedAt input number
