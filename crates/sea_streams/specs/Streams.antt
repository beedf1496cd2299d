-- What reading an input and putting out a text leave.
use Rattle.std.specs.Prelude.{◌≡◌, ◌⊎◌, ℕ, ◌<◌, ◌≤◌, Bool, List, [], ◌++◌, length, Option, Some, None}
use Rattle.std.specs.Prelude.{Result, Ok, Err, IfSome}
use Rattle.std.specs.Option.{option_map}
use Rattle.sea_device.specs.Device.{FaultsRose}
use Rattle.sea_history.specs.declared.history.Entry.{Entry}
use Rattle.sea_script.specs.declared.script.Script.{Script}
use Rattle.sea_script.specs.declared.script.ScriptFault.{ScriptFault}
use Rattle.sea_script.specs.declared.script.ScriptFault.TheVariants as scripts
use Rattle.sea_script.specs.Render.{history_text}
use Rattle.sea_script.specs.Script.{IsScript, IsRefusal}
use Rattle.sea_streams.specs.declared.fault.ReadFault.{ReadFault}
use Rattle.sea_streams.specs.declared.fault.ReadFault.TheVariants.{NoMemory, Source, Script as NoScript}
use Rattle.sea_streams.specs.declared.fault.PrintFault.{PrintFault}
use Rattle.sea_streams.specs.declared.fault.PrintFault.TheVariants as prints

-- ---- reading

-- these bytes were taken from what was left
abbrev pub Leaves : List ℕ → Option (List ℕ) → Option (List ℕ) → Type 0
Leaves bytes None None = Unit {0}
Leaves bytes None (Some left) = ⊥
Leaves bytes (Some input) None = ⊥
Leaves bytes (Some input) (Some left) = input ≡ bytes ++ left

-- These bytes are the whole input, or its first 67,108,865 where it has so many.
pub record IsReadOut (bytes : List ℕ) (old new : Option (List ℕ)) : Type 0 where
  pub taken : Leaves bytes old new
  pub short : length bytes ≤ 67108865
  pub whole : length bytes < 67108865 → IfSome new (λ left. left ≡ [])

-- an input was not read to its end: memory ran out, or the source counted a fault
abbrev pub IsSourceFault : ℕ → ℕ → ReadFault → Type 0
IsSourceFault before now NoMemory = Unit {0}
IsSourceFault before now Source = FaultsRose before now
IsSourceFault before now (NoScript line why) = ⊥

-- why an input that was read is no script
abbrev pub read_fault : ScriptFault → ReadFault
read_fault scripts.NoMemory = NoMemory
read_fault (scripts.Refused line why) = NoScript line why

-- the script of an input, which was read to its end
abbrev pub IsScriptOf : Bool → Option (List ℕ) → Option (List ℕ) → Script → Type 0
IsScriptOf scheduled input unread script =
    IfSome input (λ bytes. IsScript scheduled bytes script × (unread ≡ Some []))

-- Why an input gave no script: memory ran out, the source counted a fault, or the input is refused
-- at this line, for this reason.
abbrev pub IsNoScript : Bool → Option (List ℕ) → ℕ → ℕ → ReadFault → Type 0
IsNoScript scheduled input before now NoMemory = Unit {0}
IsNoScript scheduled input before now Source = FaultsRose before now
IsNoScript scheduled input before now (NoScript line why) =
    IfSome input (λ bytes. IsRefusal scheduled bytes (scripts.Refused line why))

-- the script was given, unless memory ran out or the source failed
abbrev pub IsOnly : Script → Result Script ReadFault → Type 0
IsOnly script (Ok read) = read ≡ script
IsOnly script (Err fault) = (fault ≡ NoMemory) ⊎ (fault ≡ Source)

-- ---- putting out

-- these bytes were taken behind those before
abbrev pub Grows : List ℕ → Option (List ℕ) → Option (List ℕ) → Type 0
Grows bytes old new = new ≡ option_map (λ taken. taken ++ bytes) old

-- a front of these bytes was taken
pub record TakesFront (bytes : List ℕ) (old new : Option (List ℕ)) : Type 0 where
  pub front : List ℕ
  pub back : List ℕ
  pub parts : bytes ≡ front ++ back
  pub taken : Grows front old new

-- of what stood in hand a front was taken, and this is left
pub record PutsOut (before after : List ℕ) (old new : Option (List ℕ)) : Type 0 where
  pub front : List ℕ
  pub parts : before ≡ front ++ after
  pub taken : Grows front old new

-- a text was not put out whole: memory ran out, or the sink counted a fault
abbrev pub IsSinkFault : ℕ → ℕ → PrintFault → Type 0
IsSinkFault before now prints.NoMemory = Unit {0}
IsSinkFault before now prints.Sink = FaultsRose before now

-- the text of a run: the lines of its history, and a last one
abbrev pub run_text : List Entry → ℕ → List ℕ → List ℕ
run_text entries sent_back last = history_text entries sent_back ++ last
