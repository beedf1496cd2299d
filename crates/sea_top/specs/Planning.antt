-- Reading a plan.
use Rattle.std.specs.Prelude.{◌≡◌, ℕ, ◌≤◌, List, [], length, Option, Some, IfSome}
use Rattle.sea_device.specs.Device.{FaultsRose}
use Rattle.sea_plain_script.specs.declared.plan.Asked.{Asked}
use Rattle.sea_top.specs.declared.refusal.Refusal.{Refusal}
use Rattle.sea_top.specs.declared.refusal.Refusal.TheVariants as refusals
use Rattle.sea_plain_script.specs.declared.script.ScriptFault.{ScriptFault}
use Rattle.sea_plain_script.specs.declared.script.ScriptFault.TheVariants.{NoMemory, Refused}
use Rattle.sea_top.specs.Causes.{IsAnyScript}
use Rattle.sea_plain_script.specs.Script.{IsScript, IsRefusedAt}
use Rattle.sea_top.specs.Serving.{AsksFirst}

abbrev pub refused_script : ScriptFault → Refusal
refused_script NoMemory = refusals.NoMemory
refused_script (Refused line why) = refusals.Script line why

-- why no plan was read
abbrev pub IsNoPlan : Option (List ℕ) → ℕ → ℕ → Refusal → Type 0
IsNoPlan input before now refusals.Usage = ⊥
IsNoPlan input before now (refusals.Script line why) =
    IfSome input (λ bytes. IsRefusedAt bytes line × (IsAnyScript bytes → ⊥))
IsNoPlan input before now refusals.DeviceFault = ⊥
IsNoPlan input before now refusals.NoMemory = Unit {0}
IsNoPlan input before now refusals.ReadFault = FaultsRose before now

-- a plan of client 1, that of the whole input
pub record IsPlanOf (input unread : Option (List ℕ)) (plan : List Asked) : Type 0 where
  pub first : AsksFirst plan
  pub few : length plan ≤ 10000
  pub script : IfSome input (λ bytes. IsScript bytes plan × (unread ≡ Some []))
