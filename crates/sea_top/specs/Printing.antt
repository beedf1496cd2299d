-- What printing leaves of a sink.
use Rattle.std.specs.Prelude.{◌≡◌, ◌⊎◌, ◌≤◌, ◌++◌, ℕ, List, Option, Some}
use Rattle.sea_device.specs.Device.{FaultsRose}
use Rattle.sea_top.specs.declared.refusal.Refusal.{Refusal}
use Rattle.sea_top.specs.Headline.{Prints}
use Rattle.sea_top.specs.Refusal.{status_at}

-- The text of an ending was put out, as far as memory and the sink went; the sink fails only where its count of
-- faults rose, and that never falls.
pub record Says {O : Type 0} (held : O → Option (List ℕ)) (count : O → ℕ) (old new : O) (text : Option Refusal → List ℕ) (ending : Option Refusal) (status : ℕ) : Type 0 where
  pub prints : (before : List ℕ) → held old ≡ Some before → (printed : List ℕ) × (held new ≡ Some (before ++ printed)) × Prints text ending status printed
  pub known : (status ≡ status_at ending) ⊎ ((status ≡ 5) ⊎ (status ≡ 7))
  pub later : count old ≤ count new
  pub cause : status ≡ 7 → FaultsRose (count old) (count new)
