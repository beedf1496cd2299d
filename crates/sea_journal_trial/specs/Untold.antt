-- What holds of a device that doesn't tell its bytes.
use Rattle.std.specs.Prelude.{◌≡◌, ℕ, List, Option, Some, None}
use Rattle.std.proofs.Common.{subst}

abbrev IsUntold : Option (List ℕ) → Type 0
IsUntold None = Unit {0}
IsUntold (Some b) = ⊥

-- it tells none
pub none_told : (b : List ℕ) → None ≡ Some b → ⊥
none_told b is = subst IsUntold is tt
