-- What reading an input and putting out a text leave.
use Rattle.std.specs.Prelude.{◌≡◌, ◌⊎◌, ℕ, ◌<◌, ◌≤◌, List, [], ◌++◌, length, Option, Some, None, Result, IfErr, IfSome}
use Rattle.std.specs.Option.{option_map}
use Rattle.sea_device.specs.Device.{FaultsRose}
use Rattle.sea_top.specs.declared.refusal.Refusal.{Refusal}
use Rattle.sea_top.specs.declared.refusal.Refusal.TheVariants.{NoMemory}

-- these bytes were taken from what was left
abbrev pub Leaves : List ℕ → Option (List ℕ) → Option (List ℕ) → Type 0
Leaves bytes None None = Unit {0}
Leaves bytes None (Some left) = ⊥
Leaves bytes (Some input) None = ⊥
Leaves bytes (Some input) (Some left) = input ≡ bytes ++ left

-- These bytes are the whole input, or its first 67,108,865 where it has so many.
pub record IsReadOut (bytes : List ℕ) (old new : Option (List ℕ)) : Type 0 where
  pub taken : Leaves bytes old new
  pub short : length bytes ≤ 67108865
  pub whole : length bytes < 67108865 → IfSome new (λ left. left ≡ [])

-- A call is refused for want of memory, or for this reason where the count of faults rose; it never falls.
pub record Fails {T : Type 0} (before now : ℕ) (reason : Refusal) (result : Result T Refusal) : Type 0 where
  pub later : before ≤ now
  pub caused : IfErr result (λ refusal. (refusal ≡ NoMemory) ⊎ ((refusal ≡ reason) × FaultsRose before now))

-- a front of these bytes was taken
pub record TakesFront (bytes : List ℕ) (old new : Option (List ℕ)) : Type 0 where
  pub front : List ℕ
  pub back : List ℕ
  pub parts : bytes ≡ front ++ back
  pub taken : new ≡ option_map (λ taken. taken ++ front) old
