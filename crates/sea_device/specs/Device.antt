-- What the calls of a device do to its bytes, and to what a crash may leave.
use Rattle.std.specs.Prelude.{◌≡◌, ◌⊎◌, ◌↔◌, Bool, ℕ, ◌+◌, ◌*◌, ◌%◌, ◌<◌, ◌≤◌, List, ◌++◌, length, take, drop, slice_index, Option, Some, None, Result, OnErr}
pub use Rattle.sea_base.specs.Faults.{FaultsRose}

-- the bytes of so many blocks
pub record IsImage (blocks : ℕ) (bytes : List ℕ) : Type 0 where
  pub size : length bytes ≡ 4096 * blocks
  pub fits : (i : ℕ) → slice_index bytes i < 256

-- a number of bytes that makes whole blocks, one or more
abbrev pub IsWholeBlocks : ℕ → Type 0
IsWholeBlocks n = (0 < n) × (n % 4096 ≡ 0)

-- these bytes laid over the old ones from an offset on
abbrev pub overwritten : ℕ → List ℕ → List ℕ → List ℕ
overwritten at bytes old = take at old ++ bytes ++ drop (at + length bytes) old

-- the old bytes, with any bytes in a range
pub record Torn (at count : ℕ) (old new : List ℕ) : Type 0 where
  pub size : length new ≡ length old
  pub before : take at new ≡ take at old
  pub after : drop (at + count) new ≡ drop (at + count) old
  pub fits : (i : ℕ) → slice_index new i < 256

-- told bytes stay told, and change in a range alone
abbrev pub ChangesWithin : ℕ → ℕ → Option (List ℕ) → Option (List ℕ) → Type 0
ChangesWithin at count None None = Unit {0}
ChangesWithin at count None (Some new) = ⊥
ChangesWithin at count (Some old) None = ⊥
ChangesWithin at count (Some old) (Some new) = Torn at count old new

-- what a crash may leave is what it might have left
abbrev pub IsSame : (List ℕ → Type 0) → (List ℕ → Type 0) → Type 0
IsSame old new = (c : List ℕ) → old c ↔ new c

-- each image that a crash may leave now comes by a step from one that it might have left
abbrev pub Follows : (List ℕ → List ℕ → Type 0) → (List ℕ → Type 0) → (List ℕ → Type 0) → Type 0
Follows step old new = (c : List ℕ) → new c → (d : List ℕ) × old d × step d c

-- a crash may leave now whatever comes by a step from what it might have left
abbrev pub Reaches : (List ℕ → List ℕ → Type 0) → (List ℕ → Type 0) → (List ℕ → Type 0) → Type 0
Reaches step old new = (c d : List ℕ) → old d → step d c → new c

-- Time goes on: a crash since t may have left what it might have left before, or what it may leave now.
pub record Elapses (before now : ℕ) (past since : ℕ → List ℕ → Type 0)
    (may_leave : List ℕ → Type 0) : Type 0 where
  pub later : before ≤ now
  pub nothing_else : (t : ℕ) (c : List ℕ) → t ≤ before → since t c → past t c ⊎ may_leave c
  pub keeps : (t : ℕ) (c : List ℕ) → t ≤ before → past t c → since t c

-- a call fails only where the count of faults rose, and the count never falls
pub record HasCause {T E : Type 0} (before now : ℕ) (result : Result T E) : Type 0 where
  pub later : before ≤ now
  pub failed : OnErr result (FaultsRose before now)
