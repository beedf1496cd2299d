-- A run laid over pairs in the order of keys.
use Rattle.std.specs.Prelude.{ℕ, ◌<◌, ◌≤◌, ◌^◌, not, List, [], ◌∷◌, take, drop, length, Option}
use Rattle.std.specs.Prelude.{Some, None}
use Rattle.std.specs.List.{AllByRecursion}
use Rattle.std.specs.Ordering.{nat_cmp, eq_by_cmp}
use Rattle.std.specs.FinMap.Entries.{put, where_key}
use Rattle.sea_base.specs.declared.place.Slot.{Slot}
use Rattle.sea_ptree.specs.Node.{Entry, Fits}
use Rattle.sea_ptree.specs.Run.{Update}

-- pairs with a slot for a key, or without the key
abbrev pub pairs_updated : ℕ → Option Slot → List Entry → List Entry
pairs_updated key (Some slot) pairs = put nat_cmp key slot pairs
pairs_updated key None pairs = where_key nat_cmp (λ other. not (eq_by_cmp nat_cmp key other)) pairs

abbrev pub pairs_laid_over : List Update → List Entry → List Entry
pairs_laid_over [] pairs = pairs
pairs_laid_over (update ∷ run) pairs = pairs_laid_over run (pairs_updated update.0 update.1 pairs)

-- the numbers of an update fit their fields
abbrev pub SlotFits : ℕ → Option Slot → Type 0
SlotFits key (Some slot) = Fits (key, slot)
SlotFits key None = key < 2 ^ 64

abbrev pub UpdateFits : Update → Type 0
UpdateFits update = SlotFits update.0 update.1

abbrev pub RunFits : List Update → Type 0
RunFits run = AllByRecursion UpdateFits run

-- the first pair, if there is one, has no key below this one
abbrev pub StartsFrom : ℕ → List Entry → Type 0
StartsFrom key [] = Unit {0}
StartsFrom key (entry ∷ after) = key ≤ entry.0

-- pairs in two parts: those whose keys are below a key, and the others
pub record IsPlaceOf (key : ℕ) (pairs : List Entry) (count : ℕ) : Type 0 where
  pub within : count ≤ length pairs
  pub below : AllByRecursion (λ e. e.0 < key) (take count pairs)
  pub next : StartsFrom key (drop count pairs)
