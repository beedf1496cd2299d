-- Reading one node in its place.
use Rattle.std.specs.Prelude.{◌≡◌, ℕ, List, ◌∷◌, ◌++◌, length, None}
use Rattle.sea_base.specs.Space.{Seen, IsKnown}
use Rattle.sea_node.specs.Entries.{Entry}
use Rattle.sea_tree.specs.declared.fault.TreeFault.{TreeFault}
use Rattle.sea_tree.specs.Faults.{Blames}
use Rattle.sea_tree.specs.declared.place.Bounds.{Bounds as HeldBounds}
use Rattle.sea_tree.specs.Tree.{Bounds, root_bounds}
use Rattle.sea_tree.specs.Breaks.{IsBroken}

-- the bounds that code holds
abbrev pub meant : HeldBounds → Bounds
meant held = record { least = held.least; lower = held.lower; upper = held.upper }

-- the entry at an index, with those before it and those after it
pub record Splits (entries : List Entry) (index : ℕ) (before : List Entry) (entry : Entry)
    (after : List Entry) : Type 0 where
  pub split : entries ≡ before ++ entry ∷ after
  pub count : length before ≡ index

-- why a node was not read in its place
abbrev pub IsPlaceFault : ℕ → ℕ → Bounds → Seen → TreeFault → Type 0
IsPlaceFault level at bounds new =
    Blames (λ broken. (broken ≡ at) × IsKnown new at × IsBroken new.view level at bounds)

-- why a root was not
abbrev pub IsRootFault : ℕ → Seen → TreeFault → Type 0
IsRootFault root new =
    Blames
    (λ broken. (broken ≡ root) × IsKnown new root × (new.view root ≡ None → ⊥)
    × ((level : ℕ) → IsBroken new.view level root root_bounds))
