-- What is asked of a node.
use Rattle.sea_tree.specs.Tree.{Bounds}
use Rattle.sea_formed.specs.declared.place.Bounds.{Bounds as HeldBounds}

-- the bounds that code holds
abbrev pub meant : HeldBounds → Bounds
meant held = record { least = held.least; lower = held.lower; upper = held.upper }
