-- Near a path of a tree stand its nodes.
use Rattle.std.proofs.Common.{◌≡◌, ◌⊎◌, inl, inr, ℕ, zero, suc, List, [], ◌∷◌, ◌++◌, Option, refl, sym, subst}
use Rattle.std.specs.List.{Contains}
use Rattle.std.proofs.lemmas.List.Elements.{Contains-append_left, Contains-append_right}
use Rattle.sea_base.specs.Space.{Store}
use Rattle.sea_node.specs.Entries.{Entry}
use Rattle.sea_tree.specs.Tree.{Bounds, root_bounds, IsAddress, IsBelowNode, IsNodeOf}
use Rattle.sea_tree.specs.Breaks.{Child}
use Rattle.sea_tree.specs.Reads.{OnPath, BesidePath, IsNeighbour, IsNearPath}
use Rattle.sea_tree.proofs.Holding.{Contains-head, Contains-later}

at_top : (store : Store) (level at : ℕ) → IsBelowNode store level at at
at_top store zero at = refl
at_top store (suc level) at = inl refl

-- the child of an entry
child_of : (entries : List Entry) (upper : Option (List ℕ)) (before after : List Entry) (child : ℕ) (b : Bounds) (c : Child entries upper before after child b) → Contains entries c.entry
child_of entries upper before after child b c =
    subst (λ (es : List Entry). Contains es c.entry) (sym c.split) (Contains-append_right before (c.entry ∷ after) c.entry (Contains-head c.entry after))

on_path : (store : Store) (key : List ℕ) (level at : ℕ) (bounds : Bounds) (q : ℕ) → OnPath store key level at bounds q → IsBelowNode store level at q
on_path store key zero at bounds q on = on
on_path store key (suc level) at bounds q (inl same) = inl same
on_path store key (suc level) at bounds q (inr (entries, has, (before, after, child, b, c, leads, on))) =
    inr (entries, has.0, (c.entry, child_of entries bounds.upper before after child b c, (child, c.address, on_path store key level child b q on)))

-- the entry that leads to a neighbour
neighbour_of : (before after : List Entry) (entry : Entry) (q : ℕ) → IsNeighbour before after q → (e : Entry) × Contains (before ++ entry ∷ after) e × IsAddress e.1 q
neighbour_of before (next ∷ after) entry q address =
    (next, Contains-append_right before (entry ∷ next ∷ after) next (Contains-later entry (next ∷ after) next (Contains-head next after)), address)
neighbour_of before [] entry q (front, last, is, address) =
    (last, Contains-append_left before (entry ∷ []) last (subst (λ (es : List Entry). Contains es last) (sym is) (Contains-append_right front (last ∷ []) last (Contains-head last []))), address)

beside_path : (store : Store) (key : List ℕ) (level at : ℕ) (bounds : Bounds) (q : ℕ) → BesidePath store key level at bounds q → IsBelowNode store level at q
beside_path store key zero at bounds q beside = absurd beside
beside_path store key (suc level) at bounds q (entries, has, (before, after, child, b, c, leads, inl near)) =
    let one = neighbour_of before after c.entry q near in
    inr (entries, has.0, (one.0, subst (λ (es : List Entry). Contains es one.0) (sym c.split) one.1, (q, one.2, at_top store level q)))
beside_path store key (suc level) at bounds q (entries, has, (before, after, child, b, c, leads, inr beside)) =
    inr (entries, has.0, (c.entry, child_of entries bounds.upper before after child b c, (child, c.address, beside_path store key level child b q beside)))

pub near_path : (store : Store) (key : List ℕ) (root q : ℕ) → IsNearPath store key root q → (q ≡ root) ⊎ IsNodeOf store root q
near_path store key root q (inl (inl same)) = inl same
near_path store key root q (inl (inr (level, has, on))) = inr (level, (has.0, has.1.0), on_path store key level root root_bounds q on)
near_path store key root q (inr (inl same)) = inl same
near_path store key root q (inr (inr (level, has, beside))) = inr (level, (has.0, has.1.0), beside_path store key level root root_bounds q beside)
