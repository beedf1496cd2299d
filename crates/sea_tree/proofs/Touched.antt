-- Which addresses a change of one pair writes: those of the path and of its neighbours, and what was given.
use Rattle.std.proofs.Common.{◌≡◌, ◌⊎◌, ℕ, zero, suc, ◌<◌, ◌≤◌, List, [], ◌∷◌, ◌++◌, Bool, true, false, ◌==◌, ◌||◌, Option, refl, sym, ◌∙◌, ap, subst, inl, inr, arith}
use Rattle.std.specs.List.{Contains}
use Rattle.std.proofs.lemmas.Bool.{eqb-true, true≢false}
use Rattle.sea_base.specs.Space.{Store, Seen}
use Rattle.sea_node.specs.Entries.{Entry}
use Rattle.sea_tree.specs.declared.edit.Edit.{Edit}
use Rattle.sea_tree.specs.declared.path.Step.{Step}
use Rattle.sea_tree.specs.Tree.{Bounds, NodeAt, root_bounds, IsAddress, IsBelowNode, IsNodeOf}
use Rattle.sea_tree.specs.Breaks.{HasNode}
use Rattle.sea_tree.specs.Does.{Change, is_among}
use Rattle.sea_tree.specs.Reads.{IsChildOf}
use Rattle.sea_tree.specs.Changing.{RootRebalanced}
use Rattle.sea_tree.specs.Rebalanced.{Rebalanced, Neighbours}
use Rattle.sea_tree.specs.Path.{Descends}
use Rattle.sea_tree.proofs.Doing.{is_among-append}
use Rattle.sea_tree.proofs.Holding.{Contains-middle, Contains-later, Contains-head}

pub either_true : (a b : Bool) → (a || b) ≡ true → (a ≡ true) ⊎ (b ≡ true)
either_true true b e = inl refl
either_true false b e = inr e

pub among_cases : (change : Change) (changes : List Change) (q : ℕ) → is_among (change ∷ changes) q ≡ true → (q ≡ change.0) ⊎ (is_among changes q ≡ true)
among_cases change changes q e = elim (either_true (q == change.0) (is_among changes q) e) [ inl here ↦ inl (eqb-true q change.0 here) | inr later ↦ inr later ]

among_none : {A : Type 0} (q : ℕ) → is_among [] q ≡ true → A
among_none q e = absurd (true≢false (sym e))

pub among_one : {changes : List Change} {a : ℕ} {x : Option (List ℕ)} → changes ≡ (a, x) ∷ [] → (q : ℕ) → is_among changes q ≡ true → q ≡ a
among_one {changes} {a} {x} are q e = elim (among_cases (a, x) [] q (subst (λ (cs : List Change). is_among cs q ≡ true) are e)) [ inl same ↦ same | inr none ↦ among_none q none ]

among_two : {changes : List Change} {a b : ℕ} {x y : Option (List ℕ)} → changes ≡ (a, x) ∷ (b, y) ∷ [] → (q : ℕ) → is_among changes q ≡ true → (q ≡ a) ⊎ (q ≡ b)
among_two {changes} {a} {b} {x} {y} are q e = elim (among_cases (a, x) ((b, y) ∷ []) q (subst (λ (cs : List Change). is_among cs q ≡ true) are e)) [
  | inl same ↦ inl same
  | inr later ↦ inr (among_one {changes = (b, y) ∷ []} {a = b} {x = y} refl q later)
]

among_three : {changes : List Change} {a b c : ℕ} {x y z : Option (List ℕ)} → changes ≡ (a, x) ∷ (b, y) ∷ (c, z) ∷ [] → (q : ℕ) → is_among changes q ≡ true → (q ≡ a) ⊎ ((q ≡ b) ⊎ (q ≡ c))
among_three {changes} {a} {b} {c} {x} {y} {z} are q e = elim (among_cases (a, x) ((b, y) ∷ (c, z) ∷ []) q (subst (λ (cs : List Change). is_among cs q ≡ true) are e)) [
  | inl same ↦ inl same
  | inr later ↦ inr (among_two {changes = (b, y) ∷ (c, z) ∷ []} {a = b} {b = c} {x = y} {y = z} refl q later)
]

pub among_append : (later first : List Change) (q : ℕ) → is_among (later ++ first) q ≡ true → (is_among later q ≡ true) ⊎ (is_among first q ≡ true)
among_append later first q e = either_true (is_among later q) (is_among first q) (sym (is_among-append later first q) ∙ e)

pub among_later : (later first : List Change) (q : ℕ) → is_among later q ≡ true → is_among (later ++ first) q ≡ true
among_later later first q e = is_among-append later first q ∙ ap (λ (b : Bool). b || is_among first q) e

pub child_in : (entries before : List Entry) (entry : Entry) (after : List Entry) (q : ℕ) → entries ≡ before ++ entry ∷ after → IsAddress entry.1 q → IsChildOf entries q
child_in entries before entry after q split address = (entry, subst (λ (es : List Entry). Contains es entry) (sym split) (Contains-middle before entry after), address)

-- rebalancing a node writes children of its parent and what was given
module _ (level at : ℕ) (entries : List Entry) (parent : Step) (old new : Seen) (own : IsChildOf parent.node.entries at) (q : ℕ) where
  abbrev Own : Type 0
  Own = IsChildOf parent.node.entries q ⊎ ((old.next ≤ q) × (q < new.next))

  at_own : q ≡ at → Own
  at_own same = inl (subst (IsChildOf parent.node.entries) (sym same) own)

  beside_own : (pair : Neighbours level at entries parent old new) → (q ≡ pair.two_at) ⊎ (q ≡ pair.one_at) → Own
  beside_own pair (inl same) =
      inl (subst (IsChildOf parent.node.entries) (sym same)
      (pair.two, subst (λ (es : List Entry). Contains es pair.two) (sym pair.split) (in_back pair.before), pair.two_address))
    where
      in_back : (before : List Entry) → Contains (before ++ pair.one ∷ pair.two ∷ pair.after) pair.two
      in_back [] = Contains-later pair.one (pair.two ∷ pair.after) pair.two (Contains-head pair.two pair.after)
      in_back (e ∷ before) = Contains-later e (before ++ pair.one ∷ pair.two ∷ pair.after) pair.two (in_back before)
  beside_own pair (inr same) =
      inl (subst (IsChildOf parent.node.entries) (sym same) (child_in parent.node.entries pair.before pair.one (pair.two ∷ pair.after) pair.one_at pair.split pair.one_address))

  pub rebalanced_touches : (changes : List Change) (left : Option Edit) → Rebalanced level at entries parent old new changes left → is_among changes q ≡ true → Own
  rebalanced_touches changes left (inl f) e = at_own (among_one f.planned q e)
  rebalanced_touches changes left (inr (inl s)) e = elim (among_two s.planned q e) [
    | inl fresh ↦ inr (omega (arith, fresh), omega (arith, fresh, s.next))
    | inr same ↦ at_own same
  ]
  rebalanced_touches changes left (inr (inr (inl j))) e = beside_own j.pair (among_two j.planned q e)
  rebalanced_touches changes left (inr (inr (inr c))) e = beside_own c.pair (among_two c.planned q e)

-- rebalancing a root writes it, what was given, or its one child
pub root_touches : (level root : ℕ) (after : List Entry) (old new : Seen) (before changes : List Change) → RootRebalanced level root after old new before changes → (q : ℕ) → is_among changes q ≡ true
    → (q ≡ root) ⊎ (((old.next ≤ q) × (q < new.next)) ⊎ ((only : Entry) × (1 ≤ level) × (after ≡ only ∷ []) × IsAddress only.1 q))
root_touches level root after old new before changes (inl f) q e = inl (among_one f.planned q e)
root_touches level root after old new before changes (inr (inl s)) q e = elim (among_three s.planned q e) [
  | inl same ↦ inl same
  | inr (inl second) ↦ inr (inl (omega (arith, second), omega (arith, second, s.next)))
  | inr (inr first) ↦ inr (inl (omega (arith, first), omega (arith, first, s.next)))
]
root_touches level root after old new before changes (inr (inr (inl s))) q e = elim (among_two s.planned q e) [
  | inl child ↦ inr (inr (s.only, omega (arith, s.level_is), s.one, subst (IsAddress s.only.1) (sym child) s.address))
  | inr same ↦ inl same
]
root_touches level root after old new before changes (inr (inr (inr m))) q e = inl (among_one m.planned q e)

pub at_top : (store : Store) (level at : ℕ) → IsBelowNode store level at at
at_top store zero at = refl
at_top store (suc level) at = inl refl

-- a child of a node at the end of a path is a node of the tree
pub child_below : (s : Store) (level at : ℕ) (bounds : Bounds) (steps : List Step) (key : List ℕ) (n q : ℕ) (b : Bounds) (es : List Entry) (c : ℕ) → Descends s level at bounds steps key (suc n) q b → NodeAt s q (suc n) es → IsChildOf es c → IsBelowNode s level at c
child_below s zero at bounds [] key n q b es c d node child = absurd (omega (arith, d.0))
child_below s (suc level) at bounds [] key n q b es c d node child =
    let levels : level ≡ n = omega (arith, d.0) in
    let here : NodeAt s at (suc level) es = subst (λ (l : ℕ). NodeAt s at (suc l) es) (sym levels) (subst (λ (x : ℕ). NodeAt s x (suc n) es) (sym d.1) node) in
    inr (es, here, (child.0, child.1, (c, child.2, at_top s level c)))
child_below s zero at bounds (step ∷ steps) key n q b es c d node child = absurd d
child_below s (suc level) at bounds (step ∷ steps) key n q b es c d node child =
    let down = d.2 in
    let among : Contains step.node.entries down.entry = subst (λ (fs : List Entry). Contains fs down.entry) (sym down.split.split) (Contains-middle down.before down.entry down.after) in
    inr (step.node.entries, down.node.0, (down.entry, among, (d.0, down.address, child_below s level d.0 d.1 steps key n q b es c d.3 node child)))

pub child_of_tree : (s : Store) (level root : ℕ) (steps : List Step) (key : List ℕ) (n q : ℕ) (b : Bounds) (es : List Entry) (c : ℕ) → (entries : List Entry) × HasNode s level root root_bounds entries → Descends s level root root_bounds steps key (suc n) q b → NodeAt s q (suc n) es → IsChildOf es c → IsNodeOf s root c
child_of_tree s level root steps key n q b es c first d node child =
    (level, (first.0, first.1.0), child_below s level root root_bounds steps key n q b es c d node child)
