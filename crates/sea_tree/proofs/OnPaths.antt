-- Which addresses are read on the path to a key.
use Rattle.std.proofs.Common.{ℕ, zero, suc, List, [], ◌∷◌, ◌++◌, sym, subst, ◌∙◌, inl, inr}
use Rattle.std.proofs.lemmas.Bool.{cases_eq}
use Rattle.sea_base.specs.Space.{Store, Seen, IsKnown, IsSound, Agrees, laid, OnlyRead, ReadsAtMost}
use Rattle.sea_base.proofs.Spaces.{agrees_before}
use Rattle.sea_tree.specs.declared.path.Step.{Step}
use Rattle.sea_tree.specs.Tree.{Bounds, root_bounds}
use Rattle.sea_tree.specs.Breaks.{Child}
use Rattle.sea_tree.specs.Reads.{OnPath, IsOnPath, ReadsPath}
use Rattle.sea_tree.specs.Path.{Descends}
use Rattle.sea_tree.proofs.Paths.{laid_same, Descends-laid, Descends-push, Descends-same, AreKnown-push, first_node}
use Rattle.sea_tree.proofs.PathSteps.{IsStep}

on_path_below : (s : Store) (level at : ℕ) (bounds : Bounds) (steps : List Step) (key : List ℕ) (n q : ℕ) (b : Bounds) → Descends s level at bounds steps key n q b → OnPath s key level at bounds q
on_path_below s zero at bounds [] key n q b d = sym d.1
on_path_below s (suc level) at bounds [] key n q b d = inl (sym d.1)
on_path_below s zero at bounds (step ∷ steps) key n q b d = absurd d
on_path_below s (suc level) at bounds (step ∷ steps) key n q b d =
    let child : Child step.node.entries bounds.upper d.2.before d.2.after d.0 d.1 = record { entry = d.2.entry; split = d.2.split.split; address = d.2.address; bounds_are = d.2.below_is } in
    inr (step.node.entries, d.2.node, (d.2.before, d.2.after, d.0, d.1, child, d.2.leads, on_path_below s level d.0 d.1 steps key n q b d.3))

-- ---- reads, one after the other

pub reads_root : (root : ℕ) (key : List ℕ) (old new : Seen) → ReadsAtMost root old new → ReadsPath root key old new
reads_root root key old new one at = elim (cases_eq at root) [
  | inl same ↦ inr (λ store agrees. inl same)
  | inr other ↦ inl (one.others at other)
]

pub reads_further : (root : ℕ) (key : List ℕ) (child : ℕ) (old mid new : Seen) → ReadsPath root key old mid → ReadsAtMost child mid new → ((store : Store) → Agrees store new → IsOnPath (laid old store) key root child) → ReadsPath root key old new
reads_further root key child old mid new before one here at = elim (cases_eq at child) [
  | inl same ↦ inr (λ store agrees. subst (λ (q : ℕ). IsOnPath (laid old store) key root q) (sym same) (here store agrees))
  | inr other ↦ elim (before at) [
    | inl was ↦ inl (one.others at other ∙ was)
    | inr on ↦ inr (λ store agrees. on store (agrees_before one.only agrees))
  ]
]

-- the child that a step leads to is on the path
module _ (old new : Seen) (root : ℕ) (key : List ℕ) (reads : OnlyRead old new) (sound : IsSound new) where
  pub step_on_path : (steps : List Step) (level at : ℕ) (bounds : Bounds) (step : Step) (child : ℕ) (below : Bounds) → IsStep new root key steps level at bounds step child below → (store : Store) → Agrees store new → IsOnPath (laid old store) key root child
  step_on_path steps level at bounds step child below here store agrees =
      let equal = laid_same old new store reads sound agrees in
      let laid_down = Descends-laid old new store root key steps (suc level) at bounds step.node.entries reads sound agrees here.0 in
      let top = first_node (laid old store) here.0.top root root_bounds steps key (suc level) at bounds step.node.entries laid_down.0 laid_down.1 in
      let pushed = Descends-push new.view here.0.top root root_bounds steps key level at bounds step child below here.0.descent here.1 in
      let steps_known = AreKnown-push new steps step here.0.steps_known (subst (IsKnown new) (sym here.1.here) here.0.known) in
      let down = Descends-same new new.view (laid old store) equal here.0.top root root_bounds (steps ++ step ∷ []) key level child below steps_known pushed in
      inr (here.0.top, (top.0, top.1), on_path_below (laid old store) here.0.top root root_bounds (steps ++ step ∷ []) key level child below down)
