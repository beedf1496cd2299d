-- A change carried up the path that a key leads to.
use Rattle.std.proofs.Common.{ℕ, zero, suc, List, [], ◌∷◌, ◌++◌, refl, sym, ap, subst, inr}
use Rattle.sea_base.specs.Space.{Store}
use Rattle.sea_node.specs.Entries.{Entry}
use Rattle.sea_tree.specs.declared.path.Step.{Step}
use Rattle.sea_tree.specs.Tree.{Bounds}
use Rattle.sea_tree.specs.Breaks.{HasNode}
use Rattle.sea_tree.specs.Path.{StepsDown, Descends}
use Rattle.sea_tree.specs.Subtrees.{Holds}
use Rattle.sea_tree.specs.Mending.{Aim, Replaced}
use Rattle.sea_tree.proofs.Mending.{IsDescent, descent_none, descent_held, descent_replaced}
use Rattle.sea_tree.proofs.MendSplit.{IsFree}

-- steps down are a descent
pub path_descent : (s : Store) (level at : ℕ) (bounds : Bounds) (steps : List Step) (key : List ℕ) (n q : ℕ) (b : Bounds) → Descends s level at bounds steps key n q b → IsDescent s level at bounds n q b
path_descent s level at bounds [] key n q b path =
    subst (λ (c : Bounds). IsDescent s level at bounds n q c) path.2 (subst (λ (x : ℕ). IsDescent s level at bounds n x bounds) path.1 (subst (λ (l : ℕ). IsDescent s level at bounds l at bounds) path.0 (descent_none s level at bounds)))
path_descent s zero at bounds (step ∷ steps) key n q b path = absurd path
path_descent s (suc level) at bounds (step ∷ steps) key n q b path =
    let d = path.2 in
    let rest : IsDescent s level path.0 path.1 n q b = path_descent s level path.0 path.1 steps key n q b path.3 in
    inr (d.before, d.entry, d.after, path.0, subst (HasNode s (suc level) at bounds) d.split.split d.node, d.address, subst (λ (c : Bounds). IsDescent s level path.0 c n q b) d.below_is rest)

-- The last step of a path, and the path to the node that it is taken from.
pub record LastStep (s : Store) (level at : ℕ) (bounds : Bounds) (steps : List Step) (step : Step) (key : List ℕ) (n q : ℕ) (b : Bounds) : Type 0 where
  pub from_bounds : Bounds
  pub path : Descends s level at bounds steps key (suc n) step.at.0 from_bounds
  pub down : StepsDown s n step.at.0 from_bounds step key q b

pub last_step : (s : Store) (level at : ℕ) (bounds : Bounds) (steps : List Step) (step : Step) (key : List ℕ) (n q : ℕ) (b : Bounds) → Descends s level at bounds (steps ++ (step ∷ [])) key n q b → LastStep s level at bounds steps step key n q b
last_step s zero at bounds [] step key n q b path = absurd path
last_step s (suc level) at bounds [] step key n q b path =
    let end = path.3 in
    let here : StepsDown s level step.at.0 bounds step key path.0 path.1 = subst (λ (x : ℕ). StepsDown s level x bounds step key path.0 path.1) (sym path.2.here) path.2 in
    record {
      from_bounds = bounds;
      path = (ap (λ (l : ℕ). suc l) end.0, sym path.2.here, refl);
      down = subst (λ (c : Bounds). StepsDown s n step.at.0 bounds step key q c) end.2 (subst (λ (x : ℕ). StepsDown s n step.at.0 bounds step key x path.1) end.1 (subst (λ (l : ℕ). StepsDown s l step.at.0 bounds step key path.0 path.1) end.0 here));
    }
last_step s zero at bounds (first ∷ steps) step key n q b path = absurd path
last_step s (suc level) at bounds (first ∷ steps) step key n q b path =
    let rest = last_step s level path.0 path.1 steps step key n q b path.3 in
    record { from_bounds = rest.from_bounds; path = (path.0, path.1, path.2, rest.path); down = rest.down }

-- there is a subtree at the end of a path
pub path_held : (s : Store) (level at : ℕ) (bounds : Bounds) (pairs : List Entry) (nodes : List ℕ) (steps : List Step) (key : List ℕ) (n q : ℕ) (b : Bounds) → Holds s level at bounds pairs nodes → Descends s level at bounds steps key n q b → (p : List Entry) × (k : List ℕ) × Holds s n q b p k
path_held s level at bounds pairs nodes steps key n q b holds path = descent_held s level at bounds pairs nodes n q b holds (path_descent s level at bounds steps key n q b path)

-- Where the change is made below the end of a path, it is below its beginning.
pub path_replaced : (was is : Store) (level at : ℕ) (bounds : Bounds) (pairs : List Entry) (nodes : List ℕ) (steps : List Step) (key : List ℕ) (n q : ℕ) (b : Bounds) (aim : Aim) → Holds was level at bounds pairs nodes → Descends was level at bounds steps key n q b → Replaced was is n n q b aim → IsFree was aim → Replaced was is level level at bounds aim
path_replaced was is level at bounds pairs nodes steps key n q b aim holds path r free = descent_replaced was is level at bounds pairs nodes n q b aim holds (path_descent was level at bounds steps key n q b path) r free
