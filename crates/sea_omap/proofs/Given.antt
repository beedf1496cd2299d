-- How many addresses a change of one key is given.
use Rattle.std.proofs.Common.{inl, inr, ℕ, zero, suc, ◌+◌, ◌≤◌, List, [], ◌∷◌, length, reverse, Option, Some, None, ap, arith}
use Rattle.std.proofs.lemmas.List.{length-reverse}
use Rattle.sea_base.specs.Space.{Store, Seen}
use Rattle.sea_node.specs.Entries.{Entry}
use Rattle.sea_tree.specs.Tree.{Bounds}
use Rattle.sea_tree.specs.Path.{Descends}
use Rattle.sea_tree.specs.Does.{Change}
use Rattle.sea_tree.specs.Mending.{after_edit}
use Rattle.sea_tree.specs.Changing.{RootRebalanced}
use Rattle.sea_tree.specs.Rebalanced.{Rebalanced}
use Rattle.sea_tree.specs.Form.{Rises, HasForm}
use Rattle.sea_omap.specs.Changes.{HasKeyForm}

-- a root that splits takes two
root_gives : (level root : ℕ) (entries : List Entry) (old new : Seen) (before changes : List Change) → RootRebalanced level root entries old new before changes → new.next ≤ old.next + 2
root_gives level root entries old new before changes (inl fits) = omega (arith, fits.next)
root_gives level root entries old new before changes (inr (inl splits)) = omega (arith, splits.next)
root_gives level root entries old new before changes (inr (inr (inl collapses))) = omega (arith, collapses.next)
root_gives level root entries old new before changes (inr (inr (inr empties))) = omega (arith, empties.next)

-- and a node below it takes one
node_gives : (level at : ℕ) (entries : List Entry) (step : _) (old new : Seen) (changes : List Change) (left : Option _) → Rebalanced level at entries step old new changes left → new.next ≤ old.next + 1
node_gives level at entries step old new changes left (inl fits) = omega (arith, fits.next)
node_gives level at entries step old new changes left (inr (inl splits)) = omega (arith, splits.next)
node_gives level at entries step old new changes left (inr (inr (inl merges))) = omega (arith, merges.next)
node_gives level at entries step old new changes left (inr (inr (inr redistributes))) = omega (arith, redistributes.next)

rises_give : (steps : List _) (level at : ℕ) (entries : List Entry) (edit : _) (now end : Seen) (before done : List Change) (splice : Option _) → Rises steps level at entries edit now end before done splice → end.next ≤ now.next + (length steps + 2)
rises_give [] level at entries edit now end before done splice rises =
    omega (arith, root_gives level at (after_edit edit entries) now end before rises.0 rises.1)
rises_give (step ∷ steps) level at entries edit now end before done splice (mid, added, None, how, ends) =
    omega (arith, node_gives level at (after_edit edit entries) step now mid added None how, ap (λ (s : Seen). s.next) ends.1)
rises_give (step ∷ steps) level at entries edit now end before done splice (mid, added, Some next, how, on) =
    omega (arith, node_gives level at (after_edit edit entries) step now mid added (Some next) how, rises_give steps step.node.level step.at.0 step.node.entries next mid end _ done splice on)

-- a path has at most seven steps
steps_down : (store : Store) (level at : ℕ) (bounds : Bounds) (steps : List _) (key : List ℕ) (last_level last : ℕ) (last_bounds : Bounds) → Descends store level at bounds steps key last_level last last_bounds → length steps ≤ level
steps_down store level at bounds [] key last_level last last_bounds down = omega arith
steps_down store zero at bounds (step ∷ steps) key last_level last last_bounds down = absurd down
steps_down store (suc level) at bounds (step ∷ steps) key last_level last last_bounds down =
    omega (arith, steps_down store level down.0 down.1 steps key last_level last last_bounds down.3)

few_steps : (store : Store) (level at : ℕ) (bounds : Bounds) (steps : List _) (key : List ℕ) (last_level last : ℕ) (last_bounds : Bounds) → Descends store level at bounds steps key last_level last last_bounds → length steps ≤ 7
few_steps store level at bounds [] key last_level last last_bounds down = omega arith
few_steps store zero at bounds (step ∷ steps) key last_level last last_bounds down = absurd down
few_steps store (suc level) at bounds (step ∷ steps) key last_level last last_bounds down =
    let top = down.2.node.0.spells.node.level_fits in
    omega (arith, top, steps_down store level down.0 down.1 steps key last_level last last_bounds down.3)

-- what a change of a key was given
pub record Gives (old new : Seen) : Type 0 where
  pub rises : old.next ≤ new.next
  pub few : new.next ≤ old.next + 9

form_gives : (root : ℕ) (key : List ℕ) (value : Option (List ℕ)) (old new : Seen) → HasForm root key value old new → Gives old new
form_gives root key value old new form =
    let path = form.path in
    let down = form.known.down in
    let few = few_steps form.read.view down.top root _ path.steps.items key 0 path.at.0 _ down.descent in
    let given = rises_give (reverse path.steps.items) 0 path.at.0 path.leaf.entries _ form.read form.planned [] _ form.plan.splice form.rises in
    record {
      rises = omega (arith, form.reads.next, form.plans.next, form.next);
      few = omega (arith, form.reads.next, form.next, few, given, length-reverse path.steps.items);
    }

pub key_gives : (root : ℕ) (key : List ℕ) (value found : Option (List ℕ)) (old new : Seen) → HasKeyForm root key value found old new → Gives old new
key_gives root key (Some value) found old new (inl form) = form_gives root key (Some value) old new form
key_gives root key (Some value) found old new (inr first) =
    record { rises = omega (arith, first.reads.next, first.next); few = omega (arith, first.reads.next, first.next) }
key_gives root key None None old new reads = record { rises = omega (arith, reads.next); few = omega (arith, reads.next) }
key_gives root key None (Some value) old new form = form_gives root key None old new form
