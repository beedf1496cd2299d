-- Coming down from a root by one step after the other, and the faults that end it.
use Rattle.std.proofs.Common.{◌≡◌, inl, inr, ℕ, zero, suc, ◌-◌, ◌<◌, List, [], ◌∷◌, ◌++◌, length, None, refl, sym, ap, subst, ◌∙◌, arith}
use Rattle.sea_base.specs.Space.{Store, Seen, IsKnown, IsSound, OnlyRead, laid}
use Rattle.sea_base.specs.Name.{IsName}
use Rattle.sea_node.specs.Entries.{Entry}
use Rattle.sea_node.proofs.Keys.{least_key}
use Rattle.sea_tree.specs.declared.fault.TreeFault.{TreeFault}
use Rattle.sea_tree.specs.declared.fault.TreeFault.TheVariants.{Space, Broken}
use Rattle.sea_tree.specs.declared.path.Step.{Step}
use Rattle.sea_tree.specs.declared.path.Path.{Path}
use Rattle.sea_tree.specs.Tree.{Bounds, root_bounds, LiesWithin, IsAddress, child_bounds}
use Rattle.sea_tree.specs.Breaks.{HasNode, BreaksOnPath}
use Rattle.sea_tree.specs.Calls.{IsPathFault, IsWholePath}
use Rattle.sea_tree.specs.Place.{meant, Splits, IsPlaceFault, IsRootFault}
use Rattle.sea_tree.specs.Path.{StepsDown, Descends, AreKnown, ComesDown, IsKnownPath}
use Rattle.sea_tree.proofs.Splits.{within_upper}
use Rattle.sea_tree.proofs.Paths.{IsBroken-same, Descends-same, AreKnown-push, ComesDown-later, Descends-push, Descends-laid, laid_same, first_node, broken_below, no_break, path_laid}

-- ---- one step

pub split_at : (es : List Entry) (i : ℕ) → i < length es → (before : List Entry) × (entry : Entry) × (after : List Entry) × Splits es i before entry after
split_at [] i within = absurd (omega arith)
split_at (e ∷ es) zero within = ([], e, es, record { split = refl; count = refl })
split_at (e ∷ es) (suc i) within =
    let rest = split_at es i (omega arith) in
    (e ∷ rest.0, rest.1, rest.2, record { split = ap (λ (fs : List Entry). e ∷ fs) rest.3.split; count = ap suc rest.3.count })

-- What the code knows of a step makes it one.
pub steps_down : (s : Store) (level at : ℕ) (bounds : Bounds) (step : Step) (key : List ℕ) (child : ℕ) (below : Bounds)
    → step.at.0 ≡ at → step.node.level ≡ suc level → step.upper ≡ bounds.upper → HasNode s (suc level) at bounds step.node.entries → step.index < length step.node.entries
    → ((before after : List Entry) (entry : Entry) → Splits step.node.entries step.index before entry after → LiesWithin key (child_bounds entry after None))
    → ((before after : List Entry) (entry : Entry) → Splits step.node.entries step.index before entry after → IsAddress entry.1 child)
    → ((before after : List Entry) (entry : Entry) → Splits step.node.entries step.index before entry after → below ≡ child_bounds entry after bounds.upper)
    → LiesWithin key bounds → StepsDown s level at bounds step key child below
steps_down s level at bounds step key child below here level_is upper_is node within leads address below_is lies =
    let at_index = split_at step.node.entries step.index within in
    let led = leads at_index.0 at_index.2 at_index.1 at_index.3 in
    let is = below_is at_index.0 at_index.2 at_index.1 at_index.3 in
    let inside : LiesWithin key (child_bounds at_index.1 at_index.2 bounds.upper) = (led.0, within_upper key at_index.2 bounds.upper led.1 lies.1) in
    record {
      here = here;
      level_is = level_is;
      upper_is = upper_is;
      node = node;
      before = at_index.0;
      entry = at_index.1;
      after = at_index.2;
      split = at_index.3;
      address = address at_index.0 at_index.2 at_index.1 at_index.3;
      below_is = is;
      leads = subst (LiesWithin key) (sym is) inside;
    }

-- ---- the path begins, and goes on

pub root_lies : (key : List ℕ) → IsName key → LiesWithin key root_bounds
root_lies key name = (least_key key name, tt)

pub comes_first : (seen : Seen) (root : ℕ) (key : List ℕ) (steps : List Step) (level : ℕ) (bounds : Bounds) (entries : List Entry) → steps ≡ [] → bounds ≡ root_bounds → HasNode seen.view level root root_bounds entries → IsKnown seen root → IsName key → ComesDown seen root key steps level root bounds entries
comes_first seen root key steps level bounds entries none is has known name = record {
  top = level;
  descent = subst (λ (st : List Step). Descends seen.view level root root_bounds st key level root bounds) (sym none) (refl, refl, sym is);
  node = subst (λ (b : Bounds). HasNode seen.view level root b entries) (sym is) has;
  steps_known = subst (AreKnown seen) (sym none) tt;
  known = known;
  leads = subst (LiesWithin key) (sym is) (root_lies key name);
}

-- a step in the view of a transaction that has come down to its node
abbrev pub IsStep : Seen → ℕ → List ℕ → List Step → ℕ → ℕ → Bounds → Step → ℕ → Bounds → Type 0
IsStep seen root key steps level at bounds step child below =
    ComesDown seen root key steps (suc level) at bounds step.node.entries × StepsDown seen.view level at bounds step key child below

pub comes_further : (seen : Seen) (root : ℕ) (key : List ℕ) (steps steps' : List Step) (level at : ℕ) (bounds : Bounds) (step : Step) (child : ℕ) (below : Bounds) (next : List Entry) → IsStep seen root key steps level at bounds step child below → steps' ≡ steps ++ step ∷ [] → HasNode seen.view level child below next → IsKnown seen child → ComesDown seen root key steps' level child below next
comes_further seen root key steps steps' level at bounds step child below next here pushed has known = record {
  top = here.0.top;
  descent = subst (λ (st : List Step). Descends seen.view here.0.top root root_bounds st key level child below) (sym pushed) (Descends-push seen.view here.0.top root root_bounds steps key level at bounds step child below here.0.descent here.1);
  node = has;
  steps_known = subst (AreKnown seen) (sym pushed) (AreKnown-push seen steps step here.0.steps_known (subst (IsKnown seen) (sym here.1.here) here.0.known));
  known = known;
  leads = here.1.leads;
}

one_below : (n m : ℕ) → m ≡ n - 1 → 0 < n → n ≡ suc m
one_below n m e some = omega arith

pub is_step : (mid new : Seen) (root : ℕ) (key : List ℕ) (steps : List Step) (at : ℕ) (bounds : Bounds) (step : Step) (child : ℕ) (below : Bounds)
    → OnlyRead mid new → ComesDown mid root key steps step.node.level at bounds step.node.entries → 0 < step.node.level → step.at.0 ≡ at → step.upper ≡ bounds.upper → step.index < length step.node.entries
    → ((before after : List Entry) (entry : Entry) → Splits step.node.entries step.index before entry after → LiesWithin key (child_bounds entry after None))
    → ((before after : List Entry) (entry : Entry) → Splits step.node.entries step.index before entry after → IsAddress entry.1 child)
    → ((before after : List Entry) (entry : Entry) → Splits step.node.entries step.index before entry after → below ≡ child_bounds entry after bounds.upper)
    → IsStep new root key steps (step.node.level - 1) at bounds step child below
is_step mid new root key steps at bounds step child below reads down some here upper_is within leads address below_is =
    let level = one_below step.node.level (step.node.level - 1) refl some in
    let now : ComesDown new root key steps step.node.level at bounds step.node.entries = ComesDown-later reads down in
    let moved = subst (λ (l : ℕ). ComesDown new root key steps l at bounds step.node.entries) level now in
    (moved, steps_down new.view (step.node.level - 1) at bounds step key child below here level upper_is moved.node within leads address below_is moved.leads)

-- ---- faults

module _ (old new : Seen) (root : ℕ) (key : List ℕ) (reads : OnlyRead old new) (sound : IsSound new) where
  pub root_fault : (fault : TreeFault) → IsRootFault root new fault → IsPathFault root key old new fault
  root_fault (Space fault) cause = tt
  root_fault (Broken at) (is, known, some, broken) = λ store agrees.
      let same = laid_same old new store reads sound agrees in
      ((λ none. some (same root known ∙ none)), inl (is, λ level. IsBroken-same new new.view (laid old store) same level root root_bounds known (broken level)))

  pub step_fault : (steps : List Step) (level at : ℕ) (bounds : Bounds) (step : Step) (child : ℕ) (below : Bounds) (fault : TreeFault) → IsStep new root key steps level at bounds step child below → IsPlaceFault level child below new fault → IsPathFault root key old new fault
  step_fault steps level at bounds step child below (Space fault) here cause = tt
  step_fault steps level at bounds step child below (Broken broken) here (is, known, breaks) = λ store agrees.
      let equal = laid_same old new store reads sound agrees in
      let laid_down = Descends-laid old new store root key steps (suc level) at bounds step.node.entries reads sound agrees here.0 in
      let top = first_node (laid old store) here.0.top root root_bounds steps key (suc level) at bounds step.node.entries laid_down.0 laid_down.1 in
      let pushed = Descends-push new.view here.0.top root root_bounds steps key level at bounds step child below here.0.descent here.1 in
      let steps_known = AreKnown-push new steps step here.0.steps_known (subst (IsKnown new) (sym here.1.here) here.0.known) in
      let down = Descends-same new new.view (laid old store) equal here.0.top root root_bounds (steps ++ step ∷ []) key level child below steps_known pushed in
      let below_breaks = broken_below (laid old store) here.0.top root root_bounds (steps ++ step ∷ []) key level child below down (IsBroken-same new new.view (laid old store) equal level child below known breaks) in
      ((λ none. let there = top.1.0.here in cc), inr (here.0.top, (top.0, top.1), subst (λ (q : ℕ). BreaksOnPath (laid old store) key here.0.top root root_bounds q) (sym is) below_breaks))

-- ---- a whole path, and none

pub whole_path : (old new : Seen) (root : ℕ) (key : List ℕ) (path : Path) → OnlyRead old new → IsSound new → IsKnownPath new root key path → IsWholePath root key old new
whole_path old new root key path reads sound known = λ store at agrees breaks.
    no_break (laid old store) known.down.top root path.steps.items key path.at.0 path.leaf.entries (meant path.bounds) at (path_laid old new store root key (record { steps = path.steps.items; at = path.at.0; bounds = meant path.bounds; entries = path.leaf.entries }) reads sound agrees known.down) breaks

pub empty_path : (old new : Seen) (root : ℕ) (key : List ℕ) → OnlyRead old new → IsSound new → IsKnown new root → new.view root ≡ None → IsWholePath root key old new
empty_path old new root key reads sound known none = λ store at agrees breaks.
    breaks.0 (sym (laid_same old new store reads sound agrees root known) ∙ none)
