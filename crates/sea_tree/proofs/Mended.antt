-- What the loop of a change needs at each of its turns, and what it ends with.
use Rattle.std.proofs.Common.{◌≡◌, ℕ, zero, suc, ◌+◌, ◌<◌, ◌≤◌, ◌^◌, List, [], ◌∷◌, ◌++◌, length, true, false, Option, Some, None, refl, sym, ◌∙◌, subst, inl, inr, arith}
use Rattle.std.specs.Option.{IfSome}
use Rattle.sea_base.specs.Name.{IsName}
use Rattle.sea_base.specs.Space.{Store, Seen, IsKnown, IsSound, Agrees, laid}
use Rattle.sea_base.proofs.Spaces.{only_read-refl}
use Rattle.sea_node.specs.Entries.{Entry, edited}
use Rattle.sea_node.specs.Node.{IsNode}
use Rattle.sea_tree.specs.declared.edit.Edit.{Edit}
use Rattle.sea_tree.specs.declared.fault.TreeFault.{TreeFault}
use Rattle.sea_tree.specs.declared.fault.TreeFault.TheVariants.{Space, Broken}
use Rattle.sea_tree.specs.declared.path.Step.{Step}
use Rattle.sea_tree.specs.declared.path.Path.{Path}
use Rattle.sea_tree.specs.Tree.{Bounds, NodeAt, root_bounds, IsAddress}
use Rattle.sea_tree.specs.Breaks.{HasNode, IsBroken, Child, BreaksBelow}
use Rattle.sea_tree.specs.Calls.{IsPlanFault, IsRootRebalanceFault}
use Rattle.sea_tree.specs.Does.{Change, is_among, Does}
use Rattle.sea_tree.specs.Mending.{after_edit, IsNearPlace}
use Rattle.sea_tree.specs.Changing.{IsPlanned, TouchesOwn, RootRebalanced}
use Rattle.sea_tree.specs.Place.{meant}
use Rattle.sea_tree.specs.Rebalanced.{IsNearChild, Rebalanced, IsRebalanceFault}
use Rattle.sea_tree.specs.Path.{Descends, ComesDown, IsKnownPath}
use Rattle.sea_tree.proofs.Doing.{Does-read, Does-known, Does-laid, Does-agrees}
use Rattle.sea_tree.proofs.MendNear.{IsNearPlace-edited}
use Rattle.sea_tree.proofs.Splits.{middle_within}
use Rattle.sea_tree.proofs.Paths.{Descends-laid, HasNode-same, first_node}
use Rattle.sea_tree.proofs.Climbs.{Climbs, climbs_begun, step_above, child_near, climbs_up, climbs_done, climbs_rooted, rebalanced_own, rooted_own}

-- the steps of a path are as many as the levels that it goes down
descends_by : (s : Store) (level at : ℕ) (bounds : Bounds) (steps : List Step) (key : List ℕ) (n q : ℕ) (b : Bounds) → Descends s level at bounds steps key n q b → level ≡ length steps + n
descends_by s level at bounds [] key n q b d = omega (arith, d.0)
descends_by s zero at bounds (step ∷ steps) key n q b d = absurd d
descends_by s (suc level) at bounds (step ∷ steps) key n q b d = omega (arith, descends_by s level d.0 d.1 steps key n q b d.3)

pub steps_few : (seen : Seen) (root : ℕ) (key : List ℕ) (steps : List Step) (level at : ℕ) (bounds : Bounds) (entries : List Entry) → ComesDown seen root key steps level at bounds entries → length steps + level ≤ 7
steps_few seen root key steps level at bounds entries down =
    let first = first_node seen.view down.top root root_bounds steps key level at bounds entries down.descent down.node in
    omega (arith, descends_by seen.view down.top root root_bounds steps key level at bounds down.descent, first.1.0.spells.node.level_fits)

-- the loop begins
pub begins : (begun : Seen) (root : ℕ) (key : List ℕ) (value : Option (List ℕ)) (path : Path) → IsSound begun → IsName key → IfSome value (λ v. length v ≤ 1024) → IsKnownPath begun root key path
    → Climbs begun begun root key value path.steps.items path.leaf.level path.at.0 path.leaf.entries (edited key value path.leaf.entries) [] × (length path.steps.items ≤ 7)
begins begun root key value path sound name short known =
    let node : IsNode 0 path.leaf.entries = known.down.node.0.spells.node in
    let near = IsNearPlace-edited 0 (meant path.bounds) key value path.leaf.entries node known.down.node.1 name short known.down.leads.0 known.down.leads.1 (λ some. absurd (omega (arith, some))) in (
      climbs_begun begun root key value path sound name short known (Does-read (only_read-refl begun)) near,
      omega (arith, steps_few begun root key path.steps.items 0 path.at.0 (meant path.bounds) path.leaf.entries known.down),
    )

-- What a turn needs of its step.
pub record Turn (now : Seen) (step : Step) (level at : ℕ) (after : List Entry) : Type 0 where
  pub parent : IsNode step.node.level step.node.entries
  pub level_is : step.node.level ≡ suc level
  pub within : step.index < length step.node.entries
  pub child : IsNearChild step level at after
  pub known : IsKnown now at

pub turns : (begun now : Seen) (root : ℕ) (key : List ℕ) (value : Option (List ℕ)) (steps init : List Step) (step : Step) (level at : ℕ) (entries after : List Entry) (changes : List Change) → steps ≡ init ++ step ∷ []
    → Climbs begun now root key value steps level at entries after changes → Turn now step level at after × NodeAt now.view at level entries
turns begun now root key value steps init step level at entries after changes is climbs0 =
    let climbs : Climbs begun now root key value (init ++ step ∷ []) level at entries after changes = subst (λ (l : List Step). Climbs begun now root key value l level at entries after changes) is climbs0 in
    let above = step_above begun root key init step level at climbs.bounds entries climbs.down in
    let down = above.down in (
      record {
        parent = subst (λ (l : ℕ). IsNode l step.node.entries) (sym down.level_is) down.node.0.spells.node;
        level_is = down.level_is;
        within = subst (λ (es : List Entry). step.index < length es) (sym down.split.split) (subst (λ (i : ℕ). i < length (down.before ++ down.entry ∷ down.after)) down.split.count (middle_within down.before down.after down.entry));
        child = child_near begun now root key value init step level at entries after changes climbs;
        known = Does-known [] climbs.reads at climbs.down.known;
      },
      (HasNode-same begun begun.view now.view (λ q k. sym (climbs.reads.view q (inr k))) level at climbs.bounds entries climbs.down.known climbs.down.node).0,
    )

-- and what it comes to
pub goes_up : (begun now new : Seen) (root : ℕ) (key : List ℕ) (value : Option (List ℕ)) (steps init : List Step) (step : Step) (level at : ℕ) (entries after : List Entry) (changes changes' added : List Change) (edit : Edit)
    → IsSound begun → now.next < 2 ^ 62 + 2 ^ 47 → steps ≡ init ++ step ∷ [] → Climbs begun now root key value steps level at entries after changes → changes' ≡ added ++ changes → Rebalanced level at after step now new added (Some edit) → Does [] now new
    → Climbs begun new root key value init step.node.level step.at.0 step.node.entries (after_edit edit step.node.entries) changes'
goes_up begun now new root key value steps init step level at entries after changes changes' added edit sound small is climbs0 plans rebalanced goes =
    let climbs : Climbs begun now root key value (init ++ step ∷ []) level at entries after changes = subst (λ (l : List Step). Climbs begun now root key value l level at entries after changes) is climbs0 in
    let above = step_above begun root key init step level at climbs.bounds entries climbs.down in
    let up = climbs_up begun now new root key value init step level at entries after changes added edit sound small climbs rebalanced goes in
    subst (λ (l : ℕ). Climbs begun new root key value init l step.at.0 step.node.entries (after_edit edit step.node.entries) changes') (sym above.down.level_is)
    (subst (Climbs begun new root key value init (suc level) step.at.0 step.node.entries (after_edit edit step.node.entries)) (sym plans) up)

pub ends : (begun now new : Seen) (root : ℕ) (key : List ℕ) (value : Option (List ℕ)) (steps init : List Step) (step : Step) (level at : ℕ) (entries after : List Entry) (changes changes' added : List Change)
    → IsSound begun → now.next < 2 ^ 62 + 2 ^ 47 → steps ≡ init ++ step ∷ [] → Climbs begun now root key value steps level at entries after changes → changes' ≡ added ++ changes → Rebalanced level at after step now new added None → Does [] now new
    → IsPlanned root key value begun new changes'
ends begun now new root key value steps init step level at entries after changes changes' added sound small is climbs0 plans rebalanced goes =
    let climbs : Climbs begun now root key value (init ++ step ∷ []) level at entries after changes = subst (λ (l : List Step). Climbs begun now root key value l level at entries after changes) is climbs0 in
    subst (IsPlanned root key value begun new) (sym plans) (climbs_done begun now new root key value init step level at entries after changes added sound small climbs rebalanced goes)

pub ends_own : (begun now new : Seen) (root : ℕ) (key : List ℕ) (value : Option (List ℕ)) (steps init : List Step) (step : Step) (level at : ℕ) (entries after : List Entry) (changes changes' added : List Change)
    → IsSound begun → steps ≡ init ++ step ∷ [] → Climbs begun now root key value steps level at entries after changes → changes' ≡ added ++ changes → Rebalanced level at after step now new added None → Does [] now new
    → TouchesOwn root begun new changes'
ends_own begun now new root key value steps init step level at entries after changes changes' added sound is climbs0 plans rebalanced goes =
    let climbs : Climbs begun now root key value (init ++ step ∷ []) level at entries after changes = subst (λ (l : List Step). Climbs begun now root key value l level at entries after changes) is climbs0 in
    subst (TouchesOwn root begun new) (sym plans) (rebalanced_own begun now new root key value init step level at entries after changes added None sound climbs rebalanced goes)

-- ---- at the root

-- What rebalancing the root needs.
pub record AtRoot (now : Seen) (root level at : ℕ) (entries after : List Entry) (changes : List Change) : Type 0 where
  pub known : IsKnown now root
  pub node : HasNode now.view level root root_bounds entries
  pub near : IsNearPlace level root_bounds after
  pub alone : (e : Entry) (child : ℕ) → 1 ≤ level → after ≡ e ∷ [] → IsAddress e.1 child → is_among changes child ≡ true

pub root_reached : (begun now : Seen) (root : ℕ) (key : List ℕ) (value : Option (List ℕ)) (steps : List Step) (level at : ℕ) (entries after : List Entry) (changes : List Change) → steps ≡ [] → Climbs begun now root key value steps level at entries after changes → at ≡ root
root_reached begun now root key value steps level at entries after changes none climbs0 =
    let climbs : Climbs begun now root key value [] level at entries after changes = subst (λ (l : List Step). Climbs begun now root key value l level at entries after changes) none climbs0 in
    sym climbs.down.descent.1

pub comes_to_root : (begun now : Seen) (root : ℕ) (key : List ℕ) (value : Option (List ℕ)) (steps : List Step) (level at : ℕ) (entries after : List Entry) (changes : List Change) → steps ≡ [] → Climbs begun now root key value steps level at entries after changes → AtRoot now root level at entries after changes
comes_to_root begun now root key value steps level at entries after changes none climbs0 =
    let climbs : Climbs begun now root key value [] level at entries after changes = subst (λ (l : List Step). Climbs begun now root key value l level at entries after changes) none climbs0 in
    let place : at ≡ root = sym climbs.down.descent.1 in
    let asked : climbs.bounds ≡ root_bounds = sym climbs.down.descent.2 in
    let known : IsKnown begun root = subst (IsKnown begun) place climbs.down.known in
    let node : HasNode begun.view level root root_bounds entries = subst (λ (b : Bounds). HasNode begun.view level root b entries) asked (subst (λ (q : ℕ). HasNode begun.view level q climbs.bounds entries) place climbs.down.node) in
    record {
      known = Does-known [] climbs.reads root known;
      node = HasNode-same begun begun.view now.view (λ q k. sym (climbs.reads.view q (inr k))) level root root_bounds entries known node;
      near = subst (λ (b : Bounds). IsNearPlace level b after) asked climbs.near;
      alone = climbs.alone;
    }

pub roots : (begun now new : Seen) (root : ℕ) (key : List ℕ) (value : Option (List ℕ)) (steps : List Step) (level at : ℕ) (entries after : List Entry) (changes changes' added : List Change) → now.next < 2 ^ 62 + 2 ^ 47 → steps ≡ []
    → Climbs begun now root key value steps level at entries after changes → changes' ≡ added ++ changes → RootRebalanced level root after now new changes added → Does [] now new → IsPlanned root key value begun new changes'
roots begun now new root key value steps level at entries after changes changes' added small none climbs0 plans rebalanced goes =
    let climbs : Climbs begun now root key value [] level at entries after changes = subst (λ (l : List Step). Climbs begun now root key value l level at entries after changes) none climbs0 in
    subst (IsPlanned root key value begun new) (sym plans) (climbs_rooted begun now new root key value level at entries after changes added small climbs rebalanced goes)

pub roots_own : (begun now new : Seen) (root : ℕ) (key : List ℕ) (value : Option (List ℕ)) (steps : List Step) (level at : ℕ) (entries after : List Entry) (changes changes' added : List Change) → IsSound begun → steps ≡ []
    → Climbs begun now root key value steps level at entries after changes → changes' ≡ added ++ changes → RootRebalanced level root after now new changes added → Does [] now new → TouchesOwn root begun new changes'
roots_own begun now new root key value steps level at entries after changes changes' added sound none climbs0 plans rebalanced goes =
    let climbs : Climbs begun now root key value [] level at entries after changes = subst (λ (l : List Step). Climbs begun now root key value l level at entries after changes) none climbs0 in
    subst (TouchesOwn root begun new) (sym plans) (rooted_own begun now new root key value level at entries after changes added sound climbs rebalanced goes)

-- ---- faults

-- a child of a node at the end of a path that is no node in its place breaks the tree
broken_beside : (s : Store) (level at : ℕ) (bounds : Bounds) (steps : List Step) (key : List ℕ) (n q : ℕ) (b : Bounds) (es front back : List Entry) (child : ℕ) (asked : Bounds) → Descends s level at bounds steps key (suc n) q b → HasNode s (suc n) q b es → Child es b.upper front back child asked → IsBroken s n child asked → BreaksBelow s level at bounds child
broken_beside s zero at bounds [] key n q b es front back child asked d node is broken = absurd (omega (arith, d.0))
broken_beside s (suc level) at bounds [] key n q b es front back child asked d node is broken =
    let levels : level ≡ n = omega (arith, d.0) in
    let here : HasNode s (suc level) at bounds es = subst (λ (l : ℕ). HasNode s (suc l) at bounds es) (sym levels) (subst (λ (x : ℕ). HasNode s (suc n) x bounds es) (sym d.1) (subst (λ (c : Bounds). HasNode s (suc n) q c es) (sym d.2) node)) in
    let beside : Child es bounds.upper front back child asked = subst (λ (c : Bounds). Child es c.upper front back child asked) (sym d.2) is in
    inr (es, here, (front, back, child, asked, beside, broken_here level (subst (λ (l : ℕ). IsBroken s l child asked) (sym levels) broken)))
  where
    broken_here : (l : ℕ) → IsBroken s l child asked → BreaksBelow s l child asked child
    broken_here zero broken = (refl, broken)
    broken_here (suc l) broken = inl (refl, broken)
broken_beside s zero at bounds (step ∷ steps) key n q b es front back child asked d node is broken = absurd d
broken_beside s (suc level) at bounds (step ∷ steps) key n q b es front back child asked d node is broken =
    let below = broken_beside s level d.0 d.1 steps key n q b es front back child asked d.3 node is broken in
    let down = d.2 in
    inr (step.node.entries, down.node, (down.before, down.after, d.0, d.1, record { entry = down.entry; split = down.split.split; address = down.address; bounds_are = down.below_is }, below))

module _ (begun now new : Seen) (root : ℕ) (key : List ℕ) (value : Option (List ℕ)) (steps init : List Step) (step : Step) (level at : ℕ) (entries after : List Entry) (changes : List Change)
    (sound : IsSound begun) (is : steps ≡ init ++ step ∷ []) (climbs0 : Climbs begun now root key value steps level at entries after changes) where
  pub rebalance_fault : (fault : TreeFault) → IsRebalanceFault level step now new fault → IsPlanFault root begun new fault
  rebalance_fault (Space fault) cause = tt
  rebalance_fault (Broken broken) found = λ store agrees.
      let climbs : Climbs begun now root key value (init ++ step ∷ []) level at entries after changes = subst (λ (l : List Step). Climbs begun now root key value l level at entries after changes) is climbs0 in
      let above = step_above begun root key init step level at climbs.bounds entries climbs.down in
      let agrees_now : Agrees store now = Does-agrees [] (Does-read found.0) store agrees in
      let agrees_begun : Agrees store begun = Does-agrees [] climbs.reads store agrees_now in
      let there = Descends-laid begun begun store root key init (suc level) step.at.0 above.asked step.node.entries (only_read-refl begun) sound agrees_begun above.comes in
      let beside : Child step.node.entries above.asked.upper found.1.0 found.1.1 broken.0 found.1.2 = subst (λ (u : Option (List ℕ)). Child step.node.entries u found.1.0 found.1.1 broken.0 found.1.2) above.down.upper_is found.1.3 in
      let unread : IsBroken (laid begun store) level broken.0 found.1.2 = λ es node place. found.1.4 store agrees es (record { bytes = node.bytes; here = Does-laid [] climbs.reads store broken.0 ∙ node.here; spells = node.spells }) place in
      let first = first_node (laid begun store) above.comes.top root root_bounds init key (suc level) step.at.0 above.asked step.node.entries there.0 there.1 in
      inl (
        (λ none. (let clash : Some first.1.0.bytes ≡ None = sym first.1.0.here ∙ none in absurd (cc))),
        inr (above.comes.top, (first.0, first.1), broken_beside (laid begun store) above.comes.top root root_bounds init key level step.at.0 above.asked step.node.entries found.1.0 found.1.1 broken.0 found.1.2 there.0 there.1 beside unread),
      )

pub root_fault : (begun now new : Seen) (root : ℕ) → Does [] begun now → (fault : TreeFault) → IsRootRebalanceFault root now new fault → IsPlanFault root begun new fault
root_fault begun now new root reads (Space fault) cause = tt
root_fault begun now new root reads (Broken broken) found = λ store agrees.
    let full = found.1 store agrees in
    inr (found.0, (full.0, record { bytes = full.1.bytes; here = sym (Does-laid [] reads store root) ∙ full.1.here; spells = full.1.spells }, full.2))

-- no step is left
pub nothing_left : (steps : List Step) → (0 < length steps → false ≡ true) → steps ≡ []
nothing_left [] none = refl
nothing_left (step ∷ steps) none = absurd (let clash : false ≡ true = none (omega arith) in cc)
