-- Paths on a store: what of them stays, what their leaves hold, and where they break.
use Rattle.std.proofs.Common.{◌≡◌, ◌↔◌, inl, inr, ℕ, zero, suc, List, [], ◌∷◌, ◌++◌, Some, refl, sym, ap, subst, ◌∙◌, arith}
use Rattle.std.specs.List.{Contains}
use Rattle.std.proofs.lemmas.List.Elements.{All-contains}
use Rattle.sea_base.specs.Space.{Store, Seen, IsKnown, IsSound, Agrees, OnlyRead, laid}
use Rattle.sea_base.proofs.Spaces.{known_later, laid_known, laid-only_read}
use Rattle.sea_base.specs.Name.{IsName}
use Rattle.sea_node.specs.Entries.{Entry, IsBelow, IsRising}
use Rattle.sea_node.proofs.Keys.{IsNotAbove-itself, IsNotAbove-below, below_or_same, not_above_or_below, not_above_then_below, not_below_itself}
use Rattle.sea_tree.specs.declared.path.Step.{Step}
use Rattle.sea_tree.specs.Tree.{NodeAt, Bounds, root_bounds, LiesWithin, IsWithin, IsInPlace, child_bounds, IsAddress}
use Rattle.sea_tree.specs.Content.{Guides, Leads, LeadsTo}
use Rattle.sea_tree.specs.Breaks.{HasNode, IsBroken, Child, BreaksOnPath, IsBreakOnPath}
use Rattle.sea_tree.specs.Path.{StepsDown, Descends, IsPath, AreKnown, ComesDown, LeafPath, IsLeafPath}
use Rattle.sea_tree.proofs.Apart.{IsWithin-below, Leads-node}
use Rattle.sea_tree.proofs.Holding.{one_node, same_address}
use Rattle.sea_tree.proofs.Splits.{within_none, lies_above, one_split}

-- ---- from one store to another that is the same at what is known

module _ (seen : Seen) (s t : Store) (same : (q : ℕ) → IsKnown seen q → s q ≡ t q) where
  pub NodeAt-same : (at level : ℕ) (es : List Entry) → IsKnown seen at → NodeAt s at level es → NodeAt t at level es
  NodeAt-same at level es known node = record { bytes = node.bytes; here = sym (same at known) ∙ node.here; spells = node.spells }

  pub HasNode-same : (level at : ℕ) (bounds : Bounds) (es : List Entry) → IsKnown seen at → HasNode s level at bounds es → HasNode t level at bounds es
  HasNode-same level at bounds es known has = (NodeAt-same at level es known has.0, has.1)

  pub IsBroken-same : (level at : ℕ) (bounds : Bounds) → IsKnown seen at → IsBroken s level at bounds → IsBroken t level at bounds
  IsBroken-same level at bounds known broken = λ es node place. broken es (record { bytes = node.bytes; here = same at known ∙ node.here; spells = node.spells }) place

  pub StepsDown-same : (level at : ℕ) (bounds : Bounds) (step : Step) (key : List ℕ) (child : ℕ) (below : Bounds) → IsKnown seen step.at.0 → StepsDown s level at bounds step key child below → StepsDown t level at bounds step key child below
  StepsDown-same level at bounds step key child below known down = record {
    here = down.here;
    level_is = down.level_is;
    upper_is = down.upper_is;
    node = HasNode-same (suc level) at bounds step.node.entries (subst (IsKnown seen) down.here known) down.node;
    before = down.before;
    entry = down.entry;
    after = down.after;
    split = down.split;
    address = down.address;
    below_is = down.below_is;
    leads = down.leads;
  }

  pub Descends-same : (level at : ℕ) (bounds : Bounds) (steps : List Step) (key : List ℕ) (n q : ℕ) (b : Bounds) → AreKnown seen steps → Descends s level at bounds steps key n q b → Descends t level at bounds steps key n q b
  Descends-same level at bounds [] key n q b known d = d
  Descends-same zero at bounds (step ∷ steps) key n q b known d = d
  Descends-same (suc level) at bounds (step ∷ steps) key n q b known d =
      (d.0, d.1, StepsDown-same level at bounds step key d.0 d.1 known.0 d.2, Descends-same level d.0 d.1 steps key n q b known.1 d.3)

-- ---- what stays along reads

pub AreKnown-later : {old new : Seen} → OnlyRead old new → (steps : List Step) → AreKnown old steps → AreKnown new steps
AreKnown-later r [] known = tt
AreKnown-later r (step ∷ steps) known = (known_later r step.at.0 known.0, AreKnown-later r steps known.1)

pub ComesDown-later : {old new : Seen} {root : ℕ} {key : List ℕ} {steps : List Step} {level at : ℕ} {bounds : Bounds} {entries : List Entry} → OnlyRead old new → ComesDown old root key steps level at bounds entries → ComesDown new root key steps level at bounds entries
ComesDown-later {old} {new} {root} {key} {steps} {level} {at} {bounds} {entries} r down =
    let same : (q : ℕ) → IsKnown old q → old.view q ≡ new.view q = λ q known. sym (r.known q known) in
    record {
      top = down.top;
      descent = Descends-same old old.view new.view same down.top root root_bounds steps key level at bounds down.steps_known down.descent;
      node = HasNode-same old old.view new.view same level at bounds entries down.known down.node;
      steps_known = AreKnown-later r steps down.steps_known;
      known = known_later r at down.known;
      leads = down.leads;
    }

-- ---- one step more, or less

pub Descends-push : (s : Store) (level at : ℕ) (bounds : Bounds) (steps : List Step) (key : List ℕ) (n q : ℕ) (b : Bounds) (step : Step) (child : ℕ) (below : Bounds) → Descends s level at bounds steps key (suc n) q b → StepsDown s n q b step key child below → Descends s level at bounds (steps ++ step ∷ []) key n child below
Descends-push s zero at bounds [] key n q b step child below d down = absurd (let e : 0 ≡ suc n = d.0 in omega arith)
Descends-push s (suc level) at bounds [] key n q b step child below d down =
    let same : level ≡ n = (let e : suc level ≡ suc n = d.0 in omega arith) in
    (child, below, subst (λ (l : ℕ). StepsDown s l at bounds step key child below) (sym same) (subst (λ (a : ℕ). StepsDown s n a bounds step key child below) (sym d.1) (subst (λ (x : Bounds). StepsDown s n q x step key child below) (sym d.2) down)), (same, refl, refl))
Descends-push s zero at bounds (first ∷ steps) key n q b step child below d down = d
Descends-push s (suc level) at bounds (first ∷ steps) key n q b step child below d down =
    (d.0, d.1, d.2, Descends-push s level d.0 d.1 steps key n q b step child below d.3 down)

pub AreKnown-push : (seen : Seen) (steps : List Step) (step : Step) → AreKnown seen steps → IsKnown seen step.at.0 → AreKnown seen (steps ++ step ∷ [])
AreKnown-push seen [] step known here = (here, tt)
AreKnown-push seen (first ∷ steps) step known here = (known.0, AreKnown-push seen steps step known.1 here)

-- ---- a path on every store that agrees

pub laid_same : (old new : Seen) (store : Store) → OnlyRead old new → IsSound new → Agrees store new → (q : ℕ) → IsKnown new q → new.view q ≡ laid old store q
laid_same old new store r sound agrees q known = sym (laid_known new store sound agrees q known) ∙ laid-only_read r store q

pub Descends-laid : (old new : Seen) (store : Store) (root : ℕ) (key : List ℕ) (steps : List Step) (level at : ℕ) (bounds : Bounds) (entries : List Entry) → OnlyRead old new → IsSound new → Agrees store new → (down : ComesDown new root key steps level at bounds entries) → Descends (laid old store) down.top root root_bounds steps key level at bounds × HasNode (laid old store) level at bounds entries
Descends-laid old new store root key steps level at bounds entries r sound agrees down =
    let same = laid_same old new store r sound agrees in (
      Descends-same new new.view (laid old store) same down.top root root_bounds steps key level at bounds down.steps_known down.descent,
      HasNode-same new new.view (laid old store) same level at bounds entries down.known down.node,
    )

pub path_laid : (old new : Seen) (store : Store) (root : ℕ) (key : List ℕ) (path : LeafPath) → OnlyRead old new → IsSound new → Agrees store new → (known : IsLeafPath new root key path) → IsPath (laid old store) known.top root root_bounds path.steps key path.at path.entries path.bounds
path_laid old new store root key path r sound agrees known =
    let l = Descends-laid old new store root key path.steps 0 path.at path.bounds path.entries r sound agrees known in
    (l.0, l.1, known.leads)

-- ---- the node that a path begins at

pub first_node : (s : Store) (level at : ℕ) (bounds : Bounds) (steps : List Step) (key : List ℕ) (n q : ℕ) (b : Bounds) (es : List Entry) → Descends s level at bounds steps key n q b → HasNode s n q b es → (entries : List Entry) × HasNode s level at bounds entries
first_node s level at bounds [] key n q b es d has =
    (es, subst (λ (l : ℕ). HasNode s l at bounds es) (sym d.0) (subst (λ (a : ℕ). HasNode s n a bounds es) (sym d.1) (subst (λ (x : Bounds). HasNode s n q x es) (sym d.2) has)))
first_node s zero at bounds (step ∷ steps) key n q b es d has = absurd d
first_node s (suc level) at bounds (step ∷ steps) key n q b es d has = (step.node.entries, d.2.node)

-- ---- what a path's last bounds admit, all bounds on it do

pub step_lies : (s : Store) (level at : ℕ) (bounds : Bounds) (step : Step) (key : List ℕ) (child : ℕ) (below : Bounds) (k : List ℕ) → StepsDown s level at bounds step key child below → LiesWithin k below → LiesWithin k bounds
step_lies s level at bounds step key child below k down lies =
    lies_above (suc level) bounds step.node.entries down.before down.after down.entry k down.split.split down.node.1 (subst (LiesWithin k) down.below_is lies)

pub path_lies : (s : Store) (level at : ℕ) (bounds : Bounds) (steps : List Step) (key : List ℕ) (n q : ℕ) (b : Bounds) (k : List ℕ) → Descends s level at bounds steps key n q b → LiesWithin k b → LiesWithin k bounds
path_lies s level at bounds [] key n q b k d lies = subst (LiesWithin k) (sym d.2) lies
path_lies s zero at bounds (step ∷ steps) key n q b k d lies = absurd d
path_lies s (suc level) at bounds (step ∷ steps) key n q b k d lies =
    step_lies s level at bounds step key d.0 d.1 k d.2 (path_lies s level d.0 d.1 steps key n q b k d.3 lies)

-- ---- where a key leads that a path's last bounds admit

-- a step leads such a key to its child
pub step_guides : (s : Store) (level at : ℕ) (bounds : Bounds) (step : Step) (key : List ℕ) (child : ℕ) (below : Bounds) (k : List ℕ) → StepsDown s level at bounds step key child below → LiesWithin k below → Guides step.node.entries k child
step_guides s level at bounds step key child below k down lies =
    let inside = subst (LiesWithin k) down.below_is lies in
    record {
      before = down.before;
      entry = down.entry;
      after = down.after;
      split = down.split.split;
      not_above = inside.0;
      last = within_none k down.after bounds.upper inside.1;
      address = down.address;
    }

-- and to no other
pub one_guided : (es : List Entry) (k : List ℕ) (a b : ℕ) → IsRising es → Guides es k a → Guides es k b → a ≡ b
one_guided es k a b rising first second =
    let same = one_split k first.before second.before first.after second.after first.entry second.entry (subst IsRising first.split rising) (sym first.split ∙ second.split) first.not_above first.last second.not_above second.last in
    same_address second.entry.1 a b (subst (λ (e : Entry). IsAddress e.1 a) same.1 first.address) second.address

pub leads_from : (s : Store) (level at : ℕ) (bounds : Bounds) (steps : List Step) (key : List ℕ) (n q : ℕ) (b : Bounds) (k v : List ℕ) → Descends s level at bounds steps key n q b → LiesWithin k b → Leads s n q k v → Leads s level at k v
leads_from s level at bounds [] key n q b k v d lies leads =
    subst (λ (l : ℕ). Leads s l at k v) (sym d.0) (subst (λ (a : ℕ). Leads s n a k v) (sym d.1) leads)
leads_from s zero at bounds (step ∷ steps) key n q b k v d lies leads = absurd d
leads_from s (suc level) at bounds (step ∷ steps) key n q b k v d lies leads =
    (step.node.entries, d.2.node.0, (d.0, step_guides s level at bounds step key d.0 d.1 k d.2 (path_lies s level d.0 d.1 steps key n q b k d.3 lies), leads_from s level d.0 d.1 steps key n q b k v d.3 lies leads))

pub leads_to : (s : Store) (level at : ℕ) (bounds : Bounds) (steps : List Step) (key : List ℕ) (n q : ℕ) (b : Bounds) (k v : List ℕ) → Descends s level at bounds steps key n q b → LiesWithin k b → Leads s level at k v → Leads s n q k v
leads_to s level at bounds [] key n q b k v d lies leads =
    subst (λ (a : ℕ). Leads s n a k v) d.1 (subst (λ (l : ℕ). Leads s l at k v) d.0 leads)
leads_to s zero at bounds (step ∷ steps) key n q b k v d lies leads = absurd d
leads_to s (suc level) at bounds (step ∷ steps) key n q b k v d lies leads =
    let here = one_node s at (suc level) (suc level) leads.0 step.node.entries leads.1 d.2.node.0 in
    let guided = step_guides s level at bounds step key d.0 d.1 k d.2 (path_lies s level d.0 d.1 steps key n q b k d.3 lies) in
    let child = one_guided step.node.entries k leads.2.0 d.0 d.2.node.0.spells.node.rising (subst (λ (es : List Entry). Guides es k leads.2.0) here.1 leads.2.1) guided in
    leads_to s level d.0 d.1 steps key n q b k v d.3 lies (subst (λ (a : ℕ). Leads s level a k v) child leads.2.2)

-- Paths lead to the pairs of a path's leaf alone, for keys within its bounds.
pub leaf_leads : (s : Store) (level at : ℕ) (bounds : Bounds) (steps : List Step) (key : List ℕ) (leaf : ℕ) (es : List Entry) (b : Bounds) (k v : List ℕ) → IsPath s level at bounds steps key leaf es b → LiesWithin k b → LeadsTo s at k v ↔ Contains es (k, v)
leaf_leads s level at bounds steps key leaf es b k v path lies = (
  (λ leads.
      let top = first_node s level at bounds steps key 0 leaf b es path.0 path.1 in
      let from = Leads-node s leads.0 at k v leads.1 in
      let same = (one_node s at leads.0 level from.0 top.0 from.1 top.1.0).0 in
      let last = leads_to s level at bounds steps key 0 leaf b k v path.0 lies (subst (λ (l : ℕ). Leads s l at k v) same leads.1) in
      subst (λ (fs : List Entry). Contains fs (k, v)) (one_node s leaf 0 0 last.0 es last.1 path.1.0).1 last.2),
  (λ has. (level, leads_from s level at bounds steps key 0 leaf b k v path.0 lies (es, path.1.0, has))),
)

-- a key that a path leads to is a name
pub leads_name : (s : Store) (level at : ℕ) (k v : List ℕ) → Leads s level at k v → IsName k
leads_name s zero at k v leads = All-contains (λ (e : Entry). IsName e.0) leads.0 (k, v) leads.1.spells.node.keys leads.2
leads_name s (suc level) at k v leads = leads_name s level leads.2.0 k v leads.2.2

-- ---- where a path breaks

broken_here : (s : Store) (key : List ℕ) (level at : ℕ) (bounds : Bounds) → IsBroken s level at bounds → BreaksOnPath s key level at bounds at
broken_here s key zero at bounds broken = (refl, broken)
broken_here s key (suc level) at bounds broken = inl (refl, broken)

pub broken_below : (s : Store) (level at : ℕ) (bounds : Bounds) (steps : List Step) (key : List ℕ) (n q : ℕ) (b : Bounds) → Descends s level at bounds steps key n q b → IsBroken s n q b → BreaksOnPath s key level at bounds q
broken_below s level at bounds [] key n q b d broken =
    subst (λ (a : ℕ). BreaksOnPath s key level at bounds a) d.1 (broken_here s key level at bounds (subst (λ (l : ℕ). IsBroken s l at bounds) (sym d.0) (subst (λ (a : ℕ). IsBroken s n a bounds) (sym d.1) (subst (λ (x : Bounds). IsBroken s n q x) (sym d.2) broken))))
broken_below s zero at bounds (step ∷ steps) key n q b d broken = absurd d
broken_below s (suc level) at bounds (step ∷ steps) key n q b d broken =
    let child : Child step.node.entries bounds.upper d.2.before d.2.after d.0 d.1 = record { entry = d.2.entry; split = d.2.split.split; address = d.2.address; bounds_are = d.2.below_is } in
    inr (step.node.entries, d.2.node, (d.2.before, d.2.after, d.0, d.1, child, d.2.leads, broken_below s level d.0 d.1 steps key n q b d.3 broken))

-- a whole path breaks nowhere
pub whole_below : (s : Store) (level at : ℕ) (bounds : Bounds) (steps : List Step) (key : List ℕ) (leaf : ℕ) (b : Bounds) (es : List Entry) (q : ℕ) → Descends s level at bounds steps key 0 leaf b → HasNode s 0 leaf b es → BreaksOnPath s key level at bounds q → ⊥
whole_below s zero at bounds [] key leaf b es q d has breaks =
    breaks.1 es (subst (λ (a : ℕ). NodeAt s a 0 es) (sym d.1) has.0) (subst (λ (x : Bounds). IsInPlace 0 x es) (sym d.2) has.1)
whole_below s (suc level) at bounds [] key leaf b es q d has breaks = absurd (let e : suc level ≡ 0 = d.0 in omega arith)
whole_below s zero at bounds (step ∷ steps) key leaf b es q d has breaks = d
whole_below s (suc level) at bounds (step ∷ steps) key leaf b es q d has (inl breaks) =
    breaks.1 step.node.entries d.2.node.0 d.2.node.1
whole_below s (suc level) at bounds (step ∷ steps) key leaf b es q d has (inr breaks) =
    let here = one_node s at (suc level) (suc level) breaks.0 step.node.entries breaks.1.0 d.2.node.0 in
    let before = breaks.2.0 in
    let after = breaks.2.1 in
    let child = breaks.2.2 in
    let below = breaks.2.3 in
    let is = breaks.2.4 in
    let inside = subst (LiesWithin key) is.bounds_are breaks.2.5 in
    let mine = subst (LiesWithin key) d.2.below_is d.2.leads in
    let split = sym is.split ∙ here.1 ∙ d.2.split.split in
    let same = one_split key before d.2.before after d.2.after is.entry d.2.entry (subst IsRising is.split breaks.1.0.spells.node.rising) split inside.0 (within_none key after bounds.upper inside.1) mine.0 (within_none key d.2.after bounds.upper mine.1) in
    let child_is : child ≡ d.0 = same_address d.2.entry.1 child d.0 (subst (λ (e : Entry). IsAddress e.1 child) same.1 is.address) d.2.address in
    let below_is : below ≡ d.1 = is.bounds_are ∙ ap (λ (e : Entry). child_bounds e after bounds.upper) same.1 ∙ ap (λ (fs : List Entry). child_bounds d.2.entry fs bounds.upper) same.2 ∙ sym d.2.below_is in
    whole_below s level d.0 d.1 steps key leaf b es q d.3 has (subst (λ (a : ℕ). BreaksOnPath s key level a d.1 q) child_is (subst (λ (x : Bounds). BreaksOnPath s key level child x q) below_is breaks.2.6))

pub no_break : (s : Store) (level root : ℕ) (steps : List Step) (key : List ℕ) (leaf : ℕ) (es : List Entry) (b : Bounds) (q : ℕ) → IsPath s level root root_bounds steps key leaf es b → IsBreakOnPath s key root q → ⊥
no_break s level root steps key leaf es b q path (some, inl here) =
    let top = first_node s level root root_bounds steps key 0 leaf b es path.0 path.1 in
    here.1 level top.0 top.1.0 top.1.1
no_break s level root steps key leaf es b q path (some, inr below) =
    let top = first_node s level root root_bounds steps key 0 leaf b es path.0 path.1 in
    let same = (one_node s root below.0 level below.1.0 top.0 below.1.1.0 top.1.0).0 in
    whole_below s level root root_bounds steps key leaf b es q path.0 path.1 (subst (λ (l : ℕ). BreaksOnPath s key l root root_bounds q) same below.2)

-- ---- two paths on one store

-- that some key may take both, end alike
same_last : (s : Store) (level at : ℕ) (bounds : Bounds) (steps steps' : List Step) (key key' : List ℕ) (q q' : ℕ) (b b' : Bounds) (k : List ℕ) → Descends s level at bounds steps key 0 q b → Descends s level at bounds steps' key' 0 q' b' → LiesWithin k b → LiesWithin k b' → b ≡ b'
same_last s level at bounds [] [] key key' q q' b b' k d d' lies lies' = sym d.2 ∙ d'.2
same_last s zero at bounds [] (step' ∷ steps') key key' q q' b b' k d d' lies lies' = absurd d'
same_last s (suc level) at bounds [] (step' ∷ steps') key key' q q' b b' k d d' lies lies' = absurd (let e : suc level ≡ 0 = d.0 in omega arith)
same_last s zero at bounds (step ∷ steps) steps' key key' q q' b b' k d d' lies lies' = absurd d
same_last s (suc level) at bounds (step ∷ steps) [] key key' q q' b b' k d d' lies lies' = absurd (let e : suc level ≡ 0 = d'.0 in omega arith)
same_last s (suc level) at bounds (step ∷ steps) (step' ∷ steps') key key' q q' b b' k d d' lies lies' =
    let es = (one_node s at (suc level) (suc level) step.node.entries step'.node.entries d.2.node.0 d'.2.node.0).1 in
    let first = subst (LiesWithin k) d.2.below_is (path_lies s level d.0 d.1 steps key 0 q b k d.3 lies) in
    let second = subst (LiesWithin k) d'.2.below_is (path_lies s level d'.0 d'.1 steps' key' 0 q' b' k d'.3 lies') in
    let same = one_split k d.2.before d'.2.before d.2.after d'.2.after d.2.entry d'.2.entry (subst IsRising d.2.split.split d.2.node.0.spells.node.rising) (sym d.2.split.split ∙ es ∙ d'.2.split.split) first.0 (within_none k d.2.after bounds.upper first.1) second.0 (within_none k d'.2.after bounds.upper second.1) in
    let child = same_address d'.2.entry.1 d.0 d'.0 (subst (λ (e : Entry). IsAddress e.1 d.0) same.1 d.2.address) d'.2.address in
    let below = d.2.below_is ∙ ap (λ (e : Entry). child_bounds e d.2.after bounds.upper) same.1 ∙ ap (λ (fs : List Entry). child_bounds d'.2.entry fs bounds.upper) same.2 ∙ sym d'.2.below_is in
    same_last s level d'.0 d'.1 steps steps' key key' q q' b b' k (subst (λ (a : ℕ). Descends s level a d'.1 steps key 0 q b) child (subst (λ (x : Bounds). Descends s level d.0 x steps key 0 q b) below d.3)) d'.3 lies lies'

-- The path to the upper bound of a path's leaf comes to the next leaf, of which it is the lower bound.
pub next_lower : (s : Store) (level level' root : ℕ) (steps steps' : List Step) (key u : List ℕ) (leaf leaf' : ℕ) (es es' : List Entry) (b b' : Bounds) → IsPath s level root root_bounds steps key leaf es b → IsPath s level' root root_bounds steps' u leaf' es' b' → b.upper ≡ Some u → b'.lower ≡ u
next_lower s level level' root steps steps' key u leaf leaf' es es' b b' first second upper =
    let top = first_node s level root root_bounds steps key 0 leaf b es first.0 first.1 in
    let top' = first_node s level' root root_bounds steps' u 0 leaf' b' es' second.0 second.1 in
    let level_same = (one_node s root level level' top.0 top'.0 top.1.0 top'.1.0).0 in
    let moved = subst (λ (l : ℕ). Descends s l root root_bounds steps key 0 leaf b) level_same first.0 in
    let low : IsBelow b.lower u = not_above_then_below b.lower key u first.2.0 (subst (IsWithin key) upper first.2.1) in
    let apart : (k : List ℕ) → LiesWithin k b → LiesWithin k b' → ⊥ = λ k lies lies'.
    let same = same_last s level' root root_bounds steps steps' key u leaf leaf' b b' k moved second.0 lies lies' in
    not_below_itself u (subst (IsWithin u) upper (subst (λ (x : Bounds). IsWithin u x.upper) (sym same) second.2.1)) in
    elim (below_or_same b'.lower u second.2.0) [
      | inr same ↦ same
      | inl below ↦ absurd (elim (not_above_or_below b.lower b'.lower) [
        | inl le ↦ apart b'.lower (le, subst (IsWithin b'.lower) (sym upper) below) (IsNotAbove-itself b'.lower, IsWithin-below b'.lower u b'.upper below second.2.1)
        | inr less ↦ apart b.lower (IsNotAbove-itself b.lower, subst (IsWithin b.lower) (sym upper) low) (IsNotAbove-below b'.lower b.lower less, IsWithin-below b.lower u b'.upper low second.2.1)
      ])
    ]
