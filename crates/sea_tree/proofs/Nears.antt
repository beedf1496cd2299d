-- Which addresses are read beside the path to a key.
use Rattle.std.proofs.Common.{◌≡◌, ◌⊎◌, ℕ, zero, suc, List, [], ◌∷◌, ◌++◌, Option, refl, sym, subst, ◌∙◌, inl, inr, arith, append_assoc, length-append}
use Rattle.std.proofs.lemmas.Bool.{cases_eq}
use Rattle.sea_base.specs.Space.{Store, Seen, IsSound, Agrees, laid, OnlyRead, ReadsAtMost}
use Rattle.sea_base.proofs.Spaces.{only_read-refl}
use Rattle.sea_node.specs.Entries.{Entry}
use Rattle.sea_tree.specs.declared.edit.Edit.{Edit}
use Rattle.sea_tree.specs.declared.path.Step.{Step}
use Rattle.sea_tree.specs.Tree.{Bounds, root_bounds, LiesWithin, IsAddress}
use Rattle.sea_tree.specs.Breaks.{HasNode, Child}
use Rattle.sea_tree.specs.Does.{Change, Does}
use Rattle.sea_tree.specs.Place.{Splits}
use Rattle.sea_tree.specs.Rebalanced.{Neighbours, Rebalanced}
use Rattle.sea_tree.specs.Reads.{IsNeighbour, BesidePath, IsNearPath, ReadsPath, ReadsNear, ReadsOnly, ReadsNothing}
use Rattle.sea_tree.specs.Path.{Descends}
use Rattle.sea_tree.proofs.Climbs.{Climbs, step_above}
use Rattle.sea_tree.proofs.Doing.{Does-agrees}
use Rattle.sea_tree.proofs.NearUp.{same_split}
use Rattle.sea_tree.proofs.Paths.{Descends-laid, first_node}
use Rattle.sea_tree.proofs.Walks.{one_store}

-- The neighbour of a child that a key leads to, of a node with these entries.
pub record Beside (entries : List Entry) (upper : Option (List ℕ)) (key : List ℕ) (q : ℕ) : Type 0 where
  pub before : List Entry
  pub after : List Entry
  pub child : ℕ
  pub bounds : Bounds
  pub is : Child entries upper before after child bounds
  pub leads : LiesWithin key bounds
  pub neighbour : IsNeighbour before after q

beside_path : (s : Store) (level at : ℕ) (bounds : Bounds) (steps : List Step) (key : List ℕ) (n q : ℕ) (b : Bounds) (es : List Entry) (c : ℕ) → Descends s level at bounds steps key (suc n) q b → HasNode s (suc n) q b es → Beside es b.upper key c → BesidePath s key level at bounds c
beside_path s zero at bounds [] key n q b es c d node is = absurd (omega (arith, d.0))
beside_path s (suc level) at bounds [] key n q b es c d node is =
    let levels : level ≡ n = omega (arith, d.0) in
    let here : HasNode s (suc level) at bounds es = subst (λ (l : ℕ). HasNode s (suc l) at bounds es) (sym levels) (subst (λ (x : ℕ). HasNode s (suc n) x bounds es) (sym d.1) (subst (λ (e : Bounds). HasNode s (suc n) q e es) (sym d.2) node)) in
    let child : Child es bounds.upper is.before is.after is.child is.bounds = subst (λ (e : Bounds). Child es e.upper is.before is.after is.child is.bounds) (sym d.2) is.is in
    (es, here, (is.before, is.after, is.child, is.bounds, child, is.leads, inl is.neighbour))
beside_path s zero at bounds (step ∷ steps) key n q b es c d node is = absurd d
beside_path s (suc level) at bounds (step ∷ steps) key n q b es c d node is =
    let child : Child step.node.entries bounds.upper d.2.before d.2.after d.0 d.1 = record { entry = d.2.entry; split = d.2.split.split; address = d.2.address; bounds_are = d.2.below_is } in
    (step.node.entries, d.2.node, (d.2.before, d.2.after, d.0, d.1, child, d.2.leads, inr (beside_path s level d.0 d.1 steps key n q b es c d.3 node is)))

pub path_near : (root : ℕ) (key : List ℕ) (old new : Seen) → ReadsPath root key old new → ReadsNear root key old new
path_near root key old new reads at = elim (reads at) [
  | inl same ↦ inl same
  | inr on ↦ inr (λ store agrees. inl (on store agrees))
]

-- ---- a neighbour

pub only_one : {at : ℕ} {old new : Seen} → ReadsAtMost at old new → ReadsOnly at old new
only_one {at} {old} {new} one q = elim (cases_eq q at) [ inl same ↦ inr same | inr other ↦ inl (one.others q other) ]

-- The entries around that of a step, and a neighbour of its child.
record NextTo (step : Step) (q : ℕ) : Type 0 where
  before : List Entry
  entry : Entry
  after : List Entry
  split : Splits step.node.entries step.index before entry after
  neighbour : IsNeighbour before after q

-- what rebalancing a node reads is its neighbour
module _ (level at : ℕ) (entries : List Entry) (step : Step) (old new : Seen) (q : ℕ) where
  neighbour_read : Neighbours level at entries step old new → (new.reads q ≡ old.reads q) ⊎ NextTo step q
  neighbour_read pair = elim pair.sides [
    | inl left ↦ elim (left.4 q) [
      | inl same ↦ inl same
      | inr is ↦ inr (record {
        before = pair.before;
        entry = pair.one;
        after = pair.two ∷ pair.after;
        split = record { split = pair.split; count = sym left.0 };
        neighbour = subst (IsAddress pair.two.1) (sym is) pair.two_address;
      })
    ]
    | inr right ↦ elim (right.5 q) [
      | inl same ↦ inl same
      | inr is ↦ inr (record {
        before = pair.before ++ pair.one ∷ [];
        entry = pair.two;
        after = pair.after;
        split = record { split = pair.split ∙ sym (append_assoc pair.before (pair.one ∷ []) (pair.two ∷ pair.after)); count = omega (arith, right.0, length-append pair.before (pair.one ∷ [])) };
        neighbour = subst (λ (fs : List Entry). IsNeighbour (pair.before ++ pair.one ∷ []) fs q) (sym right.1) (pair.before, pair.one, refl, subst (IsAddress pair.one.1) (sym is) pair.one_address);
      })
    ]
  ]

  rebalanced_read : (changes : List Change) (left : Option Edit) → Rebalanced level at entries step old new changes left → (new.reads q ≡ old.reads q) ⊎ NextTo step q
  rebalanced_read changes left (inl fits) = inl (fits.unread q)
  rebalanced_read changes left (inr (inl split)) = inl (split.unread q)
  rebalanced_read changes left (inr (inr (inl merged))) = neighbour_read merged.pair
  rebalanced_read changes left (inr (inr (inr cut))) = neighbour_read cut.pair

-- ---- a climb

module _ (begun now new : Seen) (root : ℕ) (key : List ℕ) (value : Option (List ℕ)) (sound : IsSound begun) where
  -- a node of the path in hand: what rebalancing it reads is near the path
  pub climb_near : (steps init : List Step) (step : Step) (level at : ℕ) (entries after : List Entry) (changes added : List Change) (left : Option Edit) → steps ≡ init ++ step ∷ [] → Climbs begun now root key value steps level at entries after changes → Does [] now new
      → ReadsNear root key begun now → Rebalanced level at after step now new added left → ReadsNear root key begun new
  climb_near steps init step level at entries after changes added left is climbs0 goes before rebalanced q = elim (rebalanced_read level at after step now new q added left rebalanced) [
    | inl same ↦ elim (before q) [ inl was ↦ inl (same ∙ was) | inr near ↦ inr (λ store agrees. near store (Does-agrees [] goes store agrees)) ]
    | inr next ↦ inr (λ store agrees. near_next store agrees next)
  ]
    where
      near_next : (store : Store) → Agrees store new → NextTo step q → IsNearPath (laid begun store) key root q
      near_next store agrees next =
          let climbs : Climbs begun now root key value (init ++ step ∷ []) level at entries after changes = subst (λ (l : List Step). Climbs begun now root key value l level at entries after changes) is climbs0 in
          let agrees_begun : Agrees store begun = Does-agrees [] climbs.reads store (Does-agrees [] goes store agrees) in
          let above = step_above begun root key init step level at climbs.bounds entries climbs.down in
          let there = Descends-laid begun begun store root key init (suc level) step.at.0 above.asked step.node.entries (only_read-refl begun) sound agrees_begun above.comes in
          let top = first_node (laid begun store) above.comes.top root root_bounds init key (suc level) step.at.0 above.asked step.node.entries there.0 there.1 in
          let down = above.down in
          let same = same_split next.before down.before next.after down.after next.entry down.entry (next.split.count ∙ sym down.split.count) (sym next.split.split ∙ down.split.split) in
          let neighbour : IsNeighbour down.before down.after q = subst (λ (a : List Entry). IsNeighbour a down.after q) same.0 (subst (λ (b : List Entry). IsNeighbour next.before b q) same.2 next.neighbour) in
          let beside : Beside step.node.entries above.asked.upper key q = record {
            before = down.before;
            after = down.after;
            child = at;
            bounds = climbs.bounds;
            is = record { entry = down.entry; split = down.split.split; address = down.address; bounds_are = down.below_is };
            leads = down.leads;
            neighbour = neighbour;
          } in
          inr (inr (above.comes.top, (top.0, top.1), beside_path (laid begun store) above.comes.top root root_bounds init key level step.at.0 above.asked step.node.entries q there.0 there.1 beside))

pub nothing_near : (root : ℕ) (key : List ℕ) (begun now new : Seen) → Does [] now new → ReadsNear root key begun now → ReadsNothing now new → ReadsNear root key begun new
nothing_near root key begun now new goes before same q = elim (before q) [ inl was ↦ inl (same q ∙ was) | inr near ↦ inr (λ store agrees. near store (Does-agrees [] goes store agrees)) ]

-- ---- a whole call

-- the path is read, then what is beside it, and then nothing
pub run_near : (root : ℕ) (key : List ℕ) (old mid planned new : Seen) → OnlyRead old mid → ReadsPath root key old mid → Does [] mid planned → ReadsNear root key mid planned → (changes : List Change) → Does changes planned new → ReadsNothing planned new → ReadsNear root key old new
run_near root key old mid planned new reads path plans near changes writes nothing q = elim (near q) [
  | inl same ↦ elim (path_near root key old mid path q) [
    | inl was ↦ inl (nothing q ∙ same ∙ was)
    | inr on ↦ inr (λ store agrees. on store (Does-agrees [] plans store (Does-agrees changes writes store agrees)))
  ]
  | inr beside ↦ inr (λ store agrees. subst (λ (s : Store). IsNearPath s key root q) (one_store reads store) (beside store (Does-agrees changes writes store agrees)))
]

pub none_near : (root : ℕ) (key : List ℕ) (s : Seen) → ReadsNear root key s s
none_near root key s q = inl refl
