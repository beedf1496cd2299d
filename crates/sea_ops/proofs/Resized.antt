-- The data blocks of an open object change, and with them its size: it is open still, and the others are as they were.
use Rattle.std.proofs.Common.{◌≡◌, ◌≢◌, ◌⊎◌, inl, inr, ℕ, ◌+◌, ◌-◌, ◌*◌, ◌<◌, ◌≤◌, ◌^◌, List, Option, Some, None, refl, sym, ap, subst, ◌∙◌, arith}
use Rattle.std.proofs.lemmas.Bool.{cases_lt}
use Rattle.std.specs.FinMap as map
use Rattle.sea_base.specs.Space.{Store}
use Rattle.sea_data.specs.Bytes.{block_address, bytes_of}
use Rattle.sea_data.specs.Ranges.{AtBlock}
use Rattle.sea_data.proofs.Bytes.{address_is, bytes_kept}
use Rattle.sea_node.specs.Entries.{Values}
use Rattle.sea_object.specs.declared.onode.Onode.{Onode}
use Rattle.sea_object.specs.Answer.{with_bytes}
use Rattle.sea_object.specs.Objects.{ObjectValue, ObjectMap}
use Rattle.sea_onode.specs.Onodes.{Onodes}
use Rattle.sea_onode.specs.Order.{IsInRange}
use Rattle.sea_onode.proofs.Onodes.{inserted}
use Rattle.sea_tree.specs.Tree.{IsNodeOf}
use Rattle.sea_tree.specs.Content.{HasContent}
use Rattle.sea_tree.proofs.Apart.{HasContent-kept}
use Rattle.sea_ops.specs.WellFormed.{IsObjectOf, AreOfOne, IsOwnRoot, HasOnodeWith, IsRoot, IsDataOf}
use Rattle.sea_ops.specs.Calls.{IsFree}
use Rattle.sea_ops.proofs.Frames.{Stands, node_on, node_back}
use Rattle.sea_ops.proofs.Made.{no_root}
use Rattle.sea_ops.proofs.Opened.{Opened, put_here, put_other, cases_name}

module _ (was mid : Store) (next : ℕ) (objects : ObjectMap) (saved all : Onodes) (name : List ℕ) (x : Onode) (o : ObjectValue) (p : Opened was next objects saved all name x o) (bounded : next < 2 ^ 64) (size : ℕ) (bytes : List ℕ)
    (small : size ≤ 16777216) (holds : bytes_of mid x.base.0 size ≡ bytes) (past : (i : ℕ) → i < 4096 → size ≤ 4096 * i → mid (block_address x.base.0 i) ≡ None)
    (elsewhere : (at : ℕ) → (AtBlock x.base.0 (λ i. i < 4096) at → ⊥) → mid at ≡ was at) where
  abbrev y : Onode
  y = record x { size = size }

  abbrev now : Onodes
  now = map.insert all name y

  range : (2 ≤ x.base.0) × (x.base.0 + 4098 ≤ next) × (x.size ≤ 16777216)
  range = p.stands.ranges name x p.here

  block_at : (i : ℕ) → i < 4096 → block_address x.base.0 i ≡ x.base.0 + 2 + i
  block_at i few = address_is x.base.0 i few (omega (arith, range.1, bounded))

  -- an address is that of a data block of the object
  abbrev IsBlock : ℕ → Type 0
  IsBlock at = (x.base.0 + 2 ≤ at) × (at < x.base.0 + 4098)

  cases_block : (at : ℕ) → IsBlock at ⊎ (IsBlock at → ⊥)
  cases_block at = elim (cases_lt at (x.base.0 + 2)) [
    | inl before ↦ inr (λ b. omega (arith, b.0, before))
    | inr from ↦ elim (cases_lt at (x.base.0 + 4098)) [ inl below ↦ inl (from, below) | inr behind ↦ inr (λ b. omega (arith, b.1, behind)) ]
  ]

  -- what stands beside them is as it was
  beside : (at : ℕ) → (IsBlock at → ⊥) → mid at ≡ was at
  beside at apart = elsewhere at (λ b. apart (omega (arith, b.2, block_at b.0 b.1), omega (arith, b.1, b.2, block_at b.0 b.1)))

  root_beside : (q : ℕ) → IsRoot all q → IsBlock q → ⊥
  root_beside q is_root b = no_root was next all p.stands name x q p.here b.0 b.1 is_root

  node_beside : (q at : ℕ) → IsRoot all q → IsNodeOf was q at → IsBlock at → ⊥
  node_beside q at is_root node b = root_beside at (subst (IsRoot all) (sym (p.stands.shared.alone q at is_root node (name, x, p.here, (omega (arith, b.0), b.1)))) is_root) b

  module _ (q : ℕ) (is_root : IsRoot all q) where
    same_root : mid q ≡ was q
    same_root = beside q (root_beside q is_root)

    same_node : (at : ℕ) → IsNodeOf was q at → mid at ≡ was at
    same_node at node = beside at (node_beside q at is_root node)

    on : (at : ℕ) → IsNodeOf was q at → IsNodeOf mid q at
    on = node_on was mid q same_root same_node

    back : (at : ℕ) → IsNodeOf mid q at → IsNodeOf was q at
    back = node_back was mid q same_root same_node

    tree_stays : (content : Values) → HasContent was q content → HasContent mid q content
    tree_stays content has = HasContent-kept was mid q same_root same_node content has

  -- ---- the onodes

  was_there : (q : List ℕ) (z : Onode) → map.get now q ≡ Some z → (w : Onode) × (map.get all q ≡ Some w) × (w.base.0 ≡ z.base.0)
  was_there q z e = elim (inserted all name y q z e) [
    | inl made ↦ (x, ap (map.get all) made.0 ∙ p.here, ap (λ (w : Onode). w.base.0) made.1)
    | inr was ↦ (z, was, refl)
  ]

  with_back : (P : Onode → Type 0) → (P y → P x) → HasOnodeWith now P → HasOnodeWith all P
  with_back P to_x (q, z, e, h) = elim (inserted all name y q z e) [
    | inl made ↦ (name, x, p.here, to_x (subst P (sym made.1) h))
    | inr was ↦ (q, z, was, h)
  ]

  with_on : (P : Onode → Type 0) → (P x → P y) → HasOnodeWith all P → HasOnodeWith now P
  with_on P to_y (q, z, e, h) = elim (cases_name q name) [
    | inl same ↦
        let one : z ≡ x = (let both = sym e ∙ ap (map.get all) same ∙ p.here in cc) in
        (name, y, put_here all name y, to_y (subst P one h))
    | inr other ↦ (q, z, put_other all name y q other ∙ e, h)
  ]

  root_back : (root : ℕ) → IsRoot now root → IsRoot all root
  root_back root (inl one) = inl one
  root_back root (inr own) = inr (with_back (λ w. IsOwnRoot w root) (λ h. h) own)

  root_on : (root : ℕ) → IsRoot all root → IsRoot now root
  root_on root (inl one) = inl one
  root_on root (inr own) = inr (with_on (λ w. IsOwnRoot w root) (λ h. h) own)

  -- ---- the store as it stands then

  block_used : (at : ℕ) → mid at ≢ None → IsBlock at → IsDataOf y at
  block_used at filled b = elim (cases_lt (4096 * (at - (x.base.0 + 2))) size) [
    | inl inside ↦ (at - (x.base.0 + 2), inside, omega (arith, b.0))
    | inr behind ↦
        let few : at - (x.base.0 + 2) < 4096 = omega (arith, b.0, b.1) in
        let here : x.base.0 + 2 + (at - (x.base.0 + 2)) ≡ at = omega (arith, b.0) in
        absurd (filled (ap mid (sym (block_at (at - (x.base.0 + 2)) few ∙ here)) ∙ past (at - (x.base.0 + 2)) few behind))
  ]

  used_still : (at : ℕ) → (IsBlock at → ⊥) → ((q : ℕ) × IsRoot all q × IsNodeOf was q at) ⊎ HasOnodeWith all (λ w. IsDataOf w at) → ((q : ℕ) × IsRoot now q × IsNodeOf mid q at) ⊎ HasOnodeWith now (λ w. IsDataOf w at)
  used_still at apart (inl (q, is_root, node)) = inl (q, root_on q is_root, on q is_root at node)
  used_still at apart (inr held) = inr (with_on (λ w. IsDataOf w at) (λ own. absurd (apart (omega (arith, own.2), omega (arith, own.1, own.2, range.2)))) held)

  filled_now : (at : ℕ) → mid at ≢ None → ((q : ℕ) × IsRoot now q × IsNodeOf mid q at) ⊎ HasOnodeWith now (λ w. IsDataOf w at)
  filled_now at filled = elim (cases_block at) [
    | inl b ↦ inr (name, y, put_here all name y, block_used at filled b)
    | inr apart ↦ used_still at apart (p.stands.shared.filled at (λ none. filled (beside at apart ∙ none)))
  ]

  stands_now : Stands mid next now
  stands_now = record {
    begun = p.stands.begun;
    ranges = λ q z e. elim (inserted all name y q z e) [
      | inl made ↦ subst (λ (w : Onode). (2 ≤ w.base.0) × (w.base.0 + 4098 ≤ next) × (w.size ≤ 16777216)) made.1 (range.0, range.1, small)
      | inr was ↦ p.stands.ranges q z was
    ];
    apart = λ a b v w at e f within within'.
        let g = was_there a v e in
        let h = was_there b w f in
        p.stands.apart a b g.0 h.0 at g.1 h.1 (omega (arith, within.0, g.2), omega (arith, within.1, g.2)) (omega (arith, within'.0, h.2), omega (arith, within'.1, h.2));
    bounds = λ at filled. elim (cases_block at) [
      | inl b ↦ (omega (arith, b.0), omega (arith, b.1, range.1))
      | inr apart ↦ p.stands.bounds at (λ none. filled (beside at apart ∙ none))
    ];
    trees = λ q is_root. let h = p.stands.trees q (root_back q is_root) in (h.0, tree_stays q (root_back q is_root) h.0 h.1);
    shared = record {
      apart = λ a b is_a is_b differs at left right. p.stands.shared.apart a b (root_back a is_a) (root_back b is_b) differs at (back a (root_back a is_a) at left) (back b (root_back b is_b) at right);
      alone = λ q at is_root node within. p.stands.shared.alone q at (root_back q is_root) (back q (root_back q is_root) at node) (with_back (λ w. IsInRange w at) (λ h. h) within);
      filled = filled_now;
    };
  }

  -- ---- the objects

  other_stays : (q : List ℕ) → (q ≡ name → ⊥) → (z : Onode) → map.get all q ≡ Some z → (w : ObjectValue) → IsObjectOf was z w → IsObjectOf mid z w
  other_stays q differs z e w h =
      let r = p.stands.ranges q z e in
      record {
        bytes = h.bytes ∙ bytes_kept was mid z.base.0 z.size r.2 (λ i few.
            let at = address_is z.base.0 i few (omega (arith, r.1, bounded)) in
            ap was at ∙ sym (beside (z.base.0 + 2 + i) (λ b. differs (p.stands.apart q name z x (z.base.0 + 2 + i) e p.here (omega arith, omega (arith, few)) (omega (arith, b.0), b.1)))) ∙ ap mid (sym at));
        attributes = tree_stays z.base.0 (inr (q, z, e, inl refl)) w.attributes h.attributes;
        omap = tree_stays (z.base.0 + 1) (inr (q, z, e, inr refl)) w.omap h.omap;
        attrs = h.attrs;
        keys = h.keys;
      }

  each_other : (q : List ℕ) → (q ≡ name → ⊥) → (onode : Option Onode) (object : Option ObjectValue) → map.get all q ≡ onode → AreOfOne was onode object → AreOfOne mid onode object
  each_other q differs None None e h = tt
  each_other q differs None (Some w) e h = absurd h
  each_other q differs (Some z) None e h = absurd h
  each_other q differs (Some z) (Some w) e h = other_stays q differs z e w h

  pub opened_resized : Opened mid next objects saved (map.insert all name (record x { size = size })) name (record x { size = size }) (with_bytes bytes o)
  opened_resized = record {
    stands = stands_now;
    here = put_here all name y;
    object = record {
      bytes = sym holds;
      attributes = tree_stays x.base.0 (inr (name, x, p.here, inl refl)) o.attributes p.object.attributes;
      omap = tree_stays (x.base.0 + 1) (inr (name, x, p.here, inr refl)) o.omap p.object.omap;
      attrs = p.object.attrs;
      keys = p.object.keys;
    };
    tree = record { content = p.tree.content; tree = tree_stays 1 (inl refl) p.tree.content p.tree.tree; spelled = p.tree.spelled };
    others = λ q differs. put_other all name y q differs ∙ p.others q differs;
    each = λ q differs. subst (λ (z : Option Onode). AreOfOne mid z (map.get objects q)) (sym (put_other all name y q differs)) (each_other q differs (map.get all q) (map.get objects q) refl (p.each q differs));
    counts = λ q z e. elim (inserted all name y q z e) [
      | inl made ↦ subst (λ (w : Onode). (w.attrs ≤ 64) × (w.keys ≤ 10000)) made.1 (p.counts name x p.here)
      | inr was ↦ p.counts q z was
    ];
  }

  -- What was free is free.
  pub free_resized : (at : ℕ) → IsFree was all at → IsFree mid (map.insert all name (record x { size = size })) at
  free_resized at free = record {
    low = free.low;
    empty = elim (cases_block at) [
      | inl b ↦ absurd (free.unused (name, x, p.here, (omega (arith, b.0), b.1)))
      | inr apart ↦ beside at apart ∙ free.empty
    ];
    unused = λ used. free.unused (with_back (λ w. IsInRange w at) (λ h. h) used);
  }

  -- What is filled anew is a data block of the object.
  pub filled_resized : (at : ℕ) → mid at ≢ None → (was at ≢ None) ⊎ ((x.base.0 + 2 ≤ at) × (at < x.base.0 + 4098))
  filled_resized at filled = elim (cases_block at) [
    | inl b ↦ inr b
    | inr apart ↦ inl (λ none. filled (beside at apart ∙ none))
  ]
