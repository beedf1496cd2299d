-- One tree of an object is changed, and then its onode is saved with other counts: the store is well formed again.
use Rattle.std.proofs.Common.{◌≡◌, ◌≢◌, inl, inr, ℕ, ◌+◌, ◌<◌, ◌≤◌, ◌^◌, max, Bool, true, false, cond, List, Option, Some, None, refl, sym, ap, subst, ◌∙◌, arith}
use Rattle.std.specs.Ordering.{eq_by_cmp, is_eq}
use Rattle.std.specs.FinMap as map
use Rattle.std.specs.FinMap.{get-insert}
use Rattle.sea_base.specs.Space.{Store}
use Rattle.sea_data.specs.Bytes.{bytes_of}
use Rattle.sea_data.proofs.Bytes.{address_is, bytes_kept}
use Rattle.sea_node.specs.Entries.{Values, key_order}
use Rattle.sea_node.proofs.Keys.{key_order_total, key_order-itself}
use Rattle.sea_object.specs.declared.onode.Onode.{Onode}
use Rattle.sea_object.specs.Objects.{ObjectValue, ObjectMap}
use Rattle.sea_onode.specs.Onodes.{Onodes, AreSpelled, HasOnodes}
use Rattle.sea_onode.specs.Order.{IsInRange, AreInOrder}
use Rattle.sea_onode.proofs.Onodes.{inserted}
use Rattle.sea_tree.specs.Content.{HasContent}
use Rattle.sea_tree.specs.Changing.{Changed}
use Rattle.sea_ops.specs.WellFormed.{IsObjectOf, AreOfOne, IsOwnRoot, IsRoot, IsWellFormed}
use Rattle.sea_ops.specs.Calls.{IsFree}
use Rattle.sea_ops.proofs.Alike.{HaveSame, replaced_on, replaced_back, stands_same, free_same}
use Rattle.sea_ops.proofs.Frames.{Stands, Reshaped, reshaped, stands_still, other_stays, data_stays, free_still, stands_kept, free_kept}
use Rattle.sea_ops.proofs.Made.{stands_of, order_of}
use Rattle.sea_ops.proofs.Parts.{Part, Attributes, Omap, root_of, count_of, other_count, with_values}

-- ---- what a change of a tree leaves of the objects

module _ (was is : Store) (next first last : ℕ) (onodes : Onodes) (root : ℕ) (after : Values) (s : Stands was next onodes) (of : IsRoot onodes root) (fresh : (at : ℕ) → first ≤ at → at < last → IsFree was onodes at) (c : Reshaped was is root first last after) (bounded : next < 2 ^ 64) where
  pub bytes_stay : (q : List ℕ) (x : Onode) → map.get onodes q ≡ Some x → bytes_of was x.base.0 x.size ≡ bytes_of is x.base.0 x.size
  bytes_stay q x e =
      let r = s.ranges q x e in
      bytes_kept was is x.base.0 x.size r.2 (λ i few.
      let at = address_is x.base.0 i few (omega (arith, r.1, bounded)) in
      ap was at ∙ sym (data_stays was is next first last onodes root after s of fresh c q x (x.base.0 + 2 + i) e (omega arith) (omega (arith, few))) ∙ ap is (sym at))

  bytes_then : (name : List ℕ) (x y : Onode) → map.get onodes name ≡ Some x → HaveSame x y → (o : ObjectValue) → IsObjectOf was x o → o.bytes ≡ bytes_of is y.base.0 y.size
  bytes_then name x y e same o h = h.bytes ∙ bytes_stay name x e ∙ ap (λ (b : ℕ). bytes_of is b x.size) same.base ∙ ap (bytes_of is y.base.0) same.size

  pub tree_stays : (q : ℕ) → IsRoot onodes q → q ≢ root → (content : Values) → HasContent was q content → HasContent is q content
  tree_stays = other_stays was is next first last onodes root after s of fresh c

  -- an object whose trees are others
  pub object_stays : (q : List ℕ) (x : Onode) → map.get onodes q ≡ Some x → (IsOwnRoot x root → ⊥) → (o : ObjectValue) → IsObjectOf was x o → IsObjectOf is x o
  object_stays q x e others o h = record {
    bytes = h.bytes ∙ bytes_stay q x e;
    attributes = tree_stays x.base.0 (inr (q, x, e, inl refl)) (λ same. others (inl (sym same))) o.attributes h.attributes;
    omap = tree_stays (x.base.0 + 1) (inr (q, x, e, inr refl)) (λ same. others (inr (sym same))) o.omap h.omap;
    attrs = h.attrs;
    keys = h.keys;
  }

  -- an object one of whose trees is the one that changed
  pub part_changes : (part : Part) (name : List ℕ) (x y : Onode) → map.get onodes name ≡ Some x → root ≡ root_of part x → HaveSame x y → other_count part y ≡ other_count part x → (o : ObjectValue) → IsObjectOf was x o → count_of part y ≡ map.len after → IsObjectOf is y (with_values part after o)
  part_changes Attributes name x y e is_root same keys o h counted = record {
    bytes = bytes_then name x y e same o h;
    attributes = subst (λ (r : ℕ). HasContent is r after) (is_root ∙ same.base) c.content;
    omap = subst (λ (r : ℕ). HasContent is (r + 1) o.omap) same.base (tree_stays (x.base.0 + 1) (inr (name, x, e, inr refl)) (λ own. omega (arith, own, is_root)) o.omap h.omap);
    attrs = counted;
    keys = keys ∙ h.keys;
  }
  part_changes Omap name x y e is_root same attrs o h counted = record {
    bytes = bytes_then name x y e same o h;
    attributes = subst (λ (r : ℕ). HasContent is r o.attributes) same.base (tree_stays x.base.0 (inr (name, x, e, inl refl)) (λ own. omega (arith, own, is_root)) o.attributes h.attributes);
    omap = subst (λ (r : ℕ). HasContent is r after) (is_root ∙ ap (λ (n : ℕ). n + 1) same.base) c.content;
    attrs = attrs ∙ h.attrs;
    keys = counted;
  }

-- ---- the tree and then the onode

module _ (was mid : Store) (next first second last : ℕ) (objects : ObjectMap) (f : IsWellFormed was next objects) (name : List ℕ) (x : Onode) (here : map.get f.onodes name ≡ Some x) (root : ℕ) (own : IsOwnRoot x root) (given : (at : ℕ) → first ≤ at → at < last → IsFree was f.onodes at) (early : first ≤ second) (rises : second ≤ last) (content : Values) (turn : Reshaped was mid root first second content) where
  stands : Stands was next f.onodes
  stands = stands_of was next objects f

  of : IsRoot f.onodes root
  of = inr (name, x, here, own)

  fresh : (at : ℕ) → first ≤ at → at < second → IsFree was f.onodes at
  fresh at from below = given at from (omega (arith, below, rises))

  between : Stands mid (max next second) f.onodes
  between = stands_still was mid next first second f.onodes root content stands of fresh turn

  -- what comes behind is free still
  pub fresh_between : (at : ℕ) → second ≤ at → at < last → IsFree mid f.onodes at
  fresh_between at from below = free_still was mid next first second f.onodes root content stands of fresh turn at (given at (omega (arith, early, from)) below) (λ within. omega (arith, within.1, from))

  -- the onode tree holds what it held
  not_one : 1 ≢ root
  not_one e = by own
    where
      by : IsOwnRoot x root → ⊥
      by (inl base) = omega (arith, base, e, (stands.ranges name x here).0)
      by (inr omap) = omega (arith, omap, e, (stands.ranges name x here).0)

  pub onodes_between : HasOnodes mid f.onodes
  onodes_between = record {
    content = f.order.tree.content;
    tree = other_stays was mid next first second f.onodes root content stands of fresh turn 1 (inl refl) not_one f.order.tree.content f.order.tree.tree;
    spelled = f.order.tree.spelled;
  }

  pub filled_between : (at : ℕ) → mid at ≢ None → (1 ≤ at) × (at < max next second)
  filled_between = between.bounds

  -- an object of another name
  other_between : next < 2 ^ 64 → (q : List ℕ) (z : Onode) → map.get f.onodes q ≡ Some z → (q ≡ name → ⊥) → (o : ObjectValue) → IsObjectOf was z o → IsObjectOf mid z o
  other_between small q z e differs o h =
      object_stays was mid next first second f.onodes root content stands of fresh turn small q z e (λ theirs. differs (f.order.apart q name z x root e here (range z theirs) (range x own))) o h
    where
      range : (w : Onode) → IsOwnRoot w root → IsInRange w root
      range w (inl base) = (omega (arith, base), omega (arith, base))
      range w (inr omap) = (omega (arith, omap), omega (arith, omap))

  module _ (is : Store) (bounded : max next second < 2 ^ 64) (y : Onode) (same : HaveSame x y) (limits : (y.attrs ≤ 64) × (y.keys ≤ 10000)) (p : ObjectValue) (becomes : IsObjectOf mid y p) (after : Values) (save : Changed mid is 1 second last after) (spelled : AreSpelled after (map.insert f.onodes name y)) where
    abbrev all : Onodes
    all = map.insert f.onodes name y

    saved : Stands mid (max next second) all
    saved = stands_same mid (max next second) f.onodes all (replaced_on f.onodes name x y here same) (replaced_back f.onodes name x y here same) between

    fresh_saved : (at : ℕ) → second ≤ at → at < last → IsFree mid all at
    fresh_saved at from below = free_same mid f.onodes all (replaced_back f.onodes name x y here same) at (fresh_between at from below)

    kept : Stands is (max (max next second) last) all
    kept = stands_kept mid is (max next second) second last all 1 after saved (inl refl) fresh_saved save

    stays : (q : List ℕ) (z : Onode) → map.get all q ≡ Some z → (o : ObjectValue) → IsObjectOf mid z o → IsObjectOf is z o
    stays q z e o h =
        object_stays mid is (max next second) second last all 1 after saved (inl refl) fresh_saved (reshaped mid is 1 second last after save) bounded q z e (low (saved.ranges q z e).0) o h
      where
        low : 2 ≤ z.base.0 → IsOwnRoot z 1 → ⊥
        low least (inl base) = omega (arith, base, least)
        low least (inr omap) = omega (arith, omap, least)

    got : (q : List ℕ) (b : Bool) → eq_by_cmp key_order q name ≡ b → map.get all q ≡ cond b (Some y) (map.get f.onodes q)
    got q b e = get-insert key_order_total f.onodes name y q ∙ ap (λ (c : Bool). cond c (Some y) (map.get f.onodes q)) e

    differ : (q : List ℕ) → eq_by_cmp key_order q name ≡ false → q ≡ name → ⊥
    differ q apart e = (let yes = itself q name e in absurd (cc))
      where
        itself : (q name : List ℕ) → q ≡ name → eq_by_cmp key_order q name ≡ true
        itself q name e = ap (λ (r : List ℕ). eq_by_cmp key_order r name) e ∙ ap is_eq (key_order-itself name)

    other_object : (q : List ℕ) → eq_by_cmp key_order q name ≡ false → (onode : Option Onode) (object : Option ObjectValue) → map.get f.onodes q ≡ onode → AreOfOne was onode object → AreOfOne is onode object
    other_object q apart None None e h = tt
    other_object q apart None (Some o) e h = absurd h
    other_object q apart (Some z) None e h = absurd h
    other_object q apart (Some z) (Some o) e h = stays q z (got q false apart ∙ e) o (other_between (omega (arith, bounded)) q z e (differ q apart) o h)

    each_now : (q : List ℕ) → AreOfOne is (map.get all q) (map.get (map.insert objects name p) q)
    each_now q =
        subst (λ (z : Option Onode). AreOfOne is z (map.get (map.insert objects name p) q)) (sym (get-insert key_order_total f.onodes name y q))
        (subst (AreOfOne is (cond (eq_by_cmp key_order q name) (Some y) (map.get f.onodes q))) (sym (get-insert key_order_total objects name p q)) (by (eq_by_cmp key_order q name) refl))
      where
        by : (b : Bool) → eq_by_cmp key_order q name ≡ b → AreOfOne is (cond b (Some y) (map.get f.onodes q)) (cond b (Some p) (map.get objects q))
        by true here = stays q y (got q true here) p becomes
        by false apart = other_object q apart (map.get f.onodes q) (map.get objects q) refl (f.each q)

    counts_now : (q : List ℕ) (z : Onode) → map.get all q ≡ Some z → (z.attrs ≤ 64) × (z.keys ≤ 10000)
    counts_now q z e = elim (inserted f.onodes name y q z e) [
      | inl made ↦ subst (λ (o : Onode). (o.attrs ≤ 64) × (o.keys ≤ 10000)) made.1 limits
      | inr was_there ↦ let o = f.order.each q z was_there in (o.attrs, o.keys)
    ]

    -- The store is well formed again, with the object as it became.
    turned_formed : IsWellFormed is (max next last) (map.insert objects name p)
    turned_formed = record {
      onodes = all;
      order = subst (λ (n : ℕ). AreInOrder is n all) (omega (arith, rises)) (order_of is (max (max next second) last) all kept (record { content = after; tree = save.content; spelled = spelled }) counts_now);
      each = each_now;
      shared = kept.shared;
    }

    turned_free : (at : ℕ) → IsFree was f.onodes at → ((first ≤ at) × (at < last) → ⊥) → IsFree is all at
    turned_free at free apart =
        free_kept mid is (max next second) second last all 1 after saved (inl refl) fresh_saved save at
        (free_same mid f.onodes all (replaced_back f.onodes name x y here same) at
        (free_still was mid next first second f.onodes root content stands of fresh turn at free (λ within. apart (within.0, omega (arith, within.1, rises)))))
        (λ within. apart (omega (arith, within.0, early), within.1))

    pub turned : (g : IsWellFormed is (max next last) (map.insert objects name p)) × ((at : ℕ) → IsFree was f.onodes at → ((first ≤ at) × (at < last) → ⊥) → IsFree is g.onodes at)
    unfolding turned_formed
    turned = (turned_formed, turned_free)
