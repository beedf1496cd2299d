-- An object goes with its trees and its data: what stands then, and that the store is well formed without it once its onode is erased.
use Rattle.std.proofs.Common.{◌≡◌, ◌≢◌, ◌⊎◌, inl, inr, ℕ, ◌+◌, ◌<◌, ◌≤◌, ◌^◌, max, Bool, true, false, cond, List, Option, Some, None, refl, sym, ap, subst, ◌∙◌, arith}
use Rattle.std.specs.Ordering.{eq_by_cmp, is_eq}
use Rattle.std.specs.FinMap as map
use Rattle.std.specs.FinMap.{get-remove}
use Rattle.sea_base.specs.Space.{Store}
use Rattle.sea_data.proofs.Bytes.{address_is, bytes_kept}
use Rattle.sea_node.specs.Entries.{Values, key_order}
use Rattle.sea_node.proofs.Keys.{key_order_total, key_order-itself}
use Rattle.sea_object.specs.declared.onode.Onode.{Onode}
use Rattle.sea_object.specs.Objects.{ObjectValue, ObjectMap}
use Rattle.sea_onode.specs.Onodes.{Onodes, AreSpelled, HasOnodes}
use Rattle.sea_onode.specs.Order.{IsInRange}
use Rattle.sea_onode.proofs.Onodes.{not_removed}
use Rattle.sea_tree.specs.Tree.{IsTree, IsNodeOf, AreApart}
use Rattle.sea_tree.specs.Content.{HasContent}
use Rattle.sea_tree.specs.Changing.{Changed}
use Rattle.sea_tree.proofs.Apart.{IsNodeOf-filled, IsNodeOf-root, HasContent-kept}
use Rattle.sea_ops.specs.WellFormed.{IsObjectOf, AreOfOne, IsOwnRoot, HasOnodeWith, IsRoot, IsDataOf, IsWellFormed}
use Rattle.sea_ops.specs.Calls.{IsFree}
use Rattle.sea_ops.proofs.Frames.{Stands, either, node_on, node_back, reshaped, stands_kept, free_kept}
use Rattle.sea_ops.proofs.Made.{stands_of, order_of, tied}
use Rattle.sea_ops.proofs.Turned.{object_stays}

-- ---- what an object holds is dropped

-- an address is that of a node of one of its trees, or of a data block that holds bytes of it
abbrev pub IsHeldBy : Store → Onode → ℕ → Type 0
IsHeldBy store x at = ((root : ℕ) × IsOwnRoot x root × IsNodeOf store root at) ⊎ IsDataOf x at

-- Nothing of it is left, and all else stays.
pub record IsBare (was is : Store) (x : Onode) : Type 0 where
  pub gone : (at : ℕ) → IsHeldBy was x at → is at ≡ None
  pub stays : (at : ℕ) → (IsHeldBy was x at → ⊥) → is at ≡ was at

-- nothing is left of a tree, and all else stays
pub record IsEmptied (was is : Store) (root : ℕ) : Type 0 where
  pub gone : (at : ℕ) → (at ≡ root) ⊎ IsNodeOf was root at → is at ≡ None
  pub stays : (at : ℕ) → at ≢ root → (IsNodeOf was root at → ⊥) → is at ≡ was at

-- the same of the data
pub record IsCutOff (was is : Store) (x : Onode) : Type 0 where
  pub gone : (at : ℕ) → IsDataOf x at → is at ≡ None
  pub stays : (at : ℕ) → IsDataOf x at ⊎ (is at ≡ was at)

module _ (was is : Store) (root : ℕ) (e : IsEmptied was is root) where
  pub fewer_filled : (at : ℕ) → is at ≢ None → was at ≢ None
  fewer_filled at there none = there (e.stays at (λ same. there (e.gone at (inl same))) (λ node. there (e.gone at (inr node))) ∙ none)

  pub still_empty : (at : ℕ) → was at ≡ None → is at ≡ None
  still_empty at none = elim (either (is at)) [ inl empty ↦ empty | inr there ↦ absurd (fewer_filled at there none) ]

  module _ (tree : IsTree was root) (other : ℕ) (kept : Values) (has : HasContent was other kept) (apart : AreApart was root other) (differs : other ≢ root) where
    same_at : (at : ℕ) → IsNodeOf was other at → is at ≡ was at
    same_at at node = e.stays at (λ same. apart at (mine same) node) (λ own. apart at own node)
      where
        mine : at ≡ root → IsNodeOf was root at
        mine same = subst (IsNodeOf was root) (sym same) (IsNodeOf-root was root tree (subst (λ (n : ℕ). was n ≢ None) same (IsNodeOf-filled was other at has.tree node)))

    same_root : is other ≡ was other
    same_root = e.stays other differs (λ own. apart other own (IsNodeOf-root was other has.tree (IsNodeOf-filled was root other tree own)))

    -- another tree keeps its content and its nodes
    pub other_content : HasContent is other kept
    other_content = HasContent-kept was is other same_root same_at kept has

    pub other_on : (at : ℕ) → IsNodeOf was other at → IsNodeOf is other at
    other_on = node_on was is other same_root same_at

    pub other_back : (at : ℕ) → IsNodeOf is other at → IsNodeOf was other at
    other_back = node_back was is other same_root same_at

-- Both trees are dropped, and then the data.
module _ (s0 s1 s2 s3 : Store) (x : Onode) (attributes omap : Values) (one : HasContent s0 x.base.0 attributes) (two : HasContent s0 (x.base.0 + 1) omap) (apart : AreApart s0 x.base.0 (x.base.0 + 1))
    (first : IsEmptied s0 s1 x.base.0) (second : IsEmptied s1 s2 (x.base.0 + 1)) (third : IsCutOff s2 s3 x) where
  differ : x.base.0 + 1 ≢ x.base.0
  differ = λ e. omega (arith, e)

  empty_after : (at : ℕ) → s2 at ≡ None → s3 at ≡ None
  empty_after at none = elim (third.stays at) [ inl held ↦ third.gone at held | inr same ↦ same ∙ none ]

  empty_between : (at : ℕ) → s1 at ≡ None → s3 at ≡ None
  empty_between at none = empty_after at (still_empty s1 s2 (x.base.0 + 1) second at none)

  bare_gone : (at : ℕ) → IsHeldBy s0 x at → s3 at ≡ None
  bare_gone at (inl (root, inl base, node)) = empty_between at (first.gone at (inr (subst (λ (r : ℕ). IsNodeOf s0 r at) base node)))
  bare_gone at (inl (root, inr omap_root, node)) =
      empty_after at (second.gone at (inr (other_on s0 s1 x.base.0 first one.tree (x.base.0 + 1) omap two apart differ at (subst (λ (r : ℕ). IsNodeOf s0 r at) omap_root node))))
  bare_gone at (inr held) = third.gone at held

  module _ (at : ℕ) (others : IsHeldBy s0 x at → ⊥) (there : s0 at ≢ None) where
    not_own : (root : ℕ) → IsOwnRoot x root → IsTree s0 root → at ≡ root → ⊥
    not_own root own tree same = others (inl (root, own, subst (IsNodeOf s0 root) (sym same) (IsNodeOf-root s0 root tree (subst (λ (n : ℕ). s0 n ≢ None) same there))))

    first_stays : s1 at ≡ s0 at
    first_stays = first.stays at (not_own x.base.0 (inl refl) one.tree) (λ node. others (inl (x.base.0, inl refl, node)))

    second_stays : s2 at ≡ s1 at
    second_stays = second.stays at (not_own (x.base.0 + 1) (inr refl) two.tree) (λ node. others (inl (x.base.0 + 1, inr refl, other_back s0 s1 x.base.0 first one.tree (x.base.0 + 1) omap two apart differ at node)))

    all_stay : s3 at ≡ s0 at
    all_stay = elim (third.stays at) [ inl held ↦ absurd (others (inr held)) | inr same ↦ same ∙ second_stays ∙ first_stays ]

  pub bare : IsBare s0 s3 x
  bare = record {
    gone = bare_gone;
    stays = λ at others. elim (either (s0 at)) [
      | inl none ↦ empty_between at (still_empty s0 s1 x.base.0 first at none) ∙ sym none
      | inr there ↦ all_stay at others there
    ];
  }

-- ---- the store then stands with the onodes of the others

root_range : (x : Onode) (root : ℕ) → IsOwnRoot x root → IsInRange x root
root_range x root (inl base) = (omega (arith, base), omega (arith, base))
root_range x root (inr omap) = (omega (arith, omap), omega (arith, omap))

itself : (q name : List ℕ) → q ≡ name → eq_by_cmp key_order q name ≡ true
itself q name e = ap (λ (r : List ℕ). eq_by_cmp key_order r name) e ∙ ap is_eq (key_order-itself name)

module _ (was is : Store) (next : ℕ) (onodes : Onodes) (name : List ℕ) (x : Onode) (s : Stands was next onodes) (here : map.get onodes name ≡ Some x) (c : IsBare was is x) (bounded : next < 2 ^ 64) where
  abbrev rest : Onodes
  rest = map.remove onodes name

  of : (root : ℕ) → IsOwnRoot x root → IsRoot onodes root
  of root own = inr (name, x, here, own)

  data_range : (at : ℕ) → IsDataOf x at → IsInRange x at
  data_range at (i, below, is_it) = (omega (arith, is_it), omega (arith, is_it, below, (s.ranges name x here).2))

  -- an onode that is left, is that of another name
  another : (q : List ℕ) (z : Onode) → map.get rest q ≡ Some z → q ≡ name → ⊥
  another q z e same =
      let none : map.get rest q ≡ None = get-remove key_order_total onodes name q ∙ ap (λ (b : Bool). cond b None (map.get onodes q)) (itself q name same) in
      absurd (let both = sym none ∙ e in cc)

  was_there : (q : List ℕ) (z : Onode) → map.get rest q ≡ Some z → map.get onodes q ≡ Some z
  was_there = not_removed onodes name

  still_there : (q : List ℕ) (z : Onode) → map.get onodes q ≡ Some z → (q ≡ name → ⊥) → map.get rest q ≡ Some z
  still_there q z e differs = get-remove key_order_total onodes name q ∙ by (eq_by_cmp key_order q name) refl
    where
      by : (b : Bool) → eq_by_cmp key_order q name ≡ b → cond b None (map.get onodes q) ≡ Some z
      by true same = absurd (differs (tied q name same))
      by false other = e

  it_is : (q : List ℕ) (z : Onode) → map.get onodes q ≡ Some z → q ≡ name → z ≡ x
  it_is q z e same = let both = sym e ∙ ap (map.get onodes) same ∙ here in cc

  -- addresses are of one name alone
  not_both : (q : List ℕ) (z : Onode) (at : ℕ) → map.get rest q ≡ Some z → IsInRange z at → IsInRange x at → ⊥
  not_both q z at e theirs mine = another q z e (s.apart q name z x at (was_there q z e) here theirs mine)

  was_root : (q : ℕ) → IsRoot rest q → IsRoot onodes q
  was_root q (inl one) = inl one
  was_root q (inr (n, z, e, own)) = inr (n, z, was_there n z e, own)

  outside : (q : ℕ) → IsRoot rest q → IsInRange x q → ⊥
  outside q (inl one) within = omega (arith, one, within.0, (s.ranges name x here).0)
  outside q (inr (n, z, e, own)) within = not_both n z q e (root_range z q own) within

  was_with : (P : Onode → Type 0) → HasOnodeWith rest P → HasOnodeWith onodes P
  was_with P (n, z, e, p) = (n, z, was_there n z e, p)

  module _ (q : ℕ) (is_root : IsRoot rest q) where
    tree : IsTree was q
    tree = (s.trees q (was_root q is_root)).1.tree

    not_held : (at : ℕ) → IsNodeOf was q at → IsHeldBy was x at → ⊥
    not_held at node (inl (root, own, mine)) =
        s.shared.apart q root (was_root q is_root) (of root own) (λ same. outside q is_root (subst (IsInRange x) (sym same) (root_range x root own))) at node mine
    not_held at node (inr held) =
        let within = data_range at held in
        outside q is_root (subst (IsInRange x) (s.shared.alone q at (was_root q is_root) node (name, x, here, within)) within)

    root_not_held : IsHeldBy was x q → ⊥
    root_not_held (inl (root, own, mine)) = not_held q (IsNodeOf-root was q tree (IsNodeOf-filled was root q (s.trees root (of root own)).1.tree mine)) (inl (root, own, mine))
    root_not_held (inr held) = outside q is_root (data_range q held)

    same_node : (at : ℕ) → IsNodeOf was q at → is at ≡ was at
    same_node at node = c.stays at (not_held at node)

    pub tree_stays : (content : Values) → HasContent was q content → HasContent is q content
    tree_stays = HasContent-kept was is q (c.stays q root_not_held) same_node

    on : (at : ℕ) → IsNodeOf was q at → IsNodeOf is q at
    on = node_on was is q (c.stays q root_not_held) same_node

    back : (at : ℕ) → IsNodeOf is q at → IsNodeOf was q at
    back = node_back was is q (c.stays q root_not_held) same_node

  pub fewer_left : (at : ℕ) → is at ≢ None → was at ≢ None
  fewer_left at there none = there (c.stays at (λ held. there (c.gone at held)) ∙ none)

  left_filled : (at : ℕ) → is at ≢ None → ((q : ℕ) × IsRoot onodes q × IsNodeOf was q at) ⊎ HasOnodeWith onodes (λ onode. IsDataOf onode at) → ((q : ℕ) × IsRoot rest q × IsNodeOf is q at) ⊎ HasOnodeWith rest (λ onode. IsDataOf onode at)
  left_filled at there (inl (q, inl one, node)) = inl (q, inl one, on q (inl one) at node)
  left_filled at there (inl (q, inr (n, z, e, own), node)) =
      let is_root : IsRoot rest q = inr (n, z, still_there n z e (λ same. there (c.gone at (inl (q, subst (λ (o : Onode). IsOwnRoot o q) (it_is n z e same) own, node)))), own) in
      inl (q, is_root, on q is_root at node)
  left_filled at there (inr (n, z, e, held)) =
      inr (n, z, still_there n z e (λ same. there (c.gone at (inr (subst (λ (o : Onode). IsDataOf o at) (it_is n z e same) held)))), held)

  pub stands_without : Stands is next rest
  stands_without = record {
    begun = s.begun;
    ranges = λ q z e. s.ranges q z (was_there q z e);
    apart = λ a b y z at e f. s.apart a b y z at (was_there a y e) (was_there b z f);
    bounds = λ at there. s.bounds at (fewer_left at there);
    trees = λ q is_root. let had = s.trees q (was_root q is_root) in (had.0, tree_stays q is_root had.0 had.1);
    shared = record {
      apart = λ a b is_a is_b differs at left right. s.shared.apart a b (was_root a is_a) (was_root b is_b) differs at (back a is_a at left) (back b is_b at right);
      alone = λ q at is_root node within. s.shared.alone q at (was_root q is_root) (back q is_root at node) (was_with (λ o. IsInRange o at) within);
      filled = λ at there. left_filled at there (s.shared.filled at (fewer_left at there));
    };
  }

  data_not_held : (q : List ℕ) (z : Onode) → map.get rest q ≡ Some z → (at : ℕ) → IsInRange z at → IsHeldBy was x at → ⊥
  data_not_held q z e at within (inl (root, own, mine)) =
      not_both q z at e within (subst (IsInRange x) (sym (s.shared.alone root at (of root own) mine (q, z, was_there q z e, within))) (root_range x root own))
  data_not_held q z e at within (inr held) = not_both q z at e within (data_range at held)

  pub other_stays : (q : List ℕ) (z : Onode) → map.get rest q ≡ Some z → (o : ObjectValue) → IsObjectOf was z o → IsObjectOf is z o
  other_stays q z e o h =
      let r = s.ranges q z (was_there q z e) in
      record {
        bytes = h.bytes ∙ bytes_kept was is z.base.0 z.size r.2 (λ i few.
            let at = address_is z.base.0 i few (omega (arith, r.1, bounded)) in
            ap was at ∙ sym (c.stays (z.base.0 + 2 + i) (data_not_held q z e (z.base.0 + 2 + i) (omega arith, omega (arith, few)))) ∙ ap is (sym at));
        attributes = tree_stays z.base.0 (inr (q, z, e, inl refl)) o.attributes h.attributes;
        omap = tree_stays (z.base.0 + 1) (inr (q, z, e, inr refl)) o.omap h.omap;
        attrs = h.attrs;
        keys = h.keys;
      }

  -- what was free is free still
  pub free_without : (at : ℕ) → IsFree was onodes at → IsFree is rest at
  free_without at free = record {
    low = free.low;
    empty = elim (either (is at)) [ inl empty ↦ empty | inr there ↦ absurd (fewer_left at there free.empty) ];
    unused = λ used. free.unused (was_with (λ o. IsInRange o at) used);
  }

  -- the onode tree holds what it held
  pub onodes_stay : HasOnodes was onodes → HasOnodes is onodes
  onodes_stay had = record { content = had.content; tree = tree_stays 1 (inl refl) had.content had.tree; spelled = had.spelled }

-- ---- and then its onode is erased

module _ (was mid is : Store) (next first last : ℕ) (objects : ObjectMap) (f : IsWellFormed was next objects) (name : List ℕ) (x : Onode) (here : map.get f.onodes name ≡ Some x) (c : IsBare was mid x) (bounded : next < 2 ^ 64) (given : (at : ℕ) → first ≤ at → at < last → IsFree was f.onodes at)
    (after : Values) (erase : Changed mid is 1 first last after) (spelled : AreSpelled after (map.remove f.onodes name)) where
  abbrev left : Onodes
  left = map.remove f.onodes name

  stood : Stands was next f.onodes
  stood = stands_of was next objects f

  bared : Stands mid next left
  bared = stands_without was mid next f.onodes name x stood here c bounded

  fresh : (at : ℕ) → first ≤ at → at < last → IsFree mid left at
  fresh at from below = free_without was mid next f.onodes name x stood here c bounded at (given at from below)

  kept : Stands is (max next last) left
  kept = stands_kept mid is next first last left 1 after bared (inl refl) fresh erase

  stays : (q : List ℕ) (z : Onode) → map.get left q ≡ Some z → (o : ObjectValue) → IsObjectOf was z o → IsObjectOf is z o
  stays q z e o h =
      object_stays mid is next first last left 1 after bared (inl refl) fresh (reshaped mid is 1 first last after erase) bounded q z e (low (bared.ranges q z e).0) o (other_stays was mid next f.onodes name x stood here c bounded q z e o h)
    where
      low : 2 ≤ z.base.0 → IsOwnRoot z 1 → ⊥
      low least (inl base) = omega (arith, base, least)
      low least (inr omap) = omega (arith, omap, least)

  other_object : (q : List ℕ) → eq_by_cmp key_order q name ≡ false → (onode : Option Onode) (object : Option ObjectValue) → map.get f.onodes q ≡ onode → AreOfOne was onode object → AreOfOne is onode object
  other_object q apart None None e h = tt
  other_object q apart None (Some o) e h = absurd h
  other_object q apart (Some z) None e h = absurd h
  other_object q apart (Some z) (Some o) e h = stays q z (get-remove key_order_total f.onodes name q ∙ ap (λ (b : Bool). cond b None (map.get f.onodes q)) apart ∙ e) o h

  each_now : (q : List ℕ) → AreOfOne is (map.get left q) (map.get (map.remove objects name) q)
  each_now q =
      subst (λ (z : Option Onode). AreOfOne is z (map.get (map.remove objects name) q)) (sym (get-remove key_order_total f.onodes name q))
      (subst (AreOfOne is (cond (eq_by_cmp key_order q name) None (map.get f.onodes q))) (sym (get-remove key_order_total objects name q)) (by (eq_by_cmp key_order q name) refl))
    where
      by : (b : Bool) → eq_by_cmp key_order q name ≡ b → AreOfOne is (cond b None (map.get f.onodes q)) (cond b None (map.get objects q))
      by true same = tt
      by false apart = other_object q apart (map.get f.onodes q) (map.get objects q) refl (f.each q)

  removed_formed : IsWellFormed is (max next last) (map.remove objects name)
  removed_formed = record {
    onodes = left;
    order = order_of is (max next last) left kept (record { content = after; tree = erase.content; spelled = spelled }) (λ q z e. let o = f.order.each q z (not_removed f.onodes name q z e) in (o.attrs, o.keys));
    each = each_now;
    shared = kept.shared;
  }

  removed_free : (at : ℕ) → IsFree was f.onodes at → ((first ≤ at) × (at < last) → ⊥) → IsFree is left at
  removed_free at free apart =
      free_kept mid is next first last left 1 after bared (inl refl) fresh erase at (free_without was mid next f.onodes name x stood here c bounded at free) apart

  -- The store is well formed, without the object.
  pub removed : (g : IsWellFormed is (max next last) (map.remove objects name)) × ((at : ℕ) → IsFree was f.onodes at → ((first ≤ at) × (at < last) → ⊥) → IsFree is g.onodes at)
  unfolding removed_formed
  removed = (removed_formed, removed_free)
