-- An object is made: the store stands with one onode more, and is well formed once that is saved.
use Rattle.std.proofs.Common.{◌≡◌, ◌≢◌, ◌⊎◌, inl, inr, ℕ, ◌+◌, ◌*◌, ◌<◌, ◌≤◌, ◌^◌, max, Bool, true, false, cond, List, [], Option, Some, None, refl, sym, ap, subst, ◌∙◌, arith}
use Rattle.std.specs.Ordering.{eq_by_cmp, is_eq}
use Rattle.std.specs.declared.cmp.Ordering.{Ordering}
use Rattle.std.specs.declared.cmp.Ordering.TheVariants.{Less, Equal, Greater}
use Rattle.std.specs.FinMap as map
use Rattle.std.specs.FinMap.{get-insert, len-empty}
use Rattle.sea_base.specs.Space.{Store}
use Rattle.sea_data.specs.Bytes.{bytes_of, bytes_from}
use Rattle.sea_data.proofs.Bytes.{address_is, bytes_kept}
use Rattle.sea_node.specs.Entries.{Values, key_order}
use Rattle.sea_node.proofs.Keys.{key_order_total, key_order-itself, same_key}
use Rattle.sea_object.specs.declared.onode.Onode.{Onode}
use Rattle.sea_object.specs.Objects.{ObjectValue, ObjectMap, empty_object}
use Rattle.sea_onode.specs.Onodes.{Onodes, AreSpelled, HasOnodes}
use Rattle.sea_onode.specs.Order.{IsInRange, AreInOrder}
use Rattle.sea_onode.proofs.Onodes.{inserted}
use Rattle.sea_tree.specs.Tree.{IsNodeOf}
use Rattle.sea_tree.specs.Content.{HasContent}
use Rattle.sea_tree.specs.Changing.{Changed}
use Rattle.sea_tree.proofs.Apart.{IsNodeOf-filled}
use Rattle.sea_tree.proofs.Contents.{HasContent-empty}
use Rattle.sea_tree.proofs.Holding.{no_node}
use Rattle.sea_ops.specs.WellFormed.{IsObjectOf, AreOfOne, IsOwnRoot, HasOnodeWith, IsRoot, IsDataOf, IsWellFormed}
use Rattle.sea_ops.specs.Calls.{IsFree}
use Rattle.sea_ops.proofs.Frames.{Stands, either, stands_kept, other_kept, data_kept, free_kept}

-- ---- a well-formed store stands

of_one : (store : Store) (onode : Onode) (object : Option ObjectValue) → AreOfOne store (Some onode) object → (root : ℕ) → IsOwnRoot onode root → (content : Values) × HasContent store root content
of_one store onode None is root own = absurd is
of_one store onode (Some o) is root (inl e) = (o.attributes, subst (λ (r : ℕ). HasContent store r o.attributes) (sym e) is.attributes)
of_one store onode (Some o) is root (inr e) = (o.omap, subst (λ (r : ℕ). HasContent store r o.omap) (sym e) is.omap)

trees_of : (store : Store) (next : ℕ) (objects : ObjectMap) (f : IsWellFormed store next objects) (root : ℕ) → IsRoot f.onodes root → (content : Values) × HasContent store root content
trees_of store next objects f root (inl e) = (f.order.tree.content, subst (λ (r : ℕ). HasContent store r f.order.tree.content) (sym e) f.order.tree.tree)
trees_of store next objects f root (inr (name, onode, e, own)) = of_one store onode (map.get objects name) (subst (λ (o : Option Onode). AreOfOne store o (map.get objects name)) e (f.each name)) root own

pub stands_of : (store : Store) (next : ℕ) (objects : ObjectMap) (f : IsWellFormed store next objects) → Stands store next f.onodes
stands_of store next objects f = record {
  begun = f.order.begun;
  ranges = λ name onode e. let o = f.order.each name onode e in (o.low, o.high, o.size);
  apart = f.order.apart;
  bounds = f.order.filled;
  trees = trees_of store next objects f;
  shared = f.shared;
}

equal_order : (o : Ordering) → is_eq o ≡ true → o ≡ Equal
equal_order Less e = absurd (cc)
equal_order Equal e = refl
equal_order Greater e = absurd (cc)

pub tied : (q name : List ℕ) → eq_by_cmp key_order q name ≡ true → q ≡ name
tied q name e = same_key q name (equal_order (key_order q name) e)

one_onode : (onodes : Onodes) (name other : List ℕ) (x y : Onode) → map.get onodes name ≡ Some x → map.get onodes other ≡ Some y → name ≡ other → y ≡ x
one_onode onodes name other x y e f same = let both = sym (ap (map.get onodes) same ∙ f) ∙ e in cc

module _ (store : Store) (next : ℕ) (onodes : Onodes) (s : Stands store next onodes) where
  -- a data block stands at no root
  pub no_root : (name : List ℕ) (onode : Onode) (at : ℕ) → map.get onodes name ≡ Some onode → onode.base.0 + 2 ≤ at → at < onode.base.0 + 4098 → IsRoot onodes at → ⊥
  no_root name onode at e from below (inl one) = omega (arith, one, (s.ranges name onode e).0, from)
  no_root name onode at e from below (inr (other, x, f, inl base)) =
      let same = one_onode onodes name other onode x e f (s.apart name other onode x at e f (omega (arith, from), below) (omega (arith, base), omega (arith, base))) in
      omega (arith, base, ap (λ (o : Onode). o.base.0) same, from)
  no_root name onode at e from below (inr (other, x, f, inr omap)) =
      let same = one_onode onodes name other onode x e f (s.apart name other onode x at e f (omega (arith, from), below) (omega (arith, omap), omega (arith, omap))) in
      omega (arith, omap, ap (λ (o : Onode). o.base.0) same, from)

  unused : (name : List ℕ) (onode : Onode) (i : ℕ) → map.get onodes name ≡ Some onode → i < 4096 → onode.size ≤ 4096 * i → ((q : ℕ) × IsRoot onodes q × IsNodeOf store q (onode.base.0 + 2 + i)) ⊎ HasOnodeWith onodes (λ o. IsDataOf o (onode.base.0 + 2 + i)) → ⊥
  unused name onode i e few past (inl (q, is_root, node)) =
      let at = onode.base.0 + 2 + i in
      let here = s.shared.alone q at is_root node (name, onode, e, (omega arith, omega (arith, few))) in
      no_root name onode at e (omega arith) (omega (arith, few)) (subst (IsRoot onodes) (sym here) is_root)
  unused name onode i e few past (inr (other, x, f, (j, below, is))) =
      let limit = (s.ranges other x f).2 in
      let same = one_onode onodes name other onode x e f (s.apart name other onode x (onode.base.0 + 2 + i) e f (omega arith, omega (arith, few)) (omega (arith, is), omega (arith, is, below, limit))) in
      omega (arith, is, below, past, ap (λ (o : Onode). o.base.0) same, ap (λ (o : Onode). o.size) same)

  -- no data block stands past an object's end
  pub none_past : (name : List ℕ) (onode : Onode) (i : ℕ) → map.get onodes name ≡ Some onode → i < 4096 → onode.size ≤ 4096 * i → store (onode.base.0 + 2 + i) ≡ None
  none_past name onode i e few past = elim (either (store (onode.base.0 + 2 + i))) [ inl empty ↦ empty | inr there ↦ absurd (unused name onode i e few past (s.shared.filled (onode.base.0 + 2 + i) there)) ]

  -- its objects are in order
  pub order_of : HasOnodes store onodes → ((name : List ℕ) (onode : Onode) → map.get onodes name ≡ Some onode → (onode.attrs ≤ 64) × (onode.keys ≤ 10000)) → AreInOrder store next onodes
  order_of tree counts = record {
    tree = tree;
    each = λ name onode e.
        let r = s.ranges name onode e in
        let k = counts name onode e in
        record {
          low = r.0;
          high = r.1;
          size = r.2;
          attrs = k.0;
          keys = k.1;
          past = λ i few past. none_past name onode i e few past;
          alone = λ at within node. omega (arith, s.shared.alone 1 at (inl refl) node (name, onode, e, within), within.0, r.0);
        };
    apart = s.apart;
    begun = s.begun;
    filled = s.bounds;
  }

  -- ---- one object more, at addresses that are free

  module _ (name : List ℕ) (new : Onode) (later : ℕ) (none : map.get onodes name ≡ None) (small : new.size ≡ 0) (free : (at : ℕ) → IsInRange new at → IsFree store onodes at) (le : next ≤ later) (high : new.base.0 + 4098 ≤ later) where
    abbrev all : Onodes
    all = map.insert onodes name new

    still : (q : List ℕ) (x : Onode) → map.get onodes q ≡ Some x → map.get all q ≡ Some x
    still q x e = get-insert key_order_total onodes name new q ∙ by (eq_by_cmp key_order q name) refl
      where
        by : (b : Bool) → eq_by_cmp key_order q name ≡ b → cond b (Some new) (map.get onodes q) ≡ Some x
        by true same = absurd (let here = sym none ∙ ap (map.get onodes) (sym (tied q name same)) ∙ e in cc)
        by false other = e

    still_with : (P : Onode → Type 0) → HasOnodeWith onodes P → HasOnodeWith all P
    still_with P (q, x, e, p) = (q, x, still q x e, p)

    still_root : (root : ℕ) → IsRoot onodes root → IsRoot all root
    still_root root (inl one) = inl one
    still_root root (inr own) = inr (still_with (λ o. IsOwnRoot o root) own)

    own_range : (x : Onode) (root : ℕ) → IsOwnRoot x root → IsInRange x root
    own_range x root (inl base) = (omega (arith, base), omega (arith, base))
    own_range x root (inr omap) = (omega (arith, omap), omega (arith, omap))

    was_with : (P : Onode → Type 0) → HasOnodeWith all P → P new ⊎ HasOnodeWith onodes P
    was_with P (q, x, e, p) = elim (inserted onodes name new q x e) [
      | inl made ↦ inl (subst P (sym made.1) p)
      | inr was ↦ inr (q, x, was, p)
    ]

    was_root : (root : ℕ) → IsRoot all root → IsInRange new root ⊎ IsRoot onodes root
    was_root root (inl one) = inr (inl one)
    was_root root (inr own) = elim (was_with (λ o. IsOwnRoot o root) own) [ inl made ↦ inl (own_range new root made) | inr was ↦ inr (inr was) ]

    no_tree : (root at : ℕ) → IsInRange new root → IsNodeOf store root at → ⊥
    no_tree root at within node = no_node store root at (free root within).empty node

    filled_node : (root at : ℕ) → IsRoot onodes root → IsNodeOf store root at → store at ≢ None
    filled_node root at is_root node = IsNodeOf-filled store root at (s.trees root is_root).1.tree node

    pub stands_more : Stands store later all
    stands_more = record {
      begun = omega (arith, s.begun, le);
      ranges = λ q x e. elim (inserted onodes name new q x e) [
        | inl made ↦ subst (λ (o : Onode). (2 ≤ o.base.0) × (o.base.0 + 4098 ≤ later) × (o.size ≤ 16777216)) made.1 ((free new.base.0 (omega arith, omega arith)).low, high, omega (arith, small))
        | inr was ↦ let r = s.ranges q x was in (r.0, omega (arith, r.1, le), r.2)
      ];
      apart = λ a b x y at e f within within'. elim (inserted onodes name new a x e) [
        | inl one ↦ elim (inserted onodes name new b y f) [
          | inl two ↦ one.0 ∙ sym two.0
          | inr was ↦ absurd ((free at (subst (λ (o : Onode). IsInRange o at) (sym one.1) within)).unused (b, y, was, within'))
        ]
        | inr was ↦ elim (inserted onodes name new b y f) [
          | inl two ↦ absurd ((free at (subst (λ (o : Onode). IsInRange o at) (sym two.1) within')).unused (a, x, was, within))
          | inr was' ↦ s.apart a b x y at was was' within within'
        ]
      ];
      bounds = λ at there. let b = s.bounds at there in (b.0, omega (arith, b.1, le));
      trees = λ root is_root. elim (was_root root is_root) [
        | inl made ↦ (map.empty, HasContent-empty store root (free root made).empty)
        | inr was ↦ s.trees root was
      ];
      shared = record {
        apart = λ a b is_a is_b differs at left right. elim (was_root a is_a) [
          | inl made ↦ no_tree a at made left
          | inr was ↦ elim (was_root b is_b) [ inl made ↦ no_tree b at made right | inr was' ↦ s.shared.apart a b was was' differs at left right ]
        ];
        alone = λ root at is_root node within. elim (was_root root is_root) [
          | inl made ↦ absurd (no_tree root at made node)
          | inr was ↦ elim (was_with (λ o. IsInRange o at) within) [
            | inl made ↦ absurd (filled_node root at was node (free at made).empty)
            | inr old ↦ s.shared.alone root at was node old
          ]
        ];
        filled = λ at there. elim (s.shared.filled at there) [
          | inl node ↦ inl (node.0, still_root node.0 node.1, node.2)
          | inr held ↦ inr (still_with (λ o. IsDataOf o at) held)
        ];
      };
    }

-- without an object there is no onode
pub neither : (store : Store) (onode : Option Onode) (object : Option ObjectValue) → AreOfOne store onode object → object ≡ None → onode ≡ None
neither store None object is e = refl
neither store (Some x) None is e = absurd is
neither store (Some x) (Some o) is e = absurd (cc)

pub no_bytes : (store : Store) (base size : ℕ) → size ≡ 0 → [] ≡ bytes_of store base size
unfolding bytes_from
no_bytes store base size e = ap (bytes_of store base) (sym e)

pub none_counted : map.len (map.empty {K = List ℕ} {X = List ℕ} {R = key_order}) ≡ 0
none_counted = len-empty key_order (List ℕ)

-- ---- the onode of the new object is saved

module _ (was is : Store) (next first last : ℕ) (objects : ObjectMap) (f : IsWellFormed was next objects) (bounded : max next first < 2 ^ 64) (name : List ℕ) (new : Onode) (none : map.get objects name ≡ None) (empty : (new.size ≡ 0) × (new.attrs ≡ 0) × (new.keys ≡ 0)) (ends : new.base.0 + 4098 ≡ first) (given : (at : ℕ) → new.base.0 ≤ at → at < last → IsFree was f.onodes at) (rises : first ≤ last)
    (after : Values) (c : Changed was is 1 first last after) (spelled : AreSpelled after (map.insert f.onodes name new)) where
  stands : Stands was next f.onodes
  stands = stands_of was next objects f

  no_onode : map.get f.onodes name ≡ None
  no_onode = neither was (map.get f.onodes name) (map.get objects name) (f.each name) none

  free : (at : ℕ) → IsInRange new at → IsFree was f.onodes at
  free at within = given at within.0 (omega (arith, within.1, ends, rises))

  wide : Stands was (max next first) (map.insert f.onodes name new)
  wide = stands_more was next f.onodes stands name new (max next first) no_onode empty.0 free (omega arith) (omega (arith, ends))

  beside : (at : ℕ) → (HasOnodeWith f.onodes (λ o. IsInRange o at) → ⊥) → (IsInRange new at → ⊥) → HasOnodeWith (map.insert f.onodes name new) (λ o. IsInRange o at) → ⊥
  beside at others own all = elim (was_with was next f.onodes stands name new (max next first) no_onode empty.0 free (omega arith) (omega (arith, ends)) (λ o. IsInRange o at) all) [
    | inl made ↦ own made
    | inr there ↦ others there
  ]

  -- what comes behind the object's addresses is free beside it too
  fresh : (at : ℕ) → first ≤ at → at < last → IsFree was (map.insert f.onodes name new) at
  fresh at from below =
      let here = given at (omega (arith, from, ends)) below in
      record { low = here.low; empty = here.empty; unused = beside at here.unused (λ within. omega (arith, within.1, ends, from)) }

  kept : Stands is (max (max next first) last) (map.insert f.onodes name new)
  kept = stands_kept was is (max next first) first last (map.insert f.onodes name new) 1 after wide (inl refl) fresh c

  tree_kept : (q : ℕ) → IsRoot (map.insert f.onodes name new) q → q ≢ 1 → (content : Values) → HasContent was q content → HasContent is q content
  tree_kept = other_kept was is (max next first) first last (map.insert f.onodes name new) 1 after wide (inl refl) fresh c

  bytes_stay : (q : List ℕ) (x : Onode) → map.get (map.insert f.onodes name new) q ≡ Some x → bytes_of was x.base.0 x.size ≡ bytes_of is x.base.0 x.size
  bytes_stay q x e =
      let r = wide.ranges q x e in
      bytes_kept was is x.base.0 x.size r.2 (λ i few.
      let at = address_is x.base.0 i few (omega (arith, r.1, bounded)) in
      ap was at ∙ sym (data_kept was is (max next first) first last (map.insert f.onodes name new) 1 after wide (inl refl) fresh c q x (x.base.0 + 2 + i) e (omega arith) (omega (arith, few))) ∙ ap is (sym at))

  object_kept : (q : List ℕ) (x : Onode) → map.get (map.insert f.onodes name new) q ≡ Some x → (o : ObjectValue) → IsObjectOf was x o → IsObjectOf is x o
  object_kept q x e o h =
      let r = wide.ranges q x e in
      record {
        bytes = h.bytes ∙ bytes_stay q x e;
        attributes = tree_kept x.base.0 (inr (q, x, e, inl refl)) (λ one. omega (arith, one, r.0)) o.attributes h.attributes;
        omap = tree_kept (x.base.0 + 1) (inr (q, x, e, inr refl)) (λ one. omega (arith, one, r.0)) o.omap h.omap;
        attrs = h.attrs;
        keys = h.keys;
      }

  here : map.get (map.insert f.onodes name new) name ≡ Some new
  here = get-insert key_order_total f.onodes name new name ∙ ap (λ (b : Bool). cond b (Some new) (map.get f.onodes name)) (ap is_eq (key_order-itself name))

  new_object : IsObjectOf is new empty_object
  new_object =
      let r = wide.ranges name new here in
      record {
        bytes = no_bytes is new.base.0 new.size empty.0;
        attributes = tree_kept new.base.0 (inr (name, new, here, inl refl)) (λ one. omega (arith, one, r.0)) map.empty (HasContent-empty was new.base.0 (free new.base.0 (omega arith, omega arith)).empty);
        omap = tree_kept (new.base.0 + 1) (inr (name, new, here, inr refl)) (λ one. omega (arith, one, r.0)) map.empty (HasContent-empty was (new.base.0 + 1) (free (new.base.0 + 1) (omega arith, omega arith)).empty);
        attrs = empty.1 ∙ sym none_counted;
        keys = empty.2 ∙ sym none_counted;
      }

  still_there : (q : List ℕ) (x : Onode) → map.get f.onodes q ≡ Some x → map.get (map.insert f.onodes name new) q ≡ Some x
  still_there = still was next f.onodes stands name new (max next first) no_onode empty.0 free (omega arith) (omega (arith, ends))

  other_object : (q : List ℕ) (onode : Option Onode) (object : Option ObjectValue) → map.get f.onodes q ≡ onode → AreOfOne was onode object → AreOfOne is onode object
  other_object q None None e h = tt
  other_object q None (Some o) e h = absurd h
  other_object q (Some x) None e h = absurd h
  other_object q (Some x) (Some o) e h = object_kept q x (still_there q x e) o h

  each_now : (q : List ℕ) → AreOfOne is (map.get (map.insert f.onodes name new) q) (map.get (map.insert objects name empty_object) q)
  each_now q =
      subst (λ (x : Option Onode). AreOfOne is x (map.get (map.insert objects name empty_object) q)) (sym (get-insert key_order_total f.onodes name new q))
      (subst (AreOfOne is (cond (eq_by_cmp key_order q name) (Some new) (map.get f.onodes q))) (sym (get-insert key_order_total objects name empty_object q)) (by (eq_by_cmp key_order q name)))
    where
      by : (b : Bool) → AreOfOne is (cond b (Some new) (map.get f.onodes q)) (cond b (Some empty_object) (map.get objects q))
      by true = new_object
      by false = other_object q (map.get f.onodes q) (map.get objects q) refl (f.each q)

  counts_now : (q : List ℕ) (x : Onode) → map.get (map.insert f.onodes name new) q ≡ Some x → (x.attrs ≤ 64) × (x.keys ≤ 10000)
  counts_now q x e = elim (inserted f.onodes name new q x e) [
    | inl made ↦ subst (λ (o : Onode). (o.attrs ≤ 64) × (o.keys ≤ 10000)) made.1 (omega (arith, empty.1), omega (arith, empty.2))
    | inr was_there ↦ let o = f.order.each q x was_there in (o.attrs, o.keys)
  ]

  -- The store is well formed again, with one object more.
  made_formed : IsWellFormed is (max next last) (map.insert objects name empty_object)
  made_formed = record {
    onodes = map.insert f.onodes name new;
    order = subst (λ (n : ℕ). AreInOrder is n (map.insert f.onodes name new)) (omega (arith, rises)) (order_of is (max (max next first) last) (map.insert f.onodes name new) kept (record { content = after; tree = c.content; spelled = spelled }) counts_now);
    each = each_now;
    shared = kept.shared;
  }

  -- What was free and wasn't given is free.
  made_free : (at : ℕ) → IsFree was f.onodes at → ((new.base.0 ≤ at) × (at < last) → ⊥) → IsFree is (map.insert f.onodes name new) at
  made_free at is_free apart =
      free_kept was is (max next first) first last (map.insert f.onodes name new) 1 after wide (inl refl) fresh c at
      (record { low = is_free.low; empty = is_free.empty; unused = beside at is_free.unused (λ within. apart (within.0, omega (arith, within.1, ends, rises))) })
      (λ within. apart (omega (arith, within.0, ends), within.1))

  pub made : (g : IsWellFormed is (max next last) (map.insert objects name empty_object)) × ((at : ℕ) → IsFree was f.onodes at → ((new.base.0 ≤ at) × (at < last) → ⊥) → IsFree is g.onodes at)
  unfolding made_formed
  made = (made_formed, made_free)
