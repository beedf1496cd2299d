-- An object is open for a change: its onode stands among the others, whether or not the onode tree holds it.
use Rattle.std.proofs.Common.{◌≡◌, ◌⊎◌, inl, inr, ℕ, ◌+◌, ◌≤◌, Bool, true, false, cond, List, Option, Some, None, refl, sym, ap, subst, ◌∙◌, arith}
use Rattle.std.specs.Ordering.{eq_by_cmp, is_eq}
use Rattle.std.specs.FinMap as map
use Rattle.std.specs.FinMap.{get-insert}
use Rattle.sea_base.specs.Space.{Store}
use Rattle.sea_node.specs.Entries.{key_order}
use Rattle.sea_node.proofs.Keys.{key_order_total, key_order-itself}
use Rattle.sea_object.specs.declared.onode.Onode.{Onode}
use Rattle.sea_object.specs.Objects.{ObjectValue, ObjectMap, empty_object}
use Rattle.sea_onode.specs.Onodes.{Onodes, HasOnodes}
use Rattle.sea_onode.specs.Order.{IsInRange}
use Rattle.sea_onode.proofs.Onodes.{inserted}
use Rattle.sea_tree.proofs.Contents.{HasContent-empty}
use Rattle.sea_ops.specs.WellFormed.{IsObjectOf, AreOfOne, IsWellFormed}
use Rattle.sea_ops.specs.Calls.{IsFree}
use Rattle.sea_ops.proofs.Frames.{Stands}
use Rattle.sea_ops.proofs.Made.{stands_of, stands_more, neither, no_bytes, none_counted, tied}

-- ---- what stands under names where one was put

module _ {X : Type 0} (values : map.FinMap key_order X) (name : List ℕ) (value : X) where
  pub put_here : map.get (map.insert values name value) name ≡ Some value
  put_here = get-insert key_order_total values name value name ∙ ap (λ (b : Bool). cond b (Some value) (map.get values name)) (ap is_eq (key_order-itself name))

  pub put_other : (q : List ℕ) → (q ≡ name → ⊥) → map.get (map.insert values name value) q ≡ map.get values q
  put_other q apart = get-insert key_order_total values name value q ∙ by (eq_by_cmp key_order q name) refl
    where
      by : (b : Bool) → eq_by_cmp key_order q name ≡ b → cond b (Some value) (map.get values q) ≡ map.get values q
      by true same = absurd (apart (tied q name same))
      by false other = refl

-- a name is another one or not
pub cases_name : (q name : List ℕ) → (q ≡ name) ⊎ (q ≡ name → ⊥)
cases_name q name = by (eq_by_cmp key_order q name) refl
  where
    by : (b : Bool) → eq_by_cmp key_order q name ≡ b → (q ≡ name) ⊎ (q ≡ name → ⊥)
    by true same = inl (tied q name same)
    by false other = inr (λ e. (let itself = ap (λ (r : List ℕ). eq_by_cmp key_order r name) e ∙ ap is_eq (key_order-itself name) in cc))

-- An object is open in a store of objects: it is that of an onode, which stands among the onodes of
-- the other objects. The onode tree holds these others, and under the object's name another onode,
-- or none.
pub record Opened (store : Store) (next : ℕ) (objects : ObjectMap) (saved all : Onodes) (name : List ℕ) (x : Onode) (o : ObjectValue) : Type 0 where
  pub stands : Stands store next all
  pub here : map.get all name ≡ Some x
  pub object : IsObjectOf store x o
  pub tree : HasOnodes store saved
  pub others : (q : List ℕ) → (q ≡ name → ⊥) → map.get all q ≡ map.get saved q
  pub each : (q : List ℕ) → (q ≡ name → ⊥) → AreOfOne store (map.get all q) (map.get objects q)
  pub counts : (q : List ℕ) (z : Onode) → map.get all q ≡ Some z → (z.attrs ≤ 64) × (z.keys ≤ 10000)

module _ (store : Store) (next : ℕ) (objects : ObjectMap) (f : IsWellFormed store next objects) (name : List ℕ) (x : Onode) where
  -- an object that is there
  pub opened_found : map.get f.onodes name ≡ Some x → (o : ObjectValue) → IsObjectOf store x o → Opened store next objects f.onodes f.onodes name x o
  opened_found here o is = record {
    stands = stands_of store next objects f;
    here = here;
    object = is;
    tree = f.order.tree;
    others = λ q apart. refl;
    each = λ q apart. f.each q;
    counts = λ q z e. let order = f.order.each q z e in (order.attrs, order.keys);
  }

  -- a new one at addresses that are free
  module _ (none : map.get objects name ≡ None) (empty : (x.size ≡ 0) × (x.attrs ≡ 0) × (x.keys ≡ 0)) (free : (at : ℕ) → IsInRange x at → IsFree store f.onodes at) where
    abbrev all : Onodes
    all = map.insert f.onodes name x

    no_onode : map.get f.onodes name ≡ None
    no_onode = neither store (map.get f.onodes name) (map.get objects name) (f.each name) none

    pub opened_fresh : (later : ℕ) → next ≤ later → x.base.0 + 4098 ≤ later → Opened store later objects f.onodes (map.insert f.onodes name x) name x empty_object
    opened_fresh later le high = record {
      stands = stands_more store next f.onodes (stands_of store next objects f) name x later no_onode empty.0 free le high;
      here = put_here f.onodes name x;
      object = record {
        bytes = no_bytes store x.base.0 x.size empty.0;
        attributes = HasContent-empty store x.base.0 (free x.base.0 (omega arith, omega arith)).empty;
        omap = HasContent-empty store (x.base.0 + 1) (free (x.base.0 + 1) (omega arith, omega arith)).empty;
        attrs = empty.1 ∙ sym none_counted;
        keys = empty.2 ∙ sym none_counted;
      };
      tree = f.order.tree;
      others = put_other f.onodes name x;
      each = λ q apart. subst (λ (z : Option Onode). AreOfOne store z (map.get objects q)) (sym (put_other f.onodes name x q apart)) (f.each q);
      counts = λ q z e. elim (inserted f.onodes name x q z e) [
        | inl made ↦ subst (λ (w : Onode). (w.attrs ≤ 64) × (w.keys ≤ 10000)) made.1 (omega (arith, empty.1), omega (arith, empty.2))
        | inr was ↦ let order = f.order.each q z was in (order.attrs, order.keys)
      ];
    }

    -- what is free beside it stays free
    pub free_fresh : (at : ℕ) → IsFree store f.onodes at → (IsInRange x at → ⊥) → IsFree store (map.insert f.onodes name x) at
    free_fresh at is_free apart = record {
      low = is_free.low;
      empty = is_free.empty;
      unused = λ used. elim (inserted f.onodes name x used.0 used.1 used.2) [
        | inl made ↦ apart (subst (λ (w : Onode). IsInRange w at) (sym made.1) used.3)
        | inr was ↦ is_free.unused (used.0, used.1, was, used.3)
      ];
    }
