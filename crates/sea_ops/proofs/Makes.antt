-- An object is made by a space's calls: its addresses are given, then its onode is saved.
use Rattle.std.proofs.Common.{◌≡◌, ◌⊎◌, inl, inr, ℕ, ◌<◌, ◌≤◌, ◌^◌, max, Bool, true, false, cond, List, Option, Some, None, refl, sym, ap, subst, ◌∙◌, arith}
use Rattle.std.proofs.Math.Path.{fun_ext}
use Rattle.std.specs.Ordering.{eq_by_cmp}
use Rattle.std.specs.FinMap as map
use Rattle.std.specs.FinMap.{get-insert, same_map}
use Rattle.sea_base.specs.Space.{Store, Seen, Gives, OnlyRead, laid}
use Rattle.sea_base.proofs.Spaces.{only_read-refl, laid-gives}
use Rattle.sea_node.specs.Entries.{Values, key_order}
use Rattle.sea_node.proofs.Keys.{key_order_total, same_key}
use Rattle.sea_object.specs.declared.onode.Onode.{Onode}
use Rattle.sea_object.specs.declared.op.Op.{Op}
use Rattle.sea_object.specs.declared.op.Op.TheVariants.{Touch}
use Rattle.sea_object.specs.declared.reply.Item.{Item}
use Rattle.sea_object.specs.declared.reply.Item.TheVariants.{Unit as Nothing}
use Rattle.sea_object.specs.Answer as model
use Rattle.sea_object.specs.Objects.{ObjectValue, ObjectMap, empty_object}
use Rattle.sea_onode.specs.Calls as onode
use Rattle.sea_onode.specs.Onodes.{HasOnodes}
use Rattle.sea_tree.specs.Content.{HasContent}
use Rattle.sea_tree.specs.declared.fault.TreeFault.{TreeFault}
use Rattle.sea_tree.specs.Breaks.{FillsFewer}
use Rattle.sea_tree.specs.Calls as tree
use Rattle.sea_tree.specs.Changing.{Changed}
use Rattle.sea_tree.specs.Tree.{IsNodeOf, AreApart}
use Rattle.sea_tree.proofs.Apart.{IsNodeOf-filled}
use Rattle.sea_tree.proofs.Walks.{one_store}
use Rattle.sea_ops.specs.WellFormed.{AreOfOne}
use Rattle.sea_ops.specs.Calls.{Meets, Does, IsMade, Makes, FailsUnlessFull}
use Rattle.sea_ops.proofs.Asked.{formed_as, found}
use Rattle.sea_ops.proofs.Made.{made, tied}

module _ (old mid new : Seen) (g : Gives 4098 old mid) where
  mid_is : (store : Store) → laid mid store ≡ laid old store
  mid_is store = fun_ext (laid-gives g store)

  module _ (store : Store) (next : ℕ) (objects : ObjectMap) (m : Meets store next objects old new) (later : mid.next ≤ new.next) where
    -- the store is one that the save of the onode speaks of
    pub meets_save : onode.Meets store mid new m.formed.onodes
    meets_save = record {
      agrees = m.agrees;
      onodes = subst (λ (s : Store). HasOnodes s m.formed.onodes) (sym (mid_is store)) m.formed.order.tree;
      fresh = λ at from below. laid-gives g store at ∙ (m.fresh at (omega (arith, from, g.next), below)).empty;
    }

    pub meets_tree : tree.Meets store 1 mid new m.formed.order.tree.content
    meets_tree = record {
      agrees = m.agrees;
      content = subst (λ (s : Store). HasContent s 1 m.formed.order.tree.content) (sym (mid_is store)) m.formed.order.tree.tree;
      fresh = λ at from below. laid-gives g store at ∙ (m.fresh at (omega (arith, from, g.next), below)).empty;
    }

    changed : (content : Values) → tree.Becomes store 1 mid new content → Changed (laid old store) (laid new store) 1 mid.next new.next content
    changed content b = record {
      content = b.content;
      elsewhere = λ at other outside side. b.elsewhere at other (λ node. outside (subst (λ (s : Store). IsNodeOf s 1 at) (mid_is store) node)) side ∙ laid-gives g store at;
      nodes = λ at node. subst (λ (s : Store). (at ≡ 1) ⊎ (IsNodeOf s 1 at ⊎ ((mid.next ≤ at) × (at < new.next)))) (mid_is store) (b.nodes at node);
      left = λ at own. b.left at (subst (λ (s : Store). (at ≡ 1) ⊎ (IsNodeOf s 1 at ⊎ ((mid.next ≤ at) × (at < new.next)))) (sym (mid_is store)) own);
      used = b.used;
      others = λ other kept differs has apart side. b.others other kept differs (subst (λ (s : Store). HasContent s other kept) (sym (mid_is store)) has) (subst (λ (s : Store). AreApart s 1 other) (sym (mid_is store)) apart) side;
    }

    pub is_made : (name : List ℕ) (o : Onode) → map.get objects name ≡ None → o ≡ record { base = record { 0 = old.next }; size = 0; attrs = 0; keys = 0 } → mid.next < 2 ^ 64 → onode.Saves store name o mid new m.formed.onodes → tree.ChangesOwn 1 mid new → IsMade name store next objects old new m
    is_made name o none is bounded saves own =
        let b = saves.becomes in
        let base : o.base.0 ≡ old.next = ap (λ (x : Onode). x.base.0) is in
        let both = made (laid old store) (laid new store) next mid.next new.next objects m.formed (omega (arith, m.bounded, bounded)) name o none (ap (λ (x : Onode). x.size) is, ap (λ (x : Onode). x.attrs) is, ap (λ (x : Onode). x.keys) is) (omega (arith, base, g.next)) (λ at from below. m.fresh at (omega (arith, base, from), below)) later b.content (changed b.content b.tree) b.spelled in
        record {
          formed = both.0;
          leaves = λ at free apart. both.1 at free (λ given. apart (omega (arith, base, given.0), given.1));
          within = λ at now. elim (own store at m.agrees now) [
            | inl before ↦ inl (sym (g.changed at) ∙ before)
            | inr (inl root) ↦ inr (omega (arith, root), omega (arith, root, m.formed.order.begun))
            | inr (inr (inl node)) ↦
                let there = m.formed.order.filled at (IsNodeOf-filled (laid old store) 1 at m.formed.order.tree.tree.tree (subst (λ (s : Store). IsNodeOf s 1 at) (mid_is store) node)) in
                inr (there.0, omega (arith, there.1))
            | inr (inr (inr given)) ↦ inr (omega (arith, (m.fresh at (omega (arith, given.0, g.next), given.1)).low), omega (arith, given.1))
          ];
        }

  -- the save of the onode fails where the tree can't grow
  pub make_fails : (name : List ℕ) (fault : TreeFault) → mid.next ≤ new.next → tree.ChangeFailure 1 name mid new fault → FailsUnlessFull (2 ^ 25) old new fault
  make_fails name fault later f store next objects m few =
      f.never_full store m.formed.order.tree.content (meets_tree store next objects m later) (subst (λ (s : Store). FillsFewer s (2 ^ 25)) (sym (mid_is store)) few)

-- ---- behind the lookup of the name

module _ (old mid new : Seen) (first : OnlyRead old mid) where
  unfoldable pub meets_since : (store : Store) (next : ℕ) (objects : ObjectMap) → Meets store next objects old new → Meets store next objects mid new
  unfolding formed_as
  meets_since store next objects m = record {
    agrees = m.agrees;
    formed = formed_as (laid old store) (laid mid store) next next objects objects m.formed (one_store first store) (omega arith) refl;
    bounded = m.bounded;
    fresh = λ at given. let free = m.fresh at (omega (arith, given.0, first.next), given.1) in record { low = free.low; empty = ap (λ (s : Store). s at) (one_store first store) ∙ free.empty; unused = free.unused };
  }

  pub fails_since : (count : ℕ) (fault : TreeFault) → FailsUnlessFull count mid new fault → FailsUnlessFull count old new fault
  fails_since count fault f store next objects m few = f store next objects (meets_since store next objects m) (subst (λ (s : Store). FillsFewer s count) (sym (one_store first store)) few)

  -- a name without an object is touched
  pub touches : (name : List ℕ) → onode.Finds name old mid None → Makes name mid new → Does (Touch name) Nothing old new
  unfolding meets_since formed_as
  touches name finds makes = record {
    notes = λ at f e. makes.notes at f (first.noted at f e);
    rises = omega (arith, first.next, makes.rises);
    does = λ store next objects m.
        let since = meets_since store next objects m in
        let none = absent_object (laid old store) (map.get objects name) (subst (λ (o : Option Onode). AreOfOne (laid old store) o (map.get objects name)) (sym (finds.onode store m.formed.onodes (record {
          agrees = λ at f e. m.agrees at f (makes.notes at f e);
          onodes = m.formed.order.tree;
          fresh = λ at from below. absurd (omega (arith, from, below, first.next));
        }))) (m.formed.each name)) in
        let is = makes.makes store next objects since none in
        record {
          allowed = ap (model.refusal_at (Touch name)) none;
          answers = sym (ap (model.item_at (Touch name)) none);
          formed = formed_as (laid new store) (laid new store) (max next new.next) (max next new.next) (map.insert objects name empty_object) (model.effect (Touch name) objects) is.formed refl (omega arith) (ap (λ (o : Option ObjectValue). model.put_object (Some name) (model.object_after (Touch name) o) objects) none);
          leaves = λ at free apart. is.leaves at (record { low = free.low; empty = ap (λ (s : Store). s at) (one_store first store) ∙ free.empty; unused = free.unused }) (λ given. apart (omega (arith, given.0, first.next), given.1));
          within = λ at now. elim (is.within at now) [ inl before ↦ inl (sym (first.changed at) ∙ before) | inr there ↦ inr there ];
        };
  }
    where
      absent_object : (store : Store) (object : Option ObjectValue) → AreOfOne store None object → object ≡ None
      absent_object store None is = refl
      absent_object store (Some o) is = absurd is

-- what is put in place of itself
pub insert_same : (objects : ObjectMap) (name : List ℕ) (o : ObjectValue) → map.get objects name ≡ Some o → map.insert objects name o ≡ objects
insert_same objects name o has = same_map key_order_total same_key (map.insert objects name o) objects (λ q. get-insert key_order_total objects name o q ∙ by q (eq_by_cmp key_order q name) refl)
  where
    by : (q : List ℕ) (b : Bool) → eq_by_cmp key_order q name ≡ b → cond b (Some o) (map.get objects q) ≡ map.get objects q
    by q true e = sym has ∙ ap (map.get objects) (sym (tied q name e))
    by q false e = refl

there_is : (store : Store) (here : Onode) (object : Option ObjectValue) → AreOfOne store (Some here) object → (o : ObjectValue) × (object ≡ Some o)
there_is store here None is = absurd is
there_is store here (Some o) is = (o, refl)

-- An operation on an object that leaves the objects as they are, and only reads.
pub does_nothing : (op : Op) (item : Item) (old new : Seen) (first : OnlyRead old new) (name : List ℕ) (here : Onode) → onode.Finds name old new (Some here)
    → ((objects : ObjectMap) (o : ObjectValue) → map.get objects name ≡ Some o → (model.refusal op objects ≡ None) × (item ≡ model.item op objects) × (model.effect op objects ≡ objects)) → Does op item old new
unfolding formed_as
does_nothing op item old new first name here finds same = record {
  notes = first.noted;
  rises = omega (arith, first.next);
  does = λ store next objects m.
      let has = there_is (laid old store) here (map.get objects name) (found store next objects old new new first (only_read-refl new) m name (Some here) finds) in
      let is = same objects has.0 has.1 in
      record {
        allowed = is.0;
        answers = is.1;
        formed = formed_as (laid old store) (laid new store) next (max next new.next) objects (model.effect op objects) m.formed (one_store first store) (omega arith) is.2;
        leaves = λ at free apart. record { low = free.low; empty = ap (λ (s : Store). s at) (one_store first store) ∙ free.empty; unused = free.unused };
        within = λ at now. inl (sym (first.changed at) ∙ now);
      };
}

-- a name that has an object is touched
pub touches_there : (old new : Seen) (first : OnlyRead old new) (name : List ℕ) (here : Onode) → onode.Finds name old new (Some here) → Does (Touch name) Nothing old new
touches_there old new first name here finds = does_nothing (Touch name) Nothing old new first name here finds (λ objects o has. (
  ap (model.refusal_at (Touch name)) has,
  sym (ap (model.item_at (Touch name)) has),
  ap (λ (z : Option ObjectValue). model.put_object (Some name) (model.object_after (Touch name) z) objects) has ∙ insert_same objects name o has,
))
