-- A tree of an object is changed by a space's calls: its onode is found, the tree is changed, then the onode is saved with another count.
use Rattle.std.proofs.Common.{◌≡◌, ◌⊎◌, inl, inr, ℕ, ◌<◌, ◌≤◌, ◌^◌, max, true, List, Option, Some, None, refl, sym, ap, subst, ◌∙◌, arith}
use Rattle.std.specs.FinMap as map
use Rattle.sea_base.specs.Space.{Store, Seen, OnlyRead, laid}
use Rattle.sea_node.specs.Entries.{Values}
use Rattle.sea_object.specs.declared.onode.Onode.{Onode}
use Rattle.sea_object.specs.declared.op.Op.{Op}
use Rattle.sea_object.specs.declared.reply.Item.{Item}
use Rattle.sea_object.specs.declared.reply.Why.{Why}
use Rattle.sea_object.specs.declared.reply.Why.TheVariants.{NoObject}
use Rattle.sea_object.specs.Answer as model
use Rattle.sea_object.specs.Objects.{ObjectValue, ObjectMap}
use Rattle.sea_omap.specs.Calls as omap
use Rattle.sea_onode.specs.Calls as onode
use Rattle.sea_onode.specs.Calls.{NotesMore}
use Rattle.sea_onode.specs.Order.{IsInOrder}
use Rattle.sea_tree.specs.Calls as tree
use Rattle.sea_tree.specs.Changing.{Changed}
use Rattle.sea_tree.proofs.Apart.{IsNodeOf-filled}
use Rattle.sea_tree.proofs.Walks.{one_store}
use Rattle.sea_ops.specs.WellFormed.{IsObjectOf, AreOfOne, IsOwnRoot}
use Rattle.sea_ops.specs.Calls.{Meets, IsDone, Does, Refuses}
use Rattle.sea_ops.proofs.Alike.{HaveSame}
use Rattle.sea_ops.proofs.Asked.{formed_as}
use Rattle.sea_ops.proofs.Frames.{Reshaped, reshaped, root_apart}
use Rattle.sea_ops.proofs.Made.{stands_of}
use Rattle.sea_ops.proofs.Makes.{meets_since}
use Rattle.sea_ops.proofs.Parts.{Part, root_of, count_of, other_count, limit_of, values_of, with_values, own_root, part_has, counts_fit, root_within}
use Rattle.sea_ops.proofs.Turned.{turned, part_changes, fresh_between, onodes_between, filled_between}

pub changed_of : (store : Store) (root : ℕ) (a b : Seen) (content : Values) → tree.Becomes store root a b content → Changed (laid a store) (laid b store) root a.next b.next content
changed_of store root a b content t = record { content = t.content; elsewhere = t.elsewhere; nodes = t.nodes; left = t.left; used = t.used; others = t.others }

-- ---- a tree's change, by whatever calls

-- What stands once the tree was changed, and what the calls told of its content.
pub record IsTurned (store : Store) (root : ℕ) (told : Values → Type 0) (turn : Values → Values) (content : Values) (a b : Seen) : Type 0 where
  pub is_told : told content
  pub tree : Reshaped (laid a store) (laid b store) root a.next b.next (turn content)
  pub own : (at : ℕ) → b.changed at ≡ true → (a.changed at ≡ true) ⊎ omap.IsOwn store root a b at

-- It was changed so, on every store.
abbrev pub Turns : Part → Onode → (Values → Type 0) → (Values → Values) → Seen → Seen → Type 0
Turns part x told turn a b =
    (store : Store) (content : Values) → root_of part x < 2 ^ 64 → omap.Meets store (root_of part x) a b content
    → IsTurned store (root_of part x) told turn content a b

-- one call of the tree does it
pub turns_once : (part : Part) (x : Onode) (told : Values → Type 0) (turn : Values → Values) (a b : Seen) (root : ℕ) → (root_of part x < 2 ^ 64 → root ≡ root_of part x)
    → ((store : Store) (content : Values) → tree.Meets store root a b content → told content × tree.Becomes store root a b (turn content)) → tree.ChangesOwn root a b → Turns part x told turn a b
turns_once part x told turn a b root root_is did own store content small meets =
    subst (λ (r : ℕ). IsTurned store r told turn content a b) (root_is small) (by (did store content (subst (λ (r : ℕ). tree.Meets store r a b content) (sym (root_is small)) meets.tree)))
  where
    by : told content × tree.Becomes store root a b (turn content) → IsTurned store root told turn content a b
    by both = record {
      is_told = both.0;
      tree = reshaped (laid a store) (laid b store) root a.next b.next (turn content) (changed_of store root a b (turn content) both.1);
      own = λ at now. own store at meets.tree.agrees now;
    }

-- What such a change is in the model: an object with other values in one of its trees.
pub record IsTurn (op : Op) (name : List ℕ) (part : Part) (told : Values → Type 0) (turn : Values → Values) (item : Item) : Type 0 where
  pub allowed : (objects : ObjectMap) (o : ObjectValue) → map.get objects name ≡ Some o → map.len (turn (values_of part o)) ≤ limit_of part → model.refusal op objects ≡ None
  pub answers : (objects : ObjectMap) (o : ObjectValue) → map.get objects name ≡ Some o → told (values_of part o) → item ≡ model.item op objects
  pub effect : (objects : ObjectMap) (o : ObjectValue) → map.get objects name ≡ Some o → model.effect op objects ≡ map.insert objects name (with_values part (turn (values_of part o)) o)

-- ---- the object of a name that was found

pub object_is : (store : Store) (x : Onode) (object : Option ObjectValue) → AreOfOne store (Some x) object → (o : ObjectValue) × (object ≡ Some o) × IsObjectOf store x o
object_is store x None is = absurd is
object_is store x (Some o) is = (o, refl, is)

-- an onode and its object stand under a name
pub record HasObject (store : Store) (next : ℕ) (objects : ObjectMap) (old a c : Seen) (name : List ℕ) (x : Onode) (m : Meets store next objects old c) : Type 0 where
  pub here : map.get m.formed.onodes name ≡ Some x
  pub object : ObjectValue
  pub has : map.get objects name ≡ Some object
  pub is : IsObjectOf (laid old store) x object
  pub is_since : IsObjectOf (laid a store) x object
  pub order : IsInOrder (laid old store) next x
  pub small : (part : Part) → root_of part x < 2 ^ 64

pub object_since : (old a c : Seen) (first : OnlyRead old a) (name : List ℕ) (x : Onode) → onode.Finds name old a (Some x) → NotesMore a c → (store : Store) (next : ℕ) (objects : ObjectMap) (m : Meets store next objects old c) → HasObject store next objects old a c name x m
object_since old a c first name x finds notes store next objects m =
    let here : Some x ≡ map.get m.formed.onodes name = finds.onode store m.formed.onodes (record {
      agrees = λ at f e. m.agrees at f (notes at f e);
      onodes = m.formed.order.tree;
      fresh = λ at from below. absurd (omega (arith, from, below, first.next));
    }) in
    let has = object_is (laid old store) x (map.get objects name) (subst (λ (z : Option Onode). AreOfOne (laid old store) z (map.get objects name)) (sym here) (m.formed.each name)) in
    let order = m.formed.order.each name x (sym here) in
    record {
      here = sym here;
      object = has.0;
      has = has.1;
      is = has.2;
      is_since = subst (λ (s : Store). IsObjectOf s x has.0) (sym (one_store first store)) has.2;
      order = order;
      small = λ part. omega (arith, (root_within part x).1, order.high, m.bounded);
    }

-- ---- behind the lookup of the name

module _ (part : Part) (told : Values → Type 0) (turn : Values → Values) (a b c : Seen) (x : Onode) (low : a.next ≤ b.next) (high : b.next ≤ c.next) (turns : Turns part x told turn a b) (notes : NotesMore b c) where
  -- what the change of the tree comes to
  pub is_turned : (name : List ℕ) (store : Store) (next : ℕ) (objects : ObjectMap) (m : Meets store next objects a c) → map.get m.formed.onodes name ≡ Some x → root_of part x < 2 ^ 64 → (o : ObjectValue) → IsObjectOf (laid a store) x o → IsTurned store (root_of part x) told turn (values_of part o) a b
  is_turned name store next objects m here small o is =
      turns store (values_of part o) small (record {
        tree = record {
          agrees = λ at f e. m.agrees at f (notes at f e);
          content = part_has part (laid a store) x o is;
          fresh = λ at from below. (m.fresh at (from, omega (arith, below, high))).empty;
        };
        rooted = root_apart (laid a store) m.formed.onodes (root_of part x) a.next b.next (λ at from below. m.fresh at (from, omega (arith, below, high))) (inr (name, x, here, own_root part x));
      })

module _ (op : Op) (name : List ℕ) (part : Part) (told : Values → Type 0) (turn : Values → Values) (item : Item) (is_turn : IsTurn op name part told turn item) (a b c : Seen) (x y : Onode) (same : HaveSame x y) (others : other_count part y ≡ other_count part x) (low : a.next ≤ b.next) (high : b.next ≤ c.next) (bounded : b.next < 2 ^ 64)
    (turns : Turns part x told turn a b)
    (saves : (store : Store) (onodes : _) → onode.Meets store b c onodes → onode.Saves store name y b c onodes) (then_own : tree.ChangesOwn 1 b c) (notes : NotesMore b c) where
  module _ (store : Store) (next : ℕ) (objects : ObjectMap) (m : Meets store next objects a c) (here : map.get m.formed.onodes name ≡ Some x) where
    small : max next b.next < 2 ^ 64
    small = omega (arith, m.bounded, bounded)

    is_done : root_of part x < 2 ^ 64 → (o : ObjectValue) → map.get objects name ≡ Some o → IsObjectOf (laid a store) x o → (told (values_of part o) → (count_of part y ≡ map.len (turn (values_of part o))) × (count_of part y ≤ limit_of part)) → IsDone op item store next objects a c m
    unfolding formed_as
    is_done root_small o has is counts =
        let f = m.formed in
        let root = root_of part x in
        let did = is_turned part told turn a b c x low high turns notes name store next objects m here root_small o is in
        let counted = counts did.is_told in
        let order = f.order.each name x here in
        let limits = counts_fit part (laid a store) next x y order others counted.1 in
        let content = turn (values_of part o) in
        let own : IsOwnRoot x root = own_root part x in
        let range = root_within part x in
        let p : ObjectValue = with_values part content o in
        let becomes = part_changes (laid a store) (laid b store) next a.next b.next f.onodes root content (stands_of (laid a store) next objects f) (inr (name, x, here, own)) (λ at from below. m.fresh at (from, omega (arith, below, high))) did.tree m.bounded part name x y here refl same others o is counted.0 in
        let onodes = onodes_between (laid a store) (laid b store) next a.next b.next c.next objects f name x here root own (λ at from below. m.fresh at (from, below)) low high content did.tree in
        let meets : onode.Meets store b c f.onodes = record {
          agrees = m.agrees;
          onodes = onodes;
          fresh = λ at from below. (fresh_between (laid a store) (laid b store) next a.next b.next c.next objects f name x here root own (λ q at_least under. m.fresh q (at_least, under)) low high content did.tree at from below).empty;
        } in
        let saved = (saves store f.onodes meets).becomes in
        let both = turned (laid a store) (laid b store) next a.next b.next c.next objects f name x here root own (λ at from below. m.fresh at (from, below)) low high content did.tree (laid c store) small y same limits p becomes saved.content (changed_of store 1 b c saved.content saved.tree) saved.spelled in
        record {
          allowed = is_turn.allowed objects o has (omega (arith, counted.0, counted.1));
          answers = is_turn.answers objects o has did.is_told;
          formed = formed_as (laid c store) (laid c store) (max next c.next) (max next c.next) (map.insert objects name p) (model.effect op objects) both.0 refl (omega arith) (is_turn.effect objects o has);
          leaves = λ at free apart. both.1 at free (λ within. apart within);
          within = λ at now. elim (then_own store at m.agrees now) [
            | inl before ↦ elim (did.own at before) [
              | inl earlier ↦ inl earlier
              | inr (inl at_root) ↦ inr (omega (arith, at_root, order.low, range.0), omega (arith, at_root, order.high, range.1))
              | inr (inr (inl node)) ↦ let there = f.order.filled at (IsNodeOf-filled (laid a store) root at (part_has part (laid a store) x o is).tree node) in inr (there.0, omega (arith, there.1))
              | inr (inr (inr new)) ↦ inr (omega (arith, (m.fresh at (new.0, omega (arith, new.1, high))).low), omega (arith, new.1, high))
            ]
            | inr (inl at_root) ↦ inr (omega (arith, at_root), omega (arith, at_root, f.order.begun))
            | inr (inr (inl node)) ↦
                let there = filled_between (laid a store) (laid b store) next a.next b.next c.next objects f name x here root own (λ q at_least under. m.fresh q (at_least, under)) low high content did.tree at (IsNodeOf-filled (laid b store) 1 at onodes.tree.tree node) in
                inr (there.0, omega (arith, there.1, high))
            | inr (inr (inr new)) ↦ inr (omega (arith, (m.fresh at (omega (arith, new.0, low), new.1)).low), omega (arith, new.1))
          ];
        }

  -- The tree is changed, and the onode saved.
  module _ (old : Seen) (first : OnlyRead old a) (finds : onode.Finds name old a (Some x)) (noted : NotesMore a b) where
    pub turns_done : ((store : Store) (next : ℕ) (objects : ObjectMap) → Meets store next objects old c → (o : ObjectValue) → IsObjectOf (laid old store) x o → told (values_of part o) → (count_of part y ≡ map.len (turn (values_of part o))) × (count_of part y ≤ limit_of part)) → Does op item old c
    unfolding meets_since formed_as
    turns_done counts = record {
      notes = λ at f e. notes at f (noted at f (first.noted at f e));
      rises = omega (arith, first.next, low, high);
      does = λ store next objects m.
          let since = meets_since old a c first store next objects m in
          let found = object_since old a c first name x finds (λ at f e. notes at f (noted at f e)) store next objects m in
          let is = is_done store next objects since found.here (found.small part) found.object found.has found.is_since (counts store next objects m found.object found.is) in
          record {
            allowed = is.allowed;
            answers = is.answers;
            formed = is.formed;
            leaves = λ at free apart. is.leaves at (record { low = free.low; empty = ap (λ (s : Store). s at) (one_store first store) ∙ free.empty; unused = free.unused }) (λ new. apart (omega (arith, new.0, first.next), new.1));
            within = λ at now. elim (is.within at now) [ inl before ↦ inl (sym (first.changed at) ∙ before) | inr there ↦ inr there ];
          };
    }

-- ---- refusals

-- the change of a tree told that the operation is refused
pub turns_refused : (op : Op) (why : Why) (part : Part) (told : Values → Type 0) (turn : Values → Values) (old a b : Seen) (first : OnlyRead old a) (name : List ℕ) (x : Onode) → onode.Finds name old a (Some x) → NotesMore a b → a.next ≤ b.next → Turns part x told turn a b
    → ((store : Store) (objects : ObjectMap) (o : ObjectValue) → map.get objects name ≡ Some o → IsObjectOf store x o → told (values_of part o) → model.refusal op objects ≡ Some why) → Refuses op why old b
unfolding meets_since formed_as
turns_refused op why part told turn old a b first name x finds noted low turns refused = record {
  notes = λ at f e. noted at f (first.noted at f e);
  rises = omega (arith, first.next, low);
  refuses = λ store next objects m.
      let since = meets_since old a b first store next objects m in
      let found = object_since old a b first name x finds noted store next objects m in
      let did = is_turned part told turn a b b x low (omega arith) turns (λ at f e. e) name store next objects since found.here (found.small part) found.object found.is_since in
      refused (laid old store) objects found.object found.has found.is did.is_told;
}

-- a name without an object
pub absent_since : (old a c : Seen) (first : OnlyRead old a) (name : List ℕ) → onode.Finds name old a None → NotesMore a c → (store : Store) (next : ℕ) (objects : ObjectMap) → Meets store next objects old c → map.get objects name ≡ None
absent_since old a c first name finds notes store next objects m =
    let here = finds.onode store m.formed.onodes (record {
      agrees = λ at f e. m.agrees at f (notes at f e);
      onodes = m.formed.order.tree;
      fresh = λ at from below. absurd (omega (arith, from, below, first.next));
    }) in
    none (laid old store) (map.get objects name) (subst (λ (z : Option Onode). AreOfOne (laid old store) z (map.get objects name)) (sym here) (m.formed.each name))
  where
    none : (store : Store) (object : Option ObjectValue) → AreOfOne store None object → object ≡ None
    none store None is = refl
    none store (Some o) is = absurd is

pub no_object : (old new : Seen) (first : OnlyRead old new) (op : Op) (name : List ℕ) → onode.Finds name old new None → ((objects : ObjectMap) → map.get objects name ≡ None → model.refusal op objects ≡ Some NoObject) → Refuses op NoObject old new
no_object old new first op name finds refused = record {
  notes = first.noted;
  rises = omega (arith, first.next);
  refuses = λ store next objects m. refused objects (absent_since old new new first name finds (λ at f e. e) store next objects m);
}
