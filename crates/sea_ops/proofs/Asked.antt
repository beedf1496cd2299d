-- Operations that only ask: what they answer on a store, and that they leave it as it is.
use Rattle.std.proofs.Common.{◌≡◌, inl, inr, ℕ, ◌+◌, ◌≤◌, ◌%◌, ◌^◌, true, max, List, [], ◌∷◌, length, filter, take, Option, Some, None, refl, sym, ap, subst, ◌∙◌, arith}
use Rattle.std.proofs.lemmas.List.{take_all}
use Rattle.std.specs.FinMap as map
use Rattle.std.specs.FinMap.{len-entries}
use Rattle.sea_base.specs.Space.{Store, Seen, OnlyRead, laid}
use Rattle.sea_base.proofs.Spaces.{agrees_before}
use Rattle.sea_data.proofs.Bytes.{length-bytes_from}
use Rattle.sea_node.specs.Entries.{Entry, Values}
use Rattle.sea_object.specs.declared.onode.Onode.{Onode}
use Rattle.sea_object.specs.declared.op.Op.{Op}
use Rattle.sea_object.specs.declared.reply.Item.{Item}
use Rattle.sea_object.specs.Answer as model
use Rattle.sea_object.specs.Objects.{ObjectValue, ObjectMap, is_after}
use Rattle.sea_onode.specs.Calls as onode
use Rattle.sea_onode.specs.Spelling.{IsValueOf}
use Rattle.sea_onode.specs.Order.{AreInOrder}
use Rattle.sea_onode.proofs.Order.{order-later}
use Rattle.sea_tree.specs.declared.fault.TreeFault.{TreeFault}
use Rattle.sea_tree.specs.declared.fault.TreeFault.TheVariants.{Space, Broken}
use Rattle.sea_tree.specs.Calls as tree
use Rattle.sea_tree.specs.Content.{HasContent}
use Rattle.sea_tree.specs.Calls.{IsOfSpace}
use Rattle.sea_tree.proofs.Holding.{breaks_from_path, whole_tree}
use Rattle.sea_tree.proofs.Walks.{one_store}
use Rattle.sea_ops.specs.WellFormed.{IsObjectOf, AreOfOne, AreSharedOut, IsWellFormed}
use Rattle.sea_ops.specs.Calls.{Meets, Does, Fails}

-- A store is well formed that is the same, with a later next address, and as the same objects are
-- written.
unfoldable pub formed_as : (s t : Store) (next later : ℕ) (before after : ObjectMap) → IsWellFormed s next before → t ≡ s → next ≤ later → after ≡ before → IsWellFormed t later after
formed_as s t next later before after f is le same = record {
  onodes = f.onodes;
  order = subst (λ (u : Store). AreInOrder u later f.onodes) (sym is) (order-later s next f.onodes f.order later le);
  each = λ name. subst (λ (o : ObjectMap). AreOfOne t (map.get f.onodes name) (map.get o name)) (sym same) (subst (λ (u : Store). AreOfOne u (map.get f.onodes name) (map.get before name)) (sym is) (f.each name));
  shared = subst (λ (u : Store). AreSharedOut u f.onodes) (sym is) f.shared;
}

-- ---- what is asked

allows : (op : Op) → model.refusal_at op None ≡ None → ((o : ObjectValue) → model.overfills op o ≡ None) → (found : Option ObjectValue) → model.refusal_at op found ≡ None
allows op none some None = none
allows op none some (Some o) = some o

-- An operation that only asks is done where its answer is right.
pub asks : (op : Op) (item : Item) (old new : Seen) → OnlyRead old new
    → ((objects : ObjectMap) → model.effect op objects ≡ objects)
    → model.refusal_at op None ≡ None → ((o : ObjectValue) → model.overfills op o ≡ None)
    → ((store : Store) (next : ℕ) (objects : ObjectMap) → Meets store next objects old new → item ≡ model.item op objects)
    → Does op item old new
unfolding formed_as
asks op item old new reads same none some answers = record {
  notes = reads.noted;
  rises = omega (arith, reads.next);
  does = λ store next objects m. record {
    allowed = allows op none some (model.object_of _ objects);
    answers = answers store next objects m;
    formed = formed_as (laid old store) (laid new store) next (max next new.next) objects (model.effect op objects) m.formed (one_store reads store) (omega arith) (same objects);
    leaves = λ at free new_to. record { low = free.low; empty = ap (λ (s : Store). s at) (one_store reads store) ∙ free.empty; unused = free.unused };
    within = λ at changed. inl (sym (reads.changed at) ∙ changed);
  };
}

-- ---- the object of a name

-- an object that is not there
pub absent : (op : Op) (store : Store) (found : Option ObjectValue) → AreOfOne store None found → model.item_at op None ≡ model.item_at op found
absent op store None is = refl
absent op store (Some o) is = absurd is

-- one that is
pub told : (op : Op) (item : Item) (store : Store) (onode : Onode) (found : Option ObjectValue) → AreOfOne store (Some onode) found → ((o : ObjectValue) → IsObjectOf store onode o → item ≡ model.told op o) → item ≡ model.item_at op found
told op item store onode None is tells = absurd is
told op item store onode (Some o) is tells = tells o is

module _ (store : Store) (next : ℕ) (objects : ObjectMap) (old mid new : Seen) (first : OnlyRead old mid) (later : OnlyRead mid new) (m : Meets store next objects old new) where
  -- the store is one that the lookup of a name speaks of
  pub meets_find : onode.Meets store old mid m.formed.onodes
  meets_find = record {
    agrees = agrees_before later m.agrees;
    onodes = m.formed.order.tree;
    fresh = λ at from below. absurd (omega (arith, from, below, first.next));
  }

  -- what was found under a name is the onode of its object
  pub found : (name : List ℕ) (here : Option Onode) → onode.Finds name old mid here → AreOfOne (laid old store) here (map.get objects name)
  found name here finds =
      subst (λ (o : Option Onode). AreOfOne (laid old store) o (map.get objects name)) (sym (finds.onode store m.formed.onodes meets_find)) (m.formed.each name)

  -- and one that a call on a tree behind it speaks of
  pub meets_tree : (root : ℕ) (content : Values) → HasContent (laid old store) root content → tree.Meets store root mid new content
  meets_tree root content has = record {
    agrees = m.agrees;
    content = subst (λ (s : Store). HasContent s root content) (sym (one_store first store)) has;
    fresh = λ at from below. absurd (omega (arith, from, below, later.next));
  }

-- an object is as long as its onode says
pub sized : (store : Store) (onode : Onode) (o : ObjectValue) → IsObjectOf store onode o → onode.size ≡ length o.bytes
sized store onode o is = sym (ap length is.bytes ∙ length-bytes_from store onode.base.0 0 onode.size)

-- the root of its omap, whose address has 64 bits
pub omap_at : (store : Store) (next root : ℕ) (objects : ObjectMap) (old mid new : Seen) (first : OnlyRead old mid) (later : OnlyRead mid new) (m : Meets store next objects old new) (name : List ℕ) (here : Onode) → onode.Finds name old mid (Some here) → root ≡ (here.base.0 + 1) % 2 ^ 64 → root ≡ here.base.0 + 1
omap_at store next root objects old mid new first later m name here finds is =
    let o = m.formed.order.each name here (sym (finds.onode store m.formed.onodes (meets_find store next objects old mid new first later m))) in
    omega (arith, o.high, m.bounded, is)

-- pairs above a bound are those behind it
kept_all : (es : List Entry) → filter (λ e. true) es ≡ es
kept_all [] = refl
kept_all (e ∷ es) = ap (λ (rest : List Entry). e ∷ rest) (kept_all es)

pub pairs_listed : (after : Option (List ℕ)) (content : Values) → tree.pairs_above after content ≡ filter (λ e. is_after after e.0) (map.entries content)
pairs_listed None content = sym (kept_all (map.entries content))
pairs_listed (Some bound) content = refl

-- ---- faults

-- what stands under a name spells an onode, where a store has onodes
spells_one : (value : Option (List ℕ)) (here : Option Onode) → IsValueOf value here → onode.IsNoOnode value → ⊥
spells_one None here is none = none
spells_one (Some bytes) None is none = is
spells_one (Some bytes) (Some x) is none = none x is

-- a lookup of a name ends with faults of the space alone
pub find_fails : (name : List ℕ) (old new : Seen) (fault : TreeFault) → OnlyRead old new → onode.IsFindFault name old new fault → Fails old new fault
find_fails name old new (Space fault) reads cause store next objects m = tt
find_fails name old new (Broken at) reads cause store next objects m = elim cause [
  | inl breaks ↦ whole_tree (laid old store) 1 at.0 m.formed.order.tree.tree.tree (breaks_from_path (laid old store) name 1 at.0 (breaks store m.agrees))
  | inr other ↦
      let content = m.formed.order.tree.content in
      let meets : tree.Meets store 1 old new content = record { agrees = m.agrees; content = m.formed.order.tree.tree; fresh = λ at from below. absurd (omega (arith, from, below, reads.next)) } in
      spells_one (map.get content name) (map.get m.formed.onodes name) (m.formed.order.tree.spelled name) (other.2 store content meets)
]

-- so does a call on a tree of an object that is there
pub object_fails : (fault : TreeFault) (store : Store) (onode : Onode) (found : Option ObjectValue) → AreOfOne store (Some onode) found → ((o : ObjectValue) → IsObjectOf store onode o → IsOfSpace fault) → IsOfSpace fault
object_fails fault store onode None is each = absurd is
object_fails fault store onode (Some o) is each = each o is

pub path_fails : (fault : TreeFault) (root : ℕ) (key : List ℕ) (content : Values) (mid new : Seen) (store : Store) → tree.Meets store root mid new content → tree.IsPathFault root key mid new fault → IsOfSpace fault
path_fails (Space fault) root key content mid new store m cause = tt
path_fails (Broken at) root key content mid new store m cause = whole_tree (laid mid store) root at.0 m.content.tree (breaks_from_path (laid mid store) key root at.0 (cause store m.agrees))

pub range_fails : (fault : TreeFault) (root : ℕ) (from : List ℕ) (content : Values) (mid new : Seen) (store : Store) → tree.Meets store root mid new content → tree.IsRangeFault root from mid new fault → IsOfSpace fault
range_fails (Space fault) root from content mid new store m cause = tt
range_fails (Broken at) root from content mid new store m cause = whole_tree (laid mid store) root at.0 m.content.tree (breaks_from_path (laid mid store) cause.0 root at.0 (cause.3 store m.agrees))

-- all attributes are the first 64
pub all_attributes : (store : Store) (next : ℕ) (objects : ObjectMap) (old mid new : Seen) (first : OnlyRead old mid) (later : OnlyRead mid new) (m : Meets store next objects old new) (name : List ℕ) (here : Onode) → onode.Finds name old mid (Some here) → (o : ObjectValue) → IsObjectOf (laid old store) here o → take 64 (map.entries o.attributes) ≡ map.entries o.attributes
all_attributes store next objects old mid new first later m name here finds o is =
    let order = m.formed.order.each name here (sym (finds.onode store m.formed.onodes (meets_find store next objects old mid new first later m))) in
    take_all 64 (map.entries o.attributes) (omega (arith, order.attrs, is.attrs, len-entries o.attributes))
