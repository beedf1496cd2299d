-- A range of keys is taken out of an object's omap: the keys are found, and taken as keys that are named.
use Rattle.std.proofs.Common.{◌≡◌, inl, inr, ℕ, ◌+◌, ◌<◌, ◌^◌, max, List, [], length, take, Option, Some, None, refl, sym, ap, subst, ◌∙◌, arith}
use Rattle.std.proofs.lemmas.List.{take_all}
use Rattle.std.specs.FinMap as map
use Rattle.sea_base.specs.Space.{Store, Seen, OnlyRead, laid}
use Rattle.sea_base.proofs.Spaces.{only_read-trans}
use Rattle.sea_node.specs.Entries.{Values, IsBelow}
use Rattle.sea_object.specs.declared.onode.Onode.{Onode}
use Rattle.sea_object.specs.declared.op.Op.{Op}
use Rattle.sea_object.specs.declared.op.Op.TheVariants.{OmapRmKeys, OmapRmKeyRange}
use Rattle.sea_object.specs.declared.reply.Item.{Item}
use Rattle.sea_object.specs.declared.reply.Item.TheVariants.{Number}
use Rattle.sea_object.specs.declared.reply.Why.{Why}
use Rattle.sea_object.specs.Answer as model
use Rattle.sea_object.specs.Objects.{ObjectValue, ObjectMap, without_keys, keys_between}
use Rattle.sea_object.proofs.Order.{filter_none, none_between}
use Rattle.sea_onode.specs.Calls as onode
use Rattle.sea_tree.specs.declared.fault.TreeFault.{TreeFault}
use Rattle.sea_tree.specs.Calls as tree
use Rattle.sea_tree.specs.Calls.{IsOfSpace}
use Rattle.sea_tree.proofs.Walks.{one_store}
use Rattle.sea_ops.specs.Calls.{Meets, Does, Refuses, Fails}
use Rattle.sea_ops.proofs.Asked.{formed_as, found, meets_tree, object_fails}
use Rattle.sea_ops.proofs.Makes.{meets_since, does_nothing, insert_same}
use Rattle.sea_ops.proofs.Parts.{Omap, root_of}
use Rattle.sea_ops.proofs.Turns.{object_since}

-- ---- no key is in the range

module _ (old new : Seen) (first : OnlyRead old new) (name : List ℕ) (x : Onode) (finds : onode.Finds name old new (Some x)) (from to : List ℕ) (bound : ℕ) (apart : IsBelow from to → ⊥) where
  none_there : (content : Values) → keys_between from to bound content ≡ []
  none_there content = ap (take bound) (filter_none _ (none_between from to apart) (map.keys content)) ∙ take_all bound [] (omega arith)

  pub takes_none : Does (OmapRmKeyRange name from to bound) (Number 0) old new
  takes_none =
      let op = OmapRmKeyRange name from to bound in
      does_nothing op (Number 0) old new first name x finds (λ objects o has. (
        ap (model.refusal_at op) has,
        ap (λ (ks : List (List ℕ)). Number (length ks)) (sym (none_there o.omap)) ∙ sym (ap (model.item_at op) has),
        ap (λ (z : Option ObjectValue). model.put_object (Some name) (model.object_after op z) objects) has
            ∙ ap (λ (ks : List (List ℕ)). map.insert objects name (record o { omap = without_keys ks o.omap })) (none_there o.omap)
            ∙ insert_same objects name o has,
      ))

-- ---- the keys of the range are named

module _ (old mid a : Seen) (first : OnlyRead old mid) (later : OnlyRead mid a) (name : List ℕ) (x : Onode) (finds : onode.Finds name old mid (Some x)) (root : ℕ) (root_is : root_of Omap x < 2 ^ 64 → root ≡ root_of Omap x) where
  -- they are looked for in the omap
  pub keys_fail : (fault : TreeFault) → ((store : Store) (content : Values) → tree.Meets store root mid a content → IsOfSpace fault) → Fails old a fault
  keys_fail fault blames store next objects m =
      object_fails fault (laid old store) x (map.get objects name) (found store next objects old mid a first later m name (Some x) finds)
      (λ o is. blames store o.omap (subst (λ (r : ℕ). tree.Meets store r mid a o.omap) (sym (root_is (small store next objects m))) (meets_tree store next objects old mid a first later m (x.base.0 + 1) o.omap is.omap)))
    where
      small : (store : Store) (next : ℕ) (objects : ObjectMap) → Meets store next objects old a → root_of Omap x < 2 ^ 64
      small store next objects m = (object_since old mid a first name x finds later.noted store next objects m).small Omap

  module _ (from to : List ℕ) (bound : ℕ) (keys : List (List ℕ)) (looked : (store : Store) (content : Values) → tree.Meets store root mid a content → keys ≡ keys_between from to bound content) (c : Seen) where
    abbrev op : Op
    op = OmapRmKeyRange name from to bound

    reads : OnlyRead old a
    reads = only_read-trans first later

    same_refusal : (object : Option ObjectValue) → model.refusal_at op object ≡ model.refusal_at (OmapRmKeys name keys) object
    same_refusal None = refl
    same_refusal (Some o) = refl

    pub takes_range : (item : Item) → Does (OmapRmKeys name keys) item a c → Does op (Number (length keys)) old c
    unfolding meets_since formed_as
    takes_range item did = record {
      notes = λ at f e. did.notes at f (reads.noted at f e);
      rises = omega (arith, reads.next, did.rises);
      does = λ store next objects m.
          let since = meets_since old a c reads store next objects m in
          let here = object_since old mid c first name x finds (λ at f e. did.notes at f (later.noted at f e)) store next objects m in
          let o = here.object in
          let named : keys ≡ keys_between from to bound o.omap = looked store o.omap (subst (λ (r : ℕ). tree.Meets store r mid a o.omap) (sym (root_is (here.small Omap))) (record {
            agrees = λ at f e. m.agrees at f (did.notes at f e);
            content = here.is_since.omap;
            fresh = λ at least under. absurd (omega (arith, least, under, later.next));
          })) in
          let is = did.does store next objects since in
          let becomes = λ (ks : List (List ℕ)). map.insert objects name (record o { omap = without_keys ks o.omap }) in
          record {
            allowed = ap (model.refusal_at op) here.has;
            answers = ap (λ (ks : List (List ℕ)). Number (length ks)) named ∙ sym (ap (model.item_at op) here.has);
            formed = formed_as (laid c store) (laid c store) (max next c.next) (max next c.next) (model.effect (OmapRmKeys name keys) objects) (model.effect op objects) is.formed refl (omega arith)
                (ap (λ (z : Option ObjectValue). model.put_object (Some name) (model.object_after op z) objects) here.has
                ∙ ap becomes (sym named)
                ∙ sym (ap (λ (z : Option ObjectValue). model.put_object (Some name) (model.object_after (OmapRmKeys name keys) z) objects) here.has));
            leaves = λ at free apart. is.leaves at (record { low = free.low; empty = ap (λ (s : Store). s at) (one_store reads store) ∙ free.empty; unused = free.unused }) (λ given. apart (omega (arith, given.0, reads.next), given.1));
            within = λ at now. elim (is.within at now) [ inl before ↦ inl (sym (reads.changed at) ∙ before) | inr there ↦ inr there ];
          };
    }

    pub range_refused : (why : Why) → Refuses (OmapRmKeys name keys) why a c → Refuses op why old c
    range_refused why did = record {
      notes = λ at f e. did.notes at f (reads.noted at f e);
      rises = omega (arith, reads.next, did.rises);
      refuses = λ store next objects m. same_refusal (map.get objects name) ∙ did.refuses store next objects (meets_since old a c reads store next objects m);
    }
