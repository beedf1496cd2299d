-- An attribute is put: the lookup behind that of the name, the counts, and the refusal of one too many.
use Rattle.std.proofs.Common.{◌≡◌, ◌⊎◌, inl, inr, ℕ, ◌+◌, ◌%◌, ◌<◌, ◌≤◌, ◌^◌, ◌||◌, nat_lt, Bool, true, false, cond, not, T, ltb→lt, nltb→le, List, Option, Some, None, is_some, is_none, refl, sym, ap, subst, ◌∙◌, arith}
use Rattle.std.specs.FinMap as map
use Rattle.std.specs.FinMap.{len-insert}
use Rattle.sea_base.specs.Space.{Store, Seen, OnlyRead, laid}
use Rattle.sea_base.proofs.Spaces.{agrees_before}
use Rattle.sea_node.specs.Entries.{Values}
use Rattle.sea_node.proofs.Keys.{key_order_total}
use Rattle.sea_object.specs.declared.onode.Onode.{Onode}
use Rattle.sea_object.specs.declared.op.Op.TheVariants.{SetAttr}
use Rattle.sea_object.specs.declared.reply.Item.TheVariants.{Unit as Nothing}
use Rattle.sea_object.specs.declared.reply.Why.TheVariants.{AttrFull}
use Rattle.sea_object.specs.Answer as model
use Rattle.sea_object.specs.Objects.{ObjectValue, ObjectMap}
use Rattle.sea_onode.specs.Calls as onode
use Rattle.sea_onode.specs.Calls.{NotesMore}
use Rattle.sea_tree.specs.declared.fault.TreeFault.{TreeFault}
use Rattle.sea_tree.specs.Calls as tree
use Rattle.sea_tree.specs.Content.{HasContent}
use Rattle.sea_tree.specs.Form.{HasForm, HasFirst}
use Rattle.sea_tree.proofs.Walks.{one_store}
use Rattle.sea_ops.specs.WellFormed.{IsObjectOf}
use Rattle.sea_ops.specs.Calls.{Meets, Refuses, Fails}
use Rattle.sea_ops.proofs.Asked.{found, meets_tree, object_fails, path_fails}
use Rattle.sea_ops.proofs.Parts.{Attributes}
use Rattle.sea_ops.proofs.Taking.{found_at}
use Rattle.sea_ops.proofs.Turns.{IsTurn, object_is}

below : (m n : ℕ) → nat_lt m n ≡ true → m < n
below m n e = ltb→lt m n (subst T (sym e) tt)

not_below : (m n : ℕ) → nat_lt m n ≡ false → n ≤ m
not_below m n e = nltb→le m n (subst (λ (z : Bool). T (not z)) (sym e) tt)

pub is_absent : (value : Option (List ℕ)) (absent : Bool) → is_some value ≡ not absent → absent ≡ is_none value
is_absent None true e = refl
is_absent None false e = absurd (cc)
is_absent (Some v) true e = absurd (cc)
is_absent (Some v) false e = refl

-- what was found under a name is what reads behind that would find
pub finds_later : (old mid new : Seen) (name : List ℕ) (here : Option Onode) → OnlyRead mid new → onode.Finds name old mid here → onode.Finds name old new here
finds_later old mid new name here later finds = record {
  value = λ store content m. finds.value store content (record { agrees = agrees_before later m.agrees; content = m.content; fresh = λ at from under. m.fresh at from (omega (arith, under, later.next)) });
  onode = λ store onodes m. finds.onode store onodes (record { agrees = agrees_before later m.agrees; onodes = m.onodes; fresh = λ at from under. m.fresh at from (omega (arith, under, later.next)) });
}

pub within_limit : (limit n : ℕ) → n ≤ limit → nat_lt limit n ≡ false
within_limit limit n few = by (nat_lt limit n) refl
  where
    by : (b : Bool) → nat_lt limit n ≡ b → nat_lt limit n ≡ false
    by true e = absurd (omega (arith, below limit n e, few))
    by false e = e

pub past_limit : (limit n : ℕ) → limit < n → nat_lt limit n ≡ true
past_limit limit n many = by (nat_lt limit n) refl
  where
    by : (b : Bool) → nat_lt limit n ≡ b → nat_lt limit n ≡ true
    by true e = e
    by false e = absurd (omega (arith, not_below limit n e, many))

-- a content with a value at a key
abbrev pub with_pair : List ℕ → List ℕ → Values → Values
with_pair key value content = map.insert content key value

pub puts_attribute : (name key value : List ℕ) (found : Option (List ℕ)) → IsTurn (SetAttr name key value) name Attributes (found_at key found) (with_pair key value) Nothing
puts_attribute name key value found = record {
  allowed = λ objects o has few. ap (model.refusal_at (SetAttr name key value)) has ∙ ap (λ (b : Bool). cond b (Some AttrFull) None) (within_limit 64 (map.len (map.insert o.attributes key value)) few);
  answers = λ objects o has told. sym (ap (model.item_at (SetAttr name key value)) has);
  effect = λ objects o has. ap (λ (z : Option ObjectValue). model.put_object (Some name) (model.object_after (SetAttr name key value) z) objects) has;
}

pub put_notes : (a b : Seen) (root : ℕ) (key value : List ℕ) → HasForm root key (Some value) a b ⊎ HasFirst root key value a b → NotesMore a b
put_notes a b root key value (inl form) = λ at found e. form.writes.reads at found (form.plans.reads at found (form.reads.noted at found e))
put_notes a b root key value (inr form) = λ at found e. form.writes.reads at found (form.reads.noted at found e)

counted_more : (value : Option (List ℕ)) (attrs n m : ℕ) → attrs ≡ n → attrs ≤ 64 → (nat_lt attrs 64 || is_some value) ≡ true → m ≡ cond (is_some value) n (n + 1) → (cond (is_none value) ((attrs + 1) % 2 ^ 32) attrs ≡ m) × (cond (is_none value) ((attrs + 1) % 2 ^ 32) attrs ≤ 64)
counted_more (Some v) attrs n m is few may e = (is ∙ sym e, few)
counted_more None attrs n m is few may e = by (nat_lt attrs 64) refl may
  where
    by : (b : Bool) → nat_lt attrs 64 ≡ b → (b || false) ≡ true → ((attrs + 1) % 2 ^ 32 ≡ m) × ((attrs + 1) % 2 ^ 32 ≤ 64)
    by true low ok = let under = below attrs 64 low in (omega (arith, under, e, is), omega (arith, under))
    by false low ok = absurd (cc)

pub more_counted : (x : Onode) (key value : List ℕ) (old : Option (List ℕ)) (content : Values) → x.attrs ≡ map.len content → x.attrs ≤ 64 → old ≡ map.get content key → (nat_lt x.attrs 64 || is_some (map.get content key)) ≡ true → (cond (is_none old) ((x.attrs + 1) % 2 ^ 32) x.attrs ≡ map.len (map.insert content key value)) × (cond (is_none old) ((x.attrs + 1) % 2 ^ 32) x.attrs ≤ 64)
more_counted x key value old content counted few is may =
    subst (λ (f : Option (List ℕ)). (cond (is_none f) ((x.attrs + 1) % 2 ^ 32) x.attrs ≡ map.len (map.insert content key value)) × (cond (is_none f) ((x.attrs + 1) % 2 ^ 32) x.attrs ≤ 64)) (sym is)
    (counted_more (map.get content key) x.attrs (map.len content) (map.len (map.insert content key value)) counted few may (len-insert key_order_total content key value))

overfull : (value : Option (List ℕ)) (attrs n m : ℕ) → attrs ≡ n → (nat_lt attrs 64 || is_some value) ≡ false → m ≡ cond (is_some value) n (n + 1) → 64 < m
overfull (Some v) attrs n m is no_room e = by (nat_lt attrs 64) no_room
  where
    by : (b : Bool) → (b || true) ≡ false → 64 < m
    by true ok = absurd (cc)
    by false ok = absurd (cc)
overfull None attrs n m is no_room e = by (nat_lt attrs 64) refl no_room
  where
    by : (b : Bool) → nat_lt attrs 64 ≡ b → (b || false) ≡ false → 64 < m
    by true low ok = absurd (cc)
    by false low ok = omega (arith, not_below attrs 64 low, e, is)

module _ (old mid new : Seen) (first : OnlyRead old mid) (later : OnlyRead mid new) (name key value : List ℕ) (x : Onode) (finds : onode.Finds name old mid (Some x)) where
  -- one attribute too many
  pub attributes_full : ((store : Store) (content : Values) → tree.Meets store x.base.0 mid new content → false ≡ (nat_lt x.attrs 64 || is_some (map.get content key))) → Refuses (SetAttr name key value) AttrFull old new
  attributes_full told = record {
    notes = λ at f e. later.noted at f (first.noted at f e);
    rises = omega (arith, first.next, later.next);
    refuses = λ store next objects m.
        let has = object_is (laid old store) x (map.get objects name) (found store next objects old mid new first later m name (Some x) finds) in
        let o = has.0 in
        let no_room = told store o.attributes (meets_tree store next objects old mid new first later m x.base.0 o.attributes has.2.attributes) in
        ap (model.refusal_at (SetAttr name key value)) has.1 ∙ ap (λ (b : Bool). cond b (Some AttrFull) None) (past_limit 64 (map.len (map.insert o.attributes key value)) (overfull (map.get o.attributes key) x.attrs (map.len o.attributes) (map.len (map.insert o.attributes key value)) has.2.attrs (sym no_room) (len-insert key_order_total o.attributes key value)));
  }

  pub look_fails : (fault : TreeFault) → tree.IsPathFault x.base.0 key mid new fault → Fails old new fault
  look_fails fault cause store next objects m =
      object_fails fault (laid old store) x (map.get objects name) (found store next objects old mid new first later m name (Some x) finds)
      (λ o is. path_fails fault x.base.0 key o.attributes mid new store (meets_tree store next objects old mid new first later m x.base.0 o.attributes is.attributes) cause)

-- what the lookup told, on a store that is met when more was done
pub may_then : (old mid new last : Seen) (first : OnlyRead old mid) (later : OnlyRead mid new) (key : List ℕ) (x : Onode) → ((store : Store) (content : Values) → tree.Meets store x.base.0 mid new content → true ≡ (nat_lt x.attrs 64 || is_some (map.get content key))) → NotesMore new last → (store : Store) (next : ℕ) (objects : ObjectMap) → Meets store next objects old last → (o : ObjectValue) → IsObjectOf (laid old store) x o → (nat_lt x.attrs 64 || is_some (map.get o.attributes key)) ≡ true
may_then old mid new last first later key x told notes store next objects m o is =
    sym (told store o.attributes (record {
      agrees = λ at f e. m.agrees at f (notes at f e);
      content = subst (λ (s : Store). HasContent s x.base.0 o.attributes) (sym (one_store first store)) is.attributes;
      fresh = λ at from under. absurd (omega (arith, from, under, later.next));
    }))
