-- An object is opened, a call changes its data, and its onode is saved with another size.
use Rattle.std.proofs.Common.{◌≡◌, ◌≢◌, ◌⊎◌, inl, inr, ℕ, ◌+◌, ◌-◌, ◌<◌, ◌≤◌, ◌^◌, max, true, List, ◌++◌, Some, None, refl, sym, ap, subst, ◌∙◌, arith}
use Rattle.std.proofs.Math.Path.{fun_ext}
use Rattle.std.specs.List.{range_with_len}
use Rattle.std.proofs.lemmas.List.{length-append}
use Rattle.std.proofs.lemmas.List.FromFn.{length-range_with_len}
use Rattle.std.proofs.lemmas.List.Elements.{Contains-append_left, Contains-append_right}
use Rattle.std.specs.FinMap as map
use Rattle.sea_base.specs.Space.{Store, Seen, Agrees, laid}
use Rattle.sea_base.proofs.Spaces.{laid-gives}
use Rattle.sea_data.specs.Bytes.{bytes_of}
use Rattle.sea_data.specs.Calls as blocks
use Rattle.sea_data.specs.Ranges.{ChangesBlocks}
use Rattle.sea_data.proofs.Bytes.{address_is}
use Rattle.sea_object.specs.declared.onode.Onode.{Onode}
use Rattle.sea_object.specs.declared.op.Op.{Op}
use Rattle.sea_object.specs.declared.reply.Item.{Item}
use Rattle.sea_object.specs.Answer as model
use Rattle.sea_object.specs.Answer.{with_bytes}
use Rattle.sea_object.specs.Objects.{ObjectValue, ObjectMap, empty_object}
use Rattle.sea_omap.specs.Calls.{IsGiven}
use Rattle.sea_onode.specs.Calls as onode
use Rattle.sea_onode.specs.Calls.{NotesMore}
use Rattle.sea_onode.specs.Onodes.{Onodes}
use Rattle.sea_onode.specs.Order.{IsInRange}
use Rattle.sea_tree.specs.Calls as tree
use Rattle.sea_tree.specs.Calls.{ChangeFailure}
use Rattle.sea_tree.specs.declared.fault.TreeFault.{TreeFault}
use Rattle.sea_tree.specs.declared.fault.TreeFault.TheVariants.{Space, Broken}
use Rattle.sea_tree.specs.Breaks.{FillsFewer}
use Rattle.sea_tree.proofs.Apart.{IsNodeOf-filled}
use Rattle.sea_tree.proofs.Walks.{one_store}
use Rattle.sea_ops.specs.WellFormed.{IsWellFormed}
use Rattle.sea_ops.specs.Calls.{IsFree, Meets, Does, FailsUnlessFull}
use Rattle.sea_ops.specs.Opening.{IsFound, IsFresh, Opens}
use Rattle.sea_ops.proofs.Asked.{formed_as}
use Rattle.sea_ops.proofs.Made.{none_past}
use Rattle.sea_ops.proofs.Makes.{meets_since}
use Rattle.sea_ops.proofs.Opened.{Opened, opened_found, opened_fresh, free_fresh}
use Rattle.sea_ops.proofs.Resized.{opened_resized, free_resized, filled_resized}
use Rattle.sea_ops.proofs.Saved.{opened_saved}
use Rattle.sea_ops.proofs.TurnFails.{in_range}
use Rattle.sea_ops.proofs.Turns.{changed_of, object_since, absent_since}

-- ---- the call on the data, and the save behind it

-- What a call on an object's data does: the bytes become others, of another size.
pub record Writes (x : Onode) (size : ℕ) (turn : List ℕ → List ℕ) (a b : Seen) : Type 0 where
  pub becomes : (store : Store) (next : ℕ) → blocks.Meets store next x a b → blocks.Becomes store next x size (turn (bytes_of (laid a store) x.base.0 x.size)) a b
  pub changes : x.size ≤ 16777216 → ChangesBlocks x.base.0 (λ i. i < 4096) a b
  pub notes : NotesMore a b
  pub next : b.next ≡ a.next

-- few addresses are filled still, where so many at most were filled anew
pub few_still : (was is : Store) (from to count more : ℕ) → count + (to - from) ≤ more → ((at : ℕ) → is at ≢ None → (was at ≢ None) ⊎ ((from ≤ at) × (at < to))) → FillsFewer was count → FillsFewer is more
few_still was is from to count more le anew (filled, short, all) =
    let given : List ℕ = range_with_len from (to - from) in (
      given ++ filled,
      omega (arith, le, short, length-append given filled, length-range_with_len from (to - from)),
      λ at there. elim (anew at there) [
        | inl old ↦ Contains-append_right given filled at (all at old)
        | inr new ↦ Contains-append_left given filled at (in_range at from to new.0 new.1)
      ],
    )

module _ (a b c : Seen) (name : List ℕ) (x : Onode) (size : ℕ) (turn : List ℕ → List ℕ) (writes : Writes x size turn a b) (noted : NotesMore b c) (rises : b.next ≤ c.next)
    (store : Store) (next : ℕ) (objects : ObjectMap) (saved all : Onodes) (o : ObjectValue) (p : Opened (laid a store) next objects saved all name x o) (bounded : next < 2 ^ 64) (agrees : Agrees store c) (fresh : (at : ℕ) → a.next ≤ at → at < c.next → IsFree (laid a store) all at) where
  abbrev y : Onode
  y = record x { size = size }

  abbrev q : ObjectValue
  q = with_bytes (turn o.bytes) o

  range : (2 ≤ x.base.0) × (x.base.0 + 4098 ≤ next) × (x.size ≤ 16777216)
  range = p.stands.ranges name x p.here

  did : blocks.Becomes store next x size (turn (bytes_of (laid a store) x.base.0 x.size)) a b
  did = writes.becomes store next (record {
    agrees = λ at f e. agrees at f (noted at f e);
    order = record {
      low = range.0;
      high = range.1;
      within = range.2;
      none_past = λ i few past. ap (laid a store) (address_is x.base.0 i few (omega (arith, range.1, bounded))) ∙ none_past (laid a store) next all p.stands name x i p.here few past;
    };
  })

  resized : Opened (laid b store) next objects saved (map.insert all name y) name y q
  resized = opened_resized (laid a store) (laid b store) next objects saved all name x o p bounded size (turn o.bytes) did.order.within (did.bytes ∙ ap turn (sym p.object.bytes)) did.order.none_past did.elsewhere

  free_then : (at : ℕ) → IsFree (laid a store) all at → IsFree (laid b store) (map.insert all name y) at
  free_then = free_resized (laid a store) (laid b store) next objects saved all name x o p bounded size (turn o.bytes) did.order.within (did.bytes ∙ ap turn (sym p.object.bytes)) did.order.none_past did.elsewhere

  fresh_then : (at : ℕ) → b.next ≤ at → at < c.next → IsFree (laid b store) (map.insert all name y) at
  fresh_then at from below = free_then at (fresh at (omega (arith, from, writes.next)) below)

  -- the store is one that the save of the onode speaks of
  meets_save : onode.Meets store b c saved
  meets_save = record { agrees = agrees; onodes = resized.tree; fresh = λ at from below. (fresh_then at from below).empty }

  -- and one on which it doesn't fail, where few addresses were filled
  pub save_never_full : (fault : TreeFault) → ChangeFailure 1 name b c fault → FillsFewer (laid a store) (2 ^ 25 - 2 ^ 20) → tree.IsOfSpace fault
  save_never_full fault failure few =
      failure.never_full store resized.tree.content (record { agrees = agrees; content = resized.tree.tree; fresh = λ at from below. (fresh_then at from below).empty })
      (few_still (laid a store) (laid b store) (x.base.0 + 2) (x.base.0 + 4098) (2 ^ 25 - 2 ^ 20) (2 ^ 25) (omega arith)
      (filled_resized (laid a store) (laid b store) next objects saved all name x o p bounded size (turn o.bytes) did.order.within (did.bytes ∙ ap turn (sym p.object.bytes)) did.order.none_past did.elsewhere) few)

  -- The store is well formed again, and what changed lies within its addresses.
  module _ (saves : (s : Store) (onodes : Onodes) → onode.Meets s b c onodes → onode.Saves s name y b c onodes) (own : tree.ChangesOwn 1 b c) where
    became : onode.Becomes store b c (map.insert saved name y)
    became = (saves store saved meets_save).becomes

    pub written_formed : (g : IsWellFormed (laid c store) (max next c.next) (map.insert objects name q)) × ((at : ℕ) → IsFree (laid a store) all at → (IsGiven a c at → ⊥) → IsFree (laid c store) g.onodes at)
    written_formed =
        let both = opened_saved (laid b store) (laid c store) next b.next c.next objects saved (map.insert all name y) name y q resized bounded fresh_then became.content (changed_of store 1 b c became.content became.tree) became.spelled in
        (both.0, λ at free apart. both.1 at (free_then at free) (λ given. apart (omega (arith, given.0, writes.next), given.1)))

    pub written_within : (at : ℕ) → c.changed at ≡ true → (a.changed at ≡ true) ⊎ ((1 ≤ at) × (at < max next c.next))
    written_within at now = elim (own store at agrees now) [
      | inl before ↦ elim (writes.changes range.2 at) [
        | inl block ↦
            let here = block.2 ∙ address_is x.base.0 block.0 block.1 (omega (arith, range.1, bounded)) in
            inr (omega (arith, here), omega (arith, here, block.1, range.1))
        | inr same ↦ inl (sym same.changed ∙ before)
      ]
      | inr (inl root) ↦ inr (omega (arith, root), omega (arith, root, p.stands.begun))
      | inr (inr (inl node)) ↦
          let there = resized.stands.bounds at (IsNodeOf-filled (laid b store) 1 at resized.tree.tree.tree node) in
          inr (there.0, omega (arith, there.1))
      | inr (inr (inr new)) ↦ inr (omega (arith, (fresh at (omega (arith, new.0, writes.next)) new.1).low), omega (arith, new.1))
    ]

-- ---- the opening before them

-- What opening an object leaves of a store: the object is open, with the addresses that it was given.
pub record IsOpened (name : List ℕ) (x : Onode) (store : Store) (next : ℕ) (objects : ObjectMap) (old a c : Seen) (m : Meets store next objects old c) : Type 0 where
  pub object : ObjectValue
  pub all : Onodes
  pub opened : Opened (laid a store) (max next a.next) objects m.formed.onodes all name x object
  pub leaves : (at : ℕ) → IsFree (laid old store) m.formed.onodes at → (IsGiven old a at → ⊥) → IsFree (laid a store) all at
  pub same : laid a store ≡ laid old store

-- what is done to such an object is what an operation does in the model
pub record IsResize (op : Op) (item : Item) (name : List ℕ) (turn : List ℕ → List ℕ) (objects : ObjectMap) (o : ObjectValue) : Type 0 where
  pub allowed : model.refusal op objects ≡ None
  pub answers : item ≡ model.item op objects
  pub effect : model.effect op objects ≡ map.insert objects name (with_bytes (turn o.bytes) o)

-- it changes nothing
pub record Begins (old a : Seen) : Type 0 where
  pub notes : NotesMore old a
  pub rises : old.next ≤ a.next
  pub changed : (at : ℕ) → a.changed at ≡ old.changed at

pub begins_found : (name : List ℕ) (x : Onode) (old a : Seen) → IsFound name x old a → Begins old a
begins_found name x old a f = record { notes = f.reads.noted; rises = omega (arith, f.reads.next); changed = f.reads.changed }

pub begins : (name : List ℕ) (x : Onode) (old a : Seen) → Opens name x old a → Begins old a
begins name x old a (inl f) = begins_found name x old a f
begins name x old a (inr f) = record {
  notes = λ at found e. f.given.reads at ∙ f.reads.noted at found e;
  rises = omega (arith, f.reads.next, f.given.next);
  changed = λ at. f.given.changed at ∙ f.reads.changed at;
}

module _ (name : List ℕ) (x : Onode) (old a c : Seen) (notes : NotesMore a c) (store : Store) (next : ℕ) (objects : ObjectMap) (m : Meets store next objects old c) where
  -- an object that was found
  pub opened_by_find : IsFound name x old a → (i : IsOpened name x store next objects old a c m) × (map.get objects name ≡ Some i.object)
  unfolding formed_as
  opened_by_find f =
      let is = object_since old a c f.reads name x f.found notes store next objects m in
      let one : laid a store ≡ laid old store = one_store f.reads store in (
        record {
          object = is.object;
          all = m.formed.onodes;
          opened = opened_found (laid a store) (max next a.next) objects (formed_as (laid old store) (laid a store) next (max next a.next) objects objects m.formed one (omega arith) refl) name x is.here is.object is.is_since;
          leaves = λ at free apart. record { low = free.low; empty = ap (λ (s : Store). s at) one ∙ free.empty; unused = free.unused };
          same = one;
        },
        is.has,
      )

  -- one that was made
  module _ (f : IsFresh name x old a) (later : a.next ≤ c.next) where
    absent : map.get objects name ≡ None
    absent = absent_since old f.between c f.reads name f.absent (λ at found e. notes at found (f.given.reads at ∙ e)) store next objects m

    one_mid : laid f.between store ≡ laid old store
    one_mid = one_store f.reads store

    one : laid a store ≡ laid f.between store
    one = fun_ext (laid-gives f.given store)

    base : x.base.0 ≡ f.between.next
    base = ap (λ (w : Onode). w.base.0) f.empty

    empty : (x.size ≡ 0) × (x.attrs ≡ 0) × (x.keys ≡ 0)
    empty = (ap (λ (w : Onode). w.size) f.empty, ap (λ (w : Onode). w.attrs) f.empty, ap (λ (w : Onode). w.keys) f.empty)

    since : Meets store next objects f.between c
    since = meets_since old f.between c f.reads store next objects m

    free : (at : ℕ) → IsInRange x at → IsFree (laid f.between store) since.formed.onodes at
    free at within = since.fresh at (omega (arith, within.0, base), omega (arith, within.1, base, f.given.next, later))

    open_mid : Opened (laid f.between store) (max next a.next) objects since.formed.onodes (map.insert since.formed.onodes name x) name x empty_object
    open_mid = opened_fresh (laid f.between store) next objects since.formed name x absent empty free (max next a.next) (omega arith) (omega (arith, base, f.given.next))

    pub opened_by_gift : (i : IsOpened name x store next objects old a c m) × ((map.get objects name ≡ None) × (i.object ≡ empty_object))
    unfolding formed_as meets_since since
    opened_by_gift = (
      record {
        object = empty_object;
        all = map.insert m.formed.onodes name x;
        opened = subst (λ (s : Store). Opened s (max next a.next) objects m.formed.onodes (map.insert m.formed.onodes name x) name x empty_object) (sym one) open_mid;
        leaves = λ at is_free apart. subst (λ (s : Store). IsFree s (map.insert m.formed.onodes name x) at) (sym one)
            (free_fresh (laid f.between store) next objects since.formed name x absent empty free at
            (record { low = is_free.low; empty = ap (λ (s : Store). s at) one_mid ∙ is_free.empty; unused = is_free.unused })
            (λ within. apart (omega (arith, within.0, base, f.reads.next), omega (arith, within.1, base, f.given.next))));
        same = one ∙ one_mid;
      },
      (absent, refl),
    )

  -- either of them
  pub opened_by : Opens name x old a → a.next ≤ c.next → (i : IsOpened name x store next objects old a c m) × ((map.get objects name ≡ Some i.object) ⊎ ((map.get objects name ≡ None) × (i.object ≡ empty_object)))
  opened_by (inl f) later = let is = opened_by_find f in (is.0, inl is.1)
  opened_by (inr f) later = let is = opened_by_gift f later in (is.0, inr is.1)

-- ---- all of it

module _ (name : List ℕ) (x : Onode) (size : ℕ) (turn : List ℕ → List ℕ) (old a b c : Seen) (start : Begins old a) (small : a.next < 2 ^ 64) (writes : Writes x size turn a b) (rises : b.next ≤ c.next) where
  fresh_from : (store : Store) (next : ℕ) (objects : ObjectMap) (m : Meets store next objects old c) (i : IsOpened name x store next objects old a c m) (at : ℕ) → a.next ≤ at → at < c.next → IsFree (laid a store) i.all at
  fresh_from store next objects m i at from below = i.leaves at (m.fresh at (omega (arith, from, start.rises), below)) (λ given. omega (arith, given.1, from))

  pub resizes : (op : Op) (item : Item) (noted : NotesMore b c)
      → ((store : Store) (next : ℕ) (objects : ObjectMap) (m : Meets store next objects old c) → (i : IsOpened name x store next objects old a c m) × IsResize op item name turn objects i.object)
      → ((s : Store) (onodes : Onodes) → onode.Meets s b c onodes → onode.Saves s name (record x { size = size }) b c onodes) → tree.ChangesOwn 1 b c
      → Does op item old c
  unfolding formed_as
  resizes op item noted opened saves own = record {
    notes = λ at f e. noted at f (writes.notes at f (start.notes at f e));
    rises = omega (arith, start.rises, writes.next, rises);
    does = λ store next objects m.
        let o = opened store next objects m in
        let i = o.0 in
        let fits : max next a.next < 2 ^ 64 = omega (arith, m.bounded, small) in
        let both = written_formed a b c name x size turn writes noted rises store (max next a.next) objects m.formed.onodes i.all i.object i.opened fits m.agrees (fresh_from store next objects m i) saves own in
        record {
          allowed = o.1.allowed;
          answers = o.1.answers;
          formed = formed_as (laid c store) (laid c store) (max (max next a.next) c.next) (max next c.next) (map.insert objects name (with_bytes (turn i.object.bytes) i.object)) (model.effect op objects) both.0 refl (omega (arith, writes.next, rises)) o.1.effect;
          leaves = λ at free apart. both.1 at (i.leaves at free (λ given. apart (given.0, omega (arith, given.1, writes.next, rises)))) (λ given. apart (omega (arith, given.0, start.rises), given.1));
          within = λ at now. elim (written_within a b c name x size turn writes noted rises store (max next a.next) objects m.formed.onodes i.all i.object i.opened fits m.agrees (fresh_from store next objects m i) saves own at now) [
            | inl before ↦ inl (sym (start.changed at) ∙ before)
            | inr there ↦ inr (there.0, omega (arith, there.1, writes.next, rises))
          ];
        };
  }

  -- the save fails where the onode tree can't grow
  pub resize_fails : (fault : TreeFault)
      → (NotesMore a c → (store : Store) (next : ℕ) (objects : ObjectMap) (m : Meets store next objects old c) → IsOpened name x store next objects old a c m)
      → ChangeFailure 1 name b c fault → FailsUnlessFull (2 ^ 25 - 2 ^ 20) old c fault
  resize_fails (Space fault) opened failure store next objects m few = tt
  resize_fails (Broken at) opened failure store next objects m few =
      let noted : NotesMore b c = failure.unchanged.reads in
      let i = opened (λ q f e. noted q f (writes.notes q f e)) store next objects m in
      save_never_full a b c name x size turn writes noted rises store (max next a.next) objects m.formed.onodes i.all i.object i.opened (omega (arith, m.bounded, small)) m.agrees (fresh_from store next objects m i) (Broken at) failure
      (subst (λ (s : Store). FillsFewer s (2 ^ 25 - 2 ^ 20)) (sym i.same) few)
