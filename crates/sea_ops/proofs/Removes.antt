-- An object is removed by a space's calls: its trees are dropped and its data is cut off, then its onode is erased.
use Rattle.std.proofs.Common.{◌≡◌, ◌⊎◌, inl, inr, ℕ, ◌+◌, ◌-◌, ◌<◌, ◌≤◌, ◌^◌, max, Bool, true, false, List, Some, None, refl, sym, ap, subst, ◌∙◌, arith}
use Rattle.std.proofs.lemmas.Bool.{cases_lt}
use Rattle.std.specs.FinMap as map
use Rattle.sea_base.specs.Space.{Store, Seen, Agrees, OnlyRead, laid}
use Rattle.sea_data.specs.Bytes.{block_address}
use Rattle.sea_data.specs.Calls.{CutFootprint}
use Rattle.sea_data.specs.Ranges.{AtBlock, BeginsBetween, HoldsOldEnd, IsAsBefore}
use Rattle.sea_data.proofs.Bytes.{address_is}
use Rattle.sea_node.specs.Entries.{Values}
use Rattle.sea_object.specs.declared.onode.Onode.{Onode}
use Rattle.sea_object.specs.declared.op.Op.TheVariants.{Remove}
use Rattle.sea_object.specs.declared.reply.Item.TheVariants.{Unit as Nothing}
use Rattle.sea_object.specs.Answer as model
use Rattle.sea_object.specs.Objects.{ObjectMap}
use Rattle.sea_onode.specs.Calls as onode
use Rattle.sea_onode.specs.Calls.{NotesMore}
use Rattle.sea_tree.specs.declared.fault.TreeFault.{TreeFault}
use Rattle.sea_tree.specs.declared.fault.TreeFault.TheVariants.{Space, Broken}
use Rattle.sea_tree.specs.Breaks.{FillsFewer}
use Rattle.sea_tree.specs.Calls as tree
use Rattle.sea_tree.specs.Calls.{ChangeFailure, DropFootprint, DropFailure}
use Rattle.sea_tree.specs.Content.{HasContent}
use Rattle.sea_tree.specs.Tree.{IsTree, IsNodeOf, AreApart}
use Rattle.sea_tree.proofs.Apart.{IsNodeOf-filled}
use Rattle.sea_tree.proofs.Holding.{whole_tree}
use Rattle.sea_tree.proofs.Walks.{one_store}
use Rattle.sea_ops.specs.WellFormed.{IsDataOf}
use Rattle.sea_ops.specs.Calls.{Meets, Does, FailsUnlessFull}
use Rattle.sea_ops.proofs.Asked.{formed_as}
use Rattle.sea_ops.proofs.Emptied.{Leaves, first_break}
use Rattle.sea_ops.proofs.Made.{stands_of}
use Rattle.sea_ops.proofs.Parts.{Omap, root_of}
use Rattle.sea_ops.proofs.Removed.{IsBare, IsEmptied, IsCutOff, fewer_filled, other_content, bare, fewer_left, free_without, onodes_stay, removed}
use Rattle.sea_ops.proofs.Turns.{changed_of, HasObject, object_since}
use Rattle.sea_ops.proofs.TurnFails.{more_room}

-- what a call told that dropped a tree
pub record Drops (root : ℕ) (a b : Seen) : Type 0 where
  pub leaves : Leaves root a b
  pub footprint : DropFootprint root a b
  pub notes : NotesMore a b
  pub next : b.next ≡ a.next

module _ (root : ℕ) (a b : Seen) (d : Drops root a b) (store : Store) (content : Values) (agrees : Agrees store b) (has : HasContent (laid a store) root content) where
  meets : tree.Meets store root a b content
  meets = record { agrees = agrees; content = has; fresh = λ at from below. absurd (omega (arith, from, below, d.next)) }

  emptied_of : IsEmptied (laid a store) (laid b store) root
  emptied_of =
      let did = d.leaves store content meets in
      record {
        gone = did.1;
        stays = λ at other outside. did.0.elsewhere at other outside (side at);
      }
    where
      side : (at : ℕ) → (at < a.next) ⊎ (b.next ≤ at)
      side at = elim (cases_lt at a.next) [ inl below ↦ inl below | inr from ↦ inr (omega (arith, from, d.next)) ]

-- the data of an object was cut to nothing
module _ (x : Onode) (c d : Seen) (cuts : CutFootprint x 0 c d) where
  pub cut_notes : NotesMore c d
  cut_notes at f e = elim (cuts.reads at) [ inl same ↦ same ∙ e | inr (i, (larger, low, high), is) ↦ absurd (omega (arith, larger)) ]

  data_block : (at : ℕ) → AtBlock x.base.0 (λ i. BeginsBetween 0 x.size i ⊎ HoldsOldEnd x.size 0 i) at → (i : ℕ) × BeginsBetween 0 x.size i × (at ≡ block_address x.base.0 i)
  data_block at (i, inl begins, is) = (i, begins, is)
  data_block at (i, inr (larger, low, high), is) = absurd (omega (arith, larger))

  module _ (high : x.base.0 + 4098 ≤ 2 ^ 64) (size : x.size ≤ 16777216) where
    data_of : (at : ℕ) → (i : ℕ) × BeginsBetween 0 x.size i × (at ≡ block_address x.base.0 i) → IsDataOf x at
    data_of at (i, begins, is) = (i, begins.1, is ∙ address_is x.base.0 i (omega (arith, begins.1, size)) high)

    pub cut_changes : (at : ℕ) → d.changed at ≡ true → IsDataOf x at ⊎ (c.changed at ≡ true)
    cut_changes at now = elim (cuts.changes at) [
      | inl block ↦ inl (data_of at (data_block at block))
      | inr before ↦ inr (sym before.changed ∙ now)
    ]

    as_before : (store : Store) (at : ℕ) → IsAsBefore c d at → laid d store at ≡ laid c store at
    as_before store at before = by (c.changed at) refl before.changed
      where
        by : (was : Bool) → c.changed at ≡ was → d.changed at ≡ c.changed at → laid d store at ≡ laid c store at
        by true was same = let now = same ∙ was in (rw (now, was) (before.view was))
        by false was same = let now = same ∙ was in (rw (now, was) refl)

    pub cut_off : (store : Store) → IsCutOff (laid c store) (laid d store) x
    cut_off store = record {
      gone = λ at held.
          let here = held.2 ∙ sym (address_is x.base.0 held.0 (omega (arith, held.1, size)) high) in
          let placed = cuts.dropped held.0 (omega arith, held.1) in
          ap (laid d store) here ∙ dropped (block_address x.base.0 held.0) placed.0.changed placed.1;
      stays = λ at. elim (cuts.changes at) [
        | inl block ↦ inl (data_of at (data_block at block))
        | inr before ↦ inr (as_before store at before)
      ];
    }
      where
        dropped : (at : ℕ) → d.changed at ≡ true → d.view at ≡ None → laid d store at ≡ None
        dropped at now none = rw now none

-- ---- behind the lookup of the name, the first tree is dropped

module _ (old a b : Seen) (first : OnlyRead old a) (name : List ℕ) (x : Onode) (finds : onode.Finds name old a (Some x)) (one : Drops x.base.0 a b) where
  module _ (last : Seen) (later : NotesMore b last) (store : Store) (next : ℕ) (objects : ObjectMap) (m : Meets store next objects old last) where
    found : HasObject store next objects old a last name x m
    found = object_since old a last first name x finds (λ at f e. later at f (one.notes at f e)) store next objects m

    agrees_between : Agrees store b
    agrees_between at f e = m.agrees at f (later at f e)

    first_emptied : IsEmptied (laid old store) (laid b store) x.base.0
    first_emptied = subst (λ (s : Store). IsEmptied s (laid b store) x.base.0) (one_store first store) (emptied_of x.base.0 a b one store found.object.attributes agrees_between found.is_since.attributes)

    roots_apart : AreApart (laid old store) x.base.0 (x.base.0 + 1)
    roots_apart = m.formed.shared.apart x.base.0 (x.base.0 + 1) (inr (name, x, found.here, inl refl)) (inr (name, x, found.here, inr refl)) (λ e. omega (arith, e))

    omap_between : HasContent (laid b store) (x.base.0 + 1) found.object.omap
    omap_between = other_content (laid old store) (laid b store) x.base.0 first_emptied found.is.attributes.tree (x.base.0 + 1) found.object.omap found.is.omap roots_apart (λ e. omega (arith, e))

  -- the second tree is well formed
  pub second_fails : (c : Seen) (second : ℕ) (fault : TreeFault) → (root_of Omap x < 2 ^ 64 → second ≡ root_of Omap x) → DropFailure second b c fault → FailsUnlessFull (2 ^ 25 - 2 ^ 20) old c fault
  second_fails c second (Space fault) second_is failure store next objects m few = tt
  second_fails c second (Broken at) second_is failure store next objects m few =
      let later : NotesMore b c = failure.unchanged.reads in
      let is = second_is ((found c later store next objects m).small Omap) in
      whole_tree (laid b store) second at.0 (subst (IsTree (laid b store)) (sym is) (omap_between c later store next objects m).tree) (first_break (laid b store) second at.0 (failure.blames store m.agrees))

  -- ---- all of it is dropped

  module _ (c d : Seen) (second : ℕ) (second_is : root_of Omap x < 2 ^ 64 → second ≡ root_of Omap x) (two : Drops second b c) (cuts : CutFootprint x 0 c d) (cut_next : d.next ≡ c.next) where
    notes_on : NotesMore b d
    notes_on at f e = cut_notes x c d cuts at f (two.notes at f e)

    same_next : d.next ≡ old.next
    same_next = cut_next ∙ two.next ∙ one.next ∙ first.next

    module _ (last : Seen) (later : NotesMore d last) (store : Store) (next : ℕ) (objects : ObjectMap) (m : Meets store next objects old last) where
      later_on : NotesMore b last
      later_on at f e = later at f (notes_on at f e)

      there : HasObject store next objects old a last name x m
      there = found last later_on store next objects m

      high : x.base.0 + 4098 ≤ 2 ^ 64
      high = omega (arith, there.order.high, m.bounded)

      agrees_then : Agrees store c
      agrees_then at f e = m.agrees at f (later at f (cut_notes x c d cuts at f e))

      own_second : second ≡ x.base.0 + 1
      own_second = second_is (there.small Omap)

      omap_here : HasContent (laid b store) (x.base.0 + 1) there.object.omap
      unfolding there
      omap_here = omap_between last later_on store next objects m

      second_emptied : IsEmptied (laid b store) (laid c store) (x.base.0 + 1)
      second_emptied = subst (IsEmptied (laid b store) (laid c store)) own_second (emptied_of second b c two store there.object.omap agrees_then (subst (λ (r : ℕ). HasContent (laid b store) r there.object.omap) (sym own_second) omap_here))

      is_bare : IsBare (laid old store) (laid d store) x
      is_bare =
          bare (laid old store) (laid b store) (laid c store) (laid d store) x there.object.attributes there.object.omap there.is.attributes there.is.omap
          (roots_apart last later_on store next objects m) (first_emptied last later_on store next objects m) second_emptied (cut_off x c d cuts high there.order.size store)

      -- the onode tree is as it was, for the erasure of the name
      meets_erase : onode.Meets store d last m.formed.onodes
      meets_erase = record {
        agrees = m.agrees;
        onodes = onodes_stay (laid old store) (laid d store) next m.formed.onodes name x (stands_of (laid old store) next objects m.formed) there.here is_bare m.bounded m.formed.order.tree;
        fresh = λ at from below. (free_without (laid old store) (laid d store) next m.formed.onodes name x (stands_of (laid old store) next objects m.formed) there.here is_bare m.bounded at (m.fresh at (omega (arith, from, same_next), below))).empty;
      }

      few_left : (count : ℕ) → FillsFewer (laid old store) count → FillsFewer (laid d store) count
      few_left count (filled, short, all) = (filled, short, λ at is. all at (fewer_left (laid old store) (laid d store) next m.formed.onodes name x (stands_of (laid old store) next objects m.formed) there.here is_bare m.bounded at is))

      -- what was changed before the erasure is the object's
      changed_own : (at : ℕ) → d.changed at ≡ true → (old.changed at ≡ true) ⊎ ((1 ≤ at) × (at < next))
      changed_own at now = elim (cut_changes x c d cuts high there.order.size at now) [
        | inl (i, below, is) ↦ inr (omega (arith, is), omega (arith, is, below, there.order.size, there.order.high))
        | inr before ↦ elim (two.footprint.own store at agrees_then before) [
          | inr node ↦
              let in_omap = subst (λ (r : ℕ). IsNodeOf (laid b store) r at) own_second node in
              inr (m.formed.order.filled at (fewer_filled (laid old store) (laid b store) x.base.0 (first_emptied last later_on store next objects m) at (IsNodeOf-filled (laid b store) (x.base.0 + 1) at omap_here.tree in_omap)))
          | inl earlier ↦ elim (one.footprint.own store at (agrees_between last later_on store next objects m) earlier) [
            | inl begun ↦ inl (sym (first.changed at) ∙ begun)
            | inr node ↦ inr (m.formed.order.filled at (IsNodeOf-filled (laid old store) x.base.0 at there.is.attributes.tree (subst (λ (s : Store). IsNodeOf s x.base.0 at) (one_store first store) node)))
          ]
        ]
      ]

    -- the onode tree can always shrink
    pub erase_fails : (e : Seen) (fault : TreeFault) → ChangeFailure 1 name d e fault → FailsUnlessFull (2 ^ 25 - 2 ^ 20) old e fault
    erase_fails e (Space fault) failure store next objects m few = tt
    erase_fails e (Broken at) failure store next objects m few =
        let later : NotesMore d e = failure.unchanged.reads in
        let erases = meets_erase e later store next objects m in
        failure.never_full store erases.onodes.content (record { agrees = erases.agrees; content = erases.onodes.tree; fresh = erases.fresh })
        (more_room (laid d store) (2 ^ 25 - 2 ^ 20) (2 ^ 25) (omega arith) (few_left e later store next objects m (2 ^ 25 - 2 ^ 20) few))

    pub removes : (e : Seen) → ((store : Store) (onodes : _) → onode.Meets store d e onodes → onode.Erases store name d e onodes) → tree.ChangesOwn 1 d e → NotesMore d e → d.next ≤ e.next → Does (Remove name) Nothing old e
    unfolding formed_as
    removes e erases own later rises = record {
      notes = λ at f is. later at f (notes_on at f (one.notes at f (first.noted at f is)));
      rises = omega (arith, same_next, rises);
      does = λ store next objects m.
          let o = there e later store next objects m in
          let meets = meets_erase e later store next objects m in
          let gone = (erases store m.formed.onodes meets).becomes in
          let both = removed (laid old store) (laid d store) (laid e store) next d.next e.next objects m.formed name x o.here (is_bare e later store next objects m) m.bounded (λ at from below. m.fresh at (omega (arith, from, same_next), below)) gone.content (changed_of store 1 d e gone.content gone.tree) gone.spelled in
          record {
            allowed = ap (model.refusal_at (Remove name)) o.has;
            answers = sym (ap (model.item_at (Remove name)) o.has);
            formed = formed_as (laid e store) (laid e store) (max next e.next) (max next e.next) (map.remove objects name) (model.effect (Remove name) objects) both.0 refl (omega arith) refl;
            leaves = λ at free apart. both.1 at free (λ within. apart (omega (arith, within.0, same_next), within.1));
            within = λ at now. elim (own store at m.agrees now) [
              | inl before ↦ elim (changed_own e later store next objects m at before) [ inl earlier ↦ inl earlier | inr here ↦ inr (here.0, omega (arith, here.1)) ]
              | inr (inl root) ↦ inr (omega (arith, root), omega (arith, root, m.formed.order.begun))
              | inr (inr (inl node)) ↦
                  let here = m.formed.order.filled at (fewer_left (laid old store) (laid d store) next m.formed.onodes name x (stands_of (laid old store) next objects m.formed) o.here (is_bare e later store next objects m) m.bounded at (IsNodeOf-filled (laid d store) 1 at meets.onodes.tree.tree node)) in
                  inr (here.0, omega (arith, here.1))
              | inr (inr (inr new)) ↦ inr (omega (arith, (m.fresh at (omega (arith, new.0, same_next), new.1)).low), omega (arith, new.1))
            ];
          };
    }
