-- Rebalancing a node: parts of its entries, and a neighbour that is read.
use Rattle.std.proofs.Common.{◌≡◌, inl, inr, ℕ, zero, suc, ◌+◌, ◌-◌, ◌<◌, ◌≤◌, List, [], ◌∷◌, ◌++◌, length, get_or, take, drop, Option, Some, None, refl, sym, ap, subst, ◌∙◌, arith, append_assoc, length-append, length-take, take-append-drop}
use Rattle.std.specs.List.{All, AllByRecursion}
use Rattle.std.proofs.lemmas.List.Elements.{All-append, recursion_from_All}
use Rattle.sea_base.specs.Field.{big_endian}
use Rattle.sea_base.specs.Name.{IsName}
use Rattle.sea_base.specs.Space.{Store, Seen, IsKnown, IsSound, Agrees, laid, OnlyRead}
use Rattle.sea_node.specs.declared.node.Node.{Node}
use Rattle.sea_node.specs.Entries.{Entry, entry_size, size, IsBelow, IsNotAbove, IsRising}
use Rattle.sea_node.specs.Node.{IsNode, node_bytes}
use Rattle.sea_node.proofs.Keys.{IsBelowAll, AreBelow, IsRising-split, IsRising-head, IsRising-append, IsNotAbove-trans, IsNotAbove-below, below_then_not_above}
use Rattle.sea_node.proofs.Nodes.{size-append, size-le, entry_size-leaf}
use Rattle.sea_tree.specs.declared.edit.Edit.{Edit}
use Rattle.sea_tree.specs.declared.edit.Edit.TheVariants.{Pair, Moved}
use Rattle.sea_tree.specs.declared.fault.TreeFault.{TreeFault}
use Rattle.sea_tree.specs.declared.fault.TreeFault.TheVariants.{Space, Broken}
use Rattle.sea_tree.specs.declared.path.Step.{Step}
use Rattle.sea_tree.specs.declared.neighbours.Neighbours.{Neighbours as HeldNeighbours}
use Rattle.sea_tree.specs.Tree.{Bounds, IsInPlace, IsAddress, child_bounds, first_key}
use Rattle.sea_tree.specs.Breaks.{IsBroken, Child}
use Rattle.sea_tree.specs.Cut.{IsCut}
use Rattle.sea_tree.specs.Does.{Change}
use Rattle.sea_tree.specs.Place.{Splits, IsPlaceFault}
use Rattle.sea_tree.specs.Reads.{ReadsNothing, ReadsOnly}
use Rattle.sea_tree.specs.Mending.{IsNearPlace, IsPart}
use Rattle.sea_tree.specs.Rebalanced.{IsNearChild, HasChild, AreHalves, AreNeighbours, Merged, Redistributed, Merges, Redistributes, SplitsInTwo, IsRebalanceFault}
use Rattle.sea_tree.proofs.Cuts.{cut_parts}
use Rattle.sea_tree.proofs.MendNear.{halves}
use Rattle.sea_tree.proofs.Splits.{next_at}
use Rattle.sea_tree.proofs.Paths.{laid_same, HasNode-same, IsBroken-same}

-- ---- parts of a node's entries

small_entries : (level : ℕ) (bounds : Bounds) (es : List Entry) → IsNearPlace level bounds es → All (λ e. entry_size e ≤ 1091) es
small_entries level bounds es near k d within = entry_size-leaf _ (near.keys k d within) (near.values k d within)

pub many_entries : (level : ℕ) (bounds : Bounds) (es : List Entry) → IsNearPlace level bounds es → 4064 < size es → 2 ≤ length es
many_entries level bounds es near large = omega (arith, size-le 1091 es (small_entries level bounds es near))

pub cut_halves : (level : ℕ) (bounds : Bounds) (es : List Entry) (k : ℕ) (front back : Node) → IsNearPlace level bounds es → 4064 < size es → IsCut es k → front.level ≡ level → back.level ≡ level → front.entries ≡ take k es → back.entries ≡ drop k es → AreHalves level es front back
cut_halves level bounds es k front back near large cut front_level back_level is_front is_back =
    let each = recursion_from_All (λ (e : Entry). entry_size e ≤ 1091) es (small_entries level bounds es near) in
    let parts = cut_parts es k each large near.near cut in
    let both = halves level bounds (take k es) (drop k es) (subst (IsNearPlace level bounds) (sym (take-append-drop k es)) near) (parts.0, parts.1) (parts.2, parts.3) in
    record {
      cut = sym (take-append-drop k es) ∙ (λ j. sym is_front j ++ sym is_back j);
      is_cut = subst (IsCut es) (let within : k < length es = cut.rest in omega (arith, length-take k es, within, ap length is_front)) cut;
      front_level = front_level;
      back_level = back_level;
      front_node = subst (IsNode level) (sym is_front) both.left_node;
      back_node = subst (IsNode level) (sym is_back) both.right_node;
      front_part = subst IsPart (sym is_front) (parts.0, parts.1);
      back_part = subst IsPart (sym is_back) (parts.2, parts.3);
    }

first_is : (es : List Entry) (e : Entry) → 1016 ≤ size es → e ≡ get_or es 0 e → first_key es ≡ e.0
first_is [] e filled at = absurd (omega arith)
first_is (f ∷ es) e filled at = sym (ap (λ (x : Entry). x.0) at)

-- what a split plans
pub split_rebalanced : (level at : ℕ) (entries : List Entry) (old new : Seen) (before mid after : List Change) (front back : Node) (fresh : ℕ) (key value : List ℕ) (e : Entry) → 4064 < size entries → AreHalves level entries front back → fresh ≡ old.next → new.next ≡ old.next + 1
    → mid ≡ (at, Some (node_bytes front.level front.entries)) ∷ before → after ≡ (fresh, Some (node_bytes back.level back.entries)) ∷ mid → e ≡ get_or back.entries 0 e → key ≡ e.0 → value ≡ big_endian 8 fresh → ReadsNothing old new
    → (changes : List Change) × (after ≡ changes ++ before) × SplitsInTwo level at entries old new changes (Some (Pair key (Some value)))
split_rebalanced level at entries old new before mid after front back fresh key value e large are is_fresh next first second at_e is_key is_value unread = (
  (fresh, Some (node_bytes back.level back.entries)) ∷ (at, Some (node_bytes front.level front.entries)) ∷ [],
  second ∙ ap (λ (cs : List Change). (fresh, Some (node_bytes back.level back.entries)) ∷ cs) first,
  record {
    front = front.entries;
    back = back.entries;
    large = large;
    cut = are.cut;
    is_cut = are.is_cut;
    front_part = are.front_part;
    back_part = are.back_part;
    planned = λ j. (is_fresh j, Some (node_bytes (are.back_level j) back.entries)) ∷ (at, Some (node_bytes (are.front_level j) front.entries)) ∷ [];
    next = next;
    parent =
        let k : key ≡ first_key back.entries = is_key ∙ sym (first_is back.entries e are.back_part.0 at_e) in
        let v : value ≡ big_endian 8 old.next = is_value ∙ ap (big_endian 8) is_fresh in
        λ j. Some (Pair (k j) (Some (v j)));
    unread = unread;
  },
)

-- ---- an entry at an index

pub record At (es : List Entry) (i : ℕ) : Type 0 where
  pub before : List Entry
  pub entry : Entry
  pub after : List Entry
  pub splits : Splits es i before entry after

pub at_index : (es : List Entry) (i : ℕ) → i < length es → At es i
at_index [] i within = absurd (omega arith)
at_index (e ∷ es) zero within = record { before = []; entry = e; after = es; splits = record { split = refl; count = refl } }
at_index (e ∷ es) (suc i) within =
    let rest = at_index es i (omega arith) in record {
      before = e ∷ rest.before;
      entry = rest.entry;
      after = rest.after;
      splits = record { split = ap (λ (fs : List Entry). e ∷ fs) rest.splits.split; count = ap suc rest.splits.count };
    }

-- entries near their place below a step are so in some bounds
pub some_near : (parent : Step) (level at : ℕ) (es : List Entry) → parent.index < length parent.node.entries → IsNearChild parent level at es → (bounds : Bounds) × IsNearPlace level bounds es
some_near parent level at es within near =
    let a = at_index parent.node.entries parent.index within in
    (child_bounds a.entry a.after parent.upper, (near a.before a.after a.entry a.splits).1)

-- two adjacent ones
pub record TwoAt (es : List Entry) (i : ℕ) : Type 0 where
  pub before : List Entry
  pub one : Entry
  pub two : Entry
  pub after : List Entry
  pub first : Splits es i before one (two ∷ after)
  pub second : Splits es (i + 1) (before ++ one ∷ []) two after

pub two_at_index : (es : List Entry) (i : ℕ) → i + 1 < length es → TwoAt es i
two_at_index es i within = by (at_index es i (omega arith))
  where
    with_rest : (before : List Entry) (one : Entry) (rest : List Entry) → Splits es i before one rest → TwoAt es i
    with_rest before one [] splits =
        absurd (let count : length before ≡ i = splits.count in omega (arith, ap length splits.split, length-append before (one ∷ [])))
    with_rest before one (two ∷ after) splits =
        let count : length before ≡ i = splits.count in record {
          before = before;
          one = one;
          two = two;
          after = after;
          first = splits;
          second = record { split = splits.split ∙ sym (append_assoc before (one ∷ []) (two ∷ after)); count = omega (arith, length-append before (one ∷ [])) };
        }

    by : At es i → TwoAt es i
    by a = with_rest a.before a.entry a.after a.splits

-- the second of two is the one at its index
second_is : (es : List Entry) (i : ℕ) (t : TwoAt es i) (j : ℕ) (e : Entry) → j ≡ i + 1 → e ≡ get_or es j e → t.two.0 ≡ e.0
second_is es i t j e next at =
    let count : length t.before ≡ i = t.first.count in
    let place : j ≡ suc (length t.before) = omega arith in
    sym (ap (λ (f : Entry). f.0) (at ∙ (λ k. get_or (t.first.split k) (place k) e) ∙ next_at t.before t.after t.one t.two e))

rising_two : (es : List Entry) (i : ℕ) (t : TwoAt es i) → IsRising es → IsBelow t.one.0 t.two.0
rising_two es i t rising =
    (IsRising-head t.one (t.two ∷ t.after) (IsRising-split t.before (t.one ∷ t.two ∷ t.after) (subst IsRising t.first.split rising)).1).0

-- ---- the entries of two adjacent children

pub near_from_node : (level : ℕ) (bounds : Bounds) (es : List Entry) → IsNode level es → IsInPlace level bounds es → IsNearPlace level bounds es
near_from_node level bounds es node place = record {
  level_fits = node.level_fits;
  children = λ h. (node.children h).1;
  keys = node.keys;
  values = node.values;
  rising = node.rising;
  lower = place.lower;
  upper = place.upper;
  first = λ h. (node.some, place.first h);
  near = omega (arith, node.fits);
}

all_below : (k a : List ℕ) (fs : List Entry) → IsBelow a k → AllByRecursion (λ f. IsNotAbove k f.0) fs → IsBelowAll a fs
all_below k a [] below all = tt
all_below k a (f ∷ fs) below all = (below_then_not_above a k f.0 below all.0, all_below k a fs below all.1)

apart : (k : List ℕ) (es fs : List Entry) → AllByRecursion (λ e. IsBelow e.0 k) es → AllByRecursion (λ f. IsNotAbove k f.0) fs → AreBelow es fs
apart k [] fs lefts rights = tt
apart k (e ∷ es) fs lefts rights = (all_below k e.0 fs lefts.0 rights, apart k es fs lefts.1 rights)

abbrev pub open_bounds : List ℕ → Bounds
open_bounds lower = record { least = 0; lower = lower; upper = None }

first_merged : (es fs : List Entry) (lower : List ℕ) → (1 ≤ length es) × (first_key es ≡ lower) → (1 ≤ length (es ++ fs)) × (first_key (es ++ fs) ≡ lower)
first_merged [] fs lower first = absurd (omega (arith, first.0))
first_merged (e ∷ es) fs lower first = (omega (arith, length-append (e ∷ es) fs), first.1)

pub merged_near : (level : ℕ) (one two : Entry) (after : List Entry) (upper : Option (List ℕ)) (es fs : List Entry) → IsBelow one.0 two.0 → IsNearPlace level (child_bounds one (two ∷ after) upper) es → IsNearPlace level (child_bounds two after upper) fs → size es + size fs ≤ 5155 → IsNearPlace level (open_bounds one.0) (es ++ fs)
merged_near level one two after upper es fs below left right fits = record {
  level_fits = left.level_fits;
  children = λ h. All-append (λ (e : Entry). length e.1 ≡ 8) es fs (left.children h) (right.children h);
  keys = All-append (λ (e : Entry). IsName e.0) es fs left.keys right.keys;
  values = All-append (λ (e : Entry). length e.1 ≤ 1024) es fs left.values right.values;
  rising = IsRising-append es fs left.rising right.rising
      (apart two.0 es fs (recursion_from_All (λ (e : Entry). IsBelow e.0 two.0) es left.upper) (recursion_from_All (λ (e : Entry). IsNotAbove two.0 e.0) fs right.lower));
  lower = All-append (λ (e : Entry). IsNotAbove one.0 e.0) es fs left.lower
      (λ k d within. IsNotAbove-trans one.0 two.0 (get_or fs k d).0 (IsNotAbove-below one.0 two.0 below) (right.lower k d within));
  upper = λ k d within. tt;
  first = λ h. first_merged es fs one.0 (left.first h);
  near = omega (arith, size-append es fs);
}

-- ---- a child that was read

-- what is known of a child is so in each store that agrees
pub child_laid : (old new : Seen) (parent : Step) (index level at : ℕ) (es : List Entry) → OnlyRead old new → IsSound new → IsKnown new at → HasChild new.view parent index level at es → (store : Store) → Agrees store new → HasChild (laid old store) parent index level at es
child_laid old new parent index level at es reads sound known has store agrees before after entry splits =
    let here = has before after entry splits in
    (here.0, HasNode-same new new.view (laid old store) (laid_same old new store reads sound agrees) level at (child_bounds entry after parent.upper) es known here.1)

-- and so is where a child is broken
pub child_broken : (old new : Seen) (parent : Step) (index level at : ℕ) (bounds : Bounds) → index < length parent.node.entries
    → ((before after : List Entry) (entry : Entry) → Splits parent.node.entries index before entry after → IsAddress entry.1 at)
    → ((before after : List Entry) (entry : Entry) → Splits parent.node.entries index before entry after → bounds ≡ child_bounds entry after parent.upper)
    → OnlyRead old new → IsSound new → IsKnown new at → IsBroken new.view level at bounds
    → OnlyRead old new × ((front : List Entry) × (back : List Entry) × (b : Bounds) × Child parent.node.entries parent.upper front back at b × ((store : Store) → Agrees store new → IsBroken (laid old store) level at b))
child_broken old new parent index level at bounds within address asks reads sound known broken =
    let a = at_index parent.node.entries index within in
    let child : Child parent.node.entries parent.upper a.before a.after at bounds = record { entry = a.entry; split = a.splits.split; address = address a.before a.after a.entry a.splits; bounds_are = asks a.before a.after a.entry a.splits } in
    (reads, (a.before, a.after, bounds, child, λ store agrees. IsBroken-same new new.view (laid old store) (laid_same old new store reads sound agrees) level at bounds known broken))

-- so the fault that a read of it met says why a node was not rebalanced
pub rebalance_fault : (old new : Seen) (parent : Step) (index level at : ℕ) (bounds : Bounds) (fault : TreeFault) → index < length parent.node.entries
    → ((before after : List Entry) (entry : Entry) → Splits parent.node.entries index before entry after → IsAddress entry.1 at)
    → ((before after : List Entry) (entry : Entry) → Splits parent.node.entries index before entry after → bounds ≡ child_bounds entry after parent.upper)
    → OnlyRead old new → IsSound new → IsPlaceFault level at bounds new fault → IsRebalanceFault level parent old new fault
rebalance_fault old new parent index level at bounds (Space fault) within address asks reads sound h = tt
rebalance_fault old new parent index level at bounds (Broken q) within address asks reads sound h =
    subst (λ (a : ℕ). OnlyRead old new × ((front : List Entry) × (back : List Entry) × (b : Bounds) × Child parent.node.entries parent.upper front back a b × ((store : Store) → Agrees store new → IsBroken (laid old store) level a b))) (sym h.0)
    (child_broken old new parent index level at bounds within address asks reads sound h.1 h.2)

module _ (level at : ℕ) (es : List Entry) (parent : Step) (old new : Seen) (held : HeldNeighbours) where
  -- a child in hand and its right neighbour
  pub right_held : (q : ℕ) (fs : List Entry) (e : Entry) → IsRising parent.node.entries → parent.index + 1 < length parent.node.entries → IsNearChild parent level at es → size es < 1016
      → HasChild new.view parent (parent.index + 1) level q fs → ((store : Store) → Agrees store new → HasChild (laid old store) parent (parent.index + 1) level q fs)
      → e ≡ get_or parent.node.entries (parent.index + 1) e → held.left.0 ≡ at → held.right.0 ≡ q → held.separator ≡ e.0 → held.both.level ≡ level → held.both.entries ≡ es ++ fs → ReadsOnly q old new
      → AreNeighbours level at es parent old new held
  right_held q fs e rising within near small has laid_has at_e left right separator level_is both only =
      let t = two_at_index parent.node.entries parent.index within in
      let mine = near t.before (t.two ∷ t.after) t.one t.first in
      let other = has (t.before ++ t.one ∷ []) t.after t.two t.second in
      let node = other.1.0.spells.node in
      let place = other.1.1 in
      let below : IsBelow t.one.0 t.two.0 = rising_two parent.node.entries parent.index t rising in
      let all = merged_near level t.one t.two t.after parent.upper es fs below mine.1 (near_from_node level (child_bounds t.two t.after parent.upper) fs node place) (omega (arith, node.fits)) in
      record {
        thin = small;
        pair = record {
          before = t.before;
          one = t.one;
          two = t.two;
          after = t.after;
          one_at = at;
          two_at = q;
          one_entries = es;
          two_entries = fs;
          split = t.first.split;
          one_address = mine.0;
          two_address = other.0;
          sides = inl (sym t.first.count, refl, refl, λ store agrees. (laid_has store agrees (t.before ++ t.one ∷ []) t.after t.two t.second).1, only);
        };
        left = sym left;
        right = sym right;
        separator = second_is parent.node.entries parent.index t (parent.index + 1) e refl at_e ∙ sym separator;
        level_is = level_is;
        both = sym both;
        bounds = open_bounds t.one.0;
        near = subst (IsNearPlace level (open_bounds t.one.0)) (sym both) all;
        filled = omega (arith, size-append es fs, ap size both, place.filled);
      }

  no_more : (i : ℕ) (t : TwoAt parent.node.entries i) → length parent.node.entries ≤ i + 2 → t.after ≡ []
  no_more i t short =
      by t.after (let count : length t.before ≡ i = t.first.count in omega (arith, ap length t.first.split, length-append t.before (t.one ∷ t.two ∷ t.after)))
    where
      by : (fs : List Entry) → length fs ≡ 0 → fs ≡ []
      by [] e = refl
      by (f ∷ fs) e = absurd (omega arith)

  -- the last child in hand and its left neighbour
  pub left_held : (q : ℕ) (fs : List Entry) (e : Entry) → IsRising parent.node.entries → 1 ≤ parent.index → parent.index < length parent.node.entries → length parent.node.entries ≤ parent.index + 1 → IsNearChild parent level at es → size es < 1016
      → HasChild new.view parent (parent.index - 1) level q fs → ((store : Store) → Agrees store new → HasChild (laid old store) parent (parent.index - 1) level q fs)
      → e ≡ get_or parent.node.entries parent.index e → held.left.0 ≡ q → held.right.0 ≡ at → held.separator ≡ e.0 → held.both.level ≡ level → held.both.entries ≡ fs ++ es → ReadsOnly q old new
      → AreNeighbours level at es parent old new held
  left_held q fs e rising some within last near small has laid_has at_e left right separator level_is both only =
      let i = parent.index - 1 in
      let next : parent.index ≡ i + 1 = omega arith in
      let t = two_at_index parent.node.entries i (omega arith) in
      let second : Splits parent.node.entries parent.index (t.before ++ t.one ∷ []) t.two t.after = record { split = t.second.split; count = t.second.count ∙ sym next } in
      let mine = near (t.before ++ t.one ∷ []) t.after t.two second in
      let other = has t.before (t.two ∷ t.after) t.one t.first in
      let node = other.1.0.spells.node in
      let place = other.1.1 in
      let below : IsBelow t.one.0 t.two.0 = rising_two parent.node.entries i t rising in
      let all = merged_near level t.one t.two t.after parent.upper fs es below (near_from_node level (child_bounds t.one (t.two ∷ t.after) parent.upper) fs node place) mine.1 (omega (arith, node.fits)) in
      record {
        thin = small;
        pair = record {
          before = t.before;
          one = t.one;
          two = t.two;
          after = t.after;
          one_at = q;
          two_at = at;
          one_entries = fs;
          two_entries = es;
          split = t.first.split;
          one_address = other.0;
          two_address = mine.0;
          sides = inr (next ∙ ap (λ (n : ℕ). n + 1) (sym t.first.count), no_more i t (omega arith), refl, refl, λ store agrees. (laid_has store agrees t.before (t.two ∷ t.after) t.one t.first).1, only);
        };
        left = sym left;
        right = sym right;
        separator = second_is parent.node.entries i t parent.index e next at_e ∙ sym separator;
        level_is = level_is;
        both = sym both;
        bounds = open_bounds t.one.0;
        near = subst (IsNearPlace level (open_bounds t.one.0)) (sym both) all;
        filled = omega (arith, size-append fs es, ap size both, place.filled);
      }

  -- ---- what is planned of the two

  abbrev Planned : List Change → List Change → (List Change → Type 0) → Type 0
  Planned before after P = (changes : List Change) × (after ≡ changes ++ before) × P changes

  pub merges : (before after : List Change) (left : Option Edit) → AreNeighbours level at es parent old new held → Merged held before after left → new.next ≡ old.next → Planned before after (λ changes. Merges level at es parent old new changes left)
  merges before after left are merged next = (
    (held.right.0, None) ∷ (held.left.0, Some (node_bytes held.both.level held.both.entries)) ∷ [],
    merged.planned,
    record {
      thin = are.thin;
      pair = are.pair;
      room = omega (arith, ap size are.both, merged.room);
      planned = λ j. (sym are.right j, None) ∷ (sym are.left j, Some (node_bytes (are.level_is j) (sym are.both j))) ∷ [];
      next = next;
      parent_edit = merged.parent_edit ∙ ap (λ (k : List ℕ). Some (Pair k None)) (sym are.separator);
    },
  )

  pub redistributes : (before after : List Change) (left : Option Edit) → AreNeighbours level at es parent old new held → Redistributed held before after left → new.next ≡ old.next → Planned before after (λ changes. Redistributes level at es parent old new changes left)
  redistributes before after left are cut next = (
    (held.right.0, Some (node_bytes held.both.level cut.back)) ∷ (held.left.0, Some (node_bytes held.both.level cut.front)) ∷ [],
    cut.planned,
    record {
      thin = are.thin;
      pair = are.pair;
      large = omega (arith, ap size are.both, cut.large);
      front = cut.front;
      back = cut.back;
      cut = are.both ∙ cut.cut;
      is_cut = subst (λ (es : List Entry). IsCut es (length cut.front)) (sym are.both) cut.is_cut;
      front_part = cut.front_part;
      back_part = cut.back_part;
      planned = λ j. (sym are.right j, Some (node_bytes (are.level_is j) cut.back)) ∷ (sym are.left j, Some (node_bytes (are.level_is j) cut.front)) ∷ [];
      next = next;
      parent_edit = elim cut.parent_edit [
        | inl moves ↦ inl (moves ∙ ap (λ (k : List ℕ). Some (Moved k (first_key cut.back))) (sym are.separator))
        | inr stays ↦ inr (stays.0, stays.1 ∙ sym are.separator)
      ];
    },
  )
