-- What becomes of a root: it is split below a new level, it takes its only child's content, it is left without
-- entries, or the first leaf is planted.
use Rattle.std.proofs.Common.{◌≡◌, ◌≢◌, ◌⊎◌, ℕ, suc, ◌+◌, ◌<◌, ◌≤◌, ◌^◌, List, [], ◌∷◌, ◌++◌, length, Option, Some, None, refl, sym, ap, subst, ◌∙◌, inl, inr, arith, append-nil}
use Rattle.std.specs.List.{All, Contains}
use Rattle.std.specs.FinMap as map
use Rattle.std.specs.FinMap.{get-empty, same_map, find, len-empty, len-entries}
use Rattle.std.specs.FinMap.Entries.{put}
use Rattle.std.proofs.lemmas.Bool.{cases_eq}
use Rattle.std.proofs.lemmas.List.{nil_from_length}
use Rattle.std.proofs.lemmas.List.Elements.{All-nil, All-cons, Contains-append_left, Contains-append_right, Contains-append_cases}
use Rattle.sea_base.specs.Field.{big_endian}
use Rattle.sea_base.specs.Name.{IsName}
use Rattle.sea_base.specs.Space.{Store}
use Rattle.sea_base.proofs.Fields.{length-big_endian}
use Rattle.sea_node.specs.Entries.{Entry, Values, key_order, IsBelow, IsNotAbove, edited}
use Rattle.sea_node.specs.Node.{IsNode, node_bytes}
use Rattle.sea_node.proofs.Keys.{key_order_total, same_key, IsNotAbove-below, IsNotAbove-itself, IsRising-cons, IsRising-one, least_key}
use Rattle.sea_node.proofs.Nodes.{size-cons, size-one, entry_size-leaf, entry_size-inner}
use Rattle.sea_tree.specs.Tree.{NodeAt, root_bounds, IsWithin, IsInPlace, first_key, child_bounds, IsAddress, IsNodeOf}
use Rattle.sea_tree.specs.Content.{HasContent}
use Rattle.sea_tree.specs.Does.{overlaid}
use Rattle.sea_tree.specs.Subtrees.{AllBelow, Holds}
use Rattle.sea_tree.specs.Changing.{Changed, changed_content, root_entries}
use Rattle.sea_tree.specs.Mending.{Aim, IsGiven, Mending, Replaced, IsPart}
use Rattle.sea_tree.proofs.Holding.{Holds-node, HoldsBelow, node_held, same_address, nodes_of_root, no_node, Contains-nil, Contains-head, Contains-later, Contains-cases}
use Rattle.sea_tree.proofs.Contents.{get_found, insert_entries, only_empty, HasContent-held, HasContent-empty}
use Rattle.sea_tree.proofs.Frames.{IsSameOn, AllBelow-one, Below-kept}
use Rattle.sea_tree.proofs.Apart.{distinct-head, Holds-distinct}
use Rattle.sea_tree.proofs.MendNear.{Halves, halves}
use Rattle.sea_tree.proofs.MendSides.{overlaid-here, overlaid-other, PutsOne, PutsTwo, puts_two, puts_turned, both, below_both, both_first, both_second}
use Rattle.sea_tree.proofs.MendSplit.{put_node, given_more, IsFree, mending_held, mending_filled, mending_apart, mending_new_apart, mending_new_fresh, TwoHeld, two_held}
use Rattle.sea_tree.proofs.Mending.{not_given, changed_from, entries_changed, pairs_of_content}

-- ---- the root is split

-- three blocks were put, in any order
pub record PutsThree (is is' : Store) (a : ℕ) (x : Option (List ℕ)) (b : ℕ) (y : Option (List ℕ)) (c : ℕ) (z : Option (List ℕ)) : Type 0 where
  pub first : is' a ≡ x
  pub second : is' b ≡ y
  pub third : is' c ≡ z
  pub others : (q : ℕ) → q ≢ a → q ≢ b → q ≢ c → is' q ≡ is q

pub puts_three : (is is' : Store) (a : ℕ) (x : Option (List ℕ)) (b : ℕ) (y : Option (List ℕ)) (c : ℕ) (z : Option (List ℕ)) → b ≢ a → c ≢ a → c ≢ b → ((q : ℕ) → is' q ≡ overlaid ((a, x) ∷ (b, y) ∷ (c, z) ∷ []) is q) → PutsThree is is' a x b y c z
puts_three is is' a x b y c z b_a c_a c_b same = record {
  first = same a ∙ overlaid-here a x ((b, y) ∷ (c, z) ∷ []) is;
  second = same b ∙ overlaid-other a x ((b, y) ∷ (c, z) ∷ []) is b b_a ∙ overlaid-here b y ((c, z) ∷ []) is;
  third = same c ∙ overlaid-other a x ((b, y) ∷ (c, z) ∷ []) is c c_a ∙ overlaid-other b y ((c, z) ∷ []) is c c_b ∙ overlaid-here c z [] is;
  others = λ q not_a not_b not_c. same q ∙ overlaid-other a x ((b, y) ∷ (c, z) ∷ []) is q not_a ∙ overlaid-other b y ((c, z) ∷ []) is q not_b ∙ overlaid-other c z [] is q not_c;
}

pair_all : (P : Entry → Type 0) (e f : Entry) → P e → P f → All P (e ∷ f ∷ [])
pair_all P e f here there = All-cons P e (f ∷ []) here (All-cons P f [] there (All-nil P))

-- they are a node in its place
pub IsNode-root : (level first : ℕ) (right : List Entry) → level < 7 → IsName (first_key right) → IsBelow (0 ∷ []) (first_key right) → IsNode (suc level) (root_entries first right)
IsNode-root level first right low name below =
    let e : Entry = (0 ∷ [], big_endian 8 first) in
    let f : Entry = (first_key right, big_endian 8 (first + 1)) in
    let one : length e.1 ≡ 8 = length-big_endian 8 first in
    let two : length f.1 ≡ 8 = length-big_endian 8 (first + 1) in
    let zero_name : IsName e.0 = (omega arith, omega arith) in
    record {
      level_fits = omega arith;
      some = omega arith;
      children = λ h. (omega arith, pair_all (λ (x : Entry). length x.1 ≡ 8) e f one two);
      keys = pair_all (λ (x : Entry). IsName x.0) e f zero_name name;
      values = pair_all (λ (x : Entry). length x.1 ≤ 1024) e f (omega (arith, one)) (omega (arith, two));
      rising = IsRising-cons e (f ∷ []) (below, tt) (IsRising-one f);
      fits = omega (arith, size-cons e (f ∷ []), size-one f, entry_size-inner e zero_name one, entry_size-inner f name two);
    }

pub IsInPlace-root : (level first : ℕ) (right : List Entry) → IsBelow (0 ∷ []) (first_key right) → IsInPlace (suc level) root_bounds (root_entries first right)
IsInPlace-root level first right below =
    let e : Entry = (0 ∷ [], big_endian 8 first) in
    let f : Entry = (first_key right, big_endian 8 (first + 1)) in
    record {
      filled = omega arith;
      lower = pair_all (λ (x : Entry). IsNotAbove (0 ∷ []) x.0) e f (IsNotAbove-itself (0 ∷ [])) (IsNotAbove-below (0 ∷ []) (first_key right) below);
      upper = pair_all (λ (x : Entry). IsWithin x.0 None) e f tt tt;
      first = λ h. refl;
    }

module _ (was is is' : Store) (level root : ℕ) (before left right : List Entry) (aim : Aim) (m : Mending was is level root root_bounds before (left ++ right) aim) (low : level < 7) (first : IsPart left) (second : IsPart right) (ordered : aim.first ≤ aim.last) (small : aim.last + 1 < 2 ^ 64) (free : IsFree was (given_more 2 aim)) (puts : PutsThree is is' root (Some (node_bytes (suc level) (root_entries aim.last right))) aim.last (Some (node_bytes level left)) (aim.last + 1) (Some (node_bytes level right))) where
  parts : Halves level root_bounds left right
  parts = halves level root_bounds left right m.near first second

  given_first : IsGiven (given_more 2 aim) aim.last
  given_first = (ordered, omega arith)

  given_second : IsGiven (given_more 2 aim) (aim.last + 1)
  given_second = (omega (arith, ordered), omega arith)

  free_before : IsFree was aim
  free_before q given = free q (given.0, omega (arith, given.1))

  same_below : IsSameOn is is' m.new_nodes
  same_below q c =
      puts.others q
      (λ same. mending_new_apart was is level root root_bounds before (left ++ right) aim m free_before (subst (Contains m.new_nodes) same c))
      (λ same. mending_new_fresh was is level root root_bounds before (left ++ right) aim m aim.last (free aim.last given_first) (omega arith) (subst (Contains m.new_nodes) same c))
      (λ same. mending_new_fresh was is level root root_bounds before (left ++ right) aim m (aim.last + 1) (free (aim.last + 1) given_second) (omega arith) (subst (Contains m.new_nodes) same c))

  two : TwoHeld is' level aim.last (aim.last + 1) root_bounds right m.new_pairs m.new_nodes
  two = two_held is is' level aim.last (aim.last + 1) root_bounds left right m.new_pairs m.new_nodes parts m.below_is same_below puts.second puts.third

  below_now : AllBelow (Holds is' level) (root_entries aim.last right) None (two.pairs_a ++ (two.pairs_b ++ [])) ((aim.last ∷ two.nodes_a) ++ (((aim.last + 1) ∷ two.nodes_b) ++ []))
  below_now =
      let e : Entry = (0 ∷ [], big_endian 8 aim.last) in
      let f : Entry = (first_key right, big_endian 8 (aim.last + 1)) in
      AllBelow-one (Holds is' level) e (f ∷ []) None aim.last two.pairs_a (two.pairs_b ++ []) (aim.last ∷ two.nodes_a) (((aim.last + 1) ∷ two.nodes_b) ++ []) (omega arith, refl) two.left_held
      (AllBelow-one (Holds is' level) f [] None (aim.last + 1) two.pairs_b [] ((aim.last + 1) ∷ two.nodes_b) [] (small, refl) two.right_held (refl, refl))

  among : (q : ℕ) → Contains m.new_nodes q → Contains (root ∷ m.old_nodes) q ⊎ IsGiven (given_more 2 aim) q
  among q c = elim (m.nodes q c) [
    | inl old ↦ inl (Contains-later root m.old_nodes q old)
    | inr given ↦ inr (given.0, omega (arith, given.1))
  ]

  among_left : (q : ℕ) → Contains (aim.last ∷ two.nodes_a) q → Contains (root ∷ m.old_nodes) q ⊎ IsGiven (given_more 2 aim) q
  among_left q c = elim (Contains-cases aim.last two.nodes_a q c) [
    | inl same ↦ inr (subst (IsGiven (given_more 2 aim)) same given_first)
    | inr later ↦ among q (subst (λ (l : List ℕ). Contains l q) (sym two.nodes_are) (Contains-append_left two.nodes_a two.nodes_b q later))
  ]

  among_right : (q : ℕ) → Contains ((aim.last + 1) ∷ two.nodes_b) q → Contains (root ∷ m.old_nodes) q ⊎ IsGiven (given_more 2 aim) q
  among_right q c = elim (Contains-cases (aim.last + 1) two.nodes_b q c) [
    | inl same ↦ inr (subst (IsGiven (given_more 2 aim)) same given_second)
    | inr later ↦ among q (subst (λ (l : List ℕ). Contains l q) (sym two.nodes_are) (Contains-append_right two.nodes_a two.nodes_b q later))
  ]

  nodes_now : (q : ℕ) → Contains (root ∷ ((aim.last ∷ two.nodes_a) ++ (((aim.last + 1) ∷ two.nodes_b) ++ []))) q → Contains (root ∷ m.old_nodes) q ⊎ IsGiven (given_more 2 aim) q
  nodes_now q c = elim (Contains-cases root ((aim.last ∷ two.nodes_a) ++ (((aim.last + 1) ∷ two.nodes_b) ++ [])) q c) [
    | inl same ↦ inl (subst (Contains (root ∷ m.old_nodes)) same (Contains-head root m.old_nodes))
    | inr later ↦ elim (Contains-append_cases (aim.last ∷ two.nodes_a) (((aim.last + 1) ∷ two.nodes_b) ++ []) q later) [
      | inl one ↦ among_left q one
      | inr other ↦ among_right q (subst (λ (l : List ℕ). Contains l q) (append-nil ((aim.last + 1) ∷ two.nodes_b)) other)
    ]
  ]

  all_whole : (q : ℕ) → Contains (both aim.last two.nodes_a (aim.last + 1) two.nodes_b) q → Contains (root ∷ ((aim.last ∷ two.nodes_a) ++ (((aim.last + 1) ∷ two.nodes_b) ++ []))) q
  all_whole q c = Contains-later root ((aim.last ∷ two.nodes_a) ++ (((aim.last + 1) ∷ two.nodes_b) ++ [])) q (subst (λ (l : List ℕ). Contains ((aim.last ∷ two.nodes_a) ++ l) q) (sym (append-nil ((aim.last + 1) ∷ two.nodes_b))) c)

  all_two : (q : ℕ) → Contains m.new_nodes q → Contains (both aim.last two.nodes_a (aim.last + 1) two.nodes_b) q
  all_two q c = below_both aim.last two.nodes_a (aim.last + 1) two.nodes_b q (subst (λ (l : List ℕ). Contains l q) two.nodes_are c)

  not_old : (g q : ℕ) → IsGiven (given_more 2 aim) g → Contains m.old_nodes q → q ≢ g
  not_old g q given later same = mending_filled was is level root root_bounds before (left ++ right) aim m q (Contains-later root m.old_nodes q later) (ap was same ∙ free g given)

  stays_now : (q : ℕ) → Contains (root ∷ m.old_nodes) q → Contains (root ∷ ((aim.last ∷ two.nodes_a) ++ (((aim.last + 1) ∷ two.nodes_b) ++ []))) q ⊎ (is' q ≡ None)
  stays_now q c = elim (Contains-cases root m.old_nodes q c) [
    | inl same ↦ inl (subst (Contains (root ∷ ((aim.last ∷ two.nodes_a) ++ (((aim.last + 1) ∷ two.nodes_b) ++ [])))) same (Contains-head root ((aim.last ∷ two.nodes_a) ++ (((aim.last + 1) ∷ two.nodes_b) ++ []))))
    | inr later ↦ elim (m.stays q later) [
      | inl new ↦ inl (all_whole q (all_two q new))
      | inr none ↦ inr (
          puts.others q
          (λ same. mending_apart was is level root root_bounds before (left ++ right) aim m (subst (Contains m.old_nodes) same later))
          (not_old aim.last q given_first later)
          (not_old (aim.last + 1) q given_second later) ∙ none)
    ]
  ]

  uses_now : (q : ℕ) → IsGiven (given_more 2 aim) q → Contains (both aim.last two.nodes_a (aim.last + 1) two.nodes_b) q
  uses_now q given = elim (cases_eq q aim.last) [
    | inl same ↦ subst (Contains (both aim.last two.nodes_a (aim.last + 1) two.nodes_b)) (sym same) (both_first aim.last two.nodes_a (aim.last + 1) two.nodes_b)
    | inr other ↦ elim (cases_eq q (aim.last + 1)) [
      | inl same ↦ subst (Contains (both aim.last two.nodes_a (aim.last + 1) two.nodes_b)) (sym same) (both_second aim.last two.nodes_a (aim.last + 1) two.nodes_b)
      | inr more ↦ all_two q (m.uses q (given.0, omega (arith, given.1, other, more)))
    ]
  ]

  pairs_now : two.pairs_a ++ (two.pairs_b ++ []) ≡ m.new_pairs
  pairs_now = ap (λ (r : List Entry). two.pairs_a ++ r) (append-nil two.pairs_b) ∙ sym two.pairs_are

  -- The root is split over two fresh addresses, and becomes a node one level higher that leads to both.
  pub root_split : Replaced was is' level (suc level) root root_bounds (given_more 2 aim)
  root_split = record {
    old_pairs = m.old_pairs;
    new_pairs = two.pairs_a ++ (two.pairs_b ++ []);
    old_nodes = root ∷ m.old_nodes;
    new_nodes = root ∷ ((aim.last ∷ two.nodes_a) ++ (((aim.last + 1) ∷ two.nodes_b) ++ []));
    holds_was = mending_held was is level root root_bounds before (left ++ right) aim m;
    holds_is = (root_entries aim.last right, (aim.last ∷ two.nodes_a) ++ (((aim.last + 1) ∷ two.nodes_b) ++ []), put_node is' (suc level) root root_bounds (root_entries aim.last right) puts.first (IsNode-root level aim.last right low parts.name parts.above) (IsInPlace-root level aim.last right parts.above), below_now, refl);
    pairs = pairs_now ∙ m.pairs;
    key_lower = m.key_lower;
    key_upper = m.key_upper;
    elsewhere = λ q out unknown.
        puts.others q
        (λ same. out (subst (Contains (root ∷ m.old_nodes)) (sym same) (Contains-head root m.old_nodes)))
        (λ same. unknown (subst (IsGiven (given_more 2 aim)) (sym same) given_first))
        (λ same. unknown (subst (IsGiven (given_more 2 aim)) (sym same) given_second))
        ∙ m.elsewhere q (λ c. out (Contains-later root m.old_nodes q c)) (λ given. unknown (given.0, omega (arith, given.1)));
    nodes = nodes_now;
    stays = stays_now;
    uses = λ q given. all_whole q (uses_now q given);
  }

-- the three blocks as they are put, the root last
pub root_split_puts : (was is is' : Store) (level root : ℕ) (before after : List Entry) (x y z : Option (List ℕ)) (aim : Aim) → Mending was is level root root_bounds before after aim → aim.first ≤ aim.last → IsFree was (given_more 2 aim) → ((q : ℕ) → is' q ≡ overlaid ((root, x) ∷ (aim.last + 1, z) ∷ (aim.last, y) ∷ []) is q) → PutsThree is is' root x aim.last y (aim.last + 1) z
root_split_puts was is is' level root before after x y z aim m ordered free same =
    let filled = mending_filled was is level root root_bounds before after aim m root (Contains-head root m.old_nodes) in
    let w = puts_three is is' root x (aim.last + 1) z aim.last y (λ e. filled (ap was (sym e) ∙ free (aim.last + 1) (omega (arith, ordered), omega arith))) (λ e. filled (ap was (sym e) ∙ free aim.last (ordered, omega arith))) (λ e. absurd (omega (arith, e))) same in
    record { first = w.first; second = w.third; third = w.second; others = λ q not_root not_first not_second. w.others q not_root not_second not_first }

-- ---- the root is left with one child

module _ (was is is' : Store) (level root : ℕ) (before : List Entry) (key value : List ℕ) (child : ℕ) (aim : Aim) (m : Mending was is (suc level) root root_bounds before ((key, value) ∷ []) aim) (address : IsAddress value child) (free : IsFree was aim) (old_child : IsGiven aim child → ⊥) (puts : PutsTwo is is' root (is child) child None) where
  first_is : key ≡ 0 ∷ []
  first_is = (m.near.first (omega arith)).1

  only : Holds is level child (child_bounds (key, value) [] None) m.below_is.1 m.below_is.3
  only = subst (λ (c : ℕ). Holds is level c (child_bounds (key, value) [] None) m.below_is.1 m.below_is.3) (same_address value m.below_is.0 child m.below_is.5 address) m.below_is.6

  inner : HoldsBelow is level child (child_bounds (key, value) [] None) m.below_is.1 m.below_is.3
  inner = node_held is level child (child_bounds (key, value) [] None) m.below_is.1 m.below_is.3 only

  pairs_are : m.new_pairs ≡ m.below_is.1
  pairs_are = m.below_is.8 ∙ ap (λ (r : List Entry). m.below_is.1 ++ r) m.below_is.7.0 ∙ append-nil m.below_is.1

  nodes_are : m.new_nodes ≡ child ∷ inner.others
  nodes_are = m.below_is.9 ∙ ap (λ (r : List ℕ). m.below_is.3 ++ r) m.below_is.7.1 ∙ append-nil m.below_is.3 ∙ inner.nodes_are

  inside : (q : ℕ) → Contains (child ∷ inner.others) q → Contains m.new_nodes q
  inside q c = subst (λ (l : List ℕ). Contains l q) (sym nodes_are) c

  same_others : IsSameOn is is' inner.others
  same_others q c =
      puts.others q
      (λ same. mending_new_apart was is (suc level) root root_bounds before ((key, value) ∷ []) aim m free (subst (Contains m.new_nodes) same (inside q (Contains-later child inner.others q c))))
      (λ same. distinct-head child inner.others (Holds-distinct is level child (child_bounds (key, value) [] None) m.below_is.1 (child ∷ inner.others) (Holds-node is level child (child_bounds (key, value) [] None) inner.entries m.below_is.1 inner.others inner.node inner.below)) (subst (Contains inner.others) same c))

  moved_up : NodeAt is' root level inner.entries
  moved_up = record { bytes = inner.node.0.bytes; here = puts.first ∙ inner.node.0.here; spells = inner.node.0.spells }

  in_place : IsInPlace level root_bounds inner.entries
  in_place = record {
    filled = omega arith;
    lower = subst (λ (k : List ℕ). All (λ (e : Entry). IsNotAbove k e.0) inner.entries) first_is inner.node.1.lower;
    upper = inner.node.1.upper;
    first = λ h. inner.node.1.first h ∙ first_is;
  }

  -- The root takes its only child's content, one level lower, and the child's address is left.
  pub root_collapsed : Replaced was is' (suc level) level root root_bounds aim
  root_collapsed = record {
    old_pairs = m.old_pairs;
    new_pairs = m.below_is.1;
    old_nodes = root ∷ m.old_nodes;
    new_nodes = root ∷ inner.others;
    holds_was = mending_held was is (suc level) root root_bounds before ((key, value) ∷ []) aim m;
    holds_is = Holds-node is' level root root_bounds inner.entries m.below_is.1 inner.others (moved_up, in_place) (Below-kept is is' level inner.entries None m.below_is.1 inner.others same_others inner.below);
    pairs = sym pairs_are ∙ m.pairs;
    key_lower = m.key_lower;
    key_upper = m.key_upper;
    elsewhere = λ q out unknown.
        puts.others q
        (λ same. out (subst (Contains (root ∷ m.old_nodes)) (sym same) (Contains-head root m.old_nodes)))
        (λ same. elim (m.nodes q (inside q (subst (Contains (child ∷ inner.others)) (sym same) (Contains-head child inner.others)))) [
          | inl old ↦ out (Contains-later root m.old_nodes q old)
          | inr given ↦ unknown given
        ])
        ∙ m.elsewhere q (λ c. out (Contains-later root m.old_nodes q c)) unknown;
    nodes = λ q c. elim (Contains-cases root inner.others q c) [
      | inl same ↦ inl (subst (Contains (root ∷ m.old_nodes)) same (Contains-head root m.old_nodes))
      | inr later ↦ elim (m.nodes q (inside q (Contains-later child inner.others q later))) [
        | inl old ↦ inl (Contains-later root m.old_nodes q old)
        | inr given ↦ inr given
      ]
    ];
    stays = λ q c. elim (Contains-cases root m.old_nodes q c) [
      | inl same ↦ inl (subst (Contains (root ∷ inner.others)) same (Contains-head root inner.others))
      | inr later ↦ elim (m.stays q later) [
        | inl new ↦ elim (Contains-cases child inner.others q (subst (λ (l : List ℕ). Contains l q) nodes_are new)) [
          | inl same ↦ inr (ap is' (sym same) ∙ puts.second)
          | inr below ↦ inl (Contains-later root inner.others q below)
        ]
        | inr none ↦ inr (elim (cases_eq q child) [
          | inl same ↦ ap is' same ∙ puts.second
          | inr other ↦ puts.others q (λ same. mending_apart was is (suc level) root root_bounds before ((key, value) ∷ []) aim m (subst (Contains m.old_nodes) same later)) other ∙ none
        ])
      ]
    ];
    uses = λ q given. elim (Contains-cases child inner.others q (subst (λ (l : List ℕ). Contains l q) nodes_are (m.uses q given))) [
      | inl same ↦ absurd (old_child (subst (IsGiven aim) (sym same) given))
      | inr below ↦ Contains-later root inner.others q below
    ];
  }

-- the child's address is not the root's
child_apart : (was is : Store) (level root : ℕ) (before : List Entry) (key value : List ℕ) (child : ℕ) (aim : Aim) → Mending was is (suc level) root root_bounds before ((key, value) ∷ []) aim → IsAddress value child → IsFree was aim → child ≢ root
child_apart was is level root before key value child aim m address free e =
    let is_child : m.below_is.0 ≡ child = same_address value m.below_is.0 child m.below_is.5 address in
    let held = node_held is level m.below_is.0 (child_bounds (key, value) [] None) m.below_is.1 m.below_is.3 m.below_is.6 in
    let among : Contains m.below_is.3 root = subst (λ (l : List ℕ). Contains l root) (sym held.nodes_are) (subst (Contains (m.below_is.0 ∷ held.others)) (is_child ∙ e) (Contains-head m.below_is.0 held.others)) in
    mending_new_apart was is (suc level) root root_bounds before ((key, value) ∷ []) aim m free (subst (λ (l : List ℕ). Contains l root) (sym m.below_is.9) (Contains-append_left m.below_is.3 m.below_is.4 root among))

-- the two addresses as they are changed, the child's last
pub root_collapsed_puts : (was is is' : Store) (level root : ℕ) (before : List Entry) (key value : List ℕ) (child : ℕ) (bytes : List ℕ) (aim : Aim) → Mending was is (suc level) root root_bounds before ((key, value) ∷ []) aim → IsAddress value child → IsFree was aim → is child ≡ Some bytes → ((q : ℕ) → is' q ≡ overlaid ((child, None) ∷ (root, Some bytes) ∷ []) is q) → PutsTwo is is' root (is child) child None
root_collapsed_puts was is is' level root before key value child bytes aim m address free here same =
    let apart = child_apart was is level root before key value child aim m address free in
    subst (λ (x : Option (List ℕ)). PutsTwo is is' root x child None) (sym here) (puts_turned (puts_two is is' child None root (Some bytes) (λ e. apart (sym e)) same))

-- ---- the root is left without entries

no_pairs : (content : Values) → map.entries content ≡ [] → content ≡ map.empty
no_pairs content none = same_map key_order_total same_key content map.empty (λ key. get_found content key ∙ ap (λ (es : List Entry). find key_order key es) none ∙ sym (get-empty key_order key))

-- A leaf without entries leaves nothing at the root.
pub root_emptied : (was is is' : Store) (root : ℕ) (before : List Entry) (aim : Aim) (content : Values) → HasContent was root content → Mending was is 0 root root_bounds before [] aim → IsFree was aim → PutsOne is is' root None → Changed was is' root aim.first aim.last (changed_content aim.key aim.value content)
root_emptied was is is' root before aim content has m free puts =
    let held = mending_held was is 0 root root_bounds before [] aim m in
    let none : map.entries (changed_content aim.key aim.value content) ≡ [] =
    entries_changed aim.key aim.value content ∙ ap (λ (es : List Entry). edited aim.key aim.value es) (pairs_of_content was 0 root m.old_pairs (root ∷ m.old_nodes) content held has) ∙ sym m.pairs ∙ m.below_is.0 in
    changed_from was is' root aim.first aim.last (changed_content aim.key aim.value content) has.tree (λ q from below. free q (from, below))
    (subst (HasContent is' root) (sym (no_pairs (changed_content aim.key aim.value content) none)) (HasContent-empty is' root puts.here))
    (λ q other out apart. puts.others q other ∙ m.elsewhere q (λ c. out ((nodes_of_root was 0 root root_bounds m.old_pairs (root ∷ m.old_nodes) q held).0 (Contains-later root m.old_nodes q c))) (not_given aim.first aim.last q apart))
    (λ q node. absurd (no_node is' root q puts.here node))
    (λ q was_there filled. absurd (elim was_there [
      | inl same ↦ filled (ap is' same ∙ puts.here)
      | inr (inl node) ↦ elim (Contains-cases root m.old_nodes q ((nodes_of_root was 0 root root_bounds m.old_pairs (root ∷ m.old_nodes) q held).1 node)) [
        | inl same ↦ filled (ap is' (sym same) ∙ puts.here)
        | inr later ↦ elim (m.stays q later) [
          | inl new ↦ Contains-nil q (subst (λ (l : List ℕ). Contains l q) m.below_is.1 new)
          | inr none ↦ filled (puts.others q (λ same. mending_apart was is 0 root root_bounds before [] aim m (subst (Contains m.old_nodes) same later)) ∙ none)
        ]
      ]
      | inr (inr given) ↦ Contains-nil q (subst (λ (l : List ℕ). Contains l q) m.below_is.1 (m.uses q given))
    ]))
    (λ q from below. absurd (Contains-nil q (subst (λ (l : List ℕ). Contains l q) m.below_is.1 (m.uses q (from, below)))))

-- ---- the first leaf

one_pair : (key value : List ℕ) → IsName key → length value ≤ 1024 → IsNode 0 ((key, value) ∷ [])
one_pair key value name short =
    let e : Entry = (key, value) in
    record {
      level_fits = omega arith;
      some = omega arith;
      children = λ h. absurd (omega (arith, h));
      keys = All-cons (λ (x : Entry). IsName x.0) e [] name (All-nil (λ (x : Entry). IsName x.0));
      values = All-cons (λ (x : Entry). length x.1 ≤ 1024) e [] short (All-nil (λ (x : Entry). length x.1 ≤ 1024));
      rising = IsRising-one e;
      fits = omega (arith, size-one e, entry_size-leaf e name short);
    }

one_pair_place : (key value : List ℕ) → IsName key → IsInPlace 0 root_bounds ((key, value) ∷ [])
one_pair_place key value name =
    let e : Entry = (key, value) in
    record {
      filled = omega arith;
      lower = All-cons (λ (x : Entry). IsNotAbove (0 ∷ []) x.0) e [] (least_key key name) (All-nil (λ (x : Entry). IsNotAbove (0 ∷ []) x.0));
      upper = All-cons (λ (x : Entry). IsWithin x.0 None) e [] tt (All-nil (λ (x : Entry). IsWithin x.0 None));
      first = λ h. absurd (omega (arith, h));
    }

-- A leaf with one pair is put at an empty root.
pub planted : (was is : Store) (root first last : ℕ) (key value : List ℕ) (content : Values) → HasContent was root content → was root ≡ None → IsName key → length value ≤ 1024 → last ≤ first → PutsOne was is root (Some (node_bytes 0 ((key, value) ∷ []))) → Changed was is root first last (map.insert content key value)
planted was is root first last key value content has none name short nothing puts =
    let pairs : List Entry = (key, value) ∷ [] in
    let holds : Holds is 0 root root_bounds pairs (root ∷ []) = Holds-node is 0 root root_bounds pairs pairs [] (put_node is 0 root root_bounds pairs puts.here (one_pair key value name short) (one_pair_place key value name)) (refl, refl) in
    let empty : content ≡ map.empty = only_empty was root content none has in
    let no_entries : map.entries (map.empty {X = List ℕ} {R = key_order}) ≡ [] = nil_from_length (map.entries (map.empty {X = List ℕ} {R = key_order})) (sym (len-entries (map.empty {X = List ℕ} {R = key_order})) ∙ len-empty key_order (List ℕ)) in
    let same : map.entries (map.insert content key value) ≡ pairs = insert_entries content key value ∙ ap (λ (c : Values). put key_order key value (map.entries c)) empty ∙ ap (put key_order key value) no_entries in
    changed_from was is root first last (map.insert content key value) has.tree (λ q from below. absurd (omega (arith, from, below, nothing)))
    (HasContent-held is 0 root pairs (root ∷ []) (map.insert content key value) holds same)
    (λ q other out apart. puts.others q other)
    (λ q node. elim (Contains-cases root [] q ((nodes_of_root is 0 root root_bounds pairs (root ∷ []) q holds).1 node)) [
      | inl same ↦ inl (sym same)
      | inr later ↦ absurd (Contains-nil q later)
    ])
    (λ q was_there filled. elim was_there [
      | inl same ↦ subst (IsNodeOf is root) (sym same) ((nodes_of_root is 0 root root_bounds pairs (root ∷ []) root holds).0 (Contains-head root []))
      | inr (inl node) ↦ absurd (no_node was root q none node)
      | inr (inr given) ↦ absurd (omega (arith, given.0, given.1, nothing))
    ])
    (λ q from below. absurd (omega (arith, from, below, nothing)))
