-- A node whose entries are too many is split: its parent gains an entry.
use Rattle.std.proofs.Common.{◌≡◌, ◌≢◌, ◌⊎◌, ℕ, zero, suc, ◌+◌, ◌<◌, ◌≤◌, ◌^◌, List, [], ◌∷◌, ◌++◌, length, Option, Some, None, refl, sym, ap, subst, ◌∙◌, inl, inr, arith, append_assoc}
use Rattle.std.specs.List.{Contains}
use Rattle.std.proofs.lemmas.Bool.{cases_eq}
use Rattle.std.proofs.lemmas.List.Elements.{Contains-append_left, Contains-append_right, Contains-append_cases}
use Rattle.sea_base.specs.Field.{big_endian}
use Rattle.sea_base.specs.Space.{Store}
use Rattle.sea_base.proofs.Fields.{length-big_endian}
use Rattle.sea_node.specs.Entries.{Entry, IsBelow, edited}
use Rattle.sea_node.specs.Node.{IsNode, node_bytes}
use Rattle.sea_node.proofs.Keys.{IsNotAbove-below}
use Rattle.sea_tree.specs.Tree.{Bounds, IsInPlace, first_key, next_key, child_bounds, IsAddress, IsNodeOf, IsBelowNode}
use Rattle.sea_tree.specs.Breaks.{HasNode}
use Rattle.sea_tree.specs.Does.{overlaid}
use Rattle.sea_tree.specs.Subtrees.{AllBelow, Holds, Below}
use Rattle.sea_tree.specs.Mending.{IsNearPlace, Aim, IsGiven, Mending, IsPart}
use Rattle.sea_tree.proofs.Holding.{Holds-node, nodes_of_root, AllBelow-split, Contains-head, Contains-later, Contains-cases}
use Rattle.sea_tree.proofs.Frames.{IsSameOn, IsSameOn-left, IsSameOn-right, AllBelow-kept, AllBelow-one, AllBelow-around, Below-kept}
use Rattle.sea_tree.proofs.Apart.{distinct-head, Holds-distinct, Holds-filled}
use Rattle.sea_tree.proofs.MendNear.{IsNearPlace-edited, left_bounds, right_bounds, Halves, halves}
use Rattle.sea_tree.proofs.MendSides.{edited_between, Sides, sides, sides_before, sides_below, sides_lower, sides_upper, sides_above, sides_whole, sides_kept, sides_pairs, Contains-other_middle, Contains-middle, both, below_both, both_first, both_second, PutsTwo, puts_two, puts_turned}

-- ---- the node in hand

-- a node that was put is there
pub put_node : (store : Store) (level at : ℕ) (bounds : Bounds) (entries : List Entry) → store at ≡ Some (node_bytes level entries) → IsNode level entries → IsInPlace level bounds entries → HasNode store level at bounds entries
put_node store level at bounds entries here node place = (record { bytes = node_bytes level entries; here = here; spells = record { node = node; spelled = refl } }, place)

-- an aim of which more addresses are given
abbrev pub given_more : ℕ → Aim → Aim
given_more count aim = record aim { last = aim.last + count }

-- no address that the call allocated was filled
abbrev pub IsFree : Store → Aim → Type 0
IsFree was aim = (q : ℕ) → IsGiven aim q → was q ≡ None

module _ (was is : Store) (level at : ℕ) (bounds : Bounds) (before after : List Entry) (aim : Aim) (m : Mending was is level at bounds before after aim) where
  -- what stood there
  pub mending_held : Holds was level at bounds m.old_pairs (at ∷ m.old_nodes)
  mending_held = Holds-node was level at bounds before m.old_pairs m.old_nodes m.node m.below_was

  pub mending_filled : (q : ℕ) → Contains (at ∷ m.old_nodes) q → was q ≢ None
  mending_filled q c = Holds-filled was level at bounds m.old_pairs (at ∷ m.old_nodes) mending_held q c

  pub mending_apart : Contains m.old_nodes at → ⊥
  mending_apart c = distinct-head at m.old_nodes (Holds-distinct was level at bounds m.old_pairs (at ∷ m.old_nodes) mending_held) c

  -- its address is not among the nodes below it now
  pub mending_new_apart : IsFree was aim → Contains m.new_nodes at → ⊥
  mending_new_apart free c = elim (m.nodes at c) [
    | inl old ↦ mending_apart old
    | inr given ↦ mending_filled at (Contains-head at m.old_nodes) (free at given)
  ]

  -- nor is one that wasn't filled and is given later
  pub mending_new_fresh : (q : ℕ) → was q ≡ None → aim.last ≤ q → Contains m.new_nodes q → ⊥
  mending_new_fresh q none later c = elim (m.nodes q c) [
    | inl old ↦ mending_filled q (Contains-later at m.old_nodes q old) none
    | inr given ↦ absurd (omega (arith, given.1))
  ]

-- the child of an entry that the node in hand had was filled
pub mending_child_filled : (was is : Store) (level at : ℕ) (bounds : Bounds) (before after : List Entry) (aim : Aim) → Mending was is (suc level) at bounds before after aim → (entry : Entry) (child : ℕ) → Contains before entry → IsAddress entry.1 child → was child ≢ None
mending_child_filled was is level at bounds before after aim m entry child among address none =
    let held = mending_held was is (suc level) at bounds before after aim m in
    let node : IsNodeOf was at child = (suc level, (before, m.node.0), inr (before, m.node.0, (entry, among, (child, address, at_top level)))) in
    mending_filled was is (suc level) at bounds before after aim m child ((nodes_of_root was (suc level) at bounds m.old_pairs (at ∷ m.old_nodes) child held).1 node) none
  where
    at_top : (level : ℕ) → IsBelowNode was level child child
    at_top zero = refl
    at_top (suc level) = inl refl

-- ---- two nodes of one

-- what stands below two parts of a node's entries
pub record BelowParts (store : Store) (level : ℕ) (left right : List Entry) (upper : Option (List ℕ)) (pairs : List Entry) (nodes : List ℕ) : Type 0 where
  pub pairs_a : List Entry
  pub pairs_b : List Entry
  pub nodes_a : List ℕ
  pub nodes_b : List ℕ
  pub below_a : Below store level left (next_key right upper) pairs_a nodes_a
  pub below_b : Below store level right upper pairs_b nodes_b
  pub pairs_are : pairs ≡ pairs_a ++ pairs_b
  pub nodes_are : nodes ≡ nodes_a ++ nodes_b

pub Below-split : (store : Store) (level : ℕ) (left right : List Entry) (upper : Option (List ℕ)) (pairs : List Entry) (nodes : List ℕ) → Below store level (left ++ right) upper pairs nodes → BelowParts store level left right upper pairs nodes
Below-split store zero left right upper pairs nodes below =
    record { pairs_a = left; pairs_b = right; nodes_a = []; nodes_b = []; below_a = (refl, refl); below_b = (refl, refl); pairs_are = below.0; nodes_are = below.1 }
Below-split store (suc level) left right upper pairs nodes below =
    let parts = AllBelow-split (Holds store level) left right upper pairs nodes below in
    record { pairs_a = parts.pairs_before; pairs_b = parts.pairs_after; nodes_a = parts.nodes_before; nodes_b = parts.nodes_after; below_a = parts.before; below_b = parts.after; pairs_are = parts.pairs_are; nodes_are = parts.nodes_are }

-- two subtrees that hold what was below one node
pub record TwoHeld (store : Store) (level x y : ℕ) (bounds : Bounds) (right : List Entry) (pairs : List Entry) (nodes : List ℕ) : Type 0 where
  pub pairs_a : List Entry
  pub pairs_b : List Entry
  pub nodes_a : List ℕ
  pub nodes_b : List ℕ
  pub left_held : Holds store level x (left_bounds bounds right) pairs_a (x ∷ nodes_a)
  pub right_held : Holds store level y (right_bounds bounds right) pairs_b (y ∷ nodes_b)
  pub pairs_are : pairs ≡ pairs_a ++ pairs_b
  pub nodes_are : nodes ≡ nodes_a ++ nodes_b

pub two_held : (is is' : Store) (level x y : ℕ) (bounds : Bounds) (left right : List Entry) (pairs : List Entry) (nodes : List ℕ) → Halves level bounds left right → Below is level (left ++ right) bounds.upper pairs nodes → IsSameOn is is' nodes → is' x ≡ Some (node_bytes level left) → is' y ≡ Some (node_bytes level right) → TwoHeld is' level x y bounds right pairs nodes
two_held is is' level x y bounds left right pairs nodes h below same first second =
    let parts = Below-split is level left right bounds.upper pairs nodes below in
    let kept : IsSameOn is is' (parts.nodes_a ++ parts.nodes_b) = subst (IsSameOn is is') parts.nodes_are same in
    let below_left : Below is level left (Some (first_key right)) parts.pairs_a parts.nodes_a = subst (λ (u : Option (List ℕ)). Below is level left u parts.pairs_a parts.nodes_a) (h.next bounds.upper) parts.below_a in
    record {
      pairs_a = parts.pairs_a;
      pairs_b = parts.pairs_b;
      nodes_a = parts.nodes_a;
      nodes_b = parts.nodes_b;
      left_held = Holds-node is' level x (left_bounds bounds right) left parts.pairs_a parts.nodes_a (put_node is' level x (left_bounds bounds right) left first h.left_node h.left_place) (Below-kept is is' level left (Some (first_key right)) parts.pairs_a parts.nodes_a (IsSameOn-left is is' parts.nodes_a parts.nodes_b kept) below_left);
      right_held = Holds-node is' level y (right_bounds bounds right) right parts.pairs_b parts.nodes_b (put_node is' level y (right_bounds bounds right) right second h.right_node h.right_place) (Below-kept is is' level right bounds.upper parts.pairs_b parts.nodes_b (IsSameOn-right is is' parts.nodes_a parts.nodes_b kept) parts.below_b);
      pairs_are = parts.pairs_are;
      nodes_are = parts.nodes_are;
    }

-- ---- a split below a parent

module _ (was is is' : Store) (level at top : ℕ) (bounds : Bounds) (a : List Entry) (e : Entry) (b : List Entry) (before left right : List Entry) (aim : Aim) (s : Sides was level top bounds a e b) (address : IsAddress e.1 at) (m : Mending was is level at (child_bounds e b bounds.upper) before (left ++ right) aim) (first : IsPart left) (second : IsPart right) (ordered : aim.first ≤ aim.last) (small : aim.last < 2 ^ 64) (free : IsFree was (given_more 1 aim)) (puts : PutsTwo is is' at (Some (node_bytes level left)) aim.last (Some (node_bytes level right))) where
  own : Bounds
  own = child_bounds e b bounds.upper

  abbrev key : List ℕ
  key = first_key right

  abbrev extra : Entry
  extra = (key, big_endian 8 aim.last)

  parts : Halves level (child_bounds e b bounds.upper) left right
  parts = halves level (child_bounds e b bounds.upper) left right m.near first second

  held : Holds was level at (child_bounds e b bounds.upper) m.old_pairs (at ∷ m.old_nodes)
  held = mending_held was is level at (child_bounds e b bounds.upper) before (left ++ right) aim m

  free_before : IsFree was aim
  free_before q given = free q (given.0, omega (arith, given.1))

  is_given : IsGiven (given_more 1 aim) aim.last
  is_given = (ordered, omega arith)

  elsewhere : (q : ℕ) → (Contains (at ∷ m.old_nodes) q → ⊥) → (IsGiven (given_more 1 aim) q → ⊥) → is' q ≡ was q
  elsewhere q out unknown =
      puts.others q (λ same. out (subst (Contains (at ∷ m.old_nodes)) (sym same) (Contains-head at m.old_nodes))) (λ same. unknown (subst (IsGiven (given_more 1 aim)) (sym same) is_given))
      ∙ m.elsewhere q (λ c. out (Contains-later at m.old_nodes q c)) (λ given. unknown (given.0, omega (arith, given.1)))

  kept : IsSameOn was is' s.nodes_a × IsSameOn was is' s.nodes_b
  kept = sides_kept was level top bounds a e b s is' at m.old_pairs (at ∷ m.old_nodes) address held (λ q out filled. elsewhere q out (λ given. filled (free q given)))

  same_below : IsSameOn is is' m.new_nodes
  same_below q c =
      puts.others q
      (λ same. mending_new_apart was is level at (child_bounds e b bounds.upper) before (left ++ right) aim m free_before (subst (Contains m.new_nodes) same c))
      (λ same. mending_new_fresh was is level at (child_bounds e b bounds.upper) before (left ++ right) aim m aim.last (free aim.last is_given) (omega arith) (subst (Contains m.new_nodes) same c))

  two : TwoHeld is' level at aim.last (child_bounds e b bounds.upper) right m.new_pairs m.new_nodes
  two = two_held is is' level at aim.last (child_bounds e b bounds.upper) left right m.new_pairs m.new_nodes parts m.below_is same_below puts.first puts.second

  below_now : AllBelow (Holds is' level) (a ++ (e ∷ (extra ∷ b))) bounds.upper (s.pairs_a ++ (two.pairs_a ++ (two.pairs_b ++ s.pairs_b))) (s.nodes_a ++ ((at ∷ two.nodes_a) ++ ((aim.last ∷ two.nodes_b) ++ s.nodes_b)))
  below_now =
      AllBelow-around (Holds is' level) a e (extra ∷ b) bounds.upper at s.pairs_a two.pairs_a (two.pairs_b ++ s.pairs_b) s.nodes_a (at ∷ two.nodes_a) ((aim.last ∷ two.nodes_b) ++ s.nodes_b)
      (AllBelow-kept was is' level a (Some e.0) s.pairs_a s.nodes_a kept.0 s.below_a) address two.left_held
      (AllBelow-one (Holds is' level) extra b bounds.upper aim.last two.pairs_b s.pairs_b (aim.last ∷ two.nodes_b) s.nodes_b (small, refl) two.right_held (AllBelow-kept was is' level b bounds.upper s.pairs_b s.nodes_b kept.1 s.below_b))

  gained : edited key (Some (big_endian 8 aim.last)) (a ++ (e ∷ b)) ≡ a ++ (e ∷ (extra ∷ b))
  gained = edited_between key (big_endian 8 aim.last) a e b (sides_before was level top bounds a e b s) parts.above (sides_above was level top bounds a e b s key parts.within)

  near_now : IsNearPlace (suc level) bounds (edited key (Some (big_endian 8 aim.last)) (a ++ (e ∷ b)))
  near_now =
      let below : IsBelow bounds.lower key = sides_below was level top bounds a e b s key parts.above in
      let eight : length (big_endian 8 aim.last) ≡ 8 = length-big_endian 8 aim.last in
      IsNearPlace-edited (suc level) bounds key (Some (big_endian 8 aim.last)) (a ++ (e ∷ b)) s.node.0.spells.node s.node.1 parts.name (omega (arith, eight)) (IsNotAbove-below bounds.lower key below) (sides_upper was level top bounds a e b s key parts.within) (λ h. (below, eight))

  pairs_now : s.pairs_a ++ (two.pairs_a ++ (two.pairs_b ++ s.pairs_b)) ≡ edited aim.key aim.value (s.pairs_a ++ (m.old_pairs ++ s.pairs_b))
  pairs_now =
      ap (λ (r : List Entry). s.pairs_a ++ r) (sym (append_assoc two.pairs_a two.pairs_b s.pairs_b) ∙ ap (λ (r : List Entry). r ++ s.pairs_b) (sym two.pairs_are))
      ∙ sides_pairs was level top bounds a e b s aim.key aim.value m.old_pairs m.new_pairs m.key_lower m.key_upper m.pairs

  among : (q : ℕ) → Contains m.new_nodes q → Contains (at ∷ m.old_nodes) q ⊎ IsGiven (given_more 1 aim) q
  among q c = elim (m.nodes q c) [
    | inl old ↦ inl (Contains-later at m.old_nodes q old)
    | inr given ↦ inr (given.0, omega (arith, given.1))
  ]

  among_two : (q : ℕ) → Contains ((at ∷ two.nodes_a) ++ (aim.last ∷ two.nodes_b)) q → Contains (at ∷ m.old_nodes) q ⊎ IsGiven (given_more 1 aim) q
  among_two q c = elim (Contains-append_cases (at ∷ two.nodes_a) (aim.last ∷ two.nodes_b) q c) [
    | inl one ↦ elim (Contains-cases at two.nodes_a q one) [
      | inl same ↦ inl (subst (Contains (at ∷ m.old_nodes)) same (Contains-head at m.old_nodes))
      | inr later ↦ among q (subst (λ (l : List ℕ). Contains l q) (sym two.nodes_are) (Contains-append_left two.nodes_a two.nodes_b q later))
    ]
    | inr other ↦ elim (Contains-cases aim.last two.nodes_b q other) [
      | inl same ↦ inr (subst (IsGiven (given_more 1 aim)) same is_given)
      | inr later ↦ among q (subst (λ (l : List ℕ). Contains l q) (sym two.nodes_are) (Contains-append_right two.nodes_a two.nodes_b q later))
    ]
  ]

  nodes_now : (q : ℕ) → Contains (s.nodes_a ++ ((at ∷ two.nodes_a) ++ ((aim.last ∷ two.nodes_b) ++ s.nodes_b))) q → Contains (s.nodes_a ++ ((at ∷ m.old_nodes) ++ s.nodes_b)) q ⊎ IsGiven (given_more 1 aim) q
  nodes_now q c =
      Contains-other_middle s.nodes_a ((at ∷ two.nodes_a) ++ (aim.last ∷ two.nodes_b)) (at ∷ m.old_nodes) s.nodes_b q (IsGiven (given_more 1 aim) q) (among_two q)
      (subst (λ (l : List ℕ). Contains (s.nodes_a ++ l) q) (sym (append_assoc (at ∷ two.nodes_a) (aim.last ∷ two.nodes_b) s.nodes_b)) c)

  all_two : (q : ℕ) → Contains m.new_nodes q → Contains (both at two.nodes_a aim.last two.nodes_b) q
  all_two q c = below_both at two.nodes_a aim.last two.nodes_b q (subst (λ (l : List ℕ). Contains l q) two.nodes_are c)

  stays_two : (q : ℕ) → Contains (at ∷ m.old_nodes) q → Contains (both at two.nodes_a aim.last two.nodes_b) q ⊎ (is' q ≡ None)
  stays_two q c = elim (Contains-cases at m.old_nodes q c) [
    | inl same ↦ inl (subst (Contains (both at two.nodes_a aim.last two.nodes_b)) same (both_first at two.nodes_a aim.last two.nodes_b))
    | inr later ↦ elim (m.stays q later) [
      | inl new ↦ inl (all_two q new)
      | inr none ↦ inr (
          puts.others q
          (λ same. mending_apart was is level at (child_bounds e b bounds.upper) before (left ++ right) aim m (subst (Contains m.old_nodes) same later))
          (λ same. mending_filled was is level at (child_bounds e b bounds.upper) before (left ++ right) aim m q (Contains-later at m.old_nodes q later) (ap was same ∙ free aim.last is_given)) ∙ none)
    ]
  ]

  uses_two : (q : ℕ) → IsGiven (given_more 1 aim) q → Contains (both at two.nodes_a aim.last two.nodes_b) q
  uses_two q given = elim (cases_eq q aim.last) [
    | inl same ↦ subst (Contains (both at two.nodes_a aim.last two.nodes_b)) (sym same) (both_second at two.nodes_a aim.last two.nodes_b)
    | inr other ↦ all_two q (m.uses q (given.0, omega (arith, given.1, other)))
  ]

  nodes_regrouped : s.nodes_a ++ (both at two.nodes_a aim.last two.nodes_b ++ s.nodes_b) ≡ s.nodes_a ++ ((at ∷ two.nodes_a) ++ ((aim.last ∷ two.nodes_b) ++ s.nodes_b))
  nodes_regrouped = ap (λ (l : List ℕ). s.nodes_a ++ l) (append_assoc (at ∷ two.nodes_a) (aim.last ∷ two.nodes_b) s.nodes_b)

  split_sides : Mending was is' (suc level) top bounds (a ++ (e ∷ b)) (edited key (Some (big_endian 8 aim.last)) (a ++ (e ∷ b))) (given_more 1 aim)
  split_sides = record {
    old_pairs = s.pairs_a ++ (m.old_pairs ++ s.pairs_b);
    new_pairs = s.pairs_a ++ (two.pairs_a ++ (two.pairs_b ++ s.pairs_b));
    old_nodes = s.nodes_a ++ ((at ∷ m.old_nodes) ++ s.nodes_b);
    new_nodes = s.nodes_a ++ ((at ∷ two.nodes_a) ++ ((aim.last ∷ two.nodes_b) ++ s.nodes_b));
    node = s.node;
    below_was = sides_whole was level top bounds a e b s at m.old_pairs (at ∷ m.old_nodes) address held;
    below_is = subst (λ (es : List Entry). AllBelow (Holds is' level) es bounds.upper (s.pairs_a ++ (two.pairs_a ++ (two.pairs_b ++ s.pairs_b))) (s.nodes_a ++ ((at ∷ two.nodes_a) ++ ((aim.last ∷ two.nodes_b) ++ s.nodes_b)))) (sym gained) below_now;
    near = near_now;
    pairs = pairs_now;
    key_lower = sides_lower was level top bounds a e b s aim.key m.key_lower;
    key_upper = sides_upper was level top bounds a e b s aim.key m.key_upper;
    elsewhere = λ q out unknown. elsewhere q (λ c. out (Contains-append_right s.nodes_a ((at ∷ m.old_nodes) ++ s.nodes_b) q (Contains-append_left (at ∷ m.old_nodes) s.nodes_b q c))) unknown;
    nodes = nodes_now;
    stays = λ q c. subst (λ (l : List ℕ). Contains l q ⊎ (is' q ≡ None)) nodes_regrouped (Contains-other_middle s.nodes_a (at ∷ m.old_nodes) (both at two.nodes_a aim.last two.nodes_b) s.nodes_b q (is' q ≡ None) (stays_two q) c);
    uses = λ q given. subst (λ (l : List ℕ). Contains l q) nodes_regrouped (Contains-middle s.nodes_a (both at two.nodes_a aim.last two.nodes_b) s.nodes_b q (uses_two q given));
  }

-- A child is split: it keeps the left part of its entries, a fresh address takes the right part, and the parent
-- gains the entry that leads there.
pub split_mended : (was is is' : Store) (level at top : ℕ) (bounds : Bounds) (pairs : List Entry) (nodes : List ℕ) (entries a : List Entry) (e : Entry) (b : List Entry) (before left right : List Entry) (aim : Aim) → Holds was (suc level) top bounds pairs nodes → HasNode was (suc level) top bounds entries → entries ≡ a ++ (e ∷ b) → IsAddress e.1 at → Mending was is level at (child_bounds e b bounds.upper) before (left ++ right) aim → IsPart left → IsPart right → aim.first ≤ aim.last → aim.last < 2 ^ 64 → IsFree was (given_more 1 aim) → PutsTwo is is' at (Some (node_bytes level left)) aim.last (Some (node_bytes level right)) → Mending was is' (suc level) top bounds entries (edited (first_key right) (Some (big_endian 8 aim.last)) entries) (given_more 1 aim)
split_mended was is is' level at top bounds pairs nodes entries a e b before left right aim holds node split address m first second ordered small free puts =
    let s : Sides was level top bounds a e b = sides was level top bounds pairs nodes a e b holds (subst (HasNode was (suc level) top bounds) split node) in
    subst (λ (es : List Entry). Mending was is' (suc level) top bounds es (edited (first_key right) (Some (big_endian 8 aim.last)) es) (given_more 1 aim)) (sym split)
    (split_sides was is is' level at top bounds a e b before left right aim s address m first second ordered small free puts)

-- the two blocks as they are put, the fresh one last
pub split_puts : (was is is' : Store) (level at : ℕ) (bounds : Bounds) (before after left right : List Entry) (aim : Aim) → Mending was is level at bounds before after aim → aim.first ≤ aim.last → IsFree was (given_more 1 aim) → ((q : ℕ) → is' q ≡ overlaid ((aim.last, Some (node_bytes level right)) ∷ (at, Some (node_bytes level left)) ∷ []) is q) → PutsTwo is is' at (Some (node_bytes level left)) aim.last (Some (node_bytes level right))
split_puts was is is' level at bounds before after left right aim m ordered free same =
    let filled = mending_filled was is level at bounds before after aim m at (Contains-head at m.old_nodes) in
    puts_turned (puts_two is is' aim.last (Some (node_bytes level right)) at (Some (node_bytes level left)) (λ e. filled (ap was e ∙ free aim.last (ordered, omega arith))) same)
