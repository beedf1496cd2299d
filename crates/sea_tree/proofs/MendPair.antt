-- A node with too few entries goes together with a neighbour: what stands below the entries of both.
use Rattle.std.proofs.Common.{◌≡◌, ◌⊎◌, ℕ, zero, suc, ◌≤◌, List, [], ◌∷◌, ◌++◌, length, Option, Some, refl, sym, ap, subst, ◌∙◌, inl, inr, arith, append_assoc, None}
use Rattle.std.specs.List.{All, Contains}
use Rattle.std.proofs.lemmas.List.Elements.{All-head, All-tail, All-append, Contains-append_left, Contains-append_right, Contains-append_cases}
use Rattle.sea_base.specs.Name.{IsName}
use Rattle.sea_base.specs.Space.{Store}
use Rattle.sea_node.specs.Entries.{Entry, IsBelow, IsNotAbove, IsRising, size, edited}
use Rattle.sea_node.proofs.Keys.{IsNotAbove-below, IsRising-head, IsRising-tail, IsRising-split}
use Rattle.sea_node.proofs.Nodes.{size-append}
use Rattle.sea_tree.specs.Tree.{Bounds, IsWithin, first_key, next_key, child_bounds, IsAddress}
use Rattle.sea_tree.specs.Breaks.{HasNode}
use Rattle.sea_tree.specs.Subtrees.{AllBelow, Holds, Below}
use Rattle.sea_tree.specs.Mending.{IsNearPlace, Aim, IsGiven, Mending}
use Rattle.sea_tree.proofs.Holding.{HoldsBelow, node_held, Holds-node, AllBelow-append, AreWithin, AreWithin-append, same_address, one_node, Contains-later}
use Rattle.sea_tree.proofs.Frames.{IsSameOn, IsSameOn-left, IsSameOn-right, IsSameOn-tail, Below-kept, AllBelow-one, AllBelow-around, Adjacent, AllBelow-adjacent}
use Rattle.sea_tree.proofs.MendNear.{All-right}
use Rattle.sea_tree.proofs.MendSides.{Sides, sides_lower, sides_upper, sides_kept, sides_pairs}
use Rattle.sea_tree.proofs.MendSplit.{IsFree, mending_held}

-- ---- entries in their place

-- Entries that would be a node in its place but for their number and their size, however great.
pub record AreInPlace (level : ℕ) (bounds : Bounds) (entries : List Entry) : Type 0 where
  pub level_fits : level ≤ 7
  pub children : 1 ≤ level → All (λ e. length e.1 ≡ 8) entries
  pub keys : All (λ e. IsName e.0) entries
  pub values : All (λ e. length e.1 ≤ 1024) entries
  pub rising : IsRising entries
  pub lower : All (λ e. IsNotAbove bounds.lower e.0) entries
  pub upper : All (λ e. IsWithin e.0 bounds.upper) entries
  pub first : 1 ≤ level → (1 ≤ length entries) × (first_key entries ≡ bounds.lower)

pub AreInPlace-near : (level : ℕ) (bounds : Bounds) (entries : List Entry) → IsNearPlace level bounds entries → AreInPlace level bounds entries
AreInPlace-near level bounds entries near = record {
  level_fits = near.level_fits;
  children = near.children;
  keys = near.keys;
  values = near.values;
  rising = near.rising;
  lower = near.lower;
  upper = near.upper;
  first = near.first;
}

pub AreInPlace-node : (store : Store) (level at : ℕ) (bounds : Bounds) (entries : List Entry) → HasNode store level at bounds entries → AreInPlace level bounds entries
AreInPlace-node store level at bounds entries node = record {
  level_fits = node.0.spells.node.level_fits;
  children = λ h. (node.0.spells.node.children h).1;
  keys = node.0.spells.node.keys;
  values = node.0.spells.node.values;
  rising = node.0.spells.node.rising;
  lower = node.1.lower;
  upper = node.1.upper;
  first = λ h. (node.0.spells.node.some, node.1.first h);
}

-- with a size that one more entry may have left they are near their place
pub IsNearPlace-sized : (level : ℕ) (bounds : Bounds) (entries : List Entry) → AreInPlace level bounds entries → size entries ≤ 5155 → IsNearPlace level bounds entries
IsNearPlace-sized level bounds entries placed sized = record {
  level_fits = placed.level_fits;
  children = placed.children;
  keys = placed.keys;
  values = placed.values;
  rising = placed.rising;
  lower = placed.lower;
  upper = placed.upper;
  first = placed.first;
  near = sized;
}

first_of_both : (xs ys : List Entry) (key : List ℕ) → (1 ≤ length xs) × (first_key xs ≡ key) → (1 ≤ length (xs ++ ys)) × (first_key (xs ++ ys) ≡ key)
first_of_both [] ys key some = absurd (omega (arith, some.0))
first_of_both (x ∷ xs) ys key some = (omega arith, some.1)

-- those of two nodes whose places meet at a key
pub AreInPlace-append : (level least least' : ℕ) (low key : List ℕ) (high : Option (List ℕ)) (xs ys : List Entry) → IsNotAbove low key → IsWithin key high → AreInPlace level (record { least = least; lower = low; upper = Some key }) xs → AreInPlace level (record { least = least'; lower = key; upper = high }) ys → AreInPlace level (record { least = least; lower = low; upper = high }) (xs ++ ys)
AreInPlace-append level least least' low key high xs ys above within p q =
    let one : AreWithin low (Some key) xs = record { lower = p.lower; upper = p.upper; rising = p.rising } in
    let two : AreWithin key high ys = record { lower = q.lower; upper = q.upper; rising = q.rising } in
    let both : AreWithin low high (xs ++ ys) = AreWithin-append low key high xs ys above within one two in
    record {
      level_fits = p.level_fits;
      children = λ h. All-append (λ (e : Entry). length e.1 ≡ 8) xs ys (p.children h) (q.children h);
      keys = All-append (λ (e : Entry). IsName e.0) xs ys p.keys q.keys;
      values = All-append (λ (e : Entry). length e.1 ≤ 1024) xs ys p.values q.values;
      rising = both.rising;
      lower = both.lower;
      upper = both.upper;
      first = λ h. first_of_both xs ys low (p.first h);
    }

-- ---- what stands below the entries of two nodes

pub Below-append : (store : Store) (level : ℕ) (xs ys : List Entry) (upper : Option (List ℕ)) (key : List ℕ) (p ps : List Entry) (n ns : List ℕ) → (1 ≤ level → (1 ≤ length ys) × (first_key ys ≡ key)) → Below store level xs (Some key) p n → Below store level ys upper ps ns → Below store level (xs ++ ys) upper (p ++ ps) (n ++ ns)
Below-append store zero xs ys upper key p ps n ns first below later = (λ i. below.0 i ++ later.0 i, λ i. below.1 i ++ later.1 i)
Below-append store (suc level) xs ys upper key p ps n ns first below later =
    AllBelow-append (Holds store level) xs ys upper p ps n ns (subst (λ (u : Option (List ℕ)). AllBelow (Holds store level) xs u p n) (sym (next_is ys (first (omega arith)))) below) later
  where
    next_is : (ys : List Entry) → (1 ≤ length ys) × (first_key ys ≡ key) → next_key ys upper ≡ Some key
    next_is [] some = absurd (omega (arith, some.0))
    next_is (y ∷ ys) some = ap (λ (k : List ℕ). Some k) some.1

-- a subtree whose node has these entries
pub record HeldBelow (store : Store) (level at : ℕ) (bounds : Bounds) (entries pairs : List Entry) : Type 0 where
  pub nodes : List ℕ
  pub below : Below store level entries bounds.upper pairs nodes
  pub held : Holds store level at bounds pairs (at ∷ nodes)

pub held_below : (store : Store) (level at : ℕ) (bounds : Bounds) (entries pairs : List Entry) (nodes : List ℕ) → Holds store level at bounds pairs nodes → HasNode store level at bounds entries → HeldBelow store level at bounds entries pairs
held_below store level at bounds entries pairs nodes holds node =
    let h : HoldsBelow store level at bounds pairs nodes = node_held store level at bounds pairs nodes holds in
    let same : h.entries ≡ entries = (one_node store at level level h.entries entries h.node.0 node.0).1 in
    let below : Below store level entries bounds.upper pairs h.others = subst (λ (es : List Entry). Below store level es bounds.upper pairs h.others) same h.below in
    record { nodes = h.others; below = below; held = Holds-node store level at bounds entries pairs h.others node below }

-- ---- two adjacent children

-- Two adjacent children of a node, and what stands before and after them.
pub record Beside (was : Store) (level top : ℕ) (bounds : Bounds) (a : List Entry) (one two : Entry) (b : List Entry) (x y : ℕ) : Type 0 where
  pub node : HasNode was (suc level) top bounds (a ++ (one ∷ (two ∷ b)))
  pub one_address : IsAddress one.1 x
  pub two_address : IsAddress two.1 y
  pub pairs_a : List Entry
  pub pairs_one : List Entry
  pub pairs_two : List Entry
  pub pairs_b : List Entry
  pub nodes_a : List ℕ
  pub nodes_one : List ℕ
  pub nodes_two : List ℕ
  pub nodes_b : List ℕ
  pub below_a : AllBelow (Holds was level) a (Some one.0) pairs_a nodes_a
  pub one_was : Holds was level x (child_bounds one (two ∷ b) bounds.upper) pairs_one (x ∷ nodes_one)
  pub two_was : Holds was level y (child_bounds two b bounds.upper) pairs_two (y ∷ nodes_two)
  pub below_b : AllBelow (Holds was level) b bounds.upper pairs_b nodes_b

module _ (was : Store) (level top : ℕ) (bounds : Bounds) (a : List Entry) (one two : Entry) (b : List Entry) (x y : ℕ) (s : Beside was level top bounds a one two b x y) where
  -- the one with what stands beside it, and the other
  unfoldable pub beside_one : Sides was level top bounds a one (two ∷ b)
  beside_one = record {
    node = s.node;
    pairs_a = s.pairs_a;
    pairs_b = s.pairs_two ++ s.pairs_b;
    nodes_a = s.nodes_a;
    nodes_b = (y ∷ s.nodes_two) ++ s.nodes_b;
    below_a = s.below_a;
    below_b = AllBelow-one (Holds was level) two b bounds.upper y s.pairs_two s.pairs_b (y ∷ s.nodes_two) s.nodes_b s.two_address s.two_was s.below_b;
  }

  unfoldable pub beside_two : Sides was level top bounds (a ++ (one ∷ [])) two b
  beside_two = record {
    node = subst (HasNode was (suc level) top bounds) (sym (append_assoc a (one ∷ []) (two ∷ b))) s.node;
    pairs_a = s.pairs_a ++ (s.pairs_one ++ []);
    pairs_b = s.pairs_b;
    nodes_a = s.nodes_a ++ ((x ∷ s.nodes_one) ++ []);
    nodes_b = s.nodes_b;
    below_a = AllBelow-around (Holds was level) a one [] (Some two.0) x s.pairs_a s.pairs_one [] s.nodes_a (x ∷ s.nodes_one) [] s.below_a s.one_address s.one_was (refl, refl);
    below_b = s.below_b;
  }

  from_one : IsRising (one ∷ (two ∷ b))
  from_one = (IsRising-split a (one ∷ (two ∷ b)) s.node.0.spells.node.rising).1

  -- the first key is below the other, and this is below what follows
  pub beside_rising : IsBelow one.0 two.0
  beside_rising = (IsRising-head one (two ∷ b) from_one).0

  pub beside_within : IsWithin two.0 (next_key b bounds.upper)
  beside_within =
      next_within b (IsRising-tail one (two ∷ b) from_one) (All-tail (λ (e : Entry). IsWithin e.0 bounds.upper) one (two ∷ b) (All-right (λ (e : Entry). IsWithin e.0 bounds.upper) a (one ∷ (two ∷ b)) s.node.1.upper))
    where
      next_within : (b : List Entry) → IsRising (two ∷ b) → All (λ e. IsWithin e.0 bounds.upper) (two ∷ b) → IsWithin two.0 (next_key b bounds.upper)
      next_within [] rising uppers = All-head (λ (e : Entry). IsWithin e.0 bounds.upper) two [] uppers
      next_within (e ∷ b) rising uppers = (IsRising-head two (e ∷ b) rising).0

-- what stands around two adjacent entries
adjacent : (was : Store) (level top : ℕ) (bounds : Bounds) (pairs : List Entry) (nodes : List ℕ) (a : List Entry) (one two : Entry) (b : List Entry) → (holds : Holds was (suc level) top bounds pairs nodes) → HasNode was (suc level) top bounds (a ++ (one ∷ (two ∷ b))) → Adjacent (Holds was level) a one two b bounds.upper pairs holds.1
adjacent was level top bounds pairs nodes a one two b holds node =
    let same : holds.0 ≡ a ++ (one ∷ (two ∷ b)) = (one_node was top (suc level) (suc level) holds.0 (a ++ (one ∷ (two ∷ b))) holds.2.0 node.0).1 in
    AllBelow-adjacent (Holds was level) a one two b bounds.upper pairs holds.1 (subst (λ (es : List Entry). AllBelow (Holds was level) es bounds.upper pairs holds.1) same holds.3)

-- from the subtree of the node above and from those of the two
pub beside_of : (was : Store) (level top : ℕ) (bounds : Bounds) (pairs : List Entry) (nodes : List ℕ) (a : List Entry) (one two : Entry) (b : List Entry) (x y : ℕ) (pairs_one pairs_two : List Entry) (nodes_one nodes_two : List ℕ) → Holds was (suc level) top bounds pairs nodes → HasNode was (suc level) top bounds (a ++ (one ∷ (two ∷ b))) → IsAddress one.1 x → IsAddress two.1 y → Holds was level x (child_bounds one (two ∷ b) bounds.upper) pairs_one (x ∷ nodes_one) → Holds was level y (child_bounds two b bounds.upper) pairs_two (y ∷ nodes_two) → Beside was level top bounds a one two b x y
beside_of was level top bounds pairs nodes a one two b x y pairs_one pairs_two nodes_one nodes_two holds node one_address two_address one_was two_was =
    let m = adjacent was level top bounds pairs nodes a one two b holds node in
    record {
      node = node;
      one_address = one_address;
      two_address = two_address;
      pairs_a = m.pairs_before;
      pairs_one = pairs_one;
      pairs_two = pairs_two;
      pairs_b = m.pairs_after;
      nodes_a = m.nodes_before;
      nodes_one = nodes_one;
      nodes_two = nodes_two;
      nodes_b = m.nodes_after;
      below_a = m.first;
      one_was = one_was;
      two_was = two_was;
      below_b = m.rest;
    }

-- the subtree of either, where its node has these entries
held_one : (was : Store) (level top : ℕ) (bounds : Bounds) (pairs : List Entry) (nodes : List ℕ) (a : List Entry) (one two : Entry) (b : List Entry) (x : ℕ) (entries : List Entry) → Holds was (suc level) top bounds pairs nodes → HasNode was (suc level) top bounds (a ++ (one ∷ (two ∷ b))) → IsAddress one.1 x → HasNode was level x (child_bounds one (two ∷ b) bounds.upper) entries → (p : List Entry) × HeldBelow was level x (child_bounds one (two ∷ b) bounds.upper) entries p
held_one was level top bounds pairs nodes a one two b x entries holds node address other =
    let m = adjacent was level top bounds pairs nodes a one two b holds node in
    let here : Holds was level x (child_bounds one (two ∷ b) bounds.upper) m.pairs_here m.nodes_here = subst (λ (c : ℕ). Holds was level c (child_bounds one (two ∷ b) bounds.upper) m.pairs_here m.nodes_here) (same_address one.1 m.child x m.address address) m.here in
    (m.pairs_here, held_below was level x (child_bounds one (two ∷ b) bounds.upper) entries m.pairs_here m.nodes_here here other)

held_two : (was : Store) (level top : ℕ) (bounds : Bounds) (pairs : List Entry) (nodes : List ℕ) (a : List Entry) (one two : Entry) (b : List Entry) (y : ℕ) (entries : List Entry) → Holds was (suc level) top bounds pairs nodes → HasNode was (suc level) top bounds (a ++ (one ∷ (two ∷ b))) → IsAddress two.1 y → HasNode was level y (child_bounds two b bounds.upper) entries → (p : List Entry) × HeldBelow was level y (child_bounds two b bounds.upper) entries p
held_two was level top bounds pairs nodes a one two b y entries holds node address other =
    let m = adjacent was level top bounds pairs nodes a one two b holds node in
    let there : Holds was level y (child_bounds two b bounds.upper) m.pairs_next m.nodes_next = subst (λ (c : ℕ). Holds was level c (child_bounds two b bounds.upper) m.pairs_next m.nodes_next) (same_address two.1 m.next_child y m.next_address address) m.there in
    (m.pairs_next, held_below was level y (child_bounds two b bounds.upper) entries m.pairs_next m.nodes_next there other)

-- ---- the node in hand with its neighbour

-- The entries that two adjacent children are to have in all, with the change made below them. In the store as
-- it is, neither of the two nodes is written yet.
pub record Paired (was is : Store) (level top : ℕ) (bounds : Bounds) (a : List Entry) (one two : Entry) (b : List Entry) (x y : ℕ) (entries : List Entry) (aim : Aim) : Type 0 where
  pub beside : Beside was level top bounds a one two b x y
  pub new_pairs : List Entry
  pub new_nodes : List ℕ
  pub below_is : Below is level entries (next_key b bounds.upper) new_pairs new_nodes
  pub placed : AreInPlace level (child_bounds one b bounds.upper) entries
  pub filled : 1016 ≤ size entries
  pub pairs : beside.pairs_a ++ (new_pairs ++ beside.pairs_b) ≡ edited aim.key aim.value (beside.pairs_a ++ (beside.pairs_one ++ (beside.pairs_two ++ beside.pairs_b)))
  pub key_lower : IsNotAbove bounds.lower aim.key
  pub key_upper : IsWithin aim.key bounds.upper
  pub elsewhere : (q : ℕ) → (Contains (beside.nodes_one ++ beside.nodes_two) q → ⊥) → (IsGiven aim q → ⊥) → is q ≡ was q
  pub nodes : (q : ℕ) → Contains new_nodes q → Contains (beside.nodes_one ++ beside.nodes_two) q ⊎ IsGiven aim q
  pub stays : (q : ℕ) → Contains (beside.nodes_one ++ beside.nodes_two) q → Contains new_nodes q ⊎ (is q ≡ None)
  pub uses : (q : ℕ) → IsGiven aim q → Contains new_nodes q

regroup : (p o m q : List Entry) → (p ++ (o ++ [])) ++ (m ++ q) ≡ p ++ (o ++ (m ++ q))
regroup p o m q = append_assoc p (o ++ []) (m ++ q) ∙ ap (λ (r : List Entry). p ++ r) (append_assoc o [] (m ++ q))

module _ (was is : Store) (level top : ℕ) (bounds : Bounds) (pairs : List Entry) (nodes : List ℕ) (a : List Entry) (one two : Entry) (b : List Entry) (x y : ℕ) (aim : Aim) (holds : Holds was (suc level) top bounds pairs nodes) (node : HasNode was (suc level) top bounds (a ++ (one ∷ (two ∷ b)))) (one_address : IsAddress one.1 x) (two_address : IsAddress two.1 y) (free : IsFree was aim) where
  left_held : (before after others : List Entry) → Mending was is level x (child_bounds one (two ∷ b) bounds.upper) before after aim → HasNode was level y (child_bounds two b bounds.upper) others → (pairs_two : List Entry) → HeldBelow was level y (child_bounds two b bounds.upper) others pairs_two → Paired was is level top bounds a one two b x y (after ++ others) aim
  unfolding beside_one beside_of
  left_held before after others m other pairs_two h =
      let here = mending_held was is level x (child_bounds one (two ∷ b) bounds.upper) before after aim m in
      let s = beside_of was level top bounds pairs nodes a one two b x y m.old_pairs pairs_two m.old_nodes h.nodes holds node one_address two_address here h.held in
      let side = beside_one was level top bounds a one two b x y s in
      let kept = sides_kept was level top bounds a one (two ∷ b) side is x m.old_pairs (x ∷ m.old_nodes) one_address here (λ q out filled. m.elsewhere q (λ c. out (Contains-later x m.old_nodes q c)) (λ given. filled (free q given))) in
      let same : IsSameOn was is h.nodes = IsSameOn-tail was is y h.nodes (IsSameOn-left was is (y ∷ h.nodes) s.nodes_b kept.1) in
      record {
        beside = s;
        new_pairs = m.new_pairs ++ pairs_two;
        new_nodes = m.new_nodes ++ h.nodes;
        below_is = Below-append is level after others (next_key b bounds.upper) two.0 m.new_pairs pairs_two m.new_nodes h.nodes (λ l. (other.0.spells.node.some, other.1.first l)) m.below_is (Below-kept was is level others (next_key b bounds.upper) pairs_two h.nodes same h.below);
        placed = AreInPlace-append level 1016 1016 one.0 two.0 (next_key b bounds.upper) after others (IsNotAbove-below one.0 two.0 (beside_rising was level top bounds a one two b x y s)) (beside_within was level top bounds a one two b x y s) (AreInPlace-near level (child_bounds one (two ∷ b) bounds.upper) after m.near) (AreInPlace-node was level y (child_bounds two b bounds.upper) others other);
        filled = omega (arith, size-append after others, other.1.filled);
        pairs = ap (λ (r : List Entry). s.pairs_a ++ r) (append_assoc m.new_pairs pairs_two s.pairs_b) ∙ sides_pairs was level top bounds a one (two ∷ b) side aim.key aim.value m.old_pairs m.new_pairs m.key_lower m.key_upper m.pairs;
        key_lower = sides_lower was level top bounds a one (two ∷ b) side aim.key m.key_lower;
        key_upper = sides_upper was level top bounds a one (two ∷ b) side aim.key m.key_upper;
        elsewhere = λ q out unknown. m.elsewhere q (λ c. out (Contains-append_left m.old_nodes h.nodes q c)) unknown;
        nodes = λ q c. elim (Contains-append_cases m.new_nodes h.nodes q c) [
          | inl new ↦ elim (m.nodes q new) [ inl old ↦ inl (Contains-append_left m.old_nodes h.nodes q old) | inr given ↦ inr given ]
          | inr stays ↦ inl (Contains-append_right m.old_nodes h.nodes q stays)
        ];
        stays = λ q c. elim (Contains-append_cases m.old_nodes h.nodes q c) [
          | inl old ↦ elim (m.stays q old) [ inl new ↦ inl (Contains-append_left m.new_nodes h.nodes q new) | inr none ↦ inr none ]
          | inr stays ↦ inl (Contains-append_right m.new_nodes h.nodes q stays)
        ];
        uses = λ q given. Contains-append_left m.new_nodes h.nodes q (m.uses q given);
      }

  -- The node in hand is the left one, and its right neighbour was read.
  pub pair_left : (before after others : List Entry) → Mending was is level x (child_bounds one (two ∷ b) bounds.upper) before after aim → HasNode was level y (child_bounds two b bounds.upper) others → Paired was is level top bounds a one two b x y (after ++ others) aim
  pair_left before after others m other =
      let o = held_two was level top bounds pairs nodes a one two b y others holds node two_address other in
      left_held before after others m other o.0 o.1

  right_held : (before after others : List Entry) → Mending was is level y (child_bounds two b bounds.upper) before after aim → HasNode was level x (child_bounds one (two ∷ b) bounds.upper) others → (pairs_one : List Entry) → HeldBelow was level x (child_bounds one (two ∷ b) bounds.upper) others pairs_one → Paired was is level top bounds a one two b x y (others ++ after) aim
  unfolding beside_two beside_of
  right_held before after others m other pairs_one h =
      let there = mending_held was is level y (child_bounds two b bounds.upper) before after aim m in
      let s = beside_of was level top bounds pairs nodes a one two b x y pairs_one m.old_pairs h.nodes m.old_nodes holds node one_address two_address h.held there in
      let side = beside_two was level top bounds a one two b x y s in
      let kept = sides_kept was level top bounds (a ++ (one ∷ [])) two b side is y m.old_pairs (y ∷ m.old_nodes) two_address there (λ q out filled. m.elsewhere q (λ c. out (Contains-later y m.old_nodes q c)) (λ given. filled (free q given))) in
      let same : IsSameOn was is h.nodes = IsSameOn-tail was is x h.nodes (IsSameOn-left was is (x ∷ h.nodes) [] (IsSameOn-right was is s.nodes_a ((x ∷ h.nodes) ++ []) kept.0)) in
      record {
        beside = s;
        new_pairs = pairs_one ++ m.new_pairs;
        new_nodes = h.nodes ++ m.new_nodes;
        below_is = Below-append is level others after (next_key b bounds.upper) two.0 pairs_one m.new_pairs h.nodes m.new_nodes m.near.first (Below-kept was is level others (Some two.0) pairs_one h.nodes same h.below) m.below_is;
        placed = AreInPlace-append level 1016 1016 one.0 two.0 (next_key b bounds.upper) others after (IsNotAbove-below one.0 two.0 (beside_rising was level top bounds a one two b x y s)) (beside_within was level top bounds a one two b x y s) (AreInPlace-node was level x (child_bounds one (two ∷ b) bounds.upper) others other) (AreInPlace-near level (child_bounds two b bounds.upper) after m.near);
        filled = omega (arith, size-append others after, other.1.filled);
        pairs = ap (λ (r : List Entry). s.pairs_a ++ r) (append_assoc pairs_one m.new_pairs s.pairs_b) ∙ sym (regroup s.pairs_a pairs_one m.new_pairs s.pairs_b)
            ∙ sides_pairs was level top bounds (a ++ (one ∷ [])) two b side aim.key aim.value m.old_pairs m.new_pairs m.key_lower m.key_upper m.pairs
            ∙ ap (λ (r : List Entry). edited aim.key aim.value r) (regroup s.pairs_a pairs_one m.old_pairs s.pairs_b);
        key_lower = sides_lower was level top bounds (a ++ (one ∷ [])) two b side aim.key m.key_lower;
        key_upper = sides_upper was level top bounds (a ++ (one ∷ [])) two b side aim.key m.key_upper;
        elsewhere = λ q out unknown. m.elsewhere q (λ c. out (Contains-append_right h.nodes m.old_nodes q c)) unknown;
        nodes = λ q c. elim (Contains-append_cases h.nodes m.new_nodes q c) [
          | inl stays ↦ inl (Contains-append_left h.nodes m.old_nodes q stays)
          | inr new ↦ elim (m.nodes q new) [ inl old ↦ inl (Contains-append_right h.nodes m.old_nodes q old) | inr given ↦ inr given ]
        ];
        stays = λ q c. elim (Contains-append_cases h.nodes m.old_nodes q c) [
          | inl stays ↦ inl (Contains-append_left h.nodes m.new_nodes q stays)
          | inr old ↦ elim (m.stays q old) [ inl new ↦ inl (Contains-append_right h.nodes m.new_nodes q new) | inr none ↦ inr none ]
        ];
        uses = λ q given. Contains-append_right h.nodes m.new_nodes q (m.uses q given);
      }

  -- The node in hand is the right one, and its left neighbour was read.
  pub pair_right : (before after others : List Entry) → Mending was is level y (child_bounds two b bounds.upper) before after aim → HasNode was level x (child_bounds one (two ∷ b) bounds.upper) others → Paired was is level top bounds a one two b x y (others ++ after) aim
  pair_right before after others m other =
      let o = held_one was level top bounds pairs nodes a one two b x others holds node one_address other in
      right_held before after others m other o.0 o.1
