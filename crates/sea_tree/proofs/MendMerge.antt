-- Two adjacent children change together: what the blocks that are put leave, and two that become one node.
use Rattle.std.proofs.Common.{◌≡◌, ◌≢◌, ◌⊎◌, ℕ, suc, ◌≤◌, cond, not, List, [], ◌∷◌, ◌++◌, Option, Some, None, refl, sym, ap, subst, ◌∙◌, inl, inr, append_assoc, arith}
use Rattle.std.specs.List.{AllPairs, Contains}
use Rattle.std.specs.Ordering.{is_eq}
use Rattle.std.specs.declared.cmp.Ordering.{Ordering}
use Rattle.std.proofs.lemmas.List.Elements.{All-head, All-tail, Contains-append_left, Contains-append_right, Contains-append_cases}
use Rattle.sea_base.specs.Name.{IsName}
use Rattle.sea_base.specs.Space.{Store}
use Rattle.sea_node.specs.Entries.{Entry, IsBelow, size, edited}
use Rattle.sea_node.specs.Node.{node_bytes}
use Rattle.sea_node.proofs.Keys.{key_order-itself, IsNotAbove-below}
use Rattle.sea_tree.specs.Tree.{Bounds, IsWithin, next_key, child_bounds}
use Rattle.sea_tree.specs.Does.{overlaid}
use Rattle.sea_tree.specs.Subtrees.{AllBelow, Holds}
use Rattle.sea_tree.specs.Mending.{IsNearPlace, Aim, IsGiven, Mending, Replaced}
use Rattle.sea_tree.proofs.Holding.{Holds-node, Contains-head, Contains-later, Contains-cases}
use Rattle.sea_tree.proofs.Frames.{IsSameOn, HasNode-kept, AllBelow-kept, AllBelow-around, Below-kept}
use Rattle.sea_tree.proofs.Apart.{AllBelow-distinct, AllBelow-filled, at_not_below, distinct-head, distinct-left, distinct-right, distinct-apart, distinct-middle}
use Rattle.sea_tree.proofs.MendNear.{All-right, IsNearPlace-edited, IsNode-filled, IsInPlace-near}
use Rattle.sea_tree.proofs.MendSides.{edited_middle, sides_before, sides_below, sides_upper, sides_above, sides_whole, Contains-other_middle, Contains-middle, both, below_both, both_first, both_second, both_cases, PutsTwo, puts_two, puts_turned}
use Rattle.sea_tree.proofs.MendSplit.{IsFree, put_node}
use Rattle.sea_tree.proofs.MendPair.{IsNearPlace-sized, Beside, beside_one, beside_two, beside_rising, beside_within, Paired}

-- ---- two nodes and those below them

-- where all are distinct the two are, and neither is among those below
first_not_second : (x : ℕ) (n : List ℕ) (y : ℕ) (k : List ℕ) → AllPairs ◌≢◌ (both x n y k) → x ≢ y
first_not_second x n y k distinct same =
    distinct-head x (n ++ (y ∷ k)) distinct (Contains-append_right n (y ∷ k) x (subst (Contains (y ∷ k)) (sym same) (Contains-head y k)))

first_not_below : (x : ℕ) (n : List ℕ) (y : ℕ) (k : List ℕ) → AllPairs ◌≢◌ (both x n y k) → Contains (n ++ k) x → ⊥
first_not_below x n y k distinct c = elim (Contains-append_cases n k x c) [
  | inl first ↦ distinct-head x (n ++ (y ∷ k)) distinct (Contains-append_left n (y ∷ k) x first)
  | inr later ↦ distinct-head x (n ++ (y ∷ k)) distinct (Contains-append_right n (y ∷ k) x (Contains-later y k x later))
]

second_not_below : (x : ℕ) (n : List ℕ) (y : ℕ) (k : List ℕ) → AllPairs ◌≢◌ (both x n y k) → Contains (n ++ k) y → ⊥
second_not_below x n y k distinct c = elim (Contains-append_cases n k y c) [
  | inl first ↦ distinct-apart (x ∷ n) (y ∷ k) distinct y (Contains-later x n y first) (Contains-head y k)
  | inr later ↦ distinct-head y k (distinct-right (x ∷ n) (y ∷ k) distinct) later
]

module _ (was : Store) (level top : ℕ) (bounds : Bounds) (a : List Entry) (one two : Entry) (b : List Entry) (x y : ℕ) (s : Beside was level top bounds a one two b x y) where
  -- all that stood below the node
  pub beside_held : AllBelow (Holds was level) (a ++ (one ∷ (two ∷ b))) bounds.upper (s.pairs_a ++ (s.pairs_one ++ (s.pairs_two ++ s.pairs_b))) (s.nodes_a ++ (both x s.nodes_one y s.nodes_two ++ s.nodes_b))
  unfolding beside_one
  beside_held =
      subst (λ (l : List ℕ). AllBelow (Holds was level) (a ++ (one ∷ (two ∷ b))) bounds.upper (s.pairs_a ++ (s.pairs_one ++ (s.pairs_two ++ s.pairs_b))) (s.nodes_a ++ l))
      (sym (append_assoc (x ∷ s.nodes_one) (y ∷ s.nodes_two) s.nodes_b))
      (sides_whole was level top bounds a one (two ∷ b) (beside_one was level top bounds a one two b x y s) x s.pairs_one (x ∷ s.nodes_one) s.one_address s.one_was)

  all_distinct : AllPairs ◌≢◌ (s.nodes_a ++ (both x s.nodes_one y s.nodes_two ++ s.nodes_b))
  all_distinct = AllBelow-distinct was level (a ++ (one ∷ (two ∷ b))) bounds.upper (s.pairs_a ++ (s.pairs_one ++ (s.pairs_two ++ s.pairs_b))) (s.nodes_a ++ (both x s.nodes_one y s.nodes_two ++ s.nodes_b)) s.node.0.spells.node.rising s.node.1.upper beside_held

  pub beside_distinct : AllPairs ◌≢◌ (both x s.nodes_one y s.nodes_two)
  beside_distinct = distinct-left (both x s.nodes_one y s.nodes_two) s.nodes_b (distinct-right s.nodes_a (both x s.nodes_one y s.nodes_two ++ s.nodes_b) all_distinct)

  pub beside_apart : (q : ℕ) → Contains (both x s.nodes_one y s.nodes_two) q → (Contains s.nodes_a q → ⊥) × (Contains s.nodes_b q → ⊥)
  beside_apart = distinct-middle s.nodes_a (both x s.nodes_one y s.nodes_two) s.nodes_b all_distinct

  pub beside_filled : (q : ℕ) → Contains (both x s.nodes_one y s.nodes_two) q → was q ≢ None
  beside_filled q c =
      AllBelow-filled was level (a ++ (one ∷ (two ∷ b))) bounds.upper (s.pairs_a ++ (s.pairs_one ++ (s.pairs_two ++ s.pairs_b))) (s.nodes_a ++ (both x s.nodes_one y s.nodes_two ++ s.nodes_b)) beside_held q
      (Contains-middle s.nodes_a (both x s.nodes_one y s.nodes_two) s.nodes_b q c)

  pub beside_differ : x ≢ y
  beside_differ = first_not_second x s.nodes_one y s.nodes_two beside_distinct

  -- the second key is one that the node may have behind its first
  pub second_name : IsName two.0
  second_name = All-head (λ (e : Entry). IsName e.0) two b (All-tail (λ (e : Entry). IsName e.0) one (two ∷ b) (All-right (λ (e : Entry). IsName e.0) a (one ∷ (two ∷ b)) s.node.0.spells.node.keys))

  pub second_below : IsBelow bounds.lower two.0
  second_below = sides_below was level top bounds a one (two ∷ b) (beside_one was level top bounds a one two b x y s) two.0 (beside_rising was level top bounds a one two b x y s)

  pub second_within : IsWithin two.0 bounds.upper
  second_within = sides_upper was level top bounds (a ++ (one ∷ [])) two b (beside_two was level top bounds a one two b x y s) two.0 (beside_within was level top bounds a one two b x y s)

  -- the entries without the second
  pub second_lost : edited two.0 None (a ++ (one ∷ (two ∷ b))) ≡ a ++ (one ∷ b)
  second_lost =
      let side = beside_two was level top bounds a one two b x y s in
      let gone : edited two.0 None (two ∷ []) ≡ [] = ap (λ (o : Ordering). cond (not (is_eq o)) (two ∷ []) []) (key_order-itself two.0) in
      ap (λ (es : List Entry). edited two.0 None es) (sym (append_assoc a (one ∷ []) (two ∷ b)))
      ∙ edited_middle two.0 None (a ++ (one ∷ [])) (two ∷ []) b (sides_before was level top bounds (a ++ (one ∷ [])) two b side) (sides_above was level top bounds (a ++ (one ∷ [])) two b side two.0 (beside_within was level top bounds a one two b x y s))
      ∙ ap (λ (es : List Entry). (a ++ (one ∷ [])) ++ (es ++ b)) gone
      ∙ append_assoc a (one ∷ []) b

-- ---- the two blocks are put

module _ (was is is' : Store) (level top : ℕ) (bounds : Bounds) (a : List Entry) (one two : Entry) (b : List Entry) (x y : ℕ) (entries : List Entry) (aim : Aim) (p : Paired was is level top bounds a one two b x y entries aim) (free : IsFree was aim) (u v : Option (List ℕ)) (puts : PutsTwo is is' x u y v) where
  pub put_elsewhere : (q : ℕ) → (Contains (both x p.beside.nodes_one y p.beside.nodes_two) q → ⊥) → (IsGiven aim q → ⊥) → is' q ≡ was q
  put_elsewhere q out unknown =
      let n = p.beside.nodes_one in
      let k = p.beside.nodes_two in
      puts.others q (λ same. out (subst (Contains (both x n y k)) (sym same) (both_first x n y k))) (λ same. out (subst (Contains (both x n y k)) (sym same) (both_second x n y k)))
      ∙ p.elsewhere q (λ c. out (below_both x n y k q c)) unknown

  -- what stands before and after the two stays
  pub put_kept : IsSameOn was is' p.beside.nodes_a × IsSameOn was is' p.beside.nodes_b
  put_kept = (
    λ q c. put_elsewhere q (λ k. (beside_apart was level top bounds a one two b x y p.beside q k).0 c) (λ given. AllBelow-filled was level a (Some one.0) p.beside.pairs_a p.beside.nodes_a p.beside.below_a q c (free q given)),
    λ q c. put_elsewhere q (λ k. (beside_apart was level top bounds a one two b x y p.beside q k).1 c) (λ given. AllBelow-filled was level b bounds.upper p.beside.pairs_b p.beside.nodes_b p.beside.below_b q c (free q given)),
  )

  -- an address of the two is not among the nodes below them now
  apart_now : (q : ℕ) → Contains (both x p.beside.nodes_one y p.beside.nodes_two) q → (Contains (p.beside.nodes_one ++ p.beside.nodes_two) q → ⊥) → Contains p.new_nodes q → ⊥
  apart_now q held out c = elim (p.nodes q c) [ inl old ↦ out old | inr given ↦ beside_filled was level top bounds a one two b x y p.beside q held (free q given) ]

  pub put_below : IsSameOn is is' p.new_nodes
  put_below q c =
      let n = p.beside.nodes_one in
      let k = p.beside.nodes_two in
      let distinct = beside_distinct was level top bounds a one two b x y p.beside in
      puts.others q
      (λ same. apart_now x (both_first x n y k) (first_not_below x n y k distinct) (subst (Contains p.new_nodes) same c))
      (λ same. apart_now y (both_second x n y k) (second_not_below x n y k distinct) (subst (Contains p.new_nodes) same c))

  -- the nodes below the two now are among those before, or given
  pub put_among : (q : ℕ) → Contains p.new_nodes q → Contains (both x p.beside.nodes_one y p.beside.nodes_two) q ⊎ IsGiven aim q
  put_among q c = elim (p.nodes q c) [
    | inl old ↦ inl (below_both x p.beside.nodes_one y p.beside.nodes_two q old)
    | inr given ↦ inr given
  ]

  pub put_around : (n : List ℕ) → ((q : ℕ) → Contains n q → Contains (both x p.beside.nodes_one y p.beside.nodes_two) q ⊎ IsGiven aim q) → (q : ℕ) → Contains (p.beside.nodes_a ++ (n ++ p.beside.nodes_b)) q → Contains (p.beside.nodes_a ++ (both x p.beside.nodes_one y p.beside.nodes_two ++ p.beside.nodes_b)) q ⊎ IsGiven aim q
  put_around n each q c = Contains-other_middle p.beside.nodes_a n (both x p.beside.nodes_one y p.beside.nodes_two) p.beside.nodes_b q (IsGiven aim q) (each q) c

  -- a node that stood below the two stands there still, or is empty
  pub put_still : (q : ℕ) → Contains (p.beside.nodes_one ++ p.beside.nodes_two) q → Contains p.new_nodes q ⊎ (is' q ≡ None)
  put_still q c =
      let distinct = beside_distinct was level top bounds a one two b x y p.beside in
      elim (p.stays q c) [
        | inl new ↦ inl new
        | inr none ↦ inr (
            puts.others q
            (λ same. first_not_below x p.beside.nodes_one y p.beside.nodes_two distinct (subst (Contains (p.beside.nodes_one ++ p.beside.nodes_two)) same c))
            (λ same. second_not_below x p.beside.nodes_one y p.beside.nodes_two distinct (subst (Contains (p.beside.nodes_one ++ p.beside.nodes_two)) same c)) ∙ none)
      ]

  put_stays : (n : List ℕ) → ((q : ℕ) → Contains (both x p.beside.nodes_one y p.beside.nodes_two) q → Contains n q ⊎ (is' q ≡ None)) → (q : ℕ) → Contains (p.beside.nodes_a ++ (both x p.beside.nodes_one y p.beside.nodes_two ++ p.beside.nodes_b)) q → Contains (p.beside.nodes_a ++ (n ++ p.beside.nodes_b)) q ⊎ (is' q ≡ None)
  put_stays n back q c = Contains-other_middle p.beside.nodes_a (both x p.beside.nodes_one y p.beside.nodes_two) n p.beside.nodes_b q (is' q ≡ None) (back q) c

  -- so the node above is to have other entries, where its children are these
  pub put_mended : (now : List Entry) (n : List ℕ) → AllBelow (Holds is' level) now bounds.upper (p.beside.pairs_a ++ (p.new_pairs ++ p.beside.pairs_b)) (p.beside.nodes_a ++ (n ++ p.beside.nodes_b)) → IsNearPlace (suc level) bounds now → ((q : ℕ) → Contains n q → Contains (both x p.beside.nodes_one y p.beside.nodes_two) q ⊎ IsGiven aim q) → ((q : ℕ) → Contains (both x p.beside.nodes_one y p.beside.nodes_two) q → Contains n q ⊎ (is' q ≡ None)) → ((q : ℕ) → Contains p.new_nodes q → Contains n q) → Mending was is' (suc level) top bounds (a ++ (one ∷ (two ∷ b))) now aim
  put_mended now n below near each back all = record {
    old_pairs = p.beside.pairs_a ++ (p.beside.pairs_one ++ (p.beside.pairs_two ++ p.beside.pairs_b));
    new_pairs = p.beside.pairs_a ++ (p.new_pairs ++ p.beside.pairs_b);
    old_nodes = p.beside.nodes_a ++ (both x p.beside.nodes_one y p.beside.nodes_two ++ p.beside.nodes_b);
    new_nodes = p.beside.nodes_a ++ (n ++ p.beside.nodes_b);
    node = p.beside.node;
    below_was = beside_held was level top bounds a one two b x y p.beside;
    below_is = below;
    near = near;
    pairs = p.pairs;
    key_lower = p.key_lower;
    key_upper = p.key_upper;
    elsewhere = λ q out unknown. put_elsewhere q (λ c. out (Contains-middle p.beside.nodes_a (both x p.beside.nodes_one y p.beside.nodes_two) p.beside.nodes_b q c)) unknown;
    nodes = put_around n each;
    stays = λ q c. put_stays n back q c;
    uses = λ q given. Contains-middle p.beside.nodes_a n p.beside.nodes_b q (all q (p.uses q given));
  }

  abbrev old : List ℕ
  old = p.beside.nodes_a ++ (both x p.beside.nodes_one y p.beside.nodes_two ++ p.beside.nodes_b)

  top_same : is' top ≡ was top
  top_same =
      put_elsewhere top
      (λ c. at_not_below was level top bounds (a ++ (one ∷ (two ∷ b))) (p.beside.pairs_a ++ (p.beside.pairs_one ++ (p.beside.pairs_two ++ p.beside.pairs_b))) (p.beside.nodes_a ++ (both x p.beside.nodes_one y p.beside.nodes_two ++ p.beside.nodes_b)) p.beside.node (beside_held was level top bounds a one two b x y p.beside)
      (Contains-middle p.beside.nodes_a (both x p.beside.nodes_one y p.beside.nodes_two) p.beside.nodes_b top c))
      (λ given. let clash : Some p.beside.node.0.bytes ≡ None = sym p.beside.node.0.here ∙ free top given in cc)

  -- or it stays
  pub put_replaced : (n : List ℕ) → AllBelow (Holds is' level) (a ++ (one ∷ (two ∷ b))) bounds.upper (p.beside.pairs_a ++ (p.new_pairs ++ p.beside.pairs_b)) (p.beside.nodes_a ++ (n ++ p.beside.nodes_b)) → ((q : ℕ) → Contains n q → Contains (both x p.beside.nodes_one y p.beside.nodes_two) q ⊎ IsGiven aim q) → ((q : ℕ) → Contains (both x p.beside.nodes_one y p.beside.nodes_two) q → Contains n q ⊎ (is' q ≡ None)) → ((q : ℕ) → Contains p.new_nodes q → Contains n q) → Replaced was is' (suc level) (suc level) top bounds aim
  put_replaced n below each back all = record {
    old_pairs = p.beside.pairs_a ++ (p.beside.pairs_one ++ (p.beside.pairs_two ++ p.beside.pairs_b));
    new_pairs = p.beside.pairs_a ++ (p.new_pairs ++ p.beside.pairs_b);
    old_nodes = top ∷ (p.beside.nodes_a ++ (both x p.beside.nodes_one y p.beside.nodes_two ++ p.beside.nodes_b));
    new_nodes = top ∷ (p.beside.nodes_a ++ (n ++ p.beside.nodes_b));
    holds_was = (a ++ (one ∷ (two ∷ b)), p.beside.nodes_a ++ (both x p.beside.nodes_one y p.beside.nodes_two ++ p.beside.nodes_b), p.beside.node, beside_held was level top bounds a one two b x y p.beside, refl);
    holds_is = (a ++ (one ∷ (two ∷ b)), p.beside.nodes_a ++ (n ++ p.beside.nodes_b), HasNode-kept was is' (suc level) top bounds (a ++ (one ∷ (two ∷ b))) top_same p.beside.node, below, refl);
    pairs = p.pairs;
    key_lower = p.key_lower;
    key_upper = p.key_upper;
    elsewhere = λ q out unknown. put_elsewhere q (λ c. out (Contains-later top old q (Contains-middle p.beside.nodes_a (both x p.beside.nodes_one y p.beside.nodes_two) p.beside.nodes_b q c))) unknown;
    nodes = λ q c. elim (Contains-cases top (p.beside.nodes_a ++ (n ++ p.beside.nodes_b)) q c) [
      | inl same ↦ inl (subst (Contains (top ∷ old)) same (Contains-head top old))
      | inr later ↦ elim (put_around n each q later) [ inl held ↦ inl (Contains-later top old q held) | inr given ↦ inr given ]
    ];
    stays = λ q c. elim (Contains-cases top old q c) [
      | inl same ↦ inl (subst (Contains (top ∷ (p.beside.nodes_a ++ (n ++ p.beside.nodes_b)))) same (Contains-head top (p.beside.nodes_a ++ (n ++ p.beside.nodes_b))))
      | inr later ↦ elim (put_stays n back q later) [ inl held ↦ inl (Contains-later top (p.beside.nodes_a ++ (n ++ p.beside.nodes_b)) q held) | inr none ↦ inr none ]
    ];
    uses = λ q given. Contains-later top (p.beside.nodes_a ++ (n ++ p.beside.nodes_b)) q (Contains-middle p.beside.nodes_a n p.beside.nodes_b q (all q (p.uses q given)));
  }

-- ---- two become one

module _ (was is is' : Store) (level top : ℕ) (bounds : Bounds) (a : List Entry) (one two : Entry) (b : List Entry) (x y : ℕ) (entries : List Entry) (aim : Aim) (p : Paired was is level top bounds a one two b x y entries aim) (free : IsFree was aim) (room : size entries ≤ 4064) (puts : PutsTwo is is' x (Some (node_bytes level entries)) y None) where
  whole_near : IsNearPlace level (child_bounds one b bounds.upper) entries
  whole_near = IsNearPlace-sized level (child_bounds one b bounds.upper) entries p.placed (omega (arith, room))

  whole_held : Holds is' level x (child_bounds one b bounds.upper) p.new_pairs (x ∷ p.new_nodes)
  whole_held =
      Holds-node is' level x (child_bounds one b bounds.upper) entries p.new_pairs p.new_nodes
      (put_node is' level x (child_bounds one b bounds.upper) entries puts.first (IsNode-filled level (child_bounds one b bounds.upper) entries whole_near (p.filled, room)) (IsInPlace-near level (child_bounds one b bounds.upper) entries whole_near p.filled))
      (Below-kept is is' level entries (next_key b bounds.upper) p.new_pairs p.new_nodes (put_below was is is' level top bounds a one two b x y entries aim p free (Some (node_bytes level entries)) None puts) p.below_is)

  merged_below : AllBelow (Holds is' level) (a ++ (one ∷ b)) bounds.upper (p.beside.pairs_a ++ (p.new_pairs ++ p.beside.pairs_b)) (p.beside.nodes_a ++ ((x ∷ p.new_nodes) ++ p.beside.nodes_b))
  merged_below =
      let kept = put_kept was is is' level top bounds a one two b x y entries aim p free (Some (node_bytes level entries)) None puts in
      AllBelow-around (Holds is' level) a one b bounds.upper x p.beside.pairs_a p.new_pairs p.beside.pairs_b p.beside.nodes_a (x ∷ p.new_nodes) p.beside.nodes_b
      (AllBelow-kept was is' level a (Some one.0) p.beside.pairs_a p.beside.nodes_a kept.0 p.beside.below_a) p.beside.one_address whole_held (AllBelow-kept was is' level b bounds.upper p.beside.pairs_b p.beside.nodes_b kept.1 p.beside.below_b)

  near_merged : IsNearPlace (suc level) bounds (edited two.0 None (a ++ (one ∷ (two ∷ b))))
  near_merged =
      let below = second_below was level top bounds a one two b x y p.beside in
      IsNearPlace-edited (suc level) bounds two.0 None (a ++ (one ∷ (two ∷ b))) p.beside.node.0.spells.node p.beside.node.1 (second_name was level top bounds a one two b x y p.beside) tt (IsNotAbove-below bounds.lower two.0 below) (second_within was level top bounds a one two b x y p.beside) (λ h. (below, tt))

  pub merged : Mending was is' (suc level) top bounds (a ++ (one ∷ (two ∷ b))) (edited two.0 None (a ++ (one ∷ (two ∷ b)))) aim
  merged =
      put_mended was is is' level top bounds a one two b x y entries aim p free (Some (node_bytes level entries)) None puts (edited two.0 None (a ++ (one ∷ (two ∷ b)))) (x ∷ p.new_nodes)
      (subst (λ (es : List Entry). AllBelow (Holds is' level) es bounds.upper (p.beside.pairs_a ++ (p.new_pairs ++ p.beside.pairs_b)) (p.beside.nodes_a ++ ((x ∷ p.new_nodes) ++ p.beside.nodes_b))) (sym (second_lost was level top bounds a one two b x y p.beside)) merged_below)
      near_merged
      (λ q c. elim (Contains-cases x p.new_nodes q c) [
        | inl same ↦ inl (subst (Contains (both x p.beside.nodes_one y p.beside.nodes_two)) same (both_first x p.beside.nodes_one y p.beside.nodes_two))
        | inr later ↦ put_among was is is' level top bounds a one two b x y entries aim p free (Some (node_bytes level entries)) None puts q later
      ])
      (λ q c. elim (both_cases x p.beside.nodes_one y p.beside.nodes_two q c) [
        | inl first ↦ inl (subst (Contains (x ∷ p.new_nodes)) first (Contains-head x p.new_nodes))
        | inr (inl second) ↦ inr (ap is' (sym second) ∙ puts.second)
        | inr (inr below) ↦ elim (put_still was is is' level top bounds a one two b x y entries aim p free (Some (node_bytes level entries)) None puts q below) [ inl new ↦ inl (Contains-later x p.new_nodes q new) | inr none ↦ inr none ]
      ])
      (λ q c. Contains-later x p.new_nodes q c)

-- Two adjacent children become one: the left one takes all entries, the right one goes, and the node above loses
-- the entry that led there.
pub merge_mended : (was is is' : Store) (level top : ℕ) (bounds : Bounds) (a : List Entry) (one two : Entry) (b : List Entry) (x y : ℕ) (entries : List Entry) (aim : Aim) → Paired was is level top bounds a one two b x y entries aim → IsFree was aim → size entries ≤ 4064 → ((q : ℕ) → is' q ≡ overlaid ((y, None) ∷ (x, Some (node_bytes level entries)) ∷ []) is q) → Mending was is' (suc level) top bounds (a ++ (one ∷ (two ∷ b))) (edited two.0 None (a ++ (one ∷ (two ∷ b)))) aim
merge_mended was is is' level top bounds a one two b x y entries aim p free room same =
    merged was is is' level top bounds a one two b x y entries aim p free room (puts_turned (puts_two is is' y None x (Some (node_bytes level entries)) (beside_differ was level top bounds a one two b x y p.beside) same))
