-- Two adjacent children are redistributed: each takes a part of the entries of both.
use Rattle.std.proofs.Common.{◌≡◌, ◌⊎◌, ℕ, suc, ◌≤◌, List, [], ◌∷◌, ◌++◌, length, Some, refl, sym, ap, subst, ◌∙◌, inl, inr, arith, append_assoc, None}
use Rattle.std.specs.List.{All, Contains}
use Rattle.std.proofs.lemmas.List.Elements.{All-head, All-cons, All-weaker, All-from_recursion, Contains-append_left, Contains-append_right, Contains-append_cases}
use Rattle.sea_base.specs.Name.{IsName}
use Rattle.sea_base.specs.Space.{Store}
use Rattle.sea_node.specs.Entries.{Entry, IsBelow, IsNotAbove}
use Rattle.sea_node.specs.Node.{node_bytes}
use Rattle.sea_node.proofs.Keys.{IsNotAbove-itself, IsNotAbove-below, not_above_then_below, IsRising-head, IsRising-split}
use Rattle.sea_tree.specs.Tree.{Bounds, IsWithin, first_key, child_bounds}
use Rattle.sea_tree.specs.Does.{overlaid}
use Rattle.sea_tree.specs.Subtrees.{AllBelow, Holds}
use Rattle.sea_tree.specs.Mending.{moved, IsNearPlace, Aim, IsGiven, Mending, Replaced, IsPart}
use Rattle.sea_tree.proofs.Holding.{Contains-cases}
use Rattle.sea_tree.proofs.Frames.{AllBelow-kept, AllBelow-one, AllBelow-around}
use Rattle.sea_tree.proofs.MendNear.{All-left, All-right, before_below, moved-at, IsNearPlace-moved, IsNode-filled, IsInPlace-near, left_bounds, right_bounds, Halves}
use Rattle.sea_tree.proofs.MendSides.{PutsTwo, puts_two, puts_turned, both, below_both, both_first, both_second, both_cases}
use Rattle.sea_tree.proofs.MendSplit.{IsFree, TwoHeld, two_held}
use Rattle.sea_tree.proofs.MendPair.{AreInPlace, Paired}
use Rattle.sea_tree.proofs.MendMerge.{beside_differ, put_kept, put_below, put_among, put_still, put_mended, put_replaced}

-- ---- two parts of entries in their place

-- Each part is filled and fits, so it is a node in its place.
pub halves_placed : (level : ℕ) (bounds : Bounds) (left right : List Entry) → AreInPlace level bounds (left ++ right) → IsPart left → IsPart right → Halves level bounds left right
halves_placed level bounds left [] placed first second = absurd (omega (arith, second.0))
halves_placed level bounds [] (r ∷ right) placed first second = absurd (omega (arith, first.0))
halves_placed level bounds (l ∷ left) (r ∷ right) placed first second =
    let es = l ∷ left in
    let fs = r ∷ right in
    let parts = IsRising-split es fs placed.rising in
    let lowers = All-left (λ (e : Entry). IsNotAbove bounds.lower e.0) es fs placed.lower in
    let uppers = All-right (λ (e : Entry). IsWithin e.0 bounds.upper) es fs placed.upper in
    let names = All-right (λ (e : Entry). IsName e.0) es fs placed.keys in
    let below : All (λ (e : Entry). IsBelow e.0 r.0) es = All-from_recursion (λ (e : Entry). IsBelow e.0 r.0) es (before_below es r right parts.2) in
    let above : All (λ (e : Entry). IsNotAbove r.0 e.0) fs = All-cons (λ (e : Entry). IsNotAbove r.0 e.0) r right (IsNotAbove-itself r.0) (All-weaker (λ (e : Entry). IsBelow r.0 e.0) (λ (e : Entry). IsNotAbove r.0 e.0) (λ e. IsNotAbove-below r.0 e.0) right (All-from_recursion (λ (e : Entry). IsBelow r.0 e.0) right (IsRising-head r right parts.1))) in
    let one : IsNearPlace level (left_bounds bounds fs) es = record {
      level_fits = placed.level_fits;
      children = λ h. All-left (λ (e : Entry). length e.1 ≡ 8) es fs (placed.children h);
      keys = All-left (λ (e : Entry). IsName e.0) es fs placed.keys;
      values = All-left (λ (e : Entry). length e.1 ≤ 1024) es fs placed.values;
      rising = parts.0;
      lower = lowers;
      upper = below;
      first = λ h. (omega arith, (placed.first h).1);
      near = omega (arith, first.1);
    } in
    let two : IsNearPlace level (right_bounds bounds fs) fs = record {
      level_fits = placed.level_fits;
      children = λ h. All-right (λ (e : Entry). length e.1 ≡ 8) es fs (placed.children h);
      keys = names;
      values = All-right (λ (e : Entry). length e.1 ≤ 1024) es fs placed.values;
      rising = parts.1;
      lower = above;
      upper = uppers;
      first = λ h. (omega arith, refl);
      near = omega (arith, second.1);
    } in
    record {
      left_node = IsNode-filled level (left_bounds bounds fs) es one first;
      right_node = IsNode-filled level (right_bounds bounds fs) fs two second;
      left_place = IsInPlace-near level (left_bounds bounds fs) es one first.0;
      right_place = IsInPlace-near level (right_bounds bounds fs) fs two second.0;
      name = All-head (λ (e : Entry). IsName e.0) r right names;
      above = not_above_then_below bounds.lower l.0 r.0 (All-head (λ (e : Entry). IsNotAbove bounds.lower e.0) l left lowers) (All-head (λ (e : Entry). IsBelow e.0 r.0) l left below);
      within = All-head (λ (e : Entry). IsWithin e.0 bounds.upper) r right uppers;
      next = λ upper. refl;
    }

-- ---- two stay two

module _ (was is is' : Store) (level top : ℕ) (bounds : Bounds) (a : List Entry) (one two : Entry) (b : List Entry) (x y : ℕ) (left right : List Entry) (aim : Aim) (p : Paired was is level top bounds a one two b x y (left ++ right) aim) (free : IsFree was aim) (first : IsPart left) (second : IsPart right) (puts : PutsTwo is is' x (Some (node_bytes level left)) y (Some (node_bytes level right))) where
  abbrev key : List ℕ
  key = first_key right

  parts : Halves level (child_bounds one b bounds.upper) left right
  parts = halves_placed level (child_bounds one b bounds.upper) left right p.placed first second

  held : TwoHeld is' level x y (child_bounds one b bounds.upper) right p.new_pairs p.new_nodes
  held =
      two_held is is' level x y (child_bounds one b bounds.upper) left right p.new_pairs p.new_nodes parts p.below_is
      (put_below was is is' level top bounds a one two b x y (left ++ right) aim p free (Some (node_bytes level left)) (Some (node_bytes level right)) puts) puts.first puts.second

  -- what stands below the node now
  cut_below : AllBelow (Holds is' level) (a ++ (one ∷ ((key, two.1) ∷ b))) bounds.upper (p.beside.pairs_a ++ (p.new_pairs ++ p.beside.pairs_b)) (p.beside.nodes_a ++ (both x held.nodes_a y held.nodes_b ++ p.beside.nodes_b))
  cut_below =
      let s = p.beside in
      let kept = put_kept was is is' level top bounds a one two b x y (left ++ right) aim p free (Some (node_bytes level left)) (Some (node_bytes level right)) puts in
      let pairs : held.pairs_a ++ (held.pairs_b ++ s.pairs_b) ≡ p.new_pairs ++ s.pairs_b = sym (append_assoc held.pairs_a held.pairs_b s.pairs_b) ∙ ap (λ (r : List Entry). r ++ s.pairs_b) (sym held.pairs_are) in
      let nodes : (x ∷ held.nodes_a) ++ ((y ∷ held.nodes_b) ++ s.nodes_b) ≡ both x held.nodes_a y held.nodes_b ++ s.nodes_b = sym (append_assoc (x ∷ held.nodes_a) (y ∷ held.nodes_b) s.nodes_b) in
      subst (λ (l : List ℕ). AllBelow (Holds is' level) (a ++ (one ∷ ((key, two.1) ∷ b))) bounds.upper (s.pairs_a ++ (p.new_pairs ++ s.pairs_b)) (s.nodes_a ++ l)) nodes
      (subst (λ (r : List Entry). AllBelow (Holds is' level) (a ++ (one ∷ ((key, two.1) ∷ b))) bounds.upper (s.pairs_a ++ r) (s.nodes_a ++ ((x ∷ held.nodes_a) ++ ((y ∷ held.nodes_b) ++ s.nodes_b)))) pairs
      (AllBelow-around (Holds is' level) a one ((key, two.1) ∷ b) bounds.upper x s.pairs_a held.pairs_a (held.pairs_b ++ s.pairs_b) s.nodes_a (x ∷ held.nodes_a) ((y ∷ held.nodes_b) ++ s.nodes_b)
      (AllBelow-kept was is' level a (Some one.0) s.pairs_a s.nodes_a kept.0 s.below_a) s.one_address held.left_held
      (AllBelow-one (Holds is' level) (key, two.1) b bounds.upper y held.pairs_b s.pairs_b (y ∷ held.nodes_b) s.nodes_b s.two_address held.right_held (AllBelow-kept was is' level b bounds.upper s.pairs_b s.nodes_b kept.1 s.below_b))))

  among : (q : ℕ) → Contains p.new_nodes q → Contains (both x p.beside.nodes_one y p.beside.nodes_two) q ⊎ IsGiven aim q
  among = put_among was is is' level top bounds a one two b x y (left ++ right) aim p free (Some (node_bytes level left)) (Some (node_bytes level right)) puts

  among_both : (q : ℕ) → Contains (both x held.nodes_a y held.nodes_b) q → Contains (both x p.beside.nodes_one y p.beside.nodes_two) q ⊎ IsGiven aim q
  among_both q c = elim (Contains-append_cases (x ∷ held.nodes_a) (y ∷ held.nodes_b) q c) [
    | inl front ↦ elim (Contains-cases x held.nodes_a q front) [
      | inl same ↦ inl (subst (Contains (both x p.beside.nodes_one y p.beside.nodes_two)) same (both_first x p.beside.nodes_one y p.beside.nodes_two))
      | inr later ↦ among q (subst (λ (l : List ℕ). Contains l q) (sym held.nodes_are) (Contains-append_left held.nodes_a held.nodes_b q later))
    ]
    | inr back ↦ elim (Contains-cases y held.nodes_b q back) [
      | inl same ↦ inl (subst (Contains (both x p.beside.nodes_one y p.beside.nodes_two)) same (both_second x p.beside.nodes_one y p.beside.nodes_two))
      | inr later ↦ among q (subst (λ (l : List ℕ). Contains l q) (sym held.nodes_are) (Contains-append_right held.nodes_a held.nodes_b q later))
    ]
  ]

  new_both : (q : ℕ) → Contains p.new_nodes q → Contains (both x held.nodes_a y held.nodes_b) q
  new_both q c = below_both x held.nodes_a y held.nodes_b q (subst (λ (l : List ℕ). Contains l q) held.nodes_are c)

  back : (q : ℕ) → Contains (both x p.beside.nodes_one y p.beside.nodes_two) q → Contains (both x held.nodes_a y held.nodes_b) q ⊎ (is' q ≡ None)
  back q c = elim (both_cases x p.beside.nodes_one y p.beside.nodes_two q c) [
    | inl front ↦ inl (subst (Contains (both x held.nodes_a y held.nodes_b)) front (both_first x held.nodes_a y held.nodes_b))
    | inr (inl last) ↦ inl (subst (Contains (both x held.nodes_a y held.nodes_b)) last (both_second x held.nodes_a y held.nodes_b))
    | inr (inr below) ↦ elim (put_still was is is' level top bounds a one two b x y (left ++ right) aim p free (Some (node_bytes level left)) (Some (node_bytes level right)) puts q below) [
      | inl new ↦ inl (new_both q new)
      | inr none ↦ inr none
    ]
  ]

  moved_is : moved two.0 key (a ++ (one ∷ (two ∷ b))) ≡ a ++ (one ∷ ((key, two.1) ∷ b))
  moved_is = moved-at (suc level) (a ++ (one ∷ (two ∷ b))) a one two.0 key two.1 b refl p.beside.node.0.spells.node

  pub cut_moved : Mending was is' (suc level) top bounds (a ++ (one ∷ (two ∷ b))) (moved two.0 key (a ++ (one ∷ (two ∷ b)))) aim
  cut_moved =
      put_mended was is is' level top bounds a one two b x y (left ++ right) aim p free (Some (node_bytes level left)) (Some (node_bytes level right)) puts (moved two.0 key (a ++ (one ∷ (two ∷ b)))) (both x held.nodes_a y held.nodes_b)
      (subst (λ (es : List Entry). AllBelow (Holds is' level) es bounds.upper (p.beside.pairs_a ++ (p.new_pairs ++ p.beside.pairs_b)) (p.beside.nodes_a ++ (both x held.nodes_a y held.nodes_b ++ p.beside.nodes_b))) (sym moved_is) cut_below)
      (IsNearPlace-moved (suc level) bounds (a ++ (one ∷ (two ∷ b))) a one two.0 key two.1 b refl p.beside.node.0.spells.node p.beside.node.1 parts.name parts.above parts.within)
      among_both back new_both

  pub cut_stays : key ≡ two.0 → Replaced was is' (suc level) (suc level) top bounds aim
  cut_stays same =
      let entry : (key, two.1) ≡ two = ap (λ (k : List ℕ). (k, two.1)) same in
      put_replaced was is is' level top bounds a one two b x y (left ++ right) aim p free (Some (node_bytes level left)) (Some (node_bytes level right)) puts (both x held.nodes_a y held.nodes_b)
      (subst (λ (e : Entry). AllBelow (Holds is' level) (a ++ (one ∷ (e ∷ b))) bounds.upper (p.beside.pairs_a ++ (p.new_pairs ++ p.beside.pairs_b)) (p.beside.nodes_a ++ (both x held.nodes_a y held.nodes_b ++ p.beside.nodes_b))) entry cut_below)
      among_both back new_both

-- the two blocks as they are put
pub cut_puts : (was is is' : Store) (level top : ℕ) (bounds : Bounds) (a : List Entry) (one two : Entry) (b : List Entry) (x y : ℕ) (entries left right : List Entry) (aim : Aim) → Paired was is level top bounds a one two b x y entries aim → ((q : ℕ) → is' q ≡ overlaid ((y, Some (node_bytes level right)) ∷ (x, Some (node_bytes level left)) ∷ []) is q) → PutsTwo is is' x (Some (node_bytes level left)) y (Some (node_bytes level right))
cut_puts was is is' level top bounds a one two b x y entries left right aim p same =
    puts_turned (puts_two is is' y (Some (node_bytes level right)) x (Some (node_bytes level left)) (beside_differ was level top bounds a one two b x y p.beside) same)

-- Two adjacent children are redistributed, and the node above has the second one's new key.
pub cut_mended : (was is is' : Store) (level top : ℕ) (bounds : Bounds) (a : List Entry) (one two : Entry) (b : List Entry) (x y : ℕ) (entries left right : List Entry) (aim : Aim) → Paired was is level top bounds a one two b x y entries aim → IsFree was aim → entries ≡ left ++ right → IsPart left → IsPart right → ((q : ℕ) → is' q ≡ overlaid ((y, Some (node_bytes level right)) ∷ (x, Some (node_bytes level left)) ∷ []) is q) → Mending was is' (suc level) top bounds (a ++ (one ∷ (two ∷ b))) (moved two.0 (first_key right) (a ++ (one ∷ (two ∷ b)))) aim
cut_mended was is is' level top bounds a one two b x y entries left right aim p free split first second same =
    cut_moved was is is' level top bounds a one two b x y left right aim (subst (λ (es : List Entry). Paired was is level top bounds a one two b x y es aim) split p) free first second
    (cut_puts was is is' level top bounds a one two b x y entries left right aim p same)

-- Where the second one keeps its key, nothing changes above.
pub cut_replaced : (was is is' : Store) (level top : ℕ) (bounds : Bounds) (a : List Entry) (one two : Entry) (b : List Entry) (x y : ℕ) (entries left right : List Entry) (aim : Aim) → Paired was is level top bounds a one two b x y entries aim → IsFree was aim → entries ≡ left ++ right → IsPart left → IsPart right → first_key right ≡ two.0 → ((q : ℕ) → is' q ≡ overlaid ((y, Some (node_bytes level right)) ∷ (x, Some (node_bytes level left)) ∷ []) is q) → Replaced was is' (suc level) (suc level) top bounds aim
cut_replaced was is is' level top bounds a one two b x y entries left right aim p free split first second stays same =
    cut_stays was is is' level top bounds a one two b x y left right aim (subst (λ (es : List Entry). Paired was is level top bounds a one two b x y es aim) split p) free first second
    (cut_puts was is is' level top bounds a one two b x y entries left right aim p same) stays
