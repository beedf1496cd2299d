-- What stands below a node beside one of its children that changes, and the blocks that a mending puts.
use Rattle.std.proofs.Common.{◌≡◌, ◌≢◌, ◌⊎◌, ℕ, suc, Bool, true, false, cond, not, ◌==◌, List, [], ◌∷◌, ◌++◌, Option, Some, None, refl, sym, ap, subst, ◌∙◌, inl, inr, ⊎_elim}
use Rattle.std.specs.List.{All, AllPairs, Contains}
use Rattle.std.specs.Ordering.{eq_by_cmp, is_eq, ordering_reverse}
use Rattle.std.specs.declared.cmp.Ordering.{Ordering}
use Rattle.std.specs.declared.cmp.Ordering.TheVariants.{Less, Equal, Greater}
use Rattle.std.specs.FinMap.Entries.{put, by_order}
use Rattle.std.proofs.lemmas.Bool.{cases_Bool, eqb-true, eq-eqb}
use Rattle.std.proofs.lemmas.List.Elements.{All-cons, All-head, All-tail, All-weaker, recursion_from_All, All-from_recursion, Contains-append_left, Contains-append_right, Contains-append_cases}
use Rattle.sea_base.specs.Space.{Store}
use Rattle.sea_node.specs.Entries.{Entry, key_order, IsBelow, IsNotAbove, IsRising, edited}
use Rattle.sea_node.proofs.Keys.{IsBelowAll, AreBelow, key_order-back, IsBelow-trans, IsNotAbove-below, IsNotAbove-itself, IsNotAbove-trans, not_above_then_below, below_then_not_above, IsRising-head, IsRising-tail, IsRising-split}
use Rattle.sea_tree.specs.Tree.{Bounds, IsWithin, next_key, child_bounds, IsAddress}
use Rattle.sea_tree.specs.Breaks.{HasNode}
use Rattle.sea_tree.specs.Does.{Change, overlaid}
use Rattle.sea_tree.specs.Subtrees.{AllBelow, Holds}
use Rattle.sea_tree.proofs.Holding.{AreWithin, keys_below, AllBelow-pick, one_node, Contains-head, Contains-later, Contains-cases}
use Rattle.sea_tree.proofs.Frames.{IsSameOn, AllBelow-around}
use Rattle.sea_tree.proofs.Apart.{AllBelow-distinct, AllBelow-filled, distinct-middle}
use Rattle.sea_tree.proofs.MendNear.{All-left, All-right, before_below, below_all_next, within_all}

-- ---- an edit among pairs that stand between others

-- what comes behind a key is not touched
put_before : (key value : List ℕ) (m b : List Entry) → IsBelowAll key b → put key_order key value (m ++ b) ≡ put key_order key value m ++ b
put_before key value [] [] below = refl
put_before key value [] (f ∷ b) below =
    ap (λ (o : Ordering). by_order o ((key, value) ∷ f ∷ b) ((f.0, value) ∷ b) (f ∷ put key_order key value b)) below.0
put_before key value (e ∷ m) b below =
    elim (key_order key e.0) as (λ o. by_order o ((key, value) ∷ e ∷ (m ++ b)) ((e.0, value) ∷ (m ++ b)) (e ∷ put key_order key value (m ++ b)) ≡ by_order o ((key, value) ∷ e ∷ m) ((e.0, value) ∷ m) (e ∷ put key_order key value m) ++ b) [
      | Less ↦ refl
      | Equal ↦ refl
      | Greater ↦ ap (λ (r : List Entry). e ∷ r) (put_before key value m b below)
    ]

without_append : (key : List ℕ) (m b : List Entry) → edited key None (m ++ b) ≡ edited key None m ++ edited key None b
without_append key [] b = refl
without_append key (e ∷ m) b =
    elim (eq_by_cmp key_order key e.0) as (λ t. cond (not t) (e ∷ edited key None (m ++ b)) (edited key None (m ++ b)) ≡ cond (not t) (e ∷ edited key None m) (edited key None m) ++ edited key None b) [
      | true ↦ without_append key m b
      | false ↦ ap (λ (r : List Entry). e ∷ r) (without_append key m b)
    ]

without_above : (key : List ℕ) (b : List Entry) → IsBelowAll key b → edited key None b ≡ b
without_above key [] below = refl
without_above key (f ∷ b) below =
    ap (λ (o : Ordering). cond (not (is_eq o)) (f ∷ edited key None b) (edited key None b)) below.0 ∙ ap (λ (r : List Entry). f ∷ r) (without_above key b below.1)

edited_before : (key : List ℕ) (value : Option (List ℕ)) (m b : List Entry) → IsBelowAll key b → edited key value (m ++ b) ≡ edited key value m ++ b
edited_before key (Some v) m b below = put_before key v m b below
edited_before key None m b below = without_append key m b ∙ ap (λ (r : List Entry). edited key None m ++ r) (without_above key b below)

-- nor is what stands before it
edited_one_after : (key : List ℕ) (value : Option (List ℕ)) (e : Entry) (m : List Entry) → IsBelow e.0 key → edited key value (e ∷ m) ≡ e ∷ edited key value m
edited_one_after key (Some v) e m below =
    ap (λ (o : Ordering). by_order o ((key, v) ∷ e ∷ m) ((e.0, v) ∷ m) (e ∷ put key_order key v m)) (key_order-back key e.0 ∙ ap ordering_reverse below)
edited_one_after key None e m below =
    ap (λ (o : Ordering). cond (not (is_eq o)) (e ∷ edited key None m) (edited key None m)) (key_order-back key e.0 ∙ ap ordering_reverse below)

pub edited_after : (key : List ℕ) (value : Option (List ℕ)) (a m : List Entry) → All (λ e. IsBelow e.0 key) a → edited key value (a ++ m) ≡ a ++ edited key value m
edited_after key value [] m below = refl
edited_after key value (e ∷ a) m below =
    edited_one_after key value e (a ++ m) (All-head (λ (x : Entry). IsBelow x.0 key) e a below) ∙ ap (λ (r : List Entry). e ∷ r) (edited_after key value a m (All-tail (λ (x : Entry). IsBelow x.0 key) e a below))

-- An edit at a key between others changes what stands between them alone.
pub edited_middle : (key : List ℕ) (value : Option (List ℕ)) (a m b : List Entry) → All (λ e. IsBelow e.0 key) a → IsBelowAll key b → edited key value (a ++ (m ++ b)) ≡ a ++ (edited key value m ++ b)
edited_middle key value a m b below above =
    edited_after key value a (m ++ b) below ∙ ap (λ (r : List Entry). a ++ r) (edited_before key value m b above)

-- a new pair comes behind the last key below its own
pub edited_between : (key value : List ℕ) (a : List Entry) (e : Entry) (b : List Entry) → All (λ x. IsBelow x.0 e.0) a → IsBelow e.0 key → IsBelowAll key b → edited key (Some value) (a ++ (e ∷ b)) ≡ a ++ (e ∷ ((key, value) ∷ b))
edited_between key value a e b below here above =
    edited_after key (Some value) a (e ∷ b) (All-weaker (λ (x : Entry). IsBelow x.0 e.0) (λ (x : Entry). IsBelow x.0 key) (λ x h. IsBelow-trans x.0 e.0 key h here) a below)
    ∙ ap (λ (r : List Entry). a ++ r) (edited_one_after key (Some value) e b here ∙ ap (λ (r : List Entry). e ∷ r) (edited_before key (Some value) [] b above))

-- ---- the children of a node beside one of them

-- A node, and what stands below its entries before one and after it.
pub record Sides (was : Store) (level at : ℕ) (bounds : Bounds) (a : List Entry) (e : Entry) (b : List Entry) : Type 0 where
  pub node : HasNode was (suc level) at bounds (a ++ (e ∷ b))
  pub pairs_a : List Entry
  pub pairs_b : List Entry
  pub nodes_a : List ℕ
  pub nodes_b : List ℕ
  pub below_a : AllBelow (Holds was level) a (Some e.0) pairs_a nodes_a
  pub below_b : AllBelow (Holds was level) b bounds.upper pairs_b nodes_b

pub sides : (was : Store) (level at : ℕ) (bounds : Bounds) (pairs : List Entry) (nodes : List ℕ) (a : List Entry) (e : Entry) (b : List Entry) → Holds was (suc level) at bounds pairs nodes → HasNode was (suc level) at bounds (a ++ (e ∷ b)) → Sides was level at bounds a e b
sides was level at bounds pairs nodes a e b holds node =
    let same : holds.0 ≡ a ++ (e ∷ b) = (one_node was at (suc level) (suc level) holds.0 (a ++ (e ∷ b)) holds.2.0 node.0).1 in
    let below : AllBelow (Holds was level) (a ++ (e ∷ b)) bounds.upper pairs holds.1 = subst (λ (es : List Entry). AllBelow (Holds was level) es bounds.upper pairs holds.1) same holds.3 in
    let m = AllBelow-pick (Holds was level) a e b bounds.upper pairs holds.1 below in
    record { node = node; pairs_a = m.pairs_before; pairs_b = m.pairs_after; nodes_a = m.nodes_before; nodes_b = m.nodes_after; below_a = m.first; below_b = m.rest }

-- the keys of pairs below entries that follow are above a key that is below the first of these
pairs_above : (was : Store) (level : ℕ) (key : List ℕ) (b : List Entry) (upper : Option (List ℕ)) (pairs : List Entry) (nodes : List ℕ) → IsRising b → All (λ e. IsWithin e.0 upper) b → AllBelow (Holds was level) b upper pairs nodes → IsWithin key (next_key b upper) → IsBelowAll key pairs
pairs_above was level key [] upper pairs nodes rising uppers below within = subst (IsBelowAll key) (sym below.0) tt
pairs_above was level key (e ∷ b) upper pairs nodes rising uppers below within =
    let from : All (λ (x : Entry). IsNotAbove e.0 x.0) (e ∷ b) = All-cons (λ (x : Entry). IsNotAbove e.0 x.0) e b (IsNotAbove-itself e.0) (All-weaker (λ (x : Entry). IsBelow e.0 x.0) (λ (x : Entry). IsNotAbove e.0 x.0) (λ x. IsNotAbove-below e.0 x.0) b (All-from_recursion (λ (x : Entry). IsBelow e.0 x.0) b (IsRising-head e b rising))) in
    let keys : AreWithin e.0 upper pairs = keys_below was (suc level) (e ∷ b) e.0 upper pairs nodes (record { lower = from; upper = uppers; rising = rising }) below in
    recursion_from_All (λ (x : Entry). IsBelow key x.0) pairs (All-weaker (λ (x : Entry). IsNotAbove e.0 x.0) (λ (x : Entry). IsBelow key x.0) (λ x. below_then_not_above key e.0 x.0 within) pairs keys.lower)

module _ (was : Store) (level at : ℕ) (bounds : Bounds) (a : List Entry) (e : Entry) (b : List Entry) (s : Sides was level at bounds a e b) where
  rising : IsRising a × IsRising (e ∷ b) × AreBelow a (e ∷ b)
  rising = IsRising-split a (e ∷ b) s.node.0.spells.node.rising

  -- the keys before it are below its own
  pub sides_before : All (λ x. IsBelow x.0 e.0) a
  sides_before = All-from_recursion (λ (x : Entry). IsBelow x.0 e.0) a (before_below a e b rising.2)

  uppers_b : All (λ x. IsWithin x.0 bounds.upper) b
  uppers_b = All-tail (λ (x : Entry). IsWithin x.0 bounds.upper) e b (All-right (λ (x : Entry). IsWithin x.0 bounds.upper) a (e ∷ b) s.node.1.upper)

  -- what is between its bounds is between those of the node
  pub sides_lower : (key : List ℕ) → IsNotAbove e.0 key → IsNotAbove bounds.lower key
  sides_lower key le =
      IsNotAbove-trans bounds.lower e.0 key (All-head (λ (x : Entry). IsNotAbove bounds.lower x.0) e b (All-right (λ (x : Entry). IsNotAbove bounds.lower x.0) a (e ∷ b) s.node.1.lower)) le

  pub sides_below : (key : List ℕ) → IsBelow e.0 key → IsBelow bounds.lower key
  sides_below key below =
      not_above_then_below bounds.lower e.0 key (All-head (λ (x : Entry). IsNotAbove bounds.lower x.0) e b (All-right (λ (x : Entry). IsNotAbove bounds.lower x.0) a (e ∷ b) s.node.1.lower)) below

  pub sides_upper : (key : List ℕ) → IsWithin key (next_key b bounds.upper) → IsWithin key bounds.upper
  sides_upper key within = within_all key b bounds.upper uppers_b within

  pub sides_above : (key : List ℕ) → IsWithin key (next_key b bounds.upper) → IsBelowAll key b
  sides_above key within = below_all_next key b bounds.upper (IsRising-tail e b rising.1) within

  -- with any subtree at its address they are what stands below all entries
  pub sides_whole : (child : ℕ) (p : List Entry) (n : List ℕ) → IsAddress e.1 child → Holds was level child (child_bounds e b bounds.upper) p n → AllBelow (Holds was level) (a ++ (e ∷ b)) bounds.upper (s.pairs_a ++ (p ++ s.pairs_b)) (s.nodes_a ++ (n ++ s.nodes_b))
  sides_whole child p n address here =
      AllBelow-around (Holds was level) a e b bounds.upper child s.pairs_a p s.pairs_b s.nodes_a n s.nodes_b s.below_a address here s.below_b

  -- the nodes beside it are filled
  pub sides_filled_a : (q : ℕ) → Contains s.nodes_a q → was q ≢ None
  sides_filled_a q c = AllBelow-filled was level a (Some e.0) s.pairs_a s.nodes_a s.below_a q c

  pub sides_filled_b : (q : ℕ) → Contains s.nodes_b q → was q ≢ None
  sides_filled_b q c = AllBelow-filled was level b bounds.upper s.pairs_b s.nodes_b s.below_b q c

  -- and stay where a store changes at no filled address but its nodes
  pub sides_kept : (is : Store) (child : ℕ) (p : List Entry) (n : List ℕ) → IsAddress e.1 child → Holds was level child (child_bounds e b bounds.upper) p n → ((q : ℕ) → (Contains n q → ⊥) → was q ≢ None → is q ≡ was q) → IsSameOn was is s.nodes_a × IsSameOn was is s.nodes_b
  sides_kept is child p n address here elsewhere =
      let whole = sides_whole child p n address here in
      let distinct : AllPairs ◌≢◌ (s.nodes_a ++ (n ++ s.nodes_b)) = AllBelow-distinct was level (a ++ (e ∷ b)) bounds.upper (s.pairs_a ++ (p ++ s.pairs_b)) (s.nodes_a ++ (n ++ s.nodes_b)) s.node.0.spells.node.rising s.node.1.upper whole in (
        λ q c. elsewhere q (λ k. (distinct-middle s.nodes_a n s.nodes_b distinct q k).0 c) (sides_filled_a q c),
        λ q c. elsewhere q (λ k. (distinct-middle s.nodes_a n s.nodes_b distinct q k).1 c) (sides_filled_b q c),
      )

  -- an edit between its bounds is one of its pairs alone
  pub sides_pairs : (key : List ℕ) (value : Option (List ℕ)) (p p' : List Entry) → IsNotAbove e.0 key → IsWithin key (next_key b bounds.upper) → p' ≡ edited key value p → s.pairs_a ++ (p' ++ s.pairs_b) ≡ edited key value (s.pairs_a ++ (p ++ s.pairs_b))
  sides_pairs key value p p' le within same =
      let lowers : All (λ (x : Entry). IsNotAbove bounds.lower x.0) a = All-left (λ (x : Entry). IsNotAbove bounds.lower x.0) a (e ∷ b) s.node.1.lower in
      let keys : AreWithin bounds.lower (Some e.0) s.pairs_a = keys_below was (suc level) a bounds.lower (Some e.0) s.pairs_a s.nodes_a (record { lower = lowers; upper = sides_before; rising = rising.0 }) s.below_a in
      let below : All (λ (x : Entry). IsBelow x.0 key) s.pairs_a = All-weaker (λ (x : Entry). IsBelow x.0 e.0) (λ (x : Entry). IsBelow x.0 key) (λ x h. below_then_not_above x.0 e.0 key h le) s.pairs_a keys.upper in
      let above : IsBelowAll key s.pairs_b = pairs_above was level key b bounds.upper s.pairs_b s.nodes_b (IsRising-tail e b rising.1) uppers_b s.below_b within in
      ap (λ (r : List Entry). s.pairs_a ++ (r ++ s.pairs_b)) same ∙ sym (edited_middle key value s.pairs_a p s.pairs_b below above)

-- ---- what is among three lists

pub Contains-middle : (a m b : List ℕ) (q : ℕ) → Contains m q → Contains (a ++ (m ++ b)) q
Contains-middle a m b q c = Contains-append_right a (m ++ b) q (Contains-append_left m b q c)

-- a place among three lists with another middle one
pub Contains-other_middle : (a m n b : List ℕ) (q : ℕ) (G : Type 0) → (Contains m q → Contains n q ⊎ G) → Contains (a ++ (m ++ b)) q → Contains (a ++ (n ++ b)) q ⊎ G
Contains-other_middle a m n b q G each c =
    ⊎_elim
    (λ first. inl (Contains-append_left a (n ++ b) q first))
    (λ later. ⊎_elim
    (λ here. ⊎_elim (λ found. inl (Contains-middle a n b q found)) (λ given. inr given) (each here))
    (λ last. inl (Contains-append_right a (n ++ b) q (Contains-append_right n b q last)))
    (Contains-append_cases m b q later))
    (Contains-append_cases a (m ++ b) q c)

-- ---- blocks that were put

cond_true : {A : Type 0} (b : Bool) (x y : A) → b ≡ true → cond b x y ≡ x
cond_true b x y e = ap (λ (c : Bool). cond c x y) e

cond_false : {A : Type 0} (b : Bool) (x y : A) → b ≡ false → cond b x y ≡ y
cond_false b x y e = ap (λ (c : Bool). cond c x y) e

differs : (q p : ℕ) → q ≢ p → (q == p) ≡ false
differs q p apart = elim (cases_Bool (q == p)) [ inl e ↦ absurd (apart (eqb-true q p e)) | inr e ↦ e ]

pub overlaid-here : (p : ℕ) (x : Option (List ℕ)) (changes : List Change) (s : Store) → overlaid ((p, x) ∷ changes) s p ≡ x
overlaid-here p x changes s = cond_true (p == p) x (overlaid changes s p) (eq-eqb p p refl)

pub overlaid-other : (p : ℕ) (x : Option (List ℕ)) (changes : List Change) (s : Store) (q : ℕ) → q ≢ p → overlaid ((p, x) ∷ changes) s q ≡ overlaid changes s q
overlaid-other p x changes s q apart = cond_false (q == p) x (overlaid changes s q) (differs q p apart)

-- one block was put, and nothing else changed
pub record PutsOne (is is' : Store) (a : ℕ) (x : Option (List ℕ)) : Type 0 where
  pub here : is' a ≡ x
  pub others : (q : ℕ) → q ≢ a → is' q ≡ is q

pub puts_one : (is is' : Store) (a : ℕ) (x : Option (List ℕ)) → ((q : ℕ) → is' q ≡ overlaid ((a, x) ∷ []) is q) → PutsOne is is' a x
puts_one is is' a x same = record {
  here = same a ∙ overlaid-here a x [] is;
  others = λ q apart. same q ∙ overlaid-other a x [] is q apart;
}

-- two blocks were put, in any order
pub record PutsTwo (is is' : Store) (a : ℕ) (x : Option (List ℕ)) (b : ℕ) (y : Option (List ℕ)) : Type 0 where
  pub first : is' a ≡ x
  pub second : is' b ≡ y
  pub others : (q : ℕ) → q ≢ a → q ≢ b → is' q ≡ is q

pub puts_two : (is is' : Store) (a : ℕ) (x : Option (List ℕ)) (b : ℕ) (y : Option (List ℕ)) → b ≢ a → ((q : ℕ) → is' q ≡ overlaid ((a, x) ∷ (b, y) ∷ []) is q) → PutsTwo is is' a x b y
puts_two is is' a x b y apart same = record {
  first = same a ∙ overlaid-here a x ((b, y) ∷ []) is;
  second = same b ∙ overlaid-other a x ((b, y) ∷ []) is b apart ∙ overlaid-here b y [] is;
  others = λ q not_a not_b. same q ∙ overlaid-other a x ((b, y) ∷ []) is q not_a ∙ overlaid-other b y [] is q not_b;
}

pub puts_turned : {is is' : Store} {a : ℕ} {x : Option (List ℕ)} {b : ℕ} {y : Option (List ℕ)} → PutsTwo is is' a x b y → PutsTwo is is' b y a x
puts_turned w = record { first = w.second; second = w.first; others = λ q not_b not_a. w.others q not_a not_b }

-- ---- two nodes and those below them

-- two addresses, each with those below it
abbrev pub both : ℕ → List ℕ → ℕ → List ℕ → List ℕ
both x n y k = (x ∷ n) ++ (y ∷ k)

-- those below either are among all
pub below_both : (x : ℕ) (n : List ℕ) (y : ℕ) (k : List ℕ) (q : ℕ) → Contains (n ++ k) q → Contains (both x n y k) q
below_both x n y k q c = elim (Contains-append_cases n k q c) [
  | inl first ↦ Contains-append_left (x ∷ n) (y ∷ k) q (Contains-later x n q first)
  | inr later ↦ Contains-append_right (x ∷ n) (y ∷ k) q (Contains-later y k q later)
]

pub both_first : (x : ℕ) (n : List ℕ) (y : ℕ) (k : List ℕ) → Contains (both x n y k) x
both_first x n y k = Contains-head x (n ++ (y ∷ k))

pub both_second : (x : ℕ) (n : List ℕ) (y : ℕ) (k : List ℕ) → Contains (both x n y k) y
both_second x n y k = Contains-append_right (x ∷ n) (y ∷ k) y (Contains-head y k)

pub both_cases : (x : ℕ) (n : List ℕ) (y : ℕ) (k : List ℕ) (q : ℕ) → Contains (both x n y k) q → (x ≡ q) ⊎ ((y ≡ q) ⊎ Contains (n ++ k) q)
both_cases x n y k q c = elim (Contains-append_cases (x ∷ n) (y ∷ k) q c) [
  | inl front ↦ elim (Contains-cases x n q front) [ inl same ↦ inl same | inr later ↦ inr (inr (Contains-append_left n k q later)) ]
  | inr back ↦ elim (Contains-cases y k q back) [ inl same ↦ inr (inl same) | inr later ↦ inr (inr (Contains-append_right n k q later)) ]
]
