-- The pairs of a content above a bound, taken leaf by leaf.
use Rattle.std.proofs.Common.{◌≡◌, ◌≢◌, ◌⊎◌, inl, inr, ℕ, zero, suc, ◌+◌, ◌<◌, ◌≤◌, Bool, true, false, cond, not, List, [], ◌∷◌, ◌++◌, length, take, Option, Some, None, T, refl, sym, ap, subst, ◌∙◌, arith, length-take, length-append, take-append-drop, append_assoc, drop, get_or}
use Rattle.std.proofs.lemmas.List.{append-nil, take-append-le}
use Rattle.std.specs.List.{All, AllByRecursion}
use Rattle.std.specs.Ordering.{is_lt, is_eq, eq_by_cmp}
use Rattle.std.specs.declared.cmp.Ordering.{Ordering}
use Rattle.std.specs.declared.cmp.Ordering.TheVariants.{Less, Equal, Greater}
use Rattle.std.specs.FinMap as map
use Rattle.std.specs.FinMap.Entries.{find, where_key, is_sorted-where_key, find-where_key, same_entries}
use Rattle.std.proofs.lemmas.List.Elements.{recursion_from_All, All-filter, filter_passes, filter-append, filter_more}
use Rattle.sea_node.specs.Entries.{Entry, Values, key_order, IsBelow, IsNotAbove, IsRising}
use Rattle.sea_node.proofs.Keys.{key_order_total, same_key, key_order-itself, IsBelowAll, AreBelow, below_then_not_above, not_above_or_below, not_above_not_below, IsRising-append}
use Rattle.sea_tree.specs.Tree.{Bounds, IsWithin, LiesWithin, IsInPlace}
use Rattle.sea_tree.specs.Calls.{pairs_above}
use Rattle.sea_tree.specs.Range.{is_above, is_within, entries_above, pairs_upto}
use Rattle.sea_tree.proofs.Apart.{IsWithin-below}
use Rattle.sea_tree.proofs.Contents.{entries_rise}

-- ---- tests of keys

less_told : (o : Ordering) → is_lt o ≡ true → o ≡ Less
less_told Less e = refl
less_told Equal e = absurd (cc)
less_told Greater e = absurd (cc)

less_shown : (o : Ordering) → o ≡ Less → is_lt o ≡ true
less_shown o e = ap is_lt e

true_or_false : (b : Bool) → (b ≡ true) ⊎ (b ≡ false)
true_or_false true = inl refl
true_or_false false = inr refl

within_told : (u : Option (List ℕ)) (k : List ℕ) → is_within u k ≡ true → IsWithin k u
within_told None k e = tt
within_told (Some u) k e = less_told _ e

within_shown : (u : Option (List ℕ)) (k : List ℕ) → IsWithin k u → is_within u k ≡ true
within_shown None k h = refl
within_shown (Some u) k h = ap is_lt h

not_within : (u k : List ℕ) → IsNotAbove u k → is_within (Some u) k ≡ false
not_within u k le = elim (true_or_false (is_within (Some u) k)) [
  | inl passed ↦ absurd (not_above_not_below u k le (less_told _ passed))
  | inr failed ↦ failed
]

-- ---- lists in the order of their keys

from_T : (b : Bool) → T b → b ≡ true
from_T true h = refl
from_T false h = absurd h

to_T : (b : Bool) → b ≡ true → T b
to_T b e = subst T (sym e) tt

pub IsRising-where : (p : List ℕ → Bool) (es : List Entry) → IsRising es → IsRising (where_key key_order p es)
IsRising-where p es rising = from_T _ (is_sorted-where_key key_order p es (to_T _ rising))

same_finds : (es fs : List Entry) → IsRising es → IsRising fs → ((q : List ℕ) → find key_order q es ≡ find key_order q fs) → es ≡ fs
same_finds es fs first second is = same_entries key_order key_order_total same_key es fs (to_T _ first) (to_T _ second) is

find_where : (p : List ℕ → Bool) (q : List ℕ) (es : List Entry) → find key_order q (where_key key_order p es) ≡ cond (p q) (find key_order q es) None
find_where p q es = find-where_key key_order p q (λ x tie. ap p (sym (same_key q x tie))) es

is_eq_false : (o : Ordering) → o ≢ Equal → is_eq o ≡ false
is_eq_false Less h = refl
is_eq_false Equal h = absurd (h refl)
is_eq_false Greater h = refl

find_none : (q : List ℕ) (es : List Entry) → AllByRecursion (λ (e : Entry). key_order q e.0 ≢ Equal) es → find key_order q es ≡ None
find_none q [] all = refl
find_none q (e ∷ es) all = ap (λ (b : Bool). cond b (Some e.1) (find key_order q es)) (is_eq_false _ all.0) ∙ find_none q es all.1

find_first_only : (q : List ℕ) (es fs : List Entry) → find key_order q fs ≡ None → find key_order q (es ++ fs) ≡ find key_order q es
find_first_only q [] fs none = none
find_first_only q (e ∷ es) fs none = ap (cond (eq_by_cmp key_order q e.0) (Some e.1)) (find_first_only q es fs none)

find_second_only : (q : List ℕ) (es fs : List Entry) → find key_order q es ≡ None → find key_order q (es ++ fs) ≡ find key_order q fs
find_second_only q [] fs none = refl
find_second_only q (e ∷ es) fs none = by (λ h. find_second_only q es fs h) (eq_by_cmp key_order q e.0) none
  where
    by : (find key_order q es ≡ None → find key_order q (es ++ fs) ≡ find key_order q fs) → (b : Bool) → cond b (Some e.1) (find key_order q es) ≡ None → cond b (Some e.1) (find key_order q (es ++ fs)) ≡ find key_order q fs
    by rest true h = absurd (cc)
    by rest false h = rest h

IsBelowAll-from : (k u : List ℕ) (fs : List Entry) → IsBelow k u → AllByRecursion (λ (f : Entry). IsNotAbove u f.0) fs → IsBelowAll k fs
IsBelowAll-from k u [] below all = tt
IsBelowAll-from k u (f ∷ fs) below all = (below_then_not_above k u f.0 below all.0, IsBelowAll-from k u fs below all.1)

AreBelow-from : (u : List ℕ) (es fs : List Entry) → AllByRecursion (λ (e : Entry). IsBelow e.0 u) es → AllByRecursion (λ (f : Entry). IsNotAbove u f.0) fs → AreBelow es fs
AreBelow-from u [] fs first second = tt
AreBelow-from u (e ∷ es) fs first second = (IsBelowAll-from e.0 u fs first.0 second, AreBelow-from u es fs first.1 second)

weaker : (P Q : Entry → Type 0) → ((e : Entry) → P e → Q e) → (es : List Entry) → AllByRecursion P es → AllByRecursion Q es
weaker P Q f [] all = tt
weaker P Q f (e ∷ es) all = (f e all.0, weaker P Q f es all.1)

all_where : (p : List ℕ → Bool) (Q : Entry → Type 0) → ((e : Entry) → p e.0 ≡ true → Q e) → (es : List Entry) → AllByRecursion Q (where_key key_order p es)
all_where p Q f es = weaker (λ (e : Entry). p e.0 ≡ true) Q f (where_key key_order p es) (recursion_from_All (λ (e : Entry). p e.0 ≡ true) (where_key key_order p es) (filter_passes (λ (e : Entry). p e.0) es))

kept_where : (p : List ℕ → Bool) (Q : Entry → Type 0) (es : List Entry) → All Q es → AllByRecursion Q (where_key key_order p es)
kept_where p Q es all = recursion_from_All Q (where_key key_order p es) (All-filter (λ (e : Entry). p e.0) Q es all)

cond_none : (b : Bool) → cond {A = Option (List ℕ)} b None None ≡ None
cond_none true = refl
cond_none false = refl

not_equal_below : (q k : List ℕ) → IsBelow q k → key_order q k ≢ Equal
not_equal_below q k below same = absurd (cc)

-- ---- what a leaf adds

-- the pairs below a leaf's upper bound are those below its lower bound, and its own
pub upto_leaf : (after : Option (List ℕ)) (content : Values) (bounds : Bounds) (leaf : List Entry) → IsRising leaf → IsInPlace 0 bounds leaf → IsWithin bounds.lower bounds.upper → ((q : List ℕ) → LiesWithin q bounds → find key_order q leaf ≡ map.get content q) → pairs_upto bounds.upper after content ≡ pairs_upto (Some bounds.lower) after content ++ entries_above after leaf
upto_leaf after content bounds leaf rising place within holds =
    same_finds (pairs_upto bounds.upper after content) (before ++ own) (IsRising-where (is_within bounds.upper) all all_rising) (IsRising-append before own (IsRising-where (is_within (Some bounds.lower)) all all_rising) (IsRising-where (is_above after) leaf rising) apart) at
  where
    all : List Entry
    all = entries_above after (map.entries content)

    all_rising : IsRising (entries_above after (map.entries content))
    all_rising = IsRising-where (is_above after) (map.entries content) (entries_rise content)

    before : List Entry
    before = pairs_upto (Some bounds.lower) after content

    own : List Entry
    own = entries_above after leaf

    apart : AreBelow (pairs_upto (Some bounds.lower) after content) (entries_above after leaf)
    apart = AreBelow-from bounds.lower (pairs_upto (Some bounds.lower) after content) (entries_above after leaf) (all_where (is_within (Some bounds.lower)) (λ (e : Entry). IsBelow e.0 bounds.lower) (λ e h. less_told _ h) (entries_above after (map.entries content))) (kept_where (is_above after) (λ (e : Entry). IsNotAbove bounds.lower e.0) leaf place.lower)

    none_below : (q : List ℕ) → IsBelow q bounds.lower → find key_order q leaf ≡ None
    none_below q below = find_none q leaf (weaker (λ (e : Entry). IsNotAbove bounds.lower e.0) (λ (e : Entry). key_order q e.0 ≢ Equal) (λ e le. not_equal_below q e.0 (below_then_not_above q bounds.lower e.0 below le)) leaf (recursion_from_All (λ (e : Entry). IsNotAbove bounds.lower e.0) leaf place.lower))

    none_beyond : (q : List ℕ) → is_within bounds.upper q ≡ false → find key_order q leaf ≡ None
    none_beyond q failed = find_none q leaf (weaker (λ (e : Entry). IsWithin e.0 bounds.upper) (λ (e : Entry). key_order q e.0 ≢ Equal) (λ e in' same. absurd (let passed = within_shown bounds.upper q (subst (λ (k : List ℕ). IsWithin k bounds.upper) (sym (same_key q e.0 same)) in') in cc)) leaf (recursion_from_All (λ (e : Entry). IsWithin e.0 bounds.upper) leaf place.upper))

    own_at : (q : List ℕ) → find key_order q (entries_above after leaf) ≡ cond (is_above after q) (find key_order q leaf) None
    own_at q = find_where (is_above after) q leaf

    upto_at : (u : Option (List ℕ)) (q : List ℕ) → find key_order q (pairs_upto u after content) ≡ cond (is_within u q) (find key_order q (entries_above after (map.entries content))) None
    upto_at u q = find_where (is_within u) q (entries_above after (map.entries content))

    pick : (b : Bool) (x y : Option (List ℕ)) → b ≡ true → cond b x y ≡ x
    pick b x y e = ap (λ (c : Bool). cond c x y) e

    skip : (b : Bool) (x y : Option (List ℕ)) → b ≡ false → cond b x y ≡ y
    skip b x y e = ap (λ (c : Bool). cond c x y) e

    at : (q : List ℕ) → find key_order q (pairs_upto bounds.upper after content) ≡ find key_order q (pairs_upto (Some bounds.lower) after content ++ entries_above after leaf)
    at q = elim (not_above_or_below bounds.lower q) [
      | inr below ↦
          let own_none : find key_order q (entries_above after leaf) ≡ None = own_at q ∙ ap (λ (x : Option (List ℕ)). cond (is_above after q) x None) (none_below q below) ∙ cond_none (is_above after q) in
          let passed = within_shown bounds.upper q (IsWithin-below q bounds.lower bounds.upper below within) in
          upto_at bounds.upper q ∙ pick _ _ _ passed ∙ sym (pick _ _ _ (less_shown _ below)) ∙ sym (upto_at (Some bounds.lower) q) ∙ sym (find_first_only q (pairs_upto (Some bounds.lower) after content) (entries_above after leaf) own_none)
      | inl from ↦
          let before_none : find key_order q (pairs_upto (Some bounds.lower) after content) ≡ None = upto_at (Some bounds.lower) q ∙ skip _ _ _ (not_within bounds.lower q from) in
          upto_at bounds.upper q
          ∙ elim (true_or_false (is_within bounds.upper q)) [
            | inl passed ↦ pick _ _ _ passed ∙ find_where (is_above after) q (map.entries content) ∙ ap (λ (x : Option (List ℕ)). cond (is_above after q) x None) (sym (map.get-entries content q) ∙ sym (holds q (from, within_told bounds.upper q passed))) ∙ sym (own_at q)
            | inr failed ↦ skip _ _ _ failed ∙ sym (own_at q ∙ ap (λ (x : Option (List ℕ)). cond (is_above after q) x None) (none_beyond q failed) ∙ cond_none (is_above after q))
          ]
          ∙ sym (find_second_only q (pairs_upto (Some bounds.lower) after content) (entries_above after leaf) before_none)
    ]

nothing : (es : List Entry) → ((q : List ℕ) → find key_order q es ≡ None) → es ≡ []
nothing [] none = refl
nothing (e ∷ es) none = absurd (let h : cond (is_eq (key_order e.0 e.0)) (Some e.1) (find key_order e.0 es) ≡ None = none e.0 in let same = ap is_eq (key_order-itself e.0) in let g : Some e.1 ≡ None = sym (ap (λ (b : Bool). cond b (Some e.1) (find key_order e.0 es)) same) ∙ h in cc)

-- a content that has nothing has no pairs
pub no_pairs : (content : Values) → ((q : List ℕ) → map.get content q ≡ None) → map.entries content ≡ []
no_pairs content none = nothing (map.entries content) (λ q. sym (map.get-entries content q) ∙ none q)

-- nothing stands below a key that no key of the content is below
pub none_upto : (after : Option (List ℕ)) (content : Values) (low : List ℕ) → ((q v : List ℕ) → is_above after q ≡ true → map.get content q ≡ Some v → IsNotAbove low q) → pairs_upto (Some low) after content ≡ []
none_upto after content low all = nothing (pairs_upto (Some low) after content) at
  where
    by : (q : List ℕ) (a w : Bool) (x : Option (List ℕ)) → is_above after q ≡ a → is_within (Some low) q ≡ w → map.get content q ≡ x → cond w (cond a x None) None ≡ None
    by q a false x ea ew ex = refl
    by q false true x ea ew ex = refl
    by q true true None ea ew ex = refl
    by q true true (Some v) ea ew ex = absurd (not_above_not_below low q (all q v ea ex) (less_told _ ew))

    at : (q : List ℕ) → find key_order q (pairs_upto (Some low) after content) ≡ None
    at q =
        find_where (is_within (Some low)) q (entries_above after (map.entries content))
        ∙ ap (λ (x : Option (List ℕ)). cond (is_within (Some low) q) x None) (find_where (is_above after) q (map.entries content) ∙ ap (λ (x : Option (List ℕ)). cond (is_above after q) x None) (sym (map.get-entries content q)))
        ∙ by q (is_above after q) (is_within (Some low) q) (map.get content q) refl refl refl

filter_all : (p : List ℕ → Bool) (es : List Entry) → ((k : List ℕ) → p k ≡ true) → where_key key_order p es ≡ es
filter_all p [] passed = refl
filter_all p (e ∷ es) passed = ap (λ (b : Bool). cond b (e ∷ where_key key_order p es) (where_key key_order p es)) (passed e.0) ∙ ap (λ (fs : List Entry). e ∷ fs) (filter_all p es passed)

pub above_is : (after : Option (List ℕ)) (content : Values) → entries_above after (map.entries content) ≡ pairs_above after content
above_is None content = filter_all (is_above None) (map.entries content) (λ k. refl)
above_is (Some bound) content = refl

-- with no bound above, these are all
pub upto_all : (after : Option (List ℕ)) (content : Values) → pairs_upto None after content ≡ pairs_above after content
upto_all after content = filter_all (is_within None) (entries_above after (map.entries content)) (λ k. refl) ∙ above_is after content

-- rising entries that one test passes up to a place
cut_at : (u : List ℕ) (es : List Entry) → IsRising es → (rest : List Entry) × (es ≡ where_key key_order (is_within (Some u)) es ++ rest)
cut_at u es rising = (where_key key_order beyond es, same_finds es (where_key key_order (is_within (Some u)) es ++ where_key key_order beyond es) rising (IsRising-append (where_key key_order (is_within (Some u)) es) (where_key key_order beyond es) (IsRising-where (is_within (Some u)) es rising) (IsRising-where beyond es rising) apart) at)
  where
    beyond : List ℕ → Bool
    beyond k = not (is_within (Some u) k)

    not_true : (b : Bool) → not b ≡ true → b ≡ false
    not_true true e = absurd (cc)
    not_true false e = refl

    beyond_told : (k : List ℕ) → not (is_within (Some u) k) ≡ true → IsNotAbove u k
    beyond_told k h = elim (not_above_or_below u k) [ inl le ↦ le | inr below ↦ absurd (let passed = less_shown _ below in let failed = not_true _ h in cc) ]

    apart : AreBelow (where_key key_order (is_within (Some u)) es) (where_key key_order (λ k. not (is_within (Some u) k)) es)
    apart = AreBelow-from u (where_key key_order (is_within (Some u)) es) (where_key key_order (λ k. not (is_within (Some u) k)) es) (all_where (is_within (Some u)) (λ (e : Entry). IsBelow e.0 u) (λ e h. less_told _ h) es) (all_where (λ k. not (is_within (Some u) k)) (λ (e : Entry). IsNotAbove u e.0) (λ e h. beyond_told e.0 h) es)

    by : (q : List ℕ) (b : Bool) → is_within (Some u) q ≡ b → find key_order q es ≡ find key_order q (where_key key_order (is_within (Some u)) es ++ where_key key_order (λ k. not (is_within (Some u) k)) es)
    by q true e = sym (find_first_only q (where_key key_order (is_within (Some u)) es) (where_key key_order (λ k. not (is_within (Some u) k)) es) (find_where (λ k. not (is_within (Some u) k)) q es ∙ ap (λ (b : Bool). cond (not b) (find key_order q es) None) e) ∙ find_where (is_within (Some u)) q es ∙ ap (λ (b : Bool). cond b (find key_order q es) None) e)
    by q false e = sym (find_second_only q (where_key key_order (is_within (Some u)) es) (where_key key_order (λ k. not (is_within (Some u) k)) es) (find_where (is_within (Some u)) q es ∙ ap (λ (b : Bool). cond b (find key_order q es) None) e) ∙ find_where (λ k. not (is_within (Some u) k)) q es ∙ ap (λ (b : Bool). cond (not b) (find key_order q es) None) e)

    at : (q : List ℕ) → find key_order q es ≡ find key_order q (where_key key_order (is_within (Some u)) es ++ where_key key_order (λ k. not (is_within (Some u) k)) es)
    at q = by q (is_within (Some u) q) refl

take_front : (n : ℕ) (es fs : List Entry) → n ≤ length (take n es) → take n es ≡ take n (es ++ fs)
take_front n es fs long = let enough : n ≤ length es = omega (arith, length-take n es) in sym (take-append-le n es fs enough)

-- where as many are found as are wanted, they are the first of all
pub enough_upto : (limit : ℕ) (upper after : Option (List ℕ)) (content : Values) (found : List Entry) → found ≡ take limit (pairs_upto upper after content) → limit ≤ length found → found ≡ take limit (pairs_above after content)
enough_upto limit None after content found is long = is ∙ ap (take limit) (upto_all after content)
enough_upto limit (Some u) after content found is long =
    let all = entries_above after (map.entries content) in
    let cut = cut_at u all (IsRising-where (is_above after) (map.entries content) (entries_rise content)) in
    is ∙ take_front limit (pairs_upto (Some u) after content) cut.0 (subst (λ (fs : List Entry). limit ≤ length fs) is long) ∙ ap (take limit) (sym cut.1) ∙ ap (take limit) (above_is after content)

pub take_all : (n : ℕ) (es : List Entry) → length es ≤ n → take n es ≡ es
take_all zero [] h = refl
take_all zero (e ∷ es) h = absurd (omega arith)
take_all (suc n) [] h = refl
take_all (suc n) (e ∷ es) h = ap (λ (fs : List Entry). e ∷ fs) (take_all n es (omega arith))

-- where fewer are found, nothing was left out
pub all_taken : (limit : ℕ) (es found : List Entry) → found ≡ take limit es → length found < limit → found ≡ es
all_taken limit es found is few = is ∙ take_all limit es (omega (arith, ap length is, length-take limit es))

-- ---- taking the entries of a leaf one after the other

module _ (limit : ℕ) (start es found : List Entry) (p : List ℕ → Bool) (i : ℕ) (so_far : found ≡ take limit (start ++ where_key key_order p (take i es))) where
  pub take_enough : limit ≤ length found → found ≡ take limit (start ++ where_key key_order p es)
  take_enough long =
      let whole : start ++ where_key key_order p es ≡ (start ++ where_key key_order p (take i es)) ++ where_key key_order p (drop i es) =
      ap (λ (fs : List Entry). start ++ where_key key_order p fs) (sym (take-append-drop i es)) ∙ ap (λ (fs : List Entry). start ++ fs) (filter-append (λ (e : Entry). p e.0) (take i es) (drop i es)) ∙ sym (append_assoc start (where_key key_order p (take i es)) (where_key key_order p (drop i es))) in
      so_far ∙ take_front limit (start ++ where_key key_order p (take i es)) (where_key key_order p (drop i es)) (subst (λ (fs : List Entry). limit ≤ length fs) so_far long) ∙ ap (take limit) (sym whole)

  pub take_skip : (e : Entry) → i < length es → e ≡ get_or es i e → p e.0 ≡ false → found ≡ take limit (start ++ where_key key_order p (take (i + 1) es))
  take_skip e within is failed =
      let more = filter_more (λ (e : Entry). p e.0) es i e within ∙ ap (λ (x : Entry). where_key key_order p (take i es) ++ cond (p x.0) (x ∷ []) []) (sym is) ∙ ap (λ (b : Bool). where_key key_order p (take i es) ++ cond b (e ∷ []) []) failed ∙ append-nil (where_key key_order p (take i es)) in
      so_far ∙ ap (λ (fs : List Entry). take limit (start ++ fs)) (sym more)

  pub take_more : (e : Entry) → i < length es → e ≡ get_or es i e → p e.0 ≡ true → length found < limit → found ++ e ∷ [] ≡ take limit (start ++ where_key key_order p (take (i + 1) es))
  take_more e within is passed few =
      let more = filter_more (λ (e : Entry). p e.0) es i e within ∙ ap (λ (x : Entry). where_key key_order p (take i es) ++ cond (p x.0) (x ∷ []) []) (sym is) ∙ ap (λ (b : Bool). where_key key_order p (take i es) ++ cond b (e ∷ []) []) passed in
      let all = all_taken limit (start ++ where_key key_order p (take i es)) found so_far few in
      let joined : found ++ e ∷ [] ≡ start ++ where_key key_order p (take (i + 1) es) = ap (λ (fs : List Entry). fs ++ e ∷ []) all ∙ append_assoc start (where_key key_order p (take i es)) (e ∷ []) ∙ ap (λ (fs : List Entry). start ++ fs) (sym more) in
      sym (take_all limit (found ++ e ∷ []) (omega (arith, length-append found (e ∷ [])))) ∙ ap (take limit) joined
