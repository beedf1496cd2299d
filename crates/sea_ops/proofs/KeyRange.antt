-- The keys of a range, found as the first of them and a range of pairs behind it.
use Rattle.std.proofs.Common.{◌≡◌, ℕ, zero, suc, ◌-◌, ◌≤◌, min, Bool, true, false, cond, ◌&&◌, not, T, List, [], ◌∷◌, ◌++◌, length, filter, take, map as each, Option, Some, None, is_some, refl, sym, ap, subst, ◌∙◌, arith}
use Rattle.std.proofs.lemmas.List.{length-take, take_all}
use Rattle.std.proofs.lemmas.List.Elements.{filter_agree}
use Rattle.std.specs.Ordering.{is_eq, is_le, is_lt, ordering_reverse}
use Rattle.std.specs.declared.cmp.Ordering.{Ordering}
use Rattle.std.specs.declared.cmp.Ordering.TheVariants.{Less, Equal, Greater}
use Rattle.std.specs.FinMap as map
use Rattle.std.specs.FinMap.{entries_sorted, get-entries}
use Rattle.std.specs.FinMap.Entries.{find, below_all, is_sorted, where_key, is_sorted-where_key}
use Rattle.sea_node.specs.Entries.{Entry, Values, key_order, IsBelow, IsNotAbove}
use Rattle.sea_node.proofs.Keys.{same_key, key_order-back, IsBelow-trans, IsNotAbove-below, IsNotAbove-same, not_above_then_below}
use Rattle.sea_object.specs.Objects.{is_from, keys_between}
use Rattle.sea_tree.specs.Calls.{pairs_above}

split : (a b : Bool) → T (a && b) → T a × T b
split true b h = (tt, h)
split false b h = absurd h

less_is : (o : Ordering) → T (is_lt o) → o ≡ Less
less_is Less h = refl
less_is Equal h = absurd h
less_is Greater h = absurd h

abbrev names : List Entry → List (List ℕ)
names es = each (λ e. e.0) es

abbrev pub below : List ℕ → List (List ℕ) → List (List ℕ)
below to ks = filter (λ key. not (is_from to key)) ks

abbrev above : List ℕ → List Entry → List Entry
above from es = where_key key_order (λ key. is_lt (key_order from key)) es

abbrev within : List ℕ → List ℕ → List (List ℕ) → List (List ℕ)
within from to ks = filter (λ key. is_from from key && not (is_from to key)) ks

abbrev pub if_there : List ℕ → Bool → List (List ℕ)
if_there key there = cond there (key ∷ []) []

-- ---- behind a key

module _ (from to : List ℕ) where
  -- behind a key that isn't below it, it isn't found, and all keys are behind it
  all_behind : (x : List ℕ) (es : List Entry) → IsNotAbove from x → T (below_all key_order x es) → (find key_order from es ≡ None) × (within from to (names es) ≡ below to (names (above from es)))
  all_behind x [] le h = (refl, refl)
  all_behind x (e ∷ es) le h =
      let s = split _ _ h in
      let o : key_order from e.0 ≡ Less = not_above_then_below from x e.0 le (less_is _ s.0) in
      let rest = all_behind x es le s.1 in
      (ap (λ (r : Ordering). cond (is_eq r) (Some e.1) (find key_order from es)) o ∙ rest.0, step e es o rest.1)
    where
      step : (e : Entry) (es : List Entry) → key_order from e.0 ≡ Less → within from to (names es) ≡ below to (names (above from es)) → within from to (names (e ∷ es)) ≡ below to (names (above from (e ∷ es)))
      step e es o same =
          ap (λ (r : Ordering). cond (is_le r && not (is_from to e.0)) (e.0 ∷ within from to (names es)) (within from to (names es))) o
          ∙ ap (λ (ks : List (List ℕ)). cond (not (is_from to e.0)) (e.0 ∷ ks) ks) same
          ∙ sym (ap (λ (r : Ordering). below to (names (cond (is_lt r) (e ∷ above from es) (above from es)))) o)

  abbrev wanted : Entry → List Entry → Ordering → Type 0
  wanted e es o =
      cond (is_le o && not (is_from to e.0)) (e.0 ∷ within from to (names es)) (within from to (names es))
      ≡ if_there from (is_some (cond (is_eq o) (Some e.1) (find key_order from es))) ++ below to (names (cond (is_lt o) (e ∷ above from es) (above from es)))

  module _ (order : is_from to from ≡ false) where
    first_then : (es : List Entry) → T (is_sorted key_order es) → within from to (names es) ≡ if_there from (is_some (find key_order from es)) ++ below to (names (above from es))
    first_then [] h = refl
    first_then (e ∷ es) h = by (key_order from e.0) refl (λ sorted. first_then es sorted)
      where
        s : T (below_all key_order e.0 es) × T (is_sorted key_order es)
        s = split _ _ h

        at_less : key_order from e.0 ≡ Less → wanted e es Less
        at_less o =
            let rest = all_behind e.0 es (IsNotAbove-below from e.0 o) s.0 in
            ap (λ (ks : List (List ℕ)). cond (not (is_from to e.0)) (e.0 ∷ ks) ks) rest.1
            ∙ sym (ap (λ (f : Option (List ℕ)). if_there from (is_some f) ++ below to (names (e ∷ above from es))) rest.0)

        at_equal : key_order from e.0 ≡ Equal → wanted e es Equal
        at_equal o =
            let same = same_key from e.0 o in
            let rest = all_behind e.0 es (IsNotAbove-same from e.0 same) s.0 in
            let lower : is_from to e.0 ≡ false = ap (is_from to) (sym same) ∙ order in
            ap (λ (b : Bool). cond (not b) (e.0 ∷ within from to (names es)) (within from to (names es))) lower
            ∙ ap (λ (ks : List (List ℕ)). e.0 ∷ ks) rest.1
            ∙ ap (λ (key : List ℕ). key ∷ below to (names (above from es))) (sym same)

        by : (o : Ordering) → key_order from e.0 ≡ o → (T (is_sorted key_order es) → within from to (names es) ≡ if_there from (is_some (find key_order from es)) ++ below to (names (above from es))) → wanted e es (key_order from e.0)
        by Less o rest = subst (wanted e es) (sym o) (at_less o)
        by Equal o rest = subst (wanted e es) (sym o) (at_equal o)
        by Greater o rest = subst (wanted e es) (sym o) (rest s.1)

-- ---- below a key

none_below : (to x : List ℕ) (es : List Entry) → is_from to x ≡ true → T (below_all key_order x es) → below to (names es) ≡ []
none_below to x [] from h = refl
none_below to x (e ∷ es) from h =
    let s = split _ _ h in
    ap (λ (b : Bool). cond (not b) (e.0 ∷ below to (names es)) (below to (names es))) (later (key_order to x) refl from (less_is _ s.0)) ∙ none_below to x es from s.1
  where
    least : key_order to e.0 ≡ Less → is_from to e.0 ≡ true
    least o = ap is_le o

    later : (o : Ordering) → key_order to x ≡ o → is_from to x ≡ true → IsBelow x e.0 → is_from to e.0 ≡ true
    later Less is le more = least (IsBelow-trans to x e.0 is more)
    later Equal is le more = least (subst (λ (key : List ℕ). IsBelow key e.0) (sym (same_key to x is)) more)
    later Greater is le more = absurd (let no = sym (ap is_le is) ∙ le in cc)

abbrev is_wanted : List ℕ → ℕ → Entry → List Entry → Bool → Type 0
is_wanted to n e es b = cond (not b) (e.0 ∷ below to (names (take n es))) (below to (names (take n es))) ≡ take (suc n) (cond (not b) (e.0 ∷ below to (names es)) (below to (names es)))

-- the first keys of those below a key are the keys below it of the first
first_below : (to : List ℕ) (n : ℕ) (es : List Entry) → T (is_sorted key_order es) → below to (names (take n es)) ≡ take n (below to (names es))
first_below to zero es h = refl
first_below to (suc n) [] h = refl
first_below to (suc n) (e ∷ es) h = by (is_from to e.0) refl (first_below to n es (split _ _ h).1)
  where
    s : T (below_all key_order e.0 es) × T (is_sorted key_order es)
    s = split _ _ h

    by : (b : Bool) → is_from to e.0 ≡ b → below to (names (take n es)) ≡ take n (below to (names es)) → is_wanted to n e es (is_from to e.0)
    by false is rest = subst (is_wanted to n e es) (sym is) (ap (λ (ks : List (List ℕ)). e.0 ∷ ks) rest)
    by true is rest =
        let none = none_below to e.0 es is s.0 in
        subst (is_wanted to n e es) (sym is) (rest ∙ ap (take n) none ∙ take_all n [] (omega arith) ∙ sym (ap (take (suc n)) none))

-- ---- a range of keys

behind : (to key : List ℕ) → is_lt (key_order key to) ≡ not (is_from to key)
behind to key = ap is_lt (key_order-back key to) ∙ turned (key_order to key)
  where
    turned : (o : Ordering) → is_lt (ordering_reverse o) ≡ not (is_le o)
    turned Less = refl
    turned Equal = refl
    turned Greater = refl

first_of_range : (from to : List ℕ) (bound : ℕ) → 1 ≤ bound → (there : Bool) (es : List Entry) → T (is_sorted key_order es) → if_there from there ++ below to (names (take (bound - length (if_there from there)) es)) ≡ take bound (if_there from there ++ below to (names es))
first_of_range from to bound some false es h = ap (λ (m : ℕ). below to (names (take m es))) (omega arith) ∙ first_below to bound es h
first_of_range from to bound some true es h = by bound some
  where
    by : (n : ℕ) → 1 ≤ n → from ∷ below to (names (take (n - 1) es)) ≡ take n (from ∷ below to (names es))
    by zero none = absurd (omega (arith, none))
    by (suc n) more = ap (λ (ks : List (List ℕ)). from ∷ ks) (ap (λ (m : ℕ). below to (names (take m es))) (omega arith) ∙ first_below to n es h)

-- The first key, if it is there, and those below the other of the pairs behind it.
pub range_found : (from to : List ℕ) (bound : ℕ) → 1 ≤ bound → IsBelow from to → (content : Values) (first keys : List (List ℕ)) (pairs : List Entry) → first ≡ cond (is_some (map.get content from)) (from ∷ []) []
    → (rest : ℕ) → rest ≡ bound - length first → pairs ≡ take rest (pairs_above (Some from) content) → keys ≡ first ++ filter (λ key. is_lt (key_order key to)) (each (λ e. e.0) (take (min rest (length pairs)) pairs)) → keys ≡ keys_between from to bound content
range_found from to bound some less content first keys pairs is_first rest rest_is are all =
    let es = map.entries content in
    let sorted = entries_sorted content in
    let there = is_some (map.get content from) in
    let order : is_from to from ≡ false = ap is_le (key_order-back to from ∙ ap ordering_reverse less) in
    let short : length pairs ≤ min rest (length pairs) = omega (arith, ap length are, length-take rest (pairs_above (Some from) content)) in
    all
    ∙ ap (λ (ps : List Entry). first ++ filter (λ key. is_lt (key_order key to)) (names ps)) (take_all (min rest (length pairs)) pairs short)
    ∙ ap (λ (ks : List (List ℕ)). first ++ ks) (filter_agree (λ key. is_lt (key_order key to)) (λ key. not (is_from to key)) (behind to) (names pairs))
    ∙ ap (λ (ps : List Entry). first ++ below to (names ps)) (are ∙ ap (λ (n : ℕ). take n (pairs_above (Some from) content)) rest_is)
    ∙ ap (λ (ks : List (List ℕ)). ks ++ below to (names (take (bound - length ks) (above from es)))) is_first
    ∙ first_of_range from to bound some there (above from es) (is_sorted-where_key key_order (λ key. is_lt (key_order from key)) es sorted)
    ∙ ap (λ (f : Option (List ℕ)). take bound (if_there from (is_some f) ++ below to (names (above from es)))) (get-entries content from)
    ∙ ap (take bound) (sym (first_then from to order es sorted))
