-- Parts of a sorted map, taken in order until there are enough.
use Rattle.std.proofs.Common.{◌≡◌, ℕ, ◌≤◌, ◌⊎◌, Bool, true, false, cond, List, [], ◌∷◌, ◌++◌, length, Ordering, Option, Some, None, map, take, refl, sym, ap, subst, ◌∙◌, arith, inl, inr}
use Rattle.std.specs.Prelude.{◌&&◌, not, filter}
use Rattle.std.specs.List.Sorted.{IsStrictlySortedBy}
use Rattle.std.specs.Map.{keys_of}
use Rattle.std.specs.Ordering.{nat_cmp, is_lt}
use Rattle.std.specs.Cmp.Lexicographic.{slice_cmp}
use Rattle.std.specs.BTreeMap.Range.{entries_between, range_contains}
use Rattle.std.specs.declared.ops.Bound.{Bound}
use Rattle.std.specs.declared.ops.Bound.TheVariants.{Included, Excluded, Unbounded}
use Rattle.std.specs.FinMap as finite
use Rattle.std.specs.FinMap.{entries, from_entries, len, len-entries}
use Rattle.std.proofs.lemmas.List.{append-nil, take_all, take_at}
use Rattle.sea_object.specs.Held.{Held, SlotMap, ValueSlots, shown, shown_objects, values_in}
use Rattle.sea_object.specs.Objects.{Values, bound_behind, first_names, first_pairs, is_after, is_from, keys_between}
use Rattle.sea_object.proofs.Order.{and_true, entries_from, filter_same, keys-filter}
use Rattle.sea_object.proofs.Shown.{live, live-filter, entries_shown, names_shown, pairs-filter, shown_pairs}

abbrev by_bytes : List ℕ → List ℕ → Ordering
by_bytes = slice_cmp nat_cmp

-- enough were taken, or there are no more
abbrev pub Enough : {A : Type 0} → ℕ → List A → List A → Type 0
Enough n xs ys = (n ≤ length xs) ⊎ (ys ≡ [])

front : {A : Type 0} (n : ℕ) (xs ys : List A) → length xs ≤ n → Enough n xs ys → take n (xs ++ ys) ≡ xs
front n xs ys few (inl enough) = take_at xs ys n (omega arith)
front n xs ys few (inr none) = ap (λ (r : List _). take n (xs ++ r)) none ∙ ap (take n) (append-nil xs) ∙ take_all n xs few

same_after : (after : Option (List ℕ)) (key : List ℕ) → range_contains by_bytes (bound_behind after) Unbounded key ≡ is_after after key
same_after None key = refl
same_after (Some other) key = and_true (is_lt (by_bytes other key))

-- the part of a map that begins behind a key
behind : {X : Type 0} (es : List (List ℕ × X)) (start : Bound (List ℕ)) (after : Option (List ℕ)) → start ≡ bound_behind after → entries_between by_bytes start Unbounded es ≡ filter (λ e. is_after after e.0) es
behind es start after is =
    ap (λ (s : Bound (List ℕ)). entries_between by_bytes s Unbounded es) is
    ∙ filter_same (λ e. range_contains by_bytes (bound_behind after) Unbounded e.0) (λ e. is_after after e.0) (λ e. same_after after e.0) es

-- values are shown as they are
abbrev itself : List ℕ → List ℕ
itself value = value

-- the pairs of slots that have a value
abbrev pub live_values : List (List ℕ × Option (List ℕ)) → List (List ℕ × List ℕ)
live_values es = shown_pairs (λ value. value) es

pub pairs_listed : (es : List (List ℕ × Option (List ℕ))) (slots : ValueSlots) (start : Bound (List ℕ)) (after : Option (List ℕ)) (limit : ℕ) (pairs : List (List ℕ × List ℕ)) (rest : List (List ℕ × Option (List ℕ))) → IsStrictlySortedBy (slice_cmp nat_cmp) (keys_of es) → from_entries es ≡ slots → start ≡ bound_behind after → pairs ++ live_values rest ≡ live_values (entries_between (slice_cmp nat_cmp) start Unbounded es) → length pairs ≤ limit → Enough limit pairs (live_values rest) → pairs ≡ first_pairs limit after (values_in slots)
pairs_listed es slots start after limit pairs rest rises is begins all few enough =
    let same : entries slots ≡ es = ap entries (sym is) ∙ entries_from es rises in
    sym (ap (λ (xs : List (List ℕ × List ℕ)). take limit (filter (λ e. is_after after e.0) xs)) (entries_shown itself slots ∙ ap live_values same)
    ∙ ap (take limit) (sym (all ∙ ap live_values (behind es start after begins) ∙ pairs-filter itself (is_after after) es))
    ∙ front limit pairs (live_values rest) few enough)

pub keys_listed : (es : List (List ℕ × Option (List ℕ))) (slots : ValueSlots) (from to : List ℕ) (bound : ℕ) (keys : List (List ℕ)) (rest : List (List ℕ × Option (List ℕ))) → IsStrictlySortedBy (slice_cmp nat_cmp) (keys_of es) → from_entries es ≡ slots → keys ++ live rest ≡ live (entries_between (slice_cmp nat_cmp) (Included from) (Excluded to) es) → length keys ≤ bound → Enough bound keys (live rest) → keys ≡ keys_between from to bound (values_in slots)
keys_listed es slots from to bound keys rest rises is all few enough =
    let same : entries slots ≡ es = ap entries (sym is) ∙ entries_from es rises in
    sym (ap (λ (xs : List (List ℕ)). take bound (filter (λ key. is_from from key && not (is_from to key)) xs)) (names_shown itself slots ∙ ap live same)
    ∙ ap (take bound) (sym (all ∙ live-filter (λ key. is_from from key && not (is_from to key)) es))
    ∙ front bound keys (live rest) few enough)

pub names_listed : (es : List (List ℕ × Option Held)) (slots : SlotMap) (start : Bound (List ℕ)) (after : Option (List ℕ)) (limit : ℕ) (names : List (List ℕ)) (rest : List (List ℕ × Option Held)) → IsStrictlySortedBy (slice_cmp nat_cmp) (keys_of es) → from_entries es ≡ slots → start ≡ bound_behind after → names ++ live rest ≡ live (entries_between (slice_cmp nat_cmp) start Unbounded es) → length names ≤ limit → Enough limit names (live rest) → names ≡ first_names limit after (shown_objects slots)
names_listed es slots start after limit names rest rises is begins all few enough =
    let same : entries slots ≡ es = ap entries (sym is) ∙ entries_from es rises in
    sym (ap (λ (xs : List (List ℕ)). take limit (filter (is_after after) xs)) (names_shown shown slots ∙ ap live same)
    ∙ ap (take limit) (sym (all ∙ ap live (behind es start after begins) ∙ live-filter (is_after after) es))
    ∙ front limit names (live rest) few enough)

filter_all : {X : Type 0} (xs : List X) → filter (λ x. true) xs ≡ xs
filter_all [] = refl
filter_all (x ∷ xs) = ap (λ rest. x ∷ rest) (filter_all xs)

pub all_pairs : (n : ℕ) (values : Values) → n ≡ len values → first_pairs n None values ≡ entries values
all_pairs n values is =
    ap (take n) (filter_all (entries values)) ∙ take_all n (entries values) (omega (arith, len-entries values))
