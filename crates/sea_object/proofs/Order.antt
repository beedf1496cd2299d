-- A sorted map of the library and the finite map of its entries: the same entries, the same parts.
use Rattle.std.proofs.Common.{◌≡◌, ℕ, Bool, true, false, cond, List, [], ◌∷◌, ◌++◌, length, Ordering, Option, Some, None, map, take, refl, sym, ap, subst, ◌∙◌}
use Rattle.std.specs.Prelude.{T, ◌&&◌, not, filter}
use Rattle.std.specs.List.{AllByRecursion}
use Rattle.std.specs.List.Sorted.{IsStrictlySortedBy}
use Rattle.std.specs.Map.{keys_of}
use Rattle.std.specs.Ordering.{nat_cmp, is_lt, is_le, is_eq, eq_by_cmp, ordering_reverse}
use Rattle.std.specs.declared.cmp.Ordering.TheVariants.{Less, Equal, Greater}
use Rattle.std.specs.Cmp.Lexicographic.{slice_cmp, nat_list_cmp_total}
use Rattle.std.specs.FinMap.{entries, entries_sorted, from_entries, get-entries, get-from_entries, len, len-entries}
use Rattle.std.specs.FinMap.Entries.{find, below_all, is_sorted, same_entries}
use Rattle.std.proofs.lemmas.Bool.{false≢true}
use Rattle.std.proofs.lemmas.Map.Lookups.{exact_bytes}

abbrev by_bytes : List ℕ → List ℕ → Ordering
by_bytes = slice_cmp nat_cmp

pub both : (a b : Bool) → T a → T b → T (a && b)
both true b p q = q
both false b p q = p

pub below : {X : Type 0} (key : List ℕ) (es : List (List ℕ × X)) → AllByRecursion (λ other. slice_cmp nat_cmp key other ≡ Less) (keys_of es) → T (below_all (slice_cmp nat_cmp) key es)
below key [] all = tt
below key (e ∷ es) all = both (is_lt (by_bytes key e.0)) (below_all by_bytes key es) (subst (λ r. T (is_lt r)) (sym all.0) tt) (below key es all.1)

pub sorted : {X : Type 0} (es : List (List ℕ × X)) → IsStrictlySortedBy (slice_cmp nat_cmp) (keys_of es) → T (is_sorted (slice_cmp nat_cmp) es)
unfolding IsStrictlySortedBy
sorted [] rises = tt
sorted (e ∷ es) rises = both (below_all by_bytes e.0 es) (is_sorted by_bytes es) (below e.0 es rises.0) (sorted es rises.1)

-- entries in order are those of their map
pub entries_from : {X : Type 0} (es : List (List ℕ × X)) → IsStrictlySortedBy (slice_cmp nat_cmp) (keys_of es) → entries (from_entries {R = slice_cmp nat_cmp} es) ≡ es
entries_from es rises =
    same_entries by_bytes nat_list_cmp_total exact_bytes (entries (from_entries es)) es (entries_sorted (from_entries es)) (sorted es rises) (λ q.
    sym (get-entries (from_entries es) q) ∙ get-from_entries nat_list_cmp_total es q)

pub length_from : {X : Type 0} (es : List (List ℕ × X)) → IsStrictlySortedBy (slice_cmp nat_cmp) (keys_of es) → length es ≡ len (from_entries {R = slice_cmp nat_cmp} es)
length_from es rises = sym (len-entries (from_entries es) ∙ ap length (entries_from es rises))

-- tests that answer alike leave the same of a list
pub filter_same : {X : Type 0} (p r : X → Bool) → ((x : X) → p x ≡ r x) → (xs : List X) → filter p xs ≡ filter r xs
filter_same p r same xs = λ i. filter (λ x. same x i) xs

pub filter_none : {X : Type 0} (p : X → Bool) → ((x : X) → p x ≡ false) → (xs : List X) → filter p xs ≡ []
filter_none p none [] = refl
filter_none p none (x ∷ xs) = ap (λ b. cond b (x ∷ filter p xs) (filter p xs)) (none x) ∙ filter_none p none xs

kept : {X Y : Type 0} (f : X → Y) (b : Bool) (x : X) (xs : List X) → map f (cond b (x ∷ xs) xs) ≡ cond b (f x ∷ map f xs) (map f xs)
kept f true x xs = refl
kept f false x xs = refl

-- a test of keys picks the same before and after the values are left out
pub keys-filter : {X : Type 0} (p : List ℕ → Bool) (es : List (List ℕ × X)) → map (λ e. e.0) (filter (λ e. p e.0) es) ≡ filter p (map (λ e. e.0) es)
keys-filter p [] = refl
keys-filter p (e ∷ es) =
    kept (λ x. x.0) (p e.0) e (filter (λ x. p x.0) es)
    ∙ ap (λ rest. cond (p e.0) (e.0 ∷ rest) rest) (keys-filter p es)

pub and_true : (b : Bool) → (b && true) ≡ b
and_true true = refl
and_true false = refl

-- no key stands from one on and before another that is not above it
pub none_between : (from to : List ℕ) → (slice_cmp nat_cmp from to ≡ Less → ⊥) → (key : List ℕ) → (is_le (slice_cmp nat_cmp from key) && not (is_le (slice_cmp nat_cmp to key))) ≡ false
none_between from to apart key = go (by_bytes from key) (by_bytes to key) refl refl
  where
    turned : by_bytes to key ≡ Greater → by_bytes key to ≡ Less
    turned q = nat_list_cmp_total.antisymm key to ∙ ap ordering_reverse q

    go : (a b : Ordering) → by_bytes from key ≡ a → by_bytes to key ≡ b → (is_le a && not (is_le b)) ≡ false
    go Greater b p q = refl
    go Less Less p q = refl
    go Less Equal p q = refl
    go Less Greater p q = absurd (apart (nat_list_cmp_total.trans from key to p (turned q)))
    go Equal Less p q = refl
    go Equal Equal p q = refl
    go Equal Greater p q = absurd (apart (nat_list_cmp_total.congr from key to p ∙ turned q))

-- a key that is below all has no entry
pub absent : {X : Type 0} (key : List ℕ) (es : List (List ℕ × X)) → AllByRecursion (λ other. slice_cmp nat_cmp key other ≡ Less) (keys_of es) → find (slice_cmp nat_cmp) key es ≡ None
absent key [] all = refl
absent key (e ∷ es) all = ap (λ r. cond (is_eq r) (Some e.1) (find by_bytes key es)) all.0 ∙ absent key es all.1

pub is_less : (r : Ordering) → is_lt r ≡ true → r ≡ Less
is_less Less h = refl
is_less Equal h = absurd (false≢true h)
is_less Greater h = absurd (false≢true h)
