-- Entries put in order, one after the other, make the map of them.
use Rattle.std.proofs.Common.{◌≡◌, ℕ, Bool, true, false, cond, List, [], ◌∷◌, Ordering, Option, Some, None, refl, sym, ap, ◌∙◌}
use Rattle.std.specs.List.Sorted.{IsStrictlySortedBy}
use Rattle.std.specs.Map.{keys_of}
use Rattle.std.specs.Ordering.{nat_cmp, eq_by_cmp}
use Rattle.std.specs.Cmp.Lexicographic.{slice_cmp, nat_list_cmp_total}
use Rattle.std.specs.FinMap.{FinMap, empty, get, insert, from_entries, get-empty, get-insert, get-from_entries, same_map}
use Rattle.std.specs.FinMap.Entries.{find}
use Rattle.std.proofs.lemmas.Map.Lookups.{exact_bytes}
use Rattle.std.proofs.lemmas.Map.Views.{tells_apart}
use Rattle.sea_object.specs.Objects.{with_pairs}
use Rattle.sea_object.proofs.Order.{absent}

abbrev by_bytes : List ℕ → List ℕ → Ordering
by_bytes = slice_cmp nat_cmp

abbrev first_of : {A : Type 0} → Option A → Option A → Option A
first_of None later = later
first_of (Some x) later = Some x

-- the entry is the only one of its key
one_more : {X : Type 0} (b : Bool) (v : X) (rest before : Option X) → (b ≡ true → rest ≡ None) → first_of rest (cond b (Some v) before) ≡ first_of (cond b (Some v) rest) before
one_more true v rest before alone = ap (λ r. first_of r (Some v)) (alone refl)
one_more false v rest before alone = refl

pub get-with_pairs : {X : Type 0} (es : List (List ℕ × X)) (m : FinMap (slice_cmp nat_cmp) X) (q : List ℕ) → IsStrictlySortedBy (slice_cmp nat_cmp) (keys_of es) → get (with_pairs es m) q ≡ first_of (find (slice_cmp nat_cmp) q es) (get m q)
unfolding IsStrictlySortedBy
get-with_pairs [] m q rises = refl
get-with_pairs (e ∷ es) m q rises =
    get-with_pairs es (insert m e.0 e.1) q rises.1
    ∙ ap (first_of (find by_bytes q es)) (get-insert nat_list_cmp_total m e.0 e.1 q)
    ∙ one_more (eq_by_cmp by_bytes q e.0) e.1 (find by_bytes q es) (get m q) (λ same.
    ap (λ k. find by_bytes k es) (tells_apart exact_bytes q e.0 same) ∙ absent e.0 es rises.0)

found_first : {A : Type 0} (o : Option A) → first_of o None ≡ o
found_first None = refl
found_first (Some x) = refl

pub with_pairs_all : {X : Type 0} (es : List (List ℕ × X)) → IsStrictlySortedBy (slice_cmp nat_cmp) (keys_of es) → with_pairs es empty ≡ from_entries {R = slice_cmp nat_cmp} es
with_pairs_all es rises = same_map nat_list_cmp_total exact_bytes _ _ (λ q.
    get-with_pairs es empty q rises
    ∙ ap (first_of (find by_bytes q es)) (get-empty by_bytes q)
    ∙ found_first (find by_bytes q es)
    ∙ sym (get-from_entries nat_list_cmp_total es q))
