-- A sorted map of the library against the finite map of its entries, and changes of a map taken back.
use Rattle.std.proofs.Common.{◌≡◌, ℕ, Bool, true, false, cond, IsSome, List, [], ◌∷◌, Ordering, Option, Some, None, refl, sym, ap, subst, ◌∙◌}
use Rattle.std.specs.Ordering.{nat_cmp, eq_by_cmp}
use Rattle.std.specs.Cmp.{eq_by_cmp_equiv}
use Rattle.std.specs.Cmp.Lexicographic.{slice_cmp, nat_list_cmp_total}
use Rattle.std.specs.Map.{lookup}
use Rattle.std.specs.BTreeMap.{is_at}
use Rattle.std.specs.FinMap.{FinMap, get, find, insert, remove, from_entries, get-from_entries, get-insert, get-remove, same_map}
use Rattle.std.proofs.lemmas.Map.Lookups.{exact_bytes}
use Rattle.std.proofs.lemmas.Map.Views.{tells_apart}

-- names and keys are ordered by their bytes
abbrev by_bytes : List ℕ → List ℕ → Ordering
by_bytes = slice_cmp nat_cmp

find_entry : {X : Type 0} (es : List (List ℕ × X)) (q : List ℕ) → find by_bytes q es ≡ lookup (is_at (by_bytes q)) es
find_entry [] q = refl
find_entry (e ∷ es) q = ap (cond (is_at (by_bytes q) e.0) (Some e.1)) (find_entry es q)

-- what the map of the entries has at a key is what a scan of them finds
pub get_entry : {X : Type 0} (es : List (List ℕ × X)) (q : List ℕ) → get (from_entries {R = slice_cmp nat_cmp} es) q ≡ lookup (is_at (slice_cmp nat_cmp q)) es
get_entry es q = get-from_entries nat_list_cmp_total es q ∙ find_entry es q

-- entries that differ at one key make maps that differ there
pub one_given : {X : Type 0} (es fs : List (List ℕ × X)) (k : List ℕ) (v : X) → ((q : List ℕ) → lookup (is_at (slice_cmp nat_cmp q)) fs ≡ cond (is_at (slice_cmp nat_cmp k) q) (Some v) (lookup (is_at (slice_cmp nat_cmp q)) es)) → from_entries {R = slice_cmp nat_cmp} fs ≡ insert (from_entries es) k v
one_given es fs k v h = same_map nat_list_cmp_total exact_bytes _ _ (λ q.
    get_entry fs q ∙ h q ∙ ap (λ b. cond b (Some v) (lookup (is_at (by_bytes q)) es)) ((eq_by_cmp_equiv nat_list_cmp_total).symm k q)
    ∙ sym (get-insert nat_list_cmp_total (from_entries es) k v q ∙ ap (cond (is_at (by_bytes q) k) (Some v)) (get_entry es q)))

-- and without one key
pub one_taken : {X : Type 0} (es fs : List (List ℕ × X)) (k : List ℕ) → ((q : List ℕ) → lookup (is_at (slice_cmp nat_cmp q)) fs ≡ cond (is_at (slice_cmp nat_cmp k) q) None (lookup (is_at (slice_cmp nat_cmp q)) es)) → from_entries {R = slice_cmp nat_cmp} fs ≡ remove (from_entries es) k
one_taken es fs k h = same_map nat_list_cmp_total exact_bytes _ _ (λ q.
    get_entry fs q ∙ h q ∙ ap (λ b. cond b None (lookup (is_at (by_bytes q)) es)) ((eq_by_cmp_equiv nat_list_cmp_total).symm k q)
    ∙ sym (get-remove nat_list_cmp_total (from_entries es) k q ∙ ap (cond (is_at (by_bytes q) k) None) (get_entry es q)))

cond_same : {A : Type 0} (b : Bool) (y z : A) → (b ≡ true → y ≡ z) → cond b y z ≡ z
cond_same true y z h = h refl
cond_same false y z h = refl

-- what is put back is there again
cond_back : {A : Type 0} (b : Bool) (x y z : A) → (b ≡ true → y ≡ z) → cond b y (cond b x z) ≡ z
cond_back true x y z h = h refl
cond_back false x y z h = refl

module _ {X : Type 0} (m : FinMap (slice_cmp nat_cmp) X) (k : List ℕ) where
  tied : (w : Option X) → get m k ≡ w → (q : List ℕ) → eq_by_cmp by_bytes q k ≡ true → w ≡ get m q
  tied w has q e = sym has ∙ ap (get m) (sym (tells_apart exact_bytes q k e))

  -- a value that was put where there was none is taken away again
  pub remove-insert : (v : X) → get m k ≡ None → remove (insert m k v) k ≡ m
  remove-insert v none = same_map nat_list_cmp_total exact_bytes _ _ (λ q.
      get-remove nat_list_cmp_total (insert m k v) k q ∙ ap (cond (eq_by_cmp by_bytes q k) None) (get-insert nat_list_cmp_total m k v q)
      ∙ cond_back (eq_by_cmp by_bytes q k) (Some v) None (get m q) (tied None none q))

  -- a value that was put in another's place is replaced by that one again
  pub insert-insert : (v old : X) → get m k ≡ Some old → insert (insert m k v) k old ≡ m
  insert-insert v old has = same_map nat_list_cmp_total exact_bytes _ _ (λ q.
      get-insert nat_list_cmp_total (insert m k v) k old q ∙ ap (cond (eq_by_cmp by_bytes q k) (Some old)) (get-insert nat_list_cmp_total m k v q)
      ∙ cond_back (eq_by_cmp by_bytes q k) (Some v) (Some old) (get m q) (tied (Some old) has q))

  -- what was put is there
  pub get-insert_same : (v : X) → get (insert m k v) k ≡ Some v
  get-insert_same v = get-insert nat_list_cmp_total m k v k ∙ ap (λ b. cond b (Some v) (get m k)) ((eq_by_cmp_equiv nat_list_cmp_total).refl k)

  -- what is there already changes nothing
  pub insert_same : (v : X) → get m k ≡ Some v → insert m k v ≡ m
  insert_same v has = same_map nat_list_cmp_total exact_bytes _ _ (λ q.
      get-insert nat_list_cmp_total m k v q ∙ cond_same (eq_by_cmp by_bytes q k) (Some v) (get m q) (tied (Some v) has q))

  -- what a value written through a loan leaves
  pub written_through : (es fs : List (List ℕ × X)) (v w : X) → from_entries es ≡ m → Some v ≡ lookup (is_at (slice_cmp nat_cmp k)) es → (IsSome (lookup (is_at (slice_cmp nat_cmp k)) es) → (q : List ℕ) → lookup (is_at (slice_cmp nat_cmp q)) fs ≡ cond (is_at (slice_cmp nat_cmp k) q) (Some w) (lookup (is_at (slice_cmp nat_cmp q)) es)) → (from_entries fs ≡ insert m k w) × (get m k ≡ Some v)
  written_through es fs v w is has updates =
      (one_given es fs k w (updates (subst IsSome has refl)) ∙ ap (λ n. insert n k w) is, ap (λ n. get n k) (sym is) ∙ get_entry es k ∙ sym has)
