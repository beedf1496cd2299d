-- What slots show of what stands in them.
use Rattle.std.proofs.Common.{◌≡◌, ℕ, Bool, true, false, cond, List, [], ◌∷◌, ◌++◌, ◌≤◌, ◌+◌, length, is_some, arith, Ordering, Option, Some, None, map, refl, sym, ap, subst, ◌∙◌}
use Rattle.std.specs.Prelude.{T, ◌&&◌, filter, option_map}
use Rattle.std.specs.List.{AllByRecursion}
use Rattle.std.specs.Option.{option_flatten}
use Rattle.std.specs.Ordering.{nat_cmp, is_lt, is_eq, eq_by_cmp}
use Rattle.std.specs.declared.cmp.Ordering.TheVariants.{Less, Equal, Greater}
use Rattle.std.specs.Cmp.Lexicographic.{slice_cmp, nat_list_cmp_total}
use Rattle.std.specs.FinMap.{FinMap, empty, get, insert, remove, entries, entries_sorted, get-empty, get-insert, get-remove, get-entries, len, len-entries, same_map}
use Rattle.std.specs.FinMap.Entries.{find, below_all, is_sorted, same_entries}
use Rattle.std.proofs.lemmas.Bool.{false≢true}
use Rattle.std.proofs.lemmas.List.{length-map}
use Rattle.std.proofs.lemmas.Map.Lookups.{exact_bytes}
use Rattle.std.proofs.lemmas.Map.Views.{tells_apart}
use Rattle.sea_object.specs.Objects.{with_object}
use Rattle.sea_object.specs.Held.{shown_slots}
use Rattle.sea_object.proofs.Order.{both}

abbrev by_bytes : List ℕ → List ℕ → Ordering
by_bytes = slice_cmp nat_cmp

-- slots under names, and what they show
abbrev Slots : Type 0 → Type 0
Slots X = FinMap (slice_cmp nat_cmp) (Option X)

abbrev shown_in : {X Y : Type 0} → (X → Y) → FinMap (slice_cmp nat_cmp) (Option X) → FinMap (slice_cmp nat_cmp) Y
shown_in show slots = shown_slots show (entries slots)

-- what is shown of a slot that was looked up
abbrev pub seen : {X Y : Type 0} → (X → Y) → Option (Option X) → Option Y
seen show slot = option_map show (option_flatten slot)

pub get-with_object : {Y : Type 0} (m : FinMap (slice_cmp nat_cmp) Y) (k : List ℕ) (o : Option Y) (q : List ℕ) → get (with_object m k o) q ≡ cond (eq_by_cmp (slice_cmp nat_cmp) q k) o (get m q)
get-with_object m k None q = get-remove nat_list_cmp_total m k q
get-with_object m k (Some v) q = get-insert nat_list_cmp_total m k v q

picked : {X Y : Type 0} (show : X → Y) (b : Bool) (slot : Option X) (rest : Option (Option X)) → cond b (option_map show slot) (seen show rest) ≡ seen show (cond b (Some slot) rest)
picked show true slot rest = refl
picked show false slot rest = refl

get-slots : {X Y : Type 0} (show : X → Y) (es : List (List ℕ × Option X)) (q : List ℕ) → get (shown_slots show es) q ≡ seen show (find by_bytes q es)
get-slots show [] q = get-empty by_bytes q
get-slots show (e ∷ es) q =
    get-with_object (shown_slots show es) e.0 (option_map show e.1) q
    ∙ ap (cond (eq_by_cmp by_bytes q e.0) (option_map show e.1)) (get-slots show es q)
    ∙ picked show (eq_by_cmp by_bytes q e.0) e.1 (find by_bytes q es)

-- a value is there where its slot has one
pub get-shown : {X Y : Type 0} (show : X → Y) (slots : FinMap (slice_cmp nat_cmp) (Option X)) (q : List ℕ) → get (shown_slots show (entries slots)) q ≡ seen show (get slots q)
get-shown show slots q = get-slots show (entries slots) q ∙ ap (seen show) (sym (get-entries slots q))

-- what is put into a slot is put under its name
pub shown-insert : {X Y : Type 0} (show : X → Y) (slots : FinMap (slice_cmp nat_cmp) (Option X)) (k : List ℕ) (slot : Option X) → shown_slots show (entries (insert slots k slot)) ≡ with_object (shown_slots show (entries slots)) k (option_map show slot)
shown-insert show slots k slot = same_map nat_list_cmp_total exact_bytes _ _ (λ q.
    get-shown show (insert slots k slot) q
    ∙ ap (seen show) (get-insert nat_list_cmp_total slots k slot q)
    ∙ sym (picked show (eq_by_cmp by_bytes q k) slot (get slots q))
    ∙ ap (cond (eq_by_cmp by_bytes q k) (option_map show slot)) (sym (get-shown show slots q))
    ∙ sym (get-with_object (shown_in show slots) k (option_map show slot) q))

emptied : {X Y : Type 0} (show : X → Y) (b : Bool) (slot : Option (Option X)) → (b ≡ true → option_flatten slot ≡ None) → seen show (cond b None slot) ≡ seen show slot
emptied show true slot none = sym (ap (option_map show) (none refl))
emptied show false slot none = refl

-- an empty slot may go
pub shown-remove : {X Y : Type 0} (show : X → Y) (slots : FinMap (slice_cmp nat_cmp) (Option X)) (k : List ℕ) → option_flatten (get slots k) ≡ None → shown_slots show (entries (remove slots k)) ≡ shown_slots show (entries slots)
shown-remove show slots k none = same_map nat_list_cmp_total exact_bytes _ _ (λ q.
    get-shown show (remove slots k) q
    ∙ ap (seen show) (get-remove nat_list_cmp_total slots k q)
    ∙ emptied show (eq_by_cmp by_bytes q k) (get slots q) (λ same. ap (λ x. option_flatten (get slots x)) (tells_apart exact_bytes q k same) ∙ none)
    ∙ sym (get-shown show slots q))

gone : {Y : Type 0} (b : Bool) (v : Option Y) → (b ≡ true → v ≡ None) → v ≡ cond b None v
gone true v none = none refl
gone false v none = refl

-- nothing is taken out where no slot is
pub shown-absent : {X Y : Type 0} (show : X → Y) (slots : FinMap (slice_cmp nat_cmp) (Option X)) (k : List ℕ) → get slots k ≡ None → shown_slots show (entries slots) ≡ remove (shown_slots show (entries slots)) k
shown-absent show slots k none = same_map nat_list_cmp_total exact_bytes _ _ (λ q.
    gone (eq_by_cmp by_bytes q k) (get (shown_in show slots) q) (λ same.
    get-shown show slots q ∙ ap (λ x. seen show (get slots x)) (tells_apart exact_bytes q k same) ∙ ap (seen show) none)
    ∙ sym (get-remove nat_list_cmp_total (shown_in show slots) k q))

-- ---- in order

-- the names of the slots that have something
abbrev pub live : {X : Type 0} → List (List ℕ × Option X) → List (List ℕ)
live [] = []
live ((name, None) ∷ slots) = live slots
live ((name, Some held) ∷ slots) = name ∷ live slots

-- with what they show
abbrev pub shown_pairs : {X Y : Type 0} → (X → Y) → List (List ℕ × Option X) → List (List ℕ × Y)
shown_pairs show [] = []
shown_pairs show ((name, None) ∷ slots) = shown_pairs show slots
shown_pairs show ((name, Some held) ∷ slots) = (name, show held) ∷ shown_pairs show slots

live_pairs : {X Y : Type 0} (show : X → Y) (es : List (List ℕ × Option X)) → map (λ e. e.0) (shown_pairs show es) ≡ live es
live_pairs show [] = refl
live_pairs show ((name, None) ∷ es) = live_pairs show es
live_pairs show ((name, Some held) ∷ es) = ap (λ rest. name ∷ rest) (live_pairs show es)

first : (a b : Bool) → T (a && b) → T a
first true b p = tt
first false b p = p

second : (a b : Bool) → T (a && b) → T b
second true b p = p
second false b p = absurd p

below_pairs : {X Y : Type 0} (show : X → Y) (k : List ℕ) (es : List (List ℕ × Option X)) → T (below_all by_bytes k es) → T (below_all by_bytes k (shown_pairs show es))
below_pairs show k [] h = tt
below_pairs show k ((name, None) ∷ es) h = below_pairs show k es (second _ _ h)
below_pairs show k ((name, Some held) ∷ es) h = both _ _ (first _ _ h) (below_pairs show k es (second _ _ h))

sorted_pairs : {X Y : Type 0} (show : X → Y) (es : List (List ℕ × Option X)) → T (is_sorted by_bytes es) → T (is_sorted by_bytes (shown_pairs show es))
sorted_pairs show [] h = tt
sorted_pairs show ((name, None) ∷ es) h = sorted_pairs show es (second _ _ h)
sorted_pairs show ((name, Some held) ∷ es) h =
    both _ _ (below_pairs show name es (first _ _ h)) (sorted_pairs show es (second _ _ h))

less : (o : Ordering) → T (is_lt o) → o ≡ Less
less Less p = refl
less Equal p = absurd p
less Greater p = absurd p

below_none : {X : Type 0} (k : List ℕ) (es : List (List ℕ × X)) → T (below_all by_bytes k es) → find by_bytes k es ≡ None
below_none k [] h = refl
below_none k (e ∷ es) h = ap (λ r. cond (is_eq r) (Some e.1) (find by_bytes k es)) (less _ (first _ _ h)) ∙ below_none k es (second _ _ h)

skipped : {X Y : Type 0} (show : X → Y) (b : Bool) (rest : Option (Option X)) → (b ≡ true → rest ≡ None) → seen show (cond b (Some None) rest) ≡ seen show rest
skipped show true rest none = sym (ap (seen show) (none refl))
skipped show false rest none = refl

find_shown : {X Y : Type 0} (show : X → Y) (es : List (List ℕ × Option X)) (q : List ℕ) → T (is_sorted by_bytes es) → find by_bytes q (shown_pairs show es) ≡ seen show (find by_bytes q es)
find_shown show [] q h = refl
find_shown show ((name, None) ∷ es) q h =
    find_shown show es q (second _ _ h)
    ∙ sym (skipped show (eq_by_cmp by_bytes q name) (find by_bytes q es) (λ same. ap (λ k. find by_bytes k es) (tells_apart exact_bytes q name same) ∙ below_none name es (first _ _ h)))
find_shown show ((name, Some held) ∷ es) q h =
    ap (cond (eq_by_cmp by_bytes q name) (Some (show held))) (find_shown show es q (second _ _ h))
    ∙ picked show (eq_by_cmp by_bytes q name) (Some held) (find by_bytes q es)

pub entries_shown : {X Y : Type 0} (show : X → Y) (slots : FinMap (slice_cmp nat_cmp) (Option X)) → entries (shown_slots show (entries slots)) ≡ shown_pairs show (entries slots)
entries_shown show slots =
    same_entries by_bytes nat_list_cmp_total exact_bytes _ _ (entries_sorted (shown_in show slots)) (sorted_pairs show (entries slots) (entries_sorted slots)) (λ q.
    sym (get-entries (shown_in show slots) q) ∙ get-shown show slots q ∙ ap (seen show) (get-entries slots q) ∙ sym (find_shown show (entries slots) q (entries_sorted slots)))

-- the names of what is shown are those of slots that have something
pub names_shown : {X Y : Type 0} (show : X → Y) (slots : FinMap (slice_cmp nat_cmp) (Option X)) → map (λ e. e.0) (entries (shown_slots show (entries slots))) ≡ live (entries slots)
names_shown show slots = ap (map (λ e. e.0)) (entries_shown show slots) ∙ live_pairs show (entries slots)

-- and so is their number
pub count_shown : {X Y : Type 0} (show : X → Y) (slots : FinMap (slice_cmp nat_cmp) (Option X)) → len (shown_slots show (entries slots)) ≡ length (live (entries slots))
count_shown show slots =
    len-entries (shown_in show slots)
    ∙ sym (length-map (entries (shown_in show slots)) (λ e. e.0))
    ∙ ap length (names_shown show slots)

-- no more slots have something than there are
pub few_live : {X : Type 0} (es : List (List ℕ × Option X)) → length (live es) ≤ length es
few_live [] = omega arith
few_live ((name, None) ∷ es) = omega (arith, few_live es)
few_live ((name, Some held) ∷ es) = omega (arith, few_live es)

-- an empty slot counts for nothing
pub live_gone : {X : Type 0} (k : List ℕ) (slot : Option X) (rest es : List (List ℕ × Option X)) → es ≡ (k, slot) ∷ rest → is_some slot ≡ false → (length (live es) ≡ length (live rest)) × (length es ≡ length rest + 1)
live_gone k None rest es is none =
    let n : length es ≡ length ((k, None) ∷ rest) = ap length is in (ap (λ xs. length (live xs)) is, omega (arith, n))
live_gone k (Some x) rest es is none = absurd (false≢true (sym none))

passed : {X : Type 0} (b : Bool) (name : List ℕ) (es : List (List ℕ × Option X)) → live (cond b ((name, None) ∷ es) es) ≡ live es
passed true name es = refl
passed false name es = refl

taken : {X : Type 0} (b : Bool) (name : List ℕ) (held : X) (es : List (List ℕ × Option X)) → live (cond b ((name, Some held) ∷ es) es) ≡ cond b (name ∷ live es) (live es)
taken true name held es = refl
taken false name held es = refl

-- a test of names picks the same before and after empty slots are left out
pub live-filter : {X : Type 0} (p : List ℕ → Bool) (es : List (List ℕ × Option X)) → live (filter (λ e. p e.0) es) ≡ filter p (live es)
live-filter p [] = refl
live-filter p ((name, None) ∷ es) = passed (p name) name (filter (λ e. p e.0) es) ∙ live-filter p es
live-filter p ((name, Some held) ∷ es) =
    taken (p name) name held (filter (λ e. p e.0) es) ∙ ap (λ rest. cond (p name) (name ∷ rest) rest) (live-filter p es)

passed_pair : {X Y : Type 0} (show : X → Y) (b : Bool) (name : List ℕ) (es : List (List ℕ × Option X)) → shown_pairs show (cond b ((name, None) ∷ es) es) ≡ shown_pairs show es
passed_pair show true name es = refl
passed_pair show false name es = refl

taken_pair : {X Y : Type 0} (show : X → Y) (b : Bool) (name : List ℕ) (held : X) (es : List (List ℕ × Option X)) → shown_pairs show (cond b ((name, Some held) ∷ es) es) ≡ cond b ((name, show held) ∷ shown_pairs show es) (shown_pairs show es)
taken_pair show true name held es = refl
taken_pair show false name held es = refl

-- the same of pairs
pub pairs-filter : {X Y : Type 0} (show : X → Y) (p : List ℕ → Bool) (es : List (List ℕ × Option X)) → shown_pairs show (filter (λ e. p e.0) es) ≡ filter (λ e. p e.0) (shown_pairs show es)
pairs-filter show p [] = refl
pairs-filter show p ((name, None) ∷ es) =
    passed_pair show (p name) name (filter (λ e. p e.0) es) ∙ pairs-filter show p es
pairs-filter show p ((name, Some held) ∷ es) =
    taken_pair show (p name) name held (filter (λ e. p e.0) es) ∙ ap (λ rest. cond (p name) ((name, show held) ∷ rest) rest) (pairs-filter show p es)

pub shown-empty : {X Y : Type 0} (show : X → Y) → shown_slots show (entries (empty {X = Option X} {R = slice_cmp nat_cmp})) ≡ empty
shown-empty show = same_map nat_list_cmp_total exact_bytes _ _ (λ q. get-shown show empty q ∙ ap (seen show) (get-empty by_bytes q) ∙ sym (get-empty by_bytes q))
