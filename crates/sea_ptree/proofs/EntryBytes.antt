-- Entries and their bytes: each gives the other.
use Rattle.std.proofs.Common.{◌≡◌, ℕ, zero, suc, ◌+◌, ◌-◌, ◌*◌, ◌<◌, ◌≤◌, List, [], ◌∷◌, ◌++◌, length, get_or, take, drop, refl, sym, ap, ◌∙◌, arith, append_assoc, length-append, take-append-drop}
use Rattle.std.specs.Prelude.{slice_range}
use Rattle.std.specs.List.{AllByRecursion}
use Rattle.std.proofs.lemmas.List.{length-take-le, drop-drop, append-nil}
use Rattle.std.proofs.lemmas.List.Concat.{flat_map-append}
use Rattle.sea_base.specs.Field.{big_endian}
use Rattle.sea_base.proofs.Fields.{length-big_endian, same_field, big_endian-injective}
use Rattle.sea_base.proofs.Slices.{slice_then, slice_at}
use Rattle.sea_ptree.specs.Node.{Entry, Fits, entry_bytes, entries_bytes}
use Rattle.sea_ptree.specs.Reading.{AreRead}

pub length-entry_bytes : (e : Entry) → length (entry_bytes e) ≡ 28
length-entry_bytes e =
    let k = big_endian 8 e.0 in
    let a = big_endian 4 e.1.at.0 in
    let v = big_endian 8 e.1.version.0 in
    omega (arith, length-append (k ++ a ++ v) (big_endian 8 e.1.sum.0), length-append (k ++ a) v, length-append k a, length-big_endian 8 e.0, length-big_endian 4 e.1.at.0, length-big_endian 8 e.1.version.0, length-big_endian 8 e.1.sum.0)

pub length-entries_bytes : (es : List Entry) → length (entries_bytes es) ≡ 28 * length es
length-entries_bytes [] = refl
length-entries_bytes (e ∷ es) = omega (arith, length-append (entry_bytes e) (entries_bytes es), length-entry_bytes e, length-entries_bytes es)

-- an entry is told by its bytes
pub same_entry : (e f : Entry) → Fits e → Fits f → entry_bytes e ≡ entry_bytes f → e ≡ f
same_entry e f fits_e fits_f same =
    let one = same_field 8 e.0 f.0 _ _ fits_e.key fits_f.key (sym (regroup e) ∙ same ∙ regroup f) in
    let two = same_field 4 e.1.at.0 f.1.at.0 _ _ fits_e.at fits_f.at one.1 in
    let three = same_field 8 e.1.version.0 f.1.version.0 _ _ fits_e.version fits_f.version two.1 in
    let four = big_endian-injective 8 e.1.sum.0 f.1.sum.0 fits_e.sum fits_f.sum three.1 in
    λ i. (one.0 i, record { at = record { 0 = two.0 i }; version = record { 0 = three.0 i }; sum = record { 0 = four i } })
  where
    regroup : (e : Entry) → entry_bytes e ≡ big_endian 8 e.0 ++ (big_endian 4 e.1.at.0 ++ (big_endian 8 e.1.version.0 ++ big_endian 8 e.1.sum.0))
    regroup e = simp append_assoc

-- four fields one behind the other
pub fields_read : (bytes : List ℕ) (at : ℕ) (e : Entry) → slice_range bytes at (at + 8) ≡ big_endian 8 e.0 → slice_range bytes (at + 8) (at + 8 + 4) ≡ big_endian 4 e.1.at.0
    → slice_range bytes (at + 12) (at + 12 + 8) ≡ big_endian 8 e.1.version.0 → slice_range bytes (at + 20) (at + 20 + 8) ≡ big_endian 8 e.1.sum.0 → slice_range bytes at (at + 28) ≡ entry_bytes e
fields_read bytes at e key place version sum =
    let s : ℕ → ℕ → List ℕ = slice_range bytes in
    let two : s (at + 8) (at + 12) ≡ big_endian 4 e.1.at.0 = ap (s (at + 8)) (omega arith) ∙ place in
    let three : s (at + 12) (at + 20) ≡ big_endian 8 e.1.version.0 = ap (s (at + 12)) (omega arith) ∙ version in
    let four : s (at + 20) (at + 28) ≡ big_endian 8 e.1.sum.0 = ap (s (at + 20)) (omega arith) ∙ sum in
    sym (slice_then bytes at (at + 20) (at + 28) (omega arith) (omega arith))
    ∙ ap (λ (x : List ℕ). x ++ s (at + 20) (at + 28)) (sym (slice_then bytes at (at + 12) (at + 20) (omega arith) (omega arith)) ∙ ap (λ (x : List ℕ). x ++ s (at + 12) (at + 20)) (sym (slice_then bytes at (at + 8) (at + 12) (omega arith) (omega arith))))
    ∙ (λ i. key i ++ two i ++ three i ++ four i)

-- the entries so far, and one more
pub entries_more : (bytes : List ℕ) (count : ℕ) (es : List Entry) (e : Entry) → AreRead bytes count es → Fits e → slice_range bytes (32 + 28 * count) (60 + 28 * count) ≡ entry_bytes e → AreRead bytes (count + 1) (es ++ e ∷ [])
entries_more bytes count es e read fits here = record {
  count_is = omega (arith, length-append es (e ∷ []), read.count_is);
  fits = all_more es read.fits;
  spelled = ap (slice_range bytes 32) (omega arith) ∙ sym (slice_then bytes 32 (32 + 28 * count) (60 + 28 * count) (omega arith) (omega arith)) ∙ (λ i. read.spelled i ++ here i) ∙ ap (λ (x : List ℕ). entries_bytes es ++ x) (sym (append-nil (entry_bytes e))) ∙ sym (flat_map-append entry_bytes es (e ∷ []));
}
  where
    all_more : (xs : List Entry) → AllByRecursion Fits xs → AllByRecursion Fits (xs ++ e ∷ [])
    all_more [] all = (fits, tt)
    all_more (x ∷ xs) all = (all.0, all_more xs all.1)

pub no_entries : (bytes : List ℕ) → AreRead bytes 0 []
no_entries bytes = record { count_is = refl; fits = tt; spelled = refl }

-- the entry that stands at an index
pub entry_of : (bytes : List ℕ) (count index : ℕ) (es : List Entry) (e d : Entry) → length bytes ≡ 4096 → count ≤ 145 → AreRead bytes count es → index < count → Fits e → slice_range bytes (32 + 28 * index) (60 + 28 * index) ≡ entry_bytes e → get_or es index d ≡ e
entry_of bytes count index es e d len room read within fits here =
    same_entry (get_or es index d) e (fits_at es index read.fits (omega (arith, read.count_is))) fits (sym (stands es index (omega (arith, read.count_is)) (drop (32 + 28 * count) bytes) (take 32 bytes) 32 (omega (arith, length-take-le 32 bytes (omega arith))) whole) ∙ here)
  where
    fits_at : (xs : List Entry) (i : ℕ) → AllByRecursion Fits xs → i < length xs → Fits (get_or xs i d)
    fits_at [] i all lt = absurd (omega arith)
    fits_at (x ∷ xs) zero all lt = all.0
    fits_at (x ∷ xs) (suc i) all lt = fits_at xs i all.1 (omega arith)

    whole : bytes ≡ take 32 bytes ++ (entries_bytes es ++ drop (32 + 28 * count) bytes)
    whole = sym (take-append-drop 32 bytes) ∙ ap (λ (x : List ℕ). take 32 bytes ++ x) (sym (take-append-drop (32 + 28 * count - 32) (drop 32 bytes)) ∙ (λ i. read.spelled i ++ behind i))
      where
        behind : drop (32 + 28 * count - 32) (drop 32 bytes) ≡ drop (32 + 28 * count) bytes
        behind = drop-drop (32 + 28 * count - 32) 32 bytes ∙ ap (λ (k : ℕ). drop k bytes) (omega arith)

    stands : (xs : List Entry) (i : ℕ) → i < length xs → (rest front : List ℕ) (n : ℕ) → length front ≡ n → bytes ≡ front ++ (entries_bytes xs ++ rest) → slice_range bytes (n + 28 * i) (n + 28 + 28 * i) ≡ entry_bytes (get_or xs i d)
    stands [] i lt rest front n at is = absurd (omega arith)
    stands (x ∷ xs) zero lt rest front n at is =
        ap (λ (b : List ℕ). slice_range b (n + 28 * 0) (n + 28 + 28 * 0)) (is ∙ ap (λ (r : List ℕ). front ++ r) (append_assoc (entry_bytes x) (entries_bytes xs) rest)) ∙ slice_at front (entry_bytes x) (entries_bytes xs ++ rest) (n + 28 * 0) (n + 28 + 28 * 0) (omega arith) (omega (arith, length-entry_bytes x))
    stands (x ∷ xs) (suc i) lt rest front n at is =
        (λ k. slice_range bytes (less k) (more k)) ∙ stands xs i (omega arith) rest (front ++ entry_bytes x) (n + 28) (omega (arith, length-append front (entry_bytes x), length-entry_bytes x)) (is ∙ ap (λ (r : List ℕ). front ++ r) (append_assoc (entry_bytes x) (entries_bytes xs) rest) ∙ sym (append_assoc front (entry_bytes x) (entries_bytes xs ++ rest)))
      where
        less : n + 28 * suc i ≡ n + 28 + 28 * i
        less = omega arith

        more : n + 28 + 28 * suc i ≡ n + 28 + 28 + 28 * i
        more = omega arith
