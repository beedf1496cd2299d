-- A number and its bytes, the highest first: each gives the other.
use Rattle.std.proofs.Common.{◌≡◌, ℕ, zero, suc, ◌+◌, ◌-◌, ◌*◌, ◌^◌, ◌<◌, ◌≤◌, List, [], ◌∷◌, ◌++◌, length, get_or, take, drop, refl, sym, ap, ◌∙◌, arith, inl, inr, append_assoc}
use Rattle.std.specs.Prelude.{slice_range}
use Rattle.std.proofs.Math.Nat.{mul-le-mul_right, add-mul, mod-lt}
use Rattle.std.proofs.lemmas.Bool.{cases_lt}
use Rattle.std.proofs.lemmas.List.{get_or-drop, get_or-take, get_or_past, length-take, length-drop, drop-drop}
use Rattle.std.specs.Int.{byte_at, bytes_high_first}
use borrow.Rule.Slice.PartMut.{put_mid}
use Rattle.byteorder.specs.Endian.{big_from, big_bytes, big_number}
use Rattle.byteorder.specs.Numbers.{big_from-cons, big_from-lt, length-bytes_high_first, big_number-reads_back}
use Rattle.sea_base.specs.Field.{big_endian}
use Rattle.sea_base.proofs.Slices.{same_parts}

abbrev pub AreBytes : List ℕ → Type 0
AreBytes bytes = (i : ℕ) → get_or bytes i 0 < 256

-- the high digit and the rest are told by the sum
same_digit : (x y r s m : ℕ) → r < m → s < m → x * m + r ≡ y * m + s → (x ≡ y) × (r ≡ s)
same_digit x y r s m low_r low_s e =
    elim (cases_lt x y) [
      | inl less ↦ absurd (let step : (x + 1) * m ≤ y * m = mul-le-mul_right m (omega arith) in omega (arith, add-mul x 1 m))
      | inr le ↦ elim (cases_lt y x) [
        | inl more ↦ absurd (let step : (y + 1) * m ≤ x * m = mul-le-mul_right m (omega arith) in omega (arith, add-mul y 1 m))
        | inr ge ↦ let same : x ≡ y = omega arith in (same, (let scaled : x * m ≡ y * m = ap (λ (d : ℕ). d * m) same in omega arith))
      ]
    ]

-- bytes that give one number are the same
same_bytes : (xs ys : List ℕ) → length xs ≡ length ys → AreBytes xs → AreBytes ys → big_from 0 (length xs) xs ≡ big_from 0 (length xs) ys → xs ≡ ys
same_bytes [] [] l fx fy e = refl
same_bytes [] (y ∷ ys) l fx fy e = absurd (omega arith)
same_bytes (x ∷ xs) [] l fx fy e = absurd (omega arith)
same_bytes (x ∷ xs) (y ∷ ys) l fx fy e =
    let n = length xs in
    let below_x : (k : ℕ) → get_or xs k 0 < 256 = λ k. fx (suc k) in
    let below_y : (k : ℕ) → get_or ys k 0 < 256 = λ k. fy (suc k) in
    let parts : x * 256 ^ n + big_from 0 n xs ≡ y * 256 ^ n + big_from 0 n ys =
    ap (λ (r : ℕ). x * 256 ^ n + r) (sym (big_from-cons 0 n x xs)) ∙ e ∙ ap (λ (r : ℕ). y * 256 ^ n + r) (big_from-cons 0 n y ys) in
    let same = same_digit x y (big_from 0 n xs) (big_from 0 n ys) (256 ^ n) (big_from-lt 0 n xs below_x) (big_from-lt 0 n ys below_y) parts in
    ap (λ (b : ℕ). b ∷ xs) same.0 ∙ ap (λ (r : List ℕ). y ∷ r) (same_bytes xs ys (omega arith) below_x below_y same.1)

bytes_fit : (n x : ℕ) → AreBytes (bytes_high_first n x)
bytes_fit zero x i = omega arith
bytes_fit (suc n) x zero = byte_fits n x
  where
    byte_fits : (k x : ℕ) → byte_at k x < 256
    byte_fits zero x = mod-lt x (omega arith)
    byte_fits (suc k) x = mod-lt _ (omega arith)
bytes_fit (suc n) x (suc i) = bytes_fit n x i

pub length-big_endian : (n x : ℕ) → length (big_endian n x) ≡ n
unfolding big_endian
length-big_endian n x = length-bytes_high_first n x

pub AreBytes-big_endian : (n x : ℕ) → AreBytes (big_endian n x)
unfolding big_endian
AreBytes-big_endian n x = bytes_fit n x

-- what is read at n bytes has these bytes
pub big_endian-number : (n : ℕ) (bytes : List ℕ) → length bytes ≡ n → AreBytes bytes → big_endian n (big_number n bytes) ≡ bytes
unfolding big_endian
big_endian-number n bytes l fits =
    let v = big_from 0 n bytes in
    let len : length (bytes_high_first n v) ≡ n = length-bytes_high_first n v in
    let back : big_from 0 n (bytes_high_first n v ++ []) ≡ v = big_number-reads_back n v [] (big_from-lt 0 n bytes fits) in
    let whole = append-nil (bytes_high_first n v) in
    same_bytes (bytes_high_first n v) bytes (omega arith) (bytes_fit n v) fits (ap (λ (k : ℕ). big_from 0 k (bytes_high_first n v)) len ∙ ap (big_from 0 n) (sym whole) ∙ back ∙ ap (λ (k : ℕ). big_from 0 k bytes) (sym len))
  where
    append-nil : (xs : List ℕ) → xs ++ [] ≡ xs
    append-nil [] = refl
    append-nil (x ∷ xs) = ap (λ (r : List ℕ). x ∷ r) (append-nil xs)

-- a number below its field's limit is what its bytes are read as
pub big_number-big_endian : (n x : ℕ) → x < 256 ^ n → big_number n (big_endian n x ++ []) ≡ x
unfolding big_endian
big_number-big_endian n x below = big_number-reads_back n x [] below

-- numbers with the same bytes are the same
pub big_endian-injective : (n x y : ℕ) → x < 256 ^ n → y < 256 ^ n → big_endian n x ≡ big_endian n y → x ≡ y
big_endian-injective n x y bx by e =
    sym (big_number-big_endian n x bx) ∙ ap (λ (b : List ℕ). big_number n (b ++ [])) e ∙ big_number-big_endian n y by

AreBytes-part : (n at : ℕ) (bytes : List ℕ) → AreBytes bytes → AreBytes (take n (drop at bytes))
AreBytes-part n at bytes fits i =
    elim (cases_lt i n) [
      | inl lt ↦ rw (get_or-take n (drop at bytes) i 0 lt, get_or-drop) (fits (at + i))
      | inr le ↦ rw (get_or_past (take n (drop at bytes)) i 0 (omega (arith, length-take n (drop at bytes)))) (omega arith)
    ]

-- the field from `at` on, read as a number, is spelled there
pub field_spelled : (n at : ℕ) (bytes : List ℕ) → at + n ≤ length bytes → AreBytes bytes → slice_range bytes at (at + n) ≡ big_endian n (big_number n (slice_range bytes at (at + n)))
field_spelled n at bytes within fits =
    let part = slice_range bytes at (at + n) in
    sym (big_endian-number n part (rw (length-take (at + n - at) (drop at bytes), length-drop at bytes) (omega arith)) (AreBytes-part (at + n - at) at bytes fits))

-- and no other number is
pub field_only : (n at : ℕ) (bytes : List ℕ) → at + n ≤ length bytes → AreBytes bytes → (x : ℕ) → x < 256 ^ n → slice_range bytes at (at + n) ≡ big_endian n x → big_number n (slice_range bytes at (at + n)) ≡ x
field_only n at bytes within fits x below e =
    let part = slice_range bytes at (at + n) in
    let small : (k : ℕ) → get_or part k 0 < 256 = AreBytes-part (at + n - at) at bytes fits in
    big_endian-injective n (big_number n part) x (big_from-lt 0 n part small) below (sym (field_spelled n at bytes within fits) ∙ e)

-- what a write of a number leaves
pub put_field : (n at x : ℕ) (bytes written : List ℕ) → at + n ≤ length bytes → written ≡ big_bytes n x ++ drop n (slice_range bytes at (at + n)) → put_mid at (at + n - at) bytes written ≡ take at bytes ++ big_endian n x ++ drop (at + n) bytes
unfolding big_endian
put_field n at x bytes written within e =
    let middle : drop n (slice_range bytes at (at + n)) ≡ [] = none_left n (slice_range bytes at (at + n)) (rw (length-take (at + n - at) (drop at bytes), length-drop at bytes) (omega arith)) in
    let is : written ≡ big_bytes n x ++ [] = e ∙ ap (λ (r : List ℕ). big_bytes n x ++ r) middle in
    let rest : drop (at + n - at) (drop at bytes) ≡ drop (at + n) bytes = drop-drop (at + n - at) at bytes ∙ ap (λ (k : ℕ). drop k bytes) (omega arith) in
    ap (λ (w : List ℕ). take at bytes ++ (w ++ drop (at + n - at) (drop at bytes))) is ∙ ap (λ (r : List ℕ). take at bytes ++ ((big_bytes n x ++ []) ++ r)) rest ∙ simp append_assoc
  where
    none_left : (n : ℕ) (xs : List ℕ) → length xs ≤ n → drop n xs ≡ []
    none_left zero [] h = refl
    none_left zero (x ∷ xs) h = absurd (omega arith)
    none_left (suc n) [] h = refl
    none_left (suc n) (x ∷ xs) h = none_left n xs (omega arith)

-- a byte is its own number
pub one_byte : (n : ℕ) → n < 256 → n ∷ [] ≡ big_endian 1 n
unfolding big_endian
one_byte n below = ap (λ (b : ℕ). b ∷ []) (omega arith)

-- fields of one width with the same bytes hold one number, and the rests are the same
pub same_field : (n x y : ℕ) (rs ss : List ℕ) → x < 256 ^ n → y < 256 ^ n → big_endian n x ++ rs ≡ big_endian n y ++ ss → (x ≡ y) × (rs ≡ ss)
same_field n x y rs ss fx fy e =
    let parts = same_parts (big_endian n x) (big_endian n y) rs ss (length-big_endian n x ∙ sym (length-big_endian n y)) e in
    (big_endian-injective n x y fx fy parts.0, parts.1)
