-- Byte strings compared by words of 8 bytes.
use Rattle.std.proofs.Common.{◌≡◌, ℕ, zero, suc, ◌+◌, ◌*◌, ◌^◌, ◌<◌, ◌≤◌, Bool, true, false, List, [], ◌∷◌, ◌++◌, length, get_or, drop, take, refl, sym, ap, ◌∙◌, arith, inl, inr, append-nil, take-append-drop}
use Rattle.std.specs.Prelude.{slice_range}
use Rattle.std.proofs.Math.Nat.{mul-le-mul_right, add-mul}
use Rattle.std.proofs.lemmas.Bool.{cases_lt, false≢true}
use Rattle.std.specs.Ordering.{nat_cmp, ordering_then, is_lt}
use Rattle.std.specs.Cmp.{nat_cmp_is}
use Rattle.std.specs.declared.cmp.Ordering.{Ordering}
use Rattle.std.specs.declared.cmp.Ordering.TheVariants.{Less, Equal, Greater}
use Rattle.byteorder.specs.Endian.{big_from, big_number}
use Rattle.byteorder.specs.Numbers.{big_from-cons, big_from-lt}
use Rattle.sea_base.specs.Field.{big_endian}
use Rattle.sea_base.proofs.Fields.{AreBytes, length-big_endian, AreBytes-big_endian, big_number-big_endian}
use Rattle.std.specs.Cmp.Lexicographic.{slice_cmp}

-- the order of byte strings: by their bytes, and a proper prefix comes first
abbrev order : List ℕ → List ℕ → Ordering
order = slice_cmp nat_cmp

less : (x y : ℕ) → x < y → nat_cmp x y ≡ Less
less x y h = sym (nat_cmp_is x y Less h)

greater : (x y : ℕ) → y < x → nat_cmp x y ≡ Greater
greater x y h = sym (nat_cmp_is x y Greater h)

tied : (x y : ℕ) → x ≡ y → nat_cmp x y ≡ Equal
tied x y h = sym (nat_cmp_is x y Equal h)

-- the high digits decide, and else the rests do
digits_order : (x y r s m : ℕ) → r < m → s < m → nat_cmp (x * m + r) (y * m + s) ≡ ordering_then (nat_cmp x y) (nat_cmp r s)
digits_order x y r s m low_r low_s =
    elim (cases_lt x y) [
      | inl lt ↦
          let step : (x + 1) * m ≤ y * m = mul-le-mul_right m (omega arith) in
          less (x * m + r) (y * m + s) (omega (arith, add-mul x 1 m)) ∙ ap (λ (o : Ordering). ordering_then o (nat_cmp r s)) (sym (less x y lt))
      | inr le ↦ elim (cases_lt y x) [
        | inl gt ↦
            let step : (y + 1) * m ≤ x * m = mul-le-mul_right m (omega arith) in
            greater (x * m + r) (y * m + s) (omega (arith, add-mul y 1 m)) ∙ ap (λ (o : Ordering). ordering_then o (nat_cmp r s)) (sym (greater x y gt))
        | inr ge ↦
            let same : x ≡ y = omega arith in
            let scaled : x * m ≡ y * m = ap (λ (d : ℕ). d * m) same in
            rests (x * m) (y * m) scaled ∙ ap (λ (o : Ordering). ordering_then o (nat_cmp r s)) (sym (tied x y same))
      ]
    ]
  where
    rests : (a b : ℕ) → a ≡ b → nat_cmp (a + r) (b + s) ≡ nat_cmp r s
    rests a b e =
        elim (cases_lt r s) [
          | inl lt ↦ less (a + r) (b + s) (omega arith) ∙ sym (less r s lt)
          | inr le ↦ elim (cases_lt s r) [
            | inl gt ↦ greater (a + r) (b + s) (omega arith) ∙ sym (greater r s gt)
            | inr ge ↦ tied (a + r) (b + s) (omega arith) ∙ sym (tied r s (omega arith))
          ]
        ]

then_assoc : (a b c : Ordering) → ordering_then a (ordering_then b c) ≡ ordering_then (ordering_then a b) c
then_assoc Less b c = refl
then_assoc Equal b c = refl
then_assoc Greater b c = refl

-- as many bytes in front decide by their number, and else the rests do
fronts_order : (xs ys rs ss : List ℕ) → length xs ≡ length ys → AreBytes xs → AreBytes ys
    → order (xs ++ rs) (ys ++ ss) ≡ ordering_then (nat_cmp (big_from 0 (length xs) xs) (big_from 0 (length xs) ys)) (order rs ss)
fronts_order [] [] rs ss len fx fy = refl
fronts_order [] (y ∷ ys) rs ss len fx fy = absurd (omega arith)
fronts_order (x ∷ xs) [] rs ss len fx fy = absurd (omega arith)
fronts_order (x ∷ xs) (y ∷ ys) rs ss len fx fy =
    let n = length xs in
    let below_x : (k : ℕ) → get_or xs k 0 < 256 = λ k. fx (suc k) in
    let below_y : (k : ℕ) → get_or ys k 0 < 256 = λ k. fy (suc k) in
    let digits : nat_cmp (x * 256 ^ n + big_from 1 n (x ∷ xs)) (y * 256 ^ n + big_from 1 n (y ∷ ys)) ≡ ordering_then (nat_cmp x y) (nat_cmp (big_from 0 n xs) (big_from 0 n ys)) =
    ap (λ (r : ℕ). nat_cmp (x * 256 ^ n + r) (y * 256 ^ n + big_from 1 n (y ∷ ys))) (big_from-cons 0 n x xs)
    ∙ ap (λ (r : ℕ). nat_cmp (x * 256 ^ n + big_from 0 n xs) (y * 256 ^ n + r)) (big_from-cons 0 n y ys)
    ∙ digits_order x y (big_from 0 n xs) (big_from 0 n ys) (256 ^ n) (big_from-lt 0 n xs below_x) (big_from-lt 0 n ys below_y) in
    ap (ordering_then (nat_cmp x y)) (fronts_order xs ys rs ss (omega arith) below_x below_y)
    ∙ then_assoc (nat_cmp x y) (nat_cmp (big_from 0 n xs) (big_from 0 n ys)) (order rs ss)
    ∙ ap (λ (o : Ordering). ordering_then o (order rs ss)) (sym digits)

-- the number of a word's bytes
word_number : (a : ℕ) → a < 256 ^ 8 → big_from 0 (length (big_endian 8 a)) (big_endian 8 a) ≡ a
word_number a below =
    ap (λ (n : ℕ). big_from 0 n (big_endian 8 a)) (length-big_endian 8 a) ∙ ap (big_from 0 8) (sym (append-nil (big_endian 8 a))) ∙ big_number-big_endian 8 a below

-- the first words decide, and else the rests do
pub words_order : (a b : ℕ) (first second : List ℕ) → a < 256 ^ 8 → b < 256 ^ 8 → take 8 first ≡ big_endian 8 a → take 8 second ≡ big_endian 8 b
    → order first second ≡ ordering_then (nat_cmp a b) (order (drop 8 first) (drop 8 second))
words_order a b first second low_a low_b is_a is_b =
    let xs = big_endian 8 a in
    let ys = big_endian 8 b in
    let split_first : first ≡ xs ++ drop 8 first = sym (take-append-drop 8 first) ∙ ap (λ (x : List ℕ). x ++ drop 8 first) is_a in
    let split_second : second ≡ ys ++ drop 8 second = sym (take-append-drop 8 second) ∙ ap (λ (x : List ℕ). x ++ drop 8 second) is_b in
    let lengths : length xs ≡ length ys = length-big_endian 8 a ∙ sym (length-big_endian 8 b) in
    let number : big_from 0 (length xs) ys ≡ b = ap (λ (n : ℕ). big_from 0 n ys) lengths ∙ word_number b low_b in
    ap (λ (x : List ℕ). order x second) split_first
    ∙ ap (order (xs ++ drop 8 first)) split_second
    ∙ fronts_order xs ys (drop 8 first) (drop 8 second) lengths (AreBytes-big_endian 8 a) (AreBytes-big_endian 8 b)
    ∙ ap (λ (n : ℕ). ordering_then (nat_cmp n (big_from 0 (length xs) ys)) (order (drop 8 first) (drop 8 second))) (word_number a low_a)
    ∙ ap (λ (n : ℕ). ordering_then (nat_cmp a n) (order (drop 8 first) (drop 8 second))) number

-- the same words leave it to the rests
pub words_tied : (a b : ℕ) (first second : List ℕ) → a < 256 ^ 8 → b < 256 ^ 8 → take 8 first ≡ big_endian 8 a → take 8 second ≡ big_endian 8 b → a ≡ b
    → order (drop 8 first) (drop 8 second) ≡ order first second
words_tied a b first second low_a low_b is_a is_b same =
    sym (words_order a b first second low_a low_b is_a is_b ∙ ap (λ (o : Ordering). ordering_then o (order (drop 8 first) (drop 8 second))) (tied a b same))

-- other words decide
pub words_apart : (a b : ℕ) (first second : List ℕ) → a < 256 ^ 8 → b < 256 ^ 8 → take 8 first ≡ big_endian 8 a → take 8 second ≡ big_endian 8 b → (a ≡ b → ⊥)
    → (a < b → order first second ≡ Less) × (order first second ≡ Less → a < b)
words_apart a b first second low_a low_b is_a is_b other =
    let is = words_order a b first second low_a low_b is_a is_b in
    let rest = order (drop 8 first) (drop 8 second) in (
      (λ lt. is ∙ ap (λ (o : Ordering). ordering_then o rest) (less a b lt)),
      (λ below. elim (cases_lt a b) [
        | inl lt ↦ lt
        | inr le ↦ absurd (let off : Less ≡ Greater = sym below ∙ is ∙ ap (λ (o : Ordering). ordering_then o rest) (greater a b (beyond le)) in cc)
      ]),
    )
  where
    beyond : b ≤ a → b < a
    beyond le = elim (cases_lt b a) [ inl lt ↦ lt | inr ge ↦ absurd (other (omega arith)) ]

-- a test that the order is less
pub is_below : (o : Ordering) → (is_lt o ≡ true → o ≡ Less) × (o ≡ Less → is_lt o ≡ true)
is_below Less = ((λ h. refl), (λ h. refl))
is_below Equal = ((λ h. absurd (false≢true h)), (λ h. absurd (cc)))
is_below Greater = ((λ h. absurd (false≢true h)), (λ h. absurd (cc)))
