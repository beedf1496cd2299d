-- A number below ten to the ninth, and its digits.
use Rattle.std.proofs.Common.{◌≡◌, ℕ, zero, suc, ◌+◌, ◌-◌, ◌*◌, ◌^◌, ◌<◌, ◌≤◌, List, [], ◌∷◌, length, take, get_or, sym, ap, subst, ◌∙◌, arith}
use Rattle.std.specs.Fmt.{decimal}
use Rattle.std.specs.Str.Parse.{AllDigits, digits_value}
use Rattle.std.proofs.lemmas.Fmt.{decimal_is_IsNumeral, decimal_nonempty, length-decimal-le, first_decimal, decimal_digit, decimal-digits_value, decimal_injective}
use Rattle.std.proofs.lemmas.List.{length-take}
use Rattle.std.proofs.lemmas.Int.Digits.{digits_more, digits_value_more}
use Rattle.std.proofs.lemmas.Str.{digit_value_digit}
use Rattle.std.specs.Char.{digit_value, IsNotAsciiDigit}
use Rattle.std.proofs.lemmas.Str.Parse.{IsNumeralModel, numerals_by_value, tells_digits, digits_value_short, digit_at}
use Rattle.std.specs.Int.{IsInRange}
use Rattle.sea_script.proofs.Spelling.{not_in_nothing}

own : IsNumeralModel (AllDigits 10) (digits_value 10)
own = numerals_by_value (AllDigits 10) tells_digits

-- 1 to 9 digits, of which the first is no zero where there are two
pub record IsShape (word : List ℕ) : Type 0 where
  pub some : 0 < length word
  pub few : length word ≤ 9
  pub leading : get_or word 0 0 ≡ 48 → length word ≡ 1

pub decimal_shape : (n : ℕ) → n < 1000000000 → IsShape (decimal n)
decimal_shape n small = record {
  some = decimal_nonempty n (omega arith);
  few = length-decimal-le 9 n (omega arith) (omega arith) (omega arith);
  leading = λ zero_first. leads n small zero_first;
}
  where
    leads : (m : ℕ) → m < 1000000000 → get_or (decimal m) 0 0 ≡ 48 → length (decimal m) ≡ 1
    leads zero small_m first = ap length (decimal_digit 0 (omega arith))
    leads (suc m) small_m first = absurd (omega (arith, first_decimal (suc m) (omega arith) (omega arith)))

pub spelled_shape : (word : List ℕ) (n : ℕ) → n < 1000000000 → word ≡ decimal n → IsShape word
spelled_shape word n small is = subst IsShape (sym is) (decimal_shape n small)

pub spelled_digits : (word : List ℕ) (n i : ℕ) → n < 1000000000 → word ≡ decimal n → i < length word → IsInRange 48 57 (get_or word i 0)
spelled_digits word n i small is within =
    let numeral = decimal_is_IsNumeral n (omega arith) in
    digit_at word i (subst (AllDigits 10) (sym is) numeral.0.1) within

-- so many digits are no more than that
pub value_short : (word : List ℕ) (i : ℕ) → AllDigits 10 (take i word) → i < 9 → digits_value 10 (take i word) < 100000000
value_short word i digits few =
    digits_value_short own (take i word) 8 digits (omega (arith, length-take i word))

pub spelled_value : (word : List ℕ) → AllDigits 10 word → IsShape word → (digits_value 10 word < 1000000000) × (word ≡ decimal (digits_value 10 word))
spelled_value word digits shape =
    let small : digits_value 10 word < 10 ^ 9 = digits_value_short own word 9 digits shape.few in
    (small, sym (decimal-digits_value own word digits shape.some shape.leading (omega arith)))

-- a number is spelled in one way
pub one_number : (m n : ℕ) → m < 1000000000 → n < 1000000000 → decimal m ≡ decimal n → m ≡ n
one_number m n small_m small_n same = decimal_injective m n (omega arith) (omega arith) same

-- one more digit
pub value_more : (word : List ℕ) (i value digit : ℕ) → i < length word → AllDigits 10 (take i word) → value ≡ digits_value 10 (take i word) → 48 ≤ get_or word i 0 → get_or word i 0 ≤ 57 → digit ≡ get_or word i 0 - 48 → AllDigits 10 (take (i + 1) word) × (10 * value + digit ≡ digits_value 10 (take (i + 1) word))
value_more word i value digit within digits is low high is_digit =
    let of : digit_value (get_or word i 0) + 48 ≡ get_or word i 0 = digit_value_digit (get_or word i 0) (low, high) in
    (digits_more 10 word i within digits (omega arith), sym (digits_value_more 10 word i within ∙ omega arith))

pub zero_is : (word : List ℕ) (first : ℕ) (others : List ℕ) → word ≡ first ∷ others → first ≡ 48 → length others ≡ 0 → word ≡ decimal 0
zero_is word first others whole zero_first none =
    whole ∙ ap (λ d. d ∷ others) zero_first ∙ ap (λ tail. 48 ∷ tail) (sym (not_in_nothing others none)) ∙ sym (decimal_digit 0 (omega arith))

-- no number of two digits begins with a zero
pub no_shape : (word : List ℕ) (first : ℕ) (others : List ℕ) (n : ℕ) → word ≡ first ∷ others → first ≡ 48 → (others ≡ [] → ⊥) → n < 1000000000 → word ≡ decimal n → ⊥
no_shape word first others n whole zero_first some small is =
    let shape = subst IsShape whole (spelled_shape word n small is) in
    let one : length (first ∷ others) ≡ 1 = shape.leading zero_first in
    some (sym (not_in_nothing others (omega (arith, one))))

-- a word of a digit other than zero, and up to eight more
pub shape_of : (word : List ℕ) (first : ℕ) (others : List ℕ) → word ≡ first ∷ others → length word ≤ 9 → (first ≡ 48 → ⊥) → IsShape word
shape_of word first others whole few no_zero =
    subst IsShape (sym whole) (record { some = omega arith; few = omega (arith, few, ap length whole); leading = λ zero. absurd (no_zero zero) })

pub no_digit : (b : ℕ) → IsInRange 48 57 b → IsNotAsciiDigit b → ⊥
no_digit b within out = omega (arith, within, out)
