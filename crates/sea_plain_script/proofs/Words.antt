-- No word has a space in it, so a line's words are those that it was joined from.
use Rattle.std.proofs.Common.{inl, inr, Bool, true, false, ◌≡◌, ◌==◌, ◌&&◌, ℕ, ◌/◌, ◌%◌, ◌<◌, ◌≤◌, List, [], ◌∷◌, ◌++◌, length, slice_index, nat_le, refl, sym, ap, subst, ◌∙◌, arith, codes}
use Rattle.std.specs.List.{All, AllByRecursion, flat_map, join_with_byte}
use Rattle.std.specs.Fmt.{decimal}
use Rattle.std.proofs.lemmas.Bool.{and_parts, ne_eqb}
use Rattle.std.proofs.lemmas.Bool.Decides.{nat_tests}
use Rattle.std.proofs.lemmas.List.Elements.{All-append, All-cons, All-from_get_or, All-get_or, All-nil, All-weaker}
use Rattle.std.proofs.lemmas.List.Splits.{slice_split_at, slice_split_none}
use Rattle.hex.specs.Hex.{lower_digits}
use Rattle.sea_plain.specs.declared.op.Op.{Op}
use Rattle.sea_plain.specs.declared.op.Op.TheVariants.{Write, Read}
use Rattle.sea_plain_script.specs.ScriptReading.{IsSpelled, words}
use Rattle.sea_plain_script.specs.Script.{AreBytes, byte_text, data_text, name_text, op_words, ops_words, pair_text, stands_for_itself}
use Rattle.sea_plain_script.proofs.Numbers.{spelled_digits}
use Rattle.sea_plain_script.proofs.Spelling.{byte_escaped, byte_plain, cases, data_front, name_front, pair_halves}

-- a word has no byte up to the space
abbrev pub IsWord : List ℕ → Type 0
IsWord word = All (λ b. 33 ≤ b) word

abbrev all_above : List ℕ → Bool
all_above [] = true
all_above (b ∷ bytes) = nat_le 33 b && all_above bytes

pub word_from_test : (word : List ℕ) → all_above word ≡ true → IsWord word
word_from_test [] test = All-nil (λ b. 33 ≤ b)
word_from_test (b ∷ word) test =
    let parts = and_parts (nat_le 33 b) (all_above word) test in
    let above : 33 ≤ b = grind (arith, nat_tests) in
    All-cons (λ b. 33 ≤ b) b word above (word_from_test word parts.1)

digit_word : (d : ℕ) → d < 16 → 33 ≤ slice_index lower_digits d
digit_word d small = All-get_or (λ b. 33 ≤ b) lower_digits d 0 small (word_from_test lower_digits refl)

pair_word : (b : ℕ) → b < 256 → IsWord (pair_text b)
pair_word b small =
    subst IsWord (sym (pair_halves b))
    (All-cons (λ b. 33 ≤ b) (slice_index lower_digits (b / 16)) (slice_index lower_digits (b % 16) ∷ []) (digit_word (b / 16) (omega arith)) (All-cons (λ b. 33 ≤ b) (slice_index lower_digits (b % 16)) [] (digit_word (b % 16) (omega arith)) (All-nil (λ b. 33 ≤ b))))

plain_above : (b : ℕ) → stands_for_itself b ≡ true → 33 ≤ b
plain_above b plain = grind (arith, nat_tests)

byte_word : (b : ℕ) → b < 256 → IsWord (byte_text b)
byte_word b small =
    elim (cases (stands_for_itself b)) [
      | inl plain ↦ subst IsWord (sym (byte_plain b plain)) (All-cons (λ b. 33 ≤ b) b [] (plain_above b plain) (All-nil (λ b. 33 ≤ b)))
      | inr escaped ↦ subst IsWord (sym (byte_escaped b escaped)) (All-cons (λ b. 33 ≤ b) 37 (pair_text b) (omega arith) (pair_word b small))
    ]

flat_word : (spelled : ℕ → List ℕ) → ((b : ℕ) → b < 256 → IsWord (spelled b)) → (bytes : List ℕ) → AreBytes bytes → IsWord (flat_map spelled bytes)
flat_word spelled each [] small = All-nil (λ b. 33 ≤ b)
flat_word spelled each (b ∷ bytes) small =
    All-append (λ b. 33 ≤ b) (spelled b) (flat_map spelled bytes) (each b small.0) (flat_word spelled each bytes small.1)

name_word : (name : List ℕ) → AreBytes name → IsWord (name_text name)
name_word name small = subst IsWord (sym (name_front (name_text name) name refl)) (flat_word byte_text byte_word name small)

pub data_word : (bytes : List ℕ) → AreBytes bytes → IsWord (data_text bytes)
data_word bytes small =
    subst IsWord (sym (data_front (data_text bytes) bytes refl))
    (All-cons (λ b. 33 ≤ b) 120 (flat_map pair_text bytes) (omega arith) (flat_word pair_text pair_word bytes small))

pub number_word : (n : ℕ) → n < 1000000000 → IsWord (decimal n)
number_word n small =
    All-from_get_or (λ b. 33 ≤ b) (decimal n) 0 (λ i within. let digit = spelled_digits (decimal n) n i small refl within in omega (arith, digit.0))

all_append : (xs ys : List (List ℕ)) → AllByRecursion IsWord xs → AllByRecursion IsWord ys → AllByRecursion IsWord (xs ++ ys)
all_append [] ys all_x all_y = all_y
all_append (x ∷ xs) ys all_x all_y = (all_x.0, all_append xs ys all_x.1 all_y)

op_are_words : (op : Op) → IsSpelled op → AllByRecursion IsWord (op_words op)
op_are_words (Write name offset bytes) is =
    (word_from_test (codes "write") refl, (name_word name is.1, (number_word offset is.2, (data_word bytes is.3, tt))))
op_are_words (Read name offset count) is =
    (word_from_test (codes "read") refl, (name_word name is.1, (number_word offset is.2, (number_word count is.3, tt))))

pub ops_are_words : (ops : List Op) → AllByRecursion IsSpelled ops → AllByRecursion IsWord (ops_words ops)
ops_are_words [] all = tt
ops_are_words (op ∷ []) all = op_are_words op all.0
ops_are_words (op ∷ next ∷ ops) all =
    all_append (op_words op) (codes ";" ∷ ops_words (next ∷ ops)) (op_are_words op all.0) (word_from_test (codes ";") refl, ops_are_words (next ∷ ops) all.1)

no_space : (word : List ℕ) → IsWord word → All (λ b. (b == 32) ≡ false) word
no_space word is = All-weaker (λ b. 33 ≤ b) (λ b. (b == 32) ≡ false) (λ b above. ne_eqb b 32 (λ same. omega (arith, above, same))) word is

-- words that are joined are found again
pub words_joined : (ws : List (List ℕ)) → 1 ≤ length ws → AllByRecursion IsWord ws → words (join_with_byte 32 ws) ≡ ws
words_joined [] some all = absurd (omega arith)
words_joined (w ∷ []) some all = slice_split_none (λ b. b == 32) w (no_space w all.0)
words_joined (w ∷ v ∷ ws) some all =
    slice_split_at (λ b. b == 32) w 32 (join_with_byte 32 (v ∷ ws)) (no_space w all.0) refl
    ∙ ap (λ others. w ∷ others) (words_joined (v ∷ ws) (omega arith) all.1)
