-- The texts of names, bytes and numbers have no space in them.
use Rattle.std.proofs.Common.{inl, inr, Bool, true, ◌≡◌, ◌&&◌, ℕ, ◌/◌, ◌%◌, ◌<◌, ◌≤◌, List, [], ◌∷◌, slice_index, nat_le, refl, sym, subst, arith}
use Rattle.std.specs.List.{All, flat_map}
use Rattle.std.proofs.lemmas.Bool.{and_parts}
use Rattle.std.proofs.lemmas.Bool.Decides.{nat_tests}
use Rattle.std.proofs.lemmas.List.Elements.{All-append, All-cons, All-get_or, All-nil}
use Rattle.hex.specs.Hex.{lower_digits}
use Rattle.sea_script.specs.Word.{AreBytes, byte_text, data_text, name_text, pair_text, stands_for_itself}
use Rattle.sea_script.proofs.Spelling.{byte_escaped, byte_plain, cases, data_front, name_front, pair_halves}

-- a word has no byte up to the space
abbrev pub IsWord : List ℕ → Type 0
IsWord word = All (λ b. 33 ≤ b) word

abbrev all_above : List ℕ → Bool
all_above [] = true
all_above (b ∷ bytes) = nat_le 33 b && all_above bytes

pub word_from_test : (word : List ℕ) → all_above word ≡ true → IsWord word
word_from_test [] test = All-nil (λ b. 33 ≤ b)
word_from_test (b ∷ word) test =
    let parts = and_parts (nat_le 33 b) (all_above word) test in
    let above : 33 ≤ b = grind (arith, nat_tests) in
    All-cons (λ b. 33 ≤ b) b word above (word_from_test word parts.1)

digit_word : (d : ℕ) → d < 16 → 33 ≤ slice_index lower_digits d
digit_word d small = All-get_or (λ b. 33 ≤ b) lower_digits d 0 small (word_from_test lower_digits refl)

pair_word : (b : ℕ) → b < 256 → IsWord (pair_text b)
pair_word b small =
    subst IsWord (sym (pair_halves b))
    (All-cons (λ b. 33 ≤ b) (slice_index lower_digits (b / 16)) (slice_index lower_digits (b % 16) ∷ []) (digit_word (b / 16) (omega arith)) (All-cons (λ b. 33 ≤ b) (slice_index lower_digits (b % 16)) [] (digit_word (b % 16) (omega arith)) (All-nil (λ b. 33 ≤ b))))

plain_above : (b : ℕ) → stands_for_itself b ≡ true → 33 ≤ b
plain_above b plain = grind (arith, nat_tests)

byte_word : (b : ℕ) → b < 256 → IsWord (byte_text b)
byte_word b small =
    elim (cases (stands_for_itself b)) [
      | inl plain ↦ subst IsWord (sym (byte_plain b plain)) (All-cons (λ b. 33 ≤ b) b [] (plain_above b plain) (All-nil (λ b. 33 ≤ b)))
      | inr escaped ↦ subst IsWord (sym (byte_escaped b escaped)) (All-cons (λ b. 33 ≤ b) 37 (pair_text b) (omega arith) (pair_word b small))
    ]

flat_word : (spelled : ℕ → List ℕ) → ((b : ℕ) → b < 256 → IsWord (spelled b)) → (bytes : List ℕ) → AreBytes bytes → IsWord (flat_map spelled bytes)
flat_word spelled each [] small = All-nil (λ b. 33 ≤ b)
flat_word spelled each (b ∷ bytes) small =
    All-append (λ b. 33 ≤ b) (spelled b) (flat_map spelled bytes) (each b small.0) (flat_word spelled each bytes small.1)

pub name_word : (name : List ℕ) → AreBytes name → IsWord (name_text name)
name_word name small = subst IsWord (sym (name_front (name_text name) name refl)) (flat_word byte_text byte_word name small)

pub data_word : (bytes : List ℕ) → AreBytes bytes → IsWord (data_text bytes)
data_word bytes small =
    subst IsWord (sym (data_front (data_text bytes) bytes refl))
    (All-cons (λ b. 33 ≤ b) 120 (flat_map pair_text bytes) (omega arith) (flat_word pair_text pair_word bytes small))
