-- What a byte's text begins, no other byte's text begins: so bytes are read in one way.
use Rattle.std.proofs.Common.{◌≡◌, ℕ, ◌+◌, ◌*◌, ◌/◌, ◌%◌, ◌<◌, ◌≤◌, ◌==◌, Bool, true, false, ◌⊎◌, inl, inr, List, [], ◌∷◌, ◌++◌, ◌-◌, length, take, drop, get_or, slice_index, Some, refl, sym, ap, ◌∙◌, arith, append_assoc}
use Rattle.std.proofs.lemmas.Bool.{false≢true, eqb-true}
use Rattle.std.proofs.lemmas.Bool.Decides.{nat_tests}
use Rattle.std.proofs.lemmas.List.{append-nil, length-append, take_rest}
use Rattle.std.proofs.lemmas.List.Concat.{flat_map-append}
use Rattle.std.specs.List.{flat_map}
use Rattle.hex.specs.Hex.{encode_lower, encode_with, lower_digits, hex_digit_value}
use Rattle.hex.proofs.HexLemmas.{IsDigits-lower_digits}
use Rattle.sea_script.specs.Word.{AreBytes, pair_text, byte_text, name_text, data_text, stands_for_itself}

-- ---- digits

pub digit_injective : (d e : ℕ) → d < 16 → e < 16 → slice_index lower_digits d ≡ slice_index lower_digits e → d ≡ e
digit_injective d e low_d low_e same =
    let shown : Some d ≡ Some e = sym (IsDigits-lower_digits d low_d) ∙ ap hex_digit_value same ∙ IsDigits-lower_digits e low_e in
    cc

-- a byte's text is the digits of its two halves
pub pair_is : (high low : ℕ) → high < 16 → low < 16 → pair_text (16 * high + low) ≡ slice_index lower_digits high ∷ slice_index lower_digits low ∷ []
unfolding pair_text encode_with
pair_is high low h l =
    let front : (16 * high + low) / 16 ≡ high = omega arith in
    let back : (16 * high + low) % 16 ≡ low = omega arith in
    rw (front, back) refl

pub pair_halves : (b : ℕ) → pair_text b ≡ slice_index lower_digits (b / 16) ∷ slice_index lower_digits (b % 16) ∷ []
unfolding pair_text encode_with
pair_halves b = refl

-- two digits at the front are those of one byte
pub pair_splits : (a b : ℕ) (u v : List ℕ) → a < 256 → b < 256 → pair_text a ++ u ≡ pair_text b ++ v → (a ≡ b) × (u ≡ v)
pair_splits a b u v small_a small_b same =
    let shown = rw (pair_halves a, pair_halves b) at same in
    let highs : slice_index lower_digits (a / 16) ≡ slice_index lower_digits (b / 16) = cc in
    let lows : slice_index lower_digits (a % 16) ≡ slice_index lower_digits (b % 16) = cc in
    let high : a / 16 ≡ b / 16 = digit_injective (a / 16) (b / 16) (omega arith) (omega arith) highs in
    let low : a % 16 ≡ b % 16 = digit_injective (a % 16) (b % 16) (omega arith) (omega arith) lows in
    (omega arith, cc)

pub pair_not_empty : (b : ℕ) (rest : List ℕ) → [] ≡ pair_text b ++ rest → ⊥
pair_not_empty b rest same = let shown = rw (pair_halves b) at same in cc

pub pair_reads : (text : List ℕ) (b : ℕ) (rest : List ℕ) → text ≡ pair_text b ++ rest → (get_or text 0 0 ≡ slice_index lower_digits (b / 16)) × (get_or text 1 0 ≡ slice_index lower_digits (b % 16)) × (2 ≤ length text)
pair_reads text b rest same =
    let shown : text ≡ slice_index lower_digits (b / 16) ∷ slice_index lower_digits (b % 16) ∷ rest = rw (pair_halves b) at same in
    rw shown (refl, refl, omega arith)

pub two_in_front : (text : List ℕ) → 2 ≤ length text → text ≡ get_or text 0 0 ∷ get_or text 1 0 ∷ take (length text - 2) (drop 2 text)
two_in_front [] long = absurd (omega arith)
two_in_front (a ∷ []) long = absurd (omega arith)
two_in_front (a ∷ b ∷ rest) long = ap (λ tail. a ∷ b ∷ tail) (sym (take_rest (a ∷ b ∷ rest) 2))

-- two digits at the front
pub pair_from_digits : (text : List ℕ) (high low : ℕ) → 2 ≤ length text → high < 16 → low < 16 → get_or text 0 0 ≡ slice_index lower_digits high → get_or text 1 0 ≡ slice_index lower_digits low → text ≡ pair_text (16 * high + low) ++ take (length text - 2) (drop 2 text)
pair_from_digits text high low long small_high small_low is_high is_low =
    let whole = two_in_front text long in
    let digits = pair_is high low small_high small_low in
    rw digits (whole ∙ ap (λ a. a ∷ get_or text 1 0 ∷ take (length text - 2) (drop 2 text)) is_high ∙ ap (λ b. slice_index lower_digits high ∷ b ∷ take (length text - 2) (drop 2 text)) is_low)

-- ---- bytes of a name

pub byte_plain : (b : ℕ) → stands_for_itself b ≡ true → byte_text b ≡ b ∷ []
unfolding byte_text
byte_plain b plain = rw plain refl

pub byte_escaped : (b : ℕ) → stands_for_itself b ≡ false → byte_text b ≡ 37 ∷ pair_text b
unfolding byte_text
byte_escaped b escaped = rw escaped refl

pub cases : (b : Bool) → (b ≡ true) ⊎ (b ≡ false)
cases true = inl refl
cases false = inr refl

-- a byte that stands for itself is no `%`
pub plain_no_percent : (b : ℕ) → stands_for_itself b ≡ true → b ≡ 37 → ⊥
plain_no_percent b plain is = false≢true (sym (ap stands_for_itself is) ∙ plain)

pub plain_small : (b : ℕ) → stands_for_itself b ≡ true → b < 256
plain_small b plain = grind (arith, nat_tests)

pub byte_splits : (a b : ℕ) (u v : List ℕ) → a < 256 → b < 256 → byte_text a ++ u ≡ byte_text b ++ v → (a ≡ b) × (u ≡ v)
byte_splits a b u v small_a small_b same =
    elim (cases (stands_for_itself a)) [
      | inl plain ↦ elim (cases (stands_for_itself b)) [
        | inl also ↦ let shown = rw (byte_plain a plain, byte_plain b also) at same in (cc, cc)
        | inr not_b ↦ let shown = rw (byte_plain a plain, byte_escaped b not_b) at same in absurd (plain_no_percent a plain (cc))
      ]
      | inr escaped ↦ elim (cases (stands_for_itself b)) [
        | inl is_b ↦ let shown = rw (byte_escaped a escaped, byte_plain b is_b) at same in absurd (plain_no_percent b is_b (cc))
        | inr not_b ↦
            let shown = rw (byte_escaped a escaped, byte_escaped b not_b) at same in
            let digits : pair_text a ++ u ≡ pair_text b ++ v = cc in
            pair_splits a b u v small_a small_b digits
      ]
    ]

pub byte_not_empty : (b : ℕ) (rest : List ℕ) → [] ≡ byte_text b ++ rest → ⊥
byte_not_empty b rest same =
    elim (cases (stands_for_itself b)) [
      | inl plain ↦ let shown = rw (byte_plain b plain) at same in cc
      | inr escaped ↦ let shown = rw (byte_escaped b escaped) at same in cc
    ]

-- a byte behind `%`
pub escaped_in_front : (text : List ℕ) (first : ℕ) (others : List ℕ) (b : ℕ) (rest : List ℕ) → text ≡ first ∷ others → first ≡ 37 → others ≡ pair_text b ++ rest → stands_for_itself b ≡ false → text ≡ byte_text b ++ rest
escaped_in_front text first others b rest whole is_percent digits escaped = rw (byte_escaped b escaped) (cc)

pub behind_percent : (text : List ℕ) (first : ℕ) (others : List ℕ) (b : ℕ) (rest : List ℕ) → text ≡ first ∷ others → first ≡ 37 → text ≡ byte_text b ++ rest → (stands_for_itself b ≡ false) × (others ≡ pair_text b ++ rest)
behind_percent text first others b rest whole is_percent same =
    elim (cases (stands_for_itself b)) [
      | inl plain ↦
          let shown : text ≡ b ∷ rest = rw (byte_plain b plain) at same in
          absurd (plain_no_percent b plain (cc))
      | inr escaped ↦
          let shown : text ≡ 37 ∷ (pair_text b ++ rest) = rw (byte_escaped b escaped) at same in
          (escaped, cc)
    ]

-- a byte that stands for itself
pub plain_in_front : (text : List ℕ) (first : ℕ) (others : List ℕ) → text ≡ first ∷ others → stands_for_itself first ≡ true → text ≡ byte_text first ++ others
plain_in_front text first others whole plain = rw (byte_plain first plain) whole

pub nothing_in_front : (text : List ℕ) (first : ℕ) (others : List ℕ) (b : ℕ) (rest : List ℕ) → text ≡ first ∷ others → (first ≡ 37 → ⊥) → stands_for_itself first ≡ false → text ≡ byte_text b ++ rest → ⊥
nothing_in_front text first others b rest whole no_percent not_plain same =
    elim (cases (stands_for_itself b)) [
      | inl plain ↦
          let shown : text ≡ b ∷ rest = rw (byte_plain b plain) at same in
          let is : b ≡ first = cc in
          false≢true (sym not_plain ∙ ap stands_for_itself (sym is) ∙ plain)
      | inr escaped ↦
          let shown : text ≡ 37 ∷ (pair_text b ++ rest) = rw (byte_escaped b escaped) at same in
          no_percent (cc)
    ]

-- no byte stands behind `%` that stands for itself
pub plain_behind_percent : (text : List ℕ) (first : ℕ) (others : List ℕ) (byte : ℕ) (behind : List ℕ) (b : ℕ) (rest : List ℕ) → text ≡ first ∷ others → first ≡ 37 → byte < 256 → others ≡ pair_text byte ++ behind → stands_for_itself byte ≡ true → b < 256 → text ≡ byte_text b ++ rest → ⊥
plain_behind_percent text first others byte behind b rest whole is_percent small_byte digits plain small same =
    let read = behind_percent text first others b rest whole is_percent same in
    let one = (pair_splits b byte rest behind small small_byte (sym read.1 ∙ digits)).0 in
    false≢true (sym read.0 ∙ ap stands_for_itself one ∙ plain)

-- ---- texts of bytes

-- a byte's text is read in one way
pub record IsRead (spelled : ℕ → List ℕ) : Type 0 where
  pub splits : (a b : ℕ) (u v : List ℕ) → a < 256 → b < 256 → spelled a ++ u ≡ spelled b ++ v → (a ≡ b) × (u ≡ v)
  pub not_empty : (b : ℕ) (rest : List ℕ) → [] ≡ spelled b ++ rest → ⊥

pub pairs_read : IsRead pair_text
pairs_read = record { splits = pair_splits; not_empty = pair_not_empty }

pub bytes_read : IsRead byte_text
bytes_read = record { splits = byte_splits; not_empty = byte_not_empty }

-- a byte that is read makes what is left shorter
pub shorter : (spelled : ℕ → List ℕ) → IsRead spelled → (rest : List ℕ) (b : ℕ) (others : List ℕ) → rest ≡ spelled b ++ others → length others < length rest
shorter spelled read rest b others same = go (spelled b) refl
  where
    go : (text : List ℕ) → spelled b ≡ text → length others < length rest
    go [] is = absurd (read.not_empty b [] (sym (append-nil (spelled b) ∙ is)))
    go (a ∷ text) is =
        let shown : rest ≡ a ∷ text ++ others = same ∙ ap (λ front. front ++ others) is in
        rw shown (omega (arith, length-append text others))

-- what is left of bytes behind those that were read
pub record Left (spelled : ℕ → List ℕ) (done all rest : List ℕ) : Type 0 where
  pub tail : List ℕ
  pub bytes : AreBytes tail
  pub all_is : all ≡ done ++ tail
  pub rest_is : rest ≡ flat_map spelled tail

pub left_behind : (spelled : ℕ → List ℕ) → IsRead spelled → (done all rest : List ℕ) → AreBytes done → AreBytes all → flat_map spelled all ≡ flat_map spelled done ++ rest → Left spelled done all rest
left_behind spelled read [] all rest small_done small_all same = record { tail = all; bytes = small_all; all_is = refl; rest_is = sym same }
left_behind spelled read (d ∷ done) [] rest small_done small_all same = absurd (read.not_empty d (flat_map spelled done ++ rest) (same ∙ append_assoc (spelled d) (flat_map spelled done) rest))
left_behind spelled read (d ∷ done) (a ∷ all) rest small_done small_all same =
    let parts = read.splits a d (flat_map spelled all) (flat_map spelled done ++ rest) small_all.0 small_done.0 (same ∙ append_assoc (spelled d) (flat_map spelled done) rest) in
    let others = left_behind spelled read done all rest small_done.1 small_all.1 parts.1 in
    let heads : a ≡ d = parts.0 in
    let tails : all ≡ done ++ others.tail = others.all_is in
    record { tail = others.tail; bytes = others.bytes; all_is = cc; rest_is = others.rest_is }

-- one more byte is read
pub read_more : {X A : Type 0} (spelled : X → List A) (text : List A) (done : List X) (rest others : List A) (b : X) → text ≡ flat_map spelled done ++ rest → rest ≡ spelled b ++ others → text ≡ flat_map spelled (done ++ b ∷ []) ++ others
read_more spelled text done rest others b so_far next =
    let parts : flat_map spelled (done ++ b ∷ []) ≡ flat_map spelled done ++ flat_map spelled (b ∷ []) = flat_map-append spelled done (b ∷ []) in
    rw (parts, append-nil (spelled b), append_assoc) (so_far ∙ ap (λ more. flat_map spelled done ++ more) next)

-- no byte more can be read where there is none at the front
pub stuck : (spelled : ℕ → List ℕ) → IsRead spelled → (text done rest all : List ℕ) → AreBytes done → AreBytes all → text ≡ flat_map spelled done ++ rest → text ≡ flat_map spelled all → ((b : ℕ) (others : List ℕ) → b < 256 → rest ≡ spelled b ++ others → ⊥) → (rest ≡ [] → ⊥) → ⊥
stuck spelled read text done rest all small_done small_all so_far whole none some =
    let behind = left_behind spelled read done all rest small_done small_all (sym whole ∙ so_far) in
    ended behind.tail behind.bytes behind.rest_is
  where
    ended : (tail : List ℕ) → AreBytes tail → rest ≡ flat_map spelled tail → ⊥
    ended [] small is = some is
    ended (b ∷ tail) small is = none b (flat_map spelled tail) small.0 is

-- bytes that were all read are the only ones
pub only_bytes : (spelled : ℕ → List ℕ) → IsRead spelled → (done all : List ℕ) → AreBytes done → AreBytes all → flat_map spelled all ≡ flat_map spelled done → all ≡ done
only_bytes spelled read done all small_done small_all same =
    let behind = left_behind spelled read done all [] small_done small_all (same ∙ sym (append-nil (flat_map spelled done))) in
    let none : behind.tail ≡ [] = empty behind.tail behind.rest_is in
    behind.all_is ∙ ap (λ tail. done ++ tail) none ∙ append-nil done
  where
    empty : (tail : List ℕ) → [] ≡ flat_map spelled tail → tail ≡ []
    empty [] is = refl
    empty (b ∷ tail) is = absurd (read.not_empty b (flat_map spelled tail) is)

pub encode_lower_flat : (bytes : List ℕ) → encode_lower bytes ≡ flat_map pair_text bytes
unfolding pair_text encode_with
encode_lower_flat [] = refl
encode_lower_flat (b ∷ bytes) = ap (λ rest. slice_index lower_digits (b / 16) ∷ slice_index lower_digits (b % 16) ∷ rest) (encode_lower_flat bytes)

pub not_in_nothing : (text : List ℕ) → length text ≡ 0 → [] ≡ text
not_in_nothing [] none = refl
not_in_nothing (a ∷ text) none = absurd (omega arith)

-- ---- data

-- the text of data begins with an `x`
pub data_front : (word : List ℕ) (bytes : List ℕ) → word ≡ data_text bytes → word ≡ 120 ∷ flat_map pair_text bytes
unfolding data_text
data_front word bytes same = same ∙ ap (λ digits. 120 ∷ digits) (encode_lower_flat bytes)

pub data_whole : (word bytes rest : List ℕ) → word ≡ 120 ∷ (flat_map pair_text bytes ++ rest) → length rest ≡ 0 → word ≡ data_text bytes
unfolding data_text
data_whole word bytes rest read none =
    read ∙ ap (λ tail. 120 ∷ (flat_map pair_text bytes ++ tail)) (sym (not_in_nothing rest none)) ∙ ap (λ digits. 120 ∷ digits) (append-nil (flat_map pair_text bytes) ∙ sym (encode_lower_flat bytes))

-- data's text has no more digits where no byte follows
pub data_stuck : (word done rest bytes : List ℕ) → AreBytes done → AreBytes bytes → word ≡ 120 ∷ (flat_map pair_text done ++ rest) → word ≡ data_text bytes → ((b : ℕ) (others : List ℕ) → b < 256 → rest ≡ pair_text b ++ others → ⊥) → (rest ≡ [] → ⊥) → ⊥
data_stuck word done rest bytes small_done small_bytes read same none some =
    let whole = data_front word bytes same in
    let digits : flat_map pair_text bytes ≡ flat_map pair_text done ++ rest = cc in
    stuck pair_text pairs_read (flat_map pair_text bytes) done rest bytes small_done small_bytes digits refl none some

-- ---- names

pub name_whole : (word bytes rest : List ℕ) → word ≡ flat_map byte_text bytes ++ rest → length rest ≡ 0 → word ≡ name_text bytes
unfolding name_text
name_whole word bytes rest read none =
    read ∙ ap (λ tail. flat_map byte_text bytes ++ tail) (sym (not_in_nothing rest none)) ∙ append-nil (flat_map byte_text bytes)

pub name_front : (word bytes : List ℕ) → word ≡ name_text bytes → word ≡ flat_map byte_text bytes
unfolding name_text
name_front word bytes same = same

pub name_stuck : (word done rest name : List ℕ) → AreBytes done → AreBytes name → word ≡ flat_map byte_text done ++ rest → word ≡ name_text name → ((b : ℕ) (others : List ℕ) → b < 256 → rest ≡ byte_text b ++ others → ⊥) → (rest ≡ [] → ⊥) → ⊥
name_stuck word done rest name small_done small_name read same none some =
    stuck byte_text bytes_read word done rest name small_done small_name read (name_front word name same) none some

-- a text is that of one name
pub one_name : (word a b : List ℕ) → AreBytes a → AreBytes b → word ≡ name_text a → word ≡ name_text b → a ≡ b
one_name word a b small_a small_b is_a is_b =
    only_bytes byte_text bytes_read b a small_b small_a (sym (name_front word a is_a) ∙ name_front word b is_b)

pub one_data : (word a b : List ℕ) → AreBytes a → AreBytes b → word ≡ data_text a → word ≡ data_text b → a ≡ b
one_data word a b small_a small_b is_a is_b =
    let front_a = data_front word a is_a in
    let front_b = data_front word b is_b in
    only_bytes pair_text pairs_read b a small_b small_a (cc)

-- ---- tests of emptiness

pub some_left : (rest : List ℕ) → false ≡ (length rest == 0) → rest ≡ [] → ⊥
some_left rest test none = false≢true (test ∙ ap (λ xs. length xs == 0) none)

pub none_left : (rest : List ℕ) → true ≡ (length rest == 0) → length rest ≡ 0
none_left rest test = eqb-true (length rest) 0 (sym test)
