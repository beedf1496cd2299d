-- Parts of byte strings, and when two are the same.
use Rattle.std.proofs.Common.{◌≡◌, Bool, true, false, ℕ, zero, suc, ◌+◌, ◌-◌, ◌≤◌, ◌<◌, List, [], ◌∷◌, ◌++◌, get_or, length, take, drop, replicate, refl, sym, ap, ◌∙◌, arith}
use Rattle.std.specs.Prelude.{slice_range, not}
use Rattle.std.specs.Str.{bytes_eq}
use Rattle.std.proofs.lemmas.List.{take_at, drop_at, take-take, drop-take, drop-drop, take-append-drop, length-take-le, length-drop, length-replicate}
use Rattle.std.proofs.lemmas.Slice.Eq.{bytes_eq-Decides}

-- what stands behind a front
pub slice_at : (front x rest : List ℕ) (at to : ℕ) → length front ≡ at → at + length x ≡ to → slice_range (front ++ (x ++ rest)) at to ≡ x
slice_at front x rest at to l m =
    ap (take (to - at)) (drop_at front (x ++ rest) at l) ∙ take_at x rest (to - at) (omega arith)

-- a part, and the part behind it
pub slice_then : (bytes : List ℕ) (i j k : ℕ) → i ≤ j → j ≤ k → slice_range bytes i j ++ slice_range bytes j k ≡ slice_range bytes i k
slice_then bytes i j k le le' =
    let whole = take (k - i) (drop i bytes) in
    let front : take (j - i) whole ≡ take (j - i) (drop i bytes) = take-take (j - i) (k - i) (drop i bytes) (omega arith) in
    let back : drop (j - i) whole ≡ take (k - j) (drop j bytes) =
    ap (λ (n : ℕ). drop (j - i) (take n (drop i bytes))) (omega arith) ∙ drop-take (j - i) (k - j) (drop i bytes) ∙ ap (take (k - j)) (drop-drop (j - i) i bytes ∙ ap (λ (n : ℕ). drop n bytes) (omega arith)) in
    ap (λ (f : List ℕ). f ++ take (k - j) (drop j bytes)) (sym front) ∙ ap (λ (r : List ℕ). take (j - i) whole ++ r) (sym back) ∙ take-append-drop (j - i) whole

pub length-slice : (bytes : List ℕ) (i j : ℕ) → i ≤ j → j ≤ length bytes → length (slice_range bytes i j) ≡ j - i
length-slice bytes i j le within = length-take-le (j - i) (drop i bytes) (omega (arith, length-drop i bytes))

-- fronts of one length are the same, and so are the rests
pub same_parts : {A : Type 0} (xs ys rs ss : List A) → length xs ≡ length ys → xs ++ rs ≡ ys ++ ss → (xs ≡ ys) × (rs ≡ ss)
same_parts xs ys rs ss len e = (
  sym (take_at xs rs (length ys) len) ∙ ap (take (length ys)) e ∙ take_at ys ss (length ys) refl,
  sym (drop_at xs rs (length ys) len) ∙ ap (drop (length ys)) e ∙ drop_at ys ss (length ys) refl,
)

-- what a comparison of two byte strings tells
pub differing : (xs ys : List ℕ) (r : Bool) → r ≡ not (bytes_eq xs ys) → r ≡ true → xs ≡ ys → ⊥
differing xs ys r e differ same = never (bytes_eq xs ys) ((bytes_eq-Decides xs ys).1 same) (sym e ∙ differ)
  where
    never : (b : Bool) → b ≡ true → not b ≡ true → ⊥
    never true e f = cc
    never false e f = cc

pub equal : (xs ys : List ℕ) (r : Bool) → r ≡ not (bytes_eq xs ys) → r ≡ false → xs ≡ ys
equal xs ys r e same = (bytes_eq-Decides xs ys).0 (told (bytes_eq xs ys) (sym e ∙ same))
  where
    told : (b : Bool) → not b ≡ false → b ≡ true
    told true e = refl
    told false e = absurd cc

-- zeros, by their length and by a number
pub zeros_long : (xs : List ℕ) (n : ℕ) → xs ≡ replicate n 0 → xs ≡ replicate (length xs) 0
zeros_long xs n e = e ∙ ap (λ (k : ℕ). replicate k 0) (sym (ap length e ∙ length-replicate {A = ℕ} n 0))

-- zeros, index by index
pub zeros_each : (xs : List ℕ) → ((k : ℕ) → k < length xs → get_or xs k 0 ≡ 0) → xs ≡ replicate (length xs) 0
zeros_each [] each = refl
zeros_each (x ∷ xs) each = λ i. each 0 (omega arith) i ∷ zeros_each xs (λ k within. each (suc k) (omega arith)) i

pub each_zero : (n k : ℕ) → get_or {A = ℕ} (replicate n 0) k 0 ≡ 0
each_zero zero k = refl
each_zero (suc n) zero = refl
each_zero (suc n) (suc k) = each_zero n k
