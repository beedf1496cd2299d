-- Parts of bytes with others laid over them.
use Rattle.std.proofs.Common.{◌≡◌, ℕ, ◌+◌, ◌-◌, ◌≤◌, List, [], ◌∷◌, ◌++◌, length, take, drop, refl, sym, ap, ◌∙◌, arith, append_assoc}
use Rattle.std.specs.Prelude.{slice_range}
use Rattle.std.proofs.lemmas.List.{take_at, drop_at, take-take, drop-take, drop-drop, length-take-le, length-append}
use Rattle.sea_device.specs.Device.{overwritten}

-- a part of a front
pub front_part : (image other : List ℕ) (from count whole : ℕ) → from + count ≤ whole → take whole other ≡ take whole image → take count (drop from other) ≡ take count (drop from image)
front_part image other from count whole within same =
    let front : (bytes : List ℕ) → take count (drop from bytes) ≡ drop from (take (from + count) (take whole bytes)) = λ bytes. sym (drop-take from count bytes) ∙ ap (drop from) (sym (take-take (from + count) whole bytes within)) in
    front other ∙ ap (λ (b : List ℕ). drop from (take (from + count) b)) same ∙ sym (front image)

front_kept : (at : ℕ) (bytes old : List ℕ) → at ≤ length old → take at (overwritten at bytes old) ≡ take at old
front_kept at bytes old within =
    ap (take at) (append_assoc (take at old) bytes (drop (at + length bytes) old)) ∙ take_at (take at old) (bytes ++ drop (at + length bytes) old) at (length-take-le at old within)

back_kept : (at : ℕ) (bytes old : List ℕ) → at + length bytes ≤ length old → drop (at + length bytes) (overwritten at bytes old) ≡ drop (at + length bytes) old
back_kept at bytes old within =
    let front = length-take-le at old (omega arith) in
    drop_at (take at old ++ bytes) (drop (at + length bytes) old) (at + length bytes) (omega (arith, length-append (take at old) bytes))

pub slice_before : (at i j : ℕ) (bytes old : List ℕ) → i ≤ j → j ≤ at → at ≤ length old → slice_range (overwritten at bytes old) i j ≡ slice_range old i j
slice_before at i j bytes old order before within =
    front_part old (overwritten at bytes old) i (j - i) at (omega arith) (front_kept at bytes old within)

pub slice_behind : (at i j : ℕ) (bytes old : List ℕ) → at + length bytes ≤ i → at + length bytes ≤ length old → slice_range (overwritten at bytes old) i j ≡ slice_range old i j
slice_behind at i j bytes old behind within =
    let rest = i - (at + length bytes) in
    let split : (b : List ℕ) → drop i b ≡ drop rest (drop (at + length bytes) b) = λ b. ap (λ (n : ℕ). drop n b) (omega arith) ∙ sym (drop-drop rest (at + length bytes) b) in
    ap (take (j - i)) (split (overwritten at bytes old) ∙ ap (drop rest) (back_kept at bytes old within) ∙ sym (split old))

pub slice_inside : (at i j : ℕ) (bytes old : List ℕ) → at ≤ i → i ≤ j → j ≤ at + length bytes → at ≤ length old → slice_range (overwritten at bytes old) i j ≡ slice_range bytes (i - at) (j - at)
slice_inside at i j bytes old from order to within =
    let tail = drop (at + length bytes) old in
    let here : drop at (overwritten at bytes old) ≡ bytes ++ tail =
    ap (drop at) (append_assoc (take at old) bytes tail) ∙ drop_at (take at old) (bytes ++ tail) at (length-take-le at old within) in
    let split : drop i (overwritten at bytes old) ≡ drop (i - at) (bytes ++ tail) =
    ap (λ (n : ℕ). drop n (overwritten at bytes old)) (omega arith) ∙ sym (drop-drop (i - at) at (overwritten at bytes old)) ∙ ap (drop (i - at)) here in
    let count : j - i ≡ (j - at) - (i - at) = omega arith in
    ap (take (j - i)) split ∙ front_part bytes (bytes ++ tail) (i - at) (j - i) (length bytes) (omega arith) (take_at bytes tail (length bytes) refl ∙ sym (take_at bytes [] (length bytes) refl) ∙ ap (take (length bytes)) (append-none bytes)) ∙ ap (λ (n : ℕ). take n (drop (i - at) bytes)) count
  where
    append-none : (xs : List ℕ) → xs ++ [] ≡ xs
    append-none [] = refl
    append-none (x ∷ xs) = ap (λ (r : List ℕ). x ∷ r) (append-none xs)
