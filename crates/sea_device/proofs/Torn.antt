-- Torn bytes, byte by byte.
use Rattle.std.proofs.Common.{◌≡◌, ◌⊎◌, ℕ, ◌+◌, ◌-◌, ◌<◌, ◌≤◌, List, ◌++◌, length, get_or, take, drop, sym, ◌∙◌, ap, inl, inr, arith}
use Rattle.std.proofs.lemmas.Bool.{cases_lt}
use Rattle.std.proofs.lemmas.List.{get_or-take, get_or-drop, get_or_append_left, get_or-append_right, length-take, length-take-le, length-drop, length-append, ext_get_or}
use Rattle.sea_device.specs.Device.{Torn, overwritten}
use Rattle.sea_device.specs.Images.{AreBytes, overwritten_torn}

-- a place before or behind a range
abbrev pub IsOutside : ℕ → ℕ → ℕ → Type 0
IsOutside at count i = (i < at) ⊎ (at + count ≤ i)

pub outside_torn : (at count : ℕ) (old new : List ℕ) → Torn at count old new → (i : ℕ) → IsOutside at count i → get_or new i 0 ≡ get_or old i 0
outside_torn at count old new torn i (inl lt) =
    sym (get_or-take at new i 0 lt) ∙ ap (λ (b : List ℕ). get_or b i 0) torn.before ∙ get_or-take at old i 0 lt
outside_torn at count old new torn i (inr le) =
    let here : (at + count) + (i - (at + count)) ≡ i = omega arith in
    let at_here = λ (b : List ℕ). get_or-drop (at + count) b (i - (at + count)) 0 ∙ ap (λ (k : ℕ). get_or b k 0) here in
    sym (at_here new) ∙ ap (λ (b : List ℕ). get_or b (i - (at + count)) 0) torn.after ∙ at_here old

pub torn_outside : (at count : ℕ) (old new : List ℕ) → length new ≡ length old → AreBytes new → ((i : ℕ) → IsOutside at count i → get_or new i 0 ≡ get_or old i 0) → Torn at count old new
torn_outside at count old new size fits same =
    record {
      size = size;
      before = ext_get_or 0 (take at new) (take at old) (length-take at new ∙ omega (arith, length-take at old)) (λ i lt.
          let below : i < at = omega (arith, length-take at new) in
          get_or-take at new i 0 below ∙ same i (inl below) ∙ sym (get_or-take at old i 0 below));
      after = ext_get_or 0 (drop (at + count) new) (drop (at + count) old) (length-drop (at + count) new ∙ omega (arith, length-drop (at + count) old)) (λ i lt.
          get_or-drop (at + count) new i 0 ∙ same (at + count + i) (inr (omega arith)) ∙ sym (get_or-drop (at + count) old i 0));
      fits = fits;
    }

-- the bytes laid over, and those beside them
pub inside_overwritten : (at : ℕ) (bytes old : List ℕ) → at + length bytes ≤ length old → (i : ℕ) → at ≤ i → i < at + length bytes → get_or (overwritten at bytes old) i 0 ≡ get_or bytes (i - at) 0
inside_overwritten at bytes old within i low high =
    let front = length-take-le at old (omega arith) in
    get_or_append_left (take at old ++ bytes) (drop (at + length bytes) old) 0 i (omega (arith, length-append (take at old) bytes)) ∙ get_or-append_right (take at old) bytes at i 0 front low

pub outside_overwritten : (at : ℕ) (bytes old : List ℕ) → at + length bytes ≤ length old → AreBytes bytes → AreBytes old → (i : ℕ) → IsOutside at (length bytes) i → get_or (overwritten at bytes old) i 0 ≡ get_or old i 0
outside_overwritten at bytes old within fb fo = outside_torn at (length bytes) old (overwritten at bytes old) (overwritten_torn at bytes old within fb fo)

cases_place : (at count i : ℕ) → ((at ≤ i) × (i < at + count)) ⊎ IsOutside at count i
cases_place at count i =
    elim (cases_lt i at) [
      | inl lt ↦ inr (inl lt)
      | inr le ↦ elim (cases_lt i (at + count)) [ inl lt ↦ inl (le, lt) | inr ge ↦ inr (inr ge) ]
    ]

-- bytes laid over within the range
pub torn_inside : (at count place : ℕ) (bytes old new : List ℕ) → AreBytes bytes → Torn at count old new → at ≤ place → place + length bytes ≤ at + count → place + length bytes ≤ length new → Torn at count old (overwritten place bytes new)
torn_inside at count place bytes old new fits torn low high within =
    let laid = overwritten_torn place bytes new within fits torn.fits in
    torn_outside at count old (overwritten place bytes new) (laid.size ∙ torn.size) laid.fits (λ i out.
    outside_overwritten place bytes new within fits torn.fits i (narrower i out) ∙ outside_torn at count old new torn i out)
  where
    narrower : (i : ℕ) → IsOutside at count i → IsOutside place (length bytes) i
    narrower i (inl lt) = inl (omega arith)
    narrower i (inr le) = inr (omega arith)

-- bytes laid over both
pub torn_both : (at count place : ℕ) (bytes old new : List ℕ) → AreBytes bytes → AreBytes old → Torn at count old new → place + length bytes ≤ length old → Torn at count (overwritten place bytes old) (overwritten place bytes new)
torn_both at count place bytes old new fits fo torn within =
    let room : place + length bytes ≤ length new = omega (arith, torn.size) in
    let a = overwritten_torn place bytes old within fits fo in
    let b = overwritten_torn place bytes new room fits torn.fits in
    torn_outside at count (overwritten place bytes old) (overwritten place bytes new) (b.size ∙ torn.size ∙ sym a.size) b.fits (λ i out.
    elim (cases_place place (length bytes) i) as (λ _. get_or (overwritten place bytes new) i 0 ≡ get_or (overwritten place bytes old) i 0) [
      | inl here ↦ inside_overwritten place bytes new room i here.0 here.1 ∙ sym (inside_overwritten place bytes old within i here.0 here.1)
      | inr apart ↦ outside_overwritten place bytes new room fits torn.fits i apart ∙ outside_torn at count old new torn i out ∙ sym (outside_overwritten place bytes old within fits fo i apart)
    ])
