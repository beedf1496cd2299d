-- Addresses in order, as they are tested one after the other.
use Rattle.std.proofs.Common.{◌≡◌, ℕ, ◌+◌, ◌-◌, ◌<◌, ◌≤◌, List, length, get_or, ap, inl, inr, arith}
use Rattle.std.proofs.lemmas.Bool.{cases_lt}
use Rattle.sea_record.specs.Addresses.{IsRising, NeverFalls, IsApart}

-- of two below a place, the later is greater by this much at least
abbrev pub InOrder : ℕ → List ℕ → ℕ → Type 0
InOrder step xs n = (p q : ℕ) → p < q → q < n → get_or xs p 0 + step ≤ get_or xs q 0

pub ordered_none : (step : ℕ) (xs : List ℕ) → InOrder step xs 1
ordered_none step xs p q less below = absurd (omega arith)

pub ordered_more : (step : ℕ) (xs : List ℕ) (i : ℕ) → InOrder step xs i → 1 ≤ i → get_or xs (i - 1) 0 + step ≤ get_or xs i 0 → InOrder step xs (i + 1)
ordered_more step xs i so_far low next p q less below =
    elim (cases_lt q i) [
      | inl before ↦ so_far p q less before
      | inr last ↦ let at : get_or xs q 0 ≡ get_or xs i 0 = ap (λ (k : ℕ). get_or xs k 0) (omega arith) in
          elim (cases_lt p (i - 1)) [
            | inl further ↦ let step_to : get_or xs p 0 + step ≤ get_or xs (i - 1) 0 = so_far p (i - 1) further (omega arith) in omega arith
            | inr nearest ↦ let from : get_or xs p 0 ≡ get_or xs (i - 1) 0 = ap (λ (k : ℕ). get_or xs k 0) (omega arith) in omega arith
          ]
    ]

pub rising : (xs : List ℕ) (n : ℕ) → length xs ≤ n → InOrder 1 xs n → IsRising xs
rising xs n all so_far i j less below = let h : get_or xs i 0 + 1 ≤ get_or xs j 0 = so_far i j less (omega arith) in omega arith

pub never_falling : (xs : List ℕ) (n : ℕ) → length xs ≤ n → InOrder 0 xs n → NeverFalls xs
never_falling xs n all so_far i j less below = let h : get_or xs i 0 + 0 ≤ get_or xs j 0 = so_far i j less (omega arith) in omega arith

pub rises_never_falls : (xs : List ℕ) → IsRising xs → NeverFalls xs
rises_never_falls xs is i j less below = let h : get_or xs i 0 < get_or xs j 0 = is i j less below in omega arith

-- where two lists are gone through side by side: nothing before either place is in the other list
pub record Passed (xs ys : List ℕ) (i j : ℕ) : Type 0 where
  pub first : (p q : ℕ) → p < i → q < length ys → get_or xs p 0 ≡ get_or ys q 0 → ⊥
  pub second : (p q : ℕ) → p < length xs → q < j → get_or xs p 0 ≡ get_or ys q 0 → ⊥

pub passed_none : (xs ys : List ℕ) → Passed xs ys 0 0
passed_none xs ys = record { first = λ p q below within e. absurd (omega arith); second = λ p q within below e. absurd (omega arith) }

-- one more of the first, which is less
pub passed_first : (xs ys : List ℕ) (i j : ℕ) → NeverFalls ys → i < length xs → get_or xs i 0 < get_or ys j 0 → Passed xs ys i j → Passed xs ys (i + 1) j
passed_first xs ys i j falls within less passed = record { first = first; second = passed.second }
  where
    first : (p q : ℕ) → p < i + 1 → q < length ys → get_or xs p 0 ≡ get_or ys q 0 → ⊥
    first p q below in_ys e =
        elim (cases_lt p i) [
          | inl before ↦ passed.first p q before in_ys e
          | inr last ↦ let at : get_or xs p 0 ≡ get_or xs i 0 = ap (λ (k : ℕ). get_or xs k 0) (omega arith) in
              elim (cases_lt q j) [
                | inl gone ↦ passed.second p q (omega arith) gone e
                | inr there ↦ elim (cases_lt j q) [
                  | inl behind ↦ let up : get_or ys j 0 ≤ get_or ys q 0 = falls j q behind in_ys in omega arith
                  | inr here ↦ let same : get_or ys q 0 ≡ get_or ys j 0 = ap (λ (k : ℕ). get_or ys k 0) (omega arith) in omega arith
                ]
              ]
        ]

-- one more of the second, which is less
pub passed_second : (xs ys : List ℕ) (i j : ℕ) → NeverFalls xs → j < length ys → get_or ys j 0 < get_or xs i 0 → Passed xs ys i j → Passed xs ys i (j + 1)
passed_second xs ys i j falls within less passed = record { first = passed.first; second = second }
  where
    second : (p q : ℕ) → p < length xs → q < j + 1 → get_or xs p 0 ≡ get_or ys q 0 → ⊥
    second p q in_xs below e =
        elim (cases_lt q j) [
          | inl before ↦ passed.second p q in_xs before e
          | inr last ↦ let at : get_or ys q 0 ≡ get_or ys j 0 = ap (λ (k : ℕ). get_or ys k 0) (omega arith) in
              elim (cases_lt p i) [
                | inl gone ↦ passed.first p q gone (omega arith) e
                | inr there ↦ elim (cases_lt i p) [
                  | inl behind ↦ let up : get_or xs i 0 ≤ get_or xs p 0 = falls i p behind in_xs in omega arith
                  | inr here ↦ let same : get_or xs p 0 ≡ get_or xs i 0 = ap (λ (k : ℕ). get_or xs k 0) (omega arith) in omega arith
                ]
              ]
        ]

-- one list is gone through whole
pub apart_first : (xs ys : List ℕ) (i j : ℕ) → length xs ≤ i → Passed xs ys i j → IsApart xs ys
apart_first xs ys i j all passed p q in_xs in_ys e = passed.first p q (omega arith) in_ys e

pub apart_second : (xs ys : List ℕ) (i j : ℕ) → length ys ≤ j → Passed xs ys i j → IsApart xs ys
apart_second xs ys i j all passed p q in_xs in_ys e = passed.second p q in_xs (omega arith) e
