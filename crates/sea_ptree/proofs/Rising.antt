-- Entries whose keys rise strictly between two numbers.
use Rattle.std.proofs.Common.{ℕ, ◌+◌, ◌<◌, ◌≤◌, ◌^◌, Bool, true, false, ◌&&◌, List, [], ◌∷◌, ◌++◌, refl, arith, IsTrue}
use Rattle.std.specs.List.{AllByRecursion}
use Rattle.std.specs.Ordering.{nat_cmp, is_lt}
use Rattle.std.specs.FinMap.Entries.{below_all, is_sorted}
use Rattle.std.proofs.lemmas.Bool.Decides.{nat_tests}
use Rattle.sea_ptree.specs.Node.{Entry, Fits, IsRising}

-- the keys are at least `low`, below `high`, and rise strictly
abbrev pub Lie : ℕ → ℕ → List Entry → Type 0
Lie low high [] = low ≤ high
Lie low high (e ∷ es) = (low ≤ e.0) × Lie (e.0 + 1) high es

pub Lie-bounds : (low high : ℕ) (es : List Entry) → Lie low high es → low ≤ high
Lie-bounds low high [] lie = lie
Lie-bounds low high (e ∷ es) lie = omega (arith, Lie-bounds (e.0 + 1) high es lie.1)

pub Lie-weaker : (low low' high high' : ℕ) (es : List Entry) → low' ≤ low → high ≤ high' → Lie low high es → Lie low' high' es
Lie-weaker low low' high high' [] le le' lie = omega arith
Lie-weaker low low' high high' (e ∷ es) le le' lie = (omega arith, Lie-weaker (e.0 + 1) (e.0 + 1) high high' es (omega arith) le' lie.1)

pub Lie-append : (low mid high : ℕ) (es fs : List Entry) → Lie low mid es → Lie mid high fs → Lie low high (es ++ fs)
Lie-append low mid high [] fs lie lie' = Lie-weaker mid low high high fs lie (omega arith) lie'
Lie-append low mid high (e ∷ es) fs lie lie' = (lie.0, Lie-append (e.0 + 1) mid high es fs lie.1 lie')

-- two parts, with a number between them
pub record LieApart (low high : ℕ) (es fs : List Entry) : Type 0 where
  pub mid : ℕ
  pub front : Lie low mid es
  pub back : Lie mid high fs

pub Lie-split : (low high : ℕ) (es fs : List Entry) → Lie low high (es ++ fs) → LieApart low high es fs
Lie-split low high [] fs lie = record { mid = low; front = omega arith; back = lie }
Lie-split low high (e ∷ es) fs lie =
    let rest = Lie-split (e.0 + 1) high es fs lie.1 in
    record { mid = rest.mid; front = (lie.0, rest.front); back = rest.back }

-- ---- the same as the order of a finite map

pub both : (a b : Bool) → IsTrue a → IsTrue b → IsTrue (a && b)
both true b p q = q
both false b p q = p

pub first_of : (a b : Bool) → IsTrue (a && b) → IsTrue a
first_of true b p = refl
first_of false b p = p

pub second_of : (a b : Bool) → IsTrue (a && b) → IsTrue b
second_of true b p = p
second_of false b p = absurd cc

pub less_told : (a b : ℕ) → IsTrue (is_lt (nat_cmp a b)) → a < b
less_told a b h = grind (arith, nat_tests)

pub less_shown : (a b : ℕ) → a < b → IsTrue (is_lt (nat_cmp a b))
less_shown a b h = grind (arith, nat_tests)

below_all_shown : (key low high : ℕ) (es : List Entry) → key < low → Lie low high es → IsTrue (below_all nat_cmp key es)
below_all_shown key low high [] lt lie = refl
below_all_shown key low high (e ∷ es) lt lie =
    both _ _ (less_shown key e.0 (omega arith)) (below_all_shown key (e.0 + 1) high es (omega arith) lie.1)

pub Lie-rising : (low high : ℕ) (es : List Entry) → Lie low high es → IsRising es
Lie-rising low high [] lie = refl
Lie-rising low high (e ∷ es) lie = both _ _ (below_all_shown e.0 (e.0 + 1) high es (omega arith) lie.1) (Lie-rising (e.0 + 1) high es lie.1)

pub rising-Lie : (low : ℕ) (es : List Entry) → AllByRecursion Fits es → low ≤ 2 ^ 64 → IsTrue (is_sorted nat_cmp es) → AllByRecursion (λ e. low ≤ e.0) es → Lie low (2 ^ 64) es
rising-Lie low [] fits le rising above = le
rising-Lie low (e ∷ es) fits le rising above =
    (above.0, rising-Lie (e.0 + 1) es fits.1 (omega (arith, fits.0.key)) (second_of _ _ rising) (all_above es (first_of _ _ rising)))
  where
    all_above : (fs : List Entry) → IsTrue (below_all nat_cmp e.0 fs) → AllByRecursion (λ f. e.0 + 1 ≤ f.0) fs
    all_above [] h = tt
    all_above (f ∷ fs) h = (let lt = less_told e.0 f.0 (first_of _ _ h) in omega arith, all_above fs (second_of _ _ h))

pub rising_from_zero : (es : List Entry) → AllByRecursion Fits es → IsRising es → Lie 0 (2 ^ 64) es
rising_from_zero es fits rising = rising-Lie 0 es fits (omega arith) rising (any es)
  where
    any : (fs : List Entry) → AllByRecursion (λ f. 0 ≤ f.0) fs
    any [] = tt
    any (f ∷ fs) = (omega arith, any fs)
