-- Sums over the clients, from 1 on.
use Rattle.std.proofs.Common.{◌≡◌, ◌≢◌, ℕ, zero, suc, ◌+◌, ◌-◌, ◌*◌, ◌≤◌, inl, inr, Bool, true, false, cond, List, [], ◌∷◌, length, eqb, refl, ap, arith}
use Rattle.std.specs.List.{AllByRecursion}
use Rattle.std.proofs.lemmas.Bool.Decides.{eqb_tells}
use Rattle.std.proofs.lemmas.List.Sums.{sum_by-cons}
use Rattle.sea_history.specs.declared.history.Entry.{Entry}
use Rattle.sea_engine.specs.Turns.{is_done, is_done_by_other, done_by_others}

abbrev pub total : ℕ → (ℕ → ℕ) → ℕ
total zero f = 0
total (suc n) f = total n f + f (suc n)

pub total_plus : (n : ℕ) (f g : ℕ → ℕ) → total n (λ c. f c + g c) ≡ total n f + total n g
total_plus zero f g = refl
total_plus (suc n) f g = let h = total_plus n f g in omega (arith, h)

pub total_le : (n : ℕ) (f g : ℕ → ℕ) → ((c : ℕ) → f c ≤ g c) → total n f ≤ total n g
total_le zero f g le = omega arith
total_le (suc n) f g le = let h = total_le n f g le in let l = le (suc n) in omega (arith, h, l)

pub total_zero : (n : ℕ) (f : ℕ → ℕ) → ((c : ℕ) → c ≤ n → f c ≡ 0) → total n f ≡ 0
total_zero zero f all = refl
total_zero (suc n) f all =
    let h = total_zero n f (λ c few. all c (omega (arith, few))) in
    let l = all (suc n) (omega arith) in
    omega (arith, h, l)

total_ones : (n : ℕ) (f : ℕ → ℕ) → ((c : ℕ) → f c ≤ 1) → total n f ≤ n
total_ones zero f all = omega arith
total_ones (suc n) f all = let h = total_ones n f all in let l = all (suc n) in omega (arith, h, l)

not_last : (q n : ℕ) → q ≤ suc n → suc n ≢ q → q ≤ n
not_last q n few apart =
    elim (eqb_tells (suc n) q) [
      | inl same ↦ absurd (apart same.1)
      | inr other ↦ grind arith
    ]

one_at_most : (b : Bool) → cond b 1 0 ≤ 1
one_at_most true = omega arith
one_at_most false = omega arith

-- something for one client alone
pub total_at : (n q x : ℕ) → 1 ≤ q → q ≤ n → total n (λ c. cond (eqb c q) x 0) ≡ x
total_at zero q x some few = absurd (omega arith)
total_at (suc n) q x some few =
    elim (eqb_tells (suc n) q) [
      | inl own ↦
          let none : (c : ℕ) → c ≤ n → cond (eqb c q) x 0 ≡ 0 = λ c within. elim (eqb_tells c q) [
            | inl same ↦ let e = same.1 in let f = own.1 in absurd (omega (arith, within, e, f))
            | inr other ↦ ap (λ b. cond b x 0) other.0
          ] in
          let before = total_zero n (λ c. cond (eqb c q) x 0) none in
          let this : cond (eqb (suc n) q) x 0 ≡ x = ap (λ b. cond b x 0) own.0 in
          omega (arith, before, this)
      | inr other ↦
          let apart = other.1 in
          let within : q ≤ n = not_last q n few apart in
          let before = total_at n q x some within in
          let this : cond (eqb (suc n) q) x 0 ≡ 0 = ap (λ b. cond b x 0) other.0 in
          omega (arith, before, this)
    ]

-- one at most for each client but one
pub total_but : (n q : ℕ) (d : Bool) → 1 ≤ q → q ≤ n → total n (λ c. cond (cond (eqb c q) false d) 1 0) ≤ n - 1
total_but zero q d some few = absurd (omega arith)
total_but (suc n) q d some few =
    let f : ℕ → ℕ = λ c. cond (cond (eqb c q) false d) 1 0 in
    let each : (c : ℕ) → f c ≤ 1 = λ c. one_at_most (cond (eqb c q) false d) in
    elim (eqb_tells (suc n) q) [
      | inl own ↦
          let before = total_ones n f each in
          let this : f (suc n) ≡ 0 = ap (λ b. cond (cond b false d) 1 0) own.0 in
          omega (arith, before, this)
      | inr other ↦
          let within : q ≤ n = not_last q n few other.1 in
          let before = total_but n q d some within in
          let this = each (suc n) in
          omega (arith, before, this, within, some)
    ]

-- requests that others did, over all clients
more_each : (a l t u : ℕ) → t ≤ a → u ≤ a * l → t + u ≤ a * suc l
more_each a l t u one rest = omega arith

pub total_done : (n : ℕ) (es : List Entry) → AllByRecursion (λ entry. (1 ≤ entry.client) × (entry.client ≤ n)) es → total n (λ c. done_by_others c es) ≤ (n - 1) * length es
total_done n [] known =
    let none = total_zero n (λ c. done_by_others c []) (λ c few. refl) in omega (arith, none)
total_done n (e ∷ es) known =
    let split : total n (λ c. done_by_others c (e ∷ es)) ≤ total n (λ c. cond (is_done_by_other c e) 1 0 + done_by_others c es) =
    total_le n (λ c. done_by_others c (e ∷ es)) (λ c. cond (is_done_by_other c e) 1 0 + done_by_others c es) (λ c. let same = sum_by-cons (λ x. cond (is_done_by_other c x) 1 0) e es in omega (arith, same)) in
    let both = total_plus n (λ c. cond (is_done_by_other c e) 1 0) (λ c. done_by_others c es) in
    let one = total_but n e.client (is_done e.reply) known.0.0 known.0.1 in
    let rest = total_done n es known.1 in
    let all = more_each (n - 1) (length es) (total n (λ c. cond (is_done_by_other c e) 1 0)) (total n (λ c. done_by_others c es)) one rest in
    omega (arith, split, both, all)
