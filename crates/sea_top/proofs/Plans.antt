-- The plan of an input that was read as far as it may go.
use Rattle.std.proofs.Common.{◌≡◌, ◌⊎◌, ℕ, ◌≤◌, ◌<◌, List, [], ◌∷◌, ◌++◌, length, sym, ap, ◌∙◌, subst, arith, inl, inr, length-append}
use Rattle.std.specs.Prelude.{Option, Some, None, IfSome}
use Rattle.std.proofs.lemmas.List.{append-nil}
use Rattle.std.proofs.lemmas.Bool.{cases_lt}
use Rattle.sea_plain_script.specs.declared.plan.Asked.{Asked}
use Rattle.sea_top.specs.Causes.{IsAnyScript}
use Rattle.sea_top.specs.Input.{IsReadOut}
use Rattle.sea_top.specs.Planning.{IsPlanOf}
use Rattle.sea_plain_script.specs.Script.{Ask, IsScript, IsRefusedAt}
use Rattle.sea_top.specs.Serving.{AsksFirst}

-- each line asks for client 1
asks_first : (lines : List (List ℕ)) (plan : List Asked) → Ask lines plan → AsksFirst plan
asks_first [] plan ask = subst AsksFirst (sym ask) tt
asks_first (line ∷ lines) [] ask = tt
asks_first (line ∷ lines) (asked ∷ plan) (inl blank) = asks_first lines (asked ∷ plan) blank.1
asks_first (line ∷ lines) (asked ∷ plan) (inr asks) = (asks.0.client, asks_first lines plan asks.1)

-- what was read is the whole input, or longer than an input may be, as the input is then
read_out : (bytes input : List ℕ) (unread : Option (List ℕ)) → IsReadOut bytes (Some input) unread → ((input ≡ bytes) × (unread ≡ Some [])) ⊎ ((67108864 < length bytes) × (67108864 < length input))
read_out bytes input None read = absurd read.taken
read_out bytes input (Some left) read =
    elim (cases_lt (length bytes) 67108865) [
      | inl short ↦ inl (read.taken ∙ ap (λ (r : List ℕ). bytes ++ r) (read.whole short) ∙ append-nil bytes, ap (λ (r : List ℕ). Some r) (read.whole short))
      | inr long ↦ inr (omega arith, omega (arith, ap length read.taken, length-append bytes left))
    ]

pub plan_of : (bytes : List ℕ) (input unread : Option (List ℕ)) (plan : List Asked) → IsReadOut bytes input unread → IsScript bytes plan → IsPlanOf input unread plan
plan_of bytes None unread plan read script =
    record { first = asks_first _ plan script.asked; few = script.few; script = tt }
plan_of bytes (Some input) unread plan read script = record {
  first = asks_first _ plan script.asked;
  few = script.few;
  script = elim (read_out bytes input unread read) [
    | inl whole ↦ (subst (λ (b : List ℕ). IsScript b plan) (sym whole.0) script, whole.1)
    | inr long ↦ let short : length bytes ≤ 67108864 = script.short in absurd (omega (arith, long.0, short))
  ];
}

pub no_plan : (bytes : List ℕ) (input unread : Option (List ℕ)) (line : ℕ) → IsReadOut bytes input unread → IsRefusedAt bytes line → (IsAnyScript bytes → ⊥) → IfSome input (λ text. IsRefusedAt text line × (IsAnyScript text → ⊥))
no_plan bytes None unread line read refused none = tt
no_plan bytes (Some input) unread line read refused none =
    elim (read_out bytes input unread read) [
      | inl whole ↦ (subst (λ (b : List ℕ). IsRefusedAt b line) (sym whole.0) refused, λ any. none (subst IsAnyScript whole.0 any))
      | inr long ↦ (inl (zero_line long.0 refused, long.1), λ any. let short : length input ≤ 67108864 = any.1.short in absurd (omega (arith, long.1, short)))
    ]
  where
    zero_line : 67108864 < length bytes → IsRefusedAt bytes line → line ≡ 0
    zero_line long (inl too_long) = too_long.0
    zero_line long (inr other) = absurd (omega (arith, long, other.0))
