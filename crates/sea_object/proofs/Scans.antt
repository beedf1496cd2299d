-- A test of the operations that are left, one step on.
use Rattle.std.proofs.Common.{◌≡◌, ℕ, ◌+◌, ◌<◌, Bool, true, false, List, ◌∷◌, length, get_or, drop, refl, sym, ap, ◌∙◌}
use Rattle.std.specs.Prelude.{◌||◌}
use Rattle.std.specs.List.{list_any}
use Rattle.std.proofs.lemmas.List.{at_drop_more}

pub any_first : {X : Type 0} (p : X → Bool) (xs : List X) (i : ℕ) (x : X) → i < length xs → x ≡ get_or xs i x → list_any p (drop i xs) ≡ (p x || list_any p (drop (i + 1) xs))
any_first p xs i x within is = at_drop_more (list_any p) xs i x within ∙ ap (λ first. p first || list_any p (drop (i + 1) xs)) (sym is)

-- it passes, and settles the answer
pub any_here : {X : Type 0} (p : X → Bool) (xs : List X) (i : ℕ) (x : X) → i < length xs → x ≡ get_or xs i x → true ≡ p x → true ≡ list_any p (drop i xs)
any_here p xs i x within is passes =
    ap (λ b. b || list_any p (drop (i + 1) xs)) passes ∙ sym (any_first p xs i x within is)

-- it fails, and the answer is left to the others
pub any_later : {X : Type 0} (p : X → Bool) (xs : List X) (i : ℕ) (x : X) → i < length xs → x ≡ get_or xs i x → false ≡ p x → list_any p (drop (i + 1) xs) ≡ list_any p (drop i xs)
any_later p xs i x within is fails =
    ap (λ b. b || list_any p (drop (i + 1) xs)) fails ∙ sym (any_first p xs i x within is)
