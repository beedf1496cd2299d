-- Parts of the front of a block.
use Rattle.std.proofs.Common.{◌≡◌, ℕ, ◌-◌, ◌≤◌, List, take, drop, sym, ap, ◌∙◌, arith}
use Rattle.std.specs.Prelude.{slice_range}
use Rattle.std.proofs.lemmas.List.{drop-take, take-take}

-- a part that ends in the front is the front's
pub slice_of_front : (bytes : List ℕ) (n i j : ℕ) → i ≤ j → j ≤ n → slice_range bytes i j ≡ slice_range (take n bytes) i j
slice_of_front bytes n i j le within =
    sym (ap (take (j - i)) (ap (λ (k : ℕ). drop i (take k bytes)) (omega arith) ∙ drop-take i (n - i) bytes) ∙ take-take (j - i) (n - i) (drop i bytes) (omega arith))
