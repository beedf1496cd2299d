use Rattle.std.proofs.Common.{[], ◌≡◌, ◌==◌, ◌<◌, ◌+◌, ◌-◌, ◌∷◌, ℕ, Bool, List, length, take, drop, Some, None, sym, arith}
use Rattle.std.proofs.lemmas.Grind.{common_steps}
use Rattle.std.proofs.lemmas.List.Sums.{fails_before_first}
use Rattle.std.proofs.lemmas.List.Splits.{slice_split_none, slice_split_first}
use Rattle.std.specs.List.{position, position_or_len, slice_split}
use Rattle.sea_plain_script.proofs.script.parts.cut.Goals as goal

whole : (p : ℕ → Bool) (xs : List ℕ) → position p xs ≡ None → slice_split p xs ≡ xs ∷ []
whole p xs none = slice_split_none p xs (grind (arith, common_steps, fails_before_first p xs))

first : (p : ℕ → Bool) (xs : List ℕ) (i : ℕ) → position p xs ≡ Some i → slice_split p xs ≡ take i xs ∷ slice_split p (take (length xs - (i + 1)) (drop (i + 1) xs))
first p xs i some =
    let short : position_or_len p xs < length xs = grind (arith, common_steps) in
    let here : position_or_len p xs ≡ i = grind (arith, common_steps) in
    let tail : take (length xs - (i + 1)) (drop (i + 1) xs) ≡ drop (i + 1) xs = grind (arith, common_steps) in
    rw tail (rw (← here) (slice_split_first p xs 0 short))

pub returns-in-None : goal.returns-in-None
returns-in-None c = whole (λ b. b == c.args.separator) c.args.bytes.now (sym c.in-None.ensures)

pub returns-in-Some : goal.returns-in-Some
returns-in-Some c = first (λ b. b == c.args.separator) c.args.bytes.now c.in-Some.end (sym c.in-Some.ensures)
