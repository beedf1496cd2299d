-- Lists cut where an element passes a test.
use Rattle.std.proofs.Common.{[], ◌≡◌, Bool, true, false, ◌<◌, ◌+◌, ◌-◌, ◌∷◌, ℕ, List, length, take, drop, Some, None, refl, ap, ◌∙◌, arith}
use Rattle.std.specs.Prelude.{map}
use Rattle.std.specs.Borrow.{Bor}
use Rattle.std.specs.List.{onto_first, position, position_or_len, slice_split}
use Rattle.std.proofs.lemmas.Grind.{common_steps}
use Rattle.std.proofs.lemmas.List.Sums.{fails_before_first}
use Rattle.std.proofs.lemmas.List.Splits.{slice_split_none, slice_split_first}
use Rattle.sea_script.specs.Reading.{seen}
use Rattle.sea_script.specs.Script.{is_mark, parts}

pub uncut : {X : Type 0} (p : X → Bool) (xs : List X) → position p xs ≡ None → slice_split p xs ≡ xs ∷ []
uncut p xs none = slice_split_none p xs (grind (arith, common_steps, fails_before_first p xs))

pub cut_at : {X : Type 0} (p : X → Bool) (xs : List X) (d : X) (i : ℕ) → position p xs ≡ Some i → slice_split p xs ≡ take i xs ∷ slice_split p (take (length xs - (i + 1)) (drop (i + 1) xs))
cut_at p xs d i some =
    let short : position_or_len p xs < length xs = grind (arith, common_steps) in
    let here : position_or_len p xs ≡ i = grind (arith, common_steps) in
    let tail : take (length xs - (i + 1)) (drop (i + 1) xs) ≡ drop (i + 1) xs = grind (arith, common_steps) in
    rw tail (rw (← here) (slice_split_first p xs d short))

-- words that are borrowed are cut as they are

onto_seen : (w : Bor (List ℕ)) (ps : List (List (Bor (List ℕ)))) → onto_first w.now (map seen ps) ≡ map seen (onto_first w ps)
onto_seen w [] = refl
onto_seen w (p ∷ ps) = refl

seen_step : (w : Bor (List ℕ)) (ws : List (Bor (List ℕ))) → parts (seen ws) ≡ map seen (slice_split (λ v. is_mark v.now) ws) → (b : Bool) → is_mark w.now ≡ b → parts (seen (w ∷ ws)) ≡ map seen (slice_split (λ v. is_mark v.now) (w ∷ ws))
seen_step w ws others true is = rw is (ap (λ ps. [] ∷ ps) others)
seen_step w ws others false is =
    rw is (ap (onto_first w.now) others ∙ onto_seen w (slice_split (λ v. is_mark v.now) ws))

pub parts_seen : (ws : List (Bor (List ℕ))) → parts (seen ws) ≡ map seen (slice_split (λ v. is_mark v.now) ws)
parts_seen [] = refl
parts_seen (w ∷ ws) = seen_step w ws (parts_seen ws) (is_mark w.now) refl
