-- Places of records in the chain of a segment.
use Rattle.std.proofs.Common.{◌≡◌, ℕ, zero, suc, ◌+◌, ◌<◌, List, [], ◌∷◌, ◌++◌, length, get_or, take, drop, refl, sym, ap, ◌∙◌, arith, length-append}
use Rattle.std.proofs.lemmas.List.{append-nil, drop-append-le, take_at, take_all, take-append-drop}
use Rattle.sea_record.specs.Record.{blocks}
use Rattle.sea_record.specs.declared.record.Record.{Record}
use Rattle.sea_trail.specs.declared.trail.Part.{Part}
use Rattle.sea_trail.specs.Trail.{AreFrom, chain_end, first_block, records_in}
use Rattle.sea_trail.specs.Parts.{ArePlaced, IsPlaced, IsPlace, HasNoPlace}

-- a record names the place behind those before it
pub ArePlaced-at : (place : ℕ) (rs : List Record) (i : ℕ) (d : Record) → ArePlaced place rs → i < length rs → (get_or rs i d).place.0 ≡ chain_end place (take i rs)
ArePlaced-at place [] i d placed lt = absurd (omega arith)
ArePlaced-at place (r ∷ rs) zero d placed lt = placed.0
ArePlaced-at place (r ∷ rs) (suc i) d placed lt = ArePlaced-at (place + blocks r.body) rs i d placed.1 (omega arith)

-- a place that is none of the records', nor the end, is nowhere
pub no_place : (p : Part) (place : ℕ) → IsPlaced p → ((k : ℕ) → k < length p.records → place ≡ chain_end (first_block p.header.segment) (take k p.records) → ⊥) → (place ≡ p.end.0 → ⊥) → HasNoPlace p place
no_place p place placed before ends front back cut at = by_back back cut
  where
    by_back : (back : List Record) → p.records ≡ front ++ back → ⊥
    by_back [] cut = ends (at ∙ ap (chain_end (first_block p.header.segment)) (sym (cut ∙ append-nil front)) ∙ sym placed.ends)
    by_back (b ∷ bs) cut =
        let there : take (length front) p.records ≡ front = ap (take (length front)) cut ∙ take_at front (b ∷ bs) (length front) refl in
        before (length front) (omega (arith, ap length cut, length-append front (b ∷ bs))) (at ∙ ap (chain_end (first_block p.header.segment)) (sym there))

-- the end is behind all records
pub end_place : (p : Part) (place at : ℕ) → IsPlaced p → place ≡ p.end.0 → at ≡ length p.records → IsPlace p place at
end_place p place at placed is all =
    (omega (arith, all), is ∙ placed.ends ∙ ap (chain_end (first_block p.header.segment)) (sym (take_all at p.records (omega (arith, all)))))

-- the records from a place on
pub from_place : (p : Part) (ps : List Part) (place at : ℕ) → IsPlace p place at → AreFrom place (p ∷ ps) (drop at (records_in (p ∷ ps)))
from_place p ps place at is =
    (take at p.records, drop at p.records, sym (take-append-drop at p.records), is.1, drop-append-le at p.records (records_in ps) is.0)

-- and none, where it is nowhere
pub none_from : (p : Part) (ps : List Part) (place : ℕ) → HasNoPlace p place → (records : List Record) → AreFrom place (p ∷ ps) records → ⊥
none_from p ps place none records from = none from.0 from.1 from.2 from.3

-- the record that a search has come to
pub found_place : (p : Part) (xs : List Record) (i : ℕ) (r : Record) → xs ≡ p.records → r ≡ get_or xs i r → i < length xs → IsPlaced p → r.place.0 ≡ chain_end (first_block p.header.segment) (take i p.records)
found_place p xs i r same is lt placed =
    ap (λ (x : Record). x.place.0) (is ∙ ap (λ (ys : List Record). get_or ys i r) same)
    ∙ ArePlaced-at (first_block p.header.segment) p.records i r placed.records (omega (arith, ap length same))
