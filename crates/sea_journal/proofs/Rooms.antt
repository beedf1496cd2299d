-- Where the rule of room takes a record that doesn't fit, a segment is empty.
use Rattle.std.proofs.Common.{◌≡◌, ℕ, zero, suc, ◌+◌, ◌<◌, ◌≤◌, ◌⊎◌, Bool, true, false, List, [], ◌∷◌, length, cond, refl, sym, ap, ◌∙◌, subst, inl, inr, arith, Option, Some, None}
use Rattle.std.specs.Prelude.{IfSome}
use Rattle.std.proofs.lemmas.List.Sums.{sum_by-cons}
use Rattle.sea_segment.specs.State.{is_empty}
use Rattle.sea_segment.specs.Table.{IsEmpty, empty_of, state_of}
use Rattle.sea_segment.specs.declared.state.SegState.{SegState}
use Rattle.sea_segment.specs.declared.state.SegState.TheVariants.{Active, Closed, Empty}
use Rattle.sea_segment.specs.declared.state.Segment.{Segment}
use Rattle.sea_trail.specs.Trail.{first_block, segment_end}
use Rattle.sea_journal.specs.Room.{Takes}
use Rattle.sea_journal.specs.Rolls.{BeginsAt}
use Rattle.sea_journal.specs.declared.queue.Queue.{Queue}
use Rattle.sea_journal.specs.declared.roll.Roll.{Roll}
use Rattle.sea_journal.specs.declared.room.Who.{Who}
use Rattle.sea_journal.specs.declared.room.Who.TheVariants.{Write, House, Free, Mount}

pub takes_some : (who : Who) (need rest empty : ℕ) → Takes who need rest empty → rest < need → 1 ≤ empty
takes_some Write need rest empty (inl fits) lt = omega (arith, fits.0)
takes_some Write need rest empty (inr many) lt = omega arith
takes_some House need rest empty (inl fits) lt = omega arith
takes_some House need rest empty (inr many) lt = omega arith
takes_some Free need rest empty (inl fits) lt = omega arith
takes_some Free need rest empty (inr many) lt = omega arith
takes_some Mount need rest empty (inl fits) lt = omega arith
takes_some Mount need rest empty (inr many) lt = omega arith

counted : (state : SegState) → (state ≡ Empty → ⊥) → is_empty state ≡ false
counted Empty other = absurd (other refl)
counted (Active seq) other = refl
counted (Closed seq) other = refl

pub none_empty : (table : List Segment) → ((k : ℕ) → IsEmpty table k → ⊥) → empty_of table ≡ 0
none_empty [] each = refl
none_empty (x ∷ xs) each =
    let first : is_empty x.state ≡ false = counted x.state (λ e. each 0 (omega arith, e)) in
    let rest = none_empty xs (λ k empty. each (suc k) (omega (arith, empty.0), empty.1)) in
    sum_by-cons (λ (y : Segment). cond (is_empty y.state) 1 0) x xs ∙ ap (λ (b : Bool). cond b 1 0 + empty_of xs) first ∙ omega (arith, rest)

-- a journal that goes on behind a header has all but its block
pub whole_rest : (o : Option Roll) (q : Queue) (rest need : ℕ) → IfSome o (λ roll. BeginsAt roll.header q) → rest + q.place.0 ≡ segment_end q.active → rest < need → need ≤ 1024 → o ≡ None
whole_rest None q rest need begins is lt le = refl
whole_rest (Some roll) q rest need begins is lt le = absurd (omega (arith, begins.place, begins.active))
