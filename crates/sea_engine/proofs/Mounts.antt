-- Why an engine doesn't open.
use Rattle.std.proofs.Common.{◌≡◌, ◌⊎◌, ℕ, ◌<◌, ◌≤◌, List, Option, length, cond, refl, sym, subst, inl, inr, arith}
use Rattle.std.proofs.lemmas.Bool.{cases_lt}
use Rattle.sea_segment.specs.State.{is_empty}
use Rattle.sea_segment.specs.Table.{empty_of, state_of}
use Rattle.sea_segment.specs.declared.state.SegState.{SegState}
use Rattle.sea_segment.specs.declared.state.SegState.TheVariants.{Empty, Active, Closed}
use Rattle.sea_segment.specs.declared.state.Segment.{Segment}
use Rattle.sea_segment.proofs.Counts.{recounted}
use Rattle.sea_trail.specs.Trail.{IsTrail, segment_end}
use Rattle.sea_trail.specs.declared.trail.Trail.{Trail}
use Rattle.sea_journal.specs.Rolls.{HasNumber}
use Rattle.sea_journal.specs.Opening.{HasSpace, IsNotBegun}
use Rattle.sea_journal.specs.declared.journal.ResumeFault.{ResumeFault}
use Rattle.sea_journal.specs.declared.journal.ResumeFault.TheVariants as resumes
use Rattle.sea_journal.proofs.Calls.{FaultsRose-later}
use Rattle.sea_engine.specs.Mounting.{HasNoSpace, IsUnopened, UsesNoOther, resume_fault}
use Rattle.sea_engine.specs.Opens.{Change}

-- a segment is empty, or it has a number
numbered : (x : SegState) → (x ≡ Empty) ⊎ ((n : ℕ) × HasNumber x n)
numbered Empty = inl refl
numbered (Active seq) = inr (seq, refl)
numbered (Closed seq) = inr (seq, refl)

some_empty : (table : List Segment) (s : ℕ) → s < length table → state_of table s ≡ Empty → 1 ≤ empty_of table
some_empty table s within is =
    let few = (recounted table s Empty within).some in
    subst (λ (x : SegState). cond (is_empty x) 1 0 ≤ empty_of table) is few

-- where a table has no space its segments are all of the trail
pub no_space : (image : List ℕ) (t : Trail) (table : List Segment) → IsTrail image t → length table ≡ t.segments → UsesNoOther image t table → (HasSpace t table → ⊥) → HasNoSpace image
no_space image t table is count other none = record {
  trail = t;
  is_trail = is;
  full = elim (cases_lt t.end.0 (segment_end t.active)) [
    | inl lt ↦ absurd (none (inl (omega (arith, lt))))
    | inr ge ↦ ge
  ];
  used = λ s within.
      let inside : s < length table = subst (λ (n : ℕ). s < n) (sym count) within in
      elim (numbered (state_of table s)) [
        | inl empty ↦ absurd (none (inr (some_empty table s inside empty)))
        | inr number ↦ (number.0, (other s number.0 number.1).of_trail)
      ];
}

module _ (full : Type 0) (lays : Change) (contents : Option (List ℕ)) (before now : ℕ) where
  -- a journal did not begin
  pub not_begun : (mid : ℕ) (space : Type 0) (fault : ResumeFault) → before ≤ mid → ((space → ⊥) → full) → IsNotBegun space mid now fault → IsUnopened full lays contents before now (resume_fault fault)
  not_begun mid space resumes.NoMemory later none why = tt
  not_begun mid space resumes.DeviceFault later none why = FaultsRose-later before mid now later why.1
  not_begun mid space resumes.NoSpace later none why = none why
