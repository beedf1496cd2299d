-- The table of segments of a journal, and what changes it.
use Rattle.std.proofs.Common.{◌≡◌, ℕ, ◌+◌, ◌<◌, ◌≤◌, List, [], ◌∷◌, length, length-set, refl, sym, ap, ◌∙◌, subst, inl, inr, arith, Option, Some, None, IfSome}
use Rattle.std.proofs.lemmas.List.{get_or-set_other, get_or-set_same}
use Rattle.sea_segment.specs.Header.{SpellsHeader}
use Rattle.sea_segment.specs.Table.{IsEmpty, fresh, live_of, segment_of, state_of, with_live, with_state}
use Rattle.sea_segment.specs.declared.header.Header.{Header}
use Rattle.sea_segment.specs.declared.state.SegState.{SegState}
use Rattle.sea_segment.specs.declared.state.SegState.TheVariants.{Active, Closed, Empty}
use Rattle.sea_segment.specs.declared.state.Segment.{Segment}
use Rattle.sea_segment.proofs.Headers.{same_header}
use Rattle.sea_trail.specs.Trail.{StandsIn, block_of, header_block, trail_link}
use Rattle.sea_journal.specs.Log.{Log, IsLog, IsOfTrail, IsSpare, IsSynced, begun, header_behind}
use Rattle.sea_journal.specs.Rolls.{HasNumber, InTable, rolled_table}
use Rattle.sea_journal.proofs.Calls.{IfSome-at}
use Rattle.sea_journal.proofs.Openings.{Finished}
use Rattle.sea_journal.proofs.Rows.{same_number}

-- ---- states

pub length-with_state : (table : List Segment) (s : ℕ) (state : SegState) → length (with_state table s state) ≡ length table
length-with_state table s state = length-set table s (record { state = state; live = live_of table s })

state_same : (table : List Segment) (s : ℕ) (state : SegState) → s < length table → state_of (with_state table s state) s ≡ state
state_same table s state within = ap (λ (x : Segment). x.state) (get_or-set_same table s (record { state = state; live = live_of table s }) fresh within)

pub state_other : (table : List Segment) (s k : ℕ) (state : SegState) → (k ≡ s → ⊥) → state_of (with_state table s state) k ≡ state_of table k
state_other table s k state other = ap (λ (x : Segment). x.state) (get_or-set_other table s k (record { state = state; live = live_of table s }) fresh other)

state_live : (table : List Segment) (s k live : ℕ) → s < length table → state_of (with_live table s live) k ≡ state_of table k
state_live table s k live within =
    let x : Segment = record { state = state_of table s; live = live } in
    elim (same_number k s) [
      | inl same ↦ (
          let here : state_of (with_live table s live) s ≡ state_of table s = ap (λ (y : Segment). y.state) (get_or-set_same table s x fresh within) in
          ap (state_of (with_live table s live)) same ∙ here ∙ ap (state_of table) (sym same)
          )
      | inr other ↦ ap (λ (y : Segment). y.state) (get_or-set_other table s k x fresh other)
    ]

-- ---- a table of a past

-- an empty segment is no segment of the trail
pub empty_spare : (log : Log) (table : List Segment) (s : ℕ) → InTable log table → IsEmpty table s → IsSpare log.anchor log.trail s
empty_spare log table s has empty =
    let within = empty.0 in
    record {
      within = omega (arith, has.count);
      apart = λ n of. subst (λ (x : SegState). HasNumber x n) empty.1 (has.trail s n of);
    }

pub live_in_table : (log : Log) (table : List Segment) (s live : ℕ) → s < length table → InTable log table → InTable log (with_live table s live)
live_in_table log table s live within has = record {
  count = length-set table s (record { state = state_of table s; live = live }) ∙ has.count;
  trail = λ k n of. subst (λ (x : SegState). HasNumber x n) (sym (state_live table s k live within)) (has.trail k n of);
  next = each log.next has.next;
}
  where
    each : (o : Option Header) → IfSome o (λ h. HasNumber (state_of table h.segment) h.seq) → IfSome o (λ h. HasNumber (state_of (with_live table s live) h.segment) h.seq)
    each None none = tt
    each (Some h) some = subst (λ (x : SegState). HasNumber x h.seq) (sym (state_live table s h.segment live within)) some

-- where each segment of a later trail was one of the trail before
pub later_in_table : (log new : Log) (table : List Segment) → new.trail.segments ≡ log.trail.segments → log.next ≡ None → new.next ≡ None
    → ((s n : ℕ) → IsOfTrail new.anchor new.trail s n → IsOfTrail log.anchor log.trail s n) → InTable log table → InTable new table
later_in_table log new table segments steady still before has = record {
  count = has.count ∙ sym segments;
  trail = λ s n of. has.trail s n (before s n of);
  next = subst (λ (o : Option Header). IfSome o (λ h. HasNumber (state_of table h.segment) h.seq)) (sym still) tt;
}

-- the header of the open segment is that of its number
open_number : (log : Log) → IsLog log → (n : ℕ) → IsOfTrail log.anchor log.trail log.trail.active n → n ≡ log.trail.seq
open_number log is n of =
    let p = is.trail.newest in
    let at : of.header.segment ≡ p.header.segment = of.here ∙ is.trail.active in
    let there : SpellsHeader (block_of log.anchor (header_block p.header.segment)) of.header = subst (λ (s : ℕ). SpellsHeader (block_of log.anchor (header_block s)) of.header) at of.numbered.has.stands in
    let same : of.header ≡ p.header = same_header (block_of log.anchor (header_block p.header.segment)) of.header p.header there is.trail.is_open.newest.numbered.has.stands in
    sym of.numbered.number ∙ ap (λ (h : Header). h.seq) same ∙ sym is.trail.seq

pub begun_in_table : (log : Log) (h : Header) (table : List Segment) → IsLog log → InTable log table → IsEmpty table h.segment → h.seq ≡ log.trail.seq + 1
    → InTable (begun log h) (rolled_table table log.trail.active log.trail.seq h.segment)
begun_in_table log h table is has empty number =
    let active = log.trail.active in
    let seq = log.trail.seq in
    let s = h.segment in
    let closed : List Segment = with_state table active (Closed seq) in
    let spare = empty_spare log table s has empty in
    let before = length-with_state table active (Closed seq) in
    let within : s < length closed = omega (arith, empty.0) in
    record {
      count = length-with_state closed s (Active (seq + 1)) ∙ before ∙ has.count;
      trail = λ k n of. elim (same_number k s) [
        | inl same ↦ absurd (spare.apart n (record { from = of.from; upto = of.upto; header = of.header; numbered = of.numbered; here = of.here ∙ same }))
        | inr other ↦ elim (same_number k active) [
          | inl open_one ↦ (
              let own : n ≡ seq = open_number log is n (record { from = of.from; upto = of.upto; header = of.header; numbered = of.numbered; here = of.here ∙ open_one }) in
              let in_place : active < length table = subst (λ (m : ℕ). m < length table) open_one (omega (arith, of.here, of.numbered.has.within, has.count)) in
              let state : state_of (rolled_table table active seq s) k ≡ Closed seq = state_other closed s k (Active (seq + 1)) other ∙ ap (state_of closed) open_one ∙ state_same table active (Closed seq) in_place in
              subst (λ (x : SegState). HasNumber x n) (sym state) (sym own)
              )
          | inr away ↦ (
              let state : state_of (rolled_table table active seq s) k ≡ state_of table k = state_other closed s k (Active (seq + 1)) other ∙ state_other table active k (Closed seq) away in
              subst (λ (x : SegState). HasNumber x n) (sym state) (has.trail k n of)
              )
        ]
      ];
      next = subst (λ (x : SegState). HasNumber x h.seq) (sym (state_same closed s (Active (seq + 1)) within)) (sym number);
    }

pub finished_in_table : (log : Log) (h : Header) (image : List ℕ) (table : List Segment) (done : Finished log h image) → log.next ≡ Some h → InTable log table → InTable done.new table
finished_in_table log h image table done writing has = record {
  count = has.count ∙ sym done.trail.segments;
  trail = λ s n of. elim (done.before s n of) [
    | inl old ↦ has.trail s n old
    | inr own ↦ (
        let here = IfSome-at (λ (x : Header). HasNumber (state_of table x.segment) x.seq) h writing has.next in
        subst (λ (m : ℕ). HasNumber (state_of table s) m) (sym own.1) (subst (λ (k : ℕ). HasNumber (state_of table k) h.seq) (sym own.0) here)
        )
  ];
  next = subst (λ (o : Option Header). IfSome o (λ x. HasNumber (state_of table x.segment) x.seq)) (sym done.next) tt;
}
