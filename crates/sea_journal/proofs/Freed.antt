-- A segment below the tail holds nothing of a trail, and may be opened again.
use Rattle.std.proofs.Common.{◌≡◌, ℕ, zero, suc, ◌+◌, ◌<◌, ◌≤◌, List, [], ◌∷◌, length, take, refl, sym, ap, ◌∙◌, subst, inl, inr, arith, Option, Some, None, IfSome}
use Rattle.sea_record.specs.declared.record.Record.{Record}
use Rattle.sea_segment.specs.State.{IsClosedBefore}
use Rattle.sea_segment.specs.Table.{state_of, with_state}
use Rattle.sea_segment.specs.declared.header.Header.{Header}
use Rattle.sea_segment.specs.declared.state.SegState.{SegState}
use Rattle.sea_segment.specs.declared.state.SegState.TheVariants.{Active, Closed, Empty}
use Rattle.sea_segment.specs.declared.state.Segment.{Segment}
use Rattle.sea_trail.specs.Trail.{IsTrail, last_link, trail_link}
use Rattle.sea_trail.specs.declared.link.Link.{Link}
use Rattle.sea_trail.specs.declared.trail.Trail.{Trail}
use Rattle.sea_trail.proofs.Unique.{one_trail}
use Rattle.sea_journal.specs.Log.{Log, DiffersBy, Extends, HasPrefix, IsAfter, IsClear, IsLog, IsNextHeader, IsOfTrail, up_to_header, up_to_record}
use Rattle.sea_journal.specs.Rolls.{HasNumber, InTable}
use Rattle.sea_journal.proofs.Afters.{of_before}
use Rattle.sea_journal.proofs.Apart.{of_there, open_of_trail}
use Rattle.sea_journal.proofs.Calls.{IfSome-at}
use Rattle.sea_journal.proofs.Openings.{clear_has_prefix, in_segment}
use Rattle.sea_journal.proofs.Rows.{same_number}
use Rattle.sea_journal.proofs.Tables.{length-with_state, state_other}

closed_before : (x : SegState) (n before : ℕ) → IsClosedBefore x before → HasNumber x n → n < before
closed_before Empty n before closed number = absurd closed
closed_before (Active seq) n before closed number = absurd closed
closed_before (Closed seq) n before closed number = omega arith

-- the table has a segment closed, with a number below the tail's
module _ (log : Log) (table : List Segment) (s : ℕ) (is : IsLog log) (has : InTable log table) (none : log.queued ≡ []) (closed : IsClosedBefore (state_of table s) log.trail.tail.seq) where
  -- it is no segment of the trail
  below : (n : ℕ) → IsOfTrail log.anchor log.trail s n → ⊥
  below n of = omega (arith, of.from, closed_before (state_of table s) n log.trail.tail.seq closed (has.trail s n of))

  -- nor the one that is being opened
  beside : (h : Header) → log.next ≡ Some h → s ≡ h.segment → ⊥
  beside h writing same =
      let next = IfSome-at (IsNextHeader log) h writing is.next in
      let number = IfSome-at (λ (x : Header). HasNumber (state_of table x.segment) x.seq) h writing has.next in
      let here : IsClosedBefore (state_of table h.segment) log.trail.tail.seq = subst (λ (k : ℕ). IsClosedBefore (state_of table k) log.trail.tail.seq) same closed in
      let later : h.seq ≡ log.trail.seq + 1 = ap (λ (x : Header). x.seq) next.is in
      omega (arith, closed_before (state_of table h.segment) h.seq log.trail.tail.seq here number, (open_of_trail log.anchor log.trail is.trail).from)

  pub freed_in_table : s < length table → InTable log (with_state table s Empty)
  freed_in_table within = record {
    count = length-with_state table s Empty ∙ has.count;
    trail = λ k n of. elim (same_number k s) [
      | inl same ↦ absurd (below n (record { from = of.from; upto = of.upto; header = of.header; numbered = of.numbered; here = of.here ∙ same }))
      | inr other ↦ subst (λ (x : SegState). HasNumber x n) (sym (state_other table s k Empty other)) (has.trail k n of)
    ];
    next = each log.next refl has.next;
  }
    where
      each : (o : Option Header) → log.next ≡ o → IfSome o (λ h. HasNumber (state_of table h.segment) h.seq) → IfSome o (λ h. HasNumber (state_of (with_state table s Empty) h.segment) h.seq)
      each None e nothing = tt
      each (Some h) e number = subst (λ (x : SegState). HasNumber x h.seq) (sym (state_other table s h.segment Empty (λ same. beside h e (sym same)))) number

  take_nothing : (count : ℕ) → take count log.queued ≡ []
  take_nothing count = ap (take count) none ∙ nothing count
    where
      nothing : (k : ℕ) → take {A = Record} k [] ≡ []
      nothing zero = refl
      nothing (suc k) = refl

  -- no clear image of a crash has a segment of its trail there
  pub none_left : (c : List ℕ) → IsAfter log c → IsClear log c → (v : Trail) → IsTrail c v → (n : ℕ) → IsOfTrail c v s n → ⊥
  none_left c after clear v is_v n of = by_cases log.next refl after (clear_has_prefix log c is after clear)
    where
      here : (u : Trail) → IsTrail c u → IsOfTrail c u s n
      here u is_u = subst (λ (t : Trail). IsOfTrail c t s n) (one_trail c v u is_v is_u) of

      by_cases : (o : Option Header) → log.next ≡ o → DiffersBy log o c → HasPrefix log c → ⊥
      by_cases None e behind (up_to_record p) =
          let ext : Extends log.trail [] p.trail = subst (λ (rs : List Record). Extends log.trail rs p.trail) (take_nothing p.count) p.extends in
          let tail : p.trail.tail.seq ≡ log.trail.tail.seq = ap (λ (l : Link). l.tail.seq) ext.last in
          below n (of_before log.anchor c log.trail is.trail behind p.trail s n ext.segments ext.seq (omega arith) (here p.trail p.is_trail))
      by_cases None e behind (up_to_header h p) = absurd (let f = p.begun in cc)
      by_cases (Some h) e aside (up_to_record p) =
          let next = IfSome-at (IsNextHeader log) h e is.next in
          let ext : Extends log.trail [] p.trail = subst (λ (rs : List Record). Extends log.trail rs p.trail) (take_nothing p.count) p.extends in
          let tail : p.trail.tail.seq ≡ log.trail.tail.seq = ap (λ (l : Link). l.tail.seq) ext.last in
          below n (of_there log.anchor c h.segment (in_segment log h c aside) log.trail is.trail next.spare p.trail ext.segments tail s n (beside h e) (here p.trail p.is_trail))
      by_cases (Some h) e aside (up_to_header k p) =
          let next = IfSome-at (IsNextHeader log) h e is.next in
          let same : k ≡ h = (let f = p.begun in cc) in
          let tail : p.trail.tail.seq ≡ log.trail.tail.seq = ap (λ (l : Link). l.tail.seq) p.opens.last ∙ ap (λ (x : Header). x.tail.seq) same ∙ ap (λ (x : Header). x.tail.seq) next.is in
          below n (of_there log.anchor c h.segment (in_segment log h c aside) log.trail is.trail next.spare p.trail p.opens.segments tail s n (beside h e) (here p.trail p.is_trail))
