use Rattle.std.proofs.Common.{◌≡◌, ◌+◌, ℕ, List, refl, ap, ◌∙◌}
use Rattle.sea_segment.specs.Table.{with_state}
use Rattle.sea_segment.specs.declared.state.SegState.TheVariants.{Active, Closed}
use Rattle.sea_segment.specs.declared.state.Segment.{Segment}
use Rattle.sea_segment.specs.declared.header.Header.{Header}
use Rattle.sea_journal.proofs.journal.Journal.begin.Goals as goal

pub returns-clause-ok : goal.returns-clause-ok
returns-clause-ok g c =
    let q = c.args.self.now.queue in
    let header = c.in_ok-roll.ensures in
    record {
      roll = c.in_ok-roll.roll;
      is = refl;
      header = header;
      table = c.set-2.ensures ∙ ap (λ (t : List Segment). with_state t c.args.segment (Active c.in_ok-roll.roll.header.seq)) c.set.ensures
          ∙ ap (λ (h : Header). with_state (with_state c.args.self.now.table q.active (Closed q.seq)) c.args.segment (Active h.seq)) header;
    }
