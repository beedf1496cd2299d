use Rattle.std.proofs.Common.{◌≡◌, ℕ, List, refl, sym, ap, ◌∙◌, subst}
use Rattle.sea_segment.specs.State.{IsClosedBefore}
use Rattle.sea_segment.specs.Table.{state_of}
use Rattle.sea_segment.specs.declared.state.Segment.{Segment}
use Rattle.sea_trail.specs.Trail.{last_link, trail_link}
use Rattle.sea_trail.specs.declared.link.Link.{Link}
use Rattle.sea_journal.specs.Rolls.{InTable}
use Rattle.sea_journal.proofs.Freed.{freed_in_table, none_left}
use Rattle.sea_journal.proofs.Journals.{none_queued, with_table}
use Rattle.sea_journal.proofs.journal.Journal.free.Goals as goal

pub returns-clause-log : goal.returns-clause-log
returns-clause-log g c = λ log has.
    let j = c.args.self.now in
    let none = none_queued log.trail.end.0 log.queued (sym has.waits.place ∙ c.requires.idle ∙ has.waits.start) in
    let tail : j.queue.link.tail.seq ≡ log.trail.tail.seq = ap (λ (l : Link). l.tail.seq) (has.waits.link ∙ ap (last_link (trail_link log.trail)) none) in
    let closed = subst (IsClosedBefore (state_of j.table c.args.segment)) tail c.requires.closed in
    with_table log j _ has refl refl refl (subst (InTable log) (sym c.set.ensures) (freed_in_table log j.table c.args.segment has.is_log has.table none closed c.requires.within))

pub returns-clause-left : goal.returns-clause-left
returns-clause-left g c = λ log has i left clear.
    let j = c.args.self.now in
    let none = none_queued log.trail.end.0 log.queued (sym has.waits.place ∙ c.requires.idle ∙ has.waits.start) in
    let tail : j.queue.link.tail.seq ≡ log.trail.tail.seq = ap (λ (l : Link). l.tail.seq) (has.waits.link ∙ ap (last_link (trail_link log.trail)) none) in
    let closed = subst (IsClosedBefore (state_of j.table c.args.segment)) tail c.requires.closed in
    none_left log j.table c.args.segment has.is_log has.table none closed i (has.images i left) clear
