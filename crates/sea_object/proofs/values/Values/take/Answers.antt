use Rattle.std.proofs.Common.{None, ap, ◌∙◌}
use Rattle.sea_object.specs.Held.{values_in}
use Rattle.sea_object.specs.Undo.{before_changes, put_back_slot}
use Rattle.std.specs.FinMap as map
use Rattle.sea_object.proofs.Logs.{back_refilled, before_more, values_taken}
use Rattle.sea_object.proofs.values.Values.take.Goals as goal

pub returns-clause-ok : goal.returns-clause-ok
returns-clause-ok c = ap values_in c.refill.ensures ∙ values_taken c.args.self.now c.args.key.now

pub returns-clause-before : goal.returns-clause-before
returns-clause-before c =
    let m = c.args.self.now in
    let key = c.args.key.now in
    ap (λ log. before_changes log c.refill.new.self) c.in_ok-note.ensures.ok
    ∙ before_more c.args.log.now _ c.refill.new.self
    ∙ ap (before_changes c.args.log.now) (ap (λ n. put_back_slot n key (map.get m key)) c.refill.ensures ∙ back_refilled m key None)
