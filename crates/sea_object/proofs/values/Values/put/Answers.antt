use Rattle.std.proofs.Common.{ap, ◌∙◌}
use Rattle.sea_object.specs.Held.{values_in}
use Rattle.sea_object.specs.Undo.{before_changes}
use Rattle.sea_object.proofs.Logs.{before_more, filled_back, values_put}
use Rattle.sea_object.proofs.Results.{on_ok}
use Rattle.sea_object.proofs.values.Values.put.Goals as goal

pub returns-clause-ok : goal.returns-clause-ok
returns-clause-ok c =
    on_ok c.fill.result (λ filled. ap values_in filled ∙ values_put c.args.self.now c.args.key.now c.args.value.now) c.fill.ensures.ok

pub returns-clause-before : goal.returns-clause-before
returns-clause-before c =
    let m = c.args.self.now in
    let new = c.fill.new.self in
    ap (λ log. before_changes log new) c.in_ok-note.ensures.ok
    ∙ before_more c.args.log.now _ new
    ∙ ap (before_changes c.args.log.now) (filled_back c.fill.result m new c.args.key.now c.args.value.now c.fill.ensures.ok c.fill.ensures.err)
