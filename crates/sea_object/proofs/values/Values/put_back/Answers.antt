use Rattle.std.proofs.Common.{sym, ap, ◌∙◌}
use Rattle.sea_object.specs.Undo.{before_changes}
use Rattle.sea_object.proofs.Logs.{before_more}
use Rattle.sea_object.proofs.values.Values.put_back.Goals as goal

pub loop-kept-preserved : goal.loop-kept-preserved
loop-kept-preserved c =
    let log = c.pop.new.self.items in
    ap (before_changes log) c.put_back_one.ensures
    ∙ sym (before_more log c.in-Some.kept c.loop-kept.self)
    ∙ ap (λ kept. before_changes kept c.loop-kept.self) (sym c.in-Some.ensures.items)
    ∙ c.loop-kept.invariant
