use Rattle.std.proofs.Common.{Some, sym, ap, ◌∙◌}
use Rattle.sea_object.specs.Answer.{changed}
use Rattle.sea_object.specs.Held.{shown}
use Rattle.sea_object.proofs.Logs.{none_shown}
use Rattle.sea_object.proofs.Sorts.{made_after}
use Rattle.sea_object.proofs.slot.make_object.Goals as goal

pub returns-in_ok-change-in-Makes-clause-ok : goal.returns-in_ok-change-in-Makes-clause-ok
returns-in_ok-change-in-Makes-clause-ok c =
    let op = c.args.op.now in
    ap Some (c.in_ok-change-in-Makes.ensures.ok ∙ ap (changed op) (ap shown c.new-object.ensures ∙ none_shown))
    ∙ sym (made_after op (sym c.kind.ensures ∙ c.in-Makes.is))
