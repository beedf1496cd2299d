use Rattle.std.proofs.Common.{◌≡◌, ◌∙◌, refl}
use Rattle.std.specs.Prelude.{string_bytes}
use Rattle.sea_top.proofs.Outcomes.{at_ok}
use Rattle.sea_top.proofs.Printings.{says_nothing, says_front}
use Rattle.sea_top.proofs.print.say.Goals as goal

pub returns-in_default : goal.returns-in_default
returns-in_default g c lines spelled =
    says_nothing g.O.Sink.taken g.O.Sink.faults lines c.args.ending c.status.result.0 c.args.out.now c.status.ensures

pub returns-in-Err : goal.returns-in-Err
returns-in-Err g c lines spelled =
    says_front g.O.Sink.taken g.O.Sink.faults lines c.args.ending 7 c.args.out.now c.put_all.new.out c.as_bytes.result.now refl (c.as_bytes.ensures.value ∙ at_ok (λ t. string_bytes t ≡ lines c.args.ending) c.args.text c.in-Ok.text c.in-Ok.is spelled) c.in-Err.ensures.err c.in-Err.ensures.cause.later c.in-Err.ensures.cause.failed
