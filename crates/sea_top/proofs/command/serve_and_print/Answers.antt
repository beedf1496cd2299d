use Rattle.std.proofs.Common.{List, ⊎_elim, inl, inr, subst}
use Rattle.sea_plain_script.specs.declared.plan.Asked.{Asked}
use Rattle.sea_top.specs.Headline.{Serving, not_opened, served}
use Rattle.sea_top.proofs.Headlines.{ends_run}
use Rattle.sea_top.proofs.command.serve_and_print.Goals as goal

pub returns-in-Err-clause-comes : goal.returns-in-Err-clause-comes
returns-in-Err-clause-comes g c image before held told =
    let said = c.print_refusal.ensures.prints before told in
    (said.0, said.1, not_opened c.in-Err.refusal (⊎_elim (λ memory. inl memory) (λ fault. inr fault.0) c.in-Err.ensures.opening.caused) (c.in-Err.ensures.refused image held) said.2)

pub returns-in-Ok-clause-comes : goal.returns-in-Ok-clause-comes
returns-in-Ok-clause-comes g c image before held told =
    let said = c.print_run.ensures.prints before told in
    let serving = subst (λ (plan : List Asked). Serving plan image (g.D.Device.size c.args.device.now) c.in-Ok.run'.history c.in-Ok.run'.acknowledged c.in-Ok.run'.ending (g.D.Device.contents c.serve.new.device) (g.D.Device.may_leave c.serve.new.device) (g.D.Device.may_leave c.args.device.now) (g.D.Device.clock c.args.device.now) (g.D.Device.clock c.serve.new.device) (g.D.Device.left_since c.serve.new.device)) c.items.ensures (c.in-Ok.ensures.serves image held) in
    (said.0, said.1, served c.in-Ok.run'.history c.in-Ok.run'.acknowledged c.in-Ok.run'.ending serving (ends_run _ _ c.in-Ok.run'.ending c.in-Ok.ensures.ending) said.2)
