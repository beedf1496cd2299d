use Rattle.std.proofs.Common.{◌≡◌, ℕ, List, Option, Some, subst}
use Rattle.std.specs.Prelude.{[]}
use Rattle.sea_top.specs.Crash.{IsUnwritten}
use Rattle.sea_top.specs.Planning.{IsNoPlan}
use Rattle.sea_plain_script.specs.Script.{IsScript}
use Rattle.sea_top.proofs.Headlines.{headline_refused, headline_served, refused_for}
use Rattle.sea_top.proofs.Readings.{IfSome-at}
use Rattle.sea_top.proofs.command.steps.Goals as goal

pub returns-in-Err-clause-headline : goal.returns-in-Err-clause-headline
returns-in-Err-clause-headline g c image text before held given told =
    let said = c.print_refusal.ensures.prints before told in
    let unwritten : IsUnwritten image (g.D.Device.contents c.args.device) (g.D.Device.may_leave c.args.device) (g.D.Device.may_leave c.args.device) (g.D.Device.left_since c.args.device (g.D.Device.clock c.args.device)) = record { bytes = held; moments = λ i left. g.met.D.Device.only_now c.args.device i left; returned = λ i left. left } in
    let no_plan = subst (λ (o : Option (List ℕ)). IsNoPlan o (g.I.Source.faults c.args.input.now) (g.I.Source.faults c.read_plan.new.input) c.in-Err.refusal) given c.in-Err.ensures.refused in
    (said.0, said.1, headline_refused text image (g.D.Device.size c.args.device) c.print_refusal.result.0 said.0 (g.I.Source.remaining c.read_plan.new.input) (g.D.Device.contents c.args.device) (g.D.Device.may_leave c.args.device) (g.D.Device.may_leave c.args.device) (g.D.Device.clock c.args.device) (g.D.Device.clock c.args.device) (g.D.Device.left_since c.args.device) c.in-Err.refusal (refused_for text _ _ c.in-Err.refusal no_plan) unwritten said.2)

pub returns-in-Ok-clause-headline : goal.returns-in-Ok-clause-headline
returns-in-Ok-clause-headline g c image text before held given told =
    let comes = c.serve_and_print-status.ensures.comes image before held told in
    let script = IfSome-at (λ (bytes : List ℕ). IsScript bytes c.in-Ok.plan × (g.I.Source.remaining c.read_plan.new.input ≡ Some [])) text given c.in-Ok.ensures.plan.script in
    (comes.0, comes.1, headline_served text image (g.D.Device.size c.args.device) c.serve_and_print-status.result.0 comes.0 (g.I.Source.remaining c.read_plan.new.input) (g.D.Device.contents c.serve_and_print-status.new.device) (g.D.Device.may_leave c.serve_and_print-status.new.device) (g.D.Device.may_leave c.args.device) (g.D.Device.clock c.args.device) (g.D.Device.clock c.serve_and_print-status.new.device) (g.D.Device.left_since c.serve_and_print-status.new.device) c.in-Ok.plan script.0 script.1 comes.2)
