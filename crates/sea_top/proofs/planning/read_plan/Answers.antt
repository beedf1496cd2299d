use Rattle.std.proofs.Common.{List, ℕ, subst}
use Rattle.sea_plain_script.specs.Script.{IsScript}
use Rattle.sea_top.proofs.Plans.{plan_of}
use Rattle.sea_top.proofs.planning.read_plan.Goals as goal

pub returns-clause-plan : goal.returns-clause-plan
returns-clause-plan g c =
    plan_of c.in_ok-bytes.bytes.items (g.I.Source.remaining c.args.input.now) (g.I.Source.remaining c.read_all.new.input) c.in_ok-plan.plan c.in_ok-bytes.ensures.bytes (subst (λ (b : List ℕ). IsScript b c.in_ok-plan.plan) c.deref.ensures.value c.in_ok-plan.ensures.ok)
