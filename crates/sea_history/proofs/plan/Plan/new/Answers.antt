use Rattle.std.proofs.Common.{[], arith, length, ap, ◌∙◌}
use Rattle.std.proofs.lemmas.List.{length-replicate}
use Rattle.sea_history.proofs.Numbers.{all_empty}
use Rattle.sea_history.proofs.plan.Plan.new.Goals as goal

pub invariant_of-result : goal.invariant_of-result
invariant_of-result c =
    let items = c.loop.invariant in
    let long = ap length items ∙ length-replicate c.loop.counter [] in
    record {
      some = omega (arith, long);
      few = omega (arith, long);
      each = rw items (all_empty c.loop.counter 10000);
    }
