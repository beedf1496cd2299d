use Rattle.std.proofs.Common.{arith, length, ap, ◌∙◌, ◌-◌}
use Rattle.std.proofs.lemmas.List.{length-replicate, get_or-replicate}
use Rattle.sea_history.proofs.Numbers.{none_numbered}
use Rattle.sea_history.proofs.history.History.new.Goals as goal

pub invariant_of-result : goal.invariant_of-result
invariant_of-result c =
    let items = c.loop.invariant in
    let long = ap length items ∙ length-replicate c.loop.counter 0 in
    record {
      counted = λ client some few. rw (items, c.new.ensures.items) (get_or-replicate c.loop.counter (client - 1) 0 0 (omega (arith, long)));
      numbered = rw c.new.ensures.items none_numbered;
      few = omega arith;
      back = omega arith;
      within = omega arith;
      clients = omega (arith, long);
    }
