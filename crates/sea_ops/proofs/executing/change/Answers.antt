use Rattle.std.proofs.Common.{◌≡◌}
use Rattle.sea_ops.proofs.Failing.{fails_with_less}
use Rattle.sea_ops.proofs.executing.change.Goals as goal

pub returns-in-Touch-clause-failure : goal.returns-in-Touch-clause-failure
returns-in-Touch-clause-failure g c = rw c.done.ensures (fails_with_less (g.S.Space.seen c.args.space.now) (g.S.Space.seen c.touch.new.space) c.touch.result c.touch.ensures.failure)
