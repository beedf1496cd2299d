use Rattle.std.proofs.Common.{length, ap, arith}
use Rattle.sea_trail.proofs.Ranges.{part_range}
use Rattle.sea_trail.proofs.chain.read_part.Goals as goal

pub returns-clause-range : goal.returns-clause-range
returns-clause-range g c =
    part_range c.args.found.now c.deref.result.now c.in_ok-part.part c.requires.fit.0 c.requires.fit.1
    (omega (arith, ap length c.deref.ensures.value, c.in_ok-bytes.ensures.len)) c.in_ok-part.ensures
