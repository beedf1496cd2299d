use Rattle.std.proofs.Common.{arith}
use Rattle.sea_trail.proofs.Telling.{IfSome-from}
use Rattle.sea_trail.proofs.Told.{no_block}
use Rattle.sea_trail.proofs.superblock.read_segments.Goals as goal

pub returns-then-have-eq0-clause-refused : goal.returns-then-have-eq0-clause-refused
returns-then-have-eq0-clause-refused g c =
    IfSome-from (g.D.Device.contents c.args.device.now) _ (λ image told.
    no_block image (omega (arith, (g.met.D.Device.whole c.args.device.now image told).size)))
