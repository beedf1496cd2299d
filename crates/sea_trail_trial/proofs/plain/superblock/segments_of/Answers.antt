use Rattle.std.proofs.Common.{arith}
use Rattle.sea_trail.proofs.Told.{no_block}
use Rattle.sea_trail_trial.proofs.plain.superblock.segments_of.Goals as goal

pub returns-then-have-eq0-clause-told : goal.returns-then-have-eq0-clause-told
returns-then-have-eq0-clause-told c = no_block c.args.image.now (omega (arith, c.requires.whole))
