use Rattle.std.proofs.Common.{ap, ◌∙◌, length}
use Rattle.sea_top.proofs.Sealing.{length-digest_of}
use Rattle.sea_top.proofs.trail.tests.spelled.Goals as goal

pub returns : goal.returns
returns c = ap length c.in_ok-digest.ensures.ok.1 ∙ length-digest_of c.args.plain.now
