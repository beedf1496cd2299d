use Rattle.std.proofs.Common.{arith}
use Rattle.std.proofs.lemmas.Grind.{common_steps}
use Rattle.sea_data.proofs.Loops.{filled}
use Rattle.sea_data.proofs.patching.block_of.Goals as goal

pub returns : goal.returns
returns c = grind (arith, common_steps, filled)
