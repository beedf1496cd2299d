use Rattle.sea_delta.proofs.Filling.{filled_spliced}
use Rattle.sea_delta.proofs.splice.Goals as goal
use Rattle.std.proofs.Common.{arith}
use Rattle.std.proofs.lemmas.Grind.{common_steps}

pub returns : goal.returns
returns c =
    grind (arith, common_steps, filled_spliced)
