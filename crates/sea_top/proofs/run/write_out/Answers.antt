use Rattle.sea_top.proofs.Outcomes.{none_left}
use Rattle.sea_top.proofs.run.write_out.Goals as goal

pub returns-in-Ok-clause-kept : goal.returns-in-Ok-clause-kept
returns-in-Ok-clause-kept g c image records news held trail only waits =
    none_left _ c.write.result c.err.result c.err.ensures.value (c.write.ensures.kept image records news held trail only waits)
