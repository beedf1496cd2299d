use Rattle.sea_base.proofs.Calling.{call_then}
use Rattle.sea_data.proofs.patching.clear_from.Goals as goal

pub returns-clause-call : goal.returns-clause-call
returns-clause-call g c = call_then g.S.Space g.met.S.Space.frame c.in_ok-block.ensures.call c.amend.ensures.call
