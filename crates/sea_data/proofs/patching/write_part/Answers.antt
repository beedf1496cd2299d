use Rattle.sea_base.proofs.Calling.{call_then}
use Rattle.sea_data.proofs.patching.write_part.Goals as goal

pub returns-in_ok-put-in-Some-clause-call : goal.returns-in_ok-put-in-Some-clause-call
returns-in_ok-put-in-Some-clause-call g c = call_then g.S.Space g.met.S.Space.frame c.in_ok-found.ensures.call c.amend.ensures.call

pub returns-in_ok-block-in-None-clause-call : goal.returns-in_ok-block-in-None-clause-call
returns-in_ok-block-in-None-clause-call g c = call_then g.S.Space g.met.S.Space.frame c.in_ok-found.ensures.call c.put-in-None.ensures.call
