use Rattle.sea_trail.proofs.Growth.{grows, grows_from, rolls}
use Rattle.sea_trail.proofs.Reasons.{one_reason}
use Rattle.sea_trail.proofs.Unique.{not_both, one_trail}
use Rattle.sea_trail.proofs.law.trail_laws.Goals as goal

pub returns-clause-one : goal.returns-clause-one
returns-clause-one c = one_trail

pub returns-clause-not_both : goal.returns-clause-not_both
returns-clause-not_both c = not_both

pub returns-clause-one_reason : goal.returns-clause-one_reason
returns-clause-one_reason c = one_reason

pub returns-clause-grows : goal.returns-clause-grows
returns-clause-grows c = grows

pub returns-clause-grows_from : goal.returns-clause-grows_from
returns-clause-grows_from c = grows_from

pub returns-clause-rolls : goal.returns-clause-rolls
returns-clause-rolls c = rolls
