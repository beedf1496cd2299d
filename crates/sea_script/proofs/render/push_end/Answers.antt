use Rattle.sea_script.proofs.Rendering.{tells_apart}
use Rattle.sea_script.proofs.render.push_end.Goals as goal

pub returns-in_err-line-clause-apart : goal.returns-in_err-line-clause-apart
returns-in_err-line-clause-apart c = tells_apart

pub returns-in_err-push_str-clause-apart : goal.returns-in_err-push_str-clause-apart
returns-in_err-push_str-clause-apart c = tells_apart

pub returns-clause-apart : goal.returns-clause-apart
returns-clause-apart c = tells_apart
