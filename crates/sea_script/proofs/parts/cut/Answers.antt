use Rattle.std.proofs.Common.{◌==◌, sym}
use Rattle.sea_script.proofs.Splits.{cut_at, uncut}
use Rattle.sea_script.proofs.parts.cut.Goals as goal

pub returns-in-None : goal.returns-in-None
returns-in-None c = uncut (λ b. b == c.args.separator) c.args.bytes.now (sym c.in-None.ensures)

pub returns-in-Some : goal.returns-in-Some
returns-in-Some c = cut_at (λ b. b == c.args.separator) c.args.bytes.now 0 c.in-Some.end (sym c.in-Some.ensures)
