use Rattle.sea_top.specs.Refusal.{ending_line}
use Rattle.sea_top.proofs.print.print_refusal.Goals as goal

pub returns : goal.returns
returns g c = c.say.ensures ending_line c.ending_text-text.ensures
