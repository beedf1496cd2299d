use Rattle.std.proofs.Common.{sym, ap, ◌∙◌}
use Rattle.sea_object.specs.Held.{values_in}
use Rattle.sea_object.proofs.Logs.{values_get, values_tidy}
use Rattle.sea_object.proofs.values.Values.tidy.Goals as goal

pub returns-in-None : goal.returns-in-None
returns-in-None c =
    ap values_in c.remove.ensures
    ∙ values_tidy c.args.self.now c.args.key.now (sym (values_get c.args.self.now c.args.key.now) ∙ sym c.in-None.ensures)
