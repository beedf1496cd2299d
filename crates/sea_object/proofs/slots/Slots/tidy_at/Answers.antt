use Rattle.std.proofs.Common.{sym, ap, ◌∙◌}
use Rattle.sea_object.specs.Held.{shown_objects}
use Rattle.sea_object.proofs.ShownObjects.{shown-remove}
use Rattle.sea_object.proofs.slots.Slots.tidy_at.Goals as goal

pub returns-in-None : goal.returns-in-None
returns-in-None c =
    ap shown_objects c.remove.ensures ∙ shown-remove c.args.self.now c.args.name.now (sym c.in-None.ensures)
