use Rattle.std.proofs.Common.{ap, ◌∙◌}
use Rattle.std.specs.FinMap as map
use Rattle.sea_object.proofs.Lookups.{one_taken}
use Rattle.sea_object.proofs.values.Values.remove.Goals as goal

pub returns : goal.returns
returns c =
    one_taken c.self.inside.slots.entries c.remove.new.self.entries c.args.key.now c.remove.ensures.updates.0
    ∙ ap (λ m. map.remove m c.args.key.now) c.self.view_is
