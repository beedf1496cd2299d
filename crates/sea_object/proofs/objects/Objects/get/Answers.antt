use Rattle.std.proofs.Common.{sym, ap, ◌∙◌}
use Rattle.std.specs.Prelude.{option_map}
use Rattle.std.specs.FinMap as map
use Rattle.sea_object.specs.Held.{shown}
use Rattle.sea_object.proofs.ShownObjects.{get-shown}
use Rattle.sea_object.proofs.objects.Objects.get.Goals as goal

pub returns : goal.returns
returns c =
    ap (option_map shown) c.get.ensures
    ∙ sym (get-shown c.self.inside.slots c.args.name.now)
    ∙ ap (λ m. map.get m c.args.name.now) c.self.view_is
