use Rattle.std.proofs.Common.{ap, ◌∙◌}
use Rattle.sea_object.specs.Held.{shown_objects}
use Rattle.sea_object.proofs.ShownObjects.{shown-empty}
use Rattle.sea_object.proofs.objects.Objects.new.Goals as goal

pub returns : goal.returns
returns c = ap shown_objects c.new.ensures ∙ shown-empty
