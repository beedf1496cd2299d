use Rattle.std.proofs.Common.{sym, ap, ◌∙◌}
use Rattle.std.specs.FinMap as map
use Rattle.sea_plain.proofs.Lookups.{get_entry}
use Rattle.sea_plain.proofs.objects.Objects.get.Goals as goal

pub returns : goal.returns
returns c =
    c.get.ensures.value ∙ sym (get_entry c.self.inside.objects.entries c.args.name.now) ∙ ap (λ m. map.get m c.args.name.now) c.self.view_is
