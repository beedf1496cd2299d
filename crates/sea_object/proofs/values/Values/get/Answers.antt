use Rattle.std.proofs.Common.{sym, ap, ◌∙◌}
use Rattle.std.specs.FinMap as map
use Rattle.std.specs.Option.{option_flatten}
use Rattle.sea_object.proofs.Logs.{values_get}
use Rattle.sea_object.proofs.Lookups.{get_entry}
use Rattle.sea_object.proofs.values.Values.get.Goals as goal

pub returns-in-Some : goal.returns-in-Some
returns-in-Some c =
    c.as_ref.ensures.value
    ∙ ap option_flatten (c.in-Some.ensures.value ∙ sym (get_entry c.self.inside.slots.entries c.args.key.now) ∙ ap (λ m. map.get m c.args.key.now) c.self.view_is)
    ∙ sym (values_get c.args.self.now c.args.key.now)

pub returns-in-None : goal.returns-in-None
returns-in-None c =
    ap option_flatten (c.in-None.ensures.value ∙ sym (get_entry c.self.inside.slots.entries c.args.key.now) ∙ ap (λ m. map.get m c.args.key.now) c.self.view_is)
    ∙ sym (values_get c.args.self.now c.args.key.now)
