use Rattle.std.proofs.Common.{Some, sym, ap, ◌∙◌}
use Rattle.std.specs.FinMap as map
use Rattle.sea_object.proofs.Lookups.{get_entry}
use Rattle.sea_object.proofs.values.Values.slot_of.Goals as goal

pub returns-in_ok-copy-in-Some : goal.returns-in_ok-copy-in-Some
returns-in_ok-copy-in-Some c =
    ap Some c.in_ok-copy-in-Some.ensures
    ∙ c.in-Some.ensures.value ∙ sym (get_entry c.self.inside.slots.entries c.args.key.now) ∙ ap (λ m. map.get m c.args.key.now) c.self.view_is

pub returns-in-None : goal.returns-in-None
returns-in-None c =
    c.in-None.ensures.value ∙ sym (get_entry c.self.inside.slots.entries c.args.key.now) ∙ ap (λ m. map.get m c.args.key.now) c.self.view_is
