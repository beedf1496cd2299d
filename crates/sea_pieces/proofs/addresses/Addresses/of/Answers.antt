use Rattle.std.proofs.Common.{sym, ap, ◌∙◌}
use Rattle.std.specs.FinMap as map
use Rattle.sea_object.proofs.Lookups.{get_entry}
use Rattle.sea_pieces.proofs.addresses.Addresses.of.Goals as goal

pub returns-in-Some-clause-address : goal.returns-in-Some-clause-address
returns-in-Some-clause-address c =
    c.in-Some.ensures.value ∙ sym (get_entry c.self.inside.addresses.entries c.args.name.now) ∙ ap (λ m. map.get m c.args.name.now) c.self.view_is

pub returns-in-None-clause-address : goal.returns-in-None-clause-address
returns-in-None-clause-address c =
    c.in-None.ensures.value ∙ sym (get_entry c.self.inside.addresses.entries c.args.name.now) ∙ ap (λ m. map.get m c.args.name.now) c.self.view_is
