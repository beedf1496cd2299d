use Rattle.std.proofs.Common.{ap, ◌∙◌}
use Rattle.sea_object.specs.Held.{shown_objects}
use Rattle.sea_object.proofs.Lookups.{written_through}
use Rattle.sea_object.proofs.ShownObjects.{shown-same}
use Rattle.sea_object.proofs.slots.Slots.settle_at.Goals as goal

pub returns-in-Some : goal.returns-in-Some
returns-in-Some c =
    let slots = c.args.self.now in
    let name = c.args.name.now in
    let new = c.settle_slot.new.slot in
    let holds = c.get_mut.follows.holds new in
    let wrote = written_through slots name c.self.inside.slots.entries _ c.in-Some.slot.now new c.self.view_is c.in-Some.ensures.value (λ some. (holds.3 some).0) in
    ap shown_objects wrote.0 ∙ shown-same slots name c.in-Some.slot.now new wrote.1 c.settle_slot.ensures
