use Rattle.std.proofs.Common.{sym, ap, ◌∙◌}
use Rattle.std.specs.FinMap as map
use Rattle.sea_object.specs.Undo.{refilled}
use Rattle.sea_object.proofs.Lookups.{get_entry, written_through}
use Rattle.sea_object.proofs.values.Values.refill.Goals as goal

pub returns-in-Some : goal.returns-in-Some
returns-in-Some c =
    let holds = c.get_mut.follows.holds c.put_in.new.slot in
    let wrote = written_through c.args.self.now c.args.key.now c.self.inside.slots.entries _ c.in-Some.slot.now c.put_in.new.slot c.self.view_is c.in-Some.ensures.value (λ some. (holds.3 some).0) in
    wrote.0
    ∙ ap (map.insert c.args.self.now c.args.key.now) c.put_in.ensures
    ∙ ap (refilled c.args.self.now c.args.key.now c.args.value) (sym wrote.1)

pub returns : goal.returns
returns c =
    let none = ap (λ m. map.get m c.args.key.now) (sym c.self.view_is) ∙ get_entry c.self.inside.slots.entries c.args.key.now ∙ sym c.in_default.ensures.value in
    ap (λ slots. map.from_entries slots.entries) c.get_mut.follows.holds-at-none
    ∙ c.self.view_is
    ∙ ap (refilled c.args.self.now c.args.key.now c.args.value) (sym none)
