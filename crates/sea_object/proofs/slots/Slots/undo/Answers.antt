use Rattle.std.proofs.Common.{sym, ap, subst, ◌∙◌}
use Rattle.std.specs.FinMap as map
use Rattle.sea_object.specs.Undo.{CanUndoFound, put_back}
use Rattle.sea_object.proofs.Lookups.{get_entry, written_through}
use Rattle.sea_object.proofs.slots.Slots.undo.Goals as goal

pub undo_slot-requires : goal.undo_slot-requires
undo_slot-requires c =
    let has = ap (λ m. map.get m c.args.name.now) (sym c.self.view_is) ∙ get_entry c.self.inside.slots.entries c.args.name.now ∙ sym c.in-Some.ensures.value in
    subst (CanUndoFound c.args.undo) has c.requires

pub returns-in-Some : goal.returns-in-Some
returns-in-Some c =
    let holds = c.get_mut.follows.holds c.undo_slot.new.slot in
    let wrote = written_through c.args.self.now c.args.name.now c.self.inside.slots.entries _ c.in-Some.slot.now c.undo_slot.new.slot c.self.view_is c.in-Some.ensures.value (λ some. (holds.3 some).0) in
    wrote.0
    ∙ ap (map.insert c.args.self.now c.args.name.now) c.undo_slot.ensures
    ∙ ap (put_back c.args.undo c.args.name.now c.args.self.now) (sym wrote.1)

pub returns : goal.returns
returns c =
    let none = ap (λ m. map.get m c.args.name.now) (sym c.self.view_is) ∙ get_entry c.self.inside.slots.entries c.args.name.now ∙ sym c.in_default.ensures.value in
    ap (λ slots. map.from_entries slots.entries) c.get_mut.follows.holds-at-none
    ∙ c.self.view_is
    ∙ ap (put_back c.args.undo c.args.name.now c.args.self.now) (sym none)
