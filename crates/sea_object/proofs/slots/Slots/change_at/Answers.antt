use Rattle.std.proofs.Common.{◌≡◌, Some, None, sym, ap, subst, ◌∙◌}
use Rattle.std.specs.Prelude.{OnErr, Result, Ok, Err}
use Rattle.std.proofs.lemmas.Result.{err_from_is_err_and}
use Rattle.std.specs.FinMap as map
use Rattle.sea_object.specs.Answer.{object_after, refusal_at}
use Rattle.sea_object.specs.Held.{shown_objects}
use Rattle.sea_object.specs.Objects.{with_object}
use Rattle.sea_object.specs.Undo.{CanUndoFound, MayHalt, put_back}
use Rattle.sea_object.proofs.Lookups.{get_entry, get-insert_same, insert-insert, insert_same, one_given, remove-insert, written_through}
use Rattle.sea_object.proofs.ShownObjects.{get-shown, seen, shown-insert}
use Rattle.sea_object.proofs.slots.Slots.change_at.Goals as goal

on_err : {T E P : Type 0} (r : Result T E) → P → OnErr r P
on_err (Ok x) p = tt
on_err (Err e) p = p

pub returns-in_err-change_slot-clause-err : goal.returns-in_err-change_slot-clause-err
returns-in_err-change_slot-clause-err c =
    let holds = c.get_mut.follows.holds c.change_slot.new.slot in
    let wrote = written_through c.args.self.now c.args.name.now c.self.inside.slots.entries _ c.in-Some.slot.now c.change_slot.new.slot c.self.view_is c.in-Some.ensures.value (λ some. (holds.3 some).0) in
    on_err c.from_residual.result (wrote.0 ∙ ap (map.insert c.args.self.now c.args.name.now) c.in_err-change_slot.ensures.err ∙ insert_same c.args.self.now c.args.name.now c.in-Some.slot.now wrote.1)

pub returns-in_err-change_slot-clause-refused : goal.returns-in_err-change_slot-clause-refused
returns-in_err-change_slot-clause-refused c =
    let has = ap (λ m. map.get m c.args.name.now) (sym c.self.view_is) ∙ get_entry c.self.inside.slots.entries c.args.name.now ∙ sym c.in-Some.ensures.value in
    let is = get-shown c.args.self.now c.args.name.now ∙ ap seen has in
    let p = err_from_is_err_and c.from_residual.result c.from_residual.ensures.1 in
    rw (p.1, p.2) (subst (λ o. MayHalt (refusal_at c.args.op.now o) c.in_err-change_slot.field-0.0) (sym is) c.in_err-change_slot.ensures.refused)

pub returns-in-Some-clause-fits : goal.returns-in-Some-clause-fits
returns-in-Some-clause-fits c =
    let has = ap (λ m. map.get m c.args.name.now) (sym c.self.view_is) ∙ get_entry c.self.inside.slots.entries c.args.name.now ∙ sym c.in-Some.ensures.value in
    ap (refusal_at c.args.op.now) (get-shown c.args.self.now c.args.name.now ∙ ap seen has) ∙ c.in_ok-change_slot.ensures.fits

pub returns-in-Some-clause-ok : goal.returns-in-Some-clause-ok
returns-in-Some-clause-ok c =
    let holds = c.get_mut.follows.holds c.change_slot.new.slot in
    let wrote = written_through c.args.self.now c.args.name.now c.self.inside.slots.entries _ c.in-Some.slot.now c.change_slot.new.slot c.self.view_is c.in-Some.ensures.value (λ some. (holds.3 some).0) in
    ap shown_objects wrote.0
    ∙ shown-insert c.args.self.now c.args.name.now c.change_slot.new.slot
    ∙ ap (with_object (shown_objects c.args.self.now) c.args.name.now) (c.in_ok-change_slot.ensures.ok ∙ ap (object_after c.args.op.now) (sym (get-shown c.args.self.now c.args.name.now ∙ ap seen wrote.1)))

pub returns-in-Some-clause-can : goal.returns-in-Some-clause-can
returns-in-Some-clause-can c =
    let holds = c.get_mut.follows.holds c.change_slot.new.slot in
    let wrote = written_through c.args.self.now c.args.name.now c.self.inside.slots.entries _ c.in-Some.slot.now c.change_slot.new.slot c.self.view_is c.in-Some.ensures.value (λ some. (holds.3 some).0) in
    let there = ap (λ m. map.get m c.args.name.now) wrote.0 ∙ get-insert_same c.args.self.now c.args.name.now c.change_slot.new.slot in
    subst (CanUndoFound c.in_ok-change_slot.field-0) (sym there) c.in_ok-change_slot.ensures.can

pub returns-in-Some-clause-undo : goal.returns-in-Some-clause-undo
returns-in-Some-clause-undo c =
    let name = c.args.name.now in
    let holds = c.get_mut.follows.holds c.change_slot.new.slot in
    let wrote = written_through c.args.self.now name c.self.inside.slots.entries _ c.in-Some.slot.now c.change_slot.new.slot c.self.view_is c.in-Some.ensures.value (λ some. (holds.3 some).0) in
    let there = ap (λ m. map.get m name) wrote.0 ∙ get-insert_same c.args.self.now name c.change_slot.new.slot in
    ap (put_back c.in_ok-change_slot.field-0 name _) there
    ∙ ap (map.insert _ name) c.in_ok-change_slot.ensures.undo
    ∙ ap (λ m. map.insert m name c.in-Some.slot.now) wrote.0
    ∙ insert-insert c.args.self.now name c.change_slot.new.slot c.in-Some.slot.now wrote.1

pub returns-in_err-change_slot-2-clause-refused : goal.returns-in_err-change_slot-2-clause-refused
returns-in_err-change_slot-2-clause-refused c =
    let none = ap (λ m. map.get m c.args.name.now) (sym c.self.view_is) ∙ get_entry c.self.inside.slots.entries c.args.name.now ∙ sym c.in_default.ensures.value in
    let is = get-shown c.args.self.now c.args.name.now ∙ ap seen none in
    let p = err_from_is_err_and c.from_residual-in_err-change_slot-2.result c.from_residual-in_err-change_slot-2.ensures.1 in
    rw (p.1, p.2) (subst (λ o. MayHalt (refusal_at c.args.op.now o) c.in_err-change_slot-2.field-0.0) (sym is) c.in_err-change_slot-2.ensures.refused)

pub returns-clause-ok : goal.returns-clause-ok
returns-clause-ok c =
    let name = c.args.name.now in
    let slot = c.change_slot-2.new.slot in
    let before = c.get_mut.follows.lender-at-none in
    let none = ap (λ m. map.get m name) (sym c.self.view_is) ∙ get_entry c.self.inside.slots.entries name ∙ sym c.in_default.ensures.value in
    let inserted = one_given before.entries c.insert.new.self.entries c.in_ok-copy.field-0 slot c.in_ok-insert.ensures.updates.0 ∙ ap (λ key. map.insert (map.from_entries before.entries) key slot) c.in_ok-copy.ensures ∙ ap (λ m. map.insert m name slot) (ap (λ slots. map.from_entries slots.entries) c.get_mut.follows.holds-at-none ∙ c.self.view_is) in
    ap shown_objects inserted
    ∙ shown-insert c.args.self.now name slot
    ∙ ap (with_object (shown_objects c.args.self.now) name) (c.in_ok-change_slot-2.ensures.ok ∙ ap (object_after c.args.op.now) (sym (get-shown c.args.self.now name ∙ ap seen none)))

pub returns-clause-undo : goal.returns-clause-undo
returns-clause-undo c =
    let name = c.args.name.now in
    let slot = c.change_slot-2.new.slot in
    let before = c.get_mut.follows.lender-at-none in
    let none = ap (λ m. map.get m name) (sym c.self.view_is) ∙ get_entry c.self.inside.slots.entries name ∙ sym c.in_default.ensures.value in
    let inserted = one_given before.entries c.insert.new.self.entries c.in_ok-copy.field-0 slot c.in_ok-insert.ensures.updates.0 ∙ ap (λ key. map.insert (map.from_entries before.entries) key slot) c.in_ok-copy.ensures ∙ ap (λ m. map.insert m name slot) (ap (λ slots. map.from_entries slots.entries) c.get_mut.follows.holds-at-none ∙ c.self.view_is) in
    ap (λ m. map.remove m name) inserted ∙ remove-insert c.args.self.now name slot none
