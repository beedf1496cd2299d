use Rattle.std.proofs.Common.{◌≡◌, OnErr, Result, Ok, Err, None, unwrap_or, sym, ap, ◌∙◌}
use Rattle.std.specs.FinMap as map
use Rattle.sea_plain.specs.Answer.{written}
use Rattle.sea_plain.specs.Objects.{ObjectValue, empty_object}
use Rattle.sea_plain.proofs.Lookups.{get_entry, one_given, insert_same, remove-insert, written_through}
use Rattle.sea_plain.proofs.Undo.{object_found, undo_written}
use Rattle.sea_plain.proofs.objects.Objects.write.Goals as goal

on_err : {T E P : Type 0} (r : Result T E) → P → OnErr r P
on_err (Ok x) p = tt
on_err (Err e) p = p

pub returns-in_err-write-clause-err : goal.returns-in_err-write-clause-err
returns-in_err-write-clause-err c =
    let holds = c.get_mut.follows.holds c.write.new.self in
    let wrote = written_through c.args.self.now c.args.name.now c.self.inside.objects.entries _ c.in-Some.object.now c.write.new.self c.self.view_is c.in-Some.ensures.value (λ some. (holds.3 some).0) in
    on_err c.from_residual.result (wrote.0 ∙ ap (map.insert c.args.self.now c.args.name.now) c.in_err-write.ensures.err ∙ insert_same c.args.self.now c.args.name.now c.in-Some.object.now wrote.1)

pub returns-in-Some-clause-ok : goal.returns-in-Some-clause-ok
returns-in-Some-clause-ok c =
    let holds = c.get_mut.follows.holds c.write.new.self in
    let wrote = written_through c.args.self.now c.args.name.now c.self.inside.objects.entries _ c.in-Some.object.now c.write.new.self c.self.view_is c.in-Some.ensures.value (λ some. (holds.3 some).0) in
    wrote.0 ∙ ap (map.insert c.args.self.now c.args.name.now) (c.in_ok-write.ensures.ok ∙ ap (λ (o : ObjectValue). record o { bytes = written c.args.offset c.args.bytes.now o.bytes }) (sym (object_found _ _ _ wrote.1)))

pub returns-in-Some-clause-undo : goal.returns-in-Some-clause-undo
returns-in-Some-clause-undo c =
    let holds = c.get_mut.follows.holds c.write.new.self in
    let wrote = written_through c.args.self.now c.args.name.now c.self.inside.objects.entries _ c.in-Some.object.now c.write.new.self c.self.view_is c.in-Some.ensures.value (λ some. (holds.3 some).0) in
    undo_written c.args.self.now _ c.args.name.now c.in-Some.object.now c.write.new.self c.in_ok-write.field-0 c.args.offset c.args.bytes.now wrote.1 wrote.0 c.in_ok-write.ensures.ok c.in_ok-write.ensures.saved

absent : (c : goal.Joined-branch-6) → map.get c.args.self.now c.args.name.now ≡ None
absent c = ap (λ m. map.get m c.args.name.now) (sym c.self.view_is) ∙ get_entry c.self.inside.objects.entries c.args.name.now ∙ sym c.in_default.ensures.value

inserted : (c : goal.Joined-branch-6) → map.from_entries c.insert.new.self.entries ≡ map.insert c.args.self.now c.args.name.now c.write-2.new.self
inserted c =
    let before = c.get_mut.follows.lender-at-none in
    one_given before.entries c.insert.new.self.entries c.in_ok-copy.field-0 c.write-2.new.self c.in_ok-insert.ensures.updates.0
    ∙ ap (λ name. map.insert (map.from_entries before.entries) name c.write-2.new.self) c.in_ok-copy.ensures
    ∙ ap (λ m. map.insert m c.args.name.now c.write-2.new.self) (ap (λ objects. map.from_entries objects.entries) c.get_mut.follows.holds-at-none ∙ c.self.view_is)

pub returns-clause-ok : goal.returns-clause-ok
returns-clause-ok c =
    let wrote : ObjectValue → ObjectValue = λ o. record o { bytes = written c.args.offset c.args.bytes.now o.bytes } in
    inserted c ∙ ap (map.insert c.args.self.now c.args.name.now) (c.in_ok-write-2.ensures.ok ∙ ap wrote (c.new-object.ensures ∙ sym (ap (λ found. unwrap_or found empty_object) (absent c))))

pub returns-clause-undo : goal.returns-clause-undo
returns-clause-undo c =
    (tt, ap (λ m. map.remove m c.args.name.now) (inserted c) ∙ remove-insert c.args.self.now c.args.name.now c.write-2.new.self (absent c))
