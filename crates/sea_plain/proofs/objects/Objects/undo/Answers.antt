use Rattle.std.proofs.Common.{IsSome, sym, ap, subst, ◌∙◌}
use Rattle.std.proofs.lemmas.Bool.{false≢true}
use Rattle.std.specs.FinMap as map
use Rattle.sea_plain.specs.Objects.{ObjectValue}
use Rattle.sea_plain.specs.Undo.{CanUndo, undone, Fits, restored}
use Rattle.sea_plain.proofs.Lookups.{get_entry, one_taken, written_through}
use Rattle.sea_plain.proofs.Undo.{object_found}
use Rattle.sea_plain.proofs.objects.Objects.undo.Goals as goal

pub returns-in-Made : goal.returns-in-Made
returns-in-Made c =
    one_taken c.self.inside.objects.entries c.remove.new.self.entries c.args.name.now c.remove.ensures.updates.0
    ∙ ap (λ m. map.remove m c.args.name.now) c.self.view_is
    ∙ ap (λ undo. undone undo c.args.name.now c.args.self.now) (sym c.in-Made.is)

pub restore-requires : goal.restore-requires
restore-requires c =
    let can = subst (λ undo. CanUndo undo c.args.name.now c.args.self.now) c.in-Written.is c.requires in
    let has = ap (λ m. map.get m c.args.name.now) (sym c.self.view_is) ∙ get_entry c.self.inside.objects.entries c.args.name.now ∙ sym c.in-Some.ensures.value in
    subst (λ (object : ObjectValue). Fits c.in-Written.saved object.bytes) (object_found _ _ _ has) can.1

pub returns-in-Some : goal.returns-in-Some
returns-in-Some c =
    let holds = c.get_mut.follows.holds c.restore.new.self in
    let wrote = written_through c.args.self.now c.args.name.now c.self.inside.objects.entries _ c.in-Some.object.now c.restore.new.self c.self.view_is c.in-Some.ensures.value (λ some. (holds.3 some).0) in
    wrote.0
    ∙ ap (map.insert c.args.self.now c.args.name.now) (c.restore.ensures ∙ ap (λ (o : ObjectValue). record o { bytes = restored c.in-Written.saved o.bytes }) (sym (object_found _ _ _ wrote.1)))
    ∙ ap (λ undo. undone undo c.args.name.now c.args.self.now) (sym c.in-Written.is)

pub returns : goal.returns
returns c =
    let can = subst (λ undo. CanUndo undo c.args.name.now c.args.self.now) c.in-Written.is c.requires in
    let none = ap (λ m. map.get m c.args.name.now) (sym c.self.view_is) ∙ get_entry c.self.inside.objects.entries c.args.name.now ∙ sym c.in_default.ensures.value in
    absurd (false≢true (subst IsSome none can.0))
