use Rattle.std.proofs.Common.{Some, sym, ap, ◌∙◌}
use Rattle.std.specs.FinMap as map
use Rattle.sea_object.proofs.Lookups.{one_given}
use Rattle.sea_object.proofs.values.Values.fill.Goals as goal

pub returns-clause-ok : goal.returns-clause-ok
returns-clause-ok c =
    let before = c.self.inside.slots.entries in
    let value = c.in_ok-value.value in
    one_given before c.insert.new.self.entries c.in_ok-key.key (Some value) c.in_ok-insert.ensures.updates.0
    ∙ ap (λ key. map.insert (map.from_entries before) key (Some value)) c.in_ok-key.ensures
    ∙ ap (λ v. map.insert (map.from_entries before) c.args.key.now (Some v)) c.in_ok-value.ensures
    ∙ ap (λ m. map.insert m c.args.key.now (Some c.args.value.now)) c.self.view_is
