use Rattle.std.proofs.Common.{◌≡◌, is_some, sym, ap, ◌∙◌}
use Rattle.std.specs.FinMap as map
use Rattle.sea_plain.proofs.Lookups.{get_entry, one_given}
use Rattle.sea_plain.proofs.Making.{made_before, made_now}
use Rattle.sea_plain.proofs.objects.Objects.make.Goals as goal
use Rattle.sea_plain.proofs.objects.Objects.make.Goals.{After-contains_key}

-- whether there is an object is what the look-up says
looked_up : (c : After-contains_key) → is_some (map.get c.args.self.now c.args.name.now) ≡ c.contains_key.result
looked_up c =
    ap is_some (ap (λ m. map.get m c.args.name.now) (sym c.self.view_is) ∙ get_entry c.self.inside.objects.entries c.args.name.now) ∙ sym c.contains_key.ensures

pub returns-then-contains_key-clause-ok : goal.returns-then-contains_key-clause-ok
returns-then-contains_key-clause-ok c =
    made_before c.args.self.now c.args.name.now (looked_up (goal.at.returns-then-contains_key-clause-ok c).After-contains_key ∙ c.if-contains_key.true)

pub returns-clause-ok : goal.returns-clause-ok
returns-clause-ok c =
    let before = c.self.inside.objects in
    one_given before.entries c.insert.new.self.entries c.in_ok-copy.field-0 c.new.result c.in_ok-insert.ensures.updates.0
    ∙ ap (λ name. map.insert (map.from_entries before.entries) name c.new.result) c.in_ok-copy.ensures
    ∙ ap (λ m. map.insert m c.args.name.now c.new.result) c.self.view_is
    ∙ ap (map.insert c.args.self.now c.args.name.now) (c.new.ensures ∙ made_now c.args.self.now c.args.name.now (looked_up (goal.at.returns-clause-ok c).After-contains_key ∙ c.if-contains_key.false))
