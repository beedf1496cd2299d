use Rattle.std.proofs.Common.{◌≡◌, sym, ap, subst, ◌∙◌}
use Rattle.std.specs.Prelude.{IfOk, option_map}
use Rattle.sea_object.specs.Answer.{item_at}
use Rattle.sea_object.specs.Held.{shown}
use Rattle.sea_object.proofs.ShownObjects.{get-shown}
use Rattle.sea_object.proofs.slots.Slots.item_of.Goals as goal

pub returns-in-Some : goal.returns-in-Some
returns-in-Some c =
    subst (λ o. IfOk c.item.result (λ made. made ≡ item_at c.args.op.now o)) (ap (option_map shown) c.in-Some.ensures ∙ sym (get-shown c.args.self.now c.args.name.now)) c.item.ensures

pub returns-in-None : goal.returns-in-None
returns-in-None c =
    c.nothing_of.ensures ∙ ap (item_at c.args.op.now) (ap (option_map shown) c.in-None.ensures ∙ sym (get-shown c.args.self.now c.args.name.now))
