use Rattle.std.proofs.Common.{◌≡◌, ◌<◌, ap, ◌∙◌, arith}
use Rattle.std.specs.FinMap as map
use Rattle.std.proofs.lemmas.Bool.{ltb-true}
use Rattle.sea_object.proofs.Logs.{values_few}
use Rattle.sea_object.proofs.Order.{length_from}
use Rattle.sea_object.proofs.values.Values.is_over.Goals as goal

pub returns-else-len-limit : goal.returns-else-len-limit
returns-else-len-limit c =
    let slots = c.len.ensures.len ∙ length_from c.self.inside.slots.entries c.len.ensures.ordered ∙ ap map.len c.self.view_is in
    (λ over. absurd (omega (arith, c.if-len-limit.false, ltb-true _ _ over)), λ over. absurd (omega (arith, over, slots, c.if-len-limit.false, values_few c.args.self.now)))
