use Rattle.std.proofs.Common.{◌≤◌, length, ap, subst, ◌∙◌, inl, inr}
use Rattle.std.specs.Option.{option_copied}
use Rattle.sea_object.proofs.Listing.{live_values, pairs_listed}
use Rattle.sea_object.proofs.values.Values.first.Goals as goal

pub returns-then-items-limit : goal.returns-then-items-limit
returns-then-items-limit c =
    let range = c.range-key-items.ensures in
    pairs_listed c.self.inside.slots.entries c.args.self.now c.in_ok-start.start (option_copied c.args.after) c.args.limit c.loop-key.pairs c.loop-key.key-iterator range.ordered c.self.view_is c.in_ok-start.ensures (c.loop-key.invariant.all ∙ ap live_values (c.into_iter-key-iterator.ensures.into_iter_gives ∙ range.between tt)) c.loop-key.invariant.few (inl (subst (λ xs. c.args.limit ≤ length xs) c.items.ensures c.if-items-limit.true))

pub returns : goal.returns
returns c =
    let range = c.range-key-items.ensures in
    pairs_listed c.self.inside.slots.entries c.args.self.now c.in_ok-start.start (option_copied c.args.after) c.args.limit c.loop-key.pairs c.loop-key.key-iterator range.ordered c.self.view_is c.in_ok-start.ensures (c.loop-key.invariant.all ∙ ap live_values (c.into_iter-key-iterator.ensures.into_iter_gives ∙ range.between tt)) c.loop-key.invariant.few (inr (ap live_values c.in-None.ensures.steps.0))
