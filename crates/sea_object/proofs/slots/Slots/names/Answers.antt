use Rattle.std.proofs.Common.{◌≤◌, length, ap, subst, ◌∙◌, inl, inr}
use Rattle.std.specs.Option.{option_copied}
use Rattle.sea_object.proofs.Listing.{names_listed}
use Rattle.sea_object.proofs.Shown.{live}
use Rattle.sea_object.proofs.slots.Slots.names.Goals as goal

pub returns-then-items-limit : goal.returns-then-items-limit
returns-then-items-limit c =
    let range = c.range-name-items.ensures in
    names_listed c.self.inside.slots.entries c.args.self.now c.in_ok-start.start (option_copied c.args.after) c.args.limit c.loop-name.names c.loop-name.name-iterator range.ordered c.self.view_is c.in_ok-start.ensures (c.loop-name.invariant.all ∙ ap live (c.into_iter-name-iterator.ensures.into_iter_gives ∙ range.between tt)) c.loop-name.invariant.few (inl (subst (λ xs. c.args.limit ≤ length xs) c.items.ensures c.if-items-limit.true))

pub returns : goal.returns
returns c =
    let range = c.range-name-items.ensures in
    names_listed c.self.inside.slots.entries c.args.self.now c.in_ok-start.start (option_copied c.args.after) c.args.limit c.loop-name.names c.loop-name.name-iterator range.ordered c.self.view_is c.in_ok-start.ensures (c.loop-name.invariant.all ∙ ap live (c.into_iter-name-iterator.ensures.into_iter_gives ∙ range.between tt)) c.loop-name.invariant.few (inr (ap live c.in-None.ensures.steps.0))
