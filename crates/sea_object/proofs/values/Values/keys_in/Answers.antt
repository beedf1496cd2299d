use Rattle.std.proofs.Common.{◌≤◌, length, sym, ap, subst, ◌∙◌, inl, inr}
use Rattle.std.specs.BTreeMap.Range.{entries_between}
use Rattle.std.specs.Ordering.{nat_cmp}
use Rattle.std.specs.Cmp.Lexicographic.{slice_cmp}
use Rattle.std.specs.declared.ops.Bound.TheVariants.{Included, Excluded}
use Rattle.sea_object.proofs.Listing.{keys_listed}
use Rattle.sea_object.proofs.Shown.{live}
use Rattle.sea_object.proofs.values.Values.keys_in.Goals as goal

pub returns-then-items-bound : goal.returns-then-items-bound
returns-then-items-bound c =
    let range = c.range-key-items.ensures in
    let es = c.self.inside.slots.entries in
    let bounds = ap (λ from. entries_between (slice_cmp nat_cmp) (Included from) (Excluded c.in_ok-copy-2.field-0) es) c.in_ok-copy.ensures ∙ ap (λ to. entries_between (slice_cmp nat_cmp) (Included c.args.from.now) (Excluded to) es) c.in_ok-copy-2.ensures in
    keys_listed es c.args.self.now c.args.from.now c.args.to.now c.args.bound c.loop-key.keys c.loop-key.key-iterator range.ordered c.self.view_is (c.loop-key.invariant.all ∙ ap live (c.into_iter-key-iterator.ensures.into_iter_gives ∙ range.between tt ∙ bounds)) c.loop-key.invariant.few (inl (subst (λ xs. c.args.bound ≤ length xs) c.items.ensures c.if-items-bound.true))

pub returns : goal.returns
returns c =
    let range = c.range-key-items.ensures in
    let es = c.self.inside.slots.entries in
    let bounds = ap (λ from. entries_between (slice_cmp nat_cmp) (Included from) (Excluded c.in_ok-copy-2.field-0) es) c.in_ok-copy.ensures ∙ ap (λ to. entries_between (slice_cmp nat_cmp) (Included c.args.from.now) (Excluded to) es) c.in_ok-copy-2.ensures in
    keys_listed es c.args.self.now c.args.from.now c.args.to.now c.args.bound c.loop-key.keys c.loop-key.key-iterator range.ordered c.self.view_is (c.loop-key.invariant.all ∙ ap live (c.into_iter-key-iterator.ensures.into_iter_gives ∙ range.between tt ∙ bounds)) c.loop-key.invariant.few (inr (ap live c.in-None.ensures.steps.0))
