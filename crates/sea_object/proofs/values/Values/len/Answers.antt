use Rattle.std.proofs.Common.{◌≡◌, ◌+◌, sym, ap, subst, ◌∙◌, length, arith}
use Rattle.std.specs.Prelude.{not}
use Rattle.std.specs.FinMap as map
use Rattle.sea_object.proofs.Logs.{values_count}
use Rattle.sea_object.proofs.Order.{entries_from}
use Rattle.sea_object.proofs.Shown.{few_live, live, live_gone}
use Rattle.sea_object.proofs.values.Values.len.Goals as goal

pub overflow_sub-count : goal.overflow_sub-count
overflow_sub-count c =
    let gone = live_gone _ c.in-Some.slot.now _ _ c.in-Some.ensures.steps (c.is_none.ensures ∙ ap not c.if-is_none.true) in
    omega (arith, gone, few_live c.next.new.self, c.loop-slot.invariant.counted)

pub loop-slot-preserved-then-is_none : goal.loop-slot-preserved-then-is_none
loop-slot-preserved-then-is_none c =
    let gone = live_gone _ c.in-Some.slot.now _ _ c.in-Some.ensures.steps (c.is_none.ensures ∙ ap not c.if-is_none.true) in
    let few = few_live c.next.new.self in
    let counted = c.loop-slot.invariant.counted in
    let most = c.loop-slot.invariant.few in
    record { counted = omega (arith, gone, few, counted); few = omega (arith, most) }

pub returns-clause-value : goal.returns-clause-value
returns-clause-value c =
    let es = c.self.inside.slots.entries in
    let none = c.in-None.ensures.steps.0 in
    let counted = c.loop-slot.invariant.counted in
    let unseen = ap (λ xs. length (live xs)) none in
    let ended = ap length none in
    let begun = ap (λ xs. length (live xs)) c.into_iter-slot-iterator.ensures.into_iter_gives.0 in
    let total : c.loop-slot.count ≡ length (live c.into_iter-slot-iterator.result) = omega (arith, counted, unseen, ended) in
    total ∙ begun
    ∙ sym (ap (λ xs. length (live xs)) (ap map.entries (sym c.self.view_is) ∙ entries_from es c.len-count.ensures.ordered))
    ∙ sym (values_count c.args.self.now)
