use Rattle.std.proofs.Common.{sym, ap, ◌∙◌}
use Rattle.std.specs.FinMap.{empty, from_entries, insert}
use Rattle.sea_object.specs.Objects.{with_pairs}
use Rattle.sea_object.proofs.Copies.{with_pairs_all}
use Rattle.sea_object.proofs.Lookups.{one_given}
use Rattle.sea_object.proofs.named.copy_named.Goals as goal

pub loop-name-preserved-in_ok-insert : goal.loop-name-preserved-in_ok-insert
loop-name-preserved-in_ok-insert g c =
    let before = from_entries c.loop-name.made.entries in
    let name = c.in-Some.name.now in
    let inserted = one_given c.loop-name.made.entries c.insert-in-loop-name.new.self.entries c.in_ok-copy.field-0 c.in_ok-copy-2.field-0 c.in_ok-insert.ensures.updates.0 ∙ ap (λ k. insert before k c.in_ok-copy-2.field-0) c.in_ok-copy.ensures ∙ ap (λ v. insert before name v) c.in_ok-copy-2.ensures in
    ap (with_pairs c.next.new.self) inserted
    ∙ ap (λ es. with_pairs es before) (sym c.in-Some.ensures.steps)
    ∙ c.loop-name.invariant

pub loop-name-preserved : goal.loop-name-preserved
loop-name-preserved g c =
    let before = from_entries c.loop-name.made.entries in
    let name = c.in-Some.name.now in
    let inserted = one_given c.loop-name.made.entries c.insert-in-loop-name.new.self.entries c.in_ok-copy.field-0 c.in_ok-copy-2.field-0 c.in_ok-insert.ensures.updates.0 ∙ ap (λ k. insert before k c.in_ok-copy-2.field-0) c.in_ok-copy.ensures ∙ ap (λ v. insert before name v) c.in_ok-copy-2.ensures in
    ap (with_pairs c.next.new.self) inserted
    ∙ ap (λ es. with_pairs es before) (sym c.in-Some.ensures.steps)
    ∙ c.loop-name.invariant

pub returns : goal.returns
returns g c =
    let gives = c.into_iter-name-iterator.ensures.into_iter_gives in
    sym (ap (λ es. with_pairs es (from_entries c.loop-name.made.entries)) c.in-None.ensures.steps.0)
    ∙ c.loop-name.invariant
    ∙ ap (λ es. with_pairs es empty) gives.0
    ∙ with_pairs_all c.args.named.now.entries gives.5
