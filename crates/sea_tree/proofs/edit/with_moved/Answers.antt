use Rattle.std.proofs.Common.{◌≡◌, ◌∙◌, sym, ap, List, ℕ, Bor}
use Rattle.std.proofs.lemmas.List.{take_all}
use Rattle.sea_node.specs.Entries.{Entry}
use Rattle.sea_tree.specs.Mending.{moved}
use Rattle.sea_tree.proofs.Applied.{moved_entry, moved_here, moved_other, moved_more}
use Rattle.sea_tree.proofs.edit.with_moved.Goals as goal
use Rattle.sea_tree.proofs.edit.with_moved.Goals.{then-eq, else-eq}

pub loop-key-preserved : goal.loop-key-preserved
loop-key-preserved c =
    let e : Entry = c.loop-key-item.result in
    let from = c.args.from.now in
    let to = c.args.to.now in
    let new : Entry = (c.in_ok-copy.field-0, c.in_ok-copy-2.field-0) in
    let is_new : new ≡ moved_entry from to e =
    elim c.if-eq.branch [
      | then-eq w ↦ (let key = c.in_ok-copy.ensures ∙ ap (λ (r : Bor (List ℕ)). r.now) w.key-is in let value = c.in_ok-copy-2.ensures in (λ j. (key j, value j)) ∙ moved_here from to e (sym c.eq.ensures ∙ w.if-eq.true))
      | else-eq w ↦ (let key = c.in_ok-copy.ensures ∙ ap (λ (r : Bor (List ℕ)). r.now) w.key-is in let value = c.in_ok-copy-2.ensures in (λ j. (key j, value j)) ∙ moved_other from to e (sym c.eq.ensures ∙ w.if-eq.false))
    ] in
    moved_more from to c.args.entries.now c.loop-key.key-index e new c.loop-key.changed c.push.new.self c.loop-key-test.true c.loop-key-item.is is_new c.loop-key.invariant c.in_ok-push.ensures.ok

pub returns : goal.returns
returns c =
    c.loop-key.invariant ∙ ap (moved c.args.from.now c.args.to.now) (take_all c.loop-key.key-index c.args.entries.now c.loop-key-test.false)
