use Rattle.std.proofs.Common.{◌≡◌, ◌≤◌, ◌<◌, ◌++◌, ◌∷◌, [], List, length, take, sym, ap, ◌∙◌, arith, length-append}
use Rattle.std.specs.Option.{option_copied}
use Rattle.sea_node.specs.Entries.{Entry}
use Rattle.sea_tree.specs.Range.{is_above, entries_above}
use Rattle.sea_tree.proofs.Ranges.{take_enough, take_skip, take_more}
use Rattle.sea_tree.proofs.reading.take_above.Goals as goal
use Rattle.sea_tree.proofs.reading.take_above.Goals.{then-comes_after+in_ok-copy+in_ok-copy-2+in_ok-push, else-comes_after}

pub returns-then-items-limit : goal.returns-then-items-limit
returns-then-items-limit c =
    let long : c.args.limit ≤ length c.loop-key.found = omega (arith, ap length c.items.ensures, c.if-items-limit.true) in
    take_enough c.args.limit c.args.found.now c.items-entries.result.now c.loop-key.found (is_above (option_copied c.args.after)) c.loop-key.key-index c.loop-key.invariant.found long
    ∙ ap (λ (es : List Entry). take c.args.limit (c.args.found.now ++ entries_above (option_copied c.args.after) es)) c.items-entries.ensures

pub loop-key-preserved : goal.loop-key-preserved
loop-key-preserved c =
    let few : length c.loop-key.found < c.args.limit = omega (arith, ap length c.items.ensures, c.if-items-limit.false) in
    let es = c.items-entries.result.now in
    let above = is_above (option_copied c.args.after) in
    elim c.if-comes_after.branch [
      | then-comes_after+in_ok-copy+in_ok-copy-2+in_ok-push w ↦
          let key : w.in_ok-copy.field-0 ≡ c.loop-key-item.result.0 = w.in_ok-copy.ensures in
          let value : w.in_ok-copy-2.field-0 ≡ c.loop-key-item.result.1 = w.in_ok-copy-2.ensures in
          let pair : ◌≡◌ {A = Entry} (w.in_ok-copy.field-0, w.in_ok-copy-2.field-0) c.loop-key-item.result = λ i. (key i, value i) in
          let pushed : c.if-comes_after.found ≡ c.loop-key.found ++ c.loop-key-item.result ∷ [] = w.found-is ∙ w.in_ok-push.ensures.ok ∙ ap (λ (e : Entry). c.loop-key.found ++ e ∷ []) pair in record {
            found = pushed ∙ take_more c.args.limit c.args.found.now es c.loop-key.found above c.loop-key.key-index c.loop-key.invariant.found c.loop-key-item.result c.loop-key-test.true c.loop-key-item.is (sym c.comes_after.ensures ∙ w.if-comes_after.true) few;
            count = omega (arith, ap length pushed, length-append c.loop-key.found (c.loop-key-item.result ∷ []));
          }
      | else-comes_after w ↦ record {
        found = w.found-is ∙ take_skip c.args.limit c.args.found.now es c.loop-key.found above c.loop-key.key-index c.loop-key.invariant.found c.loop-key-item.result c.loop-key-test.true c.loop-key-item.is (sym c.comes_after.ensures ∙ w.if-comes_after.false);
        count = omega (arith, ap length w.found-is, c.loop-key.invariant.count);
      }
    ]
