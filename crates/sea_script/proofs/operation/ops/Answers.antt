use Rattle.std.proofs.Common.{[], ◌∷◌, ◌++◌, ap, ◌∙◌}
use Rattle.std.proofs.lemmas.Result.{err_from_is_err_and}
use Rattle.sea_script.specs.Operation.{Spells}
use Rattle.sea_script.specs.Reading.{seen}
use Rattle.sea_script.specs.ReadingLines.{op_parts_left}
use Rattle.sea_script.specs.Script.{parts}
use Rattle.sea_script.proofs.Operations.{each_more, left_more, ops_fail}
use Rattle.sea_script.proofs.operation.ops.Goals as goal

pub returns-in_err-op : goal.returns-in_err-op
returns-in_err-op c =
    let done = c.loop-left.invariant.done in
    let p = err_from_is_err_and c.from_residual-in_err-op.result c.from_residual-in_err-op.ensures.1 in
    rw (p.1, p.2)
    (ops_fail (parts (seen c.args.words.now)) done (op_parts_left c.cut.result.1) (seen c.cut.result.0.now) c.loop-left.ops.items c.in_err-op.field-0.0 (c.loop-left.invariant.read ∙ ap (λ ps. done ++ ps) (ap op_parts_left c.in-Some.is ∙ c.cut.ensures)) c.loop-left.invariant.each c.in_err-op.ensures)

pub loop-left-preserved : goal.loop-left-preserved
loop-left-preserved c =
    let done = c.loop-left.invariant.done in
    rw c.in_ok-push.ensures.items
    (record {
      done = done ++ seen c.cut.result.0.now ∷ [];
      each = each_more Spells done c.loop-left.ops.items (seen c.cut.result.0.now) c.in_ok-op.field-0 c.loop-left.invariant.each c.in_ok-op.ensures;
      read = left_more (parts (seen c.args.words.now)) done (op_parts_left c.loop-left.left) (op_parts_left c.cut.result.1) (seen c.cut.result.0.now) c.loop-left.invariant.read (ap op_parts_left c.in-Some.is ∙ c.cut.ensures);
    })
