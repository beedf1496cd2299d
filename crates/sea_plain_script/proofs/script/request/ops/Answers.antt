use Rattle.std.proofs.Common.{◌≡◌, ◌++◌, codes, ap, ◌∙◌}
use Rattle.std.proofs.lemmas.Result.{err_from_is_err_and}
use Rattle.sea_plain_script.specs.ScriptReading.{left}
use Rattle.sea_plain_script.specs.Script.{op_words}
use Rattle.sea_plain_script.proofs.Requests.{all_more, no_op, no_mark, op_more, whole_ops, same_bytes, other_bytes}
use Rattle.std.proofs.lemmas.List.{append-nil}
use Rattle.sea_plain_script.proofs.script.request.ops.Goals as goal

pub returns-in_err-op : goal.returns-in_err-op
returns-in_err-op c =
    let p = err_from_is_err_and c.from_residual.result c.from_residual.ensures.1 in
    rw (p.1, p.2) (no_op (left c.args.words.now) (left c.loop-ops.words) (left c.op.new.words) c.loop-ops.ops c.in_err-op.field-0.0 c.loop-ops.invariant.spelled c.loop-ops.invariant.read c.in_err-op.ensures)

pub returns-in_default : goal.returns-in_default
returns-in_default c =
    let op = c.in_ok-op.ensures in
    let ended = c.in_default.ensures.steps in
    let pushed = c.in_ok-push.ensures.ok in
    rw pushed
    (whole_ops (left c.args.words.now) (left c.loop-ops.words) c.loop-ops.ops c.in_ok-op.op c.loop-ops.invariant.spelled c.loop-ops.invariant.read op.0 (op.1 ∙ ap (λ others. op_words c.in_ok-op.op ++ others) ended.0 ∙ append-nil (op_words c.in_ok-op.op)))

pub returns-then-ne : goal.returns-then-ne
returns-then-ne c =
    let op = c.in_ok-op.ensures in
    let next = c.in-Some.ensures.steps in
    no_mark (left c.args.words.now) (left c.loop-ops.words) (left c.next.new.self) c.loop-ops.ops c.in_ok-op.op c.in-Some.word.now c.loop-ops.invariant.spelled c.loop-ops.invariant.read op.0 (op.1 ∙ ap (λ others. op_words c.in_ok-op.op ++ others) next) (other_bytes c.in-Some.word.now c.as_slice.result.now (codes ";") c.if-ne.ensures c.as_slice.ensures)

pub loop-ops-preserved : goal.loop-ops-preserved
loop-ops-preserved c =
    let op = c.in_ok-op.ensures in
    let next = c.in-Some.ensures.steps in
    let pushed = c.in_ok-push.ensures.ok in
    let same : c.in-Some.word.now ≡ codes ";" = same_bytes c.in-Some.word.now c.as_slice.result.now (codes ";") c.if-ne.ensures c.as_slice.ensures in
    rw pushed
    (record {
      spelled = all_more c.loop-ops.ops c.in_ok-op.op c.loop-ops.invariant.spelled op.0;
      read = op_more (left c.args.words.now) (left c.loop-ops.words) (left c.next.new.self) c.loop-ops.ops c.in_ok-op.op c.in-Some.word.now c.loop-ops.invariant.read (op.1 ∙ ap (λ others. op_words c.in_ok-op.op ++ others) next) same;
    })
