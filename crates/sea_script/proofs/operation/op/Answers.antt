use Rattle.std.proofs.Common.{ap}
use Rattle.std.proofs.lemmas.Result.{err_from_is_err_and}
use Rattle.sea_script.specs.Reading.{seen}
use Rattle.sea_script.proofs.Operations.{op_fails}
use Rattle.sea_script.proofs.operation.op.Goals as goal

pub returns-in_err-arguments : goal.returns-in_err-arguments
returns-in_err-arguments c =
    let p = err_from_is_err_and c.from_residual.result c.from_residual.ensures.1 in
    rw (p.1, p.2)
    (op_fails (seen c.args.words.now) c.in-Some-row_of.row.1 c.in-Some.word.now.now (seen c.in-Some.others.now) c.in_err-arguments.field-0.0 (ap seen c.in-Some.ensures.cases.0) c.in-Some-row_of.ensures.1 c.in_err-arguments.ensures)
