use Rattle.std.proofs.Common.{◌∷◌, ap, ◌∙◌}
use Rattle.std.proofs.lemmas.Result.{err_from_is_err_and}
use Rattle.sea_script.specs.Reading.{seen}
use Rattle.sea_script.proofs.Asking.{asks_fails, request_fails}
use Rattle.sea_script.proofs.asked.read_asked.Goals as goal

pub returns-in_err-ops : goal.returns-in_err-ops
returns-in_err-ops c =
    let client = c.in-Some-client_of.ensures in
    let whole = ap seen c.in-Some.ensures.cases.0 ∙ ap (λ w. w ∷ seen c.in-Some.others.now) client.1 in
    let p = err_from_is_err_and c.from_residual.result c.from_residual.ensures.1 in
    rw (p.1, p.2)
    (asks_fails (seen c.args.words.now) c.in-Some-client_of.client (seen c.in-Some.others.now) c.in_err-ops.field-0.0 client.0 whole c.in_err-ops.ensures)

pub returns-in-Err : goal.returns-in-Err
returns-in-Err c =
    let client = c.in-Some-client_of.ensures in
    let whole = ap seen c.in-Some.ensures.cases.0 ∙ ap (λ w. w ∷ seen c.in-Some.others.now) client.1 in
    λ given.
    rw c.why_none.ensures
    (request_fails (seen c.args.words.now) c.in-Some-client_of.client (seen c.in-Some.others.now) c.in_ok-ops.ops c.in-Err.fault client.0 whole c.in_ok-ops.ensures c.in-Err.ensures.refused given)
