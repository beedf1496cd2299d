use Rattle.std.proofs.Common.{[], ◌∷◌, ◌<◌, sym, ◌∙◌}
use Rattle.std.specs.Fmt.{decimal}
use Rattle.std.proofs.lemmas.Result.{err_from_is_err_and}
use Rattle.sea_plain_script.specs.ScriptReading.{AreOps, left}
use Rattle.sea_plain_script.specs.Script.{Asks}
use Rattle.sea_plain_script.proofs.Requests.{asks_client, asks_from, asks_number, finds_later, reads_none, one_ops, refused_not}
use Rattle.sea_plain_script.proofs.script.request.asked.Goals as goal

pub returns-in_err-client : goal.returns-in_err-client
returns-in_err-client c =
    let p = err_from_is_err_and c.from_residual.result c.from_residual.ensures.1 in
    rw (p.1, p.2)
    (reads_none (λ n. n < 1000000000) (λ n. decimal n ∷ []) (left c.new-words.result) (left c.number.new.words) (Asks c.args.line.now) c.in_err-client.field-0.0 c.in_err-client.ensures (λ asked asks. rw c.new-words.ensures (asks_number c.args.line.now asked asks)))

pub returns-then-client-ne1 : goal.returns-then-client-ne1
returns-then-client-ne1 c =
    let number = c.in_ok-client.ensures in
    λ asked asks. c.if-client-ne1.true (asks_client c.args.line.now c.in_ok-client.client (left c.number.new.words) asked number.0 (sym c.new-words.ensures ∙ number.1) asks).0

pub returns-in_err-ops : goal.returns-in_err-ops
returns-in_err-ops c =
    let p = err_from_is_err_and c.from_residual-in_err-ops.result c.from_residual-in_err-ops.ensures.1 in
    let number = c.in_ok-client.ensures in
    rw (p.1, p.2)
    (finds_later (AreOps (left c.number.new.words)) (Asks c.args.line.now) c.in_err-ops.field-0.0 c.in_err-ops.ensures (λ asked asks. (asked.request, (asks_client c.args.line.now c.in_ok-client.client (left c.number.new.words) asked number.0 (sym c.new-words.ensures ∙ number.1) asks).1)))

pub returns-in_default : goal.returns-in_default
returns-in_default c =
    let number = c.in_ok-client.ensures in
    λ asked asks.
    let are = (asks_client c.args.line.now c.in_ok-client.client (left c.number.new.words) asked number.0 (sym c.new-words.ensures ∙ number.1) asks).1 in
    let same = one_ops asked.request c.in_ok-ops.ops (left c.number.new.words) are c.in_ok-ops.ensures in
    refused_not c.in_ok-ops.ops c.in_default.field-0 c.in_default.ensures.refused (rw same at asks.request)

pub returns : goal.returns
returns c =
    let number = c.in_ok-client.ensures in
    asks_from c.args.line.now c.in_ok-client.client (left c.number.new.words) c.in_ok-ops.ops c.in-Ok.request c.if-client-ne1.false (sym c.new-words.ensures ∙ number.1) c.in_ok-ops.ensures c.in-Ok.ensures.ok.0 c.in-Ok.ensures.ok.1
