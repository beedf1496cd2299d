use Rattle.std.proofs.Common.{◌<◌, [], ◌∷◌}
use Rattle.std.proofs.lemmas.Result.{err_from_is_err_and}
use Rattle.std.specs.Fmt.{decimal}
use Rattle.sea_plain_script.specs.ScriptReading.{IsSpelled, left, verb_word}
use Rattle.sea_plain_script.specs.Script.{AreBytes, data_text, name_text, op_words}
use Rattle.sea_plain_script.specs.declared.script.request.Verb.{Verb}
use Rattle.sea_plain_script.proofs.Requests.{fails_later, verb_first, write_data, read_count}
use Rattle.sea_plain_script.proofs.script.request.op.Goals as goal

pub returns-in_err-read_verb : goal.returns-in_err-read_verb
returns-in_err-read_verb c =
    let p = err_from_is_err_and c.from_residual.result c.from_residual.ensures.1 in
    rw (p.1, p.2)
    (fails_later (λ (v : Verb). Unit {0}) (λ v. verb_word v ∷ []) IsSpelled op_words (left c.args.words.now) (left c.args.words.now) (left c.read_verb.new.words) (left c.read_verb.new.words) c.in_err-read_verb.field-0.0 c.in_err-read_verb.ensures (λ op rest is same. verb_first op (left c.args.words.now) rest same))

pub returns-in_err-bytes-in-Write : goal.returns-in_err-bytes-in-Write
returns-in_err-bytes-in-Write c =
    let p = err_from_is_err_and c.from_residual-in_err-bytes-in-Write.result c.from_residual-in_err-bytes-in-Write.ensures.1 in
    let verb = c.in_ok-read_verb.ensures.1 in
    rw (p.1, p.2)
    (fails_later AreBytes (λ v. data_text v ∷ []) IsSpelled op_words (left c.args.words.now) (left c.number.new.words) (left c.data.new.words) (left c.data.new.words) c.in_err-bytes-in-Write.field-0.0 c.in_err-bytes-in-Write.ensures (write_data (left c.args.words.now) (left c.read_verb.new.words) (left c.name.new.words) (left c.number.new.words) (name_text c.in_ok-name-in-Write.name) (decimal c.in_ok-offset-in-Write.offset) (rw c.in-Write.is at verb) c.in_ok-name-in-Write.ensures.1 c.in_ok-offset-in-Write.ensures.1))

pub returns-in_err-length-in-Read : goal.returns-in_err-length-in-Read
returns-in_err-length-in-Read c =
    let p = err_from_is_err_and c.from_residual-in_err-length-in-Read.result c.from_residual-in_err-length-in-Read.ensures.1 in
    let verb = c.in_ok-read_verb.ensures.1 in
    rw (p.1, p.2)
    (fails_later (λ v. v < 1000000000) (λ v. decimal v ∷ []) IsSpelled op_words (left c.args.words.now) (left c.number-in-Read.new.words) (left c.number-in-Read-2.new.words) (left c.number-in-Read-2.new.words) c.in_err-length-in-Read.field-0.0 c.in_err-length-in-Read.ensures (read_count (left c.args.words.now) (left c.read_verb.new.words) (left c.name-in-Read.new.words) (left c.number-in-Read.new.words) (name_text c.in_ok-name-in-Read.name) (decimal c.in_ok-offset-in-Read.offset) (rw c.in-Read.is at verb) c.in_ok-name-in-Read.ensures.1 c.in_ok-offset-in-Read.ensures.1))
