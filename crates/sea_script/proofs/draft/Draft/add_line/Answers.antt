use Rattle.std.proofs.Common.{Err, codes, ap, sym, subst, ◌∙◌}
use Rattle.std.proofs.lemmas.Bool.{false≢true}
use Rattle.std.proofs.lemmas.Result.{err_from_is_err_and}
use Rattle.sea_script.specs.Reading.{seen}
use Rattle.sea_script.specs.ReadingLines.{ReadsEvents, ReadsRequest}
use Rattle.sea_script.specs.Script.{Asks, IsFilled, IsForRequest}
use Rattle.sea_script.proofs.Lines.{events_refused, none_of, other_line, request_added, request_refused, some_of}
use Rattle.sea_script.proofs.draft.Draft.add_line.Goals as goal

pub returns-in_err-more : goal.returns-in_err-more
returns-in_err-more c =
    let given = c.args.self.now in
    let line = c.args.line.now in
    let filled : IsFilled line = (λ blank. false≢true (sym c.if-is_blank.false ∙ c.is_blank.ensures.1 blank), c.is_text.ensures.0 c.if-not-is_text.false) in
    let old = some_of c.self.inside.events (sym c.is_some.ensures ∙ c.if-is_some.true) in
    let has = sym (ap (λ g. g.events) c.self.view_is) ∙ old.1 in
    let are = ap seen c.deref-then-is_some.ensures.value ∙ c.in_ok-words.ensures in
    let p = err_from_is_err_and c.from_residual-in_err-more.result c.from_residual-in_err-more.ensures.1 in
    rw (p.1, p.2)
    (events_refused c.args.scheduled line given given old.0 c.in_err-more.field-0.0 filled has (subst (λ ws. ReadsEvents ws (Err c.in_err-more.field-0.0)) are c.in_err-more.ensures))

pub returns-in_err-asked : goal.returns-in_err-asked
returns-in_err-asked c =
    let given = c.args.self.now in
    let line = c.args.line.now in
    let filled : IsFilled line = (λ blank. false≢true (sym c.if-is_blank.false ∙ c.is_blank.ensures.1 blank), c.is_text.ensures.0 c.if-not-is_text.false) in
    let none = sym (ap (λ g. g.events) c.self.view_is) ∙ none_of c.self.inside.events (sym c.is_some.ensures ∙ c.if-is_some.false) in
    let before : IsForRequest given line = ((filled, none), other_line line c.as_slice.result.now (codes "schedule") c.if-ne.ensures c.as_slice.ensures) in
    let are = ap seen c.deref-then-ne.ensures.value ∙ c.in_ok-words.ensures in
    let p = err_from_is_err_and c.from_residual-in_err-asked.result c.from_residual-in_err-asked.ensures.1 in
    rw (p.1, p.2)
    (request_refused c.args.scheduled line given given c.in_err-asked.field-0.0 before (subst (λ ws. ReadsRequest ws given (Err c.in_err-asked.field-0.0)) are (c.in_err-asked.ensures given)))

pub add_request-requires : goal.add_request-requires
add_request-requires c = (c.in_ok-asked.ensures c.args.self.now).0.1.0

pub returns-then-ne : goal.returns-then-ne
returns-then-ne c =
    let given = c.args.self.now in
    let line = c.args.line.now in
    let filled : IsFilled line = (λ blank. false≢true (sym c.if-is_blank.false ∙ c.is_blank.ensures.1 blank), c.is_text.ensures.0 c.if-not-is_text.false) in
    let none = sym (ap (λ g. g.events) c.self.view_is) ∙ none_of c.self.inside.events (sym c.is_some.ensures ∙ c.if-is_some.false) in
    let before : IsForRequest given line = ((filled, none), other_line line c.as_slice.result.now (codes "schedule") c.if-ne.ensures c.as_slice.ensures) in
    let are = ap seen c.deref-then-ne.ensures.value ∙ c.in_ok-words.ensures in
    request_added c.args.scheduled line given c.add_request.new.self c.in_ok-asked.asked c.add_request.result before (subst (λ ws. Asks ws c.in_ok-asked.asked) are (c.in_ok-asked.ensures given)) c.add_request.ensures
