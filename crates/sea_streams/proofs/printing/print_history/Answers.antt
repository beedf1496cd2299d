use Rattle.std.proofs.Common.{◌≡◌, ℕ, ◌+◌, ◌++◌, List, length, ap, sym, ◌∙◌, append_assoc, arith}
use Rattle.std.specs.Prelude.{string_bytes}
use Rattle.sea_streams.proofs.Streams.{on_err, more_put, whole_text, front_of, front_before, rest_of, pushed, closed}
use Rattle.sea_streams.proofs.printing.print_history.Goals as goal

pub returns-in_err-push_entry-clause-err : goal.returns-in_err-push_entry-clause-err
returns-in_err-push_entry-clause-err g c =
    let inv = c.loop-entry.invariant in
    let k = c.loop-entry.entry-index in
    let text = string_bytes c.loop-entry.text in
    on_err c.from_residual.result (front_before inv.front (text ++ rest_of k c.args.entries.now c.args.sent_back c.args.last.now) _ _ _ (whole_text k c.args.entries.now c.args.sent_back c.args.last.now inv.front text inv.lines) inv.taken)

pub returns-in_err-put_piece-clause-err : goal.returns-in_err-put_piece-clause-err
returns-in_err-put_piece-clause-err g c =
    let inv = c.loop-entry.invariant in
    let k = c.loop-entry.entry-index in
    let text = string_bytes c.push_entry.new.text in
    let lines = pushed k c.args.entries.now c.entry-item.result inv.front (string_bytes c.loop-entry.text) text (omega (arith, c.loop-entry-test.true)) c.entry-item.is inv.lines c.in_ok-push_entry.ensures.ok in
    on_err c.from_residual-in_err-put_piece.result (front_of inv.front text (rest_of (k + 1) c.args.entries.now c.args.sent_back c.args.last.now) _ _ _ _ (whole_text (k + 1) c.args.entries.now c.args.sent_back c.args.last.now inv.front text lines) inv.taken c.in_err-put_piece.ensures.err)

pub loop-entry-preserved : goal.loop-entry-preserved
loop-entry-preserved g c =
    let inv = c.loop-entry.invariant in
    let told = c.in_ok-put_piece.ensures in
    let lines = pushed c.loop-entry.entry-index c.args.entries.now c.entry-item.result inv.front (string_bytes c.loop-entry.text) (string_bytes c.push_entry.new.text) (omega (arith, c.loop-entry-test.true)) c.entry-item.is inv.lines c.in_ok-push_entry.ensures.ok in record {
      front = inv.front ++ told.ok.front;
      lines = lines ∙ ap (λ (t : List ℕ). inv.front ++ t) told.ok.parts ∙ sym (append_assoc inv.front told.ok.front (string_bytes c.put_piece.new.text));
      taken = more_put inv.front told.ok.front (g.O.Sink.taken c.args.out.now) (g.O.Sink.taken c.loop-entry.out) (g.O.Sink.taken c.put_piece.new.out) inv.taken told.ok.taken;
      quiet = told.quiet ∙ inv.quiet;
    }

pub returns-in_err-push_end-clause-err : goal.returns-in_err-push_end-clause-err
returns-in_err-push_end-clause-err g c =
    let inv = c.loop-entry.invariant in
    let k = c.loop-entry.entry-index in
    let text = string_bytes c.loop-entry.text in
    on_err c.from_residual-in_err-push_end.result (front_before inv.front (text ++ rest_of k c.args.entries.now c.args.sent_back c.args.last.now) _ _ _ (whole_text k c.args.entries.now c.args.sent_back c.args.last.now inv.front text inv.lines) inv.taken)

pub returns-in_err-push_str-clause-err : goal.returns-in_err-push_str-clause-err
returns-in_err-push_str-clause-err g c =
    let inv = c.loop-entry.invariant in
    let k = c.loop-entry.entry-index in
    let text = string_bytes c.loop-entry.text in
    on_err c.from_residual-in_err-push_str.result (front_before inv.front (text ++ rest_of k c.args.entries.now c.args.sent_back c.args.last.now) _ _ _ (whole_text k c.args.entries.now c.args.sent_back c.args.last.now inv.front text inv.lines) inv.taken)

pub returns-in_err-put_all-clause-err : goal.returns-in_err-put_all-clause-err
returns-in_err-put_all-clause-err g c =
    let inv = c.loop-entry.invariant in
    let all = closed c.loop-entry.entry-index c.args.entries.now c.args.sent_back c.args.last.now inv.front (string_bytes c.loop-entry.text) (string_bytes c.push_end.new.text) _ (omega (arith, c.loop-entry-test.false)) inv.lines c.in_ok-push_end.ensures.line (c.as_bytes.ensures.value ∙ c.in_ok-push_str.ensures.bytes) in
    on_err c.from_residual-in_err-put_all.result (front_of inv.front c.as_bytes.result.now _ _ _ _ _ all inv.taken c.in_err-put_all.ensures.err)
