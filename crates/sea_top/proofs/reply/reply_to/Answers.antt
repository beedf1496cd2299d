use Rattle.std.proofs.Common.{◌≡◌, ◌≤◌, ◌∷◌, List, [], length, sym, ap, ◌∙◌, subst, arith}
use Rattle.std.specs.List.{AllByRecursion}
use Rattle.std.proofs.lemmas.Bool.{eqb-true}
use Rattle.std.proofs.lemmas.List.{append-nil}
use Rattle.std.proofs.lemmas.Result.{IfOk-weaker}
use Rattle.sea_plain.specs.Answer.{after}
use Rattle.sea_top.specs.declared.record.Piece.{Piece}
use Rattle.sea_top.specs.Record.{IsPiece, blocks_of}
use Rattle.sea_top.specs.Trail.{after_pieces, pieces_of}
use Rattle.sea_top.specs.Pieces.{pieces_asked}
use Rattle.sea_top.proofs.Crashes.{none_logged, one_logged}
use Rattle.sea_top.proofs.AskedPieces.{pieces_fit, few_pieces, request_blocks, after_asked, no_length}
use Rattle.sea_top.proofs.reply.reply_to.Goals as goal

pub returns-then-is_empty-clause-queued : goal.returns-then-is_empty-clause-queued
returns-then-is_empty-clause-queued c start news waits =
    let ops = c.args.request.now in
    let objects = c.args.objects.now in
    let asked : c.in_ok-pieces.pieces ≡ pieces_asked ops = c.in_ok-pieces.ensures ∙ ap pieces_asked c.ops.ensures.ops in
    let count : length c.items.result.now ≡ 0 = eqb-true (length c.items.result.now) 0 (sym c.is_empty.ensures ∙ c.if-is_empty.true) in
    let none : pieces_asked ops ≡ [] = sym asked ∙ sym c.items.ensures ∙ no_length c.items.result.now count in
    IfOk-weaker c.apply.result (λ reply. c.apply.new.self ≡ after ops objects) _ (λ reply done. (
      [],
      rw (append-nil news) waits,
      done ∙ after_asked ops objects c.ops.ensures.request.each ∙ ap (λ (p : List Piece). after_pieces p objects) none,
      none_logged reply ops none,
    )) c.apply.ensures.after

pub record_blocks-need-requires-clause-pieces : goal.record_blocks-need-requires-clause-pieces
record_blocks-need-requires-clause-pieces c =
    let asked : c.items-2.result.now ≡ pieces_asked c.args.request.now = c.items-2.ensures ∙ c.in_ok-pieces.ensures ∙ ap pieces_asked c.ops.ensures.ops in
    subst (λ (p : List Piece). AllByRecursion IsPiece p) (sym asked) (pieces_fit c.args.request.now c.ops.ensures.request.each)

pub record_blocks-need-requires-clause-few : goal.record_blocks-need-requires-clause-few
record_blocks-need-requires-clause-few c =
    let asked : c.items-2.result.now ≡ pieces_asked c.args.request.now = c.items-2.ensures ∙ c.in_ok-pieces.ensures ∙ ap pieces_asked c.ops.ensures.ops in
    omega (arith, ap length asked, few_pieces c.args.request.now, c.ops.ensures.request.few)

pub push-requires-clause-pieces : goal.push-requires-clause-pieces
push-requires-clause-pieces c =
    let asked : c.in_ok-pieces.pieces ≡ pieces_asked c.args.request.now = c.in_ok-pieces.ensures ∙ ap pieces_asked c.ops.ensures.ops in
    subst (λ (p : List Piece). AllByRecursion IsPiece p) (sym asked) (pieces_fit c.args.request.now c.ops.ensures.request.each)

pub push-requires-clause-short : goal.push-requires-clause-short
push-requires-clause-short c =
    let asked : c.items-2.result.now ≡ pieces_asked c.args.request.now = c.items-2.ensures ∙ c.in_ok-pieces.ensures ∙ ap pieces_asked c.ops.ensures.ops in
    omega (arith, c.record_blocks-need.ensures, ap blocks_of asked, request_blocks c.args.request.now c.ops.ensures.request)

pub returns-clause-queued : goal.returns-clause-queued
returns-clause-queued c start news waits =
    let ops = c.args.request.now in
    let objects = c.args.objects.now in
    let asked : c.in_ok-pieces.pieces ≡ pieces_asked ops = c.in_ok-pieces.ensures ∙ ap pieces_asked c.ops.ensures.ops in
    let some : 1 ≤ length c.in_ok-pieces.pieces = grind (arith, c.if-is_empty.false, c.is_empty.ensures, ap length c.items.ensures) in
    let pushed = c.in_ok-push.ensures.ok start news waits in
    let pieces : pieces_of (pushed.0 ∷ []) ≡ pieces_asked ops = append-nil pushed.0.pieces ∙ pushed.1 ∙ asked in (
      pushed.0 ∷ [],
      pushed.2,
      c.in_ok-reply.ensures.after ∙ after_asked ops objects c.ops.ensures.request.each ∙ ap (λ (p : List Piece). after_pieces p objects) (sym pieces),
      ap (λ (p : List Piece). p ∷ []) pushed.1 ∙ one_logged c.in_ok-reply.reply ops objects c.in_ok-pieces.pieces c.in_ok-reply.ensures.reply asked some,
    )
