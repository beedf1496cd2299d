use Rattle.std.proofs.Common.{◌++◌, take, sym, ap, ◌∙◌, List, ℕ}
use Rattle.sea_pieces.specs.declared.piece.Piece.{Piece}
use Rattle.sea_pieces.specs.Spelling.{piece_bytes, spelling}
use Rattle.sea_pieces.specs.SpellingLaws.{spelling-more, spelling-nil}
use Rattle.sea_pieces.proofs.spelling.spell_pieces.Goals as goal

pub loop-piece-init : goal.loop-piece-init
loop-piece-init c = c.new-bytes.ensures.items ∙ sym spelling-nil

pub loop-piece-preserved : goal.loop-piece-preserved
loop-piece-preserved c =
    let pieces = c.args.pieces.now in
    let i = c.loop-piece.piece-index in
    let p = c.piece-item.result in
    c.in_ok-push_piece.ensures
    ∙ ap (λ (b : List ℕ). b ++ piece_bytes p) c.loop-piece.invariant
    ∙ ap (λ (q : Piece). spelling (take i pieces) ++ piece_bytes q) c.piece-item.is
    ∙ sym (spelling-more pieces i p c.loop-piece-test.true)
