use Rattle.std.proofs.Common.{◌≡◌, ◌≤◌, ◌<◌, ◌^◌, List, [], ◌∷◌, ◌++◌, length, ap, sym, ◌∙◌, subst, arith, length-append}
use Rattle.std.specs.List.{AllByRecursion}
use Rattle.sea_top.specs.declared.record.Piece.{Piece}
use Rattle.sea_top.specs.declared.record.PlainRecord.{PlainRecord}
use Rattle.sea_top.specs.Record.{IsPiece, IsPlain, body_bytes, piece_bytes}
use Rattle.sea_top.proofs.RecordLengths.{blocks_of_is, body_bytes-cons, body_bytes-nil, length-piece_bytes}
use Rattle.sea_top.proofs.trail.tests.record.Goals as goal

-- a record of one small piece
one_piece : (plain : PlainRecord) (piece : Piece) → plain.pieces ≡ piece ∷ [] → IsPiece piece → length piece.bytes ≤ 1000 → 1 ≤ plain.commit.0 → plain.commit.0 < 2 ^ 64 → length plain.previous.0 ≡ 32 → IsPlain plain
one_piece plain piece is fits small counted commit previous = record {
  counted = counted;
  commit = commit;
  previous = previous;
  some = omega (arith, ap length is);
  pieces = subst (AllByRecursion IsPiece) (sym is) (fits, tt);
  blocks = omega (arith, blocks_of_is plain.pieces, ap length (ap body_bytes is ∙ body_bytes-cons piece []), length-append (piece_bytes piece) (body_bytes []), ap length body_bytes-nil, length-piece_bytes piece, fits.0.1);
}

pub returns : goal.returns
returns c =
    let piece : Piece = record { name = c.in_ok-new.field-0; offset = c.args.offset; bytes = c.in_ok-new-2.field-0 } in
    let name = c.in_ok-new.ensures.ok in
    let bytes = ap length c.in_ok-new-2.ensures in
    one_piece _ piece (c.in_ok-push.ensures.ok ∙ ap (λ (pieces : List Piece). pieces ++ piece ∷ []) c.new-pieces.ensures) (name.1, omega (arith, bytes)) (omega (arith, bytes)) c.requires.commit (omega (arith, c.ranges.commit.fits)) c.requires.previous
