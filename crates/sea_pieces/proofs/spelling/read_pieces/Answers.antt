use Rattle.std.proofs.Common.{List, Some, ap, sym, ◌∙◌}
use Rattle.sea_pieces.specs.declared.piece.Piece.{Piece}
use Rattle.sea_pieces.specs.SpellingLaws.{same_body}
use Rattle.sea_pieces.proofs.ReadPieces.{ends, none_read, more_read, nearer, stops}
use Rattle.sea_pieces.proofs.spelling.read_pieces.Goals as goal

pub loop-rest-init : goal.loop-rest-init
loop-rest-init c =
    let none = none_read c.args.bytes.now c.new-pieces.result c.new-pieces.ensures in record { all = none.0; read = none.1 }

pub returns-in_default-clause-found : goal.returns-in_default-clause-found
returns-in_default-clause-found c =
    stops c.args.bytes.now c.loop-rest.rest.now c.loop-rest.pieces c.loop-rest.invariant.all c.loop-rest.invariant.read c.loop-rest-test.ensures (rw c.in_default.is at c.in_ok-piece.ensures)

pub loop-rest-smaller : goal.loop-rest-smaller
loop-rest-smaller c =
    nearer c.loop-rest.rest.now c.in-Some.behind.now c.in-Some.piece (rw c.in-Some.is at c.in_ok-piece.ensures)

pub loop-rest-preserved : goal.loop-rest-preserved
loop-rest-preserved c =
    let more = more_read c.args.bytes.now c.loop-rest.rest.now c.in-Some.behind.now c.loop-rest.pieces c.push.new.self c.in-Some.piece c.in_ok-push.ensures.ok c.loop-rest.invariant.all c.loop-rest.invariant.read (rw c.in-Some.is at c.in_ok-piece.ensures) in
    record { all = more.0; read = more.1 }

pub returns-in_default-clause-only : goal.returns-in_default-clause-only
returns-in_default-clause-only c = λ pieces are. absurd (returns-in_default-clause-found c pieces are)

pub returns-clause-only : goal.returns-clause-only
returns-clause-only c = λ pieces are.
    let whole = ends c.args.bytes.now c.loop-rest.rest.now c.loop-rest.pieces c.loop-rest.invariant.all c.loop-rest.invariant.read c.loop-rest-test.ensures in
    ap (λ (ps : List Piece). Some ps) (same_body c.loop-rest.pieces pieces whole.0 are.0 (sym whole.1 ∙ are.1))
