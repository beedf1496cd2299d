use Rattle.std.proofs.Common.{ap, sym, ◌∙◌, take}
use Rattle.std.specs.Prelude.{option_map}
use Rattle.std.specs.FinMap.{get}
use Rattle.sea_object.specs.Objects.{ObjectMap}
use Rattle.sea_pieces.specs.Committed.{objects_in, plain_object}
use Rattle.sea_pieces.specs.Laying.{after_pieces}
use Rattle.sea_pieces.proofs.Seen.{after_more}
use Rattle.sea_pieces.proofs.Versions.{get-objects_in}
use Rattle.sea_pieces.proofs.transaction.Transaction.view.Goals as goal

pub loop-piece-init : goal.loop-piece-init
loop-piece-init c =
    ap (option_map plain_object) c.in_ok-found.ensures ∙ sym (get-objects_in c.args.committed.now c.args.name.now)

pub loop-piece-preserved : goal.loop-piece-preserved
loop-piece-preserved c =
    let pieces = c.items-piece-items.result.now in
    let i = c.loop-piece.piece-index in
    let objects = objects_in c.args.committed.now in
    c.in_ok-see.ensures (after_pieces (take i pieces) objects) c.loop-piece.invariant
    ∙ ap (λ (o : ObjectMap). get o c.args.name.now) (sym (after_more pieces i c.piece-item.result c.piece-item.result objects c.loop-piece-test.true c.piece-item.is))
