use Rattle.std.proofs.Common.{◌≡◌, Result, Ok, Err, refl, sym, ap, ◌∙◌}
use Rattle.std.specs.Prelude.{IfOk}
use Rattle.sea_object.specs.declared.reply.Item.{Item}
use Rattle.sea_object.specs.Answer.{item_at}
use Rattle.sea_pieces.specs.Committed.{content_of, objects_in}
use Rattle.sea_pieces.specs.Reads.{told}
use Rattle.sea_pieces.proofs.Telling.{told_at}
use Rattle.sea_pieces.proofs.Versions.{get-objects_in}
use Rattle.sea_pieces.proofs.transaction.Transaction.item_of.Goals as goal

if_ok : {E : Type 0} (r : Result Item E) (a b : Item) → a ≡ b → IfOk r (λ made. made ≡ a) → IfOk r (λ made. made ≡ b)
if_ok (Ok x) a b e p = p ∙ e
if_ok (Err x) a b e p = tt

pub returns-then-not-has_piece_of : goal.returns-then-not-has_piece_of
returns-then-not-has_piece_of c =
    let op = c.args.op.now in
    let name = c.args.name.now in
    let m = c.args.committed.now in
    if_ok c.told.result _ _ (ap (told op) c.bytes.ensures.bytes ∙ told_at op name (content_of m name) c.requires ∙ ap (item_at op) (sym (get-objects_in m name) ∙ sym (c.if-not-has_piece_of.ensures refl (objects_in m)))) c.told.ensures
