use Rattle.std.proofs.Common.{◌++◌, ◌∷◌, [], ap, ◌∙◌}
use Rattle.sea_object.specs.declared.reply.Item.{Item}
use Rattle.sea_object.specs.Answer.{item}
use Rattle.sea_pieces.specs.Committed.{objects_in}
use Rattle.sea_pieces.specs.Laying.{after_pieces, op_pieces}
use Rattle.sea_pieces.specs.Transaction.{Done}
use Rattle.sea_pieces.proofs.Shared.{did_more}
use Rattle.sea_pieces.proofs.transaction.Transaction.exec.Goals as goal

pub returns-clause-did : goal.returns-clause-did
returns-clause-did c = λ ops objects did shares.
    let done = c.args.self.now in
    let op = c.args.op.now in
    let committed = objects_in c.args.committed.now in
    did_more ops op done _ objects committed did c.requires.served c.requires.limits shares
    (c.in_ok-push.ensures.ok ∙ ap (λ (x : Item). c.self.inside.items ++ x ∷ []) c.in_ok-made.ensures ∙ ap (λ (d : Done). d.items ++ item op (after_pieces done.pieces committed) ∷ []) c.self.view_is)
    (c.in_ok-push_pieces.ensures.pieces ∙ ap (λ (d : Done). d.pieces ++ op_pieces op) c.self.view_is)
    (c.in_ok-push_pieces.ensures.fit c.self.invariant)
