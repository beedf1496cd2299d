use Rattle.std.proofs.Common.{◌≤◌, ◌∷◌, ◌++◌, [], length, arith, refl, subst, sym}
use Rattle.sea_pieces.specs.Store.{IsStable}
use Rattle.sea_pieces.proofs.Stable.{continues_then}
use Rattle.sea_pieces.proofs.Works.{done_at, has_place, open_client, others_stay, put_apart, put_here}
use Rattle.sea_pieces.proofs.workspace.calls.WorkspaceTransactions.exec.Goals as goal

pub index_mut-transaction-requires : goal.index_mut-transaction-requires
index_mut-transaction-requires c = has_place c.args.self.now c.args.client (open_client c.args.self.now.store.board c.args.client c.requires.running.0)

pub end-requires-in-Err : goal.end-requires-in-Err
end-requires-in-Err c =
    let has = open_client c.args.self.now.store.board c.args.client c.requires.running.0 in
    (has.0, omega (arith, has.1, c.exec.ensures.continues.others.clients))

pub returns-in-Some-clause-keeps : goal.returns-in-Some-clause-keeps
returns-in-Some-clause-keeps c = others_stay c.args.client c.args.self.now _ c.end.ensures.continues (λ k other. refl)

pub returns-in-Ok-clause-did : goal.returns-in-Ok-clause-did
returns-in-Ok-clause-did c = λ ops did.
    let old = c.args.self.now in
    let client = c.args.client in
    let has = open_client old.store.board client c.requires.running.0 in
    let last : client ≤ length old.transactions.items = omega (arith, has.1, old.each) in
    subst (λ d. IsStable c.exec.new.self client (ops ++ c.args.op.now ∷ []) d) (sym (put_here old.transactions.items client c.exec.new.transaction has.0 last))
    (c.in-Ok.ensures.stable ops (subst (IsStable old.store client ops) (done_at old.transactions.items client c.index_mut-transaction.result.now has.0 last c.index_mut-transaction.ensures.value) did))

pub returns-in-Ok-clause-keeps : goal.returns-in-Ok-clause-keeps
returns-in-Ok-clause-keeps c =
    let old = c.args.self.now in
    let has = open_client old.store.board c.args.client c.requires.running.0 in
    others_stay c.args.client old _ c.exec.ensures.continues (put_apart old.transactions.items c.args.client c.exec.new.transaction has.0)

pub returns-in-Err-clause-keeps : goal.returns-in-Err-clause-keeps
returns-in-Err-clause-keeps c =
    let old = c.args.self.now in
    let has = open_client old.store.board c.args.client c.requires.running.0 in
    others_stay c.args.client old _ (continues_then c.args.client old.store c.exec.new.self c.end-in-Err.new.self c.exec.ensures.continues c.end-in-Err.ensures.continues)
    (put_apart old.transactions.items c.args.client c.exec.new.transaction has.0)
