use Rattle.std.proofs.Common.{◌-◌, ℕ, List, length, ap, subst, sym, arith}
use Rattle.std.proofs.lemmas.Result.{err_from_is_err_and}
use Rattle.sea_base.specs.Space.{Store}
use Rattle.sea_base.proofs.Calling.{call_then, call_spent}
use Rattle.sea_base.proofs.Spaces.{agrees_before, only_read-trans}
use Rattle.sea_tree.specs.Content.{HasContent}
use Rattle.sea_tree.proofs.Walks.{one_store}
use Rattle.sea_ops.proofs.Asked.{path_fails, range_fails}
use Rattle.sea_ops.proofs.KeyRange.{range_found}
use Rattle.sea_ops.proofs.key_range.keys_between.Goals as goal

pub returns-in_err-first-clause-fault : goal.returns-in_err-first-clause-fault
returns-in_err-first-clause-fault g c =
    let p = err_from_is_err_and c.from_residual.result c.from_residual.ensures.1 in
    rw (p.1, p.2) (λ store content m. path_fails c.in_err-first.field-0.0 c.args.root.0 c.args.from.now content (g.S.Space.seen c.args.space.now) (g.S.Space.seen c.key_if_there.new.space) store m c.in_err-first.ensures.fault)

pub returns-in_err-pairs-clause-fault : goal.returns-in_err-pairs-clause-fault
returns-in_err-pairs-clause-fault g c =
    let p = err_from_is_err_and c.from_residual-in_err-pairs.result c.from_residual-in_err-pairs.ensures.1 in
    let mid = g.S.Space.seen c.key_if_there.new.space in
    let new = g.S.Space.seen c.range.new.space in
    rw (p.1, p.2) (λ store content m. range_fails c.in_err-pairs.field-0.0 c.args.root.0 c.args.from.now content mid new store
    (record { agrees = m.agrees; content = subst (λ (s : Store). HasContent s c.args.root.0 content) (sym (one_store c.in_ok-first.ensures.reads store)) m.content; fresh = λ at from below. absurd (omega (arith, from, below, c.in_err-pairs.ensures.reads.next)) })
    c.in_err-pairs.ensures.fault)

pub returns-in_err-pairs-clause-call : goal.returns-in_err-pairs-clause-call
returns-in_err-pairs-clause-call g c =
    let p = err_from_is_err_and c.from_residual-in_err-pairs.result c.from_residual-in_err-pairs.ensures.1 in
    rw (p.1, p.2) (call_then g.S.Space g.met.S.Space.frame c.in_ok-first.ensures.call c.in_err-pairs.ensures.call)

pub returns-in_err-keys-clause-reads : goal.returns-in_err-keys-clause-reads
returns-in_err-keys-clause-reads g c = only_read-trans c.in_ok-first.ensures.reads c.in_ok-pairs.ensures.reads

pub returns-in_err-keys-clause-call : goal.returns-in_err-keys-clause-call
returns-in_err-keys-clause-call g c =
    let p = err_from_is_err_and c.from_residual-in_err-keys.result c.from_residual-in_err-keys.ensures.1 in
    rw (p.1, p.2) (call_spent g.S.Space (call_then g.S.Space g.met.S.Space.frame c.in_ok-first.ensures.call c.in_ok-pairs.ensures.call))

pub returns-clause-reads : goal.returns-clause-reads
returns-clause-reads g c = only_read-trans c.in_ok-first.ensures.reads c.in_ok-pairs.ensures.reads

pub returns-clause-call : goal.returns-clause-call
returns-clause-call g c = call_then g.S.Space g.met.S.Space.frame c.in_ok-first.ensures.call c.in_ok-pairs.ensures.call

pub returns-clause-count : goal.returns-clause-count
returns-clause-count g c = omega (arith, c.in_ok-keys.ensures.count, c.in_ok-first.ensures.count, c.requires.bound.0, ap length c.items.ensures)

pub returns-clause-keys : goal.returns-clause-keys
returns-clause-keys g c = λ store content m.
    let mid = g.S.Space.seen c.key_if_there.new.space in
    let first = c.in_ok-first.ensures in
    let found = c.in_ok-pairs.ensures in
    range_found c.args.from.now c.args.to.now c.args.bound c.requires.bound.0 c.requires.order content c.in_ok-first.first c.in_ok-keys.keys c.in_ok-pairs.pairs
    (first.keys store content (record { agrees = agrees_before found.reads m.agrees; content = m.content; fresh = λ at from below. absurd (omega (arith, from, below, first.reads.next)) }))
    _ (ap (λ (keys : List (List ℕ)). c.args.bound - length keys) c.items.ensures)
    (found.pairs store content (record { agrees = m.agrees; content = subst (λ (s : Store). HasContent s c.args.root.0 content) (sym (one_store first.reads store)) m.content; fresh = λ at from below. absurd (omega (arith, from, below, found.reads.next)) }))
    c.in_ok-keys.ensures.keys
