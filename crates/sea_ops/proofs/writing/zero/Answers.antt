use Rattle.std.proofs.Common.{◌≡◌, ◌+◌, ℕ, max, List, replicate, ap, ◌∙◌, arith}
use Rattle.std.proofs.lemmas.Result.{err_from_is_err_and}
use Rattle.sea_base.proofs.Calling.{call_then}
use Rattle.sea_object.specs.declared.op.Op.TheVariants.{Zero}
use Rattle.sea_object.specs.declared.reply.Item.TheVariants.{Unit as Nothing}
use Rattle.sea_object.specs.Answer.{written}
use Rattle.sea_ops.proofs.Writes.{begins, opened_by, resizes, resize_fails}
use Rattle.sea_ops.proofs.Written.{written_writes, zeros_range}
use Rattle.sea_ops.proofs.writing.zero.Goals as goal

pub returns-in_err-onode-clause-failure : goal.returns-in_err-onode-clause-failure
returns-in_err-onode-clause-failure g c =
    let p = err_from_is_err_and c.from_residual.result c.from_residual.ensures.1 in
    rw (p.1, p.2) (λ store next objects m few. c.in_err-onode.ensures.failure store next objects m)

pub returns-in_err-zero-clause-call : goal.returns-in_err-zero-clause-call
returns-in_err-zero-clause-call g c =
    let p = err_from_is_err_and c.from_residual-in_err-zero.result c.from_residual-in_err-zero.ensures.1 in
    rw (p.1, p.2) (call_then g.S.Space g.met.S.Space.frame c.in_ok-onode.ensures.call c.in_err-zero.ensures.call)

pub returns-in_err-save-clause-failure : goal.returns-in_err-save-clause-failure
returns-in_err-save-clause-failure g c =
    let old = g.S.Space.seen c.args.space.now in
    let a = g.S.Space.seen c.onode_of.new.space in
    let b = g.S.Space.seen c.zero.new.space in
    let new = g.S.Space.seen c.save.new.space in
    let p = err_from_is_err_and c.from_residual-in_err-save.result c.from_residual-in_err-save.ensures.1 in
    let name = c.args.name.now in
    let offset = c.args.offset in
    let count = c.args.length in
    let bytes : List ℕ = replicate count 0 in
    let x = c.in_ok-onode.onode in
    let opens = c.in_ok-onode.ensures.opened in
    let wrote = c.in_ok-zero.ensures in
    let f = c.in_err-save.ensures in
    rw (p.1, p.2) (resize_fails name x (max x.size (offset + count)) (written offset bytes) old a b new (begins name x old a opens) (omega (arith, c.requires.room, c.in_ok-onode.ensures.next.1))
    (written_writes x offset bytes (offset + count) a b c.requires.range.1 wrote.changed wrote.form wrote.footprint wrote.next) f.next.0 c.in_err-save.field-0.0
    (λ notes store next objects m. (opened_by name x old a new notes store next objects m opens (omega (arith, wrote.next, f.next.0))).0) f.failure)

pub returns-in_err-save-clause-call : goal.returns-in_err-save-clause-call
returns-in_err-save-clause-call g c =
    let p = err_from_is_err_and c.from_residual-in_err-save.result c.from_residual-in_err-save.ensures.1 in
    rw (p.1, p.2) (call_then g.S.Space g.met.S.Space.frame (call_then g.S.Space g.met.S.Space.frame c.in_ok-onode.ensures.call c.in_ok-zero.ensures.call) c.in_err-save.ensures.call)

pub returns-clause-does : goal.returns-clause-does
returns-clause-does g c =
    let old = g.S.Space.seen c.args.space.now in
    let a = g.S.Space.seen c.onode_of.new.space in
    let b = g.S.Space.seen c.zero.new.space in
    let new = g.S.Space.seen c.save.new.space in
    let name = c.args.name.now in
    let offset = c.args.offset in
    let count = c.args.length in
    let bytes : List ℕ = replicate count 0 in
    let x = c.in_ok-onode.onode in
    let size : ℕ = max x.size (offset + count) in
    let opens = c.in_ok-onode.ensures.opened in
    let wrote = c.in_ok-zero.ensures in
    let did = c.in_ok-save.ensures in
    let writes = written_writes x offset bytes (offset + count) a b c.requires.range.1 wrote.changed wrote.form wrote.footprint wrote.next in
    let y : c.reaching-reaching.result ≡ record x { size = size } = c.reaching-reaching.ensures ∙ ap (λ (n : ℕ). record x { size = max x.size n }) (omega (arith, c.requires.range.1)) in
    resizes name x size (written offset bytes) old a b new (begins name x old a opens) (omega (arith, c.requires.room, c.in_ok-onode.ensures.next.1)) writes did.next.0
    (Zero name offset count) Nothing did.notes
    (λ store next objects m.
    let o = opened_by name x old a new (λ at f e. did.notes at f (writes.notes at f e)) store next objects m opens (omega (arith, wrote.next, did.next.0)) in
    (o.0, zeros_range name offset count objects o.0.object o.1))
    (rw (← y) did.changed) did.footprint.own

pub returns-clause-call : goal.returns-clause-call
returns-clause-call g c = call_then g.S.Space g.met.S.Space.frame (call_then g.S.Space g.met.S.Space.frame c.in_ok-onode.ensures.call c.in_ok-zero.ensures.call) c.in_ok-save.ensures.call
