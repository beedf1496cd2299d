use Rattle.std.proofs.Common.{◌^◌}
use Rattle.std.proofs.lemmas.Result.{err_from_is_err_and}
use Rattle.sea_base.proofs.Calling.{call_then}
use Rattle.sea_ops.proofs.Asked.{find_fails}
use Rattle.sea_ops.proofs.Makes.{touches, touches_there, fails_since}
use Rattle.sea_ops.proofs.making.touch.Goals as goal

pub returns-in_err-find-clause-failure : goal.returns-in_err-find-clause-failure
returns-in_err-find-clause-failure g c =
    let p = err_from_is_err_and c.from_residual.result c.from_residual.ensures.1 in
    rw (p.1, p.2) (λ store next objects m few. find_fails c.args.name.now (g.S.Space.seen c.args.space.now) (g.S.Space.seen c.find.new.space) c.in_err-find.field-0.0 c.in_err-find.ensures.reads c.in_err-find.ensures.fault store next objects m)

pub returns-in_err-make-in-None-clause-failure : goal.returns-in_err-make-in-None-clause-failure
returns-in_err-make-in-None-clause-failure g c =
    let p = err_from_is_err_and c.from_residual-in_err-make-in-None.result c.from_residual-in_err-make-in-None.ensures.1 in
    rw (p.1, p.2) (fails_since (g.S.Space.seen c.args.space.now) (g.S.Space.seen c.find.new.space) (g.S.Space.seen c.make.new.space) c.in_ok-find.ensures.reads (2 ^ 25) c.in_err-make-in-None.field-0.0 c.in_err-make-in-None.ensures.failure)

pub returns-in_err-make-in-None-clause-call : goal.returns-in_err-make-in-None-clause-call
returns-in_err-make-in-None-clause-call g c =
    let p = err_from_is_err_and c.from_residual-in_err-make-in-None.result c.from_residual-in_err-make-in-None.ensures.1 in
    rw (p.1, p.2) (call_then g.S.Space g.met.S.Space.frame c.in_ok-find.ensures.call c.in_err-make-in-None.ensures.call)

pub returns-in_ok-make-in-None-clause-call : goal.returns-in_ok-make-in-None-clause-call
returns-in_ok-make-in-None-clause-call g c = call_then g.S.Space g.met.S.Space.frame c.in_ok-find.ensures.call c.in_ok-make-in-None.ensures.call

pub returns-in-Some-clause-does : goal.returns-in-Some-clause-does
returns-in-Some-clause-does g c =
    touches_there (g.S.Space.seen c.args.space.now) (g.S.Space.seen c.find.new.space) c.in_ok-find.ensures.reads c.args.name.now c.in-Some.field-0 (rw c.in-Some.is at c.in_ok-find.ensures.found)

pub returns-in_ok-make-in-None-clause-does : goal.returns-in_ok-make-in-None-clause-does
returns-in_ok-make-in-None-clause-does g c =
    touches (g.S.Space.seen c.args.space.now) (g.S.Space.seen c.find.new.space) (g.S.Space.seen c.make.new.space) c.in_ok-find.ensures.reads c.args.name.now (rw c.in-None.is at c.in_ok-find.ensures.found) c.in_ok-make-in-None.ensures.made
