use Rattle.std.proofs.lemmas.Result.{err_from_is_err_and}
use Rattle.sea_base.proofs.Calling.{call_none, call_then}
use Rattle.std.proofs.Common.{◌∙◌, refl}
use Rattle.sea_base.proofs.Spaces.{only_read-refl}
use Rattle.sea_tree.proofs.Doing.{Does-read, ChangesAtMost-read}
use Rattle.sea_tree.proofs.Performing.{does_more, few_more, placed_none, placed_more}
use Rattle.sea_tree.proofs.plan.write_all.Goals as goal

pub loop-write-init : goal.loop-write-init
loop-write-init g c =
    let same = only_read-refl (g.S.Space.seen c.args.space.now) in record {
      can_next = tt;
      is_finite = tt;
      done = Does-read same;
      placed = placed_none (g.S.Space.seen c.args.space.now);
      unread = λ q. refl;
      few = ChangesAtMost-read same;
      next = refl;
      call = call_none g.S.Space g.met.S.Space.frame c.args.space.now c.requires;
    }

pub loop-write-preserved : goal.loop-write-preserved
loop-write-preserved g c =
    let was = c.loop-write.invariant in
    let told = c.carry_out.ensures in record {
      can_next = tt;
      is_finite = tt;
      done = does_more c.loop-write.yielded c.in-Some.write was.done c.in_ok-carry_out.ensures.done;
      placed = placed_more c.loop-write.yielded c.in-Some.write was.placed c.in_ok-carry_out.ensures.placed c.in_ok-carry_out.ensures.done;
      unread = λ q. c.in_ok-carry_out.ensures.unread q ∙ was.unread q;
      few = few_more c.loop-write.yielded c.in-Some.write was.few c.in_ok-carry_out.ensures.few;
      next = told.next ∙ was.next;
      call = call_then g.S.Space g.met.S.Space.frame was.call c.in_ok-carry_out.ensures.call;
    }

pub returns-in_err-carry_out-clause-call : goal.returns-in_err-carry_out-clause-call
returns-in_err-carry_out-clause-call g c =
    let p = err_from_is_err_and c.from_residual.result c.from_residual.ensures.1 in
    rw (p.1, p.2) (call_then g.S.Space g.met.S.Space.frame c.loop-write.invariant.call c.in_err-carry_out.ensures.call)
