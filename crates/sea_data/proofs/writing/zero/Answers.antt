use Rattle.std.proofs.Common.{arith}
use Rattle.std.proofs.lemmas.Result.{on_ok_weaker}
use Rattle.sea_base.proofs.Calling.{call_then}
use Rattle.sea_data.proofs.Finals.{zero_becomes, zero_footprint, zero_form}
use Rattle.sea_data.proofs.writing.zero.Goals as goal

pub returns-clause-changed : goal.returns-clause-changed
returns-clause-changed g c =
    on_ok_weaker c.zero_parts.result (λ done. zero_becomes c.args.onode.now c.args.offset c.args.length (g.S.Space.seen c.args.space.now) (g.S.Space.seen c.clear_old_end.new.space) (g.S.Space.seen c.zero_parts.new.space) (omega arith) (omega arith) c.in_ok-clear_old_end.ensures.done done) c.zero_parts.ensures.done

pub returns-clause-footprint : goal.returns-clause-footprint
returns-clause-footprint g c =
    on_ok_weaker c.zero_parts.result (λ done. zero_footprint c.args.onode.now c.args.offset c.args.length (g.S.Space.seen c.args.space.now) (g.S.Space.seen c.clear_old_end.new.space) (g.S.Space.seen c.zero_parts.new.space) (omega arith) (omega arith) c.in_ok-clear_old_end.ensures.done done) c.zero_parts.ensures.done

pub returns-clause-call : goal.returns-clause-call
returns-clause-call g c = call_then g.S.Space g.met.S.Space.frame c.in_ok-clear_old_end.ensures.call c.zero_parts.ensures.call

pub returns-clause-form : goal.returns-clause-form
returns-clause-form g c =
    on_ok_weaker c.zero_parts.result (λ done. zero_form c.args.onode.now c.args.offset c.args.length (g.S.Space.seen c.args.space.now) (g.S.Space.seen c.clear_old_end.new.space) (g.S.Space.seen c.zero_parts.new.space) (omega arith) (omega arith) c.in_ok-clear_old_end.ensures.done done) c.zero_parts.ensures.done
