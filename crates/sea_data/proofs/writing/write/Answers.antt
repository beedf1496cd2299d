use Rattle.std.proofs.Common.{arith}
use Rattle.std.proofs.lemmas.Result.{on_ok_weaker}
use Rattle.sea_base.proofs.Calling.{call_then}
use Rattle.sea_data.proofs.Finals.{write_becomes, write_footprint, write_form}
use Rattle.sea_data.proofs.writing.write.Goals as goal

pub returns-clause-changed : goal.returns-clause-changed
returns-clause-changed g c =
    on_ok_weaker c.write_parts.result (λ done. write_becomes c.args.onode.now c.args.offset c.args.bytes.now (g.S.Space.seen c.args.space.now) (g.S.Space.seen c.clear_old_end.new.space) (g.S.Space.seen c.write_parts.new.space) (omega arith) (omega arith) c.in_ok-clear_old_end.ensures.done done) c.write_parts.ensures.done

pub returns-clause-footprint : goal.returns-clause-footprint
returns-clause-footprint g c =
    on_ok_weaker c.write_parts.result (λ done. write_footprint c.args.onode.now c.args.offset c.args.bytes.now (g.S.Space.seen c.args.space.now) (g.S.Space.seen c.clear_old_end.new.space) (g.S.Space.seen c.write_parts.new.space) (omega arith) (omega arith) c.in_ok-clear_old_end.ensures.done done) c.write_parts.ensures.done

pub returns-clause-call : goal.returns-clause-call
returns-clause-call g c = call_then g.S.Space g.met.S.Space.frame c.in_ok-clear_old_end.ensures.call c.write_parts.ensures.call

pub returns-clause-form : goal.returns-clause-form
returns-clause-form g c =
    on_ok_weaker c.write_parts.result (λ done. write_form c.args.onode.now c.args.offset c.args.bytes.now (g.S.Space.seen c.args.space.now) (g.S.Space.seen c.clear_old_end.new.space) (g.S.Space.seen c.write_parts.new.space) (omega arith) (omega arith) c.in_ok-clear_old_end.ensures.done done) c.write_parts.ensures.done
