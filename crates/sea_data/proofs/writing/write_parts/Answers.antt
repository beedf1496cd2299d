use Rattle.std.proofs.Common.{None, ◌-◌, ◌*◌, ℕ, ap, ◌∙◌, arith}
use Rattle.std.specs.Prelude.{slice_range}
use Rattle.std.proofs.lemmas.Result.{err_from_is_err_and}
use Rattle.sea_base.proofs.Calling.{call_then}
use Rattle.sea_data.proofs.Loops.{part_taken, parts_more}
use Rattle.sea_data.proofs.writing.write_parts.Goals as goal

pub loop-index-preserved : goal.loop-index-preserved
loop-index-preserved g c =
    let was = c.loop-index.invariant in
    record {
      done = parts_more c.args.onode.now.base.0 c.args.offset c.loop-index.index c.args.bytes.now (g.S.Space.seen c.args.space.now) (g.S.Space.seen c.loop-index.space) (g.S.Space.seen c.write_part.new.space) (omega arith) was.done
          (part_taken c.args.onode.now.base.0 c.args.offset c.loop-index.index c.args.bytes.now c.address_of.result.0 c.of-part.result.place (slice_range c.args.bytes.now c.of-part.result.from c.of-part.result.to) (g.S.Space.seen c.loop-index.space) (g.S.Space.seen c.write_part.new.space) c.address_of.ensures c.of-part.ensures.place
          (ap (λ (n : ℕ). slice_range c.args.bytes.now n c.of-part.result.to) c.of-part.ensures.from ∙ ap (λ (n : ℕ). slice_range c.args.bytes.now (4096 * c.loop-index.index - c.args.offset) n) c.of-part.ensures.to)
          c.in_ok-write_part.ensures.taken);
      next = c.in_ok-write_part.ensures.next ∙ was.next;
      call = call_then g.S.Space g.met.S.Space.frame {fault = None} was.call c.in_ok-write_part.ensures.call;
    }

pub returns-in_err-write_part-clause-call : goal.returns-in_err-write_part-clause-call
returns-in_err-write_part-clause-call g c =
    let p = err_from_is_err_and c.from_residual.result c.from_residual.ensures.1 in
    rw (p.1, p.2) (call_then g.S.Space g.met.S.Space.frame c.loop-index.invariant.call c.in_err-write_part.ensures.call)
