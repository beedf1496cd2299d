use Rattle.std.proofs.Common.{None, ◌-◌, take, replicate, ◌∙◌, arith}
use Rattle.sea_base.proofs.Calling.{call_then}
use Rattle.sea_data.proofs.Loops.{part_taken, parts_more, zeros_part_of}
use Rattle.sea_data.proofs.writing.zero_parts.Goals as goal

pub loop-index-preserved : goal.loop-index-preserved
loop-index-preserved g c =
    let was = c.loop-index.invariant in
    record {
      done = parts_more c.args.onode.now.base.0 c.args.offset c.loop-index.index (replicate c.args.length 0) (g.S.Space.seen c.args.space.now) (g.S.Space.seen c.loop-index.space) (g.S.Space.seen c.write_part.new.space) (omega arith) was.done
          (part_taken c.args.onode.now.base.0 c.args.offset c.loop-index.index (replicate c.args.length 0) c.address_of.result.0 c.of-part.result.place (take (c.of-part.result.to - c.of-part.result.from) c.deref.result.now) (g.S.Space.seen c.loop-index.space) (g.S.Space.seen c.write_part.new.space) c.address_of.ensures c.of-part.ensures.place
          (zeros_part_of c.args.offset c.loop-index.index c.args.length c.min.result c.of-part.result.from c.of-part.result.to c.deref.result.now (c.deref.ensures.value ∙ c.in_ok-zeros.ensures) c.of-part.ensures.from c.of-part.ensures.to c.of-part.ensures.within (omega (arith, c.min.ensures, c.of-part.ensures.room, c.of-part.ensures.within)))
          c.in_ok-write_part.ensures.taken);
      next = c.in_ok-write_part.ensures.next ∙ was.next;
      call = call_then g.S.Space g.met.S.Space.frame {fault = None} was.call c.in_ok-write_part.ensures.call;
    }
