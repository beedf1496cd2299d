use Rattle.std.proofs.Common.{◌∙◌, None, arith}
use Rattle.sea_base.proofs.Calling.{call_then}
use Rattle.sea_data.proofs.Loops.{drops_more}
use Rattle.sea_data.proofs.cutting.drop_blocks.Goals as goal

pub loop-index-preserved : goal.loop-index-preserved
loop-index-preserved g c =
    let was = c.loop-index.invariant in
    record {
      upto = omega arith;
      done = drops_more c.args.onode.now.base.0 c.args.from c.loop-index.index c.address_of.result.0 (g.S.Space.seen c.args.space.now) (g.S.Space.seen c.loop-index.space) (g.S.Space.seen c.drop_at.new.self) (omega arith) c.address_of.ensures was.done c.in_ok-drop_at.ensures.gone;
      next = c.in_ok-drop_at.ensures.gone.writes.next ∙ was.next;
      call = call_then g.S.Space g.met.S.Space.frame {fault = None} was.call c.in_ok-drop_at.ensures.call;
    }
