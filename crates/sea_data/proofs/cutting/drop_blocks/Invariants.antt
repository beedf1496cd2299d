use Rattle.std.proofs.Common.{◌≡◌, ◌-◌, ◌≤◌, None}
use Rattle.sea_base.specs.Ghosts.{IsCall}
use Rattle.sea_data.specs.Steps.{Does, drop_steps}
use Rattle.sea_data.proofs.cutting.drop_blocks.Given as goal

abbrev pub invariant-loop-index : goal.invariant-loop-index
invariant-loop-index g l = record {
  upto : l.index - l.from ≤ l.to - l.from;
  done : Does (drop_steps l.onode.base.0 l.from (l.index - l.from)) (g.S.Space.seen l.fn.space) (g.S.Space.seen l.space);
  next : (g.S.Space.seen l.space).next ≡ (g.S.Space.seen l.fn.space).next;
  call : IsCall g.S.Space l.fn.space l.space None;
}
