use Rattle.std.proofs.Common.{◌≡◌, ◌-◌, ◌/◌, None, replicate}
use Rattle.sea_base.specs.Ghosts.{IsCall}
use Rattle.sea_data.specs.Steps.{Does, part_steps}
use Rattle.sea_data.proofs.writing.zero_parts.Given as goal

abbrev pub invariant-loop-index : goal.invariant-loop-index
invariant-loop-index g l = record {
  done : Does (part_steps l.onode.base.0 l.offset (replicate l.length 0) (l.index - l.offset / 4096)) (g.S.Space.seen l.fn.space) (g.S.Space.seen l.space);
  next : (g.S.Space.seen l.space).next ≡ (g.S.Space.seen l.fn.space).next;
  call : IsCall g.S.Space l.fn.space l.space None;
}
