use Rattle.std.proofs.Common.{take, None, is_none}
use Rattle.sea_base.specs.Ghosts.{IsCall}
use Rattle.sea_omap.specs.Changes.{puts}
use Rattle.sea_omap.specs.Calls.{Counts}
use Rattle.sea_omap.proofs.Chains.{GiveAll}
use Rattle.sea_omap.proofs.changing.set.Given as goal

abbrev pub invariant-loop-key : goal.invariant-loop-key
invariant-loop-key g l = record {
  did : Counts l.root.0 (take l.key-index (puts l.pairs)) is_none l.fresh (g.S.Space.seen l.fn.space) (g.S.Space.seen l.space);
  given : GiveAll l.key-index (g.S.Space.seen l.fn.space) (g.S.Space.seen l.space);
  call : IsCall g.S.Space l.fn.space l.space None;
}
