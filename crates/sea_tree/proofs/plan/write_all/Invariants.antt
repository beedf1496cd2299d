use Rattle.sea_base.specs.Ghosts.{IsCall}
use Rattle.std.proofs.Common.{◌≡◌, None}
use Rattle.sea_tree.specs.Does.{Does, ChangesAtMost, ArePlaced}
use Rattle.sea_tree.specs.Reads.{ReadsNothing}
use Rattle.sea_tree.specs.Plan.{changes_of, count_filled}
use Rattle.sea_tree.proofs.plan.write_all.Given as goal

abbrev pub invariant-loop-write : goal.invariant-loop-write
invariant-loop-write g l = record {
  can_next : (goal.iterator-loop-write g).can_next l.write-iterator;
  is_finite : (goal.iterator-loop-write g).is_finite l.write-iterator;
  done : Does (changes_of l.yielded) (g.S.Space.seen l.fn.space) (g.S.Space.seen l.space);
  placed : ArePlaced (changes_of l.yielded) (g.S.Space.seen l.space);
  unread : ReadsNothing (g.S.Space.seen l.fn.space) (g.S.Space.seen l.space);
  few : ChangesAtMost (count_filled l.yielded) (g.S.Space.seen l.fn.space) (g.S.Space.seen l.space);
  next : (g.S.Space.seen l.space).next ≡ (g.S.Space.seen l.fn.space).next;
  call : IsCall g.S.Space l.fn.space l.space None;
}
