use Rattle.std.proofs.Common.{◌+◌, arith, subst, sym}
use Rattle.sea_sets.proofs.Places.{IsMarkedBelow, marked_all, marked_more, marked_past}
use Rattle.sea_sets.proofs.board.Board.mark.Goals.{then-place-committer, else-place-committer}
use Rattle.sea_sets.proofs.board.Board.mark.Goals as goal

pub loop-place-preserved : goal.loop-place-preserved
loop-place-preserved c = elim c.if-place-committer.branch [
  | then-place-committer w ↦
      subst (IsMarkedBelow (c.loop-place.place + 1) c.args.committer c.args.commit c.args.changed.now c.args.self.now) (sym w.self-is)
      (marked_more c.loop-place.place c.loop-place.self w.mark_one.new.self w.if-place-committer.true c.loop-place.invariant w.mark_one.ensures.moves w.mark_one.ensures.others)
  | else-place-committer w ↦
      subst (IsMarkedBelow (c.loop-place.place + 1) c.args.committer c.args.commit c.args.changed.now c.args.self.now) (sym w.self-is)
      (marked_past c.loop-place.place c.loop-place.self w.if-place-committer.false c.loop-place.invariant)
]

pub returns : goal.returns
returns c = marked_all c.loop-place.place c.loop-place.self (omega (arith, c.loop-place-test.false, c.len-place-end.ensures)) c.loop-place.invariant
