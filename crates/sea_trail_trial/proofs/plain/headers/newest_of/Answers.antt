use Rattle.std.proofs.Common.{◌+◌, sym, subst}
use Rattle.std.proofs.lemmas.Option.{MatchOption-at_some, MatchOption-at_none}
use Rattle.sea_trail_trial.specs.Plain.{HasNone, HasOne, IsNewestOf}
use Rattle.sea_trail_trial.proofs.PlainHeaders.{newest_more, newest_past}
use Rattle.sea_trail_trial.proofs.plain.headers.newest_of.Goals as goal
use Rattle.sea_trail_trial.proofs.plain.headers.newest_of.Goals.{in-Some, in_default}

pub loop-segment-preserved : goal.loop-segment-preserved
loop-segment-preserved c =
    let image = c.args.image.now in
    let s = c.loop-segment.segment in
    let old = c.loop-segment.newest in
    elim c.match-branch-2.branch [
      | in-Some w ↦ (
          let is = MatchOption-at_some (HasNone image s) (HasOne image s) w.in-Some.header w.in-Some.is c.in_ok-header.ensures in
          subst (IsNewestOf image (s + 1)) (sym w.newest-is) (newest_more image s old w.newer-newest.result w.in-Some.header c.loop-segment.invariant is w.newer-newest.ensures)
          )
      | in_default w ↦ (
          let none = MatchOption-at_none (HasNone image s) (HasOne image s) w.in_default.is c.in_ok-header.ensures in
          subst (IsNewestOf image (s + 1)) (sym w.newest-is) (newest_past image s old c.loop-segment.invariant none)
          )
    ]
