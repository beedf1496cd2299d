use Rattle.std.proofs.lemmas.Option.{MatchOption-at_some, MatchOption-at_none}
use Rattle.sea_trail_trial.specs.Plain.{HasNone, HasOne}
use Rattle.sea_trail_trial.proofs.PlainHeaders.{none_other, none_past}
use Rattle.sea_trail_trial.proofs.plain.headers.numbered.Goals as goal
use Rattle.sea_trail_trial.proofs.plain.headers.numbered.Goals.{in-Some+else-header-seq, in_default}

pub loop-segment-preserved : goal.loop-segment-preserved
loop-segment-preserved c =
    let image = c.args.image.now in
    let s = c.loop-segment.segment in
    elim c.match-branch-2.branch [
      | in-Some+else-header-seq w ↦ (
          let h = w.in-Some.header in
          let is = MatchOption-at_some (HasNone image s) (HasOne image s) h w.in-Some.is c.in_ok-header.ensures in
          none_other image s c.args.seq h c.loop-segment.invariant is w.if-header-seq.false
          )
      | in_default w ↦ (
          let none = MatchOption-at_none (HasNone image s) (HasOne image s) w.in_default.is c.in_ok-header.ensures in
          none_past image s c.args.seq c.loop-segment.invariant none
          )
    ]
