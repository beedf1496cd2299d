use Rattle.std.proofs.Common.{◌≡◌, ◌+◌, ◌∷◌, [], ◌++◌, sym, ap, ◌∙◌, subst, arith, Vec, Global}
use Rattle.std.proofs.lemmas.Option.{MatchOption-at_some, MatchOption-at_none}
use Rattle.sea_segment.specs.declared.header.Header.{Header}
use Rattle.sea_trail.specs.Trail.{AreHeaders}
use Rattle.sea_trail_trial.specs.Plain.{HasNone, HasOne}
use Rattle.sea_trail_trial.proofs.PlainHeaders.{headers_more, headers_past}
use Rattle.sea_trail_trial.proofs.plain.headers.headers_of.Goals as goal
use Rattle.sea_trail_trial.proofs.plain.headers.headers_of.Goals.{in-Some+in_ok-push, in_default}

pub loop-segment-preserved : goal.loop-segment-preserved
loop-segment-preserved c =
    let image = c.args.image.now in
    let s = c.loop-segment.segment in
    let old = c.loop-segment.headers.items in
    let new = c.match-branch-2.headers.items in
    elim c.match-branch-2.branch [
      | in-Some+in_ok-push w ↦ (
          let h = w.in-Some.header in
          let is = MatchOption-at_some (HasNone image s) (HasOne image s) h w.in-Some.is c.in_ok-header.ensures in
          let items : new ≡ old ++ h ∷ [] = ap (λ (v : Vec Header Global). v.items) w.headers-is ∙ w.in_ok-push.ensures.items in
          subst (AreHeaders image 0 (s + 1)) (sym items) (headers_more image 0 s old h (omega arith) c.loop-segment.invariant is)
          )
      | in_default w ↦ (
          let none = MatchOption-at_none (HasNone image s) (HasOne image s) w.in_default.is c.in_ok-header.ensures in
          let items : new ≡ old = ap (λ (v : Vec Header Global). v.items) w.headers-is in
          subst (AreHeaders image 0 (s + 1)) (sym items) (headers_past image 0 s old c.loop-segment.invariant none)
          )
    ]
