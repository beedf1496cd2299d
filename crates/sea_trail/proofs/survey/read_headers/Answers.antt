use Rattle.std.proofs.Common.{◌≡◌, ℕ, ◌+◌, List, sym, ap, ◌∙◌, subst, arith}
use Rattle.std.proofs.lemmas.Option.{MatchOption-at_some, MatchOption-at_none}
use Rattle.sea_trail.specs.declared.survey.Survey.{Survey}
use Rattle.sea_trail.specs.Parts.{IsFoundIn, IsSurvey, SpellsNone, SurveyFits}
use Rattle.sea_trail.specs.Trail.{block_of, header_block}
use Rattle.sea_trail.proofs.Surveys.{fits_more, surveyed_more, surveyed_past}
use Rattle.sea_trail.proofs.Telling.{IfSome-from, IfSome-at, OnlyRead-more}
use Rattle.sea_trail.proofs.survey.read_headers.Goals as goal
use Rattle.sea_trail.proofs.survey.read_headers.Goals.{in-Some+in_ok-push, in_default}

pub loop-segment-preserved : goal.loop-segment-preserved
loop-segment-preserved g c =
    let s = c.loop-segment.segment in
    let old = c.loop-segment.survey in
    let new = c.match-header_in.survey in
    let block = c.in_ok-block.block in
    let before = c.loop-segment.invariant in
    record {
      so_far = IfSome-from (g.D.Device.contents c.args.device.now) _ (λ image told.
          let here = IfSome-at (λ (image : List ℕ). block ≡ block_of image c.header_block.result) image (before.only_read.contents ∙ told) c.in_ok-block.ensures.block in
          let at : block ≡ block_of image (header_block s) = here ∙ ap (block_of image) c.header_block.ensures in
          let was : IsSurvey old s image = IfSome-at (IsSurvey old s) image told before.so_far in
          elim c.match-header_in.branch [
            | in-Some+in_ok-push w ↦ (
                let is = MatchOption-at_some (SpellsNone block s) (IsFoundIn block s) w.in-Some.found w.in-Some.is c.header_in.ensures in
                surveyed_more image block s old new w.newer-survey.result w.in-Some.found at was is (ap (λ (v : Survey). v.found.items) w.survey-is ∙ w.in_ok-push.ensures.items) (ap (λ (v : Survey). v.newest) w.survey-is) w.newer-survey.ensures
                )
            | in_default w ↦ (
                let none = MatchOption-at_none (SpellsNone block s) (IsFoundIn block s) w.in_default.is c.header_in.ensures in
                subst (λ (v : Survey). IsSurvey v (s + 1) image) (sym w.survey-is) (surveyed_past image block s old at was none)
                )
          ]);
      fits = elim c.match-header_in.branch [
        | in-Some+in_ok-push w ↦ (
            let is = MatchOption-at_some (SpellsNone block s) (IsFoundIn block s) w.in-Some.found w.in-Some.is c.header_in.ensures in
            fits_more block c.args.segments s old new w.newer-survey.result w.in-Some.found c.loop-segment-test.true before.fits is (ap (λ (v : Survey). v.found.items) w.survey-is ∙ w.in_ok-push.ensures.items) (ap (λ (v : Survey). v.newest) w.survey-is) w.newer-survey.ensures
            )
        | in_default w ↦ subst (λ (v : Survey). SurveyFits v c.args.segments) (sym w.survey-is) before.fits
      ];
      only_read = OnlyRead-more c.args.device.now c.loop-segment.device c.read_block.new.device before.only_read c.in_ok-block.ensures.read;
      later = omega (arith, before.later, c.in_ok-block.ensures.cause.later);
    }
