use Rattle.std.proofs.Common.{◌≡◌, drop}
use Rattle.sea_trail.proofs.Surveys.{with_number}
use Rattle.sea_trail.proofs.survey.numbered.Given as goal

abbrev pub invariant-loop-f : goal.invariant-loop-f
invariant-loop-f l = with_number l.seq l.found ≡ with_number l.seq (drop l.f-index l.found)
