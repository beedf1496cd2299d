use Rattle.std.proofs.Common.{sym, ◌∙◌}
use Rattle.sea_trail.proofs.Surveys.{number_past, number_here, number_nowhere}
use Rattle.sea_trail.proofs.survey.numbered.Goals as goal

pub loop-f-preserved : goal.loop-f-preserved
loop-f-preserved c = c.loop-f.invariant ∙ number_past c.args.seq c.args.found.now c.loop-f.f-index _ c.loop-f-test.true c.if-f-seq.false

pub returns-then-f-seq : goal.returns-then-f-seq
returns-then-f-seq c = sym (c.loop-f.invariant ∙ number_here c.args.seq c.args.found.now c.loop-f.f-index _ c.loop-f-test.true c.if-f-seq.true)

pub returns : goal.returns
returns c = sym (c.loop-f.invariant ∙ number_nowhere c.args.seq c.args.found.now c.loop-f.f-index c.loop-f-test.false)
