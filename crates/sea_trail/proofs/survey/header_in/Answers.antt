use Rattle.std.proofs.Common.{ap, ◌∙◌}
use Rattle.sea_segment.specs.declared.header.Header.{Header}
use Rattle.sea_segment.proofs.Headers.{same_header}
use Rattle.sea_trail.proofs.survey.header_in.Goals as goal

pub returns-then-header-segment : goal.returns-then-header-segment
returns-then-header-segment c = λ h named spells.
    c.if-header-segment.true (ap (λ (k : Header). k.segment) (same_header c.args.block.now c.in-Some.header h c.in-Some.ensures.some spells) ∙ named)
