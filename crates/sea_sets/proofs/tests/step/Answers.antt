use Rattle.std.proofs.Common.{arith, ◌∙◌}
use Rattle.sea_sets.proofs.tests.step.Goals as goal

pub returns-then-drawn-eq0-clause-is_open : goal.returns-then-drawn-eq0-clause-is_open
returns-then-drawn-eq0-clause-is_open c =
    (c.mark.ensures.others 1 (λ same. absurd (omega (arith, same)))).is_open ∙ c.requires.is_open
