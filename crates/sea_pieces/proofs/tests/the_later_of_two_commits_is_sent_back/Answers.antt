use Rattle.std.proofs.Common.{ap, arith, ◌∙◌}
use Rattle.sea_pieces.proofs.tests.the_later_of_two_commits_is_sent_back.Goals as goal

pub commit-requires-clause-open : goal.commit-requires-clause-open
commit-requires-clause-open g c =
    ap (λ t. t.is_open) (c.in_ok-open-2.ensures.keeps.others 1 (λ same. absurd (omega (arith, same)))).transaction
    ∙ c.in_ok-open.ensures.open
