use Rattle.std.proofs.Common.{List, ℕ, subst}
use Rattle.std.proofs.lemmas.Result.{on_ok_weaker}
use Rattle.sea_base.specs.Space.{Amends}
use Rattle.sea_data.proofs.patching.amend.Goals as goal

pub returns-clause-spliced : goal.returns-clause-spliced
returns-clause-spliced g c =
    on_ok_weaker c.amend.result (λ a. (c.bytes.ensures.length, subst (λ (made : List ℕ). Amends c.args.at.0 c.args.delta made (g.S.Space.seen c.args.space.now) (g.S.Space.seen c.amend.new.self)) c.in_ok-made.ensures a)) c.amend.ensures.amended
