use Rattle.sea_trail_trial.proofs.PlainChains.{has_chain}
use Rattle.sea_trail_trial.proofs.plain.chain.chain_of.Goals as goal

pub returns-clause-chain : goal.returns-clause-chain
returns-clause-chain c =
    has_chain c.args.image.now c.body_at.result.now c.args.header.now c.in_ok-link.link c.in_ok-part.part c.body_at.ensures.body c.in_ok-link.ensures c.in_ok-part.ensures
