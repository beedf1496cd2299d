use Rattle.std.proofs.Common.{◌-◌, length}
use Rattle.sea_trail.proofs.Chains.{HasRead}
use Rattle.sea_trail_trial.proofs.PlainChains.{linked}
use Rattle.sea_trail_trial.proofs.plain.chain.chain_behind.Given as goal

abbrev pub invariant-loop-part : goal.invariant-loop-part
invariant-loop-part l = HasRead (linked l.fn.header l.fn.link) l.bytes l.at l.part

abbrev pub decreases-loop-part : goal.decreases-loop-part
decreases-loop-part l = length l.bytes - l.at
