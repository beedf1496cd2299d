use Rattle.std.proofs.Common.{◌-◌, length}
use Rattle.sea_trail.proofs.Chains.{HasRead}
use Rattle.sea_trail.proofs.chain.part_in.Given as goal

abbrev pub invariant-loop-part : goal.invariant-loop-part
invariant-loop-part l = HasRead l.found l.bytes l.at l.part

abbrev pub decreases-loop-part : goal.decreases-loop-part
decreases-loop-part l = length l.bytes - l.at
