use Rattle.std.proofs.Common.{◌≡◌, ℕ, take}
use Rattle.std.specs.Prelude.{map}
use Rattle.sea_transactions.specs.State.{Transaction}
use Rattle.sea_engine.specs.Engine.{phases_from}
use Rattle.sea_engine.specs.Turns.{first_phase}
use Rattle.sea_engine.proofs.opening.first_states.Given as goal

abbrev pub invariant-loop-index : goal.invariant-loop-index
invariant-loop-index l = (transaction : ℕ → Transaction) → phases_from 1 l.states.items transaction ≡ map first_phase (take l.index l.plan)
