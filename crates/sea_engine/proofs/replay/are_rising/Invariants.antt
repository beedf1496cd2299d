use Rattle.std.proofs.Common.{◌↔◌, drop}
use Rattle.sea_engine.specs.Opens.{AreRising}
use Rattle.sea_engine.proofs.replay.are_rising.Given as goal

-- what is left rises exactly where all does
abbrev pub invariant-loop-record : goal.invariant-loop-record
invariant-loop-record l = AreRising l.last.0 (drop l.record-index l.records) ↔ AreRising 0 l.records
