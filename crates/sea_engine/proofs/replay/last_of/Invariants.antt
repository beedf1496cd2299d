use Rattle.std.proofs.Common.{◌≡◌, take}
use Rattle.sea_engine.specs.Replay.{last_number}
use Rattle.sea_engine.proofs.replay.last_of.Given as goal

abbrev pub invariant-loop-record : goal.invariant-loop-record
invariant-loop-record l = l.last.0 ≡ last_number 0 (take l.record-index l.records)
