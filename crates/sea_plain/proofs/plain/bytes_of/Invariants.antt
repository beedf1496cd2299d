use Rattle.std.proofs.Common.{◌≡◌, drop}
use Rattle.sea_plain.specs.Scan.{newest}
use Rattle.sea_plain.proofs.plain.bytes_of.Given as goal

abbrev pub invariant-loop-other : goal.invariant-loop-other
invariant-loop-other l = newest l.name (drop l.other-index l.written) ≡ newest l.name l.written
