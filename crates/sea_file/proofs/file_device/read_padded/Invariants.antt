use Rattle.std.proofs.Common.{◌≤◌, length}
use Rattle.sea_file.proofs.file_device.read_padded.Given as goal

abbrev pub invariant-loop : goal.invariant-loop
invariant-loop g l = l.filled ≤ length l.into
