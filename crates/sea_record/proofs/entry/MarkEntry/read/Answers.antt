use Rattle.std.proofs.Common.{arith}
use Rattle.sea_record.specs.Entries.{mark_bytes}
use Rattle.sea_record.proofs.EntryBytes.{length-mark_bytes, front_fits}
use Rattle.sea_record.proofs.entry.MarkEntry.read.Goals as goal

pub returns-then-bytes-lt-MARK_BYTES : goal.returns-then-bytes-lt-MARK_BYTES
returns-then-bytes-lt-MARK_BYTES c = λ x rest fits e. omega (arith, front_fits c.args.bytes.now (mark_bytes x.at.0 x.version.0 x.sum.0) rest e, length-mark_bytes x.at.0 x.version.0 x.sum.0)
