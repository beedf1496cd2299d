use Rattle.std.proofs.Common.{arith}
use Rattle.sea_record.specs.Entries.{address_bytes}
use Rattle.sea_record.proofs.EntryBytes.{length-address_bytes, front_fits}
use Rattle.sea_record.proofs.entry.LaddrEntry.read.Goals as goal

pub returns-then-bytes-lt-ADDRESS_BYTES : goal.returns-then-bytes-lt-ADDRESS_BYTES
returns-then-bytes-lt-ADDRESS_BYTES c = λ x rest fits e. omega (arith, front_fits c.args.bytes.now (address_bytes x) rest e, length-address_bytes x)
