use Rattle.std.proofs.Common.{length, rules}
use Rattle.sea_top.proofs.HeaderWritten.{header_written}
use Rattle.sea_top.proofs.record.header.put_header.Goals as goal

pub returns : goal.returns
returns c =
    header_written c.args.header.now (length c.args.buffer.now) c.args.buffer.now c.put_bytes.new.bytes c.put_u64.new.bytes c.put_u32.new.bytes c.put_u32-2.new.bytes c.put_bytes-2.new.bytes c.put_bytes-3.new.bytes
    c.requires.zero c.requires.room (search rules) (search rules) c.put_bytes.ensures c.put_u64.ensures c.put_u32.ensures c.put_u32-2.ensures c.put_bytes-2.ensures c.put_bytes-3.ensures
