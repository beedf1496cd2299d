use Rattle.std.proofs.Common.{◌≡◌, ◌∙◌, ap, length, arith}
use Rattle.sea_journal.proofs.Tears.{InRange-then, InRange-wider}
use Rattle.sea_journal.proofs.fresh.write_fresh.Goals as goal

pub returns-in_err-put_blocks-clause-within : goal.returns-in_err-put_blocks-clause-within
returns-in_err-put_blocks-clause-within g c =
    let block : length c.bytes.result.now ≡ 4096 = ap length c.bytes.ensures.bytes ∙ c.bytes.ensures.length in
    InRange-wider 4096 (length c.bytes.result.now) 0 8192 c.args.device.now c.put_blocks.new.device (omega arith) (omega arith) c.put_blocks.ensures.changes

pub returns-clause-within : goal.returns-clause-within
returns-clause-within g c =
    let block : length c.bytes.result.now ≡ 4096 = ap length c.bytes.ensures.bytes ∙ c.bytes.ensures.length in
    let block-2 : length c.bytes-2.result.now ≡ 4096 = ap length c.bytes-2.ensures.bytes ∙ c.bytes-2.ensures.length in
    InRange-then 0 8192 c.args.device.now c.put_blocks.new.device c.put_blocks-2.new.device
    (InRange-wider 4096 (length c.bytes.result.now) 0 8192 c.args.device.now c.put_blocks.new.device (omega arith) (omega arith) c.put_blocks.ensures.changes)
    (InRange-wider 0 (length c.bytes-2.result.now) 0 8192 c.put_blocks.new.device c.put_blocks-2.new.device (omega arith) (omega arith) c.put_blocks-2.ensures.changes)
