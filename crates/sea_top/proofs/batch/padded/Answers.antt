use Rattle.std.proofs.Common.{◌+◌, arith}
use Rattle.sea_top.proofs.Batches.{unpadded, resized}
use Rattle.sea_top.proofs.batch.padded.Goals as goal

pub returns-then-rest-eq0 : goal.returns-then-rest-eq0
returns-then-rest-eq0 c = unpadded c.args.bytes.items c.args.rest c.if-rest-eq0.true

pub returns : goal.returns
returns c =
    resized c.args.bytes.items c.resize.new.self.items c.args.rest (c.len-len.result + 4096) c.if-rest-eq0.false (omega (arith, c.len-len.ensures, c.args.bytes.ok.0)) (rw c.args.bytes.ok.0 at c.in_ok-resize.ensures.items)
