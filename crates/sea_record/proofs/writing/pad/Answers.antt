use Rattle.sea_record.proofs.Encoding.{padded}
use Rattle.sea_record.proofs.writing.pad.Goals as goal

pub returns : goal.returns
returns c = padded c.args.bytes.now.items c.resize.new.self.items c.args.bytes.now.len c.args.end c.args.bytes.now.ok.0 c.requires c.in_ok-resize.ensures.items
