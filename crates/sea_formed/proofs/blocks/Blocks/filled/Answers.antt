use Rattle.std.proofs.Common.{rules, ◌≡◌}
use Rattle.std.specs.BTreeMap.{keys}
use Rattle.sea_formed.proofs.Filled.{filled_keys}
use Rattle.sea_formed.proofs.blocks.Blocks.filled.Goals as goal

pub returns : goal.returns
returns c =
    let same : c.in_ok-collect.field-0.items ≡ keys c.args.self.now.blocks = search rules in
    filled_keys c.args.self.now c.in_ok-collect.field-0.items same
