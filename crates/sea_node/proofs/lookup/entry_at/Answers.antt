use Rattle.sea_node.proofs.ReadLookups.{other_value}
use Rattle.sea_node.proofs.lookup.entry_at.Goals as goal

pub returns-then-entry-ne-ADDRESS_BYTES : goal.returns-then-entry-ne-ADDRESS_BYTES
returns-then-entry-ne-ADDRESS_BYTES c =
    other_value c.args.bytes.now c.requires.block c.args.level c.args.at c.in-Some.entry c.in-Some.ensures c.if-level-gt0.true c.if-entry-ne-ADDRESS_BYTES.true
