use Rattle.std.proofs.lemmas.Bool.{false≢true}
use Rattle.sea_node.specs.Reading.{key_in}
use Rattle.sea_node.proofs.ReadLookups.{other_order}
use Rattle.sea_node.proofs.lookup.entry_behind.Goals as goal

pub returns-then-not-comes_before : goal.returns-then-not-comes_before
returns-then-not-comes_before c =
    let bytes = c.args.bytes.now in
    let last = c.args.last in
    other_order bytes c.requires.block c.args.level last.end c.in-Some.entry c.in-Some.ensures.0 (key_in bytes last) (λ below. false≢true (c.if-not-comes_before.ensures.1 below))
