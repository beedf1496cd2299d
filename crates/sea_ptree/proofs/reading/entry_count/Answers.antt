use Rattle.std.proofs.Common.{ℕ, length, subst, sym, ◌∙◌}
use Rattle.std.proofs.lemmas.Bool.{false≢true}
use Rattle.sea_ptree.specs.Reading.{AreRead}
use Rattle.sea_ptree.proofs.Fronts.{spelled_front, spelled_read, node_read, front_count_is}
use Rattle.sea_ptree.proofs.reading.entry_count.Goals as goal

pub returns-in_err-count-clause-none : goal.returns-in_err-count-clause-none
returns-in_err-count-clause-none c =
    rw c.from_residual.ensures (λ entries spells. c.in_err-count.ensures.none (length entries) (spelled_front c.args.kind c.args.level c.args.block.now entries spells))

pub returns-then-not-are_entries-clause-none : goal.returns-then-not-are_entries-clause-none
returns-then-not-are_entries-clause-none c entries spells =
    let count = front_count_is c.args.kind c.args.level c.args.block.now c.in_ok-count.count entries c.in_ok-count.ensures.some spells in
    let read = subst (λ (n : ℕ). AreRead c.args.block.now n entries) count (spelled_read c.args.kind c.args.level c.args.block.now entries spells) in
    false≢true (sym c.if-not-are_entries.true ∙ (c.are_entries.ensures.told entries read).1 (spells.node.rising, spells.node.slots))

pub returns-clause-some : goal.returns-clause-some
returns-clause-some c =
    let read = c.are_entries.ensures.read c.if-not-are_entries.false in
    let told = (c.are_entries.ensures.told read.0 read.1).0 c.if-not-are_entries.false in
    (read.0, node_read c.args.kind c.args.level c.args.block.now c.in_ok-count.count read.0 c.requires c.in_ok-count.ensures.some read.1 told.0 told.1, read.1.count_is)
