use Rattle.std.proofs.Common.{arith, sym, ◌∙◌}
use Rattle.sea_node.proofs.Places.{passed_more, passed_found, passed_beyond, before_fits}
use Rattle.sea_node.proofs.node.Node.place.Goals as goal

pub overflow_add-before : goal.overflow_add-before
overflow_add-before c =
    let more = passed_more c.args.key.now c.args.self.now.entries c.items-at-items.result.now c.loop-at.at-index c.loop-at.before c.loop-at-item.result c.loop-at.invariant c.loop-at-test.true c.loop-at-item.is (sym c.cmp.ensures ∙ c.in-Less.is) in
    omega (arith, more.before_is, before_fits c.args.key.now c.args.self.now.entries c.requires.rising, c.size_of_entry-before.ensures)

pub loop-at-preserved : goal.loop-at-preserved
loop-at-preserved c =
    let more = passed_more c.args.key.now c.args.self.now.entries c.items-at-items.result.now c.loop-at.at-index c.loop-at.before c.loop-at-item.result c.loop-at.invariant c.loop-at-test.true c.loop-at-item.is (sym c.cmp.ensures ∙ c.in-Less.is) in
    rw c.size_of_entry-before.ensures more

pub returns-in-Equal-clause-before : goal.returns-in-Equal-clause-before
returns-in-Equal-clause-before c = (passed_found c.args.key.now c.args.self.now.entries c.items-at-items.result.now c.loop-at.at-index c.loop-at.before c.loop-at-item.result c.loop-at.invariant c.loop-at-test.true c.loop-at-item.is (sym c.cmp.ensures ∙ c.in-Equal.is)).0

pub returns-in-Equal-clause-size : goal.returns-in-Equal-clause-size
returns-in-Equal-clause-size c = c.size_of_entry.ensures ∙ (passed_found c.args.key.now c.args.self.now.entries c.items-at-items.result.now c.loop-at.at-index c.loop-at.before c.loop-at-item.result c.loop-at.invariant c.loop-at-test.true c.loop-at-item.is (sym c.cmp.ensures ∙ c.in-Equal.is)).1

pub returns-in-Greater-clause-before : goal.returns-in-Greater-clause-before
returns-in-Greater-clause-before c = (passed_beyond c.args.key.now c.args.self.now.entries c.items-at-items.result.now c.loop-at.at-index c.loop-at.before c.loop-at-item.result c.loop-at.invariant c.loop-at-test.true c.loop-at-item.is (sym c.cmp.ensures ∙ c.in-Greater.is)).0

pub returns-in-Greater-clause-size : goal.returns-in-Greater-clause-size
returns-in-Greater-clause-size c = (passed_beyond c.args.key.now c.args.self.now.entries c.items-at-items.result.now c.loop-at.at-index c.loop-at.before c.loop-at-item.result c.loop-at.invariant c.loop-at-test.true c.loop-at-item.is (sym c.cmp.ensures ∙ c.in-Greater.is)).1
