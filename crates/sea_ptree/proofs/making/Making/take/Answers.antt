use Rattle.std.proofs.Common.{ℕ, length, sym, ap, subst, arith}
use Rattle.sea_ptree.specs.Reading.{AreRead}
use Rattle.sea_ptree.specs.Tree.{NodeAt}
use Rattle.sea_ptree.proofs.Fronts.{spelled_read}
use Rattle.sea_ptree.proofs.making.Making.take.Goals as goal

pub returns-clause-node : goal.returns-clause-node
returns-clause-node g c told =
    let n = c.in_ok-view.ensures.node in
    let read = subst (λ (k : ℕ). AreRead c.in_ok-view.view.block k n.0) n.1.count (spelled_read c.args.self.now.kind c.args.level c.in_ok-view.view.block n.0 n.1.spells) in
    subst (NodeAt c.args.self.now.kind (g.B.Blocks.held c.args.blocks.now).image c.args.level c.args.link) (sym (c.in_ok-entries.ensures n.0 read)) (n.2 told)

pub returns-clause-few : goal.returns-clause-few
returns-clause-few g c =
    let n = c.in_ok-view.ensures.node in
    let read = subst (λ (k : ℕ). AreRead c.in_ok-view.view.block k n.0) n.1.count (spelled_read c.args.self.now.kind c.args.level c.in_ok-view.view.block n.0 n.1.spells) in
    let same = ap length (c.in_ok-entries.ensures n.0 read) in
    (omega (arith, same, n.1.spells.node.some), omega (arith, same, n.1.spells.node.room))
