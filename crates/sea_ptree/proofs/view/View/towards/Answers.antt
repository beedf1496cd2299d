use Rattle.std.proofs.Common.{arith}
use Rattle.sea_ptree.proofs.Searches.{view_next, parts_guide, parts_none}
use Rattle.sea_ptree.proofs.view.View.towards.Goals as goal

pub returns-then-count-eq0 : goal.returns-then-count-eq0
returns-then-count-eq0 c kind level entries views = parts_none c.args.key entries c.count_upto-count.result c.if-count-eq0.true (c.count_upto-count.ensures.split kind level entries views)

pub returns : goal.returns
returns c kind level entries views =
    let parts = c.count_upto-count.ensures.split kind level entries views in
    (parts_guide c.args.key entries c.count_upto-count.result c.entry_at.result (omega (arith, c.if-count-eq0.false)) parts
    (view_next kind level c.args.self.now entries _ c.entry_at.result views c.entry_at.ensures.length (omega (arith, parts.within, c.if-count-eq0.false)) c.entry_at.ensures.fits c.entry_at.ensures.spelled)).0
