use Rattle.std.proofs.Common.{◌<◌, ◌+◌, ◌-◌, ◌/◌, subst, sym, arith}
use Rattle.std.proofs.lemmas.List.{drop_all}
use Rattle.sea_ptree.specs.Tree.{IsBelowNext}
use Rattle.sea_ptree.proofs.Searches.{low_moves, high_moves, narrowed, view_next, view_rising}
use Rattle.sea_ptree.proofs.view.View.count_upto.Goals as goal

pub loop-low-init : goal.loop-low-init
loop-low-init c = record {
  order = omega arith;
  within = c.args.self.now.room;
  told = λ kind level entries views. record {
    within = omega (arith, views.count);
    upto = tt;
    above = subst (IsBelowNext c.args.key) (sym (drop_all c.args.self.now.count entries (omega (arith, views.count)))) tt;
  };
}

pub loop-low-preserved-then-entry_at-key : goal.loop-low-preserved-then-entry_at-key
loop-low-preserved-then-entry_at-key c =
    let middle = c.loop-low.low + (c.loop-low.high - c.loop-low.low) / 2 in
    let less : middle < c.loop-low.high = omega arith in
    record {
      order = omega arith;
      within = c.loop-low.invariant.within;
      told = λ kind level entries views. low_moves c.args.key entries c.loop-low.low c.loop-low.high middle c.entry_at.result (view_rising kind level c.args.self.now entries views) (c.loop-low.invariant.told kind level entries views)
          (view_next kind level c.args.self.now entries middle c.entry_at.result views c.entry_at.ensures.length (omega (arith, (c.loop-low.invariant.told kind level entries views).within)) c.entry_at.ensures.fits c.entry_at.ensures.spelled) less c.if-entry_at-key.true;
    }

pub loop-low-preserved : goal.loop-low-preserved
loop-low-preserved c =
    let middle = c.loop-low.low + (c.loop-low.high - c.loop-low.low) / 2 in
    let less : middle < c.loop-low.high = omega arith in
    record {
      order = omega arith;
      within = omega (arith, c.loop-low.invariant.within);
      told = λ kind level entries views. high_moves c.args.key entries c.loop-low.low c.loop-low.high middle c.entry_at.result (c.loop-low.invariant.told kind level entries views)
          (view_next kind level c.args.self.now entries middle c.entry_at.result views c.entry_at.ensures.length (omega (arith, (c.loop-low.invariant.told kind level entries views).within)) c.entry_at.ensures.fits c.entry_at.ensures.spelled) less c.if-entry_at-key.false;
    }

pub returns-clause-split : goal.returns-clause-split
returns-clause-split c kind level entries views =
    narrowed c.args.key entries c.loop-low.low c.loop-low.high (omega (arith, c.loop-low.invariant.order, c.loop-low-test.false)) (c.loop-low.invariant.told kind level entries views)
