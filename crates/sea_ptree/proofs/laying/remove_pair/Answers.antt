use Rattle.std.proofs.Common.{◌<◌, List, length, drop, sym, subst, ◌∙◌, arith}
use Rattle.std.proofs.Math.ListN.{drop_of_length-le}
use Rattle.sea_ptree.specs.Laying.{IsPlaceOf}
use Rattle.sea_ptree.specs.Node.{Entry}
use Rattle.sea_ptree.proofs.Checks.{Next}
use Rattle.sea_ptree.proofs.Layings.{StartsAbove, removed_there, removed_none, start_other, start_end}
use Rattle.sea_ptree.proofs.Relocations.{next_there}
use Rattle.sea_ptree.proofs.laying.remove_pair.Goals as goal
use Rattle.sea_ptree.proofs.laying.remove_pair.Goals.{else-index-len-via-then-index-len+else-index-key, else-index-len-via-else-index-len}

pub returns-then-index-key-clause-removed : goal.returns-then-index-key-clause-removed
returns-then-index-key-clause-removed c rising =
    let place = subst (λ (xs : List Entry). IsPlaceOf c.args.key xs c.count_below-index.result) c.deref.ensures.value c.count_below-index.ensures in
    let lt : c.count_below-index.result < length c.args.pairs.now.items = omega (arith, c.if-index-len.true, c.len.ensures, c.args.pairs.now.ok.0) in
    let next = subst (Next c.args.pairs.now.items c.count_below-index.result) (sym c.index.ensures) (next_there c.args.pairs.now.items c.count_below-index.result c.index.result.now lt) in
    c.remove.ensures.items ∙ sym (removed_there c.args.key c.args.pairs.now.items c.count_below-index.result c.index.result.now rising place next.rest c.if-index-key.true)

pub returns-else-index-len-clause-removed : goal.returns-else-index-len-clause-removed
returns-else-index-len-clause-removed c rising =
    let place = subst (λ (xs : List Entry). IsPlaceOf c.args.key xs c.count_below-index.result) c.deref.ensures.value c.count_below-index.ensures in
    let above : StartsAbove c.args.key (drop c.count_below-index.result c.args.pairs.now.items) = elim c.else-index-len.branch [
      | else-index-len-via-then-index-len+else-index-key w ↦ (
          let lt : c.count_below-index.result < length c.args.pairs.now.items = omega (arith, w.if-index-len.true, c.len.ensures, c.args.pairs.now.ok.0) in
          let next = subst (Next c.args.pairs.now.items c.count_below-index.result) (sym w.index.ensures) (next_there c.args.pairs.now.items c.count_below-index.result w.index.result.now lt) in
          start_other c.args.key _ _ w.index.result.now place.next next.rest w.if-index-key.false
          )
      | else-index-len-via-else-index-len w ↦ start_end c.args.key _ (drop_of_length-le c.args.pairs.now.items (omega (arith, w.if-index-len.false, c.len.ensures, c.args.pairs.now.ok.0)))
    ] in
    removed_none c.args.key c.args.pairs.now.items c.count_below-index.result rising place above
