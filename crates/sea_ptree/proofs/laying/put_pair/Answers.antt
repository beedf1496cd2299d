use Rattle.std.proofs.Common.{◌<◌, List, length, drop, refl, sym, subst, ◌∙◌, arith}
use Rattle.std.proofs.Math.ListN.{drop_of_length-le}
use Rattle.sea_ptree.specs.Laying.{IsPlaceOf}
use Rattle.sea_ptree.specs.Node.{Entry}
use Rattle.sea_ptree.proofs.Checks.{Next}
use Rattle.sea_ptree.proofs.Layings.{StartsAbove, put_there, put_new, start_other, start_end}
use Rattle.sea_ptree.proofs.Relocations.{next_there, put_at}
use Rattle.sea_ptree.proofs.laying.put_pair.Goals as goal
use Rattle.sea_ptree.proofs.laying.put_pair.Goals.{else-index-len-via-then-index-len+else-index-key, else-index-len-via-else-index-len}

pub returns-then-index-key-clause-put : goal.returns-then-index-key-clause-put
returns-then-index-key-clause-put c =
    let place = subst (λ (xs : List Entry). IsPlaceOf c.args.key xs c.count_below-index.result) c.deref.ensures.value c.count_below-index.ensures in
    let lt : c.count_below-index.result < length c.args.pairs.now.items = omega (arith, c.if-index-len.true, c.len.ensures, c.args.pairs.now.ok.0) in
    let next = subst (Next c.args.pairs.now.items c.count_below-index.result) (sym c.index.ensures) (next_there c.args.pairs.now.items c.count_below-index.result c.index.result.now lt) in
    sym (put_there c.args.key c.args.slot c.args.pairs.now.items c.count_below-index.result c.index.result.now place next.rest c.if-index-key.true ∙ put_at c.args.pairs.now.items c.count_below-index.result (c.args.key, c.args.slot) lt)

pub returns-in_ok-insert-clause-put : goal.returns-in_ok-insert-clause-put
returns-in_ok-insert-clause-put c =
    let place = subst (λ (xs : List Entry). IsPlaceOf c.args.key xs c.count_below-index.result) c.deref.ensures.value c.count_below-index.ensures in
    let above : StartsAbove c.args.key (drop c.count_below-index.result c.args.pairs.now.items) = elim c.else-index-len.branch [
      | else-index-len-via-then-index-len+else-index-key w ↦ (
          let lt : c.count_below-index.result < length c.args.pairs.now.items = omega (arith, w.if-index-len.true, c.len.ensures, c.args.pairs.now.ok.0) in
          let next = subst (Next c.args.pairs.now.items c.count_below-index.result) (sym w.index.ensures) (next_there c.args.pairs.now.items c.count_below-index.result w.index.result.now lt) in
          start_other c.args.key _ _ w.index.result.now place.next next.rest w.if-index-key.false
          )
      | else-index-len-via-else-index-len w ↦ start_end c.args.key _ (drop_of_length-le c.args.pairs.now.items (omega (arith, w.if-index-len.false, c.len.ensures, c.args.pairs.now.ok.0)))
    ] in
    c.in_ok-insert.ensures.items ∙ sym (put_new c.args.key c.args.slot c.args.pairs.now.items (drop c.count_below-index.result c.args.pairs.now.items) c.count_below-index.result place refl above)
