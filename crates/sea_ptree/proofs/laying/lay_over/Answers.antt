use Rattle.std.proofs.Common.{◌≡◌, ◌+◌, ◌++◌, ◌∷◌, [], List, get_or, take, None, sym, ap, subst, ◌∙◌, arith}
use Rattle.std.proofs.lemmas.List.{take_more}
use Rattle.sea_ptree.specs.Laying.{pairs_laid_over, pairs_updated, RunFits}
use Rattle.sea_ptree.specs.Node.{Entry, IsRising}
use Rattle.sea_ptree.specs.Run.{Update}
use Rattle.sea_ptree.proofs.Layings.{laid_rising, laid_more, fits_more}
use Rattle.sea_ptree.proofs.laying.lay_over.Goals as goal

abbrev d : Update
d = (0, None)

pub loop-key-preserved : goal.loop-key-preserved
loop-key-preserved c =
    let more : take (c.loop-key.key-index + 1) c.args.run.now ≡ take c.loop-key.key-index c.args.run.now ++ get_or c.args.run.now c.loop-key.key-index d ∷ [] = take_more c.args.run.now c.loop-key.key-index d c.loop-key-test.true in
    record {
      laid = λ rising.
          let so_far = c.loop-key.invariant.laid rising in
          let u : Update = get_or c.args.run.now c.loop-key.key-index d in
          c.in_ok-update.ensures.updated (subst (λ (xs : List Entry). IsRising xs) (sym so_far) (laid_rising (take c.loop-key.key-index c.args.run.now) c.args.pairs.items rising))
          ∙ ap (pairs_updated (get_or c.args.run.now c.loop-key.key-index d).0 (get_or c.args.run.now c.loop-key.key-index d).1) so_far
          ∙ sym (ap (λ (r : List Update). pairs_laid_over r c.args.pairs.items) more ∙ laid_more (take c.loop-key.key-index c.args.run.now) (get_or c.args.run.now c.loop-key.key-index d) c.args.pairs.items);
      fits = subst RunFits (sym more) (fits_more (take c.loop-key.key-index c.args.run.now) (get_or c.args.run.now c.loop-key.key-index d) c.loop-key.invariant.fits c.update.ensures.fits);
      few = omega (arith, c.in_ok-update.ensures.few, c.loop-key.invariant.few);
    }
