use Rattle.std.proofs.Common.{length, sym, ap, ◌∙◌, arith, below_more}
use Rattle.std.proofs.lemmas.Bool.{eqb-true, eqb-false}
use Rattle.sea_trail.proofs.Places.{found_place, no_place}
use Rattle.sea_trail_trial.proofs.plain.joining.before_place.Goals as goal

pub returns-then-eq : goal.returns-then-eq
returns-then-eq c = λ placed.
    let same = c.items-entry-items.ensures in
    let e = eqb-true c.entry-item.result.place.0 c.args.place.0 (sym c.if-eq.ensures) in (
      omega (arith, ap length same),
      sym e ∙ found_place c.args.part.now c.items-entry-items.result.now c.loop-i.i c.entry-item.result same c.entry-item.is c.loop-i-test.true placed,
    )

pub loop-i-preserved : goal.loop-i-preserved
loop-i-preserved c = λ placed.
    below_more _ _ (c.loop-i.invariant placed) (λ at.
    eqb-false c.entry-item.result.place.0 c.args.place.0 (sym c.if-eq.ensures)
    (found_place c.args.part.now c.items-entry-items.result.now c.loop-i.i c.entry-item.result c.items-entry-items.ensures c.entry-item.is c.loop-i-test.true placed ∙ sym at))

pub returns : goal.returns
returns c = λ placed.
    no_place c.args.part.now c.args.place.0 placed
    (λ k lt. c.loop-i.invariant placed k (omega (arith, ap length c.items-entry-items.ensures)))
    (eqb-false c.args.place.0 c.args.part.now.end.0 (sym c.if-eq-2.ensures))
