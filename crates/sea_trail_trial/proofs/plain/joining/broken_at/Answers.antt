use Rattle.std.proofs.Common.{refl, subst}
use Rattle.std.proofs.lemmas.Bool.{false≢true}
use Rattle.std.proofs.lemmas.List.{take_all}
use Rattle.sea_trail.specs.Trail.{AreLinked}
use Rattle.sea_trail.proofs.Joined.{breaks_here, linked_first, links_on}
use Rattle.sea_trail_trial.proofs.plain.joining.broken_at.Goals as goal

pub returns-then-not-follows : goal.returns-then-not-follows
returns-then-not-follows c =
    breaks_here c.args.parts.now c.loop-i.i c.index-parts-i.result c.index-parts-i-in-loop-i.result c.index-parts-i-then-not-follows.result c.loop-i.auto.i c.loop-i-test.true c.index-parts-i.is c.index-parts-i-in-loop-i.is c.loop-i.invariant
    (λ follows. false≢true (c.if-not-follows.ensures.1 follows))

pub loop-i-preserved : goal.loop-i-preserved
loop-i-preserved c =
    links_on c.args.parts.now c.loop-i.i c.index-parts-i.result c.index-parts-i-in-loop-i.result c.loop-i.auto.i c.loop-i-test.true c.index-parts-i.is c.index-parts-i-in-loop-i.is c.loop-i.invariant (c.if-not-follows.ensures.0 refl)

pub loop-i-init : goal.loop-i-init
loop-i-init c = linked_first c.args.parts.now

pub returns : goal.returns
returns c = subst AreLinked (take_all c.loop-i.i c.args.parts.now c.loop-i-test.false) c.loop-i.invariant
