use Rattle.std.proofs.Common.{◌≡◌, ℕ, IsTrue, List, refl, sym, ap, ◌∙◌, subst}
use Rattle.std.specs.Prelude.{IfErr}
use Rattle.std.proofs.lemmas.Result.{err_from_is_err_and}
use Rattle.std.proofs.lemmas.Bool.{false≢true}
use Rattle.sea_engine.specs.Opens.{AreRising}
use Rattle.sea_engine.specs.Reading.{Shuts}
use Rattle.sea_engine.specs.Replay.{IsCause}
use Rattle.sea_trail.specs.Trail.{IsTrail}
use Rattle.sea_engine.proofs.Rising.{trail_rising}
use Rattle.sea_engine.proofs.Openings.{shut_by}
use Rattle.sea_engine.proofs.reading.objects_of.Goals as goal

pub returns-then-not-are_rising-clause-refused : goal.returns-then-not-are_rising-clause-refused
returns-then-not-are_rising-clause-refused g c = λ image is.
    let rising : AreRising 0 c.items-records.result.now = subst (AreRising 0) (sym c.items-records.ensures) (trail_rising image c.args.trail.now is) in
    absurd (false≢true (sym c.if-not-are_rising.true ∙ c.are_rising.ensures.1 rising))

pub returns-in_err-transactions-clause-refused : goal.returns-in_err-transactions-clause-refused
returns-in_err-transactions-clause-refused g c =
    let p = err_from_is_err_and c.from_residual.result c.from_residual.ensures.1 in
    let a = c.in_err-transactions.ensures.cause in
    let d = p.2 in
    let e = p.1 in
    let lays = g.T.Transactions.lays in
    let t = c.args.trail.now in
    let fault = c.in_err-transactions.field-0.0 in
    let cause : IsCause lays t.records fault = subst (λ rs. IsCause lays rs fault) c.items-records.ensures a in
    rw p.1 (λ image is. subst (Shuts lays image) (sym p.2) (shut_by lays image t fault is cause))
