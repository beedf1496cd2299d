use Rattle.std.proofs.Common.{rules, ◌≡◌, ℕ, Some, refl, sym, subst}
use Rattle.sea_tree.specs.Tree.{IsInPlace}
use Rattle.sea_tree.specs.Place.{meant}
use Rattle.sea_tree.proofs.Places.{IsBroken-other}
use Rattle.sea_tree.proofs.lookup.look_at.Goals as goal
use Rattle.sea_tree.proofs.lookup.look_at.Goals.{then-lookup-level-via-then-lookup-level, then-lookup-level-via-else-lookup-level+then-not-admits}

pub returns-then-lookup-level-clause-fault : goal.returns-then-lookup-level-clause-fault
returns-then-lookup-level-clause-fault g c =
    let here : (g.S.Space.seen c.get.new.self).view c.args.at.0 ≡ Some c.in-Some.block = search rules in
    let told = rw c.in-Some-2.is at c.in_ok-lookup.ensures.some in (
      refl,
      c.in_ok-block.ensures.known,
      IsBroken-other (g.S.Space.seen c.get.new.self).view c.args.level c.args.at.0 (meant c.args.bounds.now) c.in-Some.block c.in-Some-2.lookup.level told.0 here told.1 (λ same place.
          elim c.then-lookup-level.branch [
            | then-lookup-level-via-then-lookup-level w ↦ absurd (w.if-lookup-level.true same)
            | then-lookup-level-via-else-lookup-level+then-not-admits w ↦ absurd (let yes = (w.admits.ensures c.args.key.now told.0 told.1.node told.2).1 (subst (λ (l : ℕ). IsInPlace l (meant c.args.bounds.now) told.0) (sym same) place) in let not = w.if-not-admits.true in cc)
          ]),
    )
