use Rattle.std.proofs.Common.{rules, ◌≡◌, ℕ, Some, refl, sym, subst}
use Rattle.sea_tree.specs.Tree.{IsInPlace}
use Rattle.sea_tree.specs.Place.{meant}
use Rattle.sea_tree.proofs.Places.{IsBroken-other}
use Rattle.sea_tree.proofs.place.node_at.Goals as goal
use Rattle.sea_tree.proofs.place.node_at.Goals.{then-node-level-via-then-node-level, then-node-level-via-else-node-level+then-not-admits}

pub returns-then-node-level-clause-fault : goal.returns-then-node-level-clause-fault
returns-then-node-level-clause-fault g c =
    let here : (g.S.Space.seen c.get.new.self).view c.args.at.0 ≡ Some c.in-Some.block = search rules in (
      refl,
      c.in_ok-block.ensures.known,
      IsBroken-other (g.S.Space.seen c.get.new.self).view c.args.level c.args.at.0 (meant c.args.bounds.now) c.in-Some.block c.in-Some-2.node.level c.in-Some-2.node.entries here (search rules) (λ same place.
          elim c.then-node-level.branch [
            | then-node-level-via-then-node-level w ↦ absurd (w.if-node-level.true same)
            | then-node-level-via-else-node-level+then-not-admits w ↦ absurd (let told = w.admits.ensures.1 (subst (λ (l : ℕ). IsInPlace l (meant c.args.bounds.now) c.in-Some-2.node.entries) (sym same) place) in let not = w.if-not-admits.true in cc)
          ]),
    )
