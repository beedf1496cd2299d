use Rattle.std.proofs.Common.{rules, ◌≡◌, ℕ, Some, refl, sym, subst}
use Rattle.sea_tree.specs.Tree.{Bounds, IsInPlace, root_bounds}
use Rattle.sea_tree.proofs.Places.{IsBroken-other}
use Rattle.sea_tree.proofs.place.root_at.Goals as goal

pub returns-then-not-admits-clause-fault : goal.returns-then-not-admits-clause-fault
returns-then-not-admits-clause-fault g c =
    let view = (g.S.Space.seen c.get.new.self).view in
    let here : (g.S.Space.seen c.get.new.self).view c.args.root.0 ≡ Some c.in-Some.block = search rules in (
      refl,
      c.in_ok-block.ensures.known,
      (λ none. cc),
      λ level. IsBroken-other view level c.args.root.0 root_bounds c.in-Some.block c.in-Some-2.node.level c.in-Some-2.node.entries here (search rules) (λ same place.
          let told = c.admits.ensures.1 (subst (λ (b : Bounds). IsInPlace c.in-Some-2.node.level b c.in-Some-2.node.entries) (sym c.in_ok-root.ensures) (subst (λ (l : ℕ). IsInPlace l root_bounds c.in-Some-2.node.entries) (sym same) place)) in
          let not = c.if-not-admits.true in cc),
    )
