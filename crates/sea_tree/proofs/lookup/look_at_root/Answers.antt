use Rattle.std.proofs.Common.{rules, ◌≡◌, ℕ, Some, refl, sym, subst}
use Rattle.sea_tree.specs.Tree.{IsInPlace, root_bounds}
use Rattle.sea_tree.proofs.Places.{IsBroken-other}
use Rattle.sea_tree.proofs.lookup.look_at_root.Goals as goal

pub returns-then-not-is_root-clause-fault : goal.returns-then-not-is_root-clause-fault
returns-then-not-is_root-clause-fault g c =
    let view = (g.S.Space.seen c.get.new.self).view in
    let here : (g.S.Space.seen c.get.new.self).view c.args.root.0 ≡ Some c.in-Some.block = search rules in
    let told = rw c.in-Some-2.is at c.in_ok-lookup.ensures.some in (
      refl,
      c.in_ok-block.ensures.known,
      (λ none. cc),
      λ level. IsBroken-other view level c.args.root.0 root_bounds c.in-Some.block c.in-Some-2.lookup.level told.0 here told.1 (λ same place.
          let yes = (c.is_root.ensures c.args.key.now told.0 told.1.node told.2).1 (subst (λ (l : ℕ). IsInPlace l root_bounds told.0) (sym same) place) in
          let not = c.if-not-is_root.true in cc),
    )
