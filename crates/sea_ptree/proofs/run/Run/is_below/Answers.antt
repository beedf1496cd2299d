use Rattle.std.proofs.Common.{◌≡◌, List, [], ◌∷◌, ◌++◌, IsTrue, sym, subst, ◌∙◌}
use Rattle.std.specs.Prelude.{◌↔◌, nat_lt}
use Rattle.sea_ptree.specs.Run.{Update, Rises}
use Rattle.sea_ptree.proofs.Walks.{rises_iff}
use Rattle.sea_ptree.proofs.run.Run.is_below.Goals as goal

pub returns-in-Some : goal.returns-in-Some
returns-in-Some c slot =
    let xs = c.deref.result.now in
    let is : xs ≡ c.args.self.now = c.deref.ensures.value ∙ c.self.view_is in
    let last = c.in-Some.ensures.item.3 in
    subst (λ (ys : List Update). IsTrue (nat_lt c.in-Some.last.now.0 c.args.key) ↔ Rises (ys ++ (c.args.key, slot) ∷ [])) is
    (rises_iff xs c.in-Some.last.now (c.args.key, slot) (subst Rises (sym c.deref.ensures.value) c.self.invariant.rising) last.0 last.1)
