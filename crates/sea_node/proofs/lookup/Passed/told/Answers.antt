use Rattle.std.proofs.Common.{ℕ, List, Some, sym, ap, subst, ◌∙◌, arith}
use Rattle.sea_node.specs.Lookup.{EndsAt}
use Rattle.sea_node.proofs.Lookups.{finds_told}
use Rattle.sea_node.proofs.lookup.Passed.told.Goals as goal

pub returns-clause-tells : goal.returns-clause-tells
returns-clause-tells c = λ key es passes.
    record {
      size_is = omega (arith, passes.end_is);
      first_is = ap Some c.in_ok-share_key.ensures ∙ passes.first_is;
      last_is = subst (λ (k : List ℕ). EndsAt es (Some k)) (sym c.in_ok-share_key-2.ensures) passes.last_is;
      finds = rw (c.in_ok-share_found.ensures, c.in_ok-share_next.ensures) (finds_told c.args.block.now key es c.args.self.found c.args.self.next passes.finds);
    }
