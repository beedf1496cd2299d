use Rattle.std.proofs.Common.{ℕ, List, sym, subst}
use denote.Enum.Bare.{differs_true}
use Rattle.sea_ptree.specs.contracts.kind.Kind.{the_type}
use Rattle.sea_ptree.specs.Mark.{Marks, IsMarkOf}
use Rattle.sea_ptree.proofs.Marks.{one_kind, one_level}
use Rattle.sea_ptree.proofs.checked.Checked.into_view.Goals as goal
use Rattle.sea_ptree.proofs.checked.Checked.into_view.Goals.{then-ne-via-then-ne, then-ne-via-else-ne+then-mark-level}

pub returns-then-ne-clause-none : goal.returns-then-ne-clause-none
returns-then-ne-clause-none c entries spells =
    let mark = c.in_ok-mark.mark in
    let is : Marks c.args.self mark = subst (IsMarkOf c.args.self) c.in_ok-mark.was (subst (λ (b : List ℕ). IsMarkOf b c.self.inside.mark) c.self.view_is c.self.invariant) in
    elim c.then-ne.branch [
      | then-ne-via-then-ne w ↦ differs_true the_type mark.kind c.args.kind (sym w.if-ne.ensures) (one_kind c.args.self mark.kind c.args.kind mark.level c.args.level is.entries entries is.spells spells)
      | then-ne-via-else-ne+then-mark-level w ↦ w.if-mark-level.true (one_level c.args.self mark.kind c.args.kind mark.level c.args.level is.entries entries is.spells spells)
    ]
