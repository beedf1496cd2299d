use Rattle.std.proofs.Common.{ℕ, sym, subst, ◌∙◌}
use denote.Enum.Bare.{differs_true, differs_false}
use Rattle.sea_ptree.specs.contracts.kind.Kind.{the_type}
use Rattle.sea_ptree.specs.declared.kind.Kind.{Kind}
use Rattle.sea_ptree.specs.Mark.{Marks}
use Rattle.sea_ptree.specs.Node.{Spells}
use Rattle.sea_ptree.specs.Reading.{AreRead}
use Rattle.sea_ptree.proofs.Fronts.{spelled_read}
use Rattle.sea_ptree.proofs.Marks.{one_kind}
use Rattle.sea_ptree.proofs.node.Node.parse.Goals as goal

pub returns-then-ne-clause-none : goal.returns-then-ne-clause-none
returns-then-ne-clause-none c level entries spells =
    let mark = c.in-Some.mark in
    let is : Marks c.args.block.now mark = c.in-Some.ensures in
    differs_true the_type mark.kind c.args.kind (sym c.if-ne.ensures) (one_kind c.args.block.now mark.kind c.args.kind mark.level level is.entries entries is.spells spells)

pub returns-clause-some : goal.returns-clause-some
returns-clause-some c =
    let mark = c.in-Some.mark in
    let is : Marks c.args.block.now mark = c.in-Some.ensures in
    let spells : Spells c.args.kind c.args.block.now mark.level is.entries = subst (λ (k : Kind). Spells k c.args.block.now mark.level is.entries) (differs_false the_type tt mark.kind c.args.kind (sym c.if-ne.ensures)) is.spells in
    let read = subst (λ (n : ℕ). AreRead c.args.block.now n is.entries) is.count (spelled_read c.args.kind mark.level c.args.block.now is.entries spells) in
    subst (Spells c.args.kind c.args.block.now mark.level) (sym (c.from_vec.ensures ∙ c.in_ok-entries.ensures is.entries read)) spells
