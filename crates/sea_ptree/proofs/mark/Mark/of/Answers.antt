use Rattle.std.proofs.Common.{ℕ, List, get_or, ap, arith}
use Rattle.sea_ptree.proofs.Fronts.{spelled_level}
use Rattle.sea_ptree.proofs.Marks.{no_node}
use Rattle.sea_ptree.proofs.mark.Mark.of.Goals as goal

pub returns-then-level-gt7 : goal.returns-then-level-gt7
returns-then-level-gt7 c kind level entries spells =
    omega (arith, spells.node.level_fits, c.if-level-gt7.true, c.from-level.ensures, ap (λ (b : List ℕ). get_or b 4 0) c.bytes.ensures.bytes, spelled_level kind level c.args.block.now entries spells)

pub returns-in_err-count : goal.returns-in_err-count
returns-in_err-count c =
    rw c.from_residual.ensures (no_node c.args.block.now c.from-level.result (omega (arith, c.from-level.ensures, ap (λ (b : List ℕ). get_or b 4 0) c.bytes.ensures.bytes)) c.in_default.ensures.none c.in_err-count.ensures.none)
