use Rattle.std.proofs.Common.{◌-◌, [], sym, subst, ◌∙◌, arith}
use Rattle.std.proofs.lemmas.Result.{err_from_is_err_and}
use Rattle.sea_ptree.specs.Tree.{Has, Holds, root_link}
use Rattle.sea_ptree.specs.Walking.{Walks}
use Rattle.sea_ptree.proofs.Steps.{root_blameless}
use Rattle.sea_ptree.proofs.Visits.{walks_root, walks_nowhere}
use Rattle.sea_ptree.proofs.Walks.{tree_pairs, no_pairs}
use Rattle.sea_ptree.proofs.walking.walk.Goals as goal
use Rattle.sea_ptree.proofs.walking.walk.Goals.{then-root-gt0+in_ok-walk_below, else-root-gt0}

pub returns-in_err-walk_below-clause-blameless : goal.returns-in_err-walk_below-clause-blameless
returns-in_err-walk_below-clause-blameless g c =
    let p = err_from_is_err_and c.from_residual.result c.from_residual.ensures.1 in
    rw (p.1, p.2) (root_blameless Has (λ es e has. has) c.args.kind (g.B.Blocks.held c.args.blocks.now) (g.B.Blocks.held c.walk_below.new.blocks) c.args.root (c.args.root.height - 1) c.root.result c.in_err-walk_below.field-0.0 (omega arith) c.root.ensures c.in_err-walk_below.ensures.fault)

pub returns-clause-pairs : goal.returns-clause-pairs
returns-clause-pairs g c told content places tree =
    let image = (g.B.Blocks.held c.args.blocks.now).image in
    elim c.if-root-gt0.branch [
      | then-root-gt0+in_ok-walk_below w ↦ w.run-is ∙ tree_pairs c.args.kind image c.args.root.height (c.args.root.height - 1) (root_link c.args.root) c.args.from c.args.limit c.new-run.result w.walk_below.new.run (omega (arith, w.if-root-gt0.true)) c.new-run.ensures
          (λ items holds. w.in_ok-walk_below.ensures.taken told items (subst (λ l. Holds c.args.kind image (c.args.root.height - 1) l items) (sym w.root.ensures) holds)) content places tree
      | else-root-gt0 w ↦ no_pairs c.args.kind image c.args.root.height (root_link c.args.root) c.args.from c.args.limit _ (omega (arith, w.if-root-gt0.false)) (w.run-is ∙ c.new-run.ensures) content places tree
    ]

pub returns-clause-walks : goal.returns-clause-walks
returns-clause-walks g c told =
    let image = (g.B.Blocks.held c.args.blocks.now).image in
    elim c.if-root-gt0.branch [
      | then-root-gt0+in_ok-walk_below w ↦ subst (Walks c.args.kind image c.args.from c.args.limit c.args.root.height (root_link c.args.root) []) (sym w.run-is)
          (walks_root c.args.kind image c.args.from c.args.limit c.args.root.height (c.args.root.height - 1) (root_link c.args.root) w.root.result [] c.new-run.result w.walk_below.new.run (omega (arith, w.if-root-gt0.true)) w.root.ensures c.new-run.ensures (w.in_ok-walk_below.ensures.walks told))
      | else-root-gt0 w ↦ walks_nowhere c.args.kind image c.args.from c.args.limit c.args.root.height (root_link c.args.root) [] _ (omega (arith, w.if-root-gt0.false)) (w.run-is ∙ c.new-run.ensures)
    ]
