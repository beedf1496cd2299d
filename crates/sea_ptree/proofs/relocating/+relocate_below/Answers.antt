use Rattle.std.proofs.Common.{◌+◌, ◌-◌, ◌<◌, ◌++◌, [], ◌∷◌, List, length, set, take, drop, sym, ap, subst, ◌∙◌, arith}
use Rattle.std.proofs.lemmas.List.{length-set}
use Rattle.std.proofs.lemmas.Result.{err_from_is_err_and}
use Rattle.sea_ptree.specs.declared.making.Making.{Making}
use Rattle.sea_ptree.specs.Making.{Wrote}
use Rattle.sea_ptree.specs.Merging.{Towards}
use Rattle.sea_ptree.specs.Moving.{MovesBelow}
use Rattle.sea_ptree.specs.Node.{Entry}
use Rattle.sea_ptree.specs.View.{Parts}
use Rattle.sea_ptree.specs.Rebuilding.{Rebuilds}
use Rattle.sea_ptree.specs.Tree.{Has}
use Rattle.sea_ptree.proofs.Checks.{Next}
use Rattle.sea_ptree.proofs.Guiding.{one_node}
use Rattle.sea_ptree.proofs.Moves.{moves_end, moves_up}
use Rattle.sea_ptree.proofs.Reaching.{fault_here, want_here}
use Rattle.sea_ptree.proofs.Relocations.{fault_up, next_there, step_up, taken_up, put_at}
use Rattle.sea_ptree.proofs.Walks.{next_has}
use Rattle.sea_ptree.proofs.relocating.+relocate_below.Goals as goal
use Rattle.sea_ptree.proofs.relocating.+relocate_below.Goals.{then-level-bottom+in_ok-below+in_ok-entries-2, else-level-bottom}

pub returns-in_err-entries-clause-fault : goal.returns-in_err-entries-clause-fault
returns-in_err-entries-clause-fault g t c =
    let p = err_from_is_err_and c.from_residual.result c.from_residual.ensures.1 in
    rw (p.1, p.2) (fault_here Has c.args.making.now.kind (g.B.Blocks.held c.args.blocks.now) (g.B.Blocks.held c.take.new.blocks) c.args.level c.args.link c.in_err-entries.field-0.0 c.in_err-entries.ensures.fault)

pub returns-in_err-below-clause-fault : goal.returns-in_err-below-clause-fault
returns-in_err-below-clause-fault g t c =
    let p = err_from_is_err_and c.from_residual-in_err-below.result c.from_residual-in_err-below.ensures.1 in
    let index = c.index_towards-index.result in
    let lt : index < length c.in_ok-entries.entries.items = omega (arith, c.index_towards-index.ensures.within, ap length c.deref.ensures.value) in
    let next = subst (Next c.in_ok-entries.entries.items index) (sym c.index.ensures) (next_there c.in_ok-entries.entries.items index c.index.result.now lt) in
    rw (p.1, p.2) (fault_up c.args.making.now.kind c.take.new.self.kind (g.B.Blocks.held c.args.blocks.now) (g.B.Blocks.held c.take.new.blocks) (g.B.Blocks.held c.relocate_below.new.blocks) c.args.level (c.args.level - 1) c.args.link c.of-child.result c.in_ok-entries.entries.items c.index.result.now c.in_err-below.field-0.0
    c.in_ok-entries.ensures.took.kind (omega (arith, c.if-level-bottom.true)) c.of-child.ensures c.in_ok-entries.ensures.kept c.in_ok-entries.ensures.node (next_has c.in_ok-entries.entries.items index c.index.result.now next) c.in_err-below.ensures.fault)

pub returns-in_err-entries-2-clause-fault : goal.returns-in_err-entries-2-clause-fault
returns-in_err-entries-2-clause-fault g t c =
    let p = err_from_is_err_and c.from_residual-in_err-entries-2.result c.from_residual-in_err-entries-2.ensures.1 in
    rw (p.1, p.2) (want_here Has c.args.making.now.kind (g.B.Blocks.held c.args.blocks.now) (g.B.Blocks.held c.relocate_below.new.blocks) c.args.level c.args.link (c.in_ok-below.ensures.kept.1 ∙ c.in_ok-entries.ensures.kept.1))

pub returns-clause-rebuilt : goal.returns-clause-rebuilt
returns-clause-rebuilt g t c told =
    let old = g.B.Blocks.held c.args.blocks.now in
    let es = c.in_ok-entries.entries.items in
    elim c.if-level-bottom.branch [
      | then-level-bottom+in_ok-below+in_ok-entries-2 w ↦ (
          let index = w.index_towards-index.result in
          let lt : index < length c.in_ok-entries.entries.items = omega (arith, w.index_towards-index.ensures.within, ap length w.deref.ensures.value) in
          let next = subst (Next c.in_ok-entries.entries.items w.index_towards-index.result) (sym w.index.ensures) (next_there c.in_ok-entries.entries.items w.index_towards-index.result w.index.result.now lt) in
          let told' = c.in_ok-entries.ensures.kept.0.tells ∙ told in
          let r = step_up (g.B.Blocks.held c.args.blocks.now) (g.B.Blocks.held c.take.new.blocks) c.args.level (c.args.level - 1) c.args.link w.of-child.result c.in_ok-entries.entries.items w.in_ok-below.below.items w.index_towards-index.result w.index.result.now w.in_ok-entries-2.field-0 c.args.making.now c.take.new.self w.relocate_below.new.making w.write.new.self
          (omega (arith, w.if-level-bottom.true)) c.in_ok-entries.ensures.kept w.of-child.ensures (c.in_ok-entries.ensures.node told) next c.in_ok-entries.ensures.took (w.in_ok-below.ensures.rebuilt told') (w.in_ok-below.ensures.same told') w.in_ok-below.ensures.onward (subst (λ (xs : List Entry). Wrote w.relocate_below.new.making w.write.new.self (c.args.level - 1) xs w.in_ok-entries-2.field-0) w.deref-then-level-bottom.ensures.value w.in_ok-entries-2.ensures) (omega (arith, c.requires.level)) in
          let is = put_at c.in_ok-entries.entries.items w.index_towards-index.result w.in_ok-entries-2.field-0 lt ∙ (λ i. (sym w.entries-is i).items) in
          subst (λ (xs : List Entry). Rebuilds c.args.making.now.kind (g.B.Blocks.held c.args.blocks.now).image c.args.level c.args.link c.args.making.now c.if-level-bottom.making (λ ps. ps) xs) is
          (subst (λ (m : Making). Rebuilds c.args.making.now.kind (g.B.Blocks.held c.args.blocks.now).image c.args.level c.args.link c.args.making.now m (λ ps. ps) (take w.index_towards-index.result c.in_ok-entries.entries.items ++ (w.in_ok-entries-2.field-0 ∷ [] ++ drop (w.index_towards-index.result + 1) c.in_ok-entries.entries.items))) (sym w.making-is) r)
          )
      | else-level-bottom w ↦
          subst (λ (xs : List Entry). Rebuilds c.args.making.now.kind (g.B.Blocks.held c.args.blocks.now).image c.args.level c.args.link c.args.making.now c.if-level-bottom.making (λ ps. ps) xs) (λ i. (sym w.entries-is i).items)
          (subst (λ (m : Making). Rebuilds c.args.making.now.kind (g.B.Blocks.held c.args.blocks.now).image c.args.level c.args.link c.args.making.now m (λ ps. ps) c.in_ok-entries.entries.items) (sym w.making-is)
          (taken_up c.args.making.now.kind (g.B.Blocks.held c.args.blocks.now).image c.args.level c.args.link c.in_ok-entries.entries.items c.args.making.now c.take.new.self (c.in_ok-entries.ensures.node told) c.in_ok-entries.ensures.took))
    ]

pub returns-clause-same : goal.returns-clause-same
returns-clause-same g t c told fs node =
    let same = ap length (one_node c.args.making.now.kind (g.B.Blocks.held c.args.blocks.now).image c.args.level c.args.link c.in_ok-entries.entries.items fs (c.in_ok-entries.ensures.node told) node) in
    elim c.if-level-bottom.branch [
      | then-level-bottom+in_ok-below+in_ok-entries-2 w ↦ (λ i. length (w.entries-is i).items) ∙ length-set c.in_ok-entries.entries.items w.index_towards-index.result w.in_ok-entries-2.field-0 ∙ same
      | else-level-bottom w ↦ (λ i. length (w.entries-is i).items) ∙ same
    ]

pub returns-clause-moves : goal.returns-clause-moves
returns-clause-moves g t c told =
    let image = (g.B.Blocks.held c.args.blocks.now).image in
    elim c.if-level-bottom.branch [
      | then-level-bottom+in_ok-below+in_ok-entries-2 w ↦ (
          let lt : w.index_towards-index.result < length c.in_ok-entries.entries.items = omega (arith, w.index_towards-index.ensures.within, ap length w.deref.ensures.value) in
          let next = subst (Next c.in_ok-entries.entries.items w.index_towards-index.result) (sym w.index.ensures) (next_there c.in_ok-entries.entries.items w.index_towards-index.result w.index.result.now lt) in
          let at = w.index_towards-index.ensures.parts in
          let toward : Towards c.args.key c.in_ok-entries.entries.items w.index_towards-index.result = record {
            count = at.0;
            index_is = at.1;
            parts = subst (λ (xs : List Entry). Parts c.args.key xs at.0) w.deref.ensures.value at.2;
          } in
          let m = moves_up (g.B.Blocks.held c.args.blocks.now) (g.B.Blocks.held c.take.new.blocks) c.args.key c.args.bottom c.args.level (c.args.level - 1) c.args.link w.of-child.result c.in_ok-entries.entries.items w.in_ok-below.below.items w.index_towards-index.result w.index.result.now w.in_ok-entries-2.field-0 c.args.making.now c.take.new.self w.relocate_below.new.making w.write.new.self
          (omega (arith, w.if-level-bottom.true)) w.if-level-bottom.true c.in_ok-entries.ensures.kept w.of-child.ensures (c.in_ok-entries.ensures.node told) next toward c.in_ok-entries.ensures.took (w.in_ok-below.ensures.moves (c.in_ok-entries.ensures.kept.0.tells ∙ told))
          (subst (λ (xs : List Entry). Wrote w.relocate_below.new.making w.write.new.self (c.args.level - 1) xs w.in_ok-entries-2.field-0) w.deref-then-level-bottom.ensures.value w.in_ok-entries-2.ensures) in
          subst (λ (xs : List Entry). MovesBelow c.args.making.now.kind image c.args.key c.args.bottom c.args.level c.args.link c.args.making.now c.if-level-bottom.making xs) (λ i. (sym w.entries-is i).items)
          (subst (λ (n : Making). MovesBelow c.args.making.now.kind image c.args.key c.args.bottom c.args.level c.args.link c.args.making.now n (set c.in_ok-entries.entries.items w.index_towards-index.result w.in_ok-entries-2.field-0)) (sym w.making-is) m)
          )
      | else-level-bottom w ↦
          subst (λ (xs : List Entry). MovesBelow c.args.making.now.kind image c.args.key c.args.bottom c.args.level c.args.link c.args.making.now c.if-level-bottom.making xs) (λ i. (sym w.entries-is i).items)
          (subst (λ (n : Making). MovesBelow c.args.making.now.kind image c.args.key c.args.bottom c.args.level c.args.link c.args.making.now n c.in_ok-entries.entries.items) (sym w.making-is)
          (moves_end c.args.making.now.kind image c.args.key c.args.bottom c.args.level c.args.link c.args.making.now c.take.new.self c.in_ok-entries.entries.items w.if-level-bottom.false (c.in_ok-entries.ensures.node told) c.in_ok-entries.ensures.took))
    ]
