use Rattle.std.proofs.Common.{◌-◌, ◌<◌, ℕ, List, length, sym, ap, subst, ◌∙◌, arith}
use Rattle.std.proofs.lemmas.Result.{err_from_is_err_and, IfOk-weaker, IfErr-weaker}
use Rattle.sea_ptree.specs.Faults.{IsFaultBelow}
use Rattle.sea_ptree.specs.Laying.{pairs_laid_over, RunFits}
use Rattle.sea_ptree.specs.Mending.{IsSettled, IsFaultNear}
use Rattle.sea_ptree.specs.Merging.{MergesBelow, LaysBelow, Towards, first_key}
use Rattle.sea_ptree.specs.Node.{Entry}
use Rattle.sea_ptree.specs.Run.{Update}
use Rattle.sea_ptree.specs.Tree.{Has}
use Rattle.sea_ptree.specs.View.{Parts}
use Rattle.sea_ptree.proofs.Checks.{Next}
use Rattle.sea_ptree.proofs.Merges.{step_up, leaf_up, fault_near}
use Rattle.sea_ptree.proofs.Moves.{lays_leaf, lays_up}
use Rattle.sea_ptree.proofs.Reaching.{fault_here, want_here, keeps_on}
use Rattle.sea_ptree.proofs.Relocations.{fault_up, next_there}
use Rattle.sea_ptree.proofs.Walks.{next_has}
use Rattle.sea_ptree.proofs.merging.+merge_below.Goals as goal

pub returns-in_err-entries-clause-fault : goal.returns-in_err-entries-clause-fault
returns-in_err-entries-clause-fault g t c =
    let p = err_from_is_err_and c.from_residual.result c.from_residual.ensures.1 in
    rw (p.1, p.2) (fault_here Has c.args.making.now.kind (g.B.Blocks.held c.args.blocks.now) (g.B.Blocks.held c.take.new.blocks) c.args.level c.args.link c.in_err-entries.field-0.0 c.in_err-entries.ensures.fault)

pub returns-in_err-lay_over-clause-fault : goal.returns-in_err-lay_over-clause-fault
returns-in_err-lay_over-clause-fault g t c =
    let p = err_from_is_err_and c.from_residual-in_err-lay_over.result c.from_residual-in_err-lay_over.ensures.1 in
    rw (p.1, p.2) (want_here Has c.args.making.now.kind (g.B.Blocks.held c.args.blocks.now) (g.B.Blocks.held c.take.new.blocks) c.args.level c.args.link c.in_ok-entries.ensures.kept.1)

pub returns-then-level-eq0-clause-rebuilt : goal.returns-then-level-eq0-clause-rebuilt
returns-then-level-eq0-clause-rebuilt g t c told =
    leaf_up (g.B.Blocks.held c.args.blocks.now) c.args.level c.args.link c.args.run.now c.in_ok-entries.entries.items c.in_ok-lay_over.field-0.items c.args.making.now c.take.new.self c.if-level-eq0.true (c.in_ok-entries.ensures.node told) c.in_ok-entries.ensures.took
    (λ rising. c.in_ok-lay_over.ensures.laid rising ∙ ap (λ (r : List Update). pairs_laid_over r c.in_ok-entries.entries.items) c.items.ensures.items) (subst RunFits c.items.ensures.items c.in_ok-lay_over.ensures.fits)

pub returns-then-level-eq0-clause-lays : goal.returns-then-level-eq0-clause-lays
returns-then-level-eq0-clause-lays g t c told =
    lays_leaf (g.B.Blocks.held c.args.blocks.now) c.args.level c.args.link c.args.run.now c.in_ok-entries.entries.items c.in_ok-lay_over.field-0.items c.args.making.now c.take.new.self c.if-level-eq0.true (c.in_ok-entries.ensures.node told) c.in_ok-entries.ensures.took
    (λ rising. c.in_ok-lay_over.ensures.laid rising ∙ ap (λ (r : List Update). pairs_laid_over r c.in_ok-entries.entries.items) c.items.ensures.items)

pub returns-in_err-below-clause-fault : goal.returns-in_err-below-clause-fault
returns-in_err-below-clause-fault g t c =
    let p = err_from_is_err_and c.from_residual-in_err-below.result c.from_residual-in_err-below.ensures.1 in
    let index = c.index_towards-index.result in
    let lt : c.index_towards-index.result < length c.in_ok-entries.entries.items = omega (arith, c.index_towards-index.ensures.within, ap length c.deref.ensures.value) in
    let next = subst (Next c.in_ok-entries.entries.items c.index_towards-index.result) (sym c.index.ensures) (next_there c.in_ok-entries.entries.items c.index_towards-index.result c.index.result.now lt) in
    rw (p.1, p.2) (fault_up c.args.making.now.kind c.take.new.self.kind (g.B.Blocks.held c.args.blocks.now) (g.B.Blocks.held c.take.new.blocks) (g.B.Blocks.held c.merge_below.new.blocks) c.args.level (c.args.level - 1) c.args.link c.of-child.result c.in_ok-entries.entries.items c.index.result.now c.in_err-below.field-0.0
    c.in_ok-entries.ensures.took.kind (omega (arith, c.if-level-eq0.false)) c.of-child.ensures c.in_ok-entries.ensures.kept c.in_ok-entries.ensures.node (next_has c.in_ok-entries.entries.items c.index_towards-index.result c.index.result.now next) c.in_err-below.ensures.fault)

pub returns-clause-rebuilt : goal.returns-clause-rebuilt
returns-clause-rebuilt g t c told =
    let lt : c.index_towards-index.result < length c.in_ok-entries.entries.items = omega (arith, c.index_towards-index.ensures.within, ap length c.deref.ensures.value) in
    let next = subst (Next c.in_ok-entries.entries.items c.index_towards-index.result) (sym c.index.ensures) (next_there c.in_ok-entries.entries.items c.index_towards-index.result c.index.result.now lt) in
    let told' = c.in_ok-entries.ensures.kept.0.tells ∙ told in
    let told'' = c.in_ok-below.ensures.kept.0.tells ∙ told' in
    let at = c.index_towards-index.ensures.parts in
    let toward : Towards (first_key c.args.run.now) c.in_ok-entries.entries.items c.index_towards-index.result = record {
      count = at.0;
      index_is = at.1;
      parts = subst (λ (k : ℕ). Parts k c.in_ok-entries.entries.items at.0) c.key_of.ensures (subst (λ (xs : List Entry). Parts c.key_of.result xs at.0) c.deref.ensures.value at.2);
    } in
    IfOk-weaker c.settle.result
    (λ made. IsSettled c.merge_below.new.making.kind (g.B.Blocks.held c.merge_below.new.blocks).image (c.args.level - 1) c.deref-2.result.now c.index_towards-index.result c.in_ok-below.below.items c.merge_below.new.making c.settle.new.self made.items)
    (λ made. MergesBelow c.args.making.now.kind (g.B.Blocks.held c.args.blocks.now).image c.args.level c.args.link c.args.run.now c.args.making.now c.settle.new.self made.items)
    (λ made settled. step_up (g.B.Blocks.held c.args.blocks.now) (g.B.Blocks.held c.take.new.blocks) (g.B.Blocks.held c.merge_below.new.blocks) c.args.level (c.args.level - 1) c.args.link c.of-child.result c.args.run.now c.in_ok-entries.entries.items c.in_ok-below.below.items made.items c.index_towards-index.result c.index.result.now
    c.args.making.now c.take.new.self c.merge_below.new.making c.settle.new.self (omega (arith, c.if-level-eq0.false)) c.in_ok-entries.ensures.kept c.in_ok-below.ensures.kept c.of-child.ensures (c.in_ok-entries.ensures.node told) next toward c.in_ok-entries.ensures.took (c.in_ok-below.ensures.rebuilt told') c.in_ok-below.ensures.onward c.in_ok-below.ensures.fits
    (subst (λ (xs : List Entry). IsSettled c.merge_below.new.making.kind (g.B.Blocks.held c.merge_below.new.blocks).image (c.args.level - 1) xs c.index_towards-index.result c.in_ok-below.below.items c.merge_below.new.making c.settle.new.self made.items) c.deref-2.ensures.value settled) c.requires.level)
    (c.settle.ensures.settled told'')

pub returns-clause-lays : goal.returns-clause-lays
returns-clause-lays g t c told =
    let lt : c.index_towards-index.result < length c.in_ok-entries.entries.items = omega (arith, c.index_towards-index.ensures.within, ap length c.deref.ensures.value) in
    let next = subst (Next c.in_ok-entries.entries.items c.index_towards-index.result) (sym c.index.ensures) (next_there c.in_ok-entries.entries.items c.index_towards-index.result c.index.result.now lt) in
    let told' = c.in_ok-entries.ensures.kept.0.tells ∙ told in
    let told'' = c.in_ok-below.ensures.kept.0.tells ∙ told' in
    let at = c.index_towards-index.ensures.parts in
    let toward : Towards (first_key c.args.run.now) c.in_ok-entries.entries.items c.index_towards-index.result = record {
      count = at.0;
      index_is = at.1;
      parts = subst (λ (k : ℕ). Parts k c.in_ok-entries.entries.items at.0) c.key_of.ensures (subst (λ (xs : List Entry). Parts c.key_of.result xs at.0) c.deref.ensures.value at.2);
    } in
    IfOk-weaker c.settle.result
    (λ made. IsSettled c.merge_below.new.making.kind (g.B.Blocks.held c.merge_below.new.blocks).image (c.args.level - 1) c.deref-2.result.now c.index_towards-index.result c.in_ok-below.below.items c.merge_below.new.making c.settle.new.self made.items)
    (λ made. LaysBelow c.args.making.now.kind (g.B.Blocks.held c.args.blocks.now).image c.args.run.now c.args.level c.args.link c.args.making.now c.settle.new.self made.items)
    (λ made settled. lays_up (g.B.Blocks.held c.args.blocks.now) (g.B.Blocks.held c.take.new.blocks) (g.B.Blocks.held c.merge_below.new.blocks) c.args.level (c.args.level - 1) c.args.link c.of-child.result c.args.run.now c.in_ok-entries.entries.items c.in_ok-below.below.items made.items c.index_towards-index.result c.index.result.now
    c.args.making.now c.take.new.self c.merge_below.new.making c.settle.new.self (omega (arith, c.if-level-eq0.false)) c.in_ok-entries.ensures.kept c.in_ok-below.ensures.kept c.of-child.ensures (c.in_ok-entries.ensures.node told) next toward c.in_ok-entries.ensures.took (c.in_ok-below.ensures.lays told') c.in_ok-below.ensures.onward.kind
    (subst (λ (xs : List Entry). IsSettled c.merge_below.new.making.kind (g.B.Blocks.held c.merge_below.new.blocks).image (c.args.level - 1) xs c.index_towards-index.result c.in_ok-below.below.items c.merge_below.new.making c.settle.new.self made.items) c.deref-2.ensures.value settled))
    (c.settle.ensures.settled told'')

pub returns-clause-fault : goal.returns-clause-fault
returns-clause-fault g t c =
    IfErr-weaker c.settle.result
    (λ fault. IsFaultNear c.merge_below.new.making.kind (g.B.Blocks.held c.merge_below.new.blocks) (g.B.Blocks.held c.settle.new.blocks) (c.args.level - 1) c.deref-2.result.now fault)
    (λ fault. IsFaultBelow Has c.args.making.now.kind (g.B.Blocks.held c.args.blocks.now) (g.B.Blocks.held c.settle.new.blocks) c.args.level c.args.link fault)
    (λ fault near. fault_near c.args.making.now.kind c.merge_below.new.making.kind (g.B.Blocks.held c.args.blocks.now) (g.B.Blocks.held c.merge_below.new.blocks) (g.B.Blocks.held c.settle.new.blocks) c.args.level (c.args.level - 1) c.args.link c.in_ok-entries.entries.items fault
    (c.in_ok-below.ensures.onward.kind ∙ c.in_ok-entries.ensures.took.kind) (omega (arith, c.if-level-eq0.false)) (keeps_on (g.B.Blocks.held c.args.blocks.now) (g.B.Blocks.held c.take.new.blocks) (g.B.Blocks.held c.merge_below.new.blocks) c.in_ok-entries.ensures.kept.0 c.in_ok-below.ensures.kept.0, c.in_ok-below.ensures.kept.1 ∙ c.in_ok-entries.ensures.kept.1) c.in_ok-entries.ensures.node
    (subst (λ (xs : List Entry). IsFaultNear c.merge_below.new.making.kind (g.B.Blocks.held c.merge_below.new.blocks) (g.B.Blocks.held c.settle.new.blocks) (c.args.level - 1) xs fault) c.deref-2.ensures.value near))
    c.settle.ensures.fault
