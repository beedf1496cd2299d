use Rattle.std.proofs.Common.{◌≡◌, ◌-◌, ℕ, suc, List, [], length, refl, ap, subst, ◌∙◌, arith}
use Rattle.std.proofs.lemmas.Result.{err_from_is_err_and}
use Rattle.sea_base.specs.declared.space.SpaceFault.TheVariants.{NoMemory}
use Rattle.sea_ptree.specs.declared.fault.PFault.TheVariants.{Space}
use Rattle.sea_ptree.specs.declared.kind.Kind.{Kind}
use Rattle.sea_ptree.specs.Faults.{IsFaultBelow, IsFaultFrom}
use Rattle.sea_ptree.specs.Laying.{pairs_laid_over, RunFits}
use Rattle.sea_ptree.specs.Mending.{SettlesRoot}
use Rattle.sea_ptree.specs.Node.{Entry, IsRising}
use Rattle.sea_ptree.specs.Run.{Update}
use Rattle.sea_ptree.specs.Tree.{Has, root_link}
use Rattle.sea_ptree.proofs.Moves.{lays_none, lays_root}
use Rattle.sea_ptree.proofs.Reaching.{want_here}
use Rattle.sea_ptree.proofs.Roofs.{merged, merged_none}
use Rattle.sea_ptree.proofs.Steps.{root_blameless}
use Rattle.sea_ptree.proofs.merging.merge.Goals as goal

pub returns-then-root-eq0-clause-renewed : goal.returns-then-root-eq0-clause-renewed
returns-then-root-eq0-clause-renewed g c told =
    let laid = subst (λ (xs : List Entry). IsRising xs → c.in_ok-entries.entries.items ≡ pairs_laid_over c.items.result.now xs) c.new.ensures.items c.in_ok-entries.ensures.laid in
    merged_none c.args.kind (g.B.Blocks.held c.args.blocks.now).image c.args.place.0 c.args.root c.args.run.now c.in_ok-entries.entries.items c.in_ok-root.root c.done.result c.new-making.result c.settle_root.new.self c.if-root-eq0.true c.new-making.ensures.kind_is c.new-making.ensures.place_is c.new-making.ensures.nodes c.new-making.ensures.dead
    (laid refl ∙ ap (λ (r : List Update). pairs_laid_over r []) c.items.ensures.items) (subst RunFits c.items.ensures.items c.in_ok-entries.ensures.fits)
    (omega (arith, c.in_ok-entries.ensures.few, ap length c.new.ensures.items, ap length c.items.ensures.items, c.items.ensures.run.few))
    (subst (λ (xs : List Entry). SettlesRoot c.new-making.result c.settle_root.new.self 0 xs c.in_ok-root.root) c.deref.ensures.value c.in_ok-root.ensures.settled) c.in_ok-root.ensures.onward c.done.ensures

pub returns-in_err-entries-2-clause-blameless : goal.returns-in_err-entries-2-clause-blameless
returns-in_err-entries-2-clause-blameless g c =
    let p = err_from_is_err_and c.from_residual-in_err-entries-2.result c.from_residual-in_err-entries-2.ensures.1 in
    rw (p.1, p.2) (root_blameless Has (λ es e has. has) c.args.kind (g.B.Blocks.held c.args.blocks.now) (g.B.Blocks.held c.merge_below.new.blocks) c.args.root (c.args.root.height - 1) c.root-link.result c.in_err-entries-2.field-0.0 (omega (arith, c.if-root-eq0.false)) c.root-link.ensures
    (subst (λ (k : Kind). IsFaultBelow Has k (g.B.Blocks.held c.args.blocks.now) (g.B.Blocks.held c.merge_below.new.blocks) (c.args.root.height - 1) c.root-link.result c.in_err-entries-2.field-0.0) c.new-making.ensures.kind_is c.in_err-entries-2.ensures.fault))

pub returns-in_err-root-2-clause-fault : goal.returns-in_err-root-2-clause-fault
returns-in_err-root-2-clause-fault g c =
    let p = err_from_is_err_and c.from_residual-in_err-root-2.result c.from_residual-in_err-root-2.ensures.1 in
    let is : suc (c.args.root.height - 1) ≡ c.args.root.height = omega (arith, c.if-root-eq0.false) in
    rw (p.1, p.2) (subst (λ (h : ℕ). IsFaultFrom Has c.args.kind (g.B.Blocks.held c.args.blocks.now) (g.B.Blocks.held c.merge_below.new.blocks) h (root_link c.args.root) (Space NoMemory)) is
    (want_here Has c.args.kind (g.B.Blocks.held c.args.blocks.now) (g.B.Blocks.held c.merge_below.new.blocks) (c.args.root.height - 1) (root_link c.args.root) c.in_ok-entries-2.ensures.kept.1))

pub returns-clause-renewed : goal.returns-clause-renewed
returns-clause-renewed g c told =
    merged c.args.kind (g.B.Blocks.held c.args.blocks.now).image (c.args.root.height - 1) c.args.place.0 c.args.root c.root-link.result c.args.run.now c.in_ok-entries-2.entries.items c.in_ok-root-2.root c.done-2.result c.new-making.result c.merge_below.new.making c.settle_root-2.new.self
    (omega (arith, c.if-root-eq0.false)) (omega (arith, c.requires.height)) c.new-making.ensures.kind_is c.new-making.ensures.place_is c.new-making.ensures.nodes c.new-making.ensures.dead c.root-link.ensures
    (c.in_ok-entries-2.ensures.rebuilt told) c.in_ok-entries-2.ensures.fits c.in_ok-entries-2.ensures.few c.in_ok-entries-2.ensures.onward
    (subst (λ (xs : List Entry). SettlesRoot c.merge_below.new.making c.settle_root-2.new.self (c.args.root.height - 1) xs c.in_ok-root-2.root) c.deref-2.ensures.value c.in_ok-root-2.ensures.settled) c.in_ok-root-2.ensures.onward c.done-2.ensures

pub returns-then-root-eq0-clause-lays : goal.returns-then-root-eq0-clause-lays
returns-then-root-eq0-clause-lays g c told =
    let laid = subst (λ (xs : List Entry). IsRising xs → c.in_ok-entries.entries.items ≡ pairs_laid_over c.items.result.now xs) c.new.ensures.items c.in_ok-entries.ensures.laid in
    lays_none c.args.kind (g.B.Blocks.held c.args.blocks.now).image c.args.root c.args.place.0 c.args.run.now c.in_ok-entries.entries.items c.in_ok-root.root c.done.result c.new-making.result c.settle_root.new.self c.if-root-eq0.true c.new-making.ensures
    (laid refl ∙ ap (λ (r : List Update). pairs_laid_over r []) c.items.ensures.items)
    (subst (λ (xs : List Entry). SettlesRoot c.new-making.result c.settle_root.new.self 0 xs c.in_ok-root.root) c.deref.ensures.value c.in_ok-root.ensures.settled) c.done.ensures

pub returns-clause-lays : goal.returns-clause-lays
returns-clause-lays g c told =
    lays_root c.args.kind (g.B.Blocks.held c.args.blocks.now).image c.args.root c.root-link.result c.args.place.0 (c.args.root.height - 1) c.args.run.now c.in_ok-entries-2.entries.items c.in_ok-root-2.root c.done-2.result c.new-making.result c.merge_below.new.making c.settle_root-2.new.self
    (omega (arith, c.if-root-eq0.false)) refl c.root-link.ensures c.new-making.ensures (c.in_ok-entries-2.ensures.lays told)
    (subst (λ (xs : List Entry). SettlesRoot c.merge_below.new.making c.settle_root-2.new.self (c.args.root.height - 1) xs c.in_ok-root-2.root) c.deref-2.ensures.value c.in_ok-root-2.ensures.settled) c.done-2.ensures
