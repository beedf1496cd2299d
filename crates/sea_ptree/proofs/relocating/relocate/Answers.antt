use Rattle.std.proofs.Common.{◌≡◌, ◌-◌, ℕ, suc, List, subst, arith}
use Rattle.std.proofs.lemmas.Result.{err_from_is_err_and}
use Rattle.sea_base.specs.declared.space.SpaceFault.TheVariants.{NoMemory}
use Rattle.sea_ptree.specs.declared.fault.PFault.TheVariants.{Space}
use Rattle.sea_ptree.specs.declared.kind.Kind.{Kind}
use Rattle.sea_ptree.specs.Faults.{IsFaultBelow, IsFaultFrom}
use Rattle.sea_ptree.specs.Making.{Wrote}
use Rattle.sea_ptree.specs.Node.{Entry}
use Rattle.sea_ptree.specs.Tree.{Has, root_link}
use Rattle.sea_ptree.proofs.Relocations.{relocated}
use Rattle.sea_ptree.proofs.Moves.{moves_root}
use Rattle.sea_ptree.proofs.Reaching.{want_here}
use Rattle.sea_ptree.proofs.Steps.{root_blameless}
use Rattle.sea_ptree.proofs.relocating.relocate.Goals as goal

pub returns-in_err-entries-clause-blameless : goal.returns-in_err-entries-clause-blameless
returns-in_err-entries-clause-blameless g c =
    let p = err_from_is_err_and c.from_residual.result c.from_residual.ensures.1 in
    rw (p.1, p.2) (root_blameless Has (λ es e has. has) c.args.kind (g.B.Blocks.held c.args.blocks.now) (g.B.Blocks.held c.relocate_below.new.blocks) c.args.root (c.args.root.height - 1) c.root-link.result c.in_err-entries.field-0.0 (omega (arith, c.requires.level)) c.root-link.ensures
    (subst (λ (k : Kind). IsFaultBelow Has k (g.B.Blocks.held c.args.blocks.now) (g.B.Blocks.held c.relocate_below.new.blocks) (c.args.root.height - 1) c.root-link.result c.in_err-entries.field-0.0) c.new-making.ensures.kind_is c.in_err-entries.ensures.fault))

pub returns-in_err-slot-clause-fault : goal.returns-in_err-slot-clause-fault
returns-in_err-slot-clause-fault g c =
    let p = err_from_is_err_and c.from_residual-in_err-slot.result c.from_residual-in_err-slot.ensures.1 in
    let is : suc (c.args.root.height - 1) ≡ c.args.root.height = omega (arith, c.requires.level) in
    rw (p.1, p.2) (subst (λ (h : ℕ). IsFaultFrom Has c.args.kind (g.B.Blocks.held c.args.blocks.now) (g.B.Blocks.held c.relocate_below.new.blocks) h (root_link c.args.root) (Space NoMemory)) is
    (want_here Has c.args.kind (g.B.Blocks.held c.args.blocks.now) (g.B.Blocks.held c.relocate_below.new.blocks) (c.args.root.height - 1) (root_link c.args.root) c.in_ok-entries.ensures.kept.1))

pub returns-clause-renewed : goal.returns-clause-renewed
returns-clause-renewed g c told =
    relocated c.args.kind c.new-making.result.kind (g.B.Blocks.held c.args.blocks.now).image c.args.root.height (c.args.root.height - 1) c.args.place.0 c.args.root c.root-link.result c.in_ok-entries.entries.items (c.in_ok-slot.field-0-0, c.in_ok-slot.slot) c.done.result c.new-making.result c.relocate_below.new.making c.write.new.self
    (omega (arith, c.requires.level)) (omega (arith, c.requires.height)) c.new-making.ensures.kind_is c.new-making.ensures.place_is c.new-making.ensures.nodes c.new-making.ensures.dead c.root-link.ensures
    (c.in_ok-entries.ensures.rebuilt told) (c.in_ok-entries.ensures.same told) c.in_ok-entries.ensures.onward (subst (λ (xs : List Entry). Wrote c.relocate_below.new.making c.write.new.self (c.args.root.height - 1) xs (c.in_ok-slot.field-0-0, c.in_ok-slot.slot)) c.deref.ensures.value c.in_ok-slot.ensures) c.done.ensures c.new-making.ensures.kind_is

pub returns-clause-moves : goal.returns-clause-moves
returns-clause-moves g c told =
    moves_root c.args.kind (g.B.Blocks.held c.args.blocks.now).image c.args.root c.root-link.result c.args.key c.args.level c.args.place.0 c.in_ok-entries.entries.items (c.in_ok-slot.field-0-0, c.in_ok-slot.slot) c.done.result c.new-making.result c.relocate_below.new.making c.write.new.self
    c.root-link.ensures c.new-making.ensures (c.in_ok-entries.ensures.moves told)
    (subst (λ (xs : List Entry). Wrote c.relocate_below.new.making c.write.new.self (c.args.root.height - 1) xs (c.in_ok-slot.field-0-0, c.in_ok-slot.slot)) c.deref.ensures.value c.in_ok-slot.ensures) c.done.ensures
