use Rattle.std.proofs.Common.{◌≡◌, ◌-◌, ℕ, List, Option, sym, subst, arith}
use Rattle.std.proofs.lemmas.Result.{IfOk-weaker, IfErr-weaker}
use Rattle.std.specs.FinMap as map
use Rattle.std.specs.FinMap.Entries.{find}
use Rattle.std.specs.Ordering.{nat_cmp}
use Rattle.sea_base.specs.declared.place.Slot.{Slot}
use Rattle.sea_ptree.specs.Faults.{IsFaultBelow, IsBlameless}
use Rattle.sea_ptree.specs.Tree.{Item, Holds, Content, IsTree, Guides, root_link}
use Rattle.sea_ptree.proofs.Blame.{guides_has}
use Rattle.sea_ptree.proofs.Items.{all_pairs}
use Rattle.sea_ptree.proofs.Roots.{root_content, no_content}
use Rattle.sea_ptree.proofs.Steps.{root_blameless}
use Rattle.sea_ptree.proofs.lookup.get.Goals as goal

pub returns-then-root-eq0-clause-content : goal.returns-then-root-eq0-clause-content
returns-then-root-eq0-clause-content g c told content places =
    no_content c.args.kind (g.B.Blocks.held c.args.blocks.now).image c.args.root.height (root_link c.args.root) c.args.key c.if-root-eq0.true content places

pub returns-clause-content : goal.returns-clause-content
returns-clause-content g c told =
    let image = (g.B.Blocks.held c.args.blocks.now).image in
    let level = c.args.root.height - 1 in
    IfOk-weaker c.slot_below.result (λ (found : Option Slot). (items : List (Item level)) → Holds c.args.kind image level c.root.result items → found ≡ find nat_cmp c.args.key (all_pairs level items))
    (λ (found : Option Slot). (content : Content) (places : List ℕ) → IsTree c.args.kind image c.args.root content places → found ≡ map.get content c.args.key)
    (λ found below content places. root_content c.args.kind image c.args.root.height level (root_link c.args.root) c.args.key found (omega arith) (λ items holds. below items (subst (λ l. Holds c.args.kind image level l items) (sym c.root.ensures) holds)) content places)
    (c.slot_below.ensures.content told)

pub returns-clause-blameless : goal.returns-clause-blameless
returns-clause-blameless g c =
    let old = g.B.Blocks.held c.args.blocks.now in
    let new = g.B.Blocks.held c.slot_below.new.blocks in
    IfErr-weaker c.slot_below.result (IsFaultBelow (Guides c.args.key) c.args.kind old new (c.args.root.height - 1) c.root.result) (IsBlameless c.args.kind old c.args.root)
    (λ fault below. root_blameless (Guides c.args.key) (guides_has c.args.key) c.args.kind old new c.args.root (c.args.root.height - 1) c.root.result fault (omega arith) c.root.ensures below) c.slot_below.ensures.fault
