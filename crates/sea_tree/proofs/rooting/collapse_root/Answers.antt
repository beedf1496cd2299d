use Rattle.std.proofs.Common.{ℕ, ◌≡◌, ◌∙◌, ap, sym, subst, get_or, Option, List, ◌∷◌}
use Rattle.std.proofs.lemmas.Result.{on_ok_weaker}
use Rattle.sea_node.specs.Entries.{Entry}
use Rattle.sea_tree.specs.declared.plan.Write.TheVariants.{Whole}
use Rattle.sea_tree.specs.Tree.{IsAddress}
use Rattle.sea_tree.specs.Plan.{changes_of}
use Rattle.sea_tree.proofs.RootRebalances.{changes_push, only_first, root_collapses}
use Rattle.sea_tree.proofs.rooting.collapse_root.Goals as goal
use Rattle.sea_tree.proofs.rooting.collapse_root.Goals.{in-Some+in_ok-push-in-Some, in-None+in_ok-plan_gone-in-None}

pub planned-requires : goal.planned-requires
planned-requires c =
    let first : Entry = c.index-items-0.result in
    let address : IsAddress (get_or c.args.node.now.entries 0 first).1 c.address_of-child.result.0 = subst (λ (es : List Entry). IsAddress (get_or es 0 first).1 c.address_of-child.result.0) c.items.ensures c.address_of-child.ensures in
    let only = only_first c.args.node.now.entries first c.requires.one in
    c.requires.alone only.0 c.address_of-child.result.0 only.1 (subst (λ (e : Entry). IsAddress e.1 c.address_of-child.result.0) only.2 address)

pub returns-clause-collapsed : goal.returns-clause-collapsed
returns-clause-collapsed c =
    let one : changes_of c.match-branch-2.writes ≡ (c.args.root.0, c.in_ok-block.field-0) ∷ changes_of c.args.writes.now =
    elim c.match-branch-2.branch [
      | in-Some+in_ok-push-in-Some w ↦ ap changes_of w.writes-is ∙ ap changes_of w.in_ok-push-in-Some.ensures.ok ∙ changes_push c.args.writes.now (Whole c.args.root w.in-Some.block) ∙ ap (λ (block : Option (List ℕ)). (c.args.root.0, block) ∷ changes_of c.args.writes.now) (sym w.in-Some.is)
      | in-None+in_ok-plan_gone-in-None w ↦ ap changes_of w.writes-is ∙ w.in_ok-plan_gone-in-None.ensures.planned ∙ ap (λ (block : Option (List ℕ)). (c.args.root.0, block) ∷ changes_of c.args.writes.now) (sym w.in-None.is)
    ] in
    let address : IsAddress (get_or c.args.node.now.entries 0 c.index-items-0.result).1 c.address_of-child.result.0 = subst (λ (es : List Entry). IsAddress (get_or es 0 c.index-items-0.result).1 c.address_of-child.result.0) c.items.ensures c.address_of-child.ensures in
    on_ok_weaker c.plan_gone-2.result
    (λ gone seen. root_collapses c.args.node.now.level c.args.root.0 c.args.node.now.entries c.index-items-0.result c.address_of-child.result.0 c.in_ok-block.field-0 seen (changes_of c.args.writes.now) (changes_of c.match-branch-2.writes) (changes_of c.plan_gone-2.new.writes) c.requires.above c.requires.one address c.in_ok-block.ensures one gone)
    c.plan_gone-2.ensures.planned
