use Rattle.std.proofs.Common.{refl, ℕ, ◌<◌, ◌≡◌, ◌≤◌, ◌∙◌, ◌∷◌, ◌++◌, true, List, Option, length, ap, sym, subst, Some, None, inl, inr, arith}
use Rattle.std.proofs.lemmas.Bool.Decides.{nat_tests}
use Rattle.sea_base.specs.Space.{Seen}
use Rattle.sea_node.specs.Entries.{Entry, size}
use Rattle.sea_node.specs.Node.{node_bytes}
use Rattle.sea_tree.specs.declared.edit.Edit.{Edit}
use Rattle.sea_tree.specs.declared.splice.Splice.{Splice}
use Rattle.sea_tree.specs.Changing.{RootSplits, RootCollapses, RootRebalanced}
use Rattle.sea_tree.specs.Does.{Change, is_among}
use Rattle.sea_tree.specs.Form.{IsKept, IsWrittenAs}
use Rattle.sea_tree.specs.Mending.{after_edit}
use Rattle.sea_tree.specs.Plan.{changes_of, spliced_before, plan_changes}
use Rattle.sea_tree.proofs.RootRebalances.{root_empties, root_fits, rebalanced_whole, root_full}
use Rattle.sea_tree.proofs.rooting.rebalance_root.Goals as goal
use Rattle.sea_tree.proofs.rooting.rebalance_root.Goals.{else-edited-gt0-via-then-edited-gt0+else-entries-eq1, else-edited-gt0-via-else-edited-gt0}

module _ (level root : ℕ) (entries : List Entry) (edit : Edit) (old new : Seen) where
  -- the root is written in one of these ways, behind what is planned before
  abbrev How : Option Splice → List Change → List Change → Type 0
  How splice before changes = (how : RootRebalanced level root (after_edit edit entries) old new before changes) × IsWrittenAs how (IsKept root entries edit before splice) splice

  whole : (s : Option Splice) (before after : List Change) → s ≡ None → (changes : List Change) × (after ≡ changes ++ before) × How s before changes
      → (changes : List Change) × (spliced_before s after ≡ changes ++ spliced_before s before) × (how : RootRebalanced level root (after_edit edit entries) old new (spliced_before s before) changes) × IsWrittenAs how (IsKept root entries edit (spliced_before s before) s) s
  whole s before after none done = let all = rebalanced_whole s before after (How s) none done in (all.0, all.1, all.2.0, all.2.1)

pub returns-then-size_of-gt-ROOM_BYTES-clause-rebalanced : goal.returns-then-size_of-gt-ROOM_BYTES-clause-rebalanced
returns-then-size_of-gt-ROOM_BYTES-clause-rebalanced g c =
    let level = c.args.node.now.level in
    let root = c.args.root.0 in
    let old = g.S.Space.seen c.args.space.now in
    let new = g.S.Space.seen c.split_root.new.space in
    let edited : c.in_ok-applied.field-0 ≡ after_edit c.args.edit c.args.node.now.entries = c.in_ok-applied.ensures ∙ ap (after_edit c.args.edit) c.items.ensures in
    let s = c.in_ok-split_root.ensures.split in
    let splits : RootSplits level root (after_edit c.args.edit c.args.node.now.entries) old new s.0 = subst (λ (es : List Entry). RootSplits level root es old new s.0) edited s.2 in
    whole level root c.args.node.now.entries c.args.edit old new c.args.plan.now.splice (changes_of c.args.plan.now.writes) (changes_of c.split_root.new.writes) c.requires.first (s.0, s.1, (inr (inl splits), c.requires.first))

pub returns-then-is_empty-clause-rebalanced : goal.returns-then-is_empty-clause-rebalanced
returns-then-is_empty-clause-rebalanced g c =
    let seen = g.S.Space.seen c.args.space.now in
    let same : c.items-entries.result.now ≡ after_edit c.args.edit c.args.node.now.entries = c.items-entries.ensures ∙ c.in_ok-applied.ensures ∙ ap (after_edit c.args.edit) c.items.ensures in
    let none : length c.items-entries.result.now ≡ 0 = grind (arith, nat_tests) in
    let done = root_empties c.args.node.now.level c.args.root.0 (after_edit c.args.edit c.args.node.now.entries) c.requires.near seen (changes_of c.args.plan.now.writes) (changes_of c.plan_gone.new.writes) (sym (ap length same) ∙ none) c.in_ok-plan_gone.ensures.planned in
    whole c.args.node.now.level c.args.root.0 c.args.node.now.entries c.args.edit seen seen c.args.plan.now.splice (changes_of c.args.plan.now.writes) (changes_of c.plan_gone.new.writes) c.requires.first (done.0, done.1, (inr (inr (inr done.2)), c.requires.first))

pub collapse_root-requires-clause-alone : goal.collapse_root-requires-clause-alone
collapse_root-requires-clause-alone g c only child is address =
    let edited : c.in_ok-applied.field-0 ≡ after_edit c.args.edit c.args.node.now.entries = c.in_ok-applied.ensures ∙ ap (after_edit c.args.edit) c.items.ensures in
    subst (λ (o : Option Splice). is_among (spliced_before o (changes_of c.args.plan.now.writes)) child ≡ true) c.requires.first
    (c.requires.alone only child (omega (arith, c.if-edited-gt0.true)) (sym edited ∙ is) address)

pub returns-then-entries-eq1-clause-rebalanced : goal.returns-then-entries-eq1-clause-rebalanced
returns-then-entries-eq1-clause-rebalanced g c =
    let level = c.args.node.now.level in
    let root = c.args.root.0 in
    let seen = g.S.Space.seen c.args.space.now in
    let before : List Change = changes_of c.args.plan.now.writes in
    let edited : c.in_ok-applied.field-0 ≡ after_edit c.args.edit c.args.node.now.entries = c.in_ok-applied.ensures ∙ ap (after_edit c.args.edit) c.items.ensures in
    let done = c.in_ok-collapse_root.ensures.collapsed seen in
    let collapses : RootCollapses level root (after_edit c.args.edit c.args.node.now.entries) seen seen before done.0 = subst (λ (es : List Entry). RootCollapses level root es seen seen before done.0) edited done.2 in
    whole level root c.args.node.now.entries c.args.edit seen seen c.args.plan.now.splice before (changes_of c.collapse_root.new.writes) c.requires.first (done.0, done.1, (inr (inr (inl collapses)), c.requires.first))

pub returns-clause-rebalanced : goal.returns-clause-rebalanced
returns-clause-rebalanced g c =
    let edited : c.in_ok-applied.field-0 ≡ after_edit c.args.edit c.args.node.now.entries = c.in_ok-applied.ensures ∙ ap (after_edit c.args.edit) c.items.ensures in
    let same : c.items-entries.result.now ≡ after_edit c.args.edit c.args.node.now.entries = c.items-entries.ensures ∙ edited in
    let some : 1 ≤ length c.items-entries.result.now = grind (arith, nat_tests) in
    let two : 1 ≤ c.args.node.now.level → 2 ≤ length c.items-entries.result.now = λ above.
    elim c.else-edited-gt0.branch [
      | else-edited-gt0-via-then-edited-gt0+else-entries-eq1 w ↦ grind (arith, nat_tests)
      | else-edited-gt0-via-else-edited-gt0 w ↦ absurd (omega arith)
    ] in
    let fits : size c.items-entries.result.now ≤ 4064 = grind (arith, nat_tests) in
    let fit = root_fits c.args.node.now.level c.args.root.0 (after_edit c.args.edit c.args.node.now.entries) c.requires.near (g.S.Space.seen c.args.space.now) (plan_changes c.args.plan.now) (plan_changes c.plan_edit.new.plan)
    (subst (λ (es : List Entry). 1 ≤ length es) same some) (λ above. subst (λ (es : List Entry). 2 ≤ length es) same (two above)) (subst (λ (es : List Entry). size es ≤ 4064) same fits)
    (c.in_ok-plan_edit.ensures.planned ∙ ap (λ (es : List Entry). (c.args.root.0, Some (node_bytes c.args.node.now.level es)) ∷ plan_changes c.args.plan.now) edited) in
    (fit.0, fit.1, inl fit.2, c.in_ok-plan_edit.ensures.kept)

pub returns-clause-unread : goal.returns-clause-unread
returns-clause-unread g c q = refl

pub returns-then-is_empty-clause-unread : goal.returns-then-is_empty-clause-unread
returns-then-is_empty-clause-unread g c q = refl

pub returns-then-entries-eq1-clause-unread : goal.returns-then-entries-eq1-clause-unread
returns-then-entries-eq1-clause-unread g c q = refl

pub returns-then-edited-eq-TOP_LEVEL-clause-fault : goal.returns-then-edited-eq-TOP_LEVEL-clause-fault
returns-then-edited-eq-TOP_LEVEL-clause-fault g c =
    let same : c.items-entries.result.now ≡ after_edit c.args.edit c.args.node.now.entries = c.items-entries.ensures ∙ c.in_ok-applied.ensures ∙ ap (after_edit c.args.edit) c.items.ensures in
    let level : c.args.node.now.level ≡ 7 = omega (arith, c.if-edited-eq-TOP_LEVEL.true) in
    let large : 3989 < size c.args.node.now.entries = omega (arith, c.if-size_of-gt-ROOM_BYTES.true, c.size_of.ensures, ap size same, c.requires.grown (omega arith)) in
    (refl, root_full (g.S.Space.seen c.args.space.now) c.args.node.now.level c.args.root.0 c.args.node.now.entries (g.met.S.Space.sound c.args.space.now) c.requires.known c.requires.node level large)
