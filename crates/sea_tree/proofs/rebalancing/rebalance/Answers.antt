use Rattle.std.proofs.Common.{◌≡◌, ◌∙◌, ◌≤◌, ◌∷◌, [], List, Some, inl, inr, refl, ap, sym, subst, arith}
use Rattle.sea_node.specs.Entries.{Entry, size}
use Rattle.sea_node.specs.Node.{node_bytes}
use Rattle.sea_tree.specs.Tree.{Bounds}
use Rattle.sea_tree.specs.Does.{Change}
use Rattle.sea_tree.specs.Plan.{changes_of}
use Rattle.sea_tree.specs.Mending.{after_edit, IsNearPlace}
use Rattle.sea_tree.specs.Rebalanced.{AreNeighbours, SplitsInTwo}
use Rattle.sea_tree.proofs.MendNear.{IsNode-filled}
use Rattle.sea_tree.proofs.Performing.{unspliced}
use Rattle.sea_tree.proofs.Rebalances.{some_near, merges, redistributes}
use Rattle.sea_tree.proofs.rebalancing.rebalance.Goals as goal

pub size_of-bytes-requires : goal.size_of-bytes-requires
size_of-bytes-requires g c =
    let parent = c.args.parent.now in
    let es : List Entry = c.args.node.now.entries in
    let near = some_near parent c.args.node.now.level c.args.at.0 (after_edit c.args.edit es) c.requires.index c.requires.child in
    let same : c.in_ok-applied.field-0 ≡ after_edit c.args.edit es = c.in_ok-applied.ensures ∙ ap (after_edit c.args.edit) c.items.ensures in
    let fits : size (after_edit c.args.edit es) ≤ 5155 = near.1.near in
    omega (arith, fits, ap size c.items-2.ensures, ap size same)

pub split-requires-clause-near : goal.split-requires-clause-near
split-requires-clause-near g c =
    let es : List Entry = c.args.node.now.entries in
    let level = c.args.node.now.level in
    let same : c.in_ok-applied.field-0 ≡ after_edit c.args.edit es = c.in_ok-applied.ensures ∙ ap (after_edit c.args.edit) c.items.ensures in
    subst (λ (fs : List Entry). (bounds : Bounds) × IsNearPlace level bounds fs) (sym same) (some_near c.args.parent.now level c.args.at.0 (after_edit c.args.edit es) c.requires.index c.requires.child)

pub plan_edit-requires-clause-edited : goal.plan_edit-requires-clause-edited
plan_edit-requires-clause-edited g c =
    let es : List Entry = c.args.node.now.entries in
    let level = c.args.node.now.level in
    let same : c.in_ok-applied.field-0 ≡ after_edit c.args.edit es = c.in_ok-applied.ensures ∙ ap (after_edit c.args.edit) c.items.ensures in
    let near = some_near c.args.parent.now level c.args.at.0 (after_edit c.args.edit es) c.requires.index c.requires.child in
    let bytes = ap size c.items-2.ensures in
    let filled : 1016 ≤ size c.in_ok-applied.field-0 = omega (arith, c.if-bytes.false, c.size_of-bytes.ensures, bytes) in
    let room : size c.in_ok-applied.field-0 ≤ 4064 = omega (arith, c.if-bytes-gt-ROOM_BYTES.false, c.size_of-bytes.ensures, bytes) in
    IsNode-filled level near.0 c.in_ok-applied.field-0 (subst (IsNearPlace level near.0) (sym same) near.1) (filled, room)

pub returns-clause-rebalanced : goal.returns-clause-rebalanced
returns-clause-rebalanced g c =
    let es : List Entry = c.args.node.now.entries in
    let level = c.args.node.now.level in
    let at = c.args.at.0 in
    let same : c.in_ok-applied.field-0 ≡ after_edit c.args.edit es = c.in_ok-applied.ensures ∙ ap (after_edit c.args.edit) c.items.ensures in
    let bytes = ap size c.items-2.ensures in
    let filled : 1016 ≤ size (after_edit c.args.edit es) = omega (arith, c.if-bytes.false, c.size_of-bytes.ensures, bytes, ap size same) in
    let room : size (after_edit c.args.edit es) ≤ 4064 = omega (arith, c.if-bytes-gt-ROOM_BYTES.false, c.size_of-bytes.ensures, bytes, ap size same) in (
      (at, Some (node_bytes level c.in_ok-applied.field-0)) ∷ [],
      c.in_ok-plan_edit.ensures.planned,
      inl (record { filled = filled; room = room; planned = λ j. (at, Some (node_bytes level (same j))) ∷ []; next = refl; nothing = refl; unread = λ q. refl }),
      c.in_ok-plan_edit.ensures.kept,
    )

pub returns-then-bytes-clause-rebalanced : goal.returns-then-bytes-clause-rebalanced
returns-then-bytes-clause-rebalanced g c =
    let es : List Entry = after_edit c.args.edit c.args.node.now.entries in
    let level = c.args.node.now.level in
    let at = c.args.at.0 in
    let parent = c.args.parent.now in
    let old = g.S.Space.seen c.args.space.now in
    let new = g.S.Space.seen c.of.new.space in
    let held = c.in_ok-pair.pair in
    let left = c.in_ok-merge_or_redistribute.field-0 in
    let before : List Change = changes_of c.args.plan.now.writes in
    let after : List Change = changes_of c.merge_or_redistribute.new.writes in
    let same : c.in_ok-applied.field-0 ≡ es = c.in_ok-applied.ensures ∙ ap (after_edit c.args.edit) c.items.ensures in
    let are : AreNeighbours level at es parent old new held = subst (λ (fs : List Entry). AreNeighbours level at fs parent old new held) same c.in_ok-pair.ensures.held in
    elim c.in_ok-merge_or_redistribute.ensures.rebalanced [
      | inl merged ↦ (let planned = merges level at es parent old new held before after left are merged c.of.ensures.reads.next in (planned.0, unspliced c.args.plan.now.splice after before planned.0 c.requires.first planned.1, inr (inr (inl planned.2)), c.requires.first))
      | inr cut ↦ (let planned = redistributes level at es parent old new held before after left are cut c.of.ensures.reads.next in (planned.0, unspliced c.args.plan.now.splice after before planned.0 c.requires.first planned.1, inr (inr (inr planned.2)), c.requires.first))
    ]

pub returns-then-bytes-gt-ROOM_BYTES-clause-rebalanced : goal.returns-then-bytes-gt-ROOM_BYTES-clause-rebalanced
returns-then-bytes-gt-ROOM_BYTES-clause-rebalanced g c =
    let old = g.S.Space.seen c.args.space.now in
    let new = g.S.Space.seen c.split.new.space in
    let level = c.args.node.now.level in
    let at = c.args.at.0 in
    let left = c.in_ok-split.field-0 in
    let same : c.in_ok-applied.field-0 ≡ after_edit c.args.edit c.args.node.now.entries = c.in_ok-applied.ensures ∙ ap (after_edit c.args.edit) c.items.ensures in
    let s = c.in_ok-split.ensures.split in
    let how : SplitsInTwo level at (after_edit c.args.edit c.args.node.now.entries) old new s.0 (Some left) = subst (λ (es : List Entry). SplitsInTwo level at es old new s.0 (Some left)) same s.2 in
    (s.0, unspliced c.args.plan.now.splice (changes_of c.split.new.writes) (changes_of c.args.plan.now.writes) s.0 c.requires.first s.1, inr (inl how), c.requires.first)
