use Rattle.std.proofs.Common.{◌∙◌, ◌+◌, ◌-◌, ◌≤◌, List, ap, sym, refl, length, get_or, arith}
use Rattle.sea_node.specs.Entries.{Entry}
use Rattle.sea_tree.specs.declared.neighbours.Neighbours.{Neighbours}
use Rattle.sea_tree.proofs.Rebalances.{right_held, left_held, child_laid}
use Rattle.sea_tree.proofs.neighbours.Neighbours.of.Goals as goal

pub returns-then-parent-entries-clause-held : goal.returns-then-parent-entries-clause-held
returns-then-parent-entries-clause-held g c =
    let parent = c.args.parent.now in
    let level = c.args.node.now.level in
    let old = g.S.Space.seen c.args.space.now in
    let new = g.S.Space.seen c.child_of.new.space in
    let q = c.in_ok-right.right.0 in
    let fs : List Entry = c.in_ok-right.neighbour.entries in
    let e : Entry = c.index-entries-index.result in
    let held : Neighbours = record { left = c.args.at; right = c.in_ok-right.right; separator = c.in_ok-copy.field-0; both = c.in_ok-merged.field-0 } in
    right_held level c.args.at.0 c.args.node.now.entries parent old new held q fs e c.requires.parent.rising
    (omega (arith, c.if-parent-entries.true, ap length c.items-entries.ensures)) c.requires.child c.requires.small c.in_ok-right.ensures.child
    (child_laid old new parent (parent.index + 1) level q fs c.child_of.ensures.reads (g.met.S.Space.sound c.child_of.new.space) c.in_ok-right.ensures.known c.in_ok-right.ensures.child)
    (c.index-entries-index.is ∙ ap (λ (es : List Entry). get_or es (parent.index + 1) e) c.items-entries.ensures)
    refl refl (c.in_ok-copy.ensures ∙ ap (λ (x : Entry). x.0) (sym c.index-entries-index.is)) c.in_ok-merged.ensures.level c.in_ok-merged.ensures.entries c.in_ok-right.ensures.one

pub returns-clause-held : goal.returns-clause-held
returns-clause-held g c =
    let parent = c.args.parent.now in
    let level = c.args.node.now.level in
    let old = g.S.Space.seen c.args.space.now in
    let new = g.S.Space.seen c.child_of-2.new.space in
    let q = c.in_ok-left.left.0 in
    let fs : List Entry = c.in_ok-left.neighbour.entries in
    let e : Entry = c.index-entries-parent.result in
    let held : Neighbours = record { left = c.in_ok-left.left; right = c.args.at; separator = c.in_ok-copy-2.field-0; both = c.in_ok-merged-2.field-0 } in
    let last : length parent.node.entries ≤ parent.index + 1 = omega (arith, c.if-parent-entries.false, ap length c.items-entries.ensures) in
    let two = (c.requires.parent.children (omega (arith, c.requires.level))).0 in
    left_held level c.args.at.0 c.args.node.now.entries parent old new held q fs e c.requires.parent.rising
    (omega (arith, last, two)) c.requires.index last c.requires.child c.requires.small c.in_ok-left.ensures.child
    (child_laid old new parent (parent.index - 1) level q fs c.child_of-2.ensures.reads (g.met.S.Space.sound c.child_of-2.new.space) c.in_ok-left.ensures.known c.in_ok-left.ensures.child)
    (c.index-entries-parent.is ∙ ap (λ (es : List Entry). get_or es parent.index e) c.items-entries.ensures)
    refl refl (c.in_ok-copy-2.ensures ∙ ap (λ (x : Entry). x.0) (sym c.index-entries-parent.is)) (c.in_ok-merged-2.ensures.level ∙ c.in_ok-left.ensures.level) c.in_ok-merged-2.ensures.entries c.in_ok-left.ensures.one
