use Rattle.std.proofs.Common.{◌≡◌, ◌+◌, ◌*◌, ◌≤◌, None, [], reverse, length}
use Rattle.sea_base.specs.Ghosts.{IsCall}
use Rattle.std.specs.Option.{option_copied}
use Rattle.sea_tree.specs.declared.edit.Edit.TheVariants.{Pair}
use Rattle.sea_tree.specs.Reads.{ReadsNear}
use Rattle.sea_tree.specs.Form.{Rises}
use Rattle.sea_tree.specs.Mending.{after_edit}
use Rattle.sea_tree.specs.Plan.{plan_changes, plan_fills}
use Rattle.sea_tree.proofs.Climbs.{Climbs}
use Rattle.sea_tree.proofs.Forms.{Completes}
use Rattle.sea_tree.proofs.changing.mended.Given as goal

abbrev pub invariant-up : goal.invariant-up
invariant-up g l = record {
  climbs : Climbs (g.S.Space.seen l.fn.space) (g.S.Space.seen l.space) l.fn.root.0 l.fn.key (option_copied l.fn.value) l.steps.items l.node.level l.at.0 l.node.entries (after_edit l.edit l.node.entries) (plan_changes l.plan);
  form : Completes (λ end done splice. Rises (reverse l.fn.path.steps.items) 0 l.fn.path.at.0 l.fn.path.leaf.entries (Pair l.fn.key (option_copied l.fn.value)) (g.S.Space.seen l.fn.space) end [] done splice)
      l.steps.items l.node.level l.at.0 l.node.entries l.edit (g.S.Space.seen l.space) (plan_changes l.plan);
  near : ReadsNear l.fn.root.0 l.fn.key (g.S.Space.seen l.fn.space) (g.S.Space.seen l.space);
  few : plan_fills l.plan + 2 * length l.steps.items ≤ 14;
  first : l.plan.splice ≡ None;
  next : (g.S.Space.seen l.space).next + length l.steps.items ≤ (g.S.Space.seen l.fn.space).next + 7;
  call : IsCall g.S.Space l.fn.space l.space None;
}

abbrev pub decreases-up : goal.decreases-up
decreases-up g l = length l.steps.items
