use Rattle.std.proofs.Common.{◌∙◌, List, ap, sym, get_or}
use Rattle.sea_node.specs.Entries.{Entry}
use Rattle.sea_tree.specs.Plan.{changes_of}
use Rattle.sea_tree.proofs.Rebalances.{split_rebalanced}
use Rattle.sea_tree.proofs.rebalancing.split.Goals as goal

pub returns-clause-split : goal.returns-clause-split
returns-clause-split g c =
    let e : Entry = c.index-items-0.result in
    split_rebalanced c.args.node.now.level c.args.at.0 c.args.node.now.entries (g.S.Space.seen c.args.space.now) (g.S.Space.seen c.alloc.new.self) (changes_of c.args.writes.now) (changes_of c.plan_node.new.writes) (changes_of c.plan_node-2.new.writes)
    c.in_ok-front.front c.in_ok-front.back c.in_ok-fresh.fresh.0 c.in_ok-copy.field-0 c.in_ok-value_of.field-0 e
    c.requires.large c.in_ok-front.ensures c.in_ok-fresh.ensures.first c.in_ok-fresh.ensures.given.next c.in_ok-plan_node.ensures.planned c.in_ok-plan_node-2.ensures.planned
    (c.index-items-0.is ∙ ap (λ (es : List Entry). get_or es 0 e) c.items.ensures)
    (c.in_ok-copy.ensures ∙ ap (λ (x : Entry). x.0) (sym c.index-items-0.is)) c.in_ok-value_of.ensures c.in_ok-fresh.ensures.given.reads
