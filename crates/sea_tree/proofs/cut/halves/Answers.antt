use Rattle.std.proofs.Common.{◌∙◌, List, ap, subst, take, drop, length, arith}
use Rattle.std.proofs.lemmas.List.{take_rest}
use Rattle.sea_node.specs.Entries.{Entry}
use Rattle.sea_tree.specs.Cut.{IsCut}
use Rattle.sea_tree.proofs.Rebalances.{many_entries, cut_halves}
use Rattle.sea_tree.proofs.cut.halves.Goals as goal

pub cut_of-cut-requires-clause-some : goal.cut_of-cut-requires-clause-some
cut_of-cut-requires-clause-some c =
    omega (arith, many_entries c.args.node.now.level c.requires.near.0 c.args.node.now.entries c.requires.near.1 c.requires.large, ap length c.items-entries.ensures)

pub returns : goal.returns
returns c =
    let k = c.cut_of-cut.result in
    let es : List Entry = c.args.node.now.entries in
    let same = c.items-entries.ensures in
    cut_halves c.args.node.now.level c.requires.near.0 es k c.in_ok-front.front c.in_ok-back.back c.requires.near.1 c.requires.large
    (subst (λ (fs : List Entry). IsCut fs k) same c.cut_of-cut.ensures)
    c.in_ok-front.ensures.level c.in_ok-back.ensures.level
    (c.in_ok-front.ensures.entries ∙ ap (take k) same)
    (c.in_ok-back.ensures.entries ∙ take_rest c.items-entries.result.now k ∙ ap (drop k) same)
