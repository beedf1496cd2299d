use Rattle.std.proofs.Common.{◌++◌, List, ◌∷◌, [], sym, ap, ◌∙◌, arith}
use Rattle.std.proofs.lemmas.List.{take_all}
use Rattle.sea_ptree.specs.Node.{Entry}
use Rattle.sea_ptree.proofs.Checks.{next_read}
use Rattle.sea_ptree.proofs.node.read_entries.Goals as goal

pub loop-index-preserved : goal.loop-index-preserved
loop-index-preserved c entries read =
    let here = c.entry_at.ensures in
    let next = next_read c.args.block.now c.args.count c.loop-index.index entries c.entry_at.result here.length c.requires read (omega arith) here.fits here.spelled in
    c.in_ok-push.ensures.items ∙ ap (λ (xs : List Entry). xs ++ c.entry_at.result ∷ []) (c.loop-index.invariant entries read) ∙ sym next.more

pub returns : goal.returns
returns c entries read = c.loop-index.invariant entries read ∙ take_all c.loop-index.index entries (omega (arith, read.count_is))
