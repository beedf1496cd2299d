use Rattle.std.proofs.Common.{ap, ◌∙◌, map as each}
use Rattle.std.specs.Option.{option_copied}
use Rattle.sea_node.specs.Entries.{Entry}
use Rattle.sea_onode.proofs.Onodes.{names_listed}
use Rattle.sea_onode.proofs.Saving.{meets_tree}
use Rattle.sea_onode.proofs.reading.names.Goals as goal

pub returns-clause-names : goal.returns-clause-names
returns-clause-names g c store onodes m =
    c.in_ok-names.ensures ∙ ap (each (λ (e : Entry). e.0)) (c.in_ok-pairs.ensures.pairs store m.onodes.content (meets_tree m))
    ∙ names_listed c.args.limit (option_copied c.args.after) m.onodes.content onodes m.onodes.spelled
