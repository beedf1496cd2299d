use Rattle.sea_script.proofs.Arguments.{further_at}
use Rattle.sea_script.proofs.argument.kind_at.Goals as goal

pub returns-else-index-first : goal.returns-else-index-first
returns-else-index-first c =
    λ count may within. further_at c.args.first.now c.args.further c.args.index count c.kind.result c.if-index-first.false may within c.kind.ensures
