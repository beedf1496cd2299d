use Rattle.std.proofs.Common.{sym, ◌∙◌}
use Rattle.std.proofs.lemmas.Bool.{false≢true}
use Rattle.sea_script.proofs.Arguments.{first_name}
use Rattle.sea_script.proofs.argument.Arguments.names.Goals as goal

pub name-requires : goal.name-requires
name-requires c =
    first_name c.loop-names.self (λ none. false≢true (sym c.loop-names-test.true ∙ c.is_empty.ensures.1 none)) c.loop-names.invariant.names
