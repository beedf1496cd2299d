use Rattle.std.proofs.Common.{ℕ, List, Option, ◌++◌, ap, sym, ◌∙◌}
use Rattle.sea_data.specs.Bytes.{block_part}
use Rattle.sea_data.proofs.Bytes.{zero_part}
use Rattle.sea_data.proofs.reading.push_part.Goals as goal

pub returns-in_ok-push_zeros-in-None-clause-pushed : goal.returns-in_ok-push_zeros-in-None-clause-pushed
returns-in_ok-push_zeros-in-None-clause-pushed g c =
    c.in_ok-push_zeros-in-None.ensures.pushed
    ∙ ap (λ (bs : List ℕ). c.args.bytes.now.items ++ bs) (zero_part c.args.place c.args.count ∙ ap (λ (b : Option (List ℕ)). block_part b c.args.place c.args.count) (sym c.in-None.is ∙ c.in_ok-block.ensures.answer))
