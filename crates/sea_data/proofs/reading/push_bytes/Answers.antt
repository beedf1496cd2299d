use Rattle.std.proofs.Common.{ℕ, List, ◌+◌, ◌++◌, ap, ◌∙◌, arith}
use Rattle.std.specs.Prelude.{slice_range}
use Rattle.sea_data.proofs.Loops.{slice_part}
use Rattle.sea_data.proofs.reading.push_bytes.Goals as goal

pub returns-clause-pushed : goal.returns-clause-pushed
returns-clause-pushed c =
    c.in_ok-extend_from_slice.ensures.items
    ∙ ap (λ (bs : List ℕ). c.args.bytes.now.items ++ bs) (ap (λ (b : List ℕ). slice_range b c.args.place (c.args.place + c.args.count)) c.bytes.ensures.bytes ∙ slice_part c.args.block.now c.args.place c.args.count (omega (arith, c.bytes.ensures.length)))
