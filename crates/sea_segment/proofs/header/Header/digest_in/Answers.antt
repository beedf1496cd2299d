use Rattle.std.proofs.Common.{List, ℕ, ap, ◌∙◌}
use Rattle.std.specs.Prelude.{slice_range}
use Rattle.sea_segment.proofs.Headers.{digest_read}
use Rattle.sea_segment.proofs.header.Header.digest_in.Goals as goal

pub returns : goal.returns
returns c = λ header spells.
    c.digest_at.ensures ∙ ap (λ (b : List ℕ). slice_range b 144 176) c.bytes.ensures.bytes ∙ digest_read c.args.block.now header spells
