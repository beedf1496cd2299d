use Rattle.std.proofs.Common.{◌≡◌, ℕ, List, sym, ap, ◌∙◌, subst}
use Rattle.sea_segment.specs.Header.{SpellsHeader}
use Rattle.sea_segment.specs.declared.header.Header.{Header}
use Rattle.sea_segment.proofs.Headers.{same_header}
use Rattle.sea_trail.specs.Trail.{block_of, header_block}
use Rattle.sea_trail_trial.proofs.PlainHeaders.{spells_at}
use Rattle.sea_trail_trial.proofs.plain.headers.header_in.Goals as goal

pub returns-then-header-segment : goal.returns-then-header-segment
returns-then-header-segment c = λ h named stands.
    let image = c.args.image.now in
    let block = c.in_ok-block.block in
    let at : block ≡ block_of image (header_block c.args.segment) = c.in_ok-block.ensures ∙ ap (block_of image) c.header_block.ensures in
    let spells = subst (λ (b : List ℕ). SpellsHeader b h) (sym at) (spells_at image c.args.segment h named stands) in
    c.if-header-segment.true (ap (λ (k : Header). k.segment) (same_header block c.in-Some.header h c.in-Some.ensures.some spells) ∙ named)
