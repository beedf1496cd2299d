use Rattle.std.proofs.Common.{◌≡◌, ◌++◌, ℕ, List, [], length, arith, ap, ◌∙◌}
use Rattle.sea_record.specs.Record.{metadata}
use Rattle.sea_record.proofs.Encoding.{back_made}
use Rattle.sea_record.proofs.writing.back_blocks.Goals as goal

pub pad-requires : goal.pad-requires
pad-requires c =
    let body = c.args.body.now in
    let b1 : c.push_metadata.new.bytes.items ≡ [] ++ metadata body =
    c.in_ok-push_metadata.ensures ∙ ap (λ (b : List ℕ). b ++ metadata body) c.in_ok-bytes.ensures.items in
    omega (arith, ap length b1, c.metadata_len.ensures)

pub returns : goal.returns
returns c =
    let body = c.args.body.now in
    let b1 : c.push_metadata.new.bytes.items ≡ [] ++ metadata body =
    c.in_ok-push_metadata.ensures ∙ ap (λ (b : List ℕ). b ++ metadata body) c.in_ok-bytes.ensures.items in
    back_made body c.push_metadata.new.bytes.items c.pad.new.bytes.items _ b1 (omega (arith, c.metadata_len.ensures)) c.in_ok-pad.ensures
