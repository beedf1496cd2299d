use Rattle.std.proofs.Common.{◌≡◌, ◌++◌, ℕ, List, [], replicate, arith, ap, ◌∙◌}
use Rattle.sea_record.specs.Header.{header_bytes}
use Rattle.sea_record.specs.Record.{header_of}
use Rattle.sea_record.specs.declared.header.Header.{Header}
use Rattle.sea_record.proofs.Encoding.{front_made, length-header}
use Rattle.sea_record.proofs.RecordRules.{fits_of}
use Rattle.sea_record.proofs.writing.front_block.Goals as goal

pub pad-requires : goal.pad-requires
pad-requires c =
    let r = c.args.entry.now in
    let b1 : c.push_header.new.bytes.items ≡ [] ++ header_bytes (header_of r (replicate 32 0)) =
    c.in_ok-push_header.ensures ∙ ap (λ (b : List ℕ). b ++ header_bytes c.unsealed_header.result) c.in_ok-bytes.ensures.items ∙ ap (λ (h : Header). [] ++ header_bytes h) c.unsealed_header.ensures in
    omega (arith, length-header r c.push_header.new.bytes.items (fits_of r c.requires) b1)

pub returns : goal.returns
returns c =
    let r = c.args.entry.now in
    let b1 : c.push_header.new.bytes.items ≡ [] ++ header_bytes (header_of r (replicate 32 0)) =
    c.in_ok-push_header.ensures ∙ ap (λ (b : List ℕ). b ++ header_bytes c.unsealed_header.result) c.in_ok-bytes.ensures.items ∙ ap (λ (h : Header). [] ++ header_bytes h) c.unsealed_header.ensures in
    front_made r c.push_header.new.bytes.items c.pad.new.bytes.items (fits_of r c.requires) b1 c.in_ok-pad.ensures
