use Rattle.std.proofs.Common.{◌≡◌, length, ap, arith, ◌∙◌}
use Rattle.std.proofs.lemmas.Result.{IfOk-weaker}
use Rattle.sea_segment.specs.Seal.{sealed}
use Rattle.sea_segment.specs.Header.{SpellsHeader}
use Rattle.sea_segment.proofs.Headers.{header_written, length-header_front}
use Rattle.sea_segment.proofs.header.Header.spell.Goals as goal

pub seal-requires : goal.seal-requires
seal-requires c =
    let h = c.args.self.now in
    let written = header_written h c.in_ok-front.front.items c.extend_from_slice.new.self.items c.push_u32.new.bytes.items c.push_u32-2.new.bytes.items c.push_u64.new.bytes.items c.push_u64-2.new.bytes.items c.extend_from_slice-2.new.self.items c.push_u64-3.new.bytes.items c.push_root_fields.new.bytes.items c.extend_from_slice-3.new.self.items c.in_ok-front.ensures.items c.in_ok-extend_from_slice.ensures.items c.in_ok-push_u32.ensures c.in_ok-push_u32-2.ensures c.in_ok-push_u64.ensures c.in_ok-push_u64-2.ensures c.in_ok-extend_from_slice-2.ensures.items c.in_ok-push_u64-3.ensures c.in_ok-push_root_fields.ensures c.in_ok-extend_from_slice-3.ensures.items in
    omega (arith, ap length written, length-header_front h c.requires.prev, c.extend_from_slice-3.new.self.ok.0)

pub returns : goal.returns
returns c =
    let h = c.args.self.now in
    let written = header_written h c.in_ok-front.front.items c.extend_from_slice.new.self.items c.push_u32.new.bytes.items c.push_u32-2.new.bytes.items c.push_u64.new.bytes.items c.push_u64-2.new.bytes.items c.extend_from_slice-2.new.self.items c.push_u64-3.new.bytes.items c.push_root_fields.new.bytes.items c.extend_from_slice-3.new.self.items c.in_ok-front.ensures.items c.in_ok-extend_from_slice.ensures.items c.in_ok-push_u32.ensures c.in_ok-push_u32-2.ensures c.in_ok-push_u64.ensures c.in_ok-push_u64-2.ensures c.in_ok-extend_from_slice-2.ensures.items c.in_ok-push_u64-3.ensures c.in_ok-push_root_fields.ensures c.in_ok-extend_from_slice-3.ensures.items in
    IfOk-weaker c.seal.result (λ block. block ≡ sealed c.extend_from_slice-3.new.self.items) (λ block. SpellsHeader block h) (λ block is. record { header = c.requires; spelled = is ∙ ap sealed written }) c.seal.ensures
