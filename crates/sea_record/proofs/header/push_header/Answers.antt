use Rattle.std.proofs.Common.{◌++◌, ℕ, ap, ◌∙◌}
use Rattle.sea_base.specs.Field.{big_endian}
use Rattle.sea_record.proofs.Headers.{header_pushed}
use Rattle.sea_record.proofs.header.push_header.Goals as goal

pub returns : goal.returns
returns c =
    let number = c.in_ok-push_u32-2.ensures ∙ ap (λ (n : ℕ). c.push_u32.new.bytes.items ++ big_endian 4 n) c.number.ensures in
    header_pushed c.args.header.now c.args.bytes.now.items c.extend_from_slice.new.self.items c.push_u32.new.bytes.items c.push_u32-2.new.bytes.items c.push_u64.new.bytes.items c.push_u64-2.new.bytes.items c.push_u32-3.new.bytes.items
    c.push_u32-4.new.bytes.items c.push_u32-5.new.bytes.items c.push_u32-6.new.bytes.items c.push_u64-3.new.bytes.items c.push_root_fields.new.bytes.items c.extend_from_slice-2.new.self.items c.extend_from_slice-3.new.self.items
    c.in_ok-extend_from_slice.ensures.items c.in_ok-push_u32.ensures number c.in_ok-push_u64.ensures c.in_ok-push_u64-2.ensures c.in_ok-push_u32-3.ensures c.in_ok-push_u32-4.ensures c.in_ok-push_u32-5.ensures c.in_ok-push_u32-6.ensures c.in_ok-push_u64-3.ensures
    c.in_ok-push_root_fields.ensures c.in_ok-extend_from_slice-2.ensures.items c.in_ok-extend_from_slice-3.ensures.items
