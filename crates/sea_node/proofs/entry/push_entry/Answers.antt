use Rattle.std.proofs.Common.{ℕ, ◌<◌, List, ◌++◌, length, arith, ap, ◌∙◌}
use Rattle.sea_node.proofs.EntryBytes.{entry_pushed}
use Rattle.sea_node.proofs.entry.push_entry.Goals as goal

pub returns : goal.returns
returns c =
    let small : length c.bytes.result.now < 256 = omega (arith, ap length c.bytes.ensures.bytes, c.bytes.ensures.name.1) in
    entry_pushed (length c.bytes.result.now) c.len.result c.args.bytes.now.items c.put_u16.new.bytes c.extend_from_slice.new.self.items c.extend_from_slice-2.new.self.items c.extend_from_slice-3.new.self.items c.args.key.now c.args.value.now
    (ap length c.bytes.ensures.bytes) c.len.ensures.value small c.put_u16.ensures c.in_ok-extend_from_slice.ensures.items
    (c.in_ok-extend_from_slice-2.ensures.items ∙ ap (λ (r : List ℕ). c.extend_from_slice.new.self.items ++ r) c.bytes-2.ensures.bytes)
    (c.in_ok-extend_from_slice-3.ensures.items ∙ ap (λ (r : List ℕ). c.extend_from_slice-2.new.self.items ++ r) c.bytes-3.ensures)
