use Rattle.sea_base.proofs.RootFields.{roots_pushed}
use Rattle.sea_base.proofs.root_fields.push_root_fields.Goals as goal

pub returns : goal.returns
returns c =
    roots_pushed c.args.tail.now c.args.root.now c.args.bytes.now.items c.push_u64.new.bytes.items c.push_u32.new.bytes.items c.push_u32-2.new.bytes.items c.push_proot.new.bytes.items c.push_proot-2.new.bytes.items c.push_u64-2.new.bytes.items
    c.in_ok-push_u64.ensures c.in_ok-push_u32.ensures c.in_ok-push_u32-2.ensures c.in_ok-push_proot.ensures c.in_ok-push_proot-2.ensures c.in_ok-push_u64-2.ensures
