use Rattle.sea_base.proofs.RootFields.{proot_pushed}
use Rattle.sea_base.proofs.root_fields.push_proot.Goals as goal

pub returns : goal.returns
returns c =
    proot_pushed c.args.root.now c.args.bytes.now.items c.push_u32.new.bytes.items c.push_u32-2.new.bytes.items c.push_u64.new.bytes.items
    c.in_ok-push_u32.ensures c.in_ok-push_u32-2.ensures c.in_ok-push_u64.ensures
