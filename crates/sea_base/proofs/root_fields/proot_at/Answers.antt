use Rattle.sea_base.proofs.RootFields.{proot_read}
use Rattle.sea_base.proofs.root_fields.proot_at.Goals as goal

pub returns-clause-spelled : goal.returns-clause-spelled
returns-clause-spelled c =
    proot_read c.args.bytes.now c.args.at c.u32_at.result c.u32_at-2.result c.u64_at.result c.u32_at.ensures.spelled c.u32_at-2.ensures.spelled c.u64_at.ensures.spelled
