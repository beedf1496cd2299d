use Rattle.std.proofs.Common.{◌-◌, arith}
use Rattle.sea_formed.proofs.share.is_data.Goals as goal

pub returns : goal.returns
returns c = λ h.
    let range = c.is_in_range.ensures.0 c.if-not-is_in_range.false in
    (c.args.at - c.args.onode.now.base.0 - 2, omega arith, omega (arith, range.0, c.if-at-onode-lt2.false))
