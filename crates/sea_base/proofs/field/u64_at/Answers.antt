use Rattle.std.proofs.Common.{arith, ◌∙◌}
use Rattle.sea_base.proofs.Fields.{field_spelled, field_only}
use Rattle.sea_base.proofs.field.u64_at.Goals as goal

pub returns-clause-spelled : goal.returns-clause-spelled
returns-clause-spelled c =
    rw c.read_u64.ensures (field_spelled 8 c.args.at c.args.bytes.now c.requires (λ i. omega (arith, c.type_inv.bytes i)))

pub returns-clause-only : goal.returns-clause-only
returns-clause-only c n below e =
    c.read_u64.ensures ∙ field_only 8 c.args.at c.args.bytes.now c.requires (λ i. omega (arith, c.type_inv.bytes i)) n below e
