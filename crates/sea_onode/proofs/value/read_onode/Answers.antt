use Rattle.std.proofs.Common.{ap, ◌∙◌, Some, length, arith}
use Rattle.sea_onode.proofs.Spelling.{length-onode_bytes, onode_read, same_onode}
use Rattle.sea_onode.proofs.value.read_onode.Goals as goal

pub returns-then-bytes-ne-ONODE_BYTES-clause-only : goal.returns-then-bytes-ne-ONODE_BYTES-clause-only
returns-then-bytes-ne-ONODE_BYTES-clause-only c onode spells = absurd (c.if-bytes-ne-ONODE_BYTES.true (ap length spells.spelled ∙ length-onode_bytes onode))

pub returns-clause-spelled : goal.returns-clause-spelled
returns-clause-spelled c = record {
  base = omega arith;
  size = omega arith;
  attrs = omega arith;
  keys = omega arith;
  spelled = onode_read c.args.bytes.now (record { base = record { 0 = c.u64_at.result }; size = c.u32_at.result; attrs = c.u32_at-2.result; keys = c.u32_at-3.result }) c.if-bytes-ne-ONODE_BYTES.false c.u64_at.ensures.spelled c.u32_at.ensures.spelled c.u32_at-2.ensures.spelled c.u32_at-3.ensures.spelled;
}

pub returns-clause-only : goal.returns-clause-only
returns-clause-only c onode spells = ap Some (same_onode c.args.bytes.now _ onode (returns-clause-spelled c) spells)
