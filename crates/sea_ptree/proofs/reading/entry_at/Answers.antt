use Rattle.std.proofs.Common.{◌≡◌, ◌+◌, ◌*◌, sym, ◌∙◌, arith}
use Rattle.std.specs.Prelude.{slice_range}
use Rattle.sea_ptree.proofs.EntryBytes.{fields_read}
use Rattle.sea_ptree.proofs.reading.entry_at.Goals as goal

pub returns-clause-spelled : goal.returns-clause-spelled
returns-clause-spelled c =
    let at = 32 + 28 * c.args.index in
    let end : 60 + 28 * c.args.index ≡ at + 28 = omega arith in
    (λ i. slice_range (sym c.bytes-bytes.ensures.bytes i) at (end i)) ∙ fields_read c.bytes-bytes.result.now at _ c.u64_at-3.ensures.spelled c.u32_at.ensures.spelled c.u64_at.ensures.spelled c.u64_at-2.ensures.spelled
