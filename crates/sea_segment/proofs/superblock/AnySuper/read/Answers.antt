use Rattle.std.proofs.Common.{◌≡◌, length, subst, sym, ap, refl, ◌∙◌, arith}
use Rattle.std.proofs.lemmas.Bool.{false≢true}
use Rattle.sea_segment.specs.Superblock.{IsSuperShape}
use Rattle.sea_segment.proofs.Supers.{super_shape, super_read}
use Rattle.sea_segment.proofs.superblock.AnySuper.read.Goals as goal

pub returns-then-not-is_shape-clause-none : goal.returns-then-not-is_shape-clause-none
returns-then-not-is_shape-clause-none c = λ format segments spells.
    false≢true (c.if-not-is_shape.ensures.1 (subst IsSuperShape (sym c.bytes-bytes.ensures.bytes) (super_shape c.args.block.now format segments spells)))

pub returns-clause-some : goal.returns-clause-some
returns-clause-some c =
    let same = c.bytes-bytes.ensures.bytes in
    let whole : length c.bytes-bytes.result.now ≡ 4096 = ap length same ∙ c.bytes-bytes.ensures.length in
    record {
      format_fits = omega arith;
      segments_fit = omega arith;
      spelled = sym same ∙ super_read c.bytes-bytes.result.now c.u32_at.result c.u32_at-2.result whole (c.if-not-is_shape.ensures.0 refl) c.u32_at.ensures.spelled c.u32_at-2.ensures.spelled;
    }
