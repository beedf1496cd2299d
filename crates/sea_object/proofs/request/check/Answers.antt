use Rattle.std.proofs.Common.{◌≡◌, ◌+◌, ◌-◌, ◌∙◌, length, refl, sym, arith}
use Rattle.std.proofs.lemmas.Bool.{false≢true}
use Rattle.std.proofs.lemmas.Option.{slice_get_read}
use Rattle.sea_object.proofs.request.check.Goals as goal

-- the first operation that fails a test is the first beyond its limits
pub returns-then-not-has_good_range-clause-refused : goal.returns-then-not-has_good_range-clause-refused
returns-then-not-has_good_range-clause-refused c =
    let i = c.loop-index.index in
    let ops = c.args.ops.now in
    let back : i + 1 - 1 ≡ i = omega arith in (
      omega arith,
      record {
        counted = omega arith;
        before = rw back c.loop-index.invariant.each;
        beyond = (c.index-ops-index.result, rw back (slice_get_read ops (length ops) i c.index-ops-index.result refl c.loop-index-test.true c.index-ops-index.is), λ good. false≢true (sym c.if-not-has_good_range.true ∙ c.has_good_range.ensures.1 good));
      },
    )

pub returns-then-not-has_good_values-clause-refused : goal.returns-then-not-has_good_values-clause-refused
returns-then-not-has_good_values-clause-refused c =
    let i = c.loop-index.index in
    let ops = c.args.ops.now in
    let back : i + 1 - 1 ≡ i = omega arith in (
      omega arith,
      record {
        counted = omega arith;
        before = rw back c.loop-index.invariant.each;
        beyond = (
          c.index-ops-index.result,
          rw back (slice_get_read ops (length ops) i c.index-ops-index.result refl c.loop-index-test.true c.index-ops-index.is),
          (c.has_good_range.ensures.0 c.if-not-has_good_range.false, λ good. false≢true (sym c.if-not-has_good_values.true ∙ c.has_good_values.ensures.1 good)),
        );
      },
    )
