use Rattle.std.proofs.Common.{◌≡◌, ◌+◌, ◌-◌, ◌∙◌, length, refl, sym, arith}
use Rattle.std.proofs.lemmas.Bool.{false≢true}
use Rattle.std.proofs.lemmas.Option.{slice_get_read}
use Rattle.sea_plain.proofs.request.check.Goals as goal

-- the first operation that fails its test is the first beyond the limits
pub returns-then-not-is_within_limits-clause-refused : goal.returns-then-not-is_within_limits-clause-refused
returns-then-not-is_within_limits-clause-refused c =
    let i = c.loop-index.index in
    let ops = c.args.ops.now in
    let back : i + 1 - 1 ≡ i = omega arith in (
      omega arith,
      record {
        counted = omega arith;
        before = rw back c.loop-index.invariant.each;
        beyond = (c.index-ops-index.result, rw back (slice_get_read ops (length ops) i c.index-ops-index.result refl c.loop-index-test.true c.index-ops-index.is), λ within. false≢true (sym c.if-not-is_within_limits.true ∙ c.is_within_limits.ensures.1 within));
      },
    )
