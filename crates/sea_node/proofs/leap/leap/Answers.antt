use Rattle.std.proofs.Common.{◌≡◌, ◌<◌, ◌≤◌, ◌+◌, ◌-◌, ◌^◌, ℕ, take, sym, ap, subst, ◌∙◌, arith}
use Rattle.std.specs.Prelude.{slice_range}
use Rattle.sea_base.specs.Field.{big_endian}
use Rattle.sea_node.specs.declared.reading.Span.{Span}
use Rattle.sea_node.specs.Reading.{IsSpan, key_in}
use Rattle.sea_node.specs.Leap.{Leaps, Stays, Goes, moved_to}
use Rattle.sea_node.proofs.Leaps.{moved_self, word_in, like_goes}
use Rattle.sea_node.proofs.leap.leap.Goals as goal

pub returns-then-first-lt-WORD_BYTES-clause-leaps : goal.returns-then-first-lt-WORD_BYTES-clause-leaps
returns-then-first-lt-WORD_BYTES-clause-leaps c level value = Stays

pub leap-init : goal.leap-init
leap-init c =
    let bytes = c.args.bytes.now in
    let first = c.args.first in
    let self = sym (moved_self bytes first c.requires.first) in
    record {
      leaps = λ level value. subst (Leaps bytes level c.args.below first) self Stays;
      span = subst (IsSpan bytes) self c.requires.first;
      further = omega arith;
      word = subst (λ (s : Span). take 8 (key_in bytes s) ≡ big_endian 8 c.u64_at-word.result) self (word_in bytes first c.u64_at-word.result (omega (arith, c.if-first-lt-WORD_BYTES.false)) c.u64_at-word.ensures.spelled);
    }

pub leap-preserved : goal.leap-preserved
leap-preserved c =
    let bytes = c.args.bytes.now in
    let len = c.requires.block in
    let first = c.args.first in
    let so_far = c.leap.invariant in
    let next = moved_to first (c.leap.end + (3 + (first.end - first.key_at))) in
    let spans = c.is_like.ensures c.leap-test.true in
    let order = c.requires.first.key_first in
    let then = c.requires.first.value_then in
    let at : next.key_at ≡ c.leap.end + 3 = omega (arith, order, then) in
    let long : 8 ≤ next.value_at - next.key_at = omega (arith, order, then, c.if-first-lt-WORD_BYTES.false) in
    let word = word_in bytes next c.u64_at-its.result long (ap (λ (k : ℕ). slice_range bytes k (k + 8)) at ∙ c.u64_at-its.ensures.spelled) in
    let low : c.u64_at-its.result < 2 ^ 64 = omega arith in
    record {
      leaps = λ level value.
          Goes (moved_to first c.leap.end) next (so_far.leaps level value)
          (like_goes bytes len first c.requires.first c.leap.end so_far.further level c.leap.word c.u64_at-its.result (omega (arith, c.if-its-word.false)) low so_far.word word value spans) (c.u64_at-its.result, omega (arith, c.if-its-below.false), word);
      span = spans.0;
      further = omega (arith, so_far.further);
      word = word;
    }
