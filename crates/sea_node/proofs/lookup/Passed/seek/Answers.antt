use Rattle.std.proofs.Common.{[], ◌∷◌, ◌++◌, Some, None, refl, arith}
use Rattle.std.proofs.lemmas.Bool.{false≢true}
use Rattle.sea_node.specs.declared.lookup.Passed.{Passed}
use Rattle.sea_node.specs.Reading.{entry_in}
use Rattle.sea_node.proofs.Keys.{IsNotAbove-not_below}
use Rattle.sea_node.proofs.Lookups.{entry_ends, ends_more, finds_found, finds_next}
use Rattle.sea_node.proofs.ReadLookups.{first_begun, first_passes, begun_more, passes_more}
use Rattle.sea_node.proofs.Leaps.{Seeks, seeks_on, seeks_far}
use Rattle.sea_node.proofs.lookup.Passed.seek.Goals as goal

pub returns-then-comes_before-clause-passed : goal.returns-then-comes_before-clause-passed
returns-then-comes_before-clause-passed c =
    let bytes = c.args.bytes.now in
    let len = c.requires.block in
    let first = c.args.first in
    let has = c.requires.first in
    let below = c.if-comes_before.ensures.0 refl in
    (entry_in bytes first ∷ [], first_begun bytes len c.args.level first has, first_passes bytes len c.args.level c.args.key.now first None (Some first) has ((below, tt), refl))

pub returns-then-comes_before-clause-spans : goal.returns-then-comes_before-clause-spans
returns-then-comes_before-clause-spans c =
    let bytes = c.args.bytes.now in
    let first = c.args.first in
    let here = c.requires.first.0.0 in
    record {
      front = omega (arith, entry_ends bytes (entry_in bytes first) 32 first.end c.requires.block (omega arith) c.requires.first.0.1);
      first_is = here;
      last_is = here;
      found_is = tt;
      next_is = here;
    }

pub seek-init : goal.seek-init
seek-init c =
    let bytes = c.args.bytes.now in
    let len = c.requires.block in
    let first = c.args.first in
    let has = c.requires.first in
    let e = entry_in bytes first in
    let le = IsNotAbove-not_below e.0 c.args.key.now (λ below. false≢true (c.if-comes_before.ensures.1 below)) in
    let begun : Seeks bytes c.args.level c.args.key.now first first = record {
      value = has.1;
      passed = (e ∷ [], first_begun bytes len c.args.level first has, first_passes bytes len c.args.level c.args.key.now first (Some first) None has (finds_found bytes c.args.key.now [] first le (ends_more bytes [] e 32 first.end len (omega arith) refl has.0.1)));
      front = omega (arith, entry_ends bytes e 32 first.end len (omega arith) has.0.1);
      span = has.0.0;
    } in
    seeks_far bytes len c.args.level c.first_word-below.result c.args.key.now first first c.leap-last.result c.first_word-below.ensures begun (c.leap-last.ensures.leaps c.args.level has.1)

pub returns-then-comes_before-2-clause-passed : goal.returns-then-comes_before-2-clause-passed
returns-then-comes_before-2-clause-passed c =
    let bytes = c.args.bytes.now in
    let len = c.requires.block in
    let last = c.seek.last in
    let entry = c.in-Some.entry in
    let was = c.seek.invariant.passed in
    let so_far : Passed = record { first = c.args.first; last = last; found = Some last; next = None } in
    let within = c.seek.invariant.span.within in
    let on = c.in-Some.ensures in
    let e = entry_in bytes entry in
    let below = c.if-comes_before-2.ensures.0 refl in (
      was.0 ++ e ∷ [],
      begun_more bytes len c.args.level was.0 c.args.key.now so_far was.1 was.2 within entry on,
      passes_more bytes len c.args.level was.0 c.args.key.now so_far was.1 was.2 within entry on (Some last) (Some entry) (finds_next bytes c.args.key.now was.0 (Some last) entry was.2.finds below),
    )

pub returns-then-comes_before-2-clause-spans : goal.returns-then-comes_before-2-clause-spans
returns-then-comes_before-2-clause-spans c =
    let bytes = c.args.bytes.now in
    let entry = c.in-Some.entry in
    let on = c.in-Some.ensures in
    record {
      front = omega (arith, entry_ends bytes (entry_in bytes entry) c.seek.last.end entry.end c.requires.block c.seek.invariant.span.within on.0.0.1, c.seek.invariant.front);
      first_is = c.requires.first.0.0;
      last_is = on.0.0.0;
      found_is = c.seek.invariant.span;
      next_is = on.0.0.0;
    }

pub seek-smaller : goal.seek-smaller
seek-smaller c =
    let bytes = c.args.bytes.now in
    let entry = c.in-Some.entry in
    let on = c.in-Some.ensures in
    let ends = entry_ends bytes (entry_in bytes entry) c.seek.last.end entry.end c.requires.block c.seek.invariant.span.within on.0.0.1 in
    let further = c.leap-last-in-Some.ensures.further in
    let within = c.leap-last-in-Some.ensures.span.within in omega arith

pub seek-preserved : goal.seek-preserved
seek-preserved c =
    let bytes = c.args.bytes.now in
    let len = c.requires.block in
    let entry = c.in-Some.entry in
    let on = c.in-Some.ensures in
    let le = IsNotAbove-not_below (entry_in bytes entry).0 c.args.key.now (λ below. false≢true (c.if-comes_before-2.ensures.1 below)) in
    seeks_far bytes len c.args.level c.first_word-below.result c.args.key.now c.args.first entry c.leap-last-in-Some.result c.first_word-below.ensures
    (seeks_on bytes len c.args.level c.args.key.now c.args.first c.seek.last entry c.seek.invariant on le) (c.leap-last-in-Some.ensures.leaps c.args.level on.0.1)
