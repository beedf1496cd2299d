use Rattle.std.proofs.Common.{◌≡◌, ◌≤◌, [], ◌∷◌, ◌++◌, length, sym, ap, subst, arith, length-append}
use Rattle.std.proofs.lemmas.Option.{MatchOption-at_some, MatchOption-at_none}
use Rattle.sea_trail.specs.Trail.{AreParts, IsNumbered}
use Rattle.sea_trail.proofs.Joined.{AreParts-more}
use Rattle.sea_trail.proofs.Told.{missing}
use Rattle.sea_trail_trial.specs.Plain.{NoneNumbered}
use Rattle.sea_trail_trial.proofs.plain.closed.closed_of.Goals as goal

pub returns-in_default : goal.returns-in_default
returns-in_default c =
    let image = c.args.image.now in
    let segments = c.args.segments in
    let seq = c.loop-seq.seq in
    let before = c.loop-seq.invariant in
    let none = MatchOption-at_none (NoneNumbered image segments seq) (IsNumbered image segments seq) c.in_default.is c.in_ok-header.ensures in
    missing image segments c.args.newest.now c.loop-seq.parts.items seq c.requires.open_part before.parts before.counted c.loop-seq-test.true none

pub chain_of-requires-clause-few : goal.chain_of-requires-clause-few
chain_of-requires-clause-few c =
    let image = c.args.image.now in
    let segments = c.args.segments in
    let seq = c.loop-seq.seq in
    let is = MatchOption-at_some (NoneNumbered image segments seq) (IsNumbered image segments seq) c.in-Some.header c.in-Some.is c.in_ok-header.ensures in
    omega (arith, is.has.within, c.requires.few)

pub chain_of-requires-clause-within : goal.chain_of-requires-clause-within
chain_of-requires-clause-within c =
    let image = c.args.image.now in
    let segments = c.args.segments in
    let seq = c.loop-seq.seq in
    let is = MatchOption-at_some (NoneNumbered image segments seq) (IsNumbered image segments seq) c.in-Some.header c.in-Some.is c.in_ok-header.ensures in
    omega (arith, is.has.within, c.requires.within)

pub chain_of-requires-clause-stands : goal.chain_of-requires-clause-stands
chain_of-requires-clause-stands c =
    let image = c.args.image.now in
    let segments = c.args.segments in
    let seq = c.loop-seq.seq in
    let is = MatchOption-at_some (NoneNumbered image segments seq) (IsNumbered image segments seq) c.in-Some.header c.in-Some.is c.in_ok-header.ensures in
    is.has.stands

pub loop-seq-preserved : goal.loop-seq-preserved
loop-seq-preserved c =
    let image = c.args.image.now in
    let segments = c.args.segments in
    let seq = c.loop-seq.seq in
    let from = c.args.newest.now.last.tail.seq in
    let parts = c.loop-seq.parts.items in
    let part = c.in_ok-part.part in
    let before = c.loop-seq.invariant in
    let items : c.push.new.self.items ≡ parts ++ part ∷ [] = c.in_ok-push.ensures.items in
    let is = MatchOption-at_some (NoneNumbered image segments seq) (IsNumbered image segments seq) c.in-Some.header c.in-Some.is c.in_ok-header.ensures in
    let is' : IsNumbered image segments seq part.header = subst (IsNumbered image segments seq) (sym c.in_ok-part.ensures.header) is in
    record {
      parts = subst (AreParts image segments from) (sym items) (AreParts-more image segments from seq parts part before.counted before.parts is' c.in_ok-part.ensures.chain);
      counted = omega (arith, before.counted, ap length items, length-append parts (part ∷ []));
    }

pub returns : goal.returns
returns c =
    let newest = c.args.newest.now in
    let before = c.loop-seq.invariant in
    let le : c.loop-seq.seq ≤ newest.header.seq = c.loop-seq.auto.seq-end c.requires.behind in
    record { parts = before.parts; joined = omega (arith, before.counted, le, c.loop-seq-test.false) }
