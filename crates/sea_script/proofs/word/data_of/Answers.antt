use Rattle.std.proofs.Common.{refl}
use Rattle.sea_script.proofs.Spelling.{pairs_read, shorter, data_front, data_stuck, data_whole, not_in_nothing, some_left, none_left}
use Rattle.sea_script.specs.Word.{pair_text}
use Rattle.sea_script.proofs.word.data_of.Goals as goal

pub returns-in_default : goal.returns-in_default
returns-in_default c =
    (λ bytes fits. let front = data_front c.args.word.now bytes fits.1 in let none = not_in_nothing c.args.word.now c.in_default.ensures.cases in cc, refl)

pub returns-then-first-ne120 : goal.returns-then-first-ne120
returns-then-first-ne120 c =
    (λ bytes fits. let front = data_front c.args.word.now bytes fits.1 in let whole = c.in-Some.ensures.cases.0 in c.if-first-ne120.true (cc), refl)

pub loop-rest-smaller : goal.loop-rest-smaller
loop-rest-smaller c = shorter pair_text pairs_read c.loop-rest.rest.now c.in-Some-pair.byte c.in-Some-pair.others.now c.in-Some-pair.ensures.1

pub returns-in_default-pair : goal.returns-in_default-pair
returns-in_default-pair c =
    (λ bytes fits. data_stuck c.args.word.now c.loop-rest.bytes.items c.loop-rest.rest.now bytes c.loop-rest.invariant.bytes fits.0 c.loop-rest.invariant.read fits.1 c.in_default-pair.ensures (some_left c.loop-rest.rest.now c.loop-rest-test.ensures), refl)

pub returns : goal.returns
returns c =
    let made = c.in_ok-from_vec.ensures in
    rw made (c.loop-rest.invariant.bytes, data_whole c.args.word.now c.loop-rest.bytes.items c.loop-rest.rest.now c.loop-rest.invariant.read (none_left c.loop-rest.rest.now c.loop-rest-test.ensures))
