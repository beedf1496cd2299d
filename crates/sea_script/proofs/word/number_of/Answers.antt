use Rattle.std.proofs.Common.{◌≡◌, ℕ, take, get_or, ap, subst, ◌∙◌, arith}
use Rattle.std.proofs.lemmas.Grind.{common_steps}
use Rattle.std.specs.Str.Parse.{AllDigits, digits_value}
use Rattle.sea_script.proofs.Numbers.{spelled_shape, spelled_digits, spelled_value, value_short, value_more, zero_is, no_shape, no_digit, shape_of}
use Rattle.sea_script.proofs.Spelling.{some_left, none_left}
use Rattle.sea_script.proofs.word.number_of.Goals as goal

pub returns-in_err-first : goal.returns-in_err-first
returns-in_err-first c =
    rw c.from_residual.ensures (λ (n : ℕ) small is. let shape = spelled_shape c.args.word.now n small is in omega (arith, shape.some, c.in_err-first.ensures.cases))

pub returns-then-is_empty : goal.returns-then-is_empty
returns-then-is_empty c =
    (omega arith, zero_is c.args.word.now c.in_ok-first.first.now c.in_ok-first.others.now c.in_ok-first.ensures.cases.0 c.if-first-eq48.true (none_left c.in_ok-first.others.now c.if-is_empty.ensures))

pub returns-else-is_empty : goal.returns-else-is_empty
returns-else-is_empty c =
    λ n small is. no_shape c.args.word.now c.in_ok-first.first.now c.in_ok-first.others.now n c.in_ok-first.ensures.cases.0 c.if-first-eq48.true (some_left c.in_ok-first.others.now c.if-is_empty.ensures) small is

pub returns-then-word-gt9 : goal.returns-then-word-gt9
returns-then-word-gt9 c = λ n small is. let shape = spelled_shape c.args.word.now n small is in omega (arith, shape.few, c.if-word-gt9.true)

pub returns-then-not-is_ascii_digit : goal.returns-then-not-is_ascii_digit
returns-then-not-is_ascii_digit c =
    λ n small is. let within = spelled_digits c.args.word.now n c.loop-digit.digit-index small is c.loop-digit-test.true in let out = c.if-not-is_ascii_digit.ensures.cases in no_digit (get_or c.args.word.now c.loop-digit.digit-index 0) within out

pub overflow_mul-value : goal.overflow_mul-value
overflow_mul-value c =
    let short = value_short c.args.word.now c.loop-digit.digit-index c.loop-digit.invariant.digits (omega arith) in omega (arith, short, c.loop-digit.invariant.value)

pub overflow_add-value : goal.overflow_add-value
overflow_add-value c =
    let short = value_short c.args.word.now c.loop-digit.digit-index c.loop-digit.invariant.digits (omega arith) in let digit = c.if-not-is_ascii_digit.ensures.cases in omega (arith, short, c.loop-digit.invariant.value, c.from.ensures, digit)

pub loop-digit-preserved : goal.loop-digit-preserved
loop-digit-preserved c =
    let digit = c.if-not-is_ascii_digit.ensures.cases in
    let more = value_more c.args.word.now c.loop-digit.digit-index c.loop-digit.value c.from.result c.loop-digit-test.true c.loop-digit.invariant.digits c.loop-digit.invariant.value digit.0 digit.1 c.from.ensures in
    record { digits = more.0; value = more.1 }

pub returns : goal.returns
returns c =
    let word = c.args.word.now in
    let all : take c.loop-digit.digit-index word ≡ word = grind (arith, common_steps) in
    let digits : AllDigits 10 word = subst (AllDigits 10) all c.loop-digit.invariant.digits in
    let value : c.loop-digit.value ≡ digits_value 10 word = c.loop-digit.invariant.value ∙ ap (digits_value 10) all in
    let whole = c.in_ok-first.ensures.cases in
    let spelled = spelled_value word digits (shape_of word c.in_ok-first.first.now c.in_ok-first.others.now whole.0 (omega (arith, c.if-word-gt9.false)) c.if-first-eq48.false) in
    rw value spelled
