use Rattle.std.proofs.Common.{◌/◌, ◌%◌, ℕ, arith}
use Rattle.sea_script.proofs.Spelling.{pair_reads, pair_from_digits}
use Rattle.sea_script.proofs.word.pair.Goals as goal

pub returns-in_default : goal.returns-in_default
returns-in_default c = λ b rest small same. let reads = pair_reads c.args.text.now b rest same in omega (arith, reads.2, c.in_default.len_below)

pub returns-in_err-digit : goal.returns-in_err-digit
returns-in_err-digit c =
    rw c.from_residual.ensures (λ (b : ℕ) rest small same. c.in_err-digit.ensures (b / 16) (omega arith) (pair_reads c.args.text.now b rest same).0)

pub returns-in_err-byte : goal.returns-in_err-byte
returns-in_err-byte c =
    rw c.from_residual-in_err-byte.ensures (λ (b : ℕ) rest small same. c.in_err-byte.ensures (b % 16) (omega arith) (pair_reads c.args.text.now b rest same).1)

pub returns : goal.returns
returns c =
    let high = c.in_ok-digit.ensures in
    let low = c.in_ok-byte.ensures in
    (omega (arith, high.0, low.0), pair_from_digits c.args.text.now c.in_ok-digit.field-0 c.in_ok-byte.field-0 c.in-len2-up.len_at_least high.0 low.0 high.1 low.1)
