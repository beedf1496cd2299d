use Rattle.std.proofs.Common.{ℕ, sym, ◌∙◌}
use Rattle.sea_script.proofs.Spelling.{escaped_in_front, behind_percent, plain_in_front, plain_small, nothing_in_front, plain_behind_percent, not_in_nothing, byte_not_empty}
use Rattle.sea_script.proofs.word.name_byte.Goals as goal

pub returns-in_err-first : goal.returns-in_err-first
returns-in_err-first c =
    rw c.from_residual.ensures (λ (b : ℕ) rest small same. byte_not_empty b rest (not_in_nothing c.args.text.now c.in_err-first.ensures.cases ∙ same))

pub returns-in_err-byte : goal.returns-in_err-byte
returns-in_err-byte c =
    rw c.from_residual-in_err-byte.ensures
    (λ (b : ℕ) rest small same. c.in_err-byte.ensures b rest small (behind_percent c.args.text.now c.in_ok-first.first.now c.in_ok-first.others.now b rest c.in_ok-first.ensures.cases.0 c.if-first-eq37.true same).1)

pub returns-then-stands_for_itself : goal.returns-then-stands_for_itself
returns-then-stands_for_itself c =
    λ b rest small same. plain_behind_percent c.args.text.now c.in_ok-first.first.now c.in_ok-first.others.now c.in_ok-byte.byte c.in_ok-byte.rest.now b rest c.in_ok-first.ensures.cases.0 c.if-first-eq37.true c.in_ok-byte.ensures.0 c.in_ok-byte.ensures.1 (sym c.if-stands_for_itself.ensures) small same

pub returns-else-stands_for_itself : goal.returns-else-stands_for_itself
returns-else-stands_for_itself c = (c.in_ok-byte.ensures.0, escaped_in_front c.args.text.now c.in_ok-first.first.now c.in_ok-first.others.now c.in_ok-byte.byte c.in_ok-byte.rest.now c.in_ok-first.ensures.cases.0 c.if-first-eq37.true c.in_ok-byte.ensures.1 (sym c.if-stands_for_itself.ensures))

pub returns-then-stands_for_itself-2 : goal.returns-then-stands_for_itself-2
returns-then-stands_for_itself-2 c =
    let same = c.in_ok-first.ensures.cases.0 in
    let plain = sym c.if-stands_for_itself-2.ensures in
    (plain_small c.in_ok-first.first.now plain, plain_in_front c.args.text.now c.in_ok-first.first.now c.in_ok-first.others.now same plain)

pub returns-else-stands_for_itself-2 : goal.returns-else-stands_for_itself-2
returns-else-stands_for_itself-2 c =
    λ b rest small same. nothing_in_front c.args.text.now c.in_ok-first.first.now c.in_ok-first.others.now b rest c.in_ok-first.ensures.cases.0 c.if-first-eq37.false (sym c.if-stands_for_itself-2.ensures) same
