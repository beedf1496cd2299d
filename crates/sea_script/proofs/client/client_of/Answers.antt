use Rattle.std.proofs.Common.{◌≡◌, arith, sym, ◌∙◌}
use Rattle.sea_script.proofs.Numbers.{one_number}
use Rattle.sea_script.proofs.client.client_of.Goals.{else-number-ge1-via-then-number-ge1+else-number-le-CLIENTS, else-number-ge1-via-else-number-ge1}
use Rattle.sea_script.proofs.client.client_of.Goals as goal

pub returns-else-number-ge1 : goal.returns-else-number-ge1
returns-else-number-ge1 c =
    λ client is same.
    let equal : c.in_ok-number.number ≡ client = one_number c.in_ok-number.number client c.in_ok-number.ensures.0 (omega arith) (sym c.in_ok-number.ensures.1 ∙ same) in
    elim c.else-number-ge1.branch [
      | else-number-ge1-via-then-number-ge1+else-number-le-CLIENTS w ↦ omega (arith, w.if-number-le-CLIENTS.false, is.1)
      | else-number-ge1-via-else-number-ge1 w ↦ omega (arith, w.if-number-ge1.false, is.0)
    ]
