use Rattle.std.proofs.Common.{inr, refl, sym, ◌∙◌}
use Rattle.sea_onode.proofs.Saving.{no_onode}
use Rattle.sea_onode.proofs.reading.find.Goals as goal

pub returns-clause-fault : goal.returns-clause-fault
returns-clause-fault g c =
    inr (refl, c.in_ok-value.ensures.whole, λ store content meets. no_onode _ c.bytes.result.now c.in-Some.value (sym (c.in_ok-value.ensures.value store content meets) ∙ c.in-Some.is) c.bytes.ensures c.in-None.ensures.only)
