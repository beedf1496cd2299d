use Rattle.std.proofs.Common.{inr, sym, subst, arith}
use Rattle.std.specs.List.{Contains}
use Rattle.std.proofs.lemmas.List.Elements.{Contains-get_or}
use Rattle.sea_formed.specs.declared.object.Held.{Held}
use Rattle.sea_formed.proofs.share.has_use.Goals as goal

pub returns-then-is_data : goal.returns-then-is_data
returns-then-is_data c = λ h.
    let has = subst (λ (one : Held). Contains c.args.held.now one) (sym c.one-item.is) (Contains-get_or c.args.held.now c.loop-one.one-index c.one-item.result (omega arith)) in
    inr (c.one-item.result, has, c.is_data.ensures c.if-is_data.true)
