use Rattle.std.proofs.Common.{◌≡◌, true, false, ap, sym, ◌∙◌, take, [], arith}
use Rattle.std.proofs.lemmas.List.{take_all}
use Rattle.std.specs.Prelude.{filter, not, ◌&&◌}
use Rattle.std.proofs.lemmas.Bool.{false≢true}
use Rattle.std.specs.FinMap as map
use Rattle.std.specs.Ordering.{is_lt}
use Rattle.sea_object.specs.Held.{values_in}
use Rattle.sea_object.specs.Objects.{is_from}
use Rattle.sea_object.proofs.Order.{filter_none, none_between, is_less}
use Rattle.sea_object.proofs.values.Values.keys_between.Goals as goal

pub keys_in-requires : goal.keys_in-requires
keys_in-requires c = is_less _ (sym c.is_below.ensures ∙ c.if-is_below.true)

pub returns-else-is_below : goal.returns-else-is_below
returns-else-is_below c =
    let from = c.args.from.now in
    let to = c.args.to.now in
    c.new.ensures
    ∙ sym (ap (take c.args.bound) (filter_none (λ key. is_from from key && not (is_from to key)) (none_between from to (λ less. false≢true (sym c.if-is_below.false ∙ c.is_below.ensures ∙ ap is_lt less))) (map.keys (values_in c.args.self.now))) ∙ take_all c.args.bound [] (omega arith))
