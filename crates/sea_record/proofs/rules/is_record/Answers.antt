use Rattle.std.proofs.Common.{Bool, refl, subst}
use Rattle.std.specs.List.{All}
use Rattle.std.specs.Prelude.{IsTrue, ◌↔◌}
use Rattle.std.proofs.lemmas.Result.{IfOk-weaker}
use Rattle.sea_record.specs.Parts.{HasSum}
use Rattle.sea_record.specs.Record.{IsRecord, HasAddresses}
use Rattle.sea_record.proofs.RecordRules.{record_is}
use Rattle.sea_record.proofs.rules.is_record.Goals as goal

pub returns : goal.returns
returns c =
    let r = c.args.record.now in
    IfOk-weaker c.has_addresses.result (λ (yes : Bool). IsTrue yes ↔ HasAddresses r.root.next.0 r.body) (λ (yes : Bool). IsTrue yes ↔ IsRecord r)
    (λ yes told. (
      λ t. record_is r c.requires (c.if-not-has_numbers.ensures.0 refl) (c.if-not-is_of_kind.ensures.0 refl) (subst (All HasSum) c.items.ensures (c.if-not-have_sums.ensures.0 refl)) (told.0 t),
      λ is. told.1 is.addresses,
    ))
    c.has_addresses.ensures
