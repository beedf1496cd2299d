use Rattle.std.proofs.Common.{sym, ap, subst}
use Rattle.std.specs.FinMap as map
use Rattle.sea_pieces.specs.Addresses.{AreApart}
use Rattle.sea_pieces.proofs.Apart.{none_apart}
use Rattle.sea_pieces.proofs.addresses.Addresses.new.Goals as goal

pub invariant_of-result : goal.invariant_of-result
invariant_of-result c =
    subst AreApart (sym (ap (λ entries. map.from_entries entries) c.new.ensures.empty)) none_apart
