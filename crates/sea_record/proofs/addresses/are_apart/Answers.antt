use Rattle.std.proofs.Common.{◌≡◌, ◌<◌, ◌≤◌, ℕ, arith}
use Rattle.sea_record.proofs.AddressOrders.{passed_none, passed_second}
use Rattle.sea_record.proofs.addresses.are_apart.Goals as goal

pub loop-i-init : goal.loop-i-init
loop-i-init c = passed_none c.args.first.now c.args.second.now

pub loop-i-preserved : goal.loop-i-preserved
loop-i-preserved c = passed_second c.args.first.now c.args.second.now c.loop-i.i c.loop-i.j c.requires.first (omega arith) (less _ _ c.if-first-i-2.false c.if-first-i.false) c.loop-i.invariant
  where
    less : (x y : ℕ) → y ≤ x → (x ≡ y → ⊥) → y < x
    less x y le differ = omega arith
