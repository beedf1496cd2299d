use Rattle.std.proofs.Common.{◌≡◌, ℕ, ◌+◌, ◌*◌, ◌≤◌, List, ◌++◌, length, take, drop, sym, refl, ◌∙◌, ap, subst, arith}
use Rattle.std.proofs.lemmas.List.{take_at}
use Rattle.sea_device.specs.Device.{Torn, overwritten}
use Rattle.sea_device.specs.Moments.{Wrote}
use Rattle.sea_device.specs.Images.{AreBytes, overwritten_torn}
use Rattle.sea_device.specs.Laws.{whole_law}
use Rattle.sea_device.proofs.Grows.{new_bytes, goes_on_elapses, Torn-same, Follows-same, write_follows, write_reaches, write_keeps}
use Rattle.sea_device.proofs.memory.MemDeviceDevice.write.Goals as goal

-- what the vector holds after the write
held : (n at : ℕ) (bytes old lent new : List ℕ) → n ≡ length old → at + length bytes ≤ length old → AreBytes bytes → AreBytes old → lent ≡ old → new ≡ overwritten at bytes lent → take n (new ++ drop (length new) old) ≡ overwritten at bytes old
held n at bytes old lent new size within fb fo same is =
    let whole : new ≡ overwritten at bytes old = is ∙ ap (overwritten at bytes) same in
    let torn : Torn at (length bytes) old (overwritten at bytes old) = overwritten_torn at bytes old within fb fo in
    take_at new (drop (length new) old) n (ap length whole ∙ torn.size ∙ sym size) ∙ whole

pub returns-then-strikes-clause-within : goal.returns-then-strikes-clause-within
returns-then-strikes-clause-within c =
    let self = c.args.self.now in
    Torn-same (4096 * c.args.at.0) (length c.args.bytes.now) self.bytes.items (whole_law self.blocks self.past self.bytes.items self.bytes.items self.size self.current refl).fits

pub returns-then-strikes-clause-images : goal.returns-then-strikes-clause-images
returns-then-strikes-clause-images c =
    let self = c.args.self.now in
    Follows-same self.blocks (4096 * c.args.at.0) (length c.args.bytes.now) self.past self.size

pub invariant_of-self-2-clause-current : goal.invariant_of-self-2-clause-current
invariant_of-self-2-clause-current c =
    let self = c.args.self.now in
    let at = 4096 * c.args.at.0 in
    let within : at + length c.args.bytes.now ≤ length self.bytes.items = omega (arith, c.requires.within, self.bytes_size) in
    let fresh : AreBytes c.args.bytes.now = λ i. omega (arith, c.type_inv.bytes i) in
    let fits = (whole_law self.blocks self.past self.bytes.items self.bytes.items self.size self.current refl).fits in
    held self.bytes.len at c.args.bytes.now self.bytes.items c.deref_mut.result.now c.overwrite.new.old self.bytes.ok.0 within fresh fits c.deref_mut.ensures.value c.overwrite.ensures
    ∙ ap (overwritten at c.args.bytes.now) self.current ∙ sym (new_bytes self.past c.write.new.self (Wrote at c.args.bytes.now) c.write.ensures.goes_on)

pub returns-clause-within : goal.returns-clause-within
returns-clause-within c =
    let self = c.args.self.now in
    let at = 4096 * c.args.at.0 in
    let within : at + length c.args.bytes.now ≤ length self.bytes.items = omega (arith, c.requires.within, self.bytes_size) in
    let fresh : AreBytes c.args.bytes.now = λ i. omega (arith, c.type_inv.bytes i) in
    let fits = (whole_law self.blocks self.past self.bytes.items self.bytes.items self.size self.current refl).fits in
    let is = held self.bytes.len at c.args.bytes.now self.bytes.items c.deref_mut.result.now c.overwrite.new.old self.bytes.ok.0 within fresh fits c.deref_mut.ensures.value c.overwrite.ensures in
    subst (Torn at (length c.args.bytes.now) self.bytes.items) (sym is) (overwritten_torn at c.args.bytes.now self.bytes.items within fresh fits)

pub returns-clause-images : goal.returns-clause-images
returns-clause-images c = write_follows c.args.self.now.past c.write.new.self (4096 * c.args.at.0) c.args.bytes.now c.write.ensures.goes_on

pub returns-clause-torn : goal.returns-clause-torn
returns-clause-torn c = write_reaches c.args.self.now.past c.write.new.self (4096 * c.args.at.0) c.args.bytes.now c.write.ensures.goes_on

pub returns-clause-unwritten : goal.returns-clause-unwritten
returns-clause-unwritten c =
    let self = c.args.self.now in
    write_keeps self.blocks self.past c.write.new.self (4096 * c.args.at.0) c.args.bytes.now self.size c.write.ensures.goes_on

pub returns-clause-time : goal.returns-clause-time
returns-clause-time c = goes_on_elapses c.args.self.now.past c.write.new.self (Wrote (4096 * c.args.at.0) c.args.bytes.now) c.write.ensures.goes_on
