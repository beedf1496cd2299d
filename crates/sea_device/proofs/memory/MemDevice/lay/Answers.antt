use Rattle.std.proofs.Common.{◌≡◌, ℕ, ◌+◌, ◌*◌, ◌≤◌, List, length, get_or, sym, ◌∙◌, ap, subst, inl, inr, arith}
use Rattle.std.proofs.lemmas.Bool.{cases_lt}
use Rattle.std.proofs.lemmas.List.{get_or_past}
use Rattle.sea_device.specs.Device.{overwritten}
use Rattle.sea_device.specs.Images.{AreBytes}
use Rattle.sea_device.specs.Laws.{left_image}
use Rattle.sea_device.specs.Past.{MayLeaveOf}
use Rattle.sea_device.proofs.Crashes.{block_within, laid_left}
use Rattle.sea_device.proofs.Torn.{inside_overwritten}
use Rattle.sea_device.proofs.memory.MemDevice.lay.Goals as goal

-- what was laid over is bytes, as the whole is
AreBytes-laid : (at : ℕ) (bytes old : List ℕ) → at + length bytes ≤ length old → AreBytes (overwritten at bytes old) → AreBytes bytes
AreBytes-laid at bytes old within fits i =
    elim (cases_lt i (length bytes)) [
      | inl lt ↦ (
          let is : get_or (overwritten at bytes old) (at + i) 0 ≡ get_or bytes i 0 = inside_overwritten at bytes old within (at + i) (omega arith) (omega arith) ∙ ap (λ (k : ℕ). get_or bytes k 0) (omega arith) in
          rw (← is) (fits (at + i)))
      | inr le ↦ rw (get_or_past bytes i 0 le) (omega arith)
    ]

pub overwrite-requires : goal.overwrite-requires
overwrite-requires c =
    let self = c.args.self.now in
    let size : length c.bytes.result.now ≡ 4096 = ap length c.bytes.ensures.bytes ∙ c.bytes.ensures.length in
    let whole = left_image self.blocks self.past self.size c.args.moment c.args.image.now c.requires.image in
    omega (arith, size, whole.size, block_within self.blocks self.past self.size c.args.moment c.args.at.0 c.requires.unsynced)

pub returns-clause-image : goal.returns-clause-image
returns-clause-image c =
    let self = c.args.self.now in
    let image = c.args.image.now in
    let bytes = c.bytes.result.now in
    let at = 4096 * c.args.at.0 in
    let size : length bytes ≡ 4096 = ap length c.bytes.ensures.bytes ∙ c.bytes.ensures.length in
    let whole = left_image self.blocks self.past self.size c.args.moment image c.requires.image in
    let within : at + length bytes ≤ length image = omega (arith, size, whole.size, block_within self.blocks self.past self.size c.args.moment c.args.at.0 c.requires.unsynced) in
    let all : AreBytes (overwritten at bytes image) = subst AreBytes c.overwrite.ensures (λ i. omega (arith, c.type_inv.image i)) in
    subst (MayLeaveOf self.past c.args.moment) (sym c.overwrite.ensures) (laid_left self.blocks self.past self.size c.args.moment c.args.at.0 bytes size (AreBytes-laid at bytes image within all) c.requires.unsynced image c.requires.image)
