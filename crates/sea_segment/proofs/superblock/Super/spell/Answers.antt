use Rattle.std.proofs.Common.{◌≡◌, length, ap, arith, ◌∙◌}
use Rattle.std.proofs.lemmas.Result.{IfOk-weaker}
use Rattle.sea_segment.specs.Seal.{sealed}
use Rattle.sea_segment.specs.Superblock.{SpellsSuper}
use Rattle.sea_segment.proofs.Supers.{super_written, length-super_front}
use Rattle.sea_segment.proofs.superblock.Super.spell.Goals as goal

pub seal-requires : goal.seal-requires
seal-requires c =
    let segments = c.args.self.now.segments in
    let written = super_written 1 segments c.in_ok-front.front.items c.extend_from_slice.new.self.items c.push_u32.new.bytes.items c.push_u32-2.new.bytes.items c.extend_from_slice-2.new.self.items c.in_ok-front.ensures.items c.in_ok-extend_from_slice.ensures.items c.in_ok-push_u32.ensures c.in_ok-push_u32-2.ensures c.in_ok-extend_from_slice-2.ensures.items in
    omega (arith, ap length written, length-super_front 1 segments, c.extend_from_slice-2.new.self.ok.0)

pub returns : goal.returns
returns c =
    let segments = c.args.self.now.segments in
    let written = super_written 1 segments c.in_ok-front.front.items c.extend_from_slice.new.self.items c.push_u32.new.bytes.items c.push_u32-2.new.bytes.items c.extend_from_slice-2.new.self.items c.in_ok-front.ensures.items c.in_ok-extend_from_slice.ensures.items c.in_ok-push_u32.ensures c.in_ok-push_u32-2.ensures c.in_ok-extend_from_slice-2.ensures.items in
    IfOk-weaker c.seal.result (λ block. block ≡ sealed c.extend_from_slice-2.new.self.items) (λ block. SpellsSuper block segments) (λ block is. record { count = c.requires; spelled = is ∙ ap sealed written }) c.seal.ensures
