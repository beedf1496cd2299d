use Rattle.std.proofs.Common.{arith, ap, sym, ◌∙◌, ◌+◌, ◌/◌, ℕ}
use Rattle.sea_top.proofs.RecordLengths.{length-body_few, blocks_of_is}
use Rattle.sea_top.proofs.record.writing.record_blocks.Goals as goal

pub body_len-requires : goal.body_len-requires
body_len-requires c = omega (arith, length-body_few c.args.pieces.now c.requires.pieces c.requires.few)

pub blocks_for-requires : goal.blocks_for-requires
blocks_for-requires c = omega (arith, length-body_few c.args.pieces.now c.requires.pieces c.requires.few)

pub returns : goal.returns
returns c =
    c.blocks_for.ensures ∙ ap (λ (n : ℕ). (96 + n + 4095) / 4096) c.body_len.ensures ∙ sym (blocks_of_is c.args.pieces.now)
