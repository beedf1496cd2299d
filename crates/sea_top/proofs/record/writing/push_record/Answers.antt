use Rattle.std.proofs.Common.{◌+◌, ◌/◌, ℕ, List, length, arith, ap, sym, ◌∙◌}
use Rattle.sea_top.specs.declared.record.Piece.{Piece}
use Rattle.sea_top.specs.Record.{body_bytes, blocks_of}
use Rattle.sea_top.proofs.RecordLengths.{length-body_plain, blocks_of_is}
use Rattle.sea_top.proofs.record.writing.push_record.Goals as goal

pub body_len-body_len-requires : goal.body_len-body_len-requires
body_len-body_len-requires c =
    omega (arith, length-body_plain c.args.plain.now.pieces c.requires.blocks, ap (λ (ps : List Piece). length (body_bytes ps)) c.items.ensures)

pub blocks_for-blocks-requires : goal.blocks_for-blocks-requires
blocks_for-blocks-requires c =
    omega (arith, length-body_plain c.args.plain.now.pieces c.requires.blocks, ap (λ (ps : List Piece). length (body_bytes ps)) c.items.ensures)

pub fill-requires-clause-taken : goal.fill-requires-clause-taken
fill-requires-clause-taken c =
    c.blocks_for-blocks.ensures ∙ ap (λ (n : ℕ). (96 + n + 4095) / 4096) c.body_len-body_len.ensures ∙ sym (blocks_of_is c.items.result.now) ∙ ap blocks_of c.items.ensures
