use Rattle.std.proofs.Common.{ap, ◌∙◌, length, arith, List}
use Rattle.sea_base.proofs.Digests.{length-sha256}
use Rattle.sea_top.specs.declared.record.Piece.{Piece}
use Rattle.sea_top.specs.Record.{blocks_of, body_bytes}
use Rattle.sea_top.proofs.RecordLengths.{body_fits}
use Rattle.sea_top.proofs.Sealing.{length-buffer, zero_sealed, spelled, digest_is}
use Rattle.sea_top.proofs.record.writing.fill.Goals as goal

pub put_header-requires-clause-room : goal.put_header-requires-clause-room
put_header-requires-clause-room c =
    let pieces = c.args.plain.now.pieces in
    omega (arith, length-buffer c.args.blocks (blocks_of pieces) c.args.buffer.now c.requires.zero c.requires.taken, body_fits pieces)

pub put_pieces-requires-clause-room : goal.put_pieces-requires-clause-room
put_pieces-requires-clause-room c =
    let pieces = c.args.plain.now.pieces in
    omega (arith, length-buffer c.args.blocks (blocks_of pieces) c.args.buffer.now c.requires.zero c.requires.taken, body_fits pieces, ap (λ (ps : List Piece). length (body_bytes ps)) c.items.ensures)

pub put_bytes-requires : goal.put_bytes-requires
put_bytes-requires c =
    let pieces = c.args.plain.now.pieces in
    omega (arith, length-buffer c.args.blocks (blocks_of pieces) c.args.buffer.now c.requires.zero c.requires.taken, body_fits pieces, ap length c.digest_of-digest.ensures ∙ length-sha256 c.put_pieces.new.buffer)

pub returns-clause-spelled : goal.returns-clause-spelled
returns-clause-spelled c =
    let plain = c.args.plain.now in
    let zero = zero_sealed plain c.args.blocks c.args.body_len c.items.result.now c.args.buffer.now c.put_header.new.buffer c.put_pieces.new.buffer c.requires.plain.previous c.requires.taken c.requires.body c.requires.zero c.items.ensures c.put_header.ensures c.put_pieces.ensures in
    spelled plain c.requires.plain.previous c.put_pieces.new.buffer c.put_bytes.new.bytes c.digest_of-digest.result.0 zero (digest_is plain c.put_pieces.new.buffer c.digest_of-digest.result.0 zero c.digest_of-digest.ensures) c.put_bytes.ensures

pub returns-clause-digest : goal.returns-clause-digest
returns-clause-digest c =
    let plain = c.args.plain.now in
    let zero = zero_sealed plain c.args.blocks c.args.body_len c.items.result.now c.args.buffer.now c.put_header.new.buffer c.put_pieces.new.buffer c.requires.plain.previous c.requires.taken c.requires.body c.requires.zero c.items.ensures c.put_header.ensures c.put_pieces.ensures in
    digest_is plain c.put_pieces.new.buffer c.digest_of-digest.result.0 zero c.digest_of-digest.ensures
