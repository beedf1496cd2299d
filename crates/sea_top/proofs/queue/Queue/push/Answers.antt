use Rattle.std.proofs.Common.{◌≡◌, ℕ, ◌+◌, ◌*◌, ◌++◌, ◌∷◌, [], List, length, refl, sym, ap, ◌∙◌, arith, length-append}
use Rattle.sea_top.specs.declared.record.PlainRecord.{PlainRecord}
use Rattle.sea_top.specs.Record.{IsPlain, blocks_of, spelling}
use Rattle.sea_top.proofs.RecordBytes.{length-spelling}
use Rattle.sea_top.proofs.Queues.{some_blocks, flat_map-push, last_digest-push, length-digest_of, Linked-push, is_plain}
use Rattle.sea_top.proofs.queue.Queue.push.Goals as goal

pub push_record-requires : goal.push_record-requires
push_record-requires c =
    is_plain c.args.self.now c.args.pieces c.requires.some c.requires.pieces (omega (arith, c.requires.need, c.requires.short))

pub invariant_of-self-2 : goal.invariant_of-self-2
invariant_of-self-2 c =
    let queue = c.args.self.now in
    let plain : PlainRecord = record { commit = queue.commit; previous = queue.previous; pieces = c.args.pieces } in
    let is : IsPlain plain = is_plain queue c.args.pieces c.requires.some c.requires.pieces (omega (arith, c.requires.need, c.requires.short)) in
    let written = c.in_ok-digest.ensures.ok in
    let size : length (spelling plain) ≡ 4096 * blocks_of c.args.pieces = length-spelling plain is in
    let longer : length c.push_record.new.out.items ≡ length queue.bytes.items + 4096 * c.args.need = ap length written.0 ∙ simp (length-append) (omega (arith, c.requires.need)) in
    record {
      digest = ap length written.1 ∙ length-digest_of plain;
      whole = omega (arith, longer, queue.whole, queue.bytes.ok.0, c.push_record.new.out.ok.0);
      counted = omega (arith, queue.counted);
      few = omega (arith, longer, queue.few, queue.bytes.ok.0, c.push_record.new.out.ok.0, some_blocks c.args.pieces, c.requires.need);
      room = omega (arith, longer, queue.room, queue.bytes.ok.0, c.push_record.new.out.ok.0, c.requires.room);
    }

pub returns-clause-ok : goal.returns-clause-ok
returns-clause-ok c start news waits =
    let queue = c.args.self.now in
    let plain : PlainRecord = record { commit = queue.commit; previous = queue.previous; pieces = c.args.pieces } in
    let is : IsPlain plain = is_plain queue c.args.pieces c.requires.some c.requires.pieces (omega (arith, c.requires.need, c.requires.short)) in
    let written = c.in_ok-digest.ensures.ok in
    let size : length (spelling plain) ≡ 4096 * blocks_of c.args.pieces = length-spelling plain is in
    let longer : length c.push_record.new.out.items ≡ length queue.bytes.items + 4096 * c.args.need = ap length written.0 ∙ simp (length-append) (omega (arith, c.requires.need)) in (
      plain,
      refl,
      record {
        placed = waits.placed;
        spelled = written.0 ∙ ap (λ (b : List ℕ). b ++ spelling plain) waits.spelled ∙ sym (flat_map-push news plain);
        linked = Linked-push start.commit start.previous news plain waits.linked is waits.numbered waits.last;
        numbered = omega (arith, waits.numbered, length-append news (plain ∷ []));
        last = written.1 ∙ sym (last_digest-push start.previous news plain);
        room = omega (arith, longer, waits.room, c.requires.room);
      },
    )
