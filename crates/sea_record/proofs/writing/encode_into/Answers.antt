use Rattle.std.proofs.Common.{◌≡◌, ◌+◌, ◌++◌, ℕ, length, replicate, take, drop, arith, ap, ◌∙◌}
use Rattle.std.proofs.lemmas.List.{length-map}
use Rattle.sea_record.specs.Parts.{mark_of}
use Rattle.sea_record.specs.Record.{sealed}
use Rattle.sea_base.proofs.Digests.{length-sha256}
use Rattle.sea_record.proofs.Encoding.{IsBack, IsFront, finished, length-back, length-front, parts_sealed}
use Rattle.sea_record.proofs.RecordRules.{fits_of}
use Rattle.sea_record.proofs.writing.encode_into.Goals as goal

pub back_blocks-requires-clause-lists : goal.back_blocks-requires-clause-lists
back_blocks-requires-clause-lists c =
    let r = c.args.entry.now in
    let few = (fits_of r c.requires.is_record).metadata.few in
    (omega (arith, few.0, length-map r.body.placed mark_of), few.1, few.2)

pub put_parts-requires-clause-front : goal.put_parts-requires-clause-front
put_parts-requires-clause-front c =
    let r = c.args.entry.now in
    omega (arith, ap length c.deref.ensures.value, length-front r c.in_ok-front.front.items (fits_of r c.requires.is_record) c.in_ok-front.ensures)

pub put_parts-requires-clause-whole : goal.put_parts-requires-clause-whole
put_parts-requires-clause-whole c =
    omega (arith, c.requires.whole, ap length c.deref-2.ensures.value, length-back c.args.entry.now.body c.in_ok-back.back.items c.in_ok-back.ensures)

pub returns-clause-ok : goal.returns-clause-ok
returns-clause-ok c =
    let r = c.args.entry.now in
    let b5 = c.put_parts.new.into in
    let digest = c.digest_of-digest.result.0 in
    let front : IsFront r c.deref.result.now = c.deref.ensures.value ∙ c.in_ok-front.ensures in
    let back : IsBack r.body c.deref-2.result.now = c.deref-2.ensures.value ∙ c.in_ok-back.ensures in
    let zero : b5 ≡ sealed r (replicate 32 0) = c.put_parts.ensures ∙ parts_sealed r c.deref.result.now c.deref-2.result.now front back in
    let len : length digest ≡ 32 = ap length c.digest_of-digest.ensures ∙ length-sha256 b5 in
    let size : 144 + length digest ≡ 176 = omega (arith, len) in
    finished r b5 c.put_bytes.new.bytes digest (fits_of r c.requires.is_record) zero c.digest_of-digest.ensures
    (c.put_bytes.ensures ∙ ap (λ (n : ℕ). take 144 b5 ++ digest ++ drop n b5) size)
