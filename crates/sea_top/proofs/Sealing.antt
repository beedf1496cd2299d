-- A record with one digest or another in the place of its own.
use Rattle.std.proofs.Common.{◌≡◌, ℕ, ◌+◌, ◌-◌, ◌*◌, List, ◌++◌, length, take, drop, replicate, codes, sym, ap, subst, ◌∙◌, arith, append_assoc, length-append}
use Rattle.std.proofs.lemmas.List.{take_at, drop_at, drop-drop, drop-replicate, length-replicate}
use Rattle.sea_base.specs.Digest.{sha256}
use Rattle.sea_base.specs.Field.{big_endian}
use Rattle.sea_base.proofs.Digests.{length-sha256}
use Rattle.sea_top.specs.declared.record.Piece.{Piece}
use Rattle.sea_top.specs.declared.record.PlainRecord.{PlainRecord}
use Rattle.sea_top.specs.declared.record.header.Header.{Header}
use Rattle.sea_top.specs.Header.{header_bytes}
use Rattle.sea_top.specs.Record.{body_bytes, blocks_of, header_of, sealed, digest_of, spelling}
use Rattle.sea_top.proofs.Overlays.{Overlays}
use Rattle.sea_top.proofs.RecordLengths.{length-header_bytes}

pub length-digest_of : (plain : PlainRecord) → length (digest_of plain) ≡ 32
unfolding digest_of
length-digest_of plain = length-sha256 _

module _ (plain : PlainRecord) (previous : length plain.previous.0 ≡ 32) where
  pub length-header_of : (digest : List ℕ) → length digest ≡ 32 → length (header_bytes (header_of plain digest)) ≡ 96
  length-header_of digest d = length-header_bytes (header_of plain digest) previous d

  -- another digest in its place
  pub resealed : (old new : List ℕ) → length old ≡ 32 → length new ≡ 32 → take 64 (sealed plain old) ++ new ++ drop 96 (sealed plain old) ≡ sealed plain new
  unfolding sealed header_bytes
  resealed old new lo ln =
      let front = codes "SEAPLAIN" ++ big_endian 8 plain.commit.0 ++ big_endian 4 (blocks_of plain.pieces) ++ big_endian 4 (length (body_bytes plain.pieces)) ++ replicate 8 0 ++ plain.previous.0 in
      let body = body_bytes plain.pieces in
      let pad = replicate {A = ℕ} (4096 * blocks_of plain.pieces - (96 + length body)) 0 in
      let len : length front ≡ 64 = omega (arith, length-append front old, length-header_of old lo) in
      let whole : front ++ old ++ body ++ pad ≡ front ++ (old ++ (body ++ pad)) = append_assoc (front ++ old) body pad ∙ append_assoc front old (body ++ pad) in
      let kept : take 64 (front ++ old ++ body ++ pad) ≡ front = ap (take 64) whole ∙ take_at front (old ++ (body ++ pad)) 64 len in
      let rest : drop 96 (front ++ old ++ body ++ pad) ≡ body ++ pad =
      ap (drop 96) (append_assoc (front ++ old) body pad) ∙ drop_at (front ++ old) (body ++ pad) 96 (omega (arith, length-append front old)) in
      ap (λ (f : List ℕ). f ++ new ++ drop 96 (front ++ old ++ body ++ pad)) kept ∙ ap (λ (r : List ℕ). (front ++ new) ++ r) rest ∙ sym (append_assoc (front ++ new) body pad)

  -- what a header and pieces written into zeros leave
  pub filled : (h : Header) (digest b1 b2 : List ℕ) → length digest ≡ 32 → h ≡ header_of plain digest → b1 ≡ header_bytes h ++ replicate (4096 * blocks_of plain.pieces - 96) 0 → Overlays 96 (body_bytes plain.pieces) b1 b2 → b2 ≡ sealed plain digest
  unfolding sealed
  filled h digest b1 b2 d is first second =
      let front = header_bytes (header_of plain digest) in
      let body = body_bytes plain.pieces in
      let n = 4096 * blocks_of plain.pieces in
      let len = length-header_of digest d in
      let b1_is : b1 ≡ front ++ replicate (n - 96) 0 = first ∙ ap (λ (k : Header). header_bytes k ++ replicate (n - 96) 0) is in
      let kept : take 96 b1 ≡ front = ap (take 96) b1_is ∙ take_at front (replicate (n - 96) 0) 96 len in
      let rest : drop (96 + length body) b1 ≡ replicate (n - (96 + length body)) 0 =
      ap (drop (96 + length body)) b1_is ∙ sym (drop-drop (length body) 96 (front ++ replicate (n - 96) 0)) ∙ ap (drop (length body)) (drop_at front (replicate (n - 96) 0) 96 len) ∙ drop-replicate (length body) (n - 96) 0 ∙ ap (λ (k : ℕ). replicate k 0) (omega arith) in
      second ∙ ap (λ (f : List ℕ). f ++ body ++ drop (96 + length body) b1) kept ∙ ap (λ (r : List ℕ). (front ++ body) ++ r) rest

  -- and the record's digest over zeros in its own place
  pub spelled : (b2 b3 digest : List ℕ) → b2 ≡ sealed plain (replicate 32 0) → digest ≡ digest_of plain → b3 ≡ take 64 b2 ++ digest ++ drop (64 + length digest) b2 → b3 ≡ spelling plain
  unfolding spelling
  spelled b2 b3 digest zero is last =
      let len : length digest ≡ 32 = ap length is ∙ length-digest_of plain in
      last ∙ ap (λ (k : ℕ). take 64 b2 ++ digest ++ drop (64 + k) b2) len ∙ ap (λ (b : List ℕ). take 64 b ++ digest ++ drop 96 b) zero ∙ resealed (replicate 32 0) digest (length-replicate {A = ℕ} 32 0) len ∙ ap (sealed plain) is

-- the header that is written first
pub header_is : (plain : PlainRecord) (blocks body_len : ℕ) (digest : List ℕ) → blocks ≡ blocks_of plain.pieces → body_len ≡ length (body_bytes plain.pieces)
    → record { commit = plain.commit; blocks = blocks; body_len = body_len; previous = plain.previous; digest = record { 0 = digest } } ≡ header_of plain digest
header_is plain blocks body_len digest b l =
    let made : ℕ → ℕ → Header = λ n k. record { commit = plain.commit; blocks = n; body_len = k; previous = plain.previous; digest = record { 0 = digest } } in
    ap (λ (n : ℕ). made n body_len) b ∙ ap (made (blocks_of plain.pieces)) l

pub digest_is : (plain : PlainRecord) (b2 digest : List ℕ) → b2 ≡ sealed plain (replicate 32 0) → digest ≡ sha256 b2 → digest ≡ digest_of plain
unfolding digest_of
digest_is plain b2 digest zero is = is ∙ ap sha256 zero

pub length-buffer : (blocks n : ℕ) (buffer : List ℕ) → buffer ≡ replicate (4096 * blocks) 0 → blocks ≡ n → length buffer ≡ 4096 * n
length-buffer blocks n buffer zero is =
    ap length zero ∙ length-replicate {A = ℕ} (4096 * blocks) 0 ∙ ap (λ (k : ℕ). 4096 * k) is

-- what the header and the pieces leave of a buffer of zeros
pub zero_sealed : (plain : PlainRecord) (blocks body_len : ℕ) (pieces : List Piece) (buffer b1 b2 : List ℕ) → length plain.previous.0 ≡ 32 → blocks ≡ blocks_of plain.pieces
    → body_len ≡ length (body_bytes plain.pieces) → buffer ≡ replicate (4096 * blocks) 0 → pieces ≡ plain.pieces
    → b1 ≡ header_bytes (record { commit = plain.commit; blocks = blocks; body_len = body_len; previous = plain.previous; digest = record { 0 = replicate 32 0 } }) ++ replicate (length buffer - 96) 0
    → Overlays 96 (body_bytes pieces) b1 b2 → b2 ≡ sealed plain (replicate 32 0)
zero_sealed plain blocks body_len pieces buffer b1 b2 previous b l zero items first second =
    let h : Header = record { commit = plain.commit; blocks = blocks; body_len = body_len; previous = plain.previous; digest = record { 0 = replicate 32 0 } } in
    let len = length-buffer blocks (blocks_of plain.pieces) buffer zero b in
    let into = first ∙ ap (λ (n : ℕ). header_bytes h ++ replicate (n - 96) 0) len in
    let over : Overlays 96 (body_bytes plain.pieces) b1 b2 = subst (λ (ps : List Piece). Overlays 96 (body_bytes ps) b1 b2) items second in
    filled plain previous h (replicate 32 0) b1 b2 (length-replicate {A = ℕ} 32 0) (header_is plain blocks body_len (replicate 32 0) b l) into over
