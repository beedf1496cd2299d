-- A header, a seal and pieces make a record, and a record has them.
use Rattle.std.proofs.Common.{◌≡◌, ℕ, ◌+◌, ◌-◌, ◌*◌, ◌/◌, ◌≤◌, List, [], ◌∷◌, ◌++◌, length, take, drop, replicate, refl, sym, ap, subst, ◌∙◌, arith, append_assoc, length-append, take-append-drop}
use Rattle.std.specs.Prelude.{slice_range}
use Rattle.std.proofs.lemmas.List.{take_at, length-replicate}
use Rattle.sea_base.specs.Digest.{sha256}
use Rattle.sea_top.specs.declared.record.Piece.{Piece}
use Rattle.sea_top.specs.declared.record.PlainRecord.{PlainRecord}
use Rattle.sea_top.specs.declared.record.header.Header.{Header}
use Rattle.sea_top.specs.Header.{header_bytes}
use Rattle.sea_top.specs.Record.{BeginsWith, piece_bytes, body_bytes, blocks_of, header_of, sealed, digest_of, spelling}
use Rattle.sea_top.specs.RecordParts.{ArePieces, IsSealed, BeginsWithHeader}
use Rattle.sea_top.proofs.RecordBytes.{length-spelling, spelled_parts, IsHeader-header_of}
use Rattle.sea_top.proofs.RecordLengths.{length-piece_bytes, body_bytes-cons, body_bytes-nil, blocks_of_is, body_fits}
use Rattle.sea_top.proofs.SameHeaders.{same_header}
use Rattle.sea_top.proofs.Sealing.{length-digest_of, length-header_of, resealed}
use Rattle.sea_base.proofs.Slices.{slice_at, slice_then, length-slice}

-- there is a piece exactly where there are bytes
some_bytes : (pieces : List Piece) → 1 ≤ length pieces → 1 ≤ length (body_bytes pieces)
some_bytes [] some = absurd (omega arith)
some_bytes (p ∷ pieces) some =
    omega (arith, ap length (body_bytes-cons p pieces), length-append (piece_bytes p) (body_bytes pieces), length-piece_bytes p)

some_pieces : (pieces : List Piece) → 1 ≤ length (body_bytes pieces) → 1 ≤ length pieces
some_pieces [] some = omega (arith, ap length body_bytes-nil)
some_pieces (p ∷ pieces) some = omega arith

digest_of_is : (plain : PlainRecord) → digest_of plain ≡ sha256 (sealed plain (replicate 32 0))
unfolding digest_of
digest_of_is plain = refl

spelling_is : (plain : PlainRecord) → spelling plain ≡ sealed plain (digest_of plain)
unfolding spelling
spelling_is plain = refl

-- the digest over a record's bytes with zeros in its own place
sealed_digest_of : (plain : PlainRecord) (digest : List ℕ) → length plain.previous.0 ≡ 32 → length digest ≡ 32 → sha256 (take 64 (sealed plain digest) ++ replicate 32 0 ++ drop 96 (sealed plain digest)) ≡ digest_of plain
sealed_digest_of plain digest previous d =
    ap sha256 (resealed plain previous digest (replicate 32 0) d (length-replicate {A = ℕ} 32 0)) ∙ sym (digest_of_is plain)

-- what a record's bytes tell of its header
pub record Told (bytes : List ℕ) (h : Header) (pieces : List Piece) : Type 0 where
  pub is_sealed : IsSealed bytes h
  pub body : ArePieces (slice_range bytes 96 (96 + h.body_len)) pieces

pub told_by : (bytes : List ℕ) (plain : PlainRecord) → BeginsWith bytes plain → Told bytes (header_of plain (digest_of plain)) plain.pieces
told_by bytes plain found =
    let is = found.plain_record in
    let h = header_bytes (header_of plain (digest_of plain)) in
    let body = body_bytes plain.pieces in
    let size = 4096 * blocks_of plain.pieces in
    let end = 96 + length body in
    let pad = replicate {A = ℕ} (size - end) 0 in
    let len_h : length h ≡ 96 = length-header_of plain is.previous (digest_of plain) (length-digest_of plain) in
    let fits = body_fits plain.pieces in
    let whole : bytes ≡ h ++ (body ++ (pad ++ found.behind)) = found.spelled ∙ spelled_parts plain found.behind in
    let grouped : bytes ≡ (h ++ body) ++ (pad ++ found.behind) = whole ∙ sym (append_assoc h body (pad ++ found.behind)) in
    let here : take size bytes ≡ sealed plain (digest_of plain) = ap (take size) found.spelled ∙ take_at (spelling plain) found.behind size (length-spelling plain is) ∙ spelling_is plain in
    record {
      is_sealed = record {
        counted = is.counted;
        some = some_bytes plain.pieces is.some;
        few = is.blocks;
        blocks = blocks_of_is plain.pieces;
        within = omega (arith, ap length found.spelled, length-append (spelling plain) found.behind, length-spelling plain is);
        zero = ap (λ (x : List ℕ). slice_range x end size) grouped ∙ slice_at (h ++ body) pad found.behind end size (omega (arith, length-append h body)) (omega (arith, length-replicate {A = ℕ} (size - end) 0));
        digest = sym (sealed_digest_of plain (digest_of plain) is.previous (length-digest_of plain)) ∙ ap (λ (x : List ℕ). sha256 (take 64 x ++ replicate 32 0 ++ drop 96 x)) (sym here);
      };
      body = (is.pieces, ap (λ (x : List ℕ). slice_range x 96 end) whole ∙ slice_at h body (pad ++ found.behind) 96 end len_h refl);
    }

-- bytes that begin with a header and a record begin with that record's header
pub header_is_its : (bytes : List ℕ) (h : Header) (plain : PlainRecord) → BeginsWithHeader bytes h → BeginsWith bytes plain → h ≡ header_of plain (digest_of plain)
header_is_its bytes h plain begins found =
    (same_header h (header_of plain (digest_of plain)) _ _ begins.0 (IsHeader-header_of plain found.plain_record) (sym begins.1 ∙ found.spelled ∙ spelled_parts plain found.behind)).0

-- so what stands behind a record's header is its seal and its pieces
pub told : (bytes : List ℕ) (h : Header) (plain : PlainRecord) → BeginsWithHeader bytes h → BeginsWith bytes plain → Told bytes h plain.pieces
told bytes h plain begins found =
    subst (λ (k : Header). Told bytes k plain.pieces) (sym (header_is_its bytes h plain begins found)) (told_by bytes plain found)

-- and a header, its seal and pieces are a record
pub made_of : (bytes : List ℕ) (h : Header) (pieces : List Piece) → BeginsWithHeader bytes h → Told bytes h pieces → BeginsWith bytes (record { commit = h.commit; previous = h.previous; pieces = pieces })
unfolding sealed
made_of bytes h pieces begins parts = record {
  plain_record = record {
    counted = seal.counted;
    commit = begins.0.commit;
    previous = begins.0.previous;
    some = some_pieces pieces (omega (arith, body_len, seal.some));
    pieces = parts.body.0;
    blocks = omega (arith, blocks, seal.few);
  };
  behind = drop size bytes;
  spelled = sym (take-append-drop size bytes) ∙ ap (λ (x : List ℕ). x ++ drop size bytes) (front ∙ ap (sealed plain) digest ∙ sym (spelling_is plain));
}
  where
    seal : IsSealed bytes h
    seal = parts.is_sealed

    plain : PlainRecord
    plain = record { commit = h.commit; previous = h.previous; pieces = pieces }

    body : List ℕ
    body = body_bytes pieces

    end : ℕ
    end = 96 + h.body_len

    size : ℕ
    size = 4096 * h.blocks

    fits : end ≤ size
    fits = omega (arith, seal.blocks)

    body_len : length body ≡ h.body_len
    body_len = sym (ap length parts.body.1) ∙ length-slice bytes 96 end (omega arith) (omega (arith, fits, seal.within)) ∙ omega arith

    blocks : blocks_of pieces ≡ h.blocks
    blocks = blocks_of_is pieces ∙ ap (λ (n : ℕ). (96 + n + 4095) / 4096) body_len ∙ sym seal.blocks

    its_header : header_of plain h.digest.0 ≡ h
    its_header =
        let with : ℕ → ℕ → Header = λ b l. record { commit = h.commit; blocks = b; body_len = l; previous = h.previous; digest = h.digest } in
        ap (λ (b : ℕ). with b (length body)) blocks ∙ ap (with h.blocks) body_len

    front : take size bytes ≡ sealed plain h.digest.0
    front =
        ap (λ (k : ℕ). take k bytes) (omega arith) ∙ sym (slice_then bytes 0 end size (omega arith) fits) ∙ ap (λ (x : List ℕ). x ++ slice_range bytes end size) (sym (slice_then bytes 0 96 end (omega arith) (omega arith)))
        ∙ ap (λ (x : List ℕ). x ++ slice_range bytes 96 end ++ slice_range bytes end size) (first ∙ ap header_bytes (sym its_header))
        ∙ ap (λ (x : List ℕ). header_bytes (header_of plain h.digest.0) ++ x ++ slice_range bytes end size) parts.body.1
        ∙ ap (λ (x : List ℕ). header_bytes (header_of plain h.digest.0) ++ body ++ x) (seal.zero ∙ ap (λ (n : ℕ). replicate n 0) (omega (arith, blocks, body_len)))
      where
        first : take 96 bytes ≡ header_bytes h
        first = ap (take 96) begins.1 ∙ take_at (header_bytes h) (drop 96 bytes) 96 (ap (λ (k : Header). length (header_bytes k)) (sym its_header) ∙ length-header_of plain begins.0.previous h.digest.0 begins.0.digest)

    digest : h.digest.0 ≡ digest_of plain
    digest =
        seal.digest ∙ ap (λ (x : List ℕ). sha256 (take 64 x ++ replicate 32 0 ++ drop 96 x)) front ∙ sealed_digest_of plain h.digest.0 begins.0.previous begins.0.digest
