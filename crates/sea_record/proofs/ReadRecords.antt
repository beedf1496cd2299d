-- A header, a seal, metadata and blocks make a record, and a record has them.
use Rattle.std.proofs.Common.{◌≡◌, ℕ, ◌+◌, ◌-◌, ◌*◌, ◌/◌, ◌≤◌, List, ◌++◌, length, take, drop, replicate, refl, sym, ap, subst, ◌∙◌, arith, append_assoc, length-append, take-append-drop}
use Rattle.std.specs.Prelude.{slice_range}
use Rattle.std.specs.List.{All, flat_map}
use Rattle.std.proofs.lemmas.List.{length-replicate, take_at, drop_at}
use Rattle.sea_base.specs.Digest.{sha256}
use Rattle.sea_base.proofs.RootFields.{joined}
use Rattle.sea_base.proofs.Slices.{slice_at, length-slice}
use Rattle.sea_record.specs.Header.{header_bytes, IsHeader}
use Rattle.sea_record.specs.Parts.{IsMetadata, metadata_of, metadata_at, metadata_end, record_end, BeginsWithHeader, IsSealed, Fits, IsSpelled}
use Rattle.sea_record.specs.Record.{IsBlock, metadata, payload, payload_blocks, metadata_blocks, header_of, zeros, sealed, own_digest, record_bytes}
use Rattle.sea_record.specs.declared.header.Header.{Header}
use Rattle.sea_record.specs.declared.record.Body.{Body}
use Rattle.sea_record.specs.declared.record.Kind.{Kind}
use Rattle.sea_record.specs.declared.record.Record.{Record}
use Rattle.sea_record.proofs.Headers.{front, before, digest_field, header_split, length-before, length-header_bytes, same_header}
use Rattle.sea_record.proofs.Records.{length-zeros, are_zeros, zeros_are, metadata_is, length-payload, padding, record_parts, length-padding, header_fits, length-sealed, length-own_digest, record_bytes_is}

-- ---- the digest is taken with zeros in its own place

digested_before : (r : Record) (d e : List ℕ) → before (header_of r d) ≡ before (header_of r e)
unfolding before front
digested_before r d e = refl

rest_of : Record → List ℕ
rest_of r = zeros 3920 ++ (payload r.body ++ (metadata r.body ++ padding r))

sealed_split : (r : Record) (d : List ℕ) → sealed r d ≡ before (header_of r d) ++ (d ++ rest_of r)
unfolding sealed rest_of padding
sealed_split r d =
    ap (λ (x : List ℕ). x ++ zeros 3920 ++ payload r.body ++ metadata r.body ++ zeros (4096 * metadata_blocks r.body - length (metadata r.body))) (header_split (header_of r d)) ∙ simp append_assoc

pub resealed : (r : Record) (d e : List ℕ) → length r.prev.0 ≡ 32 → length d ≡ 32 → take 144 (sealed r d) ++ e ++ drop 176 (sealed r d) ≡ sealed r e
resealed r d e prev len =
    let b = before (header_of r d) in
    let lb : length b ≡ 144 = length-before (header_of r d) prev in
    let front : take 144 (sealed r d) ≡ b = ap (take 144) (sealed_split r d) ∙ take_at b (d ++ rest_of r) 144 lb in
    let back : drop 176 (sealed r d) ≡ rest_of r = ap (drop 176) (sealed_split r d ∙ sym (append_assoc b d (rest_of r))) ∙ drop_at (b ++ d) (rest_of r) 176 (omega (arith, length-append b d)) in
    ap (λ (x : List ℕ). x ++ e ++ drop 176 (sealed r d)) front ∙ ap (λ (x : List ℕ). b ++ e ++ x) back ∙ append_assoc b e (rest_of r) ∙ ap (λ (x : List ℕ). x ++ (e ++ rest_of r)) (digested_before r d e) ∙ sym (sealed_split r e)

own_digest_is : (r : Record) → own_digest r ≡ sha256 (sealed r (replicate 32 0))
unfolding own_digest
own_digest_is r = refl

pub digest_over : (r : Record) (d : List ℕ) → length r.prev.0 ≡ 32 → length d ≡ 32 → sha256 (take 144 (sealed r d) ++ replicate 32 0 ++ drop 176 (sealed r d)) ≡ own_digest r
digest_over r d prev len = ap sha256 (resealed r d (replicate 32 0) prev len) ∙ sym (own_digest_is r)

-- ---- what a record's bytes tell

pub record Told (bytes : List ℕ) (h : Header) (r : Record) : Type 0 where
  pub is_sealed : IsSealed bytes h
  pub payload : slice_range bytes 4096 (metadata_at h) ≡ payload r.body
  pub metadata : slice_range bytes (metadata_at h) (metadata_end h) ≡ metadata r.body

told_by : (bytes : List ℕ) (r : Record) (behind : List ℕ) → Fits r → bytes ≡ record_bytes r ++ behind → Told bytes (header_of r (own_digest r)) r
unfolding padding
told_by bytes r behind fits is =
    let d = own_digest r in
    let h = header_of r d in
    let hb = header_bytes h in
    let z = zeros 3920 in
    let p = payload r.body in
    let m = metadata r.body in
    let e = padding r in
    let n = length m in
    let ld = length-own_digest r in
    let lh = length-header_bytes h fits.header.prev ld in
    let lz = length-zeros 3920 in
    let lp = length-payload r.body fits.placed fits.nodes in
    let le = length-padding r in
    let l1 : length (hb ++ z) ≡ 4096 = omega (arith, length-append hb z) in
    let l2 : length (hb ++ z ++ p) ≡ metadata_at h = omega (arith, length-append (hb ++ z) p) in
    let l3 : length (hb ++ z ++ p ++ m) ≡ metadata_end h = omega (arith, length-append (hb ++ z ++ p) m) in
    let spelled = is ∙ ap (λ (x : List ℕ). x ++ behind) (record_bytes_is r) in
    let w0 : bytes ≡ hb ++ (z ++ (p ++ (m ++ (e ++ behind)))) = spelled ∙ record_parts r d behind in
    let w1 : bytes ≡ (hb ++ z) ++ (p ++ (m ++ (e ++ behind))) = w0 ∙ sym (append_assoc hb z (p ++ (m ++ (e ++ behind)))) in
    let w2 : bytes ≡ (hb ++ z ++ p) ++ (m ++ (e ++ behind)) = w1 ∙ sym (append_assoc (hb ++ z) p (m ++ (e ++ behind))) in
    let w3 : bytes ≡ (hb ++ z ++ p ++ m) ++ (e ++ behind) = w2 ∙ sym (append_assoc (hb ++ z ++ p) m (e ++ behind)) in
    let ls = length-sealed r d fits ld in
    let whole : take (record_end h) bytes ≡ sealed r d = ap (take (record_end h)) spelled ∙ take_at (sealed r d) behind (record_end h) ls in
    record {
      is_sealed = record {
        few = fits.few;
        counts = refl;
        within = omega (arith, ap length spelled, length-append (sealed r d) behind, ls);
        front = zeros_are (slice_range bytes 176 4096) 3920 (ap (λ (x : List ℕ). slice_range x 176 4096) w0 ∙ slice_at hb z _ 176 4096 lh (omega arith));
        back = zeros_are (slice_range bytes (metadata_end h) (record_end h)) (4096 * metadata_blocks r.body - n) (ap (λ (x : List ℕ). slice_range x (metadata_end h) (record_end h)) w3 ∙ slice_at (hb ++ z ++ p ++ m) e behind (metadata_end h) (record_end h) l3 (omega (arith, le)));
        digest = sym (digest_over r d fits.header.prev ld) ∙ ap (λ (x : List ℕ). sha256 (take 144 x ++ replicate 32 0 ++ drop 176 x)) (sym whole);
      };
      payload = ap (λ (x : List ℕ). slice_range x 4096 (metadata_at h)) w1 ∙ slice_at (hb ++ z) p _ 4096 (metadata_at h) l1 (omega (arith, lp));
      metadata = ap (λ (x : List ℕ). slice_range x (metadata_at h) (metadata_end h)) w2 ∙ slice_at (hb ++ z ++ p) m _ (metadata_at h) (metadata_end h) l2 refl;
    }

header_is_its : (bytes : List ℕ) (h : Header) (r : Record) (behind : List ℕ) → BeginsWithHeader bytes h → Fits r → bytes ≡ record_bytes r ++ behind → h ≡ header_of r (own_digest r)
header_is_its bytes h r behind begins fits is =
    (same_header h (header_of r (own_digest r)) _ _ begins.0 (header_fits r (own_digest r) fits (length-own_digest r)) (sym begins.1 ∙ is ∙ ap (λ (x : List ℕ). x ++ behind) (record_bytes_is r) ∙ record_parts r (own_digest r) behind)).0

-- what stands behind the header of a record
pub told : (bytes : List ℕ) (h : Header) (r : Record) (behind : List ℕ) → BeginsWithHeader bytes h → Fits r → bytes ≡ record_bytes r ++ behind → Told bytes h r
told bytes h r behind begins fits is =
    subst (λ (k : Header). Told bytes k r) (sym (header_is_its bytes h r behind begins fits is)) (told_by bytes r behind fits is)

pub told_kind : (bytes : List ℕ) (h : Header) (r : Record) (behind : List ℕ) → BeginsWithHeader bytes h → Fits r → bytes ≡ record_bytes r ++ behind → (h.kind ≡ r.body.kind) × (h.payload ≡ payload_blocks r.body)
told_kind bytes h r behind begins fits is =
    let e = header_is_its bytes h r behind begins fits is in
    (ap (λ (k : Header). k.kind) e, ap (λ (k : Header). k.payload) e)

-- and so its metadata is told
pub told_metadata : (bytes : List ℕ) (h : Header) (r : Record) (behind : List ℕ) → BeginsWithHeader bytes h → Fits r → bytes ≡ record_bytes r ++ behind → IsMetadata h.kind (slice_range bytes (metadata_at h) (metadata_end h)) (metadata_of r.body)
told_metadata bytes h r behind begins fits is =
    subst (λ (k : Kind). IsMetadata k (slice_range bytes (metadata_at h) (metadata_end h)) (metadata_of r.body)) (sym (told_kind bytes h r behind begins fits is).0)
    (subst (λ (b : List ℕ). IsMetadata r.body.kind b (metadata_of r.body)) (sym (told bytes h r behind begins fits is).metadata) fits.metadata)

-- ---- what was read makes a record

pub record Parts (bytes : List ℕ) (h : Header) (body : Body) : Type 0 where
  pub begins : BeginsWithHeader bytes h
  pub is_sealed : IsSealed bytes h
  pub kind : body.kind ≡ h.kind
  pub metadata : IsMetadata h.kind (slice_range bytes (metadata_at h) (metadata_end h)) (metadata_of body)
  pub count : payload_blocks body ≡ h.payload
  pub placed : All (λ p. length p.block ≡ 4096) body.placed
  pub nodes : All IsBlock body.nodes
  pub placed_bytes : flat_map (λ p. p.block) body.placed ≡ slice_range bytes 4096 (4096 * (1 + length body.placed))
  pub node_bytes : flat_map (λ n. n) body.nodes ≡ slice_range bytes (4096 * (1 + length body.placed)) (metadata_at h)

abbrev pub record_of : Header → Body → Record
record_of h body = record { mount = h.mount; seq = h.seq; place = h.place; commit = h.commit; tail = h.tail; root = h.root; prev = h.prev; body = body }

pub made_of : (bytes : List ℕ) (h : Header) (body : Body) → Parts bytes h body → IsSpelled bytes (record_of h body)
unfolding sealed
made_of bytes h body parts = record {
  fits = record {
    header = record { mount = is.mount; seq = is.seq; place = is.place; payload = omega (arith, parts.count, is.payload); blocks = omega (arith, few, is.blocks); bytes = omega (arith, len, is.bytes); commit = is.commit; tail = is.tail; root = is.root; prev = is.prev; digest = length-replicate {A = ℕ} 32 0 };
    metadata = subst (λ (k : Kind). IsMetadata k (metadata body) (metadata_of body)) (sym parts.kind) (subst (λ (b : List ℕ). IsMetadata h.kind b (metadata_of body)) meta parts.metadata);
    placed = parts.placed;
    nodes = parts.nodes;
    few = omega (arith, parts.count, few, seal.few);
  };
  behind = drop end bytes;
  spelled = sym (take-append-drop end bytes) ∙ ap (λ (x : List ℕ). x ++ drop end bytes) (whole ∙ ap (sealed r) digest ∙ sym (record_bytes_is r));
}
  where
    r : Record
    r = record_of h body

    is : IsHeader h
    is = parts.begins.0

    seal : IsSealed bytes h
    seal = parts.is_sealed

    end : ℕ
    end = record_end h

    fits_in : metadata_end h ≤ end
    fits_in = omega (arith, seal.counts)

    meta : slice_range bytes (metadata_at h) (metadata_end h) ≡ metadata body
    meta = parts.metadata.is ∙ sym (metadata_is body)

    len : length (metadata body) ≡ h.bytes
    len = ap length (sym meta) ∙ length-slice bytes (metadata_at h) (metadata_end h) (omega arith) (omega (arith, fits_in, seal.within)) ∙ omega arith

    few : metadata_blocks body ≡ h.blocks
    few = ap (λ (n : ℕ). (n + 4095) / 4096) len ∙ sym seal.counts

    its_header : header_of r h.digest.0 ≡ h
    its_header =
        λ i. record { kind = parts.kind i; mount = h.mount; seq = h.seq; place = h.place; payload = parts.count i; blocks = few i; bytes = len i; commit = h.commit; tail = h.tail; root = h.root; prev = h.prev; digest = h.digest }

    placed_end : ℕ
    placed_end = 4096 * (1 + length body.placed)

    pay : slice_range bytes 4096 (metadata_at h) ≡ payload body
    pay = joined bytes _ _ 4096 placed_end (metadata_at h) (omega arith) (omega (arith, parts.count)) (sym parts.placed_bytes) (sym parts.node_bytes)

    whole : take end bytes ≡ sealed r h.digest.0
    whole =
        let g0 : slice_range bytes 0 176 ≡ header_bytes (header_of r h.digest.0) = ap (take 176) parts.begins.1 ∙ take_at (header_bytes h) (drop 176 bytes) 176 (length-header_bytes h is.prev is.digest) ∙ ap header_bytes (sym its_header) in
        let g1 = joined bytes _ _ 0 176 4096 (omega arith) (omega arith) g0 (are_zeros (slice_range bytes 176 4096) 3920 (length-slice bytes 176 4096 (omega arith) (omega (arith, seal.within)) ∙ omega arith) seal.front) in
        let g2 = joined bytes _ _ 0 4096 (metadata_at h) (omega arith) (omega arith) g1 pay in
        let g3 = joined bytes _ _ 0 (metadata_at h) (metadata_end h) (omega arith) (omega arith) g2 meta in
        ap (λ (k : ℕ). take k bytes) (omega arith) ∙ joined bytes _ _ 0 (metadata_end h) end (omega arith) fits_in g3 (are_zeros (slice_range bytes (metadata_end h) end) (4096 * metadata_blocks body - length (metadata body)) (length-slice bytes (metadata_end h) end fits_in seal.within ∙ omega (arith, len, few)) seal.back)

    digest : h.digest.0 ≡ own_digest r
    digest = seal.digest ∙ ap (λ (x : List ℕ). sha256 (take 144 x ++ replicate 32 0 ++ drop 176 x)) whole ∙ digest_over r h.digest.0 is.prev is.digest

-- the field of a record's own digest
pub digest_there : (r : Record) (rest : List ℕ) → Fits r → slice_range (record_bytes r ++ rest) 144 176 ≡ own_digest r
digest_there r rest fits =
    let d = own_digest r in
    ap (λ (x : List ℕ). slice_range x 144 176) (ap (λ (x : List ℕ). x ++ rest) (record_bytes_is r) ∙ record_parts r d rest) ∙ digest_field (header_of r d) _ fits.header.prev (length-own_digest r)
