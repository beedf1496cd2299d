use Rattle.std.proofs.Common.{◌≡◌, ◌+◌, ◌*◌, ◌++◌, ℕ, List, drop, length, length-append, map, arith, ap, sym, subst, refl, ◌∙◌}
use Rattle.std.specs.Prelude.{slice_range}
use Rattle.std.proofs.lemmas.Bool.{false≢true}
use Rattle.std.proofs.lemmas.List.{length-map}
use Rattle.sea_record.specs.Header.{header_bytes}
use Rattle.sea_record.specs.Parts.{IsMetadata, mark_of, metadata_of, metadata_at, metadata_end}
use Rattle.sea_record.specs.Record.{header_of, own_digest}
use Rattle.sea_record.specs.declared.lists.Metadata.{Metadata}
use Rattle.sea_record.specs.declared.record.Body.{Body}
use Rattle.sea_record.proofs.Headers.{length-header_bytes}
use Rattle.sea_record.proofs.Metadatas.{same_metadata}
use Rattle.sea_record.proofs.ReadRecords.{told, told_kind, told_metadata, made_of, Parts}
use Rattle.sea_record.proofs.RecordRules.{fits_of}
use Rattle.sea_record.proofs.Records.{record_parts, record_bytes_is, header_fits, length-own_digest}
use Rattle.sea_record.proofs.reading.read_record.Goals as goal

pub returns-in_default : goal.returns-in_default
returns-in_default c = λ r found.
    let none = rw c.in_default.is at c.read_header.ensures in
    none (header_of r (own_digest r)) _ (header_fits r (own_digest r) (fits_of r found.is_record) (length-own_digest r)) (found.spelled ∙ ap (λ (x : List ℕ). x ++ found.behind) (record_bytes_is r) ∙ record_parts r (own_digest r) found.behind)

pub is_sealed-requires : goal.is_sealed-requires
is_sealed-requires c =
    let begins = c.in-Some.ensures in
    let h = c.in-Some.header in
    omega (arith, ap length begins.1, length-append (header_bytes h) (drop 176 c.args.bytes.now), length-header_bytes h begins.0.prev begins.0.digest)

pub returns-then-not-is_sealed : goal.returns-then-not-is_sealed
returns-then-not-is_sealed c = λ r found.
    false≢true (c.if-not-is_sealed.ensures.1 (told c.args.bytes.now c.in-Some.header r found.behind c.in-Some.ensures (fits_of r found.is_record) found.spelled).is_sealed)

pub returns-in_default-2 : goal.returns-in_default-2
returns-in_default-2 c = λ r found.
    let none = rw c.in_default-2.is at c.in_ok-metadata.ensures in
    none (metadata_of r.body) (told_metadata c.args.bytes.now c.in-Some.header r found.behind c.in-Some.ensures (fits_of r found.is_record) found.spelled)

pub returns-then-marks-payload : goal.returns-then-marks-payload
returns-then-marks-payload c = λ r found.
    let h = c.in-Some.header in
    let bytes = c.args.bytes.now in
    let fits = fits_of r found.is_record in
    let read = rw c.in-Some-2.is at c.in_ok-metadata.ensures in
    let same = same_metadata h.kind (slice_range bytes (metadata_at h) (metadata_end h)) c.in-Some-2.metadata (metadata_of r.body) read (told_metadata bytes h r found.behind c.in-Some.ensures fits found.spelled) in
    omega (arith, c.if-marks-payload.true, (told_kind bytes h r found.behind c.in-Some.ensures fits found.spelled).1, length-map r.body.placed mark_of, ap (λ (m : Metadata). length m.marks) same, ap length c.items-marks.ensures)

pub returns : goal.returns
returns c =
    let h = c.in-Some.header in
    let bytes = c.args.bytes.now in
    let m = c.in-Some-2.metadata in
    let slice = slice_range bytes (metadata_at h) (metadata_end h) in
    let read : IsMetadata h.kind slice m = rw c.in-Some-2.is at c.in_ok-metadata.ensures in
    let marks : map mark_of c.in_ok-placed.placed ≡ m.marks = c.in_ok-placed.ensures.marks ∙ c.items-marks.ensures in
    let count : length c.in_ok-placed.placed ≡ length c.items-marks.result.now = sym (length-map c.in_ok-placed.placed mark_of) ∙ ap length c.in_ok-placed.ensures.marks in
    let body : Body = record { kind = h.kind; placed = c.in_ok-placed.placed; nodes = c.in_ok-nodes.nodes; dropped = m.dropped; changes = m.changes; plain = m.plain } in
    let same : m ≡ metadata_of body = λ i. record { marks = sym marks i; dropped = m.dropped; changes = m.changes; plain = m.plain } in
    let parts : Parts bytes h body = record {
      begins = c.in-Some.ensures;
      is_sealed = c.if-not-is_sealed.ensures.0 refl;
      kind = refl;
      metadata = subst (IsMetadata h.kind slice) same read;
      count = omega (arith, count, c.in_ok-nodes.ensures.count, c.if-marks-payload.false);
      placed = c.in_ok-placed.ensures.blocks;
      nodes = c.in_ok-nodes.ensures.blocks;
      placed_bytes = c.in_ok-placed.ensures.bytes ∙ ap (λ (n : ℕ). slice_range bytes 4096 (4096 * (1 + n))) (sym count);
      node_bytes = c.in_ok-nodes.ensures.bytes ∙ ap (λ (n : ℕ). slice_range bytes (4096 * (1 + n)) (metadata_at h)) (sym count);
    } in
    made_of bytes h body parts
