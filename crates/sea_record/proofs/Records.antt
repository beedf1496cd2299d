-- Records: how long their bytes are, and that these tell them.
use Rattle.std.proofs.Common.{◌≡◌, ◌==◌, if◌then◌else◌, ℕ, suc, ◌+◌, ◌-◌, ◌*◌, ◌/◌, List, [], ◌∷◌, ◌++◌, length, map, replicate, refl, sym, ap, subst, ◌∙◌, arith, append_assoc, length-append}
use Rattle.std.specs.List.{All, flat_map}
use Rattle.std.proofs.lemmas.List.{append-nil, length-map, length-replicate}
use Rattle.std.proofs.lemmas.List.Elements.{All-head, All-tail}
use Rattle.sea_base.specs.Field.{big_endian}
use Rattle.sea_base.proofs.Digests.{length-sha256}
use Rattle.sea_base.proofs.Slices.{same_parts}
use Rattle.sea_record.specs.Entries.{mark_bytes, address_bytes, change_bytes, counted}
use Rattle.sea_record.specs.Header.{header_bytes, IsHeader}
use Rattle.sea_record.specs.Parts.{spelled_mark, spelled_metadata, IsMetadata, mark_of, metadata_of, Fits}
use Rattle.sea_record.specs.Record.{IsBlock, metadata, payload, payload_blocks, metadata_blocks, blocks, header_of, zeros, sealed, own_digest, record_bytes}
use Rattle.sea_record.specs.declared.entry.Mark.{Mark}
use Rattle.sea_record.specs.declared.header.Header.{Header}
use Rattle.sea_record.specs.declared.lists.Metadata.{Metadata}
use Rattle.sea_record.specs.declared.record.Body.{Body}
use Rattle.sea_record.specs.declared.record.Kind.{Kind}
use Rattle.sea_record.specs.declared.record.Placed.{Placed}
use Rattle.sea_record.specs.declared.record.Record.{Record}
use Rattle.sea_record.proofs.EntryLists.{same_items}
use Rattle.sea_record.proofs.Headers.{length-header_bytes, same_header}
use Rattle.sea_record.proofs.Metadatas.{same_metadata}

-- ---- lists of blocks

pub length-blocks : {A : Type 0} (block : A → List ℕ) (xs : List A) → All (λ x. length (block x) ≡ 4096) xs → length (flat_map block xs) ≡ 4096 * length xs
length-blocks block [] all = refl
length-blocks block (x ∷ xs) all =
    omega (arith, length-append (block x) (flat_map block xs), All-head (λ y. length (block y) ≡ 4096) x xs all, length-blocks block xs (All-tail (λ y. length (block y) ≡ 4096) x xs all))

-- blocks are told by their bytes
told_block : (x y rs ss : List ℕ) → length x ≡ 4096 → length y ≡ 4096 → x ++ rs ≡ y ++ ss → (x ≡ y) × (rs ≡ ss)
told_block x y rs ss fx fy e = same_parts x y rs ss (fx ∙ sym fy) e

pub same_blocks : (xs ys : List (List ℕ)) → length xs ≡ length ys → All IsBlock xs → All IsBlock ys → flat_map (λ b. b) xs ≡ flat_map (λ b. b) ys → xs ≡ ys
same_blocks xs ys len fx fy e =
    (same_items {A = List ℕ} (λ b. length b ≡ 4096) (λ b. b) told_block xs ys [] [] len fx fy (ap (λ (b : List ℕ). b ++ []) e)).0

-- placed extents are told by their marks and their blocks
pub same_placed : (xs ys : List Placed) → map mark_of xs ≡ map mark_of ys → All (λ p. length p.block ≡ 4096) xs → All (λ p. length p.block ≡ 4096) ys → flat_map (λ p. p.block) xs ≡ flat_map (λ p. p.block) ys → xs ≡ ys
same_placed [] [] m fx fy e = refl
same_placed [] (y ∷ ys) m fx fy e = absurd (let len : 0 ≡ suc (length (map mark_of ys)) = ap length m in omega arith)
same_placed (x ∷ xs) [] m fx fy e = absurd (let len : suc (length (map mark_of xs)) ≡ 0 = ap length m in omega arith)
same_placed (x ∷ xs) (y ∷ ys) m fx fy e =
    let is_block : Placed → Type 0 = λ p. length p.block ≡ 4096 in
    let parts = same_parts x.block y.block (flat_map (λ p. p.block) xs) (flat_map (λ p. p.block) ys) (All-head is_block x xs fx ∙ sym (All-head is_block y ys fy)) e in
    let head : mark_of x ≡ mark_of y = ap (first (mark_of x)) m in
    let tail : map mark_of xs ≡ map mark_of ys = ap rest m in
    let rests = same_placed xs ys tail (All-tail is_block x xs fx) (All-tail is_block y ys fy) parts.1 in
    let made : Mark → List ℕ → Placed = λ k b. record { at = k.at; version = k.version; sum = k.sum; block = b } in
    ap (λ (k : Mark). made k x.block ∷ xs) head ∙ ap (λ (b : List ℕ). made (mark_of y) b ∷ xs) parts.0 ∙ ap (λ (ps : List Placed). y ∷ ps) rests
  where
    first : Mark → List Mark → Mark
    first d [] = d
    first d (k ∷ ks) = k

    rest : List Mark → List Mark
    rest [] = []
    rest (k ∷ ks) = ks

-- ---- the parts of a record

pub length-zeros : (n : ℕ) → length (zeros n) ≡ n
unfolding zeros
length-zeros n = length-replicate {A = ℕ} n 0

pub are_zeros : (xs : List ℕ) (n : ℕ) → length xs ≡ n → xs ≡ replicate (length xs) 0 → xs ≡ zeros n
unfolding zeros
are_zeros xs n len e = e ∙ ap (λ (k : ℕ). replicate k 0) len

pub zeros_are : (xs : List ℕ) (n : ℕ) → xs ≡ zeros n → xs ≡ replicate (length xs) 0
unfolding zeros
zeros_are xs n e = e ∙ ap (λ (k : ℕ). replicate k 0) (sym (ap length e ∙ length-replicate {A = ℕ} n 0))

marks_bytes : (placed : List Placed) → flat_map (λ p. mark_bytes p.at.0 p.version.0 p.sum.0) placed ≡ flat_map spelled_mark (map mark_of placed)
marks_bytes [] = refl
marks_bytes (p ∷ ps) = ap (λ (b : List ℕ). mark_bytes p.at.0 p.version.0 p.sum.0 ++ b) (marks_bytes ps)

-- the metadata of a body, by its marks
pub metadata_is : (body : Body) → metadata body ≡ spelled_metadata (metadata_of body)
unfolding metadata spelled_metadata
metadata_is body =
    let len : length body.placed ≡ length (map mark_of body.placed) = sym (length-map body.placed mark_of) in
    λ i. if len i + length body.dropped + length body.changes == 0 then body.plain else (big_endian 4 (len i) ++ marks_bytes body.placed i) ++ counted address_bytes body.dropped ++ counted change_bytes body.changes

pub length-payload : (body : Body) → All (λ p. length p.block ≡ 4096) body.placed → All IsBlock body.nodes → length (payload body) ≡ 4096 * payload_blocks body
length-payload body placed nodes =
    omega (arith, length-append (flat_map (λ p. p.block) body.placed) (flat_map (λ n. n) body.nodes), length-blocks (λ p. p.block) body.placed placed, length-blocks {A = List ℕ} (λ n. n) body.nodes nodes)

-- what stands behind the header
unfoldable pub padding : Record → List ℕ
padding r = zeros (4096 * metadata_blocks r.body - length (metadata r.body))

pub record_parts : (r : Record) (d rest : List ℕ) → sealed r d ++ rest ≡ header_bytes (header_of r d) ++ (zeros 3920 ++ (payload r.body ++ (metadata r.body ++ (padding r ++ rest))))
unfolding sealed padding
record_parts r d rest = simp append_assoc

pub length-padding : (r : Record) → length (metadata r.body) + length (padding r) ≡ 4096 * metadata_blocks r.body
unfolding padding
length-padding r =
    let n = length (metadata r.body) in
    omega (arith, length-zeros (4096 * ((n + 4095) / 4096) - n))

pub header_fits : (r : Record) (d : List ℕ) → Fits r → length d ≡ 32 → IsHeader (header_of r d)
header_fits r d fits len =
    let h = fits.header in
    record { mount = h.mount; seq = h.seq; place = h.place; payload = h.payload; blocks = h.blocks; bytes = h.bytes; commit = h.commit; tail = h.tail; root = h.root; prev = h.prev; digest = len }

pub length-sealed : (r : Record) (d : List ℕ) → Fits r → length d ≡ 32 → length (sealed r d) ≡ 4096 * blocks r.body
length-sealed r d fits len =
    let h = header_bytes (header_of r d) in
    let z = zeros 3920 in
    let p = payload r.body in
    let m = metadata r.body in
    let e = padding r in
    omega (
      arith,
      ap length (append-nil (sealed r d)),
      ap length (record_parts r d []),
      length-append h (z ++ (p ++ (m ++ (e ++ [])))),
      length-append z (p ++ (m ++ (e ++ []))),
      length-append p (m ++ (e ++ [])),
      length-append m (e ++ []),
      length-append e [],
      length-header_bytes (header_of r d) fits.header.prev len,
      length-zeros 3920,
      length-payload r.body fits.placed fits.nodes,
      length-padding r,
    )

pub length-own_digest : (r : Record) → length (own_digest r) ≡ 32
unfolding own_digest
length-own_digest r = length-sha256 _

pub record_bytes_is : (r : Record) → record_bytes r ≡ sealed r (own_digest r)
unfolding record_bytes
record_bytes_is r = refl

pub length-record_bytes : (r : Record) → Fits r → length (record_bytes r) ≡ 4096 * blocks r.body
length-record_bytes r fits =
    ap length (record_bytes_is r) ∙ length-sealed r (own_digest r) fits (length-own_digest r)

-- ---- the bytes tell the record

-- a record of a header and a body
made : Header → Body → Record
made h body = record { mount = h.mount; seq = h.seq; place = h.place; commit = h.commit; tail = h.tail; root = h.root; prev = h.prev; body = body }

same_bodies : (b c : Body) → b.kind ≡ c.kind → b.placed ≡ c.placed → b.nodes ≡ c.nodes → metadata_of b ≡ metadata_of c → b ≡ c
same_bodies b c k p n m =
    λ i. record { kind = k i; placed = p i; nodes = n i; dropped = (m i).dropped; changes = (m i).changes; plain = (m i).plain }

pub same_sealed : (r s : Record) (d e x y : List ℕ) → Fits r → Fits s → length d ≡ 32 → length e ≡ 32 → sealed r d ++ x ≡ sealed s e ++ y → (r ≡ s) × (x ≡ y)
unfolding made
same_sealed r s d e x y fr fs ld le is =
    let hr = header_of r d in
    let hs = header_of s e in
    let f0 = same_header hr hs _ _ (header_fits r d fr ld) (header_fits s e fs le) (sym (record_parts r d x) ∙ is ∙ record_parts s e y) in
    let kind : r.body.kind ≡ s.body.kind = ap (λ (h : Header). h.kind) f0.0 in
    let count : payload_blocks r.body ≡ payload_blocks s.body = ap (λ (h : Header). h.payload) f0.0 in
    let few : metadata_blocks r.body ≡ metadata_blocks s.body = ap (λ (h : Header). h.blocks) f0.0 in
    let bytes : length (metadata r.body) ≡ length (metadata s.body) = ap (λ (h : Header). h.bytes) f0.0 in
    let f1 = same_parts {A = ℕ} (zeros 3920) (zeros 3920) _ _ refl f0.1 in
    let f2 = same_parts (payload r.body) (payload s.body) _ _ (length-payload r.body fr.placed fr.nodes ∙ ap (λ (n : ℕ). 4096 * n) count ∙ sym (length-payload s.body fs.placed fs.nodes)) f1.1 in
    let f3 = same_parts (metadata r.body) (metadata s.body) _ _ bytes f2.1 in
    let f4 = same_parts (padding r) (padding s) x y (omega (arith, length-padding r, length-padding s)) f3.1 in
    let m = same_metadata r.body.kind (metadata r.body) (metadata_of r.body) (metadata_of s.body) fr.metadata (subst (λ (k : Kind). IsMetadata k (metadata r.body) (metadata_of s.body)) (sym kind) (subst (λ (b : List ℕ). IsMetadata s.body.kind b (metadata_of s.body)) (sym f3.0) fs.metadata)) in
    let marks : map mark_of r.body.placed ≡ map mark_of s.body.placed = ap (λ (n : Metadata). n.marks) m in
    let placed_count : length r.body.placed ≡ length s.body.placed = sym (length-map r.body.placed mark_of) ∙ ap length marks ∙ length-map s.body.placed mark_of in
    let b = same_parts (flat_map (λ p. p.block) r.body.placed) (flat_map (λ p. p.block) s.body.placed) _ _ (length-blocks (λ p. p.block) r.body.placed fr.placed ∙ ap (λ (n : ℕ). 4096 * n) placed_count ∙ sym (length-blocks (λ p. p.block) s.body.placed fs.placed)) f2.0 in
    let placed = same_placed r.body.placed s.body.placed marks fr.placed fs.placed b.0 in
    let nodes = same_blocks r.body.nodes s.body.nodes (omega (arith, count, placed_count)) fr.nodes fs.nodes b.1 in
    let body = same_bodies r.body s.body kind placed nodes m in
    (ap (λ (h : Header). made h r.body) f0.0 ∙ ap (made hs) body, f4.1)

pub same_record : (r s : Record) (x y : List ℕ) → Fits r → Fits s → record_bytes r ++ x ≡ record_bytes s ++ y → (r ≡ s) × (x ≡ y)
same_record r s x y fr fs e =
    same_sealed r s (own_digest r) (own_digest s) x y fr fs (length-own_digest r) (length-own_digest s)
    (sym (ap (λ (b : List ℕ). b ++ x) (record_bytes_is r)) ∙ e ∙ ap (λ (b : List ℕ). b ++ y) (record_bytes_is s))
