-- Headers of records: what is read makes their bytes, and their bytes tell them.
use Rattle.std.proofs.Common.{◌≡◌, ℕ, ◌<◌, ◌≤◌, List, ◌++◌, length, take, drop, codes, refl, sym, ap, ◌∙◌, arith, append_assoc, length-append, take-append-drop}
use Rattle.std.specs.Prelude.{slice_range}
use Rattle.sea_base.specs.Field.{big_endian}
use Rattle.sea_base.specs.RootFields.{root_bytes}
use Rattle.sea_base.proofs.Fields.{length-big_endian, same_field}
use Rattle.sea_base.proofs.RootFields.{joined, root_fit, length-root_bytes, same_roots}
use Rattle.sea_base.proofs.Slices.{same_parts, slice_at}
use Rattle.sea_record.specs.Header.{kind_number, header_bytes, IsHeader}
use Rattle.sea_record.specs.declared.header.Header.{Header}
use Rattle.sea_record.specs.declared.record.Kind.{Kind}
use Rattle.sea_record.specs.declared.record.Kind.TheVariants.{Mount, Client, Shift, Nodes, Plain}

pub same_kind : (k l : Kind) → kind_number k ≡ kind_number l → k ≡ l
same_kind Mount Mount e = refl
same_kind Client Client e = refl
same_kind Shift Shift e = refl
same_kind Nodes Nodes e = refl
same_kind Plain Plain e = refl
same_kind Mount Client e = absurd (omega arith)
same_kind Mount Shift e = absurd (omega arith)
same_kind Mount Nodes e = absurd (omega arith)
same_kind Mount Plain e = absurd (omega arith)
same_kind Client Mount e = absurd (omega arith)
same_kind Client Shift e = absurd (omega arith)
same_kind Client Nodes e = absurd (omega arith)
same_kind Client Plain e = absurd (omega arith)
same_kind Shift Mount e = absurd (omega arith)
same_kind Shift Client e = absurd (omega arith)
same_kind Shift Nodes e = absurd (omega arith)
same_kind Shift Plain e = absurd (omega arith)
same_kind Nodes Mount e = absurd (omega arith)
same_kind Nodes Client e = absurd (omega arith)
same_kind Nodes Shift e = absurd (omega arith)
same_kind Nodes Plain e = absurd (omega arith)
same_kind Plain Mount e = absurd (omega arith)
same_kind Plain Client e = absurd (omega arith)
same_kind Plain Shift e = absurd (omega arith)
same_kind Plain Nodes e = absurd (omega arith)

pub kind_small : (k : Kind) → kind_number k < 256
kind_small Mount = omega arith
kind_small Client = omega arith
kind_small Shift = omega arith
kind_small Nodes = omega arith
kind_small Plain = omega arith

-- the numbers at the front, 56 bytes
unfoldable pub front : Header → List ℕ
front h =
    codes "SEARECRD" ++ big_endian 4 1 ++ big_endian 4 (kind_number h.kind) ++ big_endian 8 h.mount ++ big_endian 8 h.seq ++ big_endian 4 h.place.0
    ++ big_endian 4 h.payload ++ big_endian 4 h.blocks ++ big_endian 4 h.bytes ++ big_endian 8 h.commit.0

length-front : (h : Header) → length (front h) ≡ 56
unfolding front
length-front h =
    let m = codes "SEARECRD" in
    let f = big_endian 4 1 in
    let k = big_endian 4 (kind_number h.kind) in
    let o = big_endian 8 h.mount in
    let s = big_endian 8 h.seq in
    let p = big_endian 4 h.place.0 in
    let y = big_endian 4 h.payload in
    let b = big_endian 4 h.blocks in
    let n = big_endian 4 h.bytes in
    let c = big_endian 8 h.commit.0 in
    omega (
      arith,
      length-append (m ++ f ++ k ++ o ++ s ++ p ++ y ++ b ++ n) c,
      length-append (m ++ f ++ k ++ o ++ s ++ p ++ y ++ b) n,
      length-append (m ++ f ++ k ++ o ++ s ++ p ++ y) b,
      length-append (m ++ f ++ k ++ o ++ s ++ p) y,
      length-append (m ++ f ++ k ++ o ++ s) p,
      length-append (m ++ f ++ k ++ o) s,
      length-append (m ++ f ++ k) o,
      length-append (m ++ f) k,
      length-append m f,
      length-big_endian 4 1,
      length-big_endian 4 (kind_number h.kind),
      length-big_endian 8 h.mount,
      length-big_endian 8 h.seq,
      length-big_endian 4 h.place.0,
      length-big_endian 4 h.payload,
      length-big_endian 4 h.blocks,
      length-big_endian 4 h.bytes,
      length-big_endian 8 h.commit.0,
    )

front_is : (h : Header) → header_bytes h ≡ front h ++ root_bytes h.tail h.root ++ h.prev.0 ++ h.digest.0
unfolding header_bytes front
front_is h = refl

pub length-header_bytes : (h : Header) → length h.prev.0 ≡ 32 → length h.digest.0 ≡ 32 → length (header_bytes h) ≡ 176
length-header_bytes h p d =
    let f = front h in
    let r = root_bytes h.tail h.root in
    omega (arith, ap length (front_is h), length-append (f ++ r ++ h.prev.0) h.digest.0, length-append (f ++ r) h.prev.0, length-append f r, length-front h, length-root_bytes h.tail h.root)

-- what stands before the digest, 144 bytes
unfoldable pub before : Header → List ℕ
before h = front h ++ root_bytes h.tail h.root ++ h.prev.0

pub header_split : (h : Header) → header_bytes h ≡ before h ++ h.digest.0
unfolding before
header_split h = front_is h

pub length-before : (h : Header) → length h.prev.0 ≡ 32 → length (before h) ≡ 144
unfolding before
length-before h p =
    omega (arith, length-append (front h ++ root_bytes h.tail h.root) h.prev.0, length-append (front h) (root_bytes h.tail h.root), length-front h, length-root_bytes h.tail h.root)

pub before_redigested : (h k : Header) → record h { digest = k.digest } ≡ k → before h ≡ before k
unfolding before front
before_redigested h k e = ap before e

-- what is read makes the header's bytes
pub header_read : (bytes : List ℕ) (h : Header) → take 8 bytes ≡ codes "SEARECRD" → slice_range bytes 8 12 ≡ big_endian 4 1 → slice_range bytes 12 16 ≡ big_endian 4 (kind_number h.kind) → slice_range bytes 16 24 ≡ big_endian 8 h.mount
    → slice_range bytes 24 32 ≡ big_endian 8 h.seq → slice_range bytes 32 36 ≡ big_endian 4 h.place.0 → slice_range bytes 36 40 ≡ big_endian 4 h.payload → slice_range bytes 40 44 ≡ big_endian 4 h.blocks → slice_range bytes 44 48 ≡ big_endian 4 h.bytes
    → slice_range bytes 48 56 ≡ big_endian 8 h.commit.0 → slice_range bytes 56 112 ≡ root_bytes h.tail h.root → h.prev.0 ≡ slice_range bytes 112 144 → h.digest.0 ≡ slice_range bytes 144 176 → bytes ≡ header_bytes h ++ drop 176 bytes
unfolding header_bytes
header_read bytes h m f k o s p y b n c r v d =
    let g1 = joined bytes _ _ 0 8 12 (omega arith) (omega arith) m f in
    let g2 = joined bytes _ _ 0 12 16 (omega arith) (omega arith) g1 k in
    let g3 = joined bytes _ _ 0 16 24 (omega arith) (omega arith) g2 o in
    let g4 = joined bytes _ _ 0 24 32 (omega arith) (omega arith) g3 s in
    let g5 = joined bytes _ _ 0 32 36 (omega arith) (omega arith) g4 p in
    let g6 = joined bytes _ _ 0 36 40 (omega arith) (omega arith) g5 y in
    let g7 = joined bytes _ _ 0 40 44 (omega arith) (omega arith) g6 b in
    let g8 = joined bytes _ _ 0 44 48 (omega arith) (omega arith) g7 n in
    let g9 = joined bytes _ _ 0 48 56 (omega arith) (omega arith) g8 c in
    let g10 = joined bytes _ _ 0 56 112 (omega arith) (omega arith) g9 r in
    let g11 = joined bytes _ _ 0 112 144 (omega arith) (omega arith) g10 (sym v) in
    let g12 = joined bytes _ _ 0 144 176 (omega arith) (omega arith) g11 (sym d) in
    sym (take-append-drop 176 bytes) ∙ ap (λ (x : List ℕ). x ++ drop 176 bytes) g12

-- ---- the bytes tell the header

pub header_parts : (h : Header) (rest : List ℕ) → header_bytes h ++ rest ≡ codes "SEARECRD" ++ (big_endian 4 1 ++ (big_endian 4 (kind_number h.kind) ++ (big_endian 8 h.mount ++ (big_endian 8 h.seq ++ (big_endian 4 h.place.0
    ++ (big_endian 4 h.payload ++ (big_endian 4 h.blocks ++ (big_endian 4 h.bytes ++ (big_endian 8 h.commit.0 ++ (root_bytes h.tail h.root ++ (h.prev.0 ++ (h.digest.0 ++ rest))))))))))))
unfolding header_bytes
header_parts h rest = simp append_assoc

-- the numbers of two headers, one after the other, and what stands behind them
record SameNumbers (h k : Header) (rs ss : List ℕ) : Type 0 where
  pub kind : h.kind ≡ k.kind
  pub mount : h.mount ≡ k.mount
  pub seq : h.seq ≡ k.seq
  pub place : h.place.0 ≡ k.place.0
  pub payload : h.payload ≡ k.payload
  pub blocks : h.blocks ≡ k.blocks
  pub bytes : h.bytes ≡ k.bytes
  pub commit : h.commit.0 ≡ k.commit.0
  pub rest : root_bytes h.tail h.root ++ (h.prev.0 ++ (h.digest.0 ++ rs)) ≡ root_bytes k.tail k.root ++ (k.prev.0 ++ (k.digest.0 ++ ss))

same_numbers : (h k : Header) (rs ss : List ℕ) → IsHeader h → IsHeader k → header_bytes h ++ rs ≡ header_bytes k ++ ss → SameNumbers h k rs ss
same_numbers h k rs ss is_h is_k e =
    let f0 = same_parts (codes "SEARECRD") (codes "SEARECRD") _ _ refl (sym (header_parts h rs) ∙ e ∙ header_parts k ss) in
    let f1 = same_parts (big_endian 4 1) (big_endian 4 1) _ _ refl f0.1 in
    let f2 = same_field 4 (kind_number h.kind) (kind_number k.kind) _ _ (omega (arith, kind_small h.kind)) (omega (arith, kind_small k.kind)) f1.1 in
    let f3 = same_field 8 h.mount k.mount _ _ (omega (arith, is_h.mount)) (omega (arith, is_k.mount)) f2.1 in
    let f4 = same_field 8 h.seq k.seq _ _ (omega (arith, is_h.seq)) (omega (arith, is_k.seq)) f3.1 in
    let f5 = same_field 4 h.place.0 k.place.0 _ _ (omega (arith, is_h.place)) (omega (arith, is_k.place)) f4.1 in
    let f6 = same_field 4 h.payload k.payload _ _ (omega (arith, is_h.payload)) (omega (arith, is_k.payload)) f5.1 in
    let f7 = same_field 4 h.blocks k.blocks _ _ (omega (arith, is_h.blocks)) (omega (arith, is_k.blocks)) f6.1 in
    let f8 = same_field 4 h.bytes k.bytes _ _ (omega (arith, is_h.bytes)) (omega (arith, is_k.bytes)) f7.1 in
    let f9 = same_field 8 h.commit.0 k.commit.0 _ _ (omega (arith, is_h.commit)) (omega (arith, is_k.commit)) f8.1 in
    record { kind = same_kind h.kind k.kind f2.0; mount = f3.0; seq = f4.0; place = f5.0; payload = f6.0; blocks = f7.0; bytes = f8.0; commit = f9.0; rest = f9.1 }

-- headers with the same fields are the same
same_made : (h k : Header) (rs ss : List ℕ) → SameNumbers h k rs ss → h.tail ≡ k.tail → h.root ≡ k.root → h.prev.0 ≡ k.prev.0 → h.digest.0 ≡ k.digest.0 → h ≡ k
same_made h k rs ss n t r p d =
    λ i. record { kind = n.kind i; mount = n.mount i; seq = n.seq i; place = record { 0 = n.place i }; payload = n.payload i; blocks = n.blocks i; bytes = n.bytes i; commit = record { 0 = n.commit i }; tail = t i; root = r i; prev = record { 0 = p i }; digest = record { 0 = d i } }

pub same_header : (h k : Header) (rs ss : List ℕ) → IsHeader h → IsHeader k → header_bytes h ++ rs ≡ header_bytes k ++ ss → (h ≡ k) × (rs ≡ ss)
same_header h k rs ss is_h is_k e =
    let n = same_numbers h k rs ss is_h is_k e in
    let r = same_roots h.tail k.tail h.root k.root _ _ (root_fit h.tail h.root is_h.tail is_h.root) (root_fit k.tail k.root is_k.tail is_k.root) n.rest in
    let p = same_parts h.prev.0 k.prev.0 _ _ (is_h.prev ∙ sym is_k.prev) r.2 in
    let d = same_parts h.digest.0 k.digest.0 rs ss (is_h.digest ∙ sym is_k.digest) p.1 in
    (same_made h k rs ss n r.0 r.1 p.0 d.0, d.1)

-- ---- where single fields stand

-- the word and the number of the format
pub record Marked (bytes : List ℕ) (h : Header) : Type 0 where
  pub long : 176 ≤ length bytes
  pub magic : take 8 bytes ≡ codes "SEARECRD"
  pub format : slice_range bytes 8 12 ≡ big_endian 4 1
  pub kind : slice_range bytes 12 16 ≡ big_endian 4 (kind_number h.kind)
  pub roots : slice_range bytes 56 112 ≡ root_bytes h.tail h.root

pub marked : (bytes : List ℕ) (h : Header) (rest : List ℕ) → IsHeader h → bytes ≡ header_bytes h ++ rest → Marked bytes h
marked bytes h rest is e =
    let m = codes "SEARECRD" in
    let f = big_endian 4 1 in
    let k = big_endian 4 (kind_number h.kind) in
    let whole = e ∙ header_parts h rest in
    let lf = length-big_endian 4 1 in
    let lk = length-big_endian 4 (kind_number h.kind) in
    let lmf = length-append m f in
    let at_roots : bytes ≡ front h ++ (root_bytes h.tail h.root ++ (h.prev.0 ++ (h.digest.0 ++ rest))) = e ∙ ap (λ (x : List ℕ). x ++ rest) (front_is h) ∙ simp append_assoc in
    record {
      long = omega (arith, ap length e, length-append (header_bytes h) rest, length-header_bytes h is.prev is.digest);
      magic = ap (take 8) whole;
      format = ap (λ (x : List ℕ). slice_range x 8 12) whole ∙ slice_at m f _ 8 12 refl (omega arith);
      kind = ap (λ (x : List ℕ). slice_range x 12 16) (whole ∙ sym (append_assoc m f _)) ∙ slice_at (m ++ f) k _ 12 16 (omega arith) (omega arith);
      roots = ap (λ (x : List ℕ). slice_range x 56 112) at_roots ∙ slice_at (front h) (root_bytes h.tail h.root) _ 56 112 (length-front h) (omega (arith, length-root_bytes h.tail h.root));
    }

-- the field of the digest
pub digest_field : (h : Header) (rest : List ℕ) → length h.prev.0 ≡ 32 → length h.digest.0 ≡ 32 → slice_range (header_bytes h ++ rest) 144 176 ≡ h.digest.0
digest_field h rest p d =
    let f = front h in
    let r = root_bytes h.tail h.root in
    let at : header_bytes h ++ rest ≡ (f ++ r ++ h.prev.0) ++ (h.digest.0 ++ rest) = ap (λ (x : List ℕ). x ++ rest) (front_is h) ∙ append_assoc (f ++ r ++ h.prev.0) h.digest.0 rest in
    ap (λ (x : List ℕ). slice_range x 144 176) at ∙ slice_at (f ++ r ++ h.prev.0) h.digest.0 rest 144 176 (omega (arith, length-append (f ++ r) h.prev.0, length-append f r, length-front h, length-root_bytes h.tail h.root)) (omega arith)

-- ---- what is appended

pub header_pushed : (h : Header) (b0 b1 b2 b3 b4 b5 b6 b7 b8 b9 b10 b11 b12 b13 : List ℕ) → b1 ≡ b0 ++ codes "SEARECRD" → b2 ≡ b1 ++ big_endian 4 1 → b3 ≡ b2 ++ big_endian 4 (kind_number h.kind) → b4 ≡ b3 ++ big_endian 8 h.mount
    → b5 ≡ b4 ++ big_endian 8 h.seq → b6 ≡ b5 ++ big_endian 4 h.place.0 → b7 ≡ b6 ++ big_endian 4 h.payload → b8 ≡ b7 ++ big_endian 4 h.blocks → b9 ≡ b8 ++ big_endian 4 h.bytes → b10 ≡ b9 ++ big_endian 8 h.commit.0
    → b11 ≡ b10 ++ root_bytes h.tail h.root → b12 ≡ b11 ++ h.prev.0 → b13 ≡ b12 ++ h.digest.0 → b13 ≡ b0 ++ header_bytes h
unfolding header_bytes
header_pushed h b0 b1 b2 b3 b4 b5 b6 b7 b8 b9 b10 b11 b12 b13 e1 e2 e3 e4 e5 e6 e7 e8 e9 e10 e11 e12 e13 =
    let f2 = e2 ∙ ap (λ (b : List ℕ). b ++ big_endian 4 1) e1 in
    let f3 = e3 ∙ ap (λ (b : List ℕ). b ++ big_endian 4 (kind_number h.kind)) f2 in
    let f4 = e4 ∙ ap (λ (b : List ℕ). b ++ big_endian 8 h.mount) f3 in
    let f5 = e5 ∙ ap (λ (b : List ℕ). b ++ big_endian 8 h.seq) f4 in
    let f6 = e6 ∙ ap (λ (b : List ℕ). b ++ big_endian 4 h.place.0) f5 in
    let f7 = e7 ∙ ap (λ (b : List ℕ). b ++ big_endian 4 h.payload) f6 in
    let f8 = e8 ∙ ap (λ (b : List ℕ). b ++ big_endian 4 h.blocks) f7 in
    let f9 = e9 ∙ ap (λ (b : List ℕ). b ++ big_endian 4 h.bytes) f8 in
    let f10 = e10 ∙ ap (λ (b : List ℕ). b ++ big_endian 8 h.commit.0) f9 in
    let f11 = e11 ∙ ap (λ (b : List ℕ). b ++ root_bytes h.tail h.root) f10 in
    let f12 = e12 ∙ ap (λ (b : List ℕ). b ++ h.prev.0) f11 in
    e13 ∙ ap (λ (b : List ℕ). b ++ h.digest.0) f12 ∙ simp append_assoc
