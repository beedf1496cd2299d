-- What a header's bytes tell of its fields, and the bytes that are written.
use Rattle.std.proofs.Common.{◌≡◌, ℕ, ◌<◌, ◌^◌, List, [], ◌++◌, length, take, replicate, codes, refl, sym, ap, subst, ◌∙◌, arith, append_assoc, length-append}
use Rattle.std.specs.Prelude.{slice_range}
use Rattle.std.proofs.lemmas.List.{append-nil, take-take, length-replicate}
use Rattle.sea_base.specs.Field.{big_endian}
use Rattle.sea_base.specs.RootFields.{root_bytes, IsRoot, IsTail}
use Rattle.sea_base.specs.declared.place.Root.{Root}
use Rattle.sea_base.specs.declared.place.Tail.{Tail}
use Rattle.sea_base.proofs.Fields.{length-big_endian, same_field}
use Rattle.sea_base.proofs.RootFields.{joined, length-root_bytes, root_fit, same_roots}
use Rattle.sea_base.proofs.Slices.{same_parts, slice_at, zeros_long, length-slice}
use Rattle.sea_segment.specs.declared.header.Header.{Header}
use Rattle.sea_segment.specs.Seal.{sealed, HasSeal}
use Rattle.sea_segment.specs.Header.{header_digest, header_front, IsHeader, SpellsHeader, IsHeaderShape, HasRanges}
use Rattle.sea_segment.proofs.Fronts.{slice_of_front}
use Rattle.sea_segment.proofs.Seals.{take_sealed, has_seal, sealed_by, digest_in_seal}

-- the fields, one behind the other
front_parts : (h : Header) (rest : List ℕ) → header_front h ++ rest
    ≡ codes "SEASEGMT" ++ (big_endian 4 1 ++ (big_endian 4 h.segment ++ (big_endian 8 h.mount ++ (big_endian 8 h.seq ++ (replicate 16 0 ++ (big_endian 8 h.commit.0 ++ (root_bytes h.tail h.root ++ (h.prev.0 ++ rest))))))))
unfolding header_front
front_parts h rest = simp append_assoc

pub length-header_front : (h : Header) → length h.prev.0 ≡ 32 → length (header_front h) ≡ 144
length-header_front h prev =
    let m = codes "SEASEGMT" in
    let f = big_endian 4 1 in
    let n = big_endian 4 h.segment in
    let t = big_endian 8 h.mount in
    let s = big_endian 8 h.seq in
    let z = replicate {A = ℕ} 16 0 in
    let c = big_endian 8 h.commit.0 in
    let r = root_bytes h.tail h.root in
    let p = h.prev.0 ++ [] in
    omega (arith, ap length (sym (append-nil (header_front h)) ∙ front_parts h []), length-append m (f ++ (n ++ (t ++ (s ++ (z ++ (c ++ (r ++ p))))))), length-append f (n ++ (t ++ (s ++ (z ++ (c ++ (r ++ p)))))), length-append n (t ++ (s ++ (z ++ (c ++ (r ++ p))))), length-append t (s ++ (z ++ (c ++ (r ++ p)))), length-append s (z ++ (c ++ (r ++ p))), length-append z (c ++ (r ++ p)), length-append c (r ++ p), length-append r p, length-append h.prev.0 [], length-big_endian 4 1, length-big_endian 4 h.segment, length-big_endian 8 h.mount, length-big_endian 8 h.seq, length-replicate {A = ℕ} 16 0, length-big_endian 8 h.commit.0, length-root_bytes h.tail h.root)

-- the front of a block that spells a header
front_of : (bytes : List ℕ) (h : Header) → SpellsHeader bytes h → take 144 bytes ≡ header_front h ++ []
front_of bytes h spells =
    ap (take 144) spells.spelled ∙ take_sealed (header_front h) 144 (length-header_front h spells.header.prev) ∙ sym (append-nil (header_front h))

pub header_shape : (bytes : List ℕ) (h : Header) → SpellsHeader bytes h → IsHeaderShape bytes
header_shape bytes h spells =
    let m = codes "SEASEGMT" in
    let f = big_endian 4 1 in
    let n = big_endian 4 h.segment in
    let t = big_endian 8 h.mount in
    let s = big_endian 8 h.seq in
    let z = replicate {A = ℕ} 16 0 in
    let rest = big_endian 8 h.commit.0 ++ (root_bytes h.tail h.root ++ (h.prev.0 ++ [])) in
    let whole = front_of bytes h spells ∙ front_parts h [] in
    let len : length (m ++ f ++ n ++ t ++ s) ≡ 32 = omega (arith, length-append (m ++ f ++ n ++ t) s, length-append (m ++ f ++ n) t, length-append (m ++ f) n, length-append m f, length-big_endian 4 1, length-big_endian 4 h.segment, length-big_endian 8 h.mount, length-big_endian 8 h.seq) in
    record {
      word = sym (take-take 8 144 bytes (omega arith)) ∙ ap (take 8) whole;
      format = slice_of_front bytes 144 8 12 (omega arith) (omega arith) ∙ ap (λ (b : List ℕ). slice_range b 8 12) whole ∙ slice_at m f (n ++ (t ++ (s ++ (z ++ rest)))) 8 12 refl (omega (arith, length-big_endian 4 1));
      zero = zeros_long (slice_range bytes 32 48) 16
          (slice_of_front bytes 144 32 48 (omega arith) (omega arith) ∙ ap (λ (b : List ℕ). slice_range b 32 48) (whole ∙ grouped m f n t s (z ++ rest)) ∙ slice_at (m ++ f ++ n ++ t ++ s) z rest 32 48 len refl);
      seal = subst (λ (b : List ℕ). HasSeal b 144) (sym spells.spelled) (has_seal (header_front h) 144 (length-header_front h spells.header.prev) (omega arith));
    }
  where
    grouped : (a b c d e f : List ℕ) → a ++ (b ++ (c ++ (d ++ (e ++ f)))) ≡ (a ++ b ++ c ++ d ++ e) ++ f
    grouped a b c d e f = simp append_assoc

-- the fields of tail and roots stand at 56
pub roots_of : (bytes : List ℕ) (h : Header) → SpellsHeader bytes h → slice_range bytes 56 112 ≡ root_bytes h.tail h.root
roots_of bytes h spells =
    let m = codes "SEASEGMT" in
    let f = big_endian 4 1 in
    let n = big_endian 4 h.segment in
    let t = big_endian 8 h.mount in
    let s = big_endian 8 h.seq in
    let z = replicate {A = ℕ} 16 0 in
    let c = big_endian 8 h.commit.0 in
    let r = root_bytes h.tail h.root in
    let whole = front_of bytes h spells ∙ front_parts h [] in
    let len : length (m ++ f ++ n ++ t ++ s ++ z ++ c) ≡ 56 = omega (arith, length-append (m ++ f ++ n ++ t ++ s ++ z) c, length-append (m ++ f ++ n ++ t ++ s) z, length-append (m ++ f ++ n ++ t) s, length-append (m ++ f ++ n) t, length-append (m ++ f) n, length-append m f, length-big_endian 4 1, length-big_endian 4 h.segment, length-big_endian 8 h.mount, length-big_endian 8 h.seq, length-replicate {A = ℕ} 16 0, length-big_endian 8 h.commit.0) in
    slice_of_front bytes 144 56 112 (omega arith) (omega arith) ∙ ap (λ (b : List ℕ). slice_range b 56 112) (whole ∙ grouped m f n t s z c (r ++ (h.prev.0 ++ []))) ∙ slice_at (m ++ f ++ n ++ t ++ s ++ z ++ c) r (h.prev.0 ++ []) 56 112 len (omega (arith, length-root_bytes h.tail h.root))
  where
    grouped : (a b c d e f g rest : List ℕ) → a ++ (b ++ (c ++ (d ++ (e ++ (f ++ (g ++ rest)))))) ≡ (a ++ b ++ c ++ d ++ e ++ f ++ g) ++ rest
    grouped a b c d e f g rest = simp append_assoc

-- the fields that are read make the front
pub header_read : (bytes : List ℕ) (h : Header) → length bytes ≡ 4096 → IsHeaderShape bytes → slice_range bytes 12 16 ≡ big_endian 4 h.segment → slice_range bytes 16 24 ≡ big_endian 8 h.mount → slice_range bytes 24 32 ≡ big_endian 8 h.seq
    → slice_range bytes 48 56 ≡ big_endian 8 h.commit.0 → slice_range bytes 56 112 ≡ root_bytes h.tail h.root → h.prev.0 ≡ slice_range bytes 112 144 → bytes ≡ sealed (header_front h)
unfolding header_front
header_read bytes h whole shape n t s c r p =
    let zeros : slice_range bytes 32 48 ≡ replicate 16 0 = shape.zero ∙ ap (λ (k : ℕ). replicate k 0) (length-slice bytes 32 48 (omega arith) (omega arith)) in
    let f1 = joined bytes _ _ 0 8 12 (omega arith) (omega arith) shape.word shape.format in
    let f2 = joined bytes _ _ 0 12 16 (omega arith) (omega arith) f1 n in
    let f3 = joined bytes _ _ 0 16 24 (omega arith) (omega arith) f2 t in
    let f4 = joined bytes _ _ 0 24 32 (omega arith) (omega arith) f3 s in
    let f5 = joined bytes _ _ 0 32 48 (omega arith) (omega arith) f4 zeros in
    let f6 = joined bytes _ _ 0 48 56 (omega arith) (omega arith) f5 c in
    let f7 = joined bytes _ _ 0 56 112 (omega arith) (omega arith) f6 r in
    let f8 = joined bytes _ _ 0 112 144 (omega arith) (omega arith) f7 (sym p) in
    sealed_by bytes 144 whole (omega arith) shape.seal ∙ ap sealed f8

-- its numbers fit their fields
pub record Fits (h : Header) : Type 0 where
  pub segment : h.segment < 2 ^ 32
  pub mount : h.mount < 2 ^ 64
  pub seq : h.seq < 2 ^ 64
  pub commit : h.commit.0 < 2 ^ 64
  pub tail : IsTail h.tail
  pub root : IsRoot h.root
  pub prev : length h.prev.0 ≡ 32

fits_of : (h : Header) → IsHeader h → Fits h
fits_of h is = record { segment = is.segment; mount = omega (arith, is.mount); seq = omega (arith, is.seq.1); commit = omega (arith, is.commit); tail = is.tail; root = is.root; prev = is.prev }

same_front : (h k : Header) → Fits h → Fits k → header_front h ++ [] ≡ header_front k ++ [] → h ≡ k
same_front h k is_h is_k e =
    let e0 = sym (front_parts h []) ∙ e ∙ front_parts k [] in
    let f0 = same_parts (codes "SEASEGMT") (codes "SEASEGMT") _ _ refl e0 in
    let f1 = same_parts (big_endian 4 1) (big_endian 4 1) _ _ refl f0.1 in
    let f2 = same_field 4 h.segment k.segment _ _ (omega (arith, is_h.segment)) (omega (arith, is_k.segment)) f1.1 in
    let f3 = same_field 8 h.mount k.mount _ _ (omega (arith, is_h.mount)) (omega (arith, is_k.mount)) f2.1 in
    let f4 = same_field 8 h.seq k.seq _ _ (omega (arith, is_h.seq)) (omega (arith, is_k.seq)) f3.1 in
    let f5 = same_parts {A = ℕ} (replicate 16 0) (replicate 16 0) _ _ refl f4.1 in
    let f6 = same_field 8 h.commit.0 k.commit.0 _ _ (omega (arith, is_h.commit)) (omega (arith, is_k.commit)) f5.1 in
    let f7 = same_roots h.tail k.tail h.root k.root _ _ (root_fit h.tail h.root is_h.tail is_h.root) (root_fit k.tail k.root is_k.tail is_k.root) f6.1 in
    let f8 = same_parts h.prev.0 k.prev.0 [] [] (is_h.prev ∙ sym is_k.prev) f7.2 in
    let made : ℕ → ℕ → ℕ → ℕ → Tail → Root → List ℕ → Header = λ n t s c l r p. record { segment = n; mount = t; seq = s; commit = record { 0 = c }; tail = l; root = r; prev = record { 0 = p } } in
    ap (λ (x : ℕ). made x h.mount h.seq h.commit.0 h.tail h.root h.prev.0) f2.0
    ∙ ap (λ (x : ℕ). made k.segment x h.seq h.commit.0 h.tail h.root h.prev.0) f3.0
    ∙ ap (λ (x : ℕ). made k.segment k.mount x h.commit.0 h.tail h.root h.prev.0) f4.0
    ∙ ap (λ (x : ℕ). made k.segment k.mount k.seq x h.tail h.root h.prev.0) f6.0
    ∙ ap (λ (x : Tail). made k.segment k.mount k.seq k.commit.0 x h.root h.prev.0) f7.0
    ∙ ap (λ (x : Root). made k.segment k.mount k.seq k.commit.0 k.tail x h.prev.0) f7.1
    ∙ ap (λ (x : List ℕ). made k.segment k.mount k.seq k.commit.0 k.tail k.root x) f8.0

-- the header that was read is the one that the block spells, if it spells one
pub read_is : (bytes : List ℕ) (h k : Header) → Fits h → bytes ≡ sealed (header_front h) → SpellsHeader bytes k → h ≡ k
read_is bytes h k fits spelled spells =
    let front : take 144 bytes ≡ header_front h = ap (take 144) spelled ∙ take_sealed (header_front h) 144 (length-header_front h fits.prev) in
    same_front h k fits (fits_of k spells.header) (append-nil (header_front h) ∙ sym front ∙ front_of bytes k spells)

-- a block spells one header
pub same_header : (bytes : List ℕ) (h k : Header) → SpellsHeader bytes h → SpellsHeader bytes k → h ≡ k
same_header bytes h k first second = read_is bytes h k (fits_of h first.header) first.spelled second

pub ranges_of : (bytes : List ℕ) (h k : Header) → Fits h → bytes ≡ sealed (header_front h) → SpellsHeader bytes k → HasRanges h
ranges_of bytes h k fits spelled spells =
    subst HasRanges (sym (read_is bytes h k fits spelled spells)) (record { mount = spells.header.mount; seq = spells.header.seq; commit = spells.header.commit })

-- the digest that stands in its block
pub digest_read : (bytes : List ℕ) (h : Header) → SpellsHeader bytes h → slice_range bytes 144 176 ≡ header_digest h
unfolding header_digest
digest_read bytes h spells =
    ap (λ (b : List ℕ). slice_range b 144 176) spells.spelled ∙ digest_in_seal (header_front h) 144 (length-header_front h spells.header.prev)

-- what is appended
pub header_written : (h : Header) (b0 b1 b2 b3 b4 b5 b6 b7 b8 b9 : List ℕ) → b0 ≡ [] → b1 ≡ b0 ++ codes "SEASEGMT" → b2 ≡ b1 ++ big_endian 4 1 → b3 ≡ b2 ++ big_endian 4 h.segment → b4 ≡ b3 ++ big_endian 8 h.mount
    → b5 ≡ b4 ++ big_endian 8 h.seq → b6 ≡ b5 ++ replicate 16 0 → b7 ≡ b6 ++ big_endian 8 h.commit.0 → b8 ≡ b7 ++ root_bytes h.tail h.root → b9 ≡ b8 ++ h.prev.0 → b9 ≡ header_front h
unfolding header_front
header_written h b0 b1 b2 b3 b4 b5 b6 b7 b8 b9 e0 e1 e2 e3 e4 e5 e6 e7 e8 e9 =
    let more : (x y z : List ℕ) → x ≡ y → x ++ z ≡ y ++ z = λ x y z e. ap (λ (b : List ℕ). b ++ z) e in
    let f1 = e1 ∙ more b0 [] (codes "SEASEGMT") e0 in
    let f2 = e2 ∙ more b1 _ (big_endian 4 1) f1 in
    let f3 = e3 ∙ more b2 _ (big_endian 4 h.segment) f2 in
    let f4 = e4 ∙ more b3 _ (big_endian 8 h.mount) f3 in
    let f5 = e5 ∙ more b4 _ (big_endian 8 h.seq) f4 in
    let f6 = e6 ∙ more b5 _ (replicate 16 0) f5 in
    let f7 = e7 ∙ more b6 _ (big_endian 8 h.commit.0) f6 in
    let f8 = e8 ∙ more b7 _ (root_bytes h.tail h.root) f7 in
    e9 ∙ more b8 _ h.prev.0 f8
