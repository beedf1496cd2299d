-- What a superblock's bytes tell of its numbers, and the bytes that are written.
use Rattle.std.proofs.Common.{◌≡◌, ℕ, List, [], ◌++◌, length, take, replicate, codes, refl, sym, ap, subst, ◌∙◌, arith, append_assoc, length-append}
use Rattle.std.specs.Prelude.{slice_range}
use Rattle.std.proofs.lemmas.List.{append-nil, take-take, length-replicate}
use Rattle.sea_segment.proofs.Fronts.{slice_of_front}
use Rattle.sea_base.specs.Field.{big_endian}
use Rattle.sea_base.proofs.Fields.{length-big_endian, same_field}
use Rattle.sea_base.proofs.Slices.{same_parts, slice_at, zeros_long, length-slice}
use Rattle.sea_base.proofs.RootFields.{joined}
use Rattle.sea_segment.specs.Seal.{sealed, HasSeal}
use Rattle.sea_segment.specs.Superblock.{super_front, SpellsAnySuper, SpellsSuper, IsSuperShape}
use Rattle.sea_segment.proofs.Seals.{take_sealed, has_seal, sealed_by}

front_parts : (format segments : ℕ) (rest : List ℕ) → super_front format segments ++ rest ≡ codes "SEASUPER" ++ (big_endian 4 format ++ (big_endian 4 segments ++ (replicate 48 0 ++ rest)))
unfolding super_front
front_parts format segments rest = simp append_assoc

pub length-super_front : (format segments : ℕ) → length (super_front format segments) ≡ 64
unfolding super_front
length-super_front format segments =
    let m = codes "SEASUPER" in
    let f = big_endian 4 format in
    let s = big_endian 4 segments in
    let z = replicate {A = ℕ} 48 0 in
    omega (arith, length-append (m ++ f ++ s) z, length-append (m ++ f) s, length-append m f, length-big_endian 4 format, length-big_endian 4 segments, length-replicate {A = ℕ} 48 0)

-- the front of a block that spells a superblock
front_of : (bytes : List ℕ) (format segments : ℕ) → bytes ≡ sealed (super_front format segments) → take 64 bytes ≡ super_front format segments
front_of bytes format segments e = ap (take 64) e ∙ take_sealed (super_front format segments) 64 (length-super_front format segments)

-- one block spells one superblock
pub same_super : (bytes : List ℕ) (f g s t : ℕ) → SpellsAnySuper bytes f s → SpellsAnySuper bytes g t → (f ≡ g) × (s ≡ t)
same_super bytes f g s t first second =
    let e = ap (λ (b : List ℕ). b ++ []) (sym (front_of bytes f s first.spelled) ∙ front_of bytes g t second.spelled) in
    let f0 = same_parts (codes "SEASUPER") (codes "SEASUPER") _ _ refl (sym (front_parts f s []) ∙ e ∙ front_parts g t []) in
    let f1 = same_field 4 f g _ _ (omega (arith, first.format_fits)) (omega (arith, second.format_fits)) f0.1 in
    let f2 = same_field 4 s t _ _ (omega (arith, first.segments_fit)) (omega (arith, second.segments_fit)) f1.1 in (f1.0, f2.0)

pub any_super : (bytes : List ℕ) (segments : ℕ) → SpellsSuper bytes segments → SpellsAnySuper bytes 1 segments
any_super bytes segments spells = record { format_fits = omega arith; segments_fit = omega (arith, spells.count.1); spelled = spells.spelled }

pub super_shape : (bytes : List ℕ) (format segments : ℕ) → SpellsAnySuper bytes format segments → IsSuperShape bytes
super_shape bytes format segments spells =
    let m = codes "SEASUPER" in
    let f = big_endian 4 format in
    let s = big_endian 4 segments in
    let z = replicate {A = ℕ} 48 0 in
    let front = front_of bytes format segments spells.spelled in
    let whole : take 64 bytes ≡ super_front format segments ++ [] = front ∙ sym (append-nil (super_front format segments)) in
    let len : length (m ++ f ++ s) ≡ 16 = omega (arith, length-append (m ++ f) s, length-append m f, length-big_endian 4 format, length-big_endian 4 segments) in
    record {
      word = sym (take-take 8 64 bytes (omega arith)) ∙ ap (take 8) (whole ∙ front_parts format segments []);
      zero = zeros_long (slice_range bytes 16 64) 48
          (slice_of_front bytes 64 16 64 (omega arith) (omega arith) ∙ ap (λ (b : List ℕ). slice_range b 16 64) (whole ∙ front_parts format segments [] ∙ grouped m f s (z ++ [])) ∙ slice_at (m ++ f ++ s) z [] 16 64 len refl);
      seal = subst (λ (b : List ℕ). HasSeal b 64) (sym spells.spelled) (has_seal (super_front format segments) 64 (length-super_front format segments) (omega arith));
    }
  where
    grouped : (a b c d : List ℕ) → a ++ (b ++ (c ++ d)) ≡ (a ++ b ++ c) ++ d
    grouped a b c d = simp append_assoc

-- what is read makes the superblock's bytes
pub super_read : (bytes : List ℕ) (format segments : ℕ) → length bytes ≡ 4096 → IsSuperShape bytes → slice_range bytes 8 12 ≡ big_endian 4 format → slice_range bytes 12 16 ≡ big_endian 4 segments → bytes ≡ sealed (super_front format segments)
unfolding super_front
super_read bytes format segments whole shape f s =
    let zeros : slice_range bytes 16 64 ≡ replicate 48 0 = shape.zero ∙ ap (λ (n : ℕ). replicate n 0) (length-slice bytes 16 64 (omega arith) (omega arith)) in
    let f1 = joined bytes _ _ 0 8 12 (omega arith) (omega arith) shape.word f in
    let f2 = joined bytes _ _ 0 12 16 (omega arith) (omega arith) f1 s in
    let f3 = joined bytes _ _ 0 16 64 (omega arith) (omega arith) f2 zeros in
    sealed_by bytes 64 whole (omega arith) shape.seal ∙ ap sealed f3

-- what is appended
pub super_written : (format segments : ℕ) (b0 b1 b2 b3 b4 : List ℕ) → b0 ≡ [] → b1 ≡ b0 ++ codes "SEASUPER" → b2 ≡ b1 ++ big_endian 4 format → b3 ≡ b2 ++ big_endian 4 segments → b4 ≡ b3 ++ replicate 48 0 → b4 ≡ super_front format segments
unfolding super_front
super_written format segments b0 b1 b2 b3 b4 e0 e1 e2 e3 e4 =
    e4 ∙ ap (λ (b : List ℕ). b ++ replicate 48 0) (e3 ∙ ap (λ (b : List ℕ). b ++ big_endian 4 segments) (e2 ∙ ap (λ (b : List ℕ). b ++ big_endian 4 format) (e1 ∙ ap (λ (b : List ℕ). b ++ codes "SEASUPER") e0)))
