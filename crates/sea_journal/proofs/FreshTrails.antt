-- The trail of a fresh image.
use Rattle.std.proofs.Common.{◌≡◌, ℕ, ◌+◌, ◌*◌, ◌<◌, ◌≤◌, List, [], ◌∷◌, ◌++◌, length, take, drop, get_or, replicate, refl, sym, ap, ◌∙◌, subst, inl, inr, arith, length-append}
use Rattle.std.specs.Prelude.{slice_range}
use Rattle.std.proofs.lemmas.List.{take_all, length-take-le, length-drop}
use Rattle.std.proofs.lemmas.Bool.{cases_lt}
use Rattle.sea_device.specs.Device.{overwritten}
use Rattle.sea_record.specs.Record.{BeginsWith, BeginsWithNone}
use Rattle.sea_segment.specs.Header.{SpellsHeader}
use Rattle.sea_segment.specs.Superblock.{IsSegmentCount, SpellsSuper}
use Rattle.sea_segment.specs.declared.header.Header.{Header}
use Rattle.sea_segment.proofs.Headers.{header_shape, same_header}
use Rattle.sea_segment.proofs.Supers.{any_super}
use Rattle.sea_trail.specs.Trail.{IsTrail, HasHeader, StandsIn, header_block, header_link, blocks_needed, block_of, body_of}
use Rattle.sea_trail.specs.declared.trail.Part.{Part}
use Rattle.sea_journal.specs.Mkfs.{AllBlank, first_header, fresh_trail}
use Rattle.sea_journal.proofs.Overlays.{slice_behind, slice_inside}

-- zeros spell no header
zero_header : (bytes : List ℕ) (h : Header) → bytes ≡ replicate (length bytes) 0 → SpellsHeader bytes h → ⊥
zero_header bytes h zeros spells =
    let word = (header_shape bytes h spells).word in
    let first : get_or (take 8 bytes) 0 1 ≡ 83 = ap (λ (b : List ℕ). get_or b 0 1) word in
    none bytes zeros first
  where
    none : (b : List ℕ) → b ≡ replicate (length b) 0 → get_or (take 8 b) 0 1 ≡ 83 → ⊥
    none [] same e = absurd (omega (arith, e))
    none (x ∷ b) same e = let zero : x ≡ 0 = ap (λ (l : List ℕ). get_or l 0 1) same in absurd (omega (arith, e))

pub length-overwritten : (at : ℕ) (bytes old : List ℕ) → at + length bytes ≤ length old → length (overwritten at bytes old) ≡ length old
length-overwritten at bytes old within =
    length-append (take at old ++ bytes) (drop (at + length bytes) old)
    ∙ omega (arith, length-append (take at old) bytes, length-take-le at old (omega arith), length-drop (at + length bytes) old)

module _ (superblock header old : List ℕ) (segments size : ℕ) (sup : length superblock ≡ 4096) (head : length header ≡ 4096) (whole : length old ≡ 4096 * size) (fits : blocks_needed segments ≤ size) (count : IsSegmentCount segments) where
  abbrev inner : List ℕ
  inner = overwritten 4096 header old

  abbrev image : List ℕ
  image = overwritten 0 superblock inner

  inner_size : length inner ≡ 4096 * size
  inner_size = length-overwritten 4096 header old (omega arith) ∙ whole

  image_size : length image ≡ 4096 * size
  image_size = length-overwritten 0 superblock inner (omega (arith, inner_size)) ∙ inner_size

  -- what stands in the first two blocks, and that all else is as it was
  first_is : block_of image 0 ≡ superblock
  first_is = slice_inside 0 0 4096 superblock inner (omega arith) (omega arith) (omega arith) (omega arith) ∙ take_all 4096 superblock (omega arith)

  second_is : block_of image 1 ≡ header
  second_is =
      slice_behind 0 4096 8192 superblock inner (omega arith) (omega (arith, inner_size))
      ∙ slice_inside 4096 4096 8192 header old (omega arith) (omega arith) (omega arith) (omega arith) ∙ take_all 4096 header (omega arith)

  others : (i j : ℕ) → 8192 ≤ i → slice_range image i j ≡ slice_range old i j
  others i j behind =
      slice_behind 0 i j superblock inner (omega arith) (omega (arith, inner_size))
      ∙ slice_behind 4096 i j header old (omega arith) (omega arith)

  -- no other segment has a header
  no_other : AllBlank segments old → (h : Header) → 1 ≤ h.segment → h.segment < segments → StandsIn image h → ⊥
  no_other blank h some within stands =
      let at = header_block h.segment in
      let same : block_of image at ≡ block_of old at = others (4096 * at) (4096 * (at + 1)) (omega arith) in
      zero_header (block_of old at) h (blank at (inr (h.segment, within, refl))) (subst (λ (b : List ℕ). SpellsHeader b h) same stands)

  pub is_fresh_trail : SpellsSuper superblock segments → SpellsHeader header first_header → AllBlank segments old → BeginsWithNone (body_of old 0) → IsTrail image (fresh_trail segments)
  is_fresh_trail is_super is_header blank none =
      let stands : StandsIn image first_header = subst (λ (b : List ℕ). SpellsHeader b first_header) (sym second_is) is_header in
      let some : 0 < segments = omega (arith, count.0) in
      let has : HasHeader image segments first_header = record { within = some; stands = stands } in
      let newest : Part = record { header = first_header; records = []; end = record { 0 = 2 }; last = header_link first_header } in
      let body : body_of image 0 ≡ body_of old 0 = others 8192 (4096 * 2049) (omega arith) in
      record {
        headers = (omega arith, some, stands, λ h low high spells. absurd (omega arith), λ h low high spells. no_other blank h low high spells);
        newest = newest;
        is_open = record {
          super = record {
            super = record { spells = any_super (block_of image 0) segments (subst (λ (b : List ℕ). SpellsSuper b segments) (sym first_is) is_super); count = λ one. count };
            long = omega (arith, image_size);
          };
          newest = record {
            numbered = record { has = has; number = refl; least = λ k other same. omega arith };
            greatest = greatest blank stands;
          };
          chain = record { chain = λ r continues. none r (subst (λ (b : List ℕ). BeginsWith b r) body continues.stands); ends = refl; last = refl };
        };
        active = refl;
        seq = refl;
        ends = refl;
        last = refl;
        closed = [];
        are_closed = record { parts = tt; joined = refl };
        linked = tt;
        records = ([], [], refl, refl, refl);
      }
    where
      greatest : AllBlank segments old → StandsIn image first_header → (k : Header) → HasHeader image segments k → k.seq ≤ 1
      greatest blank stands k other =
          elim (cases_lt k.segment 1) [
            | inl first ↦ (
                let at : k.segment ≡ 0 = omega arith in
                let here : SpellsHeader (block_of image 1) k = subst (λ (s : ℕ). SpellsHeader (block_of image (header_block s)) k) at other.stands in
                let same : k ≡ first_header = same_header (block_of image 1) k first_header here stands in
                let number : k.seq ≡ 1 = ap (λ (h : Header). h.seq) same in omega arith
                )
            | inr later ↦ absurd (no_other blank k later other.within other.stands)
          ]
