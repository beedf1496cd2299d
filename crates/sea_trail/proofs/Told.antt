-- What was read tells the trail of an image, or why it has none.
use Rattle.std.proofs.Common.{◌≡◌, ℕ, ◌+◌, ◌-◌, ◌*◌, ◌<◌, ◌≤◌, List, [], ◌∷◌, ◌++◌, length, get_or, take, drop, refl, sym, ap, subst, arith}
use Rattle.std.specs.Prelude.{map}
use Rattle.std.proofs.lemmas.List.{length-take, length-drop}
use Rattle.sea_record.specs.declared.record.Record.{Record}
use Rattle.sea_segment.specs.declared.header.Header.{Header}
use Rattle.sea_segment.proofs.Supers.{super_shape}
use Rattle.sea_trail.specs.declared.fault.ImageWhy.{ImageWhy}
use Rattle.sea_trail.specs.declared.fault.ImageWhy.TheVariants.{NoSuper, OldFormat, Short, NoSegment, MissingSegment, BadRecord}
use Rattle.sea_trail.specs.declared.survey.Found.{Found}
use Rattle.sea_trail.specs.declared.trail.Part.{Part}
use Rattle.sea_trail.specs.declared.trail.Trail.{Trail}
use Rattle.sea_trail.specs.declared.link.Link.{Link}
use Rattle.sea_trail.specs.Trail.{AreHeaders, AreParts, HasHeader, IsSuper, HasSegments, HasChain, IsNewest, IsOpen, IsTrail, AreLinked, AreFrom, NoHeader, block_of, blocks_needed, records_in, trail_link}
use Rattle.sea_trail.specs.Refusals.{HasNoSegment, IsBreak, IsBad, IsMissing, IsRefused, ahead, torn, astray}
use Rattle.sea_trail.specs.Parts.{HasFirst, IsFirstWhy, IsTold, IsPlaced, IsPlace, HasNoPlace}
use Rattle.sea_trail.proofs.Chains.{ArePlaced-chain}
use Rattle.sea_trail.proofs.Joined.{AreParts-at}
use Rattle.sea_trail.proofs.Places.{from_place, none_from}
use Rattle.sea_trail.proofs.Surveys.{AreFound-headers}

-- ---- the superblock

-- an image without a block has none
pub no_block : (image : List ℕ) → length image ≡ 0 → IsRefused image NoSuper
no_block image empty format segments super =
    let block = block_of image 0 in
    let word : length (take 8 block) ≡ 8 = ap length (super_shape block format segments super.spells).word in
    omega (arith, word, length-take 8 block, length-take (4096 * (0 + 1) - 4096 * 0) (drop (4096 * 0) image), length-drop (4096 * 0) image, empty)

pub has_segments : (image block : List ℕ) (have segments : ℕ) → block ≡ block_of image 0 → length image ≡ 4096 * have → HasFirst block 1 segments → blocks_needed segments ≤ have → HasSegments image segments
has_segments image block have segments is size first room = record {
  super = subst (λ (b : List ℕ). IsSuper b 1 segments) is first;
  long = omega (arith, size, room);
}

pub first_refused : (image block : List ℕ) (have : ℕ) (why : ImageWhy) → block ≡ block_of image 0 → length image ≡ 4096 * have → IsFirstWhy block have why → IsRefused image why
first_refused image block have NoSuper is size first =
    λ format segments super. first format segments (subst (λ (b : List ℕ). IsSuper b format segments) (sym is) super)
first_refused image block have (OldFormat found) is size first =
    record { segments = first.0; super = subst (λ (b : List ℕ). IsSuper b found first.0) is first.1; other = first.2 }
first_refused image block have (Short had need) is size first = record {
  segments = first.0;
  super = subst (λ (b : List ℕ). IsSuper b 1 first.0) is first.1;
  has = omega (arith, first.2, size);
  needs = first.3;
  fewer = first.4;
}
first_refused image block have NoSegment is size first = absurd first
first_refused image block have (MissingSegment seq) is size first = absurd first
first_refused image block have (BadRecord at) is size first = absurd first

-- ---- the open segment

pub no_segment : (image : List ℕ) (segments : ℕ) → HasSegments image segments → NoHeader image 0 segments → HasNoSegment image
no_segment image segments has none =
    record { segments = segments; super = has; none = λ h is. none h (omega arith) is.within is.stands }

pub is_open : (image : List ℕ) (segments : ℕ) (f : Found) (p : Part) → HasSegments image segments → IsNewest image segments f.header → p.header ≡ f.header → HasChain image p → IsOpen image segments p
is_open image segments f p has newest same chain =
    record { super = has; newest = subst (IsNewest image segments) (sym same) newest; chain = chain }

pub tail_ahead : (image : List ℕ) (segments : ℕ) (p : Part) → IsOpen image segments p → p.header.seq < p.last.tail.seq → IsBad image p.last.tail.place.0
tail_ahead image segments p is_open lt =
    ahead (record { segments = segments; newest = p; is_open = is_open; ahead = lt; at = refl })

-- ---- all that was read

pub placed_chain : (image : List ℕ) (p : Part) → HasChain image p → IsPlaced p
placed_chain image p has = record { records = ArePlaced-chain _ _ _ _ p.records has.chain; ends = has.ends }

-- the first segment stands in its place
pub first_placed : (image : List ℕ) (segments : ℕ) (found : List Found) (closed : List Part) (newest p : Part) → IsTold image segments found closed newest → p ≡ get_or (closed ++ newest ∷ []) 0 p → IsPlaced p
first_placed image segments found [] newest p told is = subst IsPlaced (sym is) (placed_chain image newest told.is_open.chain)
first_placed image segments found (q ∷ qs) newest p told is = subst IsPlaced (sym is) (placed_chain image q told.are_closed.parts.1)

first_from : (closed : List Part) (newest p : Part) (place at : ℕ) → p ≡ get_or (closed ++ newest ∷ []) 0 p → IsPlace p place at → AreFrom place (closed ++ newest ∷ []) (drop at (records_in (closed ++ newest ∷ [])))
first_from [] newest p place at is placed = from_place newest [] place at (subst (λ (q : Part). IsPlace q place at) is placed)
first_from (q ∷ qs) newest p place at is placed = from_place q (qs ++ newest ∷ []) place at (subst (λ (q : Part). IsPlace q place at) is placed)

no_first : (closed : List Part) (newest p : Part) (place : ℕ) → p ≡ get_or (closed ++ newest ∷ []) 0 p → HasNoPlace p place → (records : List Record) → AreFrom place (closed ++ newest ∷ []) records → ⊥
no_first [] newest p place is none = none_from newest [] place (subst (λ (q : Part). HasNoPlace q place) is none)
no_first (q ∷ qs) newest p place is none = none_from q (qs ++ newest ∷ []) place (subst (λ (q : Part). HasNoPlace q place) is none)

pub told_torn : (image : List ℕ) (segments : ℕ) (found : List Found) (closed : List Part) (newest : Part) (block : ℕ) → IsTold image segments found closed newest → IsBreak (closed ++ newest ∷ []) block → IsBad image block
told_torn image segments found closed newest block told breaks =
    torn (record { segments = segments; newest = newest; is_open = told.is_open; closed = closed; are_closed = told.are_closed; first_break = breaks })

pub told_astray : (image : List ℕ) (segments : ℕ) (found : List Found) (closed : List Part) (newest p : Part) → IsTold image segments found closed newest → AreLinked (closed ++ newest ∷ []) → p ≡ get_or (closed ++ newest ∷ []) 0 p → HasNoPlace p newest.last.tail.place.0 → IsBad image newest.last.tail.place.0
told_astray image segments found closed newest p told linked is none =
    astray (record { segments = segments; newest = newest; is_open = told.is_open; closed = closed; are_closed = told.are_closed; linked = linked; none = no_first closed newest p newest.last.tail.place.0 is none; at = refl })

pub told_trail : (image : List ℕ) (found : List Found) (closed : List Part) (newest p : Part) (at : ℕ) (t : Trail) → IsTold image t.segments found closed newest → AreLinked (closed ++ newest ∷ []) → p ≡ get_or (closed ++ newest ∷ []) 0 p → IsPlace p newest.last.tail.place.0 at
    → t.active ≡ newest.header.segment → t.seq ≡ newest.header.seq → t.end ≡ newest.end → trail_link t ≡ newest.last → t.headers ≡ map (λ f. f.header) found → t.records ≡ drop at (records_in (closed ++ newest ∷ [])) → IsTrail image t
told_trail image found closed newest p at t told linked is placed active seq ends last headers records = record {
  headers = subst (λ (hs : List Header). AreHeaders image 0 t.segments hs) (sym headers) (AreFound-headers image 0 t.segments found told.headers);
  newest = newest;
  is_open = told.is_open;
  active = active;
  seq = seq;
  ends = ends;
  last = last;
  closed = closed;
  are_closed = told.are_closed;
  linked = linked;
  records =
      let place_is : newest.last.tail.place.0 ≡ t.tail.place.0 = ap (λ (l : Link). l.tail.place.0) (sym last) in
      subst (λ (n : ℕ). AreFrom n (closed ++ newest ∷ []) t.records) place_is
      (subst (λ (rs : List Record). AreFrom newest.last.tail.place.0 (closed ++ newest ∷ []) rs) (sym records) (first_from closed newest p newest.last.tail.place.0 at is placed));
}

-- ---- a missing segment

pub missing : (image : List ℕ) (segments : ℕ) (newest : Part) (parts : List Part) (seq : ℕ) → IsOpen image segments newest → AreParts image segments newest.last.tail.seq parts → newest.last.tail.seq + length parts ≡ seq → seq < newest.header.seq
    → ((h : Header) → HasHeader image segments h → h.seq ≡ seq → ⊥) → IsMissing image seq
missing image segments newest parts seq open_is parts_are counted lt none = record {
  segments = segments;
  newest = newest;
  is_open = open_is;
  from_tail = omega arith;
  to_newest = omega arith;
  none = none;
  first = λ q low high. AreParts-at image segments newest.last.tail.seq parts parts_are q low (omega arith);
}
