-- Headers found one after the other, as the plain reader looks at them.
use Rattle.std.proofs.Common.{◌≡◌, ℕ, ◌+◌, ◌<◌, ◌≤◌, List, [], ◌∷◌, ◌++◌, Option, Some, None, refl, sym, ap, ◌∙◌, subst, inl, inr, arith}
use Rattle.std.specs.Prelude.{MatchOption}
use Rattle.std.proofs.lemmas.Bool.{cases_lt}
use Rattle.sea_segment.specs.Header.{SpellsHeader}
use Rattle.sea_segment.specs.declared.header.Header.{Header}
use Rattle.sea_trail.specs.declared.survey.Found.{Found}
use Rattle.sea_trail.specs.Parts.{IsFoundIn, SpellsNone}
use Rattle.sea_trail.specs.Trail.{AreHeaders, IsNumbered, StandsIn, block_of, header_block, header_link}
use Rattle.sea_trail.proofs.Surveys.{IsNewestFound-past, NoHeader-more, before_or, newest_earlier, newest_later}
use Rattle.sea_trail_trial.specs.Plain.{HasNone, HasOne, IsNewestOf, NoneNumbered}

-- a header with what it hands on
abbrev pub found_of : Header → Found
found_of h = record { header = h; link = header_link h }

-- the block of a segment spells what stands there
pub spells_at : (image : List ℕ) (s : ℕ) (h : Header) → h.segment ≡ s → StandsIn image h → SpellsHeader (block_of image (header_block s)) h
spells_at image s h named stands = subst (λ (n : ℕ). SpellsHeader (block_of image (header_block n)) h) named stands

pub stands_in : (image : List ℕ) (s : ℕ) (h : Header) → h.segment ≡ s → SpellsHeader (block_of image (header_block s)) h → StandsIn image h
stands_in image s h named spells = subst (λ (n : ℕ). SpellsHeader (block_of image (header_block n)) h) (sym named) spells

spells_none : (image : List ℕ) (s : ℕ) → HasNone image s → SpellsNone (block_of image (header_block s)) s
spells_none image s none h named spells = none h named (stands_in image s h named spells)

found_in : (image : List ℕ) (s : ℕ) (h : Header) → HasOne image s h → IsFoundIn (block_of image (header_block s)) s (found_of h)
found_in image s h is = record { named = is.0; spells = spells_at image s h is.0 is.1; link = refl }

-- ---- one segment more

pub headers_past : (image : List ℕ) (from s : ℕ) (hs : List Header) → AreHeaders image from s hs → HasNone image s → AreHeaders image from (s + 1) hs
headers_past image from s [] are none = NoHeader-more image from s are (spells_none image s none)
headers_past image from s (h ∷ hs) are none =
    let within : h.segment < s + 1 = omega (arith, are.1) in
    (are.0, within, are.2, are.3, headers_past image (h.segment + 1) s hs are.4 none)

pub headers_more : (image : List ℕ) (from s : ℕ) (hs : List Header) (h : Header) → from ≤ s → AreHeaders image from s hs → HasOne image s h → AreHeaders image from (s + 1) (hs ++ h ∷ [])
headers_more image from s [] h le none is =
    let low : from ≤ h.segment = omega (arith, is.0) in
    let within : h.segment < s + 1 = omega (arith, is.0) in (
      low,
      within,
      is.1,
      λ k l high stands. none k l (omega (arith, is.0, high)) stands,
      λ k l high stands. omega (arith, is.0, l, high),
    )
headers_more image from s (g ∷ gs) h le are is =
    let within : g.segment < s + 1 = omega (arith, are.1) in
    (are.0, within, are.2, are.3, headers_more image (g.segment + 1) s gs h (omega (arith, are.1)) are.4 is)

pub newest_past : (image : List ℕ) (s : ℕ) (newest : Option Header) → IsNewestOf image s newest → HasNone image s → IsNewestOf image (s + 1) newest
newest_past image s None is none = NoHeader-more image 0 s is (spells_none image s none)
newest_past image s (Some h) is none = (IsNewestFound-past image s (Some (found_of h)) (is, refl) (spells_none image s none)).0

pub newest_more : (image : List ℕ) (s : ℕ) (old new : Option Header) (h : Header) → IsNewestOf image s old → HasOne image s h
    → MatchOption old (new ≡ Some h) (λ g. (g.seq < h.seq → new ≡ Some h) × (h.seq ≤ g.seq → new ≡ Some g)) → IsNewestOf image (s + 1) new
newest_more image s None new h was is chosen =
    subst (IsNewestOf image (s + 1)) (sym chosen) (newest_later image s (found_of h) (found_in image s h is) (λ k has. absurd (was k (omega arith) has.within has.stands))).0
newest_more image s (Some g) new h was is chosen =
    elim (cases_lt g.seq h.seq) [
      | inl lt ↦ subst (IsNewestOf image (s + 1)) (sym (chosen.0 lt)) (newest_later image s (found_of h) (found_in image s h is) (λ k has. omega (arith, was.greatest k has, lt))).0
      | inr ge ↦ subst (IsNewestOf image (s + 1)) (sym (chosen.1 ge)) (newest_earlier image s (found_of g) (found_of h) (was, refl) (found_in image s h is) ge).0
    ]

-- ---- a search for a number

pub none_past : (image : List ℕ) (s seq : ℕ) → NoneNumbered image s seq → HasNone image s → NoneNumbered image (s + 1) seq
none_past image s seq before none k has number =
    elim (cases_lt k.segment s) [
      | inl lt ↦ before k (record { within = lt; stands = has.stands }) number
      | inr ge ↦ none k (omega (arith, has.within)) has.stands
    ]

pub none_other : (image : List ℕ) (s seq : ℕ) (h : Header) → NoneNumbered image s seq → HasOne image s h → (h.seq ≡ seq → ⊥) → NoneNumbered image (s + 1) seq
none_other image s seq h before is other k has number =
    elim (before_or image s (found_of h) k (found_in image s h is) has) [
      | inl there ↦ before k there number
      | inr same ↦ other (sym (ap (λ (x : Header). x.seq) same) ∙ number)
    ]

pub is_numbered : (image : List ℕ) (segments s seq : ℕ) (h : Header) → s < segments → NoneNumbered image s seq → HasOne image s h → h.seq ≡ seq → IsNumbered image segments seq h
is_numbered image segments s seq h lt before is number = record {
  has = record { within = omega (arith, is.0); stands = is.1 };
  number = number;
  least = λ k has e. elim (cases_lt k.segment h.segment) [
    | inl below ↦ absurd (before k (record { within = omega (arith, is.0, below); stands = has.stands }) e)
    | inr ge ↦ ge
  ];
}
