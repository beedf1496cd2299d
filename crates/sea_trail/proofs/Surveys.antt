-- Headers found one after the other, and looked up by their numbers.
use Rattle.std.proofs.Common.{◌≡◌, ℕ, suc, ◌+◌, ◌<◌, ◌≤◌, ◌⊎◌, Bool, true, false, cond, List, [], ◌∷◌, ◌++◌, length, get_or, drop, drop-cons, Option, Some, None, refl, sym, ap, ◌∙◌, subst, inl, inr, arith}
use Rattle.std.specs.Prelude.{◌==◌, map, MatchOption, IfSome}
use Rattle.std.specs.List.{find}
use Rattle.std.proofs.lemmas.Bool.{cases_lt, eqb-true, eqb-false, eq-eqb, ne_eqb}
use Rattle.std.proofs.lemmas.List.{drop_all}
use Rattle.sea_segment.specs.Header.{SpellsHeader}
use Rattle.sea_segment.specs.declared.header.Header.{Header}
use Rattle.sea_segment.proofs.Headers.{same_header}
use Rattle.sea_trail.specs.declared.survey.Found.{Found}
use Rattle.sea_trail.specs.declared.survey.Survey.{Survey}
use Rattle.sea_trail.specs.Trail.{AreHeaders, HasHeader, IsNumbered, NoHeader, StandsIn, block_of, header_block, header_link}
use Rattle.sea_trail.specs.Parts.{AreFit, AreFound, IsFit, IsFoundIn, IsNewestFound, IsSurvey, SpellsNone, SurveyFits}

-- a header stands in a segment that it names
stands_at : (image : List ℕ) (s : ℕ) (h : Header) → h.segment ≡ s → SpellsHeader (block_of image (header_block s)) h → StandsIn image h
stands_at image s h named spells = subst (λ (n : ℕ). SpellsHeader (block_of image (header_block n)) h) (sym named) spells

at_stands : (image : List ℕ) (s : ℕ) (h : Header) → h.segment ≡ s → StandsIn image h → SpellsHeader (block_of image (header_block s)) h
at_stands image s h named stands = subst (λ (n : ℕ). SpellsHeader (block_of image (header_block n)) h) named stands

-- one segment more without a header
pub NoHeader-more : (image : List ℕ) (from s : ℕ) → NoHeader image from s → SpellsNone (block_of image (header_block s)) s → NoHeader image from (s + 1)
NoHeader-more image from s none here h low high stands =
    elim (cases_lt h.segment s) [
      | inl lt ↦ none h low lt stands
      | inr ge ↦ (let named : h.segment ≡ s = omega arith in here h named (at_stands image s h named stands))
    ]

pub AreFound-past : (image : List ℕ) (from s : ℕ) (fs : List Found) → AreFound image from s fs → SpellsNone (block_of image (header_block s)) s → AreFound image from (s + 1) fs
AreFound-past image from s [] found here = NoHeader-more image from s found here
AreFound-past image from s (f ∷ fs) found here =
    let within : f.header.segment < s + 1 = omega (arith, found.1) in
    (found.0, within, found.2, found.3, found.4, AreFound-past image (f.header.segment + 1) s fs found.5 here)

-- one that has a header
pub AreFound-more : (image : List ℕ) (from s : ℕ) (fs : List Found) (f : Found) → from ≤ s → AreFound image from s fs → IsFoundIn (block_of image (header_block s)) s f → AreFound image from (s + 1) (fs ++ f ∷ [])
AreFound-more image from s [] f le none is =
    let low : from ≤ f.header.segment = omega (arith, is.named) in
    let within : f.header.segment < s + 1 = omega (arith, is.named) in (
      low,
      within,
      stands_at image s f.header is.named is.spells,
      is.link,
      λ h l high stands. none h l (omega (arith, is.named, high)) stands,
      λ h l high stands. omega (arith, is.named, l, high),
    )
AreFound-more image from s (g ∷ gs) f le found is =
    let within : g.header.segment < s + 1 = omega (arith, found.1) in
    (found.0, within, found.2, found.3, found.4, AreFound-more image (g.header.segment + 1) s gs f (omega (arith, found.1)) found.5 is)

-- the headers alone
pub AreFound-headers : (image : List ℕ) (from to : ℕ) (fs : List Found) → AreFound image from to fs → AreHeaders image from to (map (λ f. f.header) fs)
AreFound-headers image from to [] none = none
AreFound-headers image from to (f ∷ fs) found =
    (found.0, found.1, found.2, found.4, AreFound-headers image (f.header.segment + 1) to fs found.5)

-- ---- the open segment's so far

pub IsNewestFound-past : (image : List ℕ) (s : ℕ) (newest : Option Found) → IsNewestFound image s newest → SpellsNone (block_of image (header_block s)) s → IsNewestFound image (s + 1) newest
IsNewestFound-past image s None none here = NoHeader-more image 0 s none here
IsNewestFound-past image s (Some f) is here =
    let before : (k : Header) → HasHeader image (s + 1) k → HasHeader image s k = λ k has.
    elim (cases_lt k.segment s) [
      | inl lt ↦ record { within = lt; stands = has.stands }
      | inr ge ↦ (let named : k.segment ≡ s = omega (arith, has.within) in absurd (here k named (at_stands image s k named has.stands)))
    ] in (
      record {
        numbered = record {
          has = record { within = omega (arith, is.0.numbered.has.within); stands = is.0.numbered.has.stands };
          number = refl;
          least = λ k has e. is.0.numbered.least k (before k has) e;
        };
        greatest = λ k has. is.0.greatest k (before k has);
      },
      is.1,
    )

-- each header up to the next segment stands before it, or is the one there
pub before_or : (image : List ℕ) (s : ℕ) (f : Found) (k : Header) → IsFoundIn (block_of image (header_block s)) s f → HasHeader image (s + 1) k → HasHeader image s k ⊎ (k ≡ f.header)
before_or image s f k is has =
    elim (cases_lt k.segment s) [
      | inl lt ↦ inl (record { within = lt; stands = has.stands })
      | inr ge ↦ (let named : k.segment ≡ s = omega (arith, has.within) in inr (same_header (block_of image (header_block s)) k f.header (at_stands image s k named has.stands) is.spells))
    ]

-- a header with a greater number than all before it is the newest
pub newest_later : (image : List ℕ) (s : ℕ) (f : Found) → IsFoundIn (block_of image (header_block s)) s f → ((k : Header) → HasHeader image s k → k.seq < f.header.seq) → IsNewestFound image (s + 1) (Some f)
newest_later image s f is below = (
  record {
    numbered = record {
      has = record { within = omega (arith, is.named); stands = stands_at image s f.header is.named is.spells };
      number = refl;
      least = λ k has e. elim (before_or image s f k is has) [
        | inl before ↦ absurd (omega (arith, below k before, e))
        | inr same ↦ (let e' : k.segment ≡ f.header.segment = ap (λ (h : Header). h.segment) same in omega (arith, e'))
      ];
    };
    greatest = λ k has. elim (before_or image s f k is has) [
      | inl before ↦ omega (arith, below k before)
      | inr same ↦ (let e' : k.seq ≡ f.header.seq = ap (λ (h : Header). h.seq) same in omega (arith, e'))
    ];
  },
  is.link,
)

-- one that has not, isn't
pub newest_earlier : (image : List ℕ) (s : ℕ) (g f : Found) → IsNewestFound image s (Some g) → IsFoundIn (block_of image (header_block s)) s f → f.header.seq ≤ g.header.seq → IsNewestFound image (s + 1) (Some g)
newest_earlier image s g f newest is le = (
  record {
    numbered = record {
      has = record { within = omega (arith, newest.0.numbered.has.within); stands = newest.0.numbered.has.stands };
      number = refl;
      least = λ k has e. elim (before_or image s f k is has) [
        | inl before ↦ newest.0.numbered.least k before e
        | inr same ↦ (let e' : k.segment ≡ f.header.segment = ap (λ (h : Header). h.segment) same in omega (arith, e', is.named, newest.0.numbered.has.within))
      ];
    };
    greatest = λ k has. elim (before_or image s f k is has) [
      | inl before ↦ newest.0.greatest k before
      | inr same ↦ (let e' : k.seq ≡ f.header.seq = ap (λ (h : Header). h.seq) same in omega (arith, e'))
    ];
  },
  newest.1,
)

-- ---- headers by their numbers

-- the first of these with the number is in the least segment
pub record IsFirstNumbered (image : List ℕ) (from to seq : ℕ) (f : Found) : Type 0 where
  pub within : f.header.segment < to
  pub stands : StandsIn image f.header
  pub link : f.link ≡ header_link f.header
  pub number : f.header.seq ≡ seq
  pub least : (k : Header) → from ≤ k.segment → k.segment < to → StandsIn image k → k.seq ≡ seq → f.header.segment ≤ k.segment

abbrev pub with_number : ℕ → List Found → Option Found
with_number seq fs = find (λ f. f.header.seq == seq) fs

-- a header at or before the first one is it, or isn't there
not_before : (image : List ℕ) (from to : ℕ) (f : Found) (fs : List Found) (k : Header) → AreFound image from to (f ∷ fs) → from ≤ k.segment → StandsIn image k → k.segment ≤ f.header.segment → k ≡ f.header
not_before image from to f fs k found low stands le =
    elim (cases_lt k.segment f.header.segment) [
      | inl lt ↦ absurd (found.4 k low lt stands)
      | inr ge ↦ (let named : k.segment ≡ f.header.segment = omega arith in same_header (block_of image (header_block f.header.segment)) k f.header (at_stands image f.header.segment k named stands) found.2)
    ]

some_by_test : (image : List ℕ) (from to seq : ℕ) (g : Found) (gs : List Found) (f : Found) → AreFound image from to (g ∷ gs) → (with_number seq gs ≡ Some f → IsFirstNumbered image (g.header.segment + 1) to seq f)
    → (b : Bool) → (g.header.seq == seq) ≡ b → cond b (Some g) (with_number seq gs) ≡ Some f → IsFirstNumbered image from to seq f
some_by_test image from to seq g gs f found later true is e =
    let same : g ≡ f = cc in
    subst (IsFirstNumbered image from to seq) same (record {
      within = found.1;
      stands = found.2;
      link = found.3;
      number = eqb-true g.header.seq seq is;
      least = λ k low high stands number. elim (cases_lt k.segment g.header.segment) [
        | inl lt ↦ absurd (found.4 k low lt stands)
        | inr ge ↦ ge
      ];
    })
some_by_test image from to seq g gs f found later false is e =
    let rest = later e in
    record {
      within = rest.within;
      stands = rest.stands;
      link = rest.link;
      number = rest.number;
      least = λ k low high stands number. elim (cases_lt g.header.segment k.segment) [
        | inl lt ↦ rest.least k (omega arith) high stands number
        | inr le ↦ absurd (eqb-false g.header.seq seq is (sym (ap (λ (h : Header). h.seq) (not_before image from to g gs k found low stands le)) ∙ number))
      ];
    }

pub numbered_some : (image : List ℕ) (from to seq : ℕ) (fs : List Found) (f : Found) → AreFound image from to fs → with_number seq fs ≡ Some f → IsFirstNumbered image from to seq f
numbered_some image from to seq [] f found e = cc
numbered_some image from to seq (g ∷ gs) f found e =
    some_by_test image from to seq g gs f found (numbered_some image (g.header.segment + 1) to seq gs f found.5) (g.header.seq == seq) refl e

none_by_test : (image : List ℕ) (from to seq : ℕ) (g : Found) (gs : List Found) (k : Header) → AreFound image from to (g ∷ gs) → from ≤ k.segment → StandsIn image k → k.seq ≡ seq
    → (with_number seq gs ≡ None → g.header.segment < k.segment → ⊥) → (b : Bool) → (g.header.seq == seq) ≡ b → cond b (Some g) (with_number seq gs) ≡ None → ⊥
none_by_test image from to seq g gs k found low stands number later true is e = cc
none_by_test image from to seq g gs k found low stands number later false is e =
    elim (cases_lt g.header.segment k.segment) [
      | inl lt ↦ later e lt
      | inr le ↦ eqb-false g.header.seq seq is (sym (ap (λ (h : Header). h.seq) (not_before image from to g gs k found low stands le)) ∙ number)
    ]

pub numbered_none : (image : List ℕ) (from to seq : ℕ) (fs : List Found) → AreFound image from to fs → with_number seq fs ≡ None → (k : Header) → from ≤ k.segment → k.segment < to → StandsIn image k → k.seq ≡ seq → ⊥
numbered_none image from to seq [] none e k low high stands number = none k low high stands
numbered_none image from to seq (g ∷ gs) found e k low high stands number =
    none_by_test image from to seq g gs k found low stands number
    (λ e' lt. numbered_none image (g.header.segment + 1) to seq gs found.5 e' k (omega arith) high stands number) (g.header.seq == seq) refl e

pub IsNumbered-found : (image : List ℕ) (segments seq : ℕ) (fs : List Found) (f : Found) → AreFound image 0 segments fs → with_number seq fs ≡ Some f → IsNumbered image segments seq f.header × (f.link ≡ header_link f.header)
IsNumbered-found image segments seq fs f found e =
    let first = numbered_some image 0 segments seq fs f found e in (
      record {
        has = record { within = first.within; stands = first.stands };
        number = first.number;
        least = λ k has number. first.least k (omega arith) has.within has.stands number;
      },
      first.link,
    )

pub none_numbered : (image : List ℕ) (segments seq : ℕ) (fs : List Found) → AreFound image 0 segments fs → with_number seq fs ≡ None → (k : Header) → HasHeader image segments k → k.seq ≡ seq → ⊥
none_numbered image segments seq fs found e k has number = numbered_none image 0 segments seq fs found e k (omega arith) has.within has.stands number

-- ---- a search for a number, as far as it has come

front_at : (fs : List Found) (i : ℕ) (d : Found) → i < length fs → drop i fs ≡ get_or fs i d ∷ drop (i + 1) fs
front_at fs i d lt =
    let next : suc i ≡ i + 1 = omega arith in
    drop-cons fs i d lt ∙ ap (λ (n : ℕ). get_or fs i d ∷ drop n fs) next

-- one with another number
pub number_past : (seq : ℕ) (fs : List Found) (i : ℕ) (d : Found) → i < length fs → ((get_or fs i d).header.seq ≡ seq → ⊥) → with_number seq (drop i fs) ≡ with_number seq (drop (i + 1) fs)
number_past seq fs i d lt other =
    ap (with_number seq) (front_at fs i d lt) ∙ ap (λ (b : Bool). cond b (Some (get_or fs i d)) (with_number seq (drop (i + 1) fs))) (ne_eqb (get_or fs i d).header.seq seq other)

-- and the one
pub number_here : (seq : ℕ) (fs : List Found) (i : ℕ) (d : Found) → i < length fs → (get_or fs i d).header.seq ≡ seq → with_number seq (drop i fs) ≡ Some (get_or fs i d)
number_here seq fs i d lt same =
    ap (with_number seq) (front_at fs i d lt) ∙ ap (λ (b : Bool). cond b (Some (get_or fs i d)) (with_number seq (drop (i + 1) fs))) (eq-eqb (get_or fs i d).header.seq seq same)

pub number_nowhere : (seq : ℕ) (fs : List Found) (i : ℕ) → length fs ≤ i → with_number seq (drop i fs) ≡ None
number_nowhere seq fs i ge = ap (with_number seq) (drop_all i fs ge)

-- ---- one header more, of all that is surveyed

newest_more : (image : List ℕ) (s : ℕ) (old new : Option Found) (f : Found) → IsNewestFound image s old → IsFoundIn (block_of image (header_block s)) s f
    → MatchOption old (new ≡ Some f) (λ g. (g.header.seq < f.header.seq → new ≡ Some f) × (f.header.seq ≤ g.header.seq → new ≡ Some g)) → IsNewestFound image (s + 1) new
newest_more image s None new f was is chosen =
    subst (IsNewestFound image (s + 1)) (sym chosen) (newest_later image s f is (λ k has. absurd (was k (omega arith) has.within has.stands)))
newest_more image s (Some g) new f was is chosen =
    elim (cases_lt g.header.seq f.header.seq) [
      | inl lt ↦ subst (IsNewestFound image (s + 1)) (sym (chosen.0 lt)) (newest_later image s f is (λ k has. omega (arith, was.0.greatest k has, lt)))
      | inr ge ↦ subst (IsNewestFound image (s + 1)) (sym (chosen.1 ge)) (newest_earlier image s g f was is ge)
    ]

pub surveyed_more : (image block : List ℕ) (s : ℕ) (old new : Survey) (n : Option Found) (f : Found) → block ≡ block_of image (header_block s) → IsSurvey old s image → IsFoundIn block s f
    → new.found.items ≡ old.found.items ++ f ∷ [] → new.newest ≡ n
    → MatchOption old.newest (n ≡ Some f) (λ g. (g.header.seq < f.header.seq → n ≡ Some f) × (f.header.seq ≤ g.header.seq → n ≡ Some g)) → IsSurvey new (s + 1) image
surveyed_more image block s old new n f at was is items newest chosen =
    let there : IsFoundIn (block_of image (header_block s)) s f = subst (λ (b : List ℕ). IsFoundIn b s f) at is in
    record {
      found = subst (AreFound image 0 (s + 1)) (sym items) (AreFound-more image 0 s old.found.items f (omega arith) was.found there);
      newest = subst (IsNewestFound image (s + 1)) (sym newest) (newest_more image s old.newest n f was.newest there chosen);
    }

pub surveyed_past : (image block : List ℕ) (s : ℕ) (old : Survey) → block ≡ block_of image (header_block s) → IsSurvey old s image → SpellsNone block s → IsSurvey old (s + 1) image
surveyed_past image block s old at was none =
    let there : SpellsNone (block_of image (header_block s)) s = subst (λ (b : List ℕ). SpellsNone b s) at none in
    record {
      found = AreFound-past image 0 s old.found.items was.found there;
      newest = IsNewestFound-past image s old.newest was.newest there;
    }

-- ---- what is known of the headers, whatever the device tells

AreFit-more : (segments : ℕ) (fs : List Found) (f : Found) → AreFit segments fs → IsFit segments f → AreFit segments (fs ++ f ∷ [])
AreFit-more segments [] f fits fit = (fit, tt)
AreFit-more segments (g ∷ gs) f fits fit = (fits.0, AreFit-more segments gs f fits.1 fit)

fit_by_test : (segments : ℕ) (g f : Found) (rest : Option Found) → IsFit segments g → (rest ≡ Some f → IsFit segments f) → (b : Bool) → cond b (Some g) rest ≡ Some f → IsFit segments f
fit_by_test segments g f rest fit later true e = let same : g ≡ f = cc in subst (IsFit segments) same fit
fit_by_test segments g f rest fit later false e = later e

pub AreFit-find : (segments seq : ℕ) (fs : List Found) (f : Found) → AreFit segments fs → with_number seq fs ≡ Some f → IsFit segments f
AreFit-find segments seq [] f fits e = cc
AreFit-find segments seq (g ∷ gs) f fits e =
    fit_by_test segments g f (with_number seq gs) fits.0 (AreFit-find segments seq gs f fits.1) (g.header.seq == seq) e

newest_fits : (segments : ℕ) (old new : Option Found) (f : Found) → IfSome old (IsFit segments) → IsFit segments f
    → MatchOption old (new ≡ Some f) (λ g. (g.header.seq < f.header.seq → new ≡ Some f) × (f.header.seq ≤ g.header.seq → new ≡ Some g)) → IfSome new (IsFit segments)
newest_fits segments None new f was fit chosen = subst (λ (o : Option Found). IfSome o (IsFit segments)) (sym chosen) fit
newest_fits segments (Some g) new f was fit chosen =
    elim (cases_lt g.header.seq f.header.seq) [
      | inl lt ↦ subst (λ (o : Option Found). IfSome o (IsFit segments)) (sym (chosen.0 lt)) fit
      | inr ge ↦ subst (λ (o : Option Found). IfSome o (IsFit segments)) (sym (chosen.1 ge)) was
    ]

pub fits_more : (block : List ℕ) (segments s : ℕ) (old new : Survey) (n : Option Found) (f : Found) → s < segments → SurveyFits old segments → IsFoundIn block s f
    → new.found.items ≡ old.found.items ++ f ∷ [] → new.newest ≡ n
    → MatchOption old.newest (n ≡ Some f) (λ g. (g.header.seq < f.header.seq → n ≡ Some f) × (f.header.seq ≤ g.header.seq → n ≡ Some g)) → SurveyFits new segments
fits_more block segments s old new n f lt was is items newest chosen =
    let within : f.header.segment < segments = omega (arith, is.named, lt) in
    let fit : IsFit segments f = record { within = within; header = is.spells.header; link = is.link } in
    record {
      found = subst (AreFit segments) (sym items) (AreFit-more segments old.found.items f was.found fit);
      newest = subst (λ (o : Option Found). IfSome o (IsFit segments)) (sym newest) (newest_fits segments old.newest n f was.newest fit chosen);
    }
