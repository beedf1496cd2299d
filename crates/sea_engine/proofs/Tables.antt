-- The table of the segments of a trail.
use Rattle.std.proofs.Common.{◌≡◌, ℕ, zero, suc, ◌+◌, ◌<◌, ◌≤◌, List, [], ◌∷◌, length, refl, sym, ap, ◌∙◌, subst, inl, inr, arith}
use Rattle.std.proofs.lemmas.Bool.{cases_lt}
use Rattle.std.specs.Prelude.{replicate}
use Rattle.std.specs.List.{All, Contains}
use Rattle.std.proofs.lemmas.List.{get_or-set_same}
use Rattle.std.proofs.lemmas.List.Elements.{All-cons, All-contains, All-nil, Contains-append_right}
use Rattle.sea_segment.specs.Header.{SpellsHeader}
use Rattle.sea_segment.specs.Table.{fresh, live_of, state_of, with_state}
use Rattle.sea_segment.specs.declared.header.Header.{Header}
use Rattle.sea_segment.specs.declared.state.SegState.{SegState}
use Rattle.sea_segment.specs.declared.state.SegState.TheVariants.{Active, Closed}
use Rattle.sea_segment.specs.declared.state.Segment.{Segment}
use Rattle.sea_segment.proofs.Headers.{same_header}
use Rattle.sea_trail.specs.Trail.{AreHeaders, HasHeader, IsNumbered, IsTrail, StandsIn, block_of, header_block}
use Rattle.sea_trail.specs.declared.link.Link.{Link}
use Rattle.sea_trail.specs.declared.trail.Trail.{Trail}
use Rattle.sea_journal.specs.Log.{IsOfTrail}
use Rattle.sea_journal.specs.Resume.{opened}
use Rattle.sea_journal.specs.Rolls.{HasNumber, InTable}
use Rattle.sea_journal.proofs.Rows.{same_number}
use Rattle.sea_journal.proofs.Tables.{length-with_state, state_other}
use Rattle.sea_engine.specs.Mounting.{IsFromTail, UsesNoOther}

-- The table has each segment of the trail before one of them, and no other; these headers are left.
pub record Covers (image : List ℕ) (t : Trail) (table : List Segment) (left : List Header) : Type 0 where
  pub from : ℕ
  pub headers : AreHeaders image from t.segments left
  pub has : (k : Header) → HasHeader image t.segments k → k.segment < from → IsFromTail t k → HasNumber (state_of table k.segment) k.seq
  pub only : (s n : ℕ) → HasNumber (state_of table s) n → (k : Header) × HasHeader image t.segments k × IsFromTail t k × (k.segment ≡ s) × (k.seq ≡ n) × (state_of table s ≡ Closed n)

state_same : (table : List Segment) (s : ℕ) (state : SegState) → s < length table → state_of (with_state table s state) s ≡ state
state_same table s state within = ap (λ (x : Segment). x.state) (get_or-set_same table s (record { state = state; live = live_of table s }) fresh within)

-- two headers in one segment are the same
one_header : (image : List ℕ) (h k : Header) → StandsIn image h → StandsIn image k → k.segment ≡ h.segment → k ≡ h
one_header image h k is_h is_k at =
    same_header (block_of image (header_block h.segment)) k h (subst (λ (s : ℕ). SpellsHeader (block_of image (header_block s)) k) at is_k) is_h

-- ---- the headers of a trail

headers_stand : (image : List ℕ) (segments from : ℕ) (hs : List Header) → AreHeaders image from segments hs → All (λ k. HasHeader image segments k) hs
headers_stand image segments from [] are = All-nil (λ k. HasHeader image segments k)
headers_stand image segments from (h ∷ hs) are =
    All-cons (λ k. HasHeader image segments k) h hs (record { within = are.1; stands = are.2 }) (headers_stand image segments (h.segment + 1) hs are.4)

has_header : (image : List ℕ) (segments from : ℕ) (hs : List Header) → AreHeaders image from segments hs → (k : Header) → HasHeader image segments k → from ≤ k.segment → Contains hs k
has_header image segments from [] are k is le = absurd (are k le is.within is.stands)
has_header image segments from (h ∷ hs) are k is le =
    elim (same_number k.segment h.segment) [
      | inl at ↦ (0, omega arith, sym (one_header image h k are.2 is.stands at))
      | inr other ↦ elim (cases_lt k.segment h.segment) [
        | inl lt ↦ absurd (are.3 k le lt is.stands)
        | inr ge ↦ (
            let after : h.segment + 1 ≤ k.segment = elim (cases_lt h.segment k.segment) [ inl lt ↦ omega (arith, lt) | inr up ↦ (let at : k.segment ≡ h.segment = omega (arith, ge, up) in absurd (other at)) ] in
            Contains-append_right (h ∷ []) hs k (has_header image segments (h.segment + 1) hs are.4 k is after)
            )
      ]
    ]

numbered_from : (image : List ℕ) (t : Trail) (h : Header) → AreHeaders image 0 t.segments t.headers → HasHeader image t.segments h → IsFromTail t h → IsNumbered image t.segments h.seq h
numbered_from image t h are is from = record {
  has = is;
  number = refl;
  least = λ k has e. All-contains (λ x. x.seq ≡ h.seq → h.segment ≤ x.segment) t.headers k from.least (has_header image t.segments 0 t.headers are k has (omega arith)) e;
}

from_numbered : (image : List ℕ) (t : Trail) (n : ℕ) (h : Header) → AreHeaders image 0 t.segments t.headers → t.tail.seq ≤ n → IsNumbered image t.segments n h → IsFromTail t h
from_numbered image t n h are late is = record {
  within = is.has.within;
  late = subst (λ (x : ℕ). t.tail.seq ≤ x) (sym is.number) late;
  least = λ i d lt e. is.least _ (headers_stand image t.segments 0 t.headers are i d lt) (e ∙ is.number);
}

-- ---- header by header

none_in : (m s n : ℕ) → HasNumber (state_of (replicate m fresh) s) n → ⊥
none_in zero s n number = number
none_in (suc m) zero n number = number
none_in (suc m) (suc s) n number = none_in m s n number

pub covers_none : (image : List ℕ) (t : Trail) (hs : List Header) → AreHeaders image 0 t.segments hs → Covers image t (replicate t.segments fresh) hs
covers_none image t hs are = record {
  from = 0;
  headers = are;
  has = λ k is below. absurd (omega (arith, below));
  only = λ s n number. absurd (none_in t.segments s n number);
}

module _ (image : List ℕ) (t : Trail) (table : List Segment) (left : List Header) (h : Header) (hs : List Header) (cut : left ≡ h ∷ hs) (covers : Covers image t table left) where
  are : AreHeaders image covers.from t.segments (h ∷ hs)
  are = subst (AreHeaders image covers.from t.segments) cut covers.headers

  -- another header up to this one stands before it
  stands_before : (k : Header) → HasHeader image t.segments k → k.segment < h.segment + 1 → (k.segment ≡ h.segment → ⊥) → k.segment < covers.from
  stands_before k is below other =
      elim (cases_lt k.segment covers.from) [
        | inl lt ↦ lt
        | inr ge ↦ elim (cases_lt k.segment h.segment) [
          | inl lt ↦ absurd (are.3 k ge lt is.stands)
          | inr up ↦ (let at : k.segment ≡ h.segment = omega (arith, below, up) in absurd (other at))
        ]
      ]

  pub covers_skipped : (IsFromTail t h → ⊥) → Covers image t table hs
  covers_skipped early = record {
    from = h.segment + 1;
    headers = are.4;
    has = λ k is below late.
        elim (same_number k.segment h.segment) [
          | inl at ↦ absurd (early (subst (IsFromTail t) (one_header image h k are.2 is.stands at) late))
          | inr other ↦ covers.has k is (stands_before k is below other) late
        ];
    only = covers.only;
  }

  pub covers_closed : length table ≡ t.segments → IsFromTail t h → Covers image t (with_state table h.segment (Closed h.seq)) hs
  covers_closed count from =
      let within : h.segment < length table = subst (λ (n : ℕ). h.segment < n) (sym count) are.1 in
      record {
        from = h.segment + 1;
        headers = are.4;
        has = λ k is below late.
            elim (same_number k.segment h.segment) [
              | inl at ↦ (
                  let same = one_header image h k are.2 is.stands at in
                  let here : HasNumber (state_of (with_state table h.segment (Closed h.seq)) h.segment) h.seq = subst (λ (x : SegState). HasNumber x h.seq) (sym (state_same table h.segment (Closed h.seq) within)) refl in
                  subst (λ (x : Header). HasNumber (state_of (with_state table h.segment (Closed h.seq)) x.segment) x.seq) (sym same) here
                  )
              | inr other ↦ subst (λ (x : SegState). HasNumber x k.seq) (sym (state_other table h.segment k.segment (Closed h.seq) other)) (covers.has k is (stands_before k is below other) late)
            ];
        only = λ s n number.
            elim (same_number s h.segment) [
              | inl at ↦ (
                  let here : HasNumber (state_of (with_state table h.segment (Closed h.seq)) h.segment) n = subst (λ (x : ℕ). HasNumber (state_of (with_state table h.segment (Closed h.seq)) x) n) at number in
                  let same : h.seq ≡ n = subst (λ (x : SegState). HasNumber x n) (state_same table h.segment (Closed h.seq) within) here in
                  (h, record { within = are.1; stands = are.2 }, from, sym at, same, ap (state_of (with_state table h.segment (Closed h.seq))) at ∙ state_same table h.segment (Closed h.seq) within ∙ ap (λ (x : ℕ). Closed x) same)
                  )
              | inr other ↦ (
                  let still = state_other table h.segment s (Closed h.seq) other in
                  let k = covers.only s n (subst (λ (x : SegState). HasNumber x n) still number) in
                  (k.0, k.1, k.2, k.3, k.4, still ∙ k.5)
                  )
            ];
      }

pub covers_all : (image : List ℕ) (t : Trail) (table : List Segment) → length table ≡ t.segments → t.active < t.segments → IsTrail image t → Covers image t table [] → InTable (opened image t) (with_state table t.active (Active t.seq))
covers_all image t table count within is covers =
    let p = is.newest.header in
    let now = with_state table t.active (Active t.seq) in
    let inside : t.active < length table = subst (λ (n : ℕ). t.active < n) (sym count) within in
    record {
      count = length-with_state table t.active (Active t.seq) ∙ count;
      trail = λ s n of.
          elim (same_number s t.active) [
            | inl at ↦ (
                let same = one_header image p of.header is.is_open.newest.numbered.has.stands of.numbered.has.stands (of.here ∙ at ∙ is.active) in
                let number : t.seq ≡ n = is.seq ∙ ap (λ (x : Header). x.seq) (sym same) ∙ of.numbered.number in
                let here : HasNumber (state_of now t.active) n = subst (λ (x : SegState). HasNumber x n) (sym (state_same table t.active (Active t.seq) inside)) number in
                subst (λ (x : ℕ). HasNumber (state_of now x) n) (sym at) here
                )
            | inr other ↦ (
                let k = of.header in
                let late : IsFromTail t k = from_numbered image t n k is.headers of.from of.numbered in
                let below : k.segment < covers.from = elim (cases_lt k.segment covers.from) [
                  | inl lt ↦ lt
                  | inr ge ↦ absurd (covers.headers k ge of.numbered.has.within of.numbered.has.stands)
                ] in
                let had : HasNumber (state_of table s) n = subst (λ (x : ℕ). HasNumber (state_of table s) x) of.numbered.number (subst (λ (x : ℕ). HasNumber (state_of table x) k.seq) of.here (covers.has k of.numbered.has below late)) in
                subst (λ (x : SegState). HasNumber x n) (sym (state_other table t.active s (Active t.seq) other)) had
                )
          ];
      next = tt;
    }

pub covers_only : (image : List ℕ) (t : Trail) (table : List Segment) → length table ≡ t.segments → t.active < t.segments → IsTrail image t → Covers image t table [] → UsesNoOther image t (with_state table t.active (Active t.seq))
covers_only image t table count within is covers = λ s n number.
    let now = with_state table t.active (Active t.seq) in
    let inside : t.active < length table = subst (λ (m : ℕ). t.active < m) (sym count) within in
    let e = is.seq in
    elim (same_number s t.active) [
      | inl at ↦ (
          let here : HasNumber (state_of now t.active) n = subst (λ (x : ℕ). HasNumber (state_of now x) n) at number in
          let same : t.seq ≡ n = subst (λ (x : SegState). HasNumber x n) (state_same table t.active (Active t.seq) inside) here in
          let tail : t.tail.seq ≡ is.newest.last.tail.seq = ap (λ (l : Link). l.tail.seq) is.last in
          let joined = is.are_closed.joined in
          let found : IsOfTrail image t s n = record {
            from = omega (arith, tail, joined, e, same);
            upto = omega (arith, same);
            header = is.newest.header;
            numbered = subst (λ (m : ℕ). IsNumbered image t.segments m is.newest.header) (sym e ∙ same) is.is_open.newest.numbered;
            here = sym is.active ∙ sym at;
          } in
          record {
            of_trail = found;
            active = λ _. ap (state_of now) at ∙ state_same table t.active (Active t.seq) inside ∙ ap (λ (x : ℕ). Active x) same;
            closed = λ not. absurd (not at);
          }
          )
      | inr other ↦ (
          let still = state_other table t.active s (Active t.seq) other in
          let k = covers.only s n (subst (λ (x : SegState). HasNumber x n) still number) in
          let greatest = is.is_open.newest.greatest k.0 k.1 in
          let same = k.4 in
          let found : IsOfTrail image t s n = record {
            from = subst (λ (m : ℕ). t.tail.seq ≤ m) same k.2.late;
            upto = omega (arith, greatest, e, same);
            header = k.0;
            numbered = subst (λ (m : ℕ). IsNumbered image t.segments m k.0) same (numbered_from image t k.0 is.headers k.1 k.2);
            here = k.3;
          } in
          record { of_trail = found; active = λ at. absurd (other at); closed = λ _. still ∙ k.5 }
          )
    ]
