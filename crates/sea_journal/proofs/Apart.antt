-- Images that differ in one segment alone, which no segment of a trail is.
use Rattle.std.proofs.Common.{◌≡◌, ℕ, zero, suc, ◌+◌, ◌-◌, ◌*◌, ◌<◌, ◌≤◌, ◌⊎◌, List, [], ◌∷◌, length, take, drop, refl, sym, ap, ◌∙◌, subst, inl, inr, arith}
use Rattle.std.specs.List.{All, Contains}
use Rattle.std.proofs.lemmas.List.{append-nil, drop-drop}
use Rattle.std.proofs.lemmas.List.Elements.{All-cons, All-head, All-nil, All-tail}
use Rattle.std.proofs.lemmas.Bool.{cases_lt}
use Rattle.sea_device.specs.Device.{Torn}
use Rattle.sea_record.specs.Record.{blocks}
use Rattle.sea_record.specs.declared.record.Record.{Record}
use Rattle.sea_segment.specs.Header.{IsHeader, SpellsHeader, header_digest, header_front}
use Rattle.sea_segment.specs.Seal.{sealed}
use Rattle.sea_segment.specs.declared.header.Header.{Header}
use Rattle.sea_segment.proofs.Headers.{same_header}
use Rattle.sea_trail.specs.Laws.{KeepsLinks, SameSegment, rest_of}
use Rattle.sea_trail.specs.Trail.{AreHeaders, AreParts, HasHeader, IsChain, IsNumbered, IsTrail, NoneContinues, StandsIn, block_of, body_of, chain_end, first_block, header_block, header_link, last_link, link_of, segment_end, trail_link}
use Rattle.sea_trail.specs.declared.link.Link.{Link}
use Rattle.sea_trail.specs.declared.trail.Part.{Part}
use Rattle.sea_trail.specs.declared.trail.Trail.{Trail}
use Rattle.sea_trail.proofs.Growth.{chain_end-ge, kept_chain, kept_header, kept_segments, rolls}
use Rattle.sea_trail.proofs.Joined.{AreParts-at}
use Rattle.sea_journal.specs.Log.{Extends, IsNoNewer, IsOfTrail, IsSpare, Opens, header_behind}
use Rattle.sea_journal.proofs.Afters.{before_tear, behind_tear}
use Rattle.sea_journal.proofs.Rows.{in_cons, same_list, same_number}

-- ---- segments of a trail

tail_was : (image : List ℕ) (t : Trail) (trail : IsTrail image t) → t.tail.seq ≡ trail.newest.last.tail.seq
tail_was image t trail = ap (λ (l : Link). l.tail.seq) trail.last

pub open_of_trail : (image : List ℕ) (t : Trail) (trail : IsTrail image t) → IsOfTrail image t t.active t.seq
open_of_trail image t trail =
    let p = trail.newest in
    let tail = tail_was image t trail in
    let seq : t.seq ≡ p.header.seq = trail.seq in
    let joined = trail.are_closed.joined in
    record {
      from = omega arith;
      upto = omega arith;
      header = p.header;
      numbered = subst (λ (n : ℕ). IsNumbered image t.segments n p.header) (sym seq) trail.is_open.newest.numbered;
      here = sym trail.active;
    }

-- each number from the tail on has a header
pub numbered_in : (image : List ℕ) (t : Trail) (trail : IsTrail image t) (n : ℕ) → t.tail.seq ≤ n → n ≤ t.seq → (h : Header) × IsNumbered image t.segments n h
numbered_in image t trail n low high =
    let tail = tail_was image t trail in
    let seq : t.seq ≡ trail.newest.header.seq = trail.seq in
    let joined = trail.are_closed.joined in
    elim (cases_lt n t.seq) [
      | inl lt ↦ AreParts-at image t.segments trail.newest.last.tail.seq trail.closed trail.are_closed.parts n (omega arith) (omega arith)
      | inr ge ↦ (
          let own = open_of_trail image t trail in
          let at : t.seq ≡ n = omega arith in
          (own.header, subst (λ (m : ℕ). IsNumbered image t.segments m own.header) at own.numbered)
          )
    ]

-- nothing goes on behind a trail
none_behind : (bytes : List ℕ) (place seq : ℕ) (link : Link) (rs : List Record) → IsChain bytes place seq link rs → NoneContinues (drop (4096 * (chain_end place rs - place)) bytes) (chain_end place rs) seq (last_link link rs)
none_behind bytes place seq link [] chain =
    let none : 0 ≡ 4096 * (place - place) = omega arith in
    subst (λ (n : ℕ). NoneContinues (drop n bytes) place seq link) none chain
none_behind bytes place seq link (r ∷ rs) chain =
    let size = 4096 * blocks r.body in
    let next = place + blocks r.body in
    let end = chain_end next rs in
    let ge : next ≤ end = chain_end-ge next rs in
    let past : drop (4096 * (end - next)) (drop size bytes) ≡ drop (4096 * (end - place)) bytes = drop-drop (4096 * (end - next)) size bytes ∙ ap (λ (n : ℕ). drop n bytes) (omega arith) in
    subst (λ (b : List ℕ). NoneContinues b end seq (last_link (link_of r) rs)) past (none_behind (drop size bytes) next seq (link_of r) rs chain.1)

none_after : (image : List ℕ) (t : Trail) (trail : IsTrail image t) → NoneContinues (rest_of image t) t.end.0 t.seq (trail_link t)
none_after image t trail =
    let p = trail.newest in
    let first = first_block p.header.segment in
    let has = trail.is_open.chain in
    let end = chain_end first p.records in
    let own = last_link (header_link p.header) p.records in
    let ends : t.end.0 ≡ end = ap (λ e. e.0) trail.ends ∙ has.ends in
    let count : 4096 * (t.end.0 - first_block t.active) ≡ 4096 * (end - first) = ap (λ (n : ℕ). 4096 * (n - first_block t.active)) ends ∙ ap (λ (s : ℕ). 4096 * (end - first_block s)) trail.active in
    let rest : rest_of image t ≡ drop (4096 * (end - first)) (body_of image p.header.segment) = ap (λ (n : ℕ). drop n (body_of image t.active)) count ∙ ap (λ (s : ℕ). drop (4096 * (end - first)) (body_of image s)) trail.active in
    let last : trail_link t ≡ own = trail.last ∙ has.last in
    let none = none_behind (body_of image p.header.segment) first p.header.seq (header_link p.header) p.records has.chain in
    subst (λ (l : Link). NoneContinues (rest_of image t) t.end.0 t.seq l) (sym last)
    (subst (λ (s : ℕ). NoneContinues (rest_of image t) t.end.0 s own) (sym trail.seq)
    (subst (λ (e : ℕ). NoneContinues (rest_of image t) e p.header.seq own) (sym ends)
    (subst (λ (b : List ℕ). NoneContinues b end p.header.seq own) (sym rest) none)))

-- ---- the headers of an image

pub data HeaderAt (image : List ℕ) (s : ℕ) : Type 0 where
  some : (k : Header) → k.segment ≡ s → StandsIn image k → HeaderAt image s
  none : ((k : Header) → k.segment ≡ s → StandsIn image k → ⊥) → HeaderAt image s

-- of each segment one knows whether it has one
header_at : (image : List ℕ) (from to : ℕ) (hs : List Header) → AreHeaders image from to hs → (s : ℕ) → from ≤ s → s < to → HeaderAt image s
header_at image from to [] all s low high = none (λ k here stands. all k (omega arith) (omega arith) stands)
header_at image from to (h ∷ hs) all s low high =
    elim (cases_lt s h.segment) [
      | inl lt ↦ none (λ k here stands. all.3 k (omega arith) (omega arith) stands)
      | inr ge ↦ elim (cases_lt h.segment s) [
        | inl gt ↦ header_at image (h.segment + 1) to hs all.4 s (omega arith) high
        | inr le ↦ some h (omega arith) all.2
      ]
    ]

headers_past : (image : List ℕ) (from to : ℕ) (hs : List Header) → ((k : Header) → k.segment ≡ from → StandsIn image k → ⊥) → AreHeaders image (from + 1) to hs → AreHeaders image from to hs
headers_past image from to [] nothing all =
    λ k low high stands. elim (cases_lt from k.segment) [
      | inl lt ↦ all k (omega arith) high stands
      | inr ge ↦ nothing k (omega arith) stands
    ]
headers_past image from to (h ∷ hs) nothing all = (
  omega (arith, all.0),
  all.1,
  all.2,
  λ k low high stands. elim (cases_lt from k.segment) [
    | inl lt ↦ all.3 k (omega arith) high stands
    | inr ge ↦ nothing k (omega arith) stands
  ],
  all.4,
)

headers_from : (image : List ℕ) (to count from : ℕ) → from + count ≡ to → ((s : ℕ) → s < to → HeaderAt image s) → (hs : List Header) × AreHeaders image from to hs
headers_from image to zero from joined each = ([], λ k low high stands. omega arith)
headers_from image to (suc count) from joined each =
    let rest = headers_from image to count (from + 1) (omega arith) each in
    elim (each from (omega arith)) [
      | some k here stands ↦ (
        k ∷ rest.0,
        (
          omega arith,
          omega arith,
          stands,
          λ x low high _. omega arith,
          subst (λ (n : ℕ). AreHeaders image (n + 1) to rest.0) (sym here) rest.1,
        ),
      )
      | none nothing ↦ (rest.0, headers_past image from to rest.0 nothing rest.1)
    ]

-- one of some headers stands in a segment, or none of them
pub data FoundAt (image : List ℕ) (list : List Header) (s : ℕ) : Type 0 where
  found : (k : Header) → k.segment ≡ s → StandsIn image k → FoundAt image list s
  missed : ((k : Header) → Contains list k → k.segment ≡ s → StandsIn image k → ⊥) → FoundAt image list s

pub stands_or : (image : List ℕ) (h : Header) → IsHeader h → StandsIn image h ⊎ (StandsIn image h → ⊥)
stands_or image h is =
    elim (same_list (block_of image (header_block h.segment)) (sealed (header_front h))) [
      | inl same ↦ inl (record { header = is; spelled = same })
      | inr other ↦ inr (λ stands. other stands.spelled)
    ]

pub find_at : (image : List ℕ) (list : List Header) (s : ℕ) → All IsHeader list → FoundAt image list s
find_at image [] s all = missed (λ k own here stands. omega (arith, own.1))
find_at image (h ∷ hs) s all =
    elim (find_at image hs s (All-tail IsHeader h hs all)) [
      | found k here stands ↦ found k here stands
      | missed rest ↦ elim (stands_or image h (All-head IsHeader h hs all)) [
        | inl stands ↦ elim (same_number h.segment s) [
          | inl here ↦ found h here stands
          | inr away ↦ missed (λ k own here there. elim (in_cons h hs k own) [
            | inl same ↦ away (ap (λ (x : Header). x.segment) same ∙ here)
            | inr behind ↦ rest k behind here there
          ])
        ]
        | inr other ↦ missed (λ k own here there. elim (in_cons h hs k own) [
          | inl same ↦ other (subst (StandsIn image) (sym same) there)
          | inr behind ↦ rest k behind here there
        ])
      ]
    ]

-- ---- another image

module _ (old new : List ℕ) (s : ℕ) (torn : Torn (4096 * header_block s) (4096 * 2048) old new) where
  pub other_front : (k : ℕ) → (k ≡ s → ⊥) → block_of new (header_block k) ≡ block_of old (header_block k)
  other_front k other =
      elim (cases_lt s k) [
        | inl later ↦ behind_tear (4096 * header_block s) (4096 * 2048) (4096 * header_block k) (4096 * (header_block k + 1)) old new torn (omega arith)
        | inr upto ↦ elim (cases_lt k s) [
          | inl before ↦ before_tear (4096 * header_block s) (4096 * 2048) (4096 * header_block k) (4096 * (header_block k + 1)) old new torn (omega arith) (omega arith)
          | inr from ↦ absurd (other (omega arith))
        ]
      ]

  pub other_segment : (k : ℕ) → (k ≡ s → ⊥) → SameSegment old new k
  other_segment k other = (
    other_front k other,
    elim (cases_lt s k) [
      | inl later ↦ behind_tear (4096 * header_block s) (4096 * 2048) (4096 * first_block k) (4096 * segment_end k) old new torn (omega arith)
      | inr upto ↦ elim (cases_lt k s) [
        | inl before ↦ before_tear (4096 * header_block s) (4096 * 2048) (4096 * first_block k) (4096 * segment_end k) old new torn (omega arith) (omega arith)
        | inr from ↦ absurd (other (omega arith))
      ]
    ],
  )

  same_super : block_of new 0 ≡ block_of old 0
  same_super = before_tear (4096 * header_block s) (4096 * 2048) 0 4096 old new torn (omega arith) (omega arith)

  pub had_header : (segments : ℕ) (k : Header) → (k.segment ≡ s → ⊥) → HasHeader new segments k → HasHeader old segments k
  had_header segments k other has = record { within = has.within; stands = kept_header new old k (sym (other_front k.segment other)) has.stands }

  pub has_header : (segments : ℕ) (k : Header) → (k.segment ≡ s → ⊥) → HasHeader old segments k → HasHeader new segments k
  has_header segments k other has = record { within = has.within; stands = kept_header old new k (other_front k.segment other) has.stands }

  module _ (t : Trail) (trail : IsTrail old t) (spare : IsSpare old t s) where
    -- a segment of the trail isn't the one that differs
    of_other : (n : ℕ) (p : Header) → t.tail.seq ≤ n → n ≤ t.seq → IsNumbered old t.segments n p → p.segment ≡ s → ⊥
    of_other n p low high numbered here = spare.apart n (record { from = low; upto = high; header = p; numbered = numbered; here = here })

    open_other : t.active ≡ s → ⊥
    open_other same = let own = open_of_trail old t trail in of_other t.seq own.header own.from own.upto own.numbered (own.here ∙ same)

    closed_same : (from : ℕ) (ps : List Part) → AreParts old t.segments from ps → t.tail.seq ≤ from → from + length ps ≤ t.seq → All (λ p. SameSegment old new p.header.segment) ps
    closed_same from [] parts low high = All-nil (λ (p : Part). SameSegment old new p.header.segment)
    closed_same from (p ∷ ps) parts low high =
        All-cons (λ (q : Part). SameSegment old new q.header.segment) p ps
        (other_segment p.header.segment (of_other from p.header low (omega arith) parts.0))
        (closed_same (from + 1) ps parts.2 (omega arith) (omega arith))

    keeps_links : KeepsLinks old new t trail
    keeps_links =
        let tail = tail_was old t trail in
        let seq : t.seq ≡ trail.newest.header.seq = trail.seq in
        let joined = trail.are_closed.joined in
        let body = other_segment t.active open_other in
        record {
          size = torn.size;
          super = same_super;
          closed = closed_same trail.newest.last.tail.seq trail.closed trail.are_closed.parts (omega arith) (omega arith);
          header = body.0;
          records = ap (take (4096 * (t.end.0 - first_block t.active))) body.1;
        }

    -- a segment elsewhere of a trail of the other image, with this tail, is one of this trail
    pub of_there : (u : Trail) → u.segments ≡ t.segments → u.tail.seq ≡ t.tail.seq → (k n : ℕ) → (k ≡ s → ⊥) → IsOfTrail new u k n → IsOfTrail old t k n
    of_there u segments tail k n away of =
        let q = of.header in
        let is_q : IsNumbered new t.segments n q = subst (λ (m : ℕ). IsNumbered new m n q) segments of.numbered in
        let had = had_header t.segments q (λ e. away (sym of.here ∙ e)) is_q.has in
        let low : t.tail.seq ≤ n = omega (arith, of.from, tail) in
        let high : n ≤ t.seq = omega (arith, is_q.number, trail.is_open.newest.greatest q had, trail.seq) in
        let p = numbered_in old t trail n low high in
        let there = has_header t.segments p.0 (of_other n p.0 low high p.1) p.1.has in
        let one : q.segment ≤ p.0.segment = is_q.least p.0 there p.1.number in
        let two : p.0.segment ≤ q.segment = p.1.least q had is_q.number in
        let at : p.0.segment ≡ q.segment = omega arith in
        record { from = low; upto = high; header = p.0; numbered = p.1; here = at ∙ of.here }

    -- whether a segment has a header, where one knows it of the one that differs
    headers_with : HeaderAt new s → (hs : List Header) × AreHeaders new 0 t.segments hs
    headers_with here =
        headers_from new t.segments t.segments 0 (omega arith) (λ k within. elim (same_number k s) [
          | inl same ↦ subst (HeaderAt new) (sym same) here
          | inr other ↦ elim (header_at old 0 t.segments t.headers trail.headers k (omega arith) within) [
            | some h at stands ↦ some h at (kept_header old new h (other_front h.segment (λ e. other (sym at ∙ e))) stands)
            | none nothing ↦ none (λ h at stands. nothing h at (kept_header new old h (sym (other_front h.segment (λ e. other (sym at ∙ e)))) stands))
          ]
        ])

    -- ---- a header goes on from the trail

    pub opened_there : (h : Header) → h.segment ≡ s → StandsIn new h → h ≡ header_behind h.segment t.seq (trail_link t)
        → IsChain (body_of new h.segment) (first_block h.segment) h.seq (header_link h) [] → (u : Trail) × IsTrail new u × Opens t h u
    opened_there h at stands is chain =
        let all = headers_with (some h at stands) in
        let within : h.segment < t.segments = subst (λ (n : ℕ). n < t.segments) (sym at) spare.within in
        let u : Trail = record {
          segments = t.segments;
          active = h.segment;
          seq = h.seq;
          end = record { 0 = first_block h.segment };
          mount = h.mount;
          commit = h.commit;
          last = record { 0 = header_digest h };
          tail = h.tail;
          root = h.root;
          records = t.records;
          headers = all.0;
        } in
        let rest : rest_of new t ≡ rest_of old t = ap (drop (4096 * (t.end.0 - first_block t.active))) (other_segment t.active open_other).1 in
        let nothing : NoneContinues (rest_of new t) t.end.0 t.seq (trail_link t) = subst (λ (b : List ℕ). NoneContinues b t.end.0 t.seq (trail_link t)) (sym rest) (none_after old t trail) in (
          u,
          rolls old new t u h trail keeps_links nothing (record { within = within; stands = stands }) (ap (λ (x : Header). x.seq) is)
              (record { prev = ap (λ (x : Header). x.prev.0) is; commit = ap (λ (x : Header). x.commit.0) is; mount = ap (λ (x : Header). x.mount) is })
              (ap (λ (x : Header). x.tail) is)
              (λ k has. elim (same_number k.segment h.segment) [
                | inl same ↦ inl (same_header (block_of new (header_block h.segment)) k h (subst (λ (n : ℕ). SpellsHeader (block_of new (header_block n)) k) same has.stands) stands)
                | inr other ↦ inr (had_header t.segments k (λ e. other (e ∙ sym at)) has)
              ])
              chain
              (record { segments = refl; headers = all.1; active = refl; seq = refl; ends = refl; last = refl; records = refl }),
          record { segments = refl; active = refl; seq = refl; ends = refl; last = refl; records = refl },
        )

    -- ---- the trail stays

    module _ (older : (k : Header) → HasHeader new t.segments k → IsNoNewer old t k) where
      still_numbered : (n : ℕ) (p : Header) → t.tail.seq ≤ n → n ≤ t.seq → IsNumbered old t.segments n p → IsNumbered new t.segments n p
      still_numbered n p low high is = record {
        has = has_header t.segments p (of_other n p low high is) is.has;
        number = is.number;
        least = λ k has e. (older k has).behind p.segment (record {
          from = omega arith;
          upto = omega arith;
          header = p;
          numbered = subst (λ (m : ℕ). IsNumbered old t.segments m p) (sym e) is;
          here = refl;
        });
      }

      parts_still : (from : ℕ) (ps : List Part) → AreParts old t.segments from ps → t.tail.seq ≤ from → from + length ps ≤ t.seq → AreParts new t.segments from ps
      parts_still from [] parts low high = tt
      parts_still from (p ∷ ps) parts low high = (
        still_numbered from p.header low (omega arith) parts.0,
        kept_chain old new p (other_segment p.header.segment (of_other from p.header low (omega arith) parts.0)).1 parts.1,
        parts_still (from + 1) ps parts.2 (omega arith) (omega arith),
      )

      pub stays_there : HeaderAt new s → (u : Trail) × IsTrail new u × Extends t [] u
      stays_there here =
          let all = headers_with here in
          let p = trail.newest in
          let newest = trail.is_open.newest in
          let tail = tail_was old t trail in
          let seq : t.seq ≡ p.header.seq = trail.seq in
          let joined = trail.are_closed.joined in
          let away : p.header.segment ≡ s → ⊥ = λ same. open_other (trail.active ∙ same) in
          let u : Trail = record t { headers = all.0 } in (
            u,
            record {
              headers = all.1;
              newest = p;
              is_open = record {
                super = kept_segments old new t.segments torn.size same_super trail.is_open.super;
                newest = record {
                  numbered = still_numbered p.header.seq p.header (omega arith) (omega arith) newest.numbered;
                  greatest = λ k has. omega (arith, (older k has).upto);
                };
                chain = kept_chain old new p (other_segment p.header.segment away).1 trail.is_open.chain;
              };
              active = trail.active;
              seq = trail.seq;
              ends = trail.ends;
              last = trail.last;
              closed = trail.closed;
              are_closed = record {
                parts = parts_still p.last.tail.seq trail.closed trail.are_closed.parts (omega arith) (omega arith);
                joined = joined;
              };
              linked = trail.linked;
              records = trail.records;
            },
            record { segments = refl; active = refl; seq = refl; ends = refl; last = refl; gone = []; records = append-nil t.records; none = λ all. refl },
          )
