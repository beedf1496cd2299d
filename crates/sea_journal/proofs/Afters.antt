-- Images that differ from one with a trail in the open segment behind the trail alone.
use Rattle.std.proofs.Common.{◌≡◌, ℕ, ◌+◌, ◌-◌, ◌*◌, ◌≤◌, List, [], ◌∷◌, length, take, drop, refl, sym, ap, ◌∙◌, subst, inl, inr, arith}
use Rattle.std.specs.Prelude.{slice_range}
use Rattle.std.specs.List.{All}
use Rattle.std.proofs.lemmas.List.{drop-drop, length-drop, length-take, take-take}
use Rattle.std.proofs.lemmas.List.Elements.{All-cons, All-nil}
use Rattle.std.proofs.lemmas.Bool.{cases_lt}
use Rattle.sea_device.specs.Device.{Torn}
use Rattle.sea_record.specs.Record.{blocks}
use Rattle.sea_record.specs.declared.record.Record.{Record}
use Rattle.sea_segment.specs.Header.{SpellsHeader}
use Rattle.sea_segment.specs.declared.header.Header.{Header}
use Rattle.sea_segment.proofs.Headers.{same_header}
use Rattle.sea_trail.specs.Laws.{KeepsLinks, SameSegment, rest_of}
use Rattle.sea_trail.specs.Trail.{AreHeaders, AreParts, HasHeader, IsChain, IsNewest, IsNumbered, IsTrail, block_of, body_of, chain_end, first_block, header_block, header_link, last_link, link_of, segment_end, trail_link}
use Rattle.sea_trail.specs.declared.link.Link.{Link}
use Rattle.sea_trail.specs.declared.trail.Part.{Part}
use Rattle.sea_trail.specs.declared.trail.Trail.{Trail}
use Rattle.sea_trail.proofs.Chains.{within}
use Rattle.sea_trail.proofs.Growth.{chain_end-ge, grows, kept_header, kept_numbered}
use Rattle.sea_journal.proofs.Overlays.{front_part}
use Rattle.sea_journal.specs.Log.{Extends, HasTail, IsOfTrail}

-- parts that a tear leaves as they were
pub before_tear : (at count i j : ℕ) (old new : List ℕ) → Torn at count old new → i ≤ j → j ≤ at → slice_range new i j ≡ slice_range old i j
before_tear at count i j old new torn order before = front_part old new i (j - i) at (omega arith) torn.before

pub behind_tear : (at count i j : ℕ) (old new : List ℕ) → Torn at count old new → at + count ≤ i → slice_range new i j ≡ slice_range old i j
behind_tear at count i j old new torn behind =
    let rest = i - (at + count) in
    let split : (b : List ℕ) → drop i b ≡ drop rest (drop (at + count) b) = λ b. ap (λ (n : ℕ). drop n b) (omega arith) ∙ sym (drop-drop rest (at + count) b) in
    ap (take (j - i)) (split new ∙ ap (drop rest) torn.after ∙ sym (split old))

-- a chain lies within its bytes
chain_within : (bytes : List ℕ) (place seq : ℕ) (link : Link) (rs : List Record) → IsChain bytes place seq link rs → 4096 * chain_end place rs ≤ 4096 * place + length bytes
chain_within bytes place seq link [] chain = omega arith
chain_within bytes place seq link (r ∷ rs) chain =
    omega (arith, within bytes r chain.0.stands, length-drop (4096 * blocks r.body) bytes, chain_within (drop (4096 * blocks r.body) bytes) (place + blocks r.body) seq (link_of r) rs chain.1)

-- where the trail of an image ends
pub record Bounds (t : Trail) : Type 0 where
  pub from : first_block t.active ≤ t.end.0
  pub upto : t.end.0 ≤ segment_end t.active

pub bounds : (image : List ℕ) (t : Trail) → IsTrail image t → Bounds t
bounds image t trail =
    let p = trail.newest in
    let first = first_block p.header.segment in
    let has = trail.is_open.chain in
    let ends : t.end.0 ≡ chain_end first p.records = ap (λ e. e.0) trail.ends ∙ has.ends in
    let low = chain_end-ge first p.records in
    let high = chain_within (body_of image p.header.segment) first p.header.seq (header_link p.header) p.records has.chain in
    let size = length-take (4096 * segment_end p.header.segment - 4096 * first) (drop (4096 * first) image) in
    let active : t.active ≡ p.header.segment = trail.active in
    record { from = omega arith; upto = omega arith }

-- ---- what such an image keeps

module _ (old new : List ℕ) (t : Trail) (trail : IsTrail old t) (torn : Torn (4096 * t.end.0) (4096 * (segment_end t.active - t.end.0)) old new) where
  edge : Bounds t
  edge = bounds old t trail

  pub same_front : (s : ℕ) → block_of new (header_block s) ≡ block_of old (header_block s)
  same_front s =
      let low = edge.from in
      let high = edge.upto in
      elim (cases_lt t.active s) [
        | inl later ↦ behind_tear (4096 * t.end.0) (4096 * (segment_end t.active - t.end.0)) (4096 * header_block s) (4096 * (header_block s + 1)) old new torn (omega arith)
        | inr upto ↦ before_tear (4096 * t.end.0) (4096 * (segment_end t.active - t.end.0)) (4096 * header_block s) (4096 * (header_block s + 1)) old new torn (omega arith) (omega arith)
      ]

  same_segment : (s : ℕ) → (s ≡ t.active → ⊥) → SameSegment old new s
  same_segment s other =
      let low = edge.from in
      let high = edge.upto in (
        same_front s,
        elim (cases_lt t.active s) [
          | inl later ↦ behind_tear (4096 * t.end.0) (4096 * (segment_end t.active - t.end.0)) (4096 * first_block s) (4096 * segment_end s) old new torn (omega arith)
          | inr upto ↦ before_tear (4096 * t.end.0) (4096 * (segment_end t.active - t.end.0)) (4096 * first_block s) (4096 * segment_end s) old new torn (omega arith) (omega arith)
        ],
      )

  same_closed : (from : ℕ) (ps : List Part) → AreParts old t.segments from ps → from + length ps ≤ t.seq → All (λ p. SameSegment old new p.header.segment) ps
  same_closed from [] parts le = All-nil (λ (p : Part). SameSegment old new p.header.segment)
  same_closed from (p ∷ ps) parts le =
      let newest = trail.is_open.newest.numbered.has in
      let number : p.header.seq ≡ from = parts.0.number in
      All-cons (λ (q : Part). SameSegment old new q.header.segment) p ps
      (same_segment p.header.segment (λ active.
      let here : p.header.segment ≡ trail.newest.header.segment = active ∙ trail.active in
      let there : SpellsHeader (block_of old (header_block trail.newest.header.segment)) p.header = subst (λ (s : ℕ). SpellsHeader (block_of old (header_block s)) p.header) here parts.0.has.stands in
      let same : p.header.seq ≡ trail.newest.header.seq = ap (λ (h : Header). h.seq) (same_header (block_of old (header_block trail.newest.header.segment)) p.header trail.newest.header there newest.stands) in
      absurd (omega (arith, trail.seq, same, number))))
      (same_closed (from + 1) ps parts.2 (omega arith))

  pub keeps : KeepsLinks old new t trail
  keeps =
      let low = edge.from in
      let high = edge.upto in
      let at = 4096 * t.end.0 in
      let count = 4096 * (segment_end t.active - t.end.0) in
      let n = 4096 * (t.end.0 - first_block t.active) in
      let m = 4096 * segment_end t.active - 4096 * first_block t.active in
      let joined : trail.newest.last.tail.seq + length trail.closed ≡ t.seq = trail.are_closed.joined ∙ sym trail.seq in
      record {
        size = torn.size;
        super = before_tear at count 0 4096 old new torn (omega arith) (omega arith);
        closed = same_closed trail.newest.last.tail.seq trail.closed trail.are_closed.parts (omega arith);
        header = same_front t.active;
        records =
            take-take n m (drop (4096 * first_block t.active) new) (omega arith)
            ∙ front_part old new (4096 * first_block t.active) n at (omega arith) torn.before
            ∙ sym (take-take n m (drop (4096 * first_block t.active) old) (omega arith));
      }

  pub had : (k : Header) → HasHeader new t.segments k → HasHeader old t.segments k
  had k has = record { within = has.within; stands = kept_header new old k (sym (same_front k.segment)) has.stands }

  pub has_still : (k : Header) → HasHeader old t.segments k → HasHeader new t.segments k
  has_still k has = record { within = has.within; stands = kept_header old new k (same_front k.segment) has.stands }

  pub newest_still : IsNewest new t.segments trail.newest.header
  newest_still =
      let newest = trail.is_open.newest in
      record {
        numbered = kept_numbered old new t.segments trail.newest.header.seq trail.newest.header (has_still trail.newest.header newest.numbered.has).stands (λ k has number. had k has) newest.numbered;
        greatest = λ k has. newest.greatest k (had k has);
      }

  headers_still : (from to : ℕ) (hs : List Header) → AreHeaders old from to hs → AreHeaders new from to hs
  headers_still from to [] none = λ h low high stands. none h low high (kept_header new old h (sym (same_front h.segment)) stands)
  headers_still from to (h ∷ hs) are = (
    are.0,
    are.1,
    kept_header old new h (same_front h.segment) are.2,
    λ k low high stands. are.3 k low high (kept_header new old k (sym (same_front k.segment)) stands),
    headers_still (h.segment + 1) to hs are.4,
  )

  -- a segment of a trail that goes on was one before
  pub of_before : (u : Trail) (s n : ℕ) → u.segments ≡ t.segments → u.seq ≡ t.seq → t.tail.seq ≤ u.tail.seq → IsOfTrail new u s n → IsOfTrail old t s n
  of_before u s n segments seq tail of =
      let is : IsNumbered new t.segments n of.header = subst (λ (m : ℕ). IsNumbered new m n of.header) segments of.numbered in
      let low = of.from in
      let high = of.upto in
      record {
        from = omega arith;
        upto = omega arith;
        header = of.header;
        numbered = record {
          has = had of.header is.has;
          number = is.number;
          least = λ k has e. is.least k (has_still k has) e;
        };
        here = of.here;
      }

  -- With records behind the trail it has the trail that these extend.
  pub extended : (news : List Record) → IsChain (rest_of new t) t.end.0 t.seq (trail_link t) news → HasTail old t trail news → (u : Trail) × IsTrail new u × Extends t news u × (u.headers ≡ t.headers)
  extended news chain tail =
      let link = last_link (trail_link t) news in
      let u : Trail = record {
        segments = t.segments;
        active = t.active;
        seq = t.seq;
        end = record { 0 = chain_end t.end.0 news };
        mount = link.mount;
        commit = link.commit;
        last = link.digest;
        tail = link.tail;
        root = link.root;
        records = tail.records;
        headers = t.headers;
      } in (
        u,
        grows old new t u trail keeps had news chain (record {
          segments = refl;
          headers = headers_still 0 t.segments t.headers trail.headers;
          active = refl;
          seq = refl;
          ends = refl;
          last = refl;
          passed = tail.passed;
          closed = tail.closed;
          cut = tail.cut;
          joined = tail.joined;
          records = tail.from;
        }),
        record {
          segments = refl;
          active = refl;
          seq = refl;
          ends = refl;
          last = refl;
          gone = tail.gone;
          records = tail.left;
          none = tail.none;
        },
        refl,
      )
