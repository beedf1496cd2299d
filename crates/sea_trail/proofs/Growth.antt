-- How a trail grows: by records behind it, and by a new segment.
use Rattle.std.proofs.Common.{◌≡◌, ℕ, ◌+◌, ◌-◌, ◌*◌, ◌<◌, ◌≤◌, ◌⊎◌, List, [], ◌∷◌, ◌++◌, length, take, drop, refl, sym, ap, ◌∙◌, subst, inl, inr, arith, append_assoc, length-append}
use Rattle.std.specs.List.{All}
use Rattle.std.proofs.lemmas.List.{append-nil, drop-drop, drop-take, take-take, take_at, take-append-drop}
use Rattle.std.proofs.lemmas.List.Elements.{All-head, All-tail}
use Rattle.std.proofs.lemmas.List.Concat.{flat_map-append}
use Rattle.sea_record.specs.Record.{BeginsWith, blocks, record_bytes}
use Rattle.sea_record.specs.declared.record.Record.{Record}
use Rattle.sea_record.proofs.RecordRules.{fits_of}
use Rattle.sea_record.proofs.Records.{length-record_bytes}
use Rattle.sea_segment.specs.Header.{SpellsHeader}
use Rattle.sea_segment.specs.declared.header.Header.{Header}
use Rattle.sea_trail.specs.declared.link.Link.{Link}
use Rattle.sea_trail.specs.declared.trail.Part.{Part}
use Rattle.sea_trail.specs.declared.trail.Trail.{Trail}
use Rattle.sea_trail.specs.Trail.{AreClosed, AreFrom, AreLinked, AreParts, FollowOn, Follows, HasChain, HasHeader, HasSegments, IsChain, IsNewest, IsNumbered, IsOpen, IsSuper, IsTrail, StandsIn, block_of, body_of, chain_end, first_block, header_block, header_link, last_link, link_of, records_in, trail_link}
use Rattle.sea_trail.specs.Laws.{GrowsTo, KeepsLinks, RollsTo, SameSegment, grown_part, rest_of}
use Rattle.sea_trail.proofs.Chains.{chain_end-append, last_link-append}
use Rattle.sea_trail.proofs.Joined.{AreLinked-more, AreParts-more}

All-behind : {X : Type 0} (P : X → Type 0) (xs ys : List X) → All P (xs ++ ys) → All P ys
All-behind P [] ys all = all
All-behind P (x ∷ xs) ys all = All-behind P xs ys (All-tail P x (xs ++ ys) all)

-- ---- chains

pub chain_end-ge : (place : ℕ) (rs : List Record) → place ≤ chain_end place rs
chain_end-ge place [] = omega arith
chain_end-ge place (r ∷ rs) = omega (arith, chain_end-ge (place + blocks r.body) rs)

-- a part of a front
front_part : (old new : List ℕ) (from count whole : ℕ) → from + count ≤ whole → take whole new ≡ take whole old → take count (drop from new) ≡ take count (drop from old)
front_part old new from count whole within same =
    let front : (bytes : List ℕ) → take count (drop from bytes) ≡ drop from (take (from + count) (take whole bytes)) = λ bytes. sym (drop-take from count bytes) ∙ ap (drop from) (sym (take-take (from + count) whole bytes within)) in
    front new ∙ ap (λ (b : List ℕ). drop from (take (from + count) b)) same ∙ sym (front old)

-- a record stands as long as its blocks have their bytes
kept_record : (old new : List ℕ) (r : Record) → take (4096 * blocks r.body) new ≡ take (4096 * blocks r.body) old → BeginsWith old r → BeginsWith new r
kept_record old new r same begins =
    let count = 4096 * blocks r.body in
    let here : take count new ≡ record_bytes r = same ∙ ap (take count) begins.spelled ∙ take_at (record_bytes r) begins.behind count (length-record_bytes r (fits_of r begins.is_record)) in
    record {
      is_record = begins.is_record;
      behind = drop count new;
      spelled = sym (take-append-drop count new) ∙ ap (λ (b : List ℕ). b ++ drop count new) here;
    }

-- A chain whose blocks keep their bytes goes on by those behind it.
pub grown_chain : (old new : List ℕ) (place seq : ℕ) (link : Link) (rs news : List Record) → IsChain old place seq link rs
    → (let n = 4096 * (chain_end place rs - place) in take n new ≡ take n old)
    → IsChain (drop (4096 * (chain_end place rs - place)) new) (chain_end place rs) seq (last_link link rs) news → IsChain new place seq link (rs ++ news)
grown_chain old new place seq link [] news chain same more =
    let none : 4096 * (place - place) ≡ 0 = omega arith in
    subst (λ (n : ℕ). IsChain (drop n new) place seq link news) none more
grown_chain old new place seq link (r ∷ rs) news chain same more =
    let size = 4096 * blocks r.body in
    let next = place + blocks r.body in
    let end = chain_end next rs in
    let ge : next ≤ end = chain_end-ge next rs in
    let whole = 4096 * (end - place) in
    let first : take size new ≡ take size old = front_part old new 0 size whole (omega arith) same in
    let left : 4096 * (end - next) + size ≡ whole = omega arith in
    let behind = front_part old new size (4096 * (end - next)) whole (omega arith) same in
    let past : drop (4096 * (end - next)) (drop size new) ≡ drop whole new = drop-drop (4096 * (end - next)) size new ∙ ap (λ (n : ℕ). drop n new) (omega arith) in (
      record {
        stands = kept_record old new r first chain.0.stands;
        same_segment = chain.0.same_segment;
        in_place = chain.0.in_place;
        commit = chain.0.commit;
        mount = chain.0.mount;
        prev = chain.0.prev;
      },
      grown_chain (drop size old) (drop size new) next seq (link_of r) rs news chain.1 behind
          (subst (λ (b : List ℕ). IsChain b end seq (last_link (link_of r) rs) news) (sym past) more),
    )

-- ---- segments of another image

pub kept_header : (old new : List ℕ) (h : Header) → block_of new (header_block h.segment) ≡ block_of old (header_block h.segment) → StandsIn old h → StandsIn new h
kept_header old new h same stands = subst (λ (b : List ℕ). SpellsHeader b h) (sym same) stands

pub kept_segments : (old new : List ℕ) (segments : ℕ) → length new ≡ length old → block_of new 0 ≡ block_of old 0 → HasSegments old segments → HasSegments new segments
kept_segments old new segments size super has = record {
  super = subst (λ (b : List ℕ). IsSuper b 1 segments) (sym super) has.super;
  long = omega (arith, has.long, size);
}

pub kept_chain : (old new : List ℕ) (p : Part) → body_of new p.header.segment ≡ body_of old p.header.segment → HasChain old p → HasChain new p
kept_chain old new p same has = record {
  chain = subst (λ (b : List ℕ). IsChain b (first_block p.header.segment) p.header.seq (header_link p.header) p.records) (sym same) has.chain;
  ends = has.ends;
  last = has.last;
}

-- a header that stands keeps its number, where each other with that number stood before
pub kept_numbered : (old new : List ℕ) (segments seq : ℕ) (h : Header) → StandsIn new h → ((k : Header) → HasHeader new segments k → k.seq ≡ seq → HasHeader old segments k) → IsNumbered old segments seq h → IsNumbered new segments seq h
kept_numbered old new segments seq h stands before is = record {
  has = record { within = is.has.within; stands = stands };
  number = is.number;
  least = λ k has number. is.least k (before k has number) number;
}

pub kept_parts : (old new : List ℕ) (segments from to : ℕ) (ps : List Part) → from + length ps ≤ to → ((k : Header) → HasHeader new segments k → k.seq < to → HasHeader old segments k)
    → All (λ p. SameSegment old new p.header.segment) ps → AreParts old segments from ps → AreParts new segments from ps
kept_parts old new segments from to [] le before same parts = tt
kept_parts old new segments from to (p ∷ ps) le before same parts =
    let here = All-head (λ (q : Part). SameSegment old new q.header.segment) p ps same in (
      kept_numbered old new segments from p.header (kept_header old new p.header here.0 parts.0.has.stands) (λ k has number. before k has (omega arith)) parts.0,
      kept_chain old new p here.1 parts.1,
      kept_parts old new segments (from + 1) to ps (omega arith) before (All-tail (λ (q : Part). SameSegment old new q.header.segment) p ps same) parts.2,
    )

-- the last of some segments in a row
pub last_parts : (image : List ℕ) (segments from : ℕ) (passed ps : List Part) → AreParts image segments from (passed ++ ps) → AreParts image segments (from + length passed) ps
last_parts image segments from [] ps parts = subst (λ (n : ℕ). AreParts image segments n ps) (omega arith) parts
last_parts image segments from (q ∷ qs) ps parts =
    subst (λ (n : ℕ). AreParts image segments n ps) (omega arith) (last_parts image segments (from + 1) qs ps parts.2)

last_follow : (link : Link) (passed ps : List Part) → FollowOn link (passed ++ ps) → AreLinked ps
last_follow link [] [] on = tt
last_follow link [] (p ∷ ps) on = on.1
last_follow link (q ∷ qs) ps on = last_follow q.last qs ps on.1

pub last_linked : (passed ps : List Part) → AreLinked (passed ++ ps) → AreLinked ps
last_linked [] ps linked = linked
last_linked (q ∷ qs) ps linked = last_follow q.last qs ps linked

-- the last segment of some is looked at by its header alone
follow_same : (link : Link) (ps : List Part) (p q : Part) → q.header ≡ p.header → FollowOn link (ps ++ p ∷ []) → FollowOn link (ps ++ q ∷ [])
follow_same link [] p q same on = (subst (Follows link) (sym same) on.0, tt)
follow_same link (x ∷ xs) p q same on = (on.0, follow_same x.last xs p q same on.1)

pub linked_same : (ps : List Part) (p q : Part) → q.header ≡ p.header → AreLinked (ps ++ p ∷ []) → AreLinked (ps ++ q ∷ [])
linked_same [] p q same linked = tt
linked_same (x ∷ xs) p q same linked = follow_same x.last xs p q same linked

-- ---- records from a place on

records_one : (ps : List Part) (p : Part) → records_in (ps ++ p ∷ []) ≡ records_in ps ++ p.records
records_one ps p = flat_map-append (λ (q : Part). q.records) ps (p ∷ []) ∙ ap (λ (rs : List Record). records_in ps ++ rs) (append-nil p.records)

pub from_more : (place : ℕ) (ps : List Part) (p : Part) (records : List Record) → AreFrom place ps records → AreFrom place (ps ++ p ∷ []) (records ++ p.records)
from_more place [] p records from = absurd from
from_more place (q ∷ qs) p records from =
    (from.0, from.1, from.2, from.3, ap (λ (rs : List Record). rs ++ p.records) from.4 ∙ append_assoc from.1 (records_in qs) p.records ∙ ap (λ (rs : List Record). from.1 ++ rs) (sym (records_one qs p)))

pub grows_from : (place : ℕ) (closed : List Part) (p : Part) (records news : List Record) → AreFrom place (closed ++ p ∷ []) records → AreFrom place (closed ++ grown_part p news ∷ []) (records ++ news)
grows_from place [] p records news from = (
  from.0,
  from.1 ++ news,
  ap (λ (rs : List Record). rs ++ news) from.2 ∙ append_assoc from.0 from.1 news,
  from.3,
  ap (λ (rs : List Record). rs ++ news) (from.4 ∙ append-nil from.1) ∙ sym (append-nil (from.1 ++ news)),
)
grows_from place (q ∷ qs) p records news from = (
  from.0,
  from.1,
  from.2,
  from.3,
  ap (λ (rs : List Record). rs ++ news) (from.4 ∙ ap (λ (rs : List Record). from.1 ++ rs) (records_one qs p))
      ∙ append_assoc from.1 (records_in qs ++ p.records) news
      ∙ ap (λ (rs : List Record). from.1 ++ rs) (append_assoc (records_in qs) p.records news ∙ sym (records_one qs (grown_part p news))),
)

-- ---- the laws

-- the open segment of another image, with what goes on behind it
grown_open : (old new : List ℕ) (t : Trail) (trail : IsTrail old t) → KeepsLinks old new t trail → (news : List Record) → IsChain (rest_of new t) t.end.0 t.seq (trail_link t) news → HasChain new (grown_part trail.newest news)
grown_open old new t trail keeps news more =
    let p = trail.newest in
    let first = first_block p.header.segment in
    let has = trail.is_open.chain in
    let active : t.active ≡ p.header.segment = trail.active in
    let ends : t.end.0 ≡ chain_end first p.records = ap (λ e. e.0) trail.ends ∙ has.ends in
    let count : 4096 * (t.end.0 - first_block t.active) ≡ 4096 * (chain_end first p.records - first) = ap (λ (n : ℕ). 4096 * (n - first_block t.active)) ends ∙ ap (λ (s : ℕ). 4096 * (chain_end first p.records - first_block s)) active in
    let same = subst (λ (n : ℕ). take n (body_of new p.header.segment) ≡ take n (body_of old p.header.segment)) count
    (subst (λ (s : ℕ). take (4096 * (t.end.0 - first_block t.active)) (body_of new s) ≡ take (4096 * (t.end.0 - first_block t.active)) (body_of old s)) active keeps.records) in
    let rest : rest_of new t ≡ drop (4096 * (chain_end first p.records - first)) (body_of new p.header.segment) = ap (λ (n : ℕ). drop n (body_of new t.active)) count ∙ ap (λ (s : ℕ). drop (4096 * (chain_end first p.records - first)) (body_of new s)) active in
    let last : trail_link t ≡ last_link (header_link p.header) p.records = trail.last ∙ has.last in
    let more' = subst (λ (b : List ℕ). IsChain b (chain_end first p.records) p.header.seq (last_link (header_link p.header) p.records) news) rest
    (subst (λ (e : ℕ). IsChain (rest_of new t) e p.header.seq (last_link (header_link p.header) p.records) news) ends
    (subst (λ (s : ℕ). IsChain (rest_of new t) t.end.0 s (last_link (header_link p.header) p.records) news) trail.seq
    (subst (λ (l : Link). IsChain (rest_of new t) t.end.0 t.seq l news) last more))) in
    record {
      chain = grown_chain (body_of old p.header.segment) (body_of new p.header.segment) first p.header.seq (header_link p.header) p.records news has.chain same more';
      ends = ap (λ (e : ℕ). chain_end e news) has.ends ∙ sym (chain_end-append first p.records news);
      last = ap (λ (l : Link). last_link l news) has.last ∙ sym (last_link-append (header_link p.header) p.records news);
    }

-- its header stands in the other image
open_stands : (old new : List ℕ) (t : Trail) (trail : IsTrail old t) → KeepsLinks old new t trail → StandsIn new trail.newest.header
open_stands old new t trail keeps =
    kept_header old new trail.newest.header
    (subst (λ (s : ℕ). block_of new (header_block s) ≡ block_of old (header_block s)) trail.active keeps.header)
    trail.is_open.newest.numbered.has.stands

pub grows : (old new : List ℕ) (t u : Trail) (trail : IsTrail old t) → KeepsLinks old new t trail → ((k : Header) → HasHeader new t.segments k → HasHeader old t.segments k)
    → (news : List Record) → IsChain (rest_of new t) t.end.0 t.seq (trail_link t) news → GrowsTo old t trail news new u → IsTrail new u
grows old new t u trail keeps before news more to =
    let p = trail.newest in
    let newest = trail.is_open.newest in
    let q = grown_part p news in
    let open_is : IsOpen new t.segments q = record {
      super = kept_segments old new t.segments keeps.size keeps.super trail.is_open.super;
      newest = record {
        numbered = kept_numbered old new t.segments p.header.seq p.header (open_stands old new t trail keeps) (λ k has number. before k has) newest.numbered;
        greatest = λ k has. newest.greatest k (before k has);
      };
      chain = grown_open old new t trail keeps news more;
    } in
    let last_is : trail_link u ≡ q.last = to.last ∙ ap (λ (l : Link). last_link l news) trail.last in
    let tail_is : u.tail.seq ≡ q.last.tail.seq = ap (λ (l : Link). l.tail.seq) last_is in
    let seq_is : t.seq ≡ p.header.seq = trail.seq in
    let tail_was : t.tail.seq ≡ p.last.tail.seq = ap (λ (l : Link). l.tail.seq) trail.last in
    let number : t.tail.seq + length to.passed ≡ u.tail.seq = omega (arith, trail.are_closed.joined, ap length to.cut, length-append to.passed to.closed, to.joined, seq_is, tail_was) in
    let old_parts : AreParts old t.segments t.tail.seq (to.passed ++ to.closed) = subst (λ (ps : List Part). AreParts old t.segments t.tail.seq ps) to.cut (subst (λ (n : ℕ). AreParts old t.segments n trail.closed) (sym tail_was) trail.are_closed.parts) in
    let last_ones : AreParts old t.segments q.last.tail.seq to.closed = subst (λ (n : ℕ). AreParts old t.segments n to.closed) (number ∙ tail_is) (last_parts old t.segments t.tail.seq to.passed to.closed old_parts) in
    let same : All (λ x. SameSegment old new x.header.segment) to.closed = All-behind (λ (x : Part). SameSegment old new x.header.segment) to.passed to.closed (subst (All (λ (x : Part). SameSegment old new x.header.segment)) to.cut keeps.closed) in
    let closed_are : AreClosed new t.segments q to.closed = record {
      parts = kept_parts old new t.segments q.last.tail.seq (q.last.tail.seq + length to.closed) to.closed (omega arith) (λ k has lt. before k has) same last_ones;
      joined = omega (arith, to.joined, seq_is, tail_is);
    } in
    let linked_was : AreLinked (to.passed ++ (to.closed ++ p ∷ [])) = subst AreLinked (ap (λ (ps : List Part). ps ++ p ∷ []) to.cut ∙ append_assoc to.passed to.closed (p ∷ [])) trail.linked in
    record {
      headers = to.headers;
      newest = q;
      is_open = subst (λ (n : ℕ). IsOpen new n q) (sym to.segments) open_is;
      active = to.active ∙ trail.active;
      seq = to.seq ∙ trail.seq;
      ends = ap (λ (e : ℕ). record { 0 = e }) (to.ends ∙ ap (λ e. chain_end e.0 news) trail.ends);
      last = last_is;
      closed = to.closed;
      are_closed = subst (λ (n : ℕ). AreClosed new n q to.closed) (sym to.segments) closed_are;
      linked = linked_same to.closed p q refl (last_linked to.passed (to.closed ++ p ∷ []) linked_was);
      records = to.records;
    }

-- the segment that a header opens, without a record
fresh_part : Header → Part
fresh_part h = record { header = h; records = []; end = record { 0 = first_block h.segment }; last = header_link h }

pub rolls : (old new : List ℕ) (t u : Trail) (h : Header) (trail : IsTrail old t) → KeepsLinks old new t trail
    → IsChain (rest_of new t) t.end.0 t.seq (trail_link t) []
    → HasHeader new t.segments h → h.seq ≡ t.seq + 1 → Follows (trail_link t) h → h.tail ≡ t.tail
    → ((k : Header) → HasHeader new t.segments k → (k ≡ h) ⊎ HasHeader old t.segments k)
    → IsChain (body_of new h.segment) (first_block h.segment) h.seq (header_link h) []
    → RollsTo t h new u → IsTrail new u
unfolding fresh_part
rolls old new t u h trail keeps none has number follows tail before chain to =
    let p = trail.newest in
    let q = fresh_part h in
    let newest = trail.is_open.newest in
    let seq_is : t.seq ≡ p.header.seq = trail.seq in
    let was : (k : Header) → HasHeader new t.segments k → k.seq < h.seq → HasHeader old t.segments k = λ k has_k lt.
    elim (before k has_k) [
      | inl same ↦ (let e : k.seq ≡ h.seq = ap (λ (x : Header). x.seq) same in absurd (omega arith))
      | inr there ↦ there
    ] in
    let top : IsNewest new t.segments h = record {
      numbered = record {
        has = has;
        number = refl;
        least = λ k has_k e. elim (before k has_k) [
          | inl same ↦ (let e' : k.segment ≡ h.segment = ap (λ (x : Header). x.segment) same in omega arith)
          | inr there ↦ absurd (omega (arith, newest.greatest k there))
        ];
      };
      greatest = λ k has_k. elim (before k has_k) [
        | inl same ↦ (let e' : k.seq ≡ h.seq = ap (λ (x : Header). x.seq) same in omega arith)
        | inr there ↦ omega (arith, newest.greatest k there)
      ];
    } in
    let open_is : IsOpen new t.segments q = record {
      super = kept_segments old new t.segments keeps.size keeps.super trail.is_open.super;
      newest = top;
      chain = record { chain = chain; ends = refl; last = refl };
    } in
    let tail_seq : h.tail.seq ≡ t.tail.seq = ap (λ l. l.seq) tail in
    let tail_was : t.tail.seq ≡ p.last.tail.seq = ap (λ (l : Link). l.tail.seq) trail.last in
    let from_is : p.last.tail.seq ≡ h.tail.seq = omega arith in
    let joined = trail.are_closed.joined in
    let closed_parts : AreParts new t.segments p.last.tail.seq trail.closed = kept_parts old new t.segments p.last.tail.seq p.header.seq trail.closed (omega arith) (λ k has_k lt. was k has_k (omega arith)) keeps.closed trail.are_closed.parts in
    let grown : HasChain new (grown_part p []) = grown_open old new t trail keeps [] none in
    let last_chain : HasChain new p = record {
      chain = subst (λ (rs : List Record). IsChain (body_of new p.header.segment) (first_block p.header.segment) p.header.seq (header_link p.header) rs) (append-nil p.records) grown.chain;
      ends = trail.is_open.chain.ends;
      last = trail.is_open.chain.last;
    } in
    let last_numbered : IsNumbered new t.segments p.header.seq p.header = kept_numbered old new t.segments p.header.seq p.header (open_stands old new t trail keeps) (λ k has_k e. was k has_k (omega arith)) newest.numbered in
    let parts : AreParts new t.segments p.last.tail.seq (trail.closed ++ p ∷ []) = AreParts-more new t.segments p.last.tail.seq p.header.seq trail.closed p (omega arith) closed_parts last_numbered last_chain in
    let closed_are : AreClosed new t.segments q (trail.closed ++ p ∷ []) = record {
      parts = subst (λ (n : ℕ). AreParts new t.segments n (trail.closed ++ p ∷ [])) from_is parts;
      joined = omega (arith, length-append trail.closed (p ∷ []));
    } in
    let follows' : Follows p.last h = subst (λ (l : Link). Follows l h) trail.last follows in
    let place_is : t.tail.place.0 ≡ u.tail.place.0 = sym (ap (λ l. l.place.0) tail) ∙ sym (ap (λ (l : Link). l.tail.place.0) to.last) in
    record {
      headers = to.headers;
      newest = q;
      is_open = subst (λ (n : ℕ). IsOpen new n q) (sym to.segments) open_is;
      active = to.active;
      seq = to.seq;
      ends = ap (λ (e : ℕ). record { 0 = e }) to.ends;
      last = to.last;
      closed = trail.closed ++ p ∷ [];
      are_closed = subst (λ (n : ℕ). AreClosed new n q (trail.closed ++ p ∷ [])) (sym to.segments) closed_are;
      linked = AreLinked-more trail.closed p q trail.linked follows';
      records = subst (λ (n : ℕ). AreFrom n (trail.closed ++ p ∷ [] ++ q ∷ []) u.records) place_is
          (subst (λ (rs : List Record). AreFrom t.tail.place.0 (trail.closed ++ p ∷ [] ++ q ∷ []) rs) (append-nil t.records ∙ sym to.records)
          (from_more t.tail.place.0 (trail.closed ++ p ∷ []) q t.records trail.records));
    }
