-- An image has one trail alone, and isn't refused then.
use Rattle.std.proofs.Common.{◌≡◌, ℕ, ◌+◌, ◌<◌, ◌≤◌, List, [], ◌∷◌, ◌++◌, length, refl, sym, ap, ◌∙◌, subst, inl, inr, arith}
use Rattle.std.proofs.lemmas.Bool.{cases_lt}
use Rattle.sea_record.specs.Record.{blocks}
use Rattle.sea_record.specs.declared.record.Record.{Record}
use Rattle.sea_base.specs.declared.place.Paddr.{Paddr}
use Rattle.sea_segment.specs.Header.{SpellsHeader}
use Rattle.sea_segment.specs.declared.header.Header.{Header}
use Rattle.sea_segment.proofs.Headers.{same_header}
use Rattle.sea_segment.proofs.Supers.{same_super}
use Rattle.sea_trail.specs.declared.fault.ImageWhy.{ImageWhy}
use Rattle.sea_trail.specs.declared.fault.ImageWhy.TheVariants.{NoSuper, OldFormat, Short, NoSegment, MissingSegment, BadRecord}
use Rattle.sea_trail.specs.declared.link.Link.{Link}
use Rattle.sea_trail.specs.declared.trail.Part.{Part}
use Rattle.sea_trail.specs.declared.trail.Trail.{Trail}
use Rattle.sea_trail.specs.Trail.{AreClosed, AreFrom, AreHeaders, AreLinked, AreParts, HasChain, HasHeader, HasSegments, IsChain, IsNewest, IsNumbered, IsOpen, IsTrail, StandsIn, body_of, chain_end, first_block, header_link, last_link, block_of, header_block, records_in, trail_link}
use Rattle.sea_trail.specs.Refusals.{IsBad, IsBreak, IsRefused, ahead, torn, astray}
use Rattle.sea_trail.proofs.Chains.{blocks-some, same_chain}
use Rattle.sea_trail.proofs.Growth.{chain_end-ge, last_linked}
use Rattle.sea_trail.proofs.Joined.{AreParts-at}

-- one header in a segment
same_stands : (image : List ℕ) (h k : Header) → StandsIn image h → StandsIn image k → h.segment ≡ k.segment → h ≡ k
same_stands image h k is_h is_k same =
    same_header (block_of image (header_block k.segment)) h k (subst (λ (n : ℕ). SpellsHeader (block_of image (header_block n)) h) same is_h) is_k

-- one with a number
same_numbered : (image : List ℕ) (segments seq : ℕ) (h k : Header) → IsNumbered image segments seq h → IsNumbered image segments seq k → h ≡ k
same_numbered image segments seq h k is_h is_k =
    let le : h.segment ≤ k.segment = is_h.least k is_k.has is_k.number in
    let ge : k.segment ≤ h.segment = is_k.least h is_h.has is_h.number in
    same_stands image h k is_h.has.stands is_k.has.stands (omega arith)

same_newest : (image : List ℕ) (segments : ℕ) (h k : Header) → IsNewest image segments h → IsNewest image segments k → h ≡ k
same_newest image segments h k is_h is_k =
    let le : h.seq ≤ k.seq = is_k.greatest h is_h.numbered.has in
    let ge : k.seq ≤ h.seq = is_h.greatest k is_k.numbered.has in
    let same : h.seq ≡ k.seq = omega arith in
    same_numbered image segments k.seq h k (subst (λ (n : ℕ). IsNumbered image segments n h) same is_h.numbered) is_k.numbered

-- one chain behind a header
same_part : (image : List ℕ) (p q : Part) → HasChain image p → HasChain image q → p.header ≡ q.header → p ≡ q
same_part image p q has_p has_q same =
    let h = q.header in
    let chain : IsChain (body_of image h.segment) (first_block h.segment) h.seq (header_link h) p.records = subst (λ (k : Header). IsChain (body_of image k.segment) (first_block k.segment) k.seq (header_link k) p.records) same has_p.chain in
    let records : p.records ≡ q.records = same_chain (body_of image h.segment) (first_block h.segment) h.seq (header_link h) p.records q.records chain has_q.chain in
    let ends : p.end.0 ≡ q.end.0 = has_p.ends ∙ ap (λ (k : Header). chain_end (first_block k.segment) p.records) same ∙ ap (chain_end (first_block h.segment)) records ∙ sym has_q.ends in
    let last : p.last ≡ q.last = has_p.last ∙ ap (λ (k : Header). last_link (header_link k) p.records) same ∙ ap (last_link (header_link h)) records ∙ sym has_q.last in
    let made : Header → List Record → ℕ → Link → Part = λ k rs e l. record { header = k; records = rs; end = record { 0 = e }; last = l } in
    ap (λ (k : Header). made k p.records p.end.0 p.last) same
    ∙ ap (λ (rs : List Record). made h rs p.end.0 p.last) records
    ∙ ap (λ (e : ℕ). made h q.records e p.last) ends
    ∙ ap (made h q.records q.end.0) last

same_parts : (image : List ℕ) (segments from : ℕ) (ps qs : List Part) → length ps ≡ length qs → AreParts image segments from ps → AreParts image segments from qs → ps ≡ qs
same_parts image segments from [] [] e are_p are_q = refl
same_parts image segments from [] (q ∷ qs) e are_p are_q = absurd (omega arith)
same_parts image segments from (p ∷ ps) [] e are_p are_q = absurd (omega arith)
same_parts image segments from (p ∷ ps) (q ∷ qs) e are_p are_q =
    let first : p ≡ q = same_part image p q are_p.1 are_q.1 (same_numbered image segments from p.header q.header are_p.0 are_q.0) in
    ap (λ (x : Part). x ∷ ps) first ∙ ap (λ (xs : List Part). q ∷ xs) (same_parts image segments (from + 1) ps qs (omega arith) are_p.2 are_q.2)

same_headers : (image : List ℕ) (from to : ℕ) (hs ks : List Header) → AreHeaders image from to hs → AreHeaders image from to ks → hs ≡ ks
same_headers image from to [] [] are_h are_k = refl
same_headers image from to [] (k ∷ ks) are_h are_k = absurd (are_h k are_k.0 are_k.1 are_k.2)
same_headers image from to (h ∷ hs) [] are_h are_k = absurd (are_k h are_h.0 are_h.1 are_h.2)
same_headers image from to (h ∷ hs) (k ∷ ks) are_h are_k =
    let there : h.segment ≡ k.segment = elim (cases_lt h.segment k.segment) [
      | inl lt ↦ absurd (are_k.3 h are_h.0 lt are_h.2)
      | inr ge ↦ elim (cases_lt k.segment h.segment) [
        | inl lt ↦ absurd (are_h.3 k are_k.0 lt are_k.2)
        | inr le ↦ omega arith
      ]
    ] in
    let same : h ≡ k = same_stands image h k are_h.2 are_k.2 there in
    let rest : AreHeaders image (k.segment + 1) to hs = subst (λ (n : ℕ). AreHeaders image (n + 1) to hs) there are_h.4 in
    ap (λ (x : Header). x ∷ hs) same ∙ ap (λ (xs : List Header). k ∷ xs) (same_headers image (k.segment + 1) to hs ks rest are_k.4)

-- one cut at a place
same_cut : (place : ℕ) (a b c d : List Record) → a ++ b ≡ c ++ d → chain_end place a ≡ chain_end place c → b ≡ d
same_cut place [] b [] d e at = e
same_cut place [] b (c ∷ cs) d e at = absurd (omega (arith, chain_end-ge (place + blocks c.body) cs, blocks-some c))
same_cut place (a ∷ more) b [] d e at = absurd (omega (arith, chain_end-ge (place + blocks a.body) more, blocks-some a))
same_cut place (a ∷ more) b (c ∷ cs) d e at =
    let first : a ≡ c = cc in
    let rest : more ++ b ≡ cs ++ d = cc in
    same_cut (place + blocks c.body) more b cs d rest (subst (λ (x : Record). chain_end (place + blocks x.body) more ≡ chain_end (place + blocks c.body) cs) first at)

same_from : (place : ℕ) (ps : List Part) (rs ss : List Record) → AreFrom place ps rs → AreFrom place ps ss → rs ≡ ss
same_from place [] rs ss from_r from_s = absurd from_r
same_from place (p ∷ ps) rs ss from_r from_s =
    let cut = same_cut (first_block p.header.segment) from_r.0 from_r.1 from_s.0 from_s.1 (sym from_r.2 ∙ from_s.2) (sym from_r.3 ∙ from_s.3) in
    from_r.4 ∙ ap (λ (xs : List Record). xs ++ records_in ps) cut ∙ sym from_s.4

-- ---- what is found of an image, whatever comes of it

pub same_segments : (image : List ℕ) (m n : ℕ) → HasSegments image m → HasSegments image n → m ≡ n
same_segments image m n has_m has_n = (same_super (block_of image 0) 1 1 m n has_m.super.spells has_n.super.spells).1

pub same_open : (image : List ℕ) (m n : ℕ) (p q : Part) → IsOpen image m p → IsOpen image n q → p ≡ q
same_open image m n p q is_p is_q =
    let same : m ≡ n = same_segments image m n is_p.super is_q.super in
    same_part image p q is_p.chain is_q.chain (same_newest image n p.header q.header (subst (λ (k : ℕ). IsNewest image k p.header) same is_p.newest) is_q.newest)

same_closed : (image : List ℕ) (segments : ℕ) (p : Part) (xs ys : List Part) → AreClosed image segments p xs → AreClosed image segments p ys → xs ≡ ys
same_closed image segments p xs ys are_x are_y =
    same_parts image segments p.last.tail.seq xs ys (omega (arith, are_x.joined, are_y.joined)) are_x.parts are_y.parts

-- the open segments of two findings, with what stands behind both
pub record SameParts (image : List ℕ) (segments : ℕ) (p : Part) (xs : List Part) (n : ℕ) (q : Part) (ys : List Part) : Type 0 where
  pub open_part : p ≡ q
  pub closed : xs ≡ ys

pub same_both : (image : List ℕ) (m n : ℕ) (p q : Part) (xs ys : List Part) → IsOpen image m p → IsOpen image n q → AreClosed image m p xs → AreClosed image n q ys → SameParts image m p xs n q ys
same_both image m n p q xs ys is_p is_q are_x are_y =
    let count : m ≡ n = same_segments image m n is_p.super is_q.super in
    let same : p ≡ q = same_open image m n p q is_p is_q in
    record {
      open_part = same;
      closed = same_closed image n q xs ys (subst (λ (x : Part). AreClosed image n x xs) same (subst (λ (k : ℕ). AreClosed image k p xs) count are_x)) are_y;
    }

-- ---- the laws

made_trail : ℕ → ℕ → ℕ → Paddr → Link → List Record → List Header → Trail
made_trail segments active seq end link records headers = record {
  segments = segments;
  active = active;
  seq = seq;
  end = end;
  mount = link.mount;
  commit = link.commit;
  last = link.digest;
  tail = link.tail;
  root = link.root;
  records = records;
  headers = headers;
}

pub one_trail : (image : List ℕ) (t u : Trail) → IsTrail image t → IsTrail image u → t ≡ u
unfolding made_trail
one_trail image t u is_t is_u =
    let count : t.segments ≡ u.segments = same_segments image t.segments u.segments is_t.is_open.super is_u.is_open.super in
    let both = same_both image t.segments u.segments is_t.newest is_u.newest is_t.closed is_u.closed is_t.is_open is_u.is_open is_t.are_closed is_u.are_closed in
    let active : t.active ≡ u.active = is_t.active ∙ ap (λ (p : Part). p.header.segment) both.open_part ∙ sym is_u.active in
    let seq : t.seq ≡ u.seq = is_t.seq ∙ ap (λ (p : Part). p.header.seq) both.open_part ∙ sym is_u.seq in
    let ends : t.end ≡ u.end = is_t.ends ∙ ap (λ (p : Part). p.end) both.open_part ∙ sym is_u.ends in
    let link : trail_link t ≡ trail_link u = is_t.last ∙ ap (λ (p : Part). p.last) both.open_part ∙ sym is_u.last in
    let headers : t.headers ≡ u.headers = same_headers image 0 u.segments t.headers u.headers (subst (λ (n : ℕ). AreHeaders image 0 n t.headers) count is_t.headers) is_u.headers in
    let parts : is_t.closed ++ is_t.newest ∷ [] ≡ is_u.closed ++ is_u.newest ∷ [] = ap (λ (xs : List Part). xs ++ is_t.newest ∷ []) both.closed ∙ ap (λ (p : Part). is_u.closed ++ p ∷ []) both.open_part in
    let place : t.tail.place.0 ≡ u.tail.place.0 = ap (λ (l : Link). l.tail.place.0) link in
    let from : AreFrom u.tail.place.0 (is_u.closed ++ is_u.newest ∷ []) t.records = subst (λ (n : ℕ). AreFrom n (is_u.closed ++ is_u.newest ∷ []) t.records) place (subst (λ (ps : List Part). AreFrom t.tail.place.0 ps t.records) parts is_t.records) in
    let records : t.records ≡ u.records = same_from u.tail.place.0 (is_u.closed ++ is_u.newest ∷ []) t.records u.records from is_u.records in
    ap (λ (n : ℕ). made_trail n t.active t.seq t.end (trail_link t) t.records t.headers) count
    ∙ ap (λ (n : ℕ). made_trail u.segments n t.seq t.end (trail_link t) t.records t.headers) active
    ∙ ap (λ (n : ℕ). made_trail u.segments u.active n t.end (trail_link t) t.records t.headers) seq
    ∙ ap (λ (e : Paddr). made_trail u.segments u.active u.seq e (trail_link t) t.records t.headers) ends
    ∙ ap (λ (l : Link). made_trail u.segments u.active u.seq u.end l t.records t.headers) link
    ∙ ap (λ (rs : List Record). made_trail u.segments u.active u.seq u.end (trail_link u) rs t.headers) records
    ∙ ap (made_trail u.segments u.active u.seq u.end (trail_link u) u.records) headers

-- segments that all go on from one another have no break
pub no_break : (ps : List Part) (block : ℕ) → AreLinked ps → IsBreak ps block → ⊥
no_break ps block linked breaks =
    let rest : AreLinked (breaks.part ∷ breaks.next ∷ breaks.back) = last_linked breaks.front (breaks.part ∷ breaks.next ∷ breaks.back) (subst AreLinked breaks.cut linked) in
    breaks.broken rest.0

not_bad : (image : List ℕ) (t : Trail) (block : ℕ) → IsTrail image t → IsBad image block → ⊥
not_bad image t block is (ahead bad) =
    let same : is.newest ≡ bad.newest = same_open image t.segments bad.segments is.newest bad.newest is.is_open bad.is_open in
    let lt = subst (λ (p : Part). p.header.seq < p.last.tail.seq) (sym same) bad.ahead in
    omega (arith, lt, is.are_closed.joined)
not_bad image t block is (torn bad) =
    let both = same_both image t.segments bad.segments is.newest bad.newest is.closed bad.closed is.is_open bad.is_open is.are_closed bad.are_closed in
    let parts : is.closed ++ is.newest ∷ [] ≡ bad.closed ++ bad.newest ∷ [] = ap (λ (xs : List Part). xs ++ is.newest ∷ []) both.closed ∙ ap (λ (p : Part). bad.closed ++ p ∷ []) both.open_part in
    no_break (bad.closed ++ bad.newest ∷ []) block (subst AreLinked parts is.linked) bad.first_break
not_bad image t block is (astray bad) =
    let both = same_both image t.segments bad.segments is.newest bad.newest is.closed bad.closed is.is_open bad.is_open is.are_closed bad.are_closed in
    let parts : is.closed ++ is.newest ∷ [] ≡ bad.closed ++ bad.newest ∷ [] = ap (λ (xs : List Part). xs ++ is.newest ∷ []) both.closed ∙ ap (λ (p : Part). bad.closed ++ p ∷ []) both.open_part in
    let place : t.tail.place.0 ≡ bad.newest.last.tail.place.0 = ap (λ (l : Link). l.tail.place.0) is.last ∙ ap (λ (p : Part). p.last.tail.place.0) both.open_part in
    bad.none t.records (subst (λ (n : ℕ). AreFrom n (bad.closed ++ bad.newest ∷ []) t.records) place (subst (λ (ps : List Part). AreFrom t.tail.place.0 ps t.records) parts is.records))

pub not_both : (image : List ℕ) (t : Trail) (why : ImageWhy) → IsTrail image t → IsRefused image why → ⊥
not_both image t NoSuper is refused = refused 1 t.segments is.is_open.super.super
not_both image t (OldFormat found) is refused =
    refused.other (same_super (block_of image 0) found 1 refused.segments t.segments refused.super.spells is.is_open.super.super.spells).0
not_both image t (Short have need) is refused =
    let count = (same_super (block_of image 0) 1 1 refused.segments t.segments refused.super.spells is.is_open.super.super.spells).1 in
    omega (arith, count, refused.has, refused.needs, refused.fewer, is.is_open.super.long)
not_both image t NoSegment is refused =
    let count : t.segments ≡ refused.segments = same_segments image t.segments refused.segments is.is_open.super refused.super in
    let has = is.is_open.newest.numbered.has in
    refused.none is.newest.header (record { within = omega (arith, count, has.within); stands = has.stands })
not_both image t (MissingSegment seq) is refused =
    let count : t.segments ≡ refused.segments = same_segments image t.segments refused.segments is.is_open.super refused.is_open.super in
    let same : is.newest ≡ refused.newest = same_open image t.segments refused.segments is.newest refused.newest is.is_open refused.is_open in
    let low : is.newest.last.tail.seq ≤ seq = subst (λ (p : Part). p.last.tail.seq ≤ seq) (sym same) refused.from_tail in
    let high : seq ≤ is.newest.header.seq = subst (λ (p : Part). seq ≤ p.header.seq) (sym same) refused.to_newest in
    let none : (h : Header) → HasHeader image t.segments h → h.seq ≡ seq → ⊥ = subst (λ (n : ℕ). (h : Header) → HasHeader image n h → h.seq ≡ seq → ⊥) (sym count) refused.none in
    elim (cases_lt seq is.newest.header.seq) [
      | inl lt ↦ (let there = AreParts-at image t.segments is.newest.last.tail.seq is.closed is.are_closed.parts seq low (omega (arith, is.are_closed.joined)) in none there.0 there.1.has there.1.number)
      | inr ge ↦ (let e : is.newest.header.seq ≡ seq = omega arith in none is.newest.header is.is_open.newest.numbered.has e)
    ]
not_both image t (BadRecord block) is refused = not_bad image t block.0 is refused
