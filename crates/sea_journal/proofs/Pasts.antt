-- What holds of a journal's past, and how it goes on.
use Rattle.std.proofs.Common.{◌≡◌, ℕ, zero, suc, ◌+◌, ◌-◌, ◌*◌, ◌<◌, ◌≤◌, ◌≢◌, ◌⊎◌, List, [], ◌∷◌, ◌++◌, length, take, drop, refl, sym, ap, ◌∙◌, subst, inl, inr, arith, append_assoc, length-append, Option, None, IfSome}
use Rattle.std.specs.List.{All, Contains}
use Rattle.std.proofs.lemmas.List.{append-nil, take_all, take-append-le}
use Rattle.std.proofs.lemmas.List.Elements.{Contains-append_cases, All-append, All-cons, All-contains, All-contains_itself, All-head, All-nil, All-push, All-tail, All-weaker, Contains-append_left, Contains-append_right, Contains-push, Contains-push_cases}
use Rattle.std.proofs.lemmas.List.Concat.{flat_map-append}
use Rattle.std.proofs.lemmas.Bool.{cases_lt}
use Rattle.std.proofs.lemmas.Bool.Decides.{eqb_tells}
use Rattle.sea_base.specs.declared.place.Tail.{Tail}
use Rattle.sea_device.specs.Device.{Torn}
use Rattle.sea_record.specs.Record.{blocks}
use Rattle.sea_record.specs.declared.record.Record.{Record}
use Rattle.sea_segment.specs.Header.{IsHeader, SpellsHeader}
use Rattle.sea_segment.specs.declared.header.Header.{Header}
use Rattle.sea_segment.proofs.Headers.{same_header}
use Rattle.sea_trail.specs.Laws.{grown_part, rest_of}
use Rattle.sea_trail.specs.Trail.{AreFrom, AreHeaders, AreLinked, AreParts, FollowOn, HasChain, HasHeader, IsChain, IsNewest, IsTrail, StandsIn, body_of, block_of, chain_end, first_block, header_block, header_link, last_link, link_of, records_in, segment_end, trail_link}
use Rattle.sea_trail.specs.declared.link.Link.{Link}
use Rattle.sea_trail.specs.declared.trail.Part.{Part}
use Rattle.sea_trail.specs.declared.trail.Trail.{Trail}
use Rattle.sea_trail.proofs.Chains.{chain_end-append, last_link-append}
use Rattle.sea_trail.proofs.Growth.{grown_chain, grows_from}
use Rattle.sea_trail.proofs.Unique.{one_trail}
use Rattle.sea_journal.specs.Links.{IsNext, Linked, StandInRow}
use Rattle.sea_journal.specs.Log.{Log, IsLog, IsBehind, IsClear, IsKnown, IsKnownHeader, IsNextHeader, IsOnTrail, IsSynced, HasPrefix, HasTail, NamesTail, NoneGone, at_end, at_record, pushed, stays, up_to_record}
use Rattle.sea_journal.specs.Resume.{opened}
use Rattle.sea_journal.proofs.Afters.{extended, had, keeps, newest_still, of_before}
use Rattle.sea_journal.proofs.Rows.{clear_chain, in_cons, linked_rise, linked_upto, longer_row, row_in_chain, row_of_chain}

All-behind : {X : Type 0} (P : X → Type 0) (xs ys : List X) → All P (xs ++ ys) → All P ys
All-behind P [] ys all = all
All-behind P (x ∷ xs) ys all = All-behind P xs ys (All-tail P x (xs ++ ys) all)

All-front : {X : Type 0} (P : X → Type 0) (xs ys : List X) → All P (xs ++ ys) → All P xs
All-front P [] ys all = All-nil P
All-front P (x ∷ xs) ys all = All-cons P x xs (All-head P x (xs ++ ys) all) (All-front P xs ys (All-tail P x (xs ++ ys) all))

-- two headers that are the newest stand in one segment, and are one
pub same_newest : (image : List ℕ) (segments : ℕ) (h k : Header) → IsNewest image segments h → IsNewest image segments k → h ≡ k
same_newest image segments h k one two =
    let up = one.greatest k two.numbered.has in
    let down = two.greatest h one.numbered.has in
    let left = one.numbered.least k two.numbered.has (omega arith) in
    let right = two.numbered.least h one.numbered.has (omega arith) in
    let at : h.segment ≡ k.segment = omega arith in
    same_header (block_of image (header_block k.segment)) h k
    (subst (λ (s : ℕ). SpellsHeader (block_of image (header_block s)) h) at one.numbered.has.stands) two.numbered.has.stands

-- ---- the open segment of another image, with what stands behind the trail

module _ (old new : List ℕ) (t : Trail) (trail : IsTrail old t) (torn : Torn (4096 * t.end.0) (4096 * (segment_end t.active - t.end.0)) old new) where
  -- what is said of the bytes behind the trail, said of those behind its last record
  behind_last : (F : List ℕ → ℕ → ℕ → Link → Type 0) → F (rest_of new t) t.end.0 t.seq (trail_link t)
      → (let p = trail.newest in let first = first_block p.header.segment in
      F (drop (4096 * (chain_end first p.records - first)) (body_of new p.header.segment)) (chain_end first p.records) p.header.seq (last_link (header_link p.header) p.records))
  behind_last F more =
      let p = trail.newest in
      let first = first_block p.header.segment in
      let has = trail.is_open.chain in
      let ends : t.end.0 ≡ chain_end first p.records = ap (λ e. e.0) trail.ends ∙ has.ends in
      let count : 4096 * (t.end.0 - first_block t.active) ≡ 4096 * (chain_end first p.records - first) = ap (λ (n : ℕ). 4096 * (n - first_block t.active)) ends ∙ ap (λ (s : ℕ). 4096 * (chain_end first p.records - first_block s)) trail.active in
      let rest : rest_of new t ≡ drop (4096 * (chain_end first p.records - first)) (body_of new p.header.segment) = ap (λ (n : ℕ). drop n (body_of new t.active)) count ∙ ap (λ (s : ℕ). drop (4096 * (chain_end first p.records - first)) (body_of new s)) trail.active in
      let last : trail_link t ≡ last_link (header_link p.header) p.records = trail.last ∙ has.last in
      subst (λ (b : List ℕ). F b (chain_end first p.records) p.header.seq (last_link (header_link p.header) p.records)) rest
      (subst (λ (e : ℕ). F (rest_of new t) e p.header.seq (last_link (header_link p.header) p.records)) ends
      (subst (λ (s : ℕ). F (rest_of new t) t.end.0 s (last_link (header_link p.header) p.records)) trail.seq
      (subst (λ (l : Link). F (rest_of new t) t.end.0 t.seq l) last more)))

  same_bytes : (let p = trail.newest in let first = first_block p.header.segment in let n = 4096 * (chain_end first p.records - first) in
      take n (body_of new p.header.segment) ≡ take n (body_of old p.header.segment))
  same_bytes =
      let p = trail.newest in
      let first = first_block p.header.segment in
      let has = trail.is_open.chain in
      let ends : t.end.0 ≡ chain_end first p.records = ap (λ e. e.0) trail.ends ∙ has.ends in
      let count : 4096 * (t.end.0 - first_block t.active) ≡ 4096 * (chain_end first p.records - first) = ap (λ (n : ℕ). 4096 * (n - first_block t.active)) ends ∙ ap (λ (s : ℕ). 4096 * (chain_end first p.records - first_block s)) trail.active in
      subst (λ (n : ℕ). take n (body_of new p.header.segment) ≡ take n (body_of old p.header.segment)) count
      (subst (λ (s : ℕ). take (4096 * (t.end.0 - first_block t.active)) (body_of new s) ≡ take (4096 * (t.end.0 - first_block t.active)) (body_of old s)) trail.active (keeps old new t trail torn).records)

  -- a row behind the trail is one behind the header, with the records of the trail before it
  whole_row : (row : List Record) → StandInRow (rest_of new t) t.end.0 t.seq (trail_link t) row
      → (let h = trail.newest.header in StandInRow (body_of new h.segment) (first_block h.segment) h.seq (header_link h) (trail.newest.records ++ row))
  whole_row row more =
      let p = trail.newest in
      let first = first_block p.header.segment in
      longer_row (body_of old p.header.segment) (body_of new p.header.segment) first p.header.seq (header_link p.header) p.records row trail.is_open.chain.chain same_bytes
      (behind_last (λ b e s l. StandInRow b e s l row) more)

  whole_chain : (news : List Record) → IsChain (rest_of new t) t.end.0 t.seq (trail_link t) news
      → (let h = trail.newest.header in IsChain (body_of new h.segment) (first_block h.segment) h.seq (header_link h) (trail.newest.records ++ news))
  whole_chain news more =
      let p = trail.newest in
      let first = first_block p.header.segment in
      grown_chain (body_of old p.header.segment) (body_of new p.header.segment) first p.header.seq (header_link p.header) p.records news trail.is_open.chain.chain same_bytes
      (behind_last (λ b e s l. IsChain b e s l news) more)

-- ---- a clear image

-- the records in a row behind its newest header are known
abbrev pub KnowsRows : Log → List ℕ → Type 0
KnowsRows log image = (h : Header) (row : List Record) → IsNewest image log.trail.segments h → StandInRow (body_of image h.segment) (first_block h.segment) h.seq (header_link h) row → All (IsKnown log) row

pub clear_behind : (log : Log) (image : List ℕ) → IsLog log → IsBehind log image → KnowsRows log image → HasPrefix log image
clear_behind log image is after rows =
    let t = log.trail in
    let p = is.trail.newest in
    let known : (row : List Record) → StandInRow (rest_of image t) t.end.0 t.seq (trail_link t) row → All (IsKnown log) row = λ row stand.
    All-behind (IsKnown log) p.records row
    (rows p.header (p.records ++ row) (newest_still log.anchor image t is.trail after) (whole_row log.anchor image t is.trail after row stand)) in
    let among : (x : Record) → IsKnown log x → t.commit.0 < x.commit.0 → Contains log.queued x = λ x own later. elim own [
      | inl found ↦ absurd (omega (arith, is.found x found, later))
      | inr made ↦ is.made x made later
    ] in
    let chain = clear_chain (IsKnown log) (rest_of image t) t.end.0 t.seq (trail_link t) log.queued is.linked among known in
    let made = extended log.anchor image t is.trail after (take chain.0 log.queued) chain.2 (is.tails chain.0 chain.1) in
    up_to_record (record { count = chain.0; within = chain.1; trail = made.0; is_trail = made.1; extends = made.2 })

pub anchor_is_clear : (log : Log) → IsLog log → IsClear log log.anchor
anchor_is_clear log is = record {
  headers = is.headers;
  records = λ h row newest stand.
      let p = is.trail.newest in
      let same : h ≡ p.header = same_newest log.anchor log.trail.segments h p.header newest is.trail.is_open.newest in
      row_in_chain (IsKnown log) (body_of log.anchor p.header.segment) (first_block p.header.segment) p.header.seq (header_link p.header) p.records row is.trail.is_open.chain.chain
      (subst (λ (k : Header). StandInRow (body_of log.anchor k.segment) (first_block k.segment) k.seq (header_link k) row) same stand) is.records;
}

-- ---- the past goes on

-- the trail of an image as it is
own_tail : (image : List ℕ) (t : Trail) (trail : IsTrail image t) → HasTail image t trail []
own_tail image t trail =
    let joined = trail.are_closed.joined in
    let tail : t.tail.seq ≡ trail.newest.last.tail.seq = ap (λ (l : Link). l.tail.seq) trail.last in
    let seq : t.seq ≡ trail.newest.header.seq = trail.seq in
    record {
      passed = [];
      closed = trail.closed;
      cut = refl;
      joined = omega arith;
      records = t.records;
      from = subst (λ (rs : List Record). AreFrom t.tail.place.0 (trail.closed ++ grown_part trail.newest [] ∷ []) rs) (append-nil t.records) (grows_from t.tail.place.0 trail.closed trail.newest t.records [] trail.records);
      gone = [];
      left = append-nil t.records;
      none = λ all. refl;
    }

pub own_tails : (image : List ℕ) (t : Trail) (trail : IsTrail image t) (j : ℕ) → j ≤ 0 → HasTail image t trail (take j [])
own_tails image t trail zero le = own_tail image t trail
own_tails image t trail (suc j) le = absurd (omega arith)

-- the tail never goes back
pub later_tail : (log : Log) → IsLog log → (u : Trail) → trail_link u ≡ last_link (trail_link log.trail) log.queued → log.trail.tail.seq ≤ u.tail.seq
later_tail log is u last =
    let t = log.trail in
    let all : take (length log.queued) log.queued ≡ log.queued = take_all (length log.queued) log.queued (omega arith) in
    let has : HasTail log.anchor t is.trail log.queued = subst (HasTail log.anchor t is.trail) all (is.tails (length log.queued) (omega arith)) in
    let tail : t.tail.seq ≡ is.trail.newest.last.tail.seq = ap (λ (l : Link). l.tail.seq) is.trail.last in
    let now : u.tail.seq ≡ (last_link (trail_link t) log.queued).tail.seq = ap (λ (l : Link). l.tail.seq) last in
    let seq : t.seq ≡ is.trail.newest.header.seq = is.trail.seq in
    let joined = is.trail.are_closed.joined in
    let after = has.joined in
    omega (arith, ap length has.cut, length-append has.passed has.closed)

-- What is queued stands behind the trail, and is stable.
pub synced : (log : Log) (image : List ℕ) → IsLog log → log.next ≡ None → IsBehind log image → IsChain (rest_of image log.trail) log.trail.end.0 log.trail.seq (trail_link log.trail) log.queued
    → (log.queued ≡ [] → ⊥) → (new : Log) × IsSynced log new × (new.anchor ≡ image) × IsLog new
synced log image is steady after chain some =
    let t = log.trail in
    let p = is.trail.newest in
    let all : take (length log.queued) log.queued ≡ log.queued = take_all (length log.queued) log.queued (omega arith) in
    let tail : HasTail log.anchor t is.trail log.queued = subst (HasTail log.anchor t is.trail) all (is.tails (length log.queued) (omega arith)) in
    let made = extended log.anchor image t is.trail after log.queued chain tail in
    let u = made.0 in
    let u_is = made.1 in
    let ext = made.2 in
    let new : Log = record log { anchor = image; trail = u; queued = [] } in
    let commit : u.commit.0 ≡ (last_link (trail_link t) log.queued).commit.0 = ap (λ (l : Link). l.commit.0) ext.last in
    let rise : t.commit.0 ≤ (last_link (trail_link t) log.queued).commit.0 = linked_rise t.end.0 t.seq (trail_link t) log.queued is.linked in
    let known_still : (k : Header) → IsKnownHeader new k → IsKnownHeader log k = λ k own. elim own [
      | inl found ↦ inl (subst (λ (n : ℕ). HasHeader log.opened n k) ext.segments found)
      | inr here ↦ inr here
    ] in
    let later : t.tail.seq ≤ u.tail.seq = later_tail log is u ext.last in
    let known : All (IsKnown log) (p.records ++ log.queued) = All-append (IsKnown log) p.records log.queued is.records (All-weaker (Contains log.made) (IsKnown log) (λ x own. inr own) log.queued is.queued) in
    let q = u_is.newest in
    let newest : IsNewest image t.segments q.header = subst (λ (n : ℕ). IsNewest image n q.header) ext.segments u_is.is_open.newest in
    let header : q.header ≡ p.header = same_newest image t.segments q.header p.header newest (newest_still log.anchor image t is.trail after) in
    let row : StandInRow (body_of image p.header.segment) (first_block p.header.segment) p.header.seq (header_link p.header) q.records = subst (λ (k : Header). StandInRow (body_of image k.segment) (first_block k.segment) k.seq (header_link k) q.records) header
    (row_of_chain (body_of image q.header.segment) (first_block q.header.segment) q.header.seq (header_link q.header) q.records u_is.is_open.chain.chain) in (
      new,
      record { opened = refl; headers = refl; made = refl; trail = ext; stand = made.3; queued = refl; next = refl; still = λ none. absurd (some none) },
      refl,
      record {
        trail = u_is;
        linked = tt;
        tails = own_tails image u u_is;
        found = λ x on. omega (arith, is.found x on, rise, commit);
        made = λ x own later. absurd (omega (arith, commit, later, linked_upto t.end.0 t.seq (trail_link t) log.queued x is.linked (is.made x own (omega (arith, commit, rise, later)))));
        headers = λ h has. elim (is.headers h (had log.anchor image t is.trail after h (subst (λ (n : ℕ). HasHeader image n h) ext.segments has))) [
          | inl found ↦ inl (subst (λ (n : ℕ). HasHeader log.opened n h) (sym ext.segments) found)
          | inr own ↦ inr own
        ];
        records = row_in_chain (IsKnown log) (body_of image p.header.segment) (first_block p.header.segment) p.header.seq (header_link p.header) (p.records ++ log.queued) q.records (whole_chain log.anchor image t is.trail after log.queued chain) row known;
        queued = All-nil (Contains log.made);
        numbers = λ k own. elim (is.numbers k (known_still k own)) [
          | inl older ↦ inl (record {
            upto = omega (arith, older.upto, ext.seq);
            behind = λ s of. older.behind s (of_before log.anchor image t is.trail after u s k.seq ext.segments ext.seq later of);
          })
          | inr next ↦ inr next
        ];
        known = record { list = is.known.list; headers = is.known.headers; all = λ k own. is.known.all k (known_still k own) };
        next = subst (λ (o : Option Header). IfSome o (IsNextHeader new)) (sym steady) tt;
      },
    )

-- ---- a past begins

-- no record of a segment has a greater number than its last link
chain_upto : (bytes : List ℕ) (place seq : ℕ) (link : Link) (rs : List Record) → IsChain bytes place seq link rs → link.commit.0 ≤ (last_link link rs).commit.0
chain_upto bytes place seq link [] chain = omega arith
chain_upto bytes place seq link (r ∷ rs) chain =
    omega (arith, chain.0.commit, chain_upto (drop (4096 * blocks r.body) bytes) (place + blocks r.body) seq (link_of r) rs chain.1)

records_upto : (bytes : List ℕ) (place seq : ℕ) (link : Link) (rs : List Record) → IsChain bytes place seq link rs → All (λ r. r.commit.0 ≤ (last_link link rs).commit.0) rs
records_upto bytes place seq link [] chain = All-nil (λ (r : Record). r.commit.0 ≤ link.commit.0)
records_upto bytes place seq link (r ∷ rs) chain =
    All-cons (λ (x : Record). x.commit.0 ≤ (last_link (link_of r) rs).commit.0) r rs
    (chain_upto (drop (4096 * blocks r.body) bytes) (place + blocks r.body) seq (link_of r) rs chain.1)
    (records_upto (drop (4096 * blocks r.body) bytes) (place + blocks r.body) seq (link_of r) rs chain.1)

pub record Upto (p : Part) : Type 0 where
  pub header : p.header.commit.0 ≤ p.last.commit.0
  pub records : All (λ r. r.commit.0 ≤ p.last.commit.0) p.records

part_upto : (image : List ℕ) (p : Part) → HasChain image p → Upto p
part_upto image p has =
    let h = p.header in
    record {
      header = subst (λ (l : Link). h.commit.0 ≤ l.commit.0) (sym has.last) (chain_upto (body_of image h.segment) (first_block h.segment) h.seq (header_link h) p.records has.chain);
      records = subst (λ (l : Link). All (λ r. r.commit.0 ≤ l.commit.0) p.records) (sym has.last) (records_upto (body_of image h.segment) (first_block h.segment) h.seq (header_link h) p.records has.chain);
    }

-- nor one of the segments before it
on_upto : (image : List ℕ) (segments seq : ℕ) (link : Link) (ps : List Part) (p : Part) → AreParts image segments seq ps → HasChain image p → FollowOn link (ps ++ p ∷ [])
    → (link.commit.0 ≤ p.last.commit.0) × All (λ r. r.commit.0 ≤ p.last.commit.0) (records_in (ps ++ p ∷ []))
on_upto image segments seq link [] p parts has on =
    let here = part_upto image p has in (
      omega (arith, here.header, on.0.commit),
      subst (All (λ (r : Record). r.commit.0 ≤ p.last.commit.0)) (sym (append-nil p.records)) here.records,
    )
on_upto image segments seq link (q ∷ qs) p parts has on =
    let here = part_upto image q parts.1 in
    let rest = on_upto image segments (seq + 1) q.last qs p parts.2 has on.1 in (
      omega (arith, here.header, on.0.commit, rest.0),
      All-append (λ (r : Record). r.commit.0 ≤ p.last.commit.0) q.records (records_in (qs ++ p ∷ []))
          (All-weaker (λ (r : Record). r.commit.0 ≤ q.last.commit.0) (λ (r : Record). r.commit.0 ≤ p.last.commit.0) (λ r le. omega (arith, le, rest.0)) q.records here.records) rest.1,
    )

linked_upto_last : (image : List ℕ) (segments seq : ℕ) (ps : List Part) (p : Part) → AreParts image segments seq ps → HasChain image p → AreLinked (ps ++ p ∷ []) → All (λ r. r.commit.0 ≤ p.last.commit.0) (records_in (ps ++ p ∷ []))
linked_upto_last image segments seq [] p parts has linked =
    subst (All (λ (r : Record). r.commit.0 ≤ p.last.commit.0)) (sym (append-nil p.records)) (part_upto image p has).records
linked_upto_last image segments seq (q ∷ qs) p parts has linked =
    let here = part_upto image q parts.1 in
    let rest = on_upto image segments (seq + 1) q.last qs p parts.2 has linked in
    All-append (λ (r : Record). r.commit.0 ≤ p.last.commit.0) q.records (records_in (qs ++ p ∷ []))
    (All-weaker (λ (r : Record). r.commit.0 ≤ q.last.commit.0) (λ (r : Record). r.commit.0 ≤ p.last.commit.0) (λ r le. omega (arith, le, rest.0)) q.records here.records) rest.1

-- the records of a trail have no greater numbers than it
found_upto : (image : List ℕ) (t : Trail) → IsTrail image t → (r : Record) → IsOnTrail image r → r.commit.0 ≤ t.commit.0
found_upto image t trail r on =
    let u = on.is_trail in
    let same : on.trail ≡ t = one_trail image on.trail t u trail in
    let upto = linked_upto_last image on.trail.segments u.newest.last.tail.seq u.closed u.newest u.are_closed.parts u.is_open.chain u.linked in
    let here : r.commit.0 ≤ u.newest.last.commit.0 = All-contains (λ (x : Record). x.commit.0 ≤ u.newest.last.commit.0) (records_in (u.closed ++ u.newest ∷ [])) r upto on.among in
    let last : on.trail.commit.0 ≡ u.newest.last.commit.0 = ap (λ (l : Link). l.commit.0) u.last in
    omega (arith, ap (λ (x : Trail). x.commit.0) same, here, last)

-- the records of the open segment are on the trail
on_trail : (image : List ℕ) (t : Trail) (trail : IsTrail image t) → All (IsOnTrail image) trail.newest.records
on_trail image t trail =
    let p = trail.newest in
    All-weaker (Contains p.records) (IsOnTrail image) (λ r own. record {
      trail = t;
      is_trail = trail;
      among = subst (λ (rs : List Record). Contains rs r) (sym (flat_map-append (λ (q : Part). q.records) trail.closed (p ∷ [])))
          (Contains-append_right (records_in trail.closed) (p.records ++ []) r (Contains-append_left p.records [] r own));
    }) p.records (All-contains_itself p.records)

-- a list of headers has each that stands
headers_all : (image : List ℕ) (from to : ℕ) (hs : List Header) → AreHeaders image from to hs → (k : Header) → from ≤ k.segment → k.segment < to → StandsIn image k → Contains hs k
headers_all image from to [] all k low high stands = absurd (all k low high stands)
headers_all image from to (h ∷ hs) all k low high stands =
    elim (cases_lt k.segment h.segment) [
      | inl lt ↦ absurd (all.3 k low lt stands)
      | inr ge ↦ elim (cases_lt h.segment k.segment) [
        | inl gt ↦ Contains-append_right (h ∷ []) hs k (headers_all image (h.segment + 1) to hs all.4 k (omega arith) high stands)
        | inr le ↦ (
            let at : k.segment ≡ h.segment = omega arith in
            let same : h ≡ k = same_header (block_of image (header_block h.segment)) h k all.2 (subst (λ (s : ℕ). SpellsHeader (block_of image (header_block s)) k) at stands) in
            subst (Contains (h ∷ hs)) same (Contains-append_left (h ∷ []) hs h (Contains-push [] h))
            )
      ]
    ]

are_headers : (image : List ℕ) (from to : ℕ) (hs : List Header) → AreHeaders image from to hs → All IsHeader hs
are_headers image from to [] all = All-nil IsHeader
are_headers image from to (h ∷ hs) all = All-cons IsHeader h hs all.2.header (are_headers image (h.segment + 1) to hs all.4)

pub opened_is : (image : List ℕ) (t : Trail) → IsTrail image t → IsLog (opened image t)
opened_is image t trail = record {
  trail = trail;
  linked = tt;
  tails = own_tails image t trail;
  found = found_upto image t trail;
  made = λ x own later. absurd (omega (arith, own.1));
  headers = λ h has. inl has;
  records = All-weaker (IsOnTrail image) (IsKnown (opened image t)) (λ r on. inl on) trail.newest.records (on_trail image t trail);
  queued = All-nil (Contains []);
  numbers = λ k own. elim own [
    | inl has ↦ inl (record {
      upto = omega (arith, trail.is_open.newest.greatest k has, trail.seq);
      behind = λ s of. omega (arith, of.numbered.least k has refl, of.here);
    })
    | inr made ↦ absurd (omega (arith, made.1))
  ];
  known = record {
    list = t.headers;
    headers = are_headers image 0 t.segments t.headers trail.headers;
    all = λ k own. elim own [
      | inl has ↦ headers_all image 0 t.segments t.headers trail.headers k (omega arith) has.within has.stands
      | inr made ↦ absurd (omega (arith, made.1))
    ];
  };
  next = tt;
}

-- ---- one more record waits

pub linked_push : (place seq : ℕ) (link : Link) (rs : List Record) (r : Record) → Linked place seq link rs → IsNext (chain_end place rs) seq (last_link link rs) r → Linked place seq link (rs ++ r ∷ [])
linked_push place seq link [] r linked next = (next, tt)
linked_push place seq link (x ∷ rs) r linked next = (linked.0, linked_push (place + blocks x.body) seq (link_of x) rs r linked.1 next)

grown_more : (p : Part) (rs : List Record) (r : Record) → grown_part (grown_part p rs) (r ∷ []) ≡ grown_part p (rs ++ r ∷ [])
grown_more p rs r =
    let made : List Record → ℕ → Link → Part = λ records end last. record { header = p.header; records = records; end = record { 0 = end }; last = last } in
    ap (λ (xs : List Record). made xs (chain_end (chain_end p.end.0 rs) (r ∷ [])) (last_link (last_link p.last rs) (r ∷ []))) (append_assoc p.records rs (r ∷ []))
    ∙ ap (λ (e : ℕ). made (p.records ++ (rs ++ r ∷ [])) e (last_link (last_link p.last rs) (r ∷ []))) (sym (chain_end-append p.end.0 rs (r ∷ [])))
    ∙ ap (λ (l : Link). made (p.records ++ (rs ++ r ∷ [])) (chain_end p.end.0 (rs ++ r ∷ [])) l) (sym (last_link-append p.last rs (r ∷ [])))

-- records that name a tail end with it
pub last_tail : (tail : Tail) (link : Link) (rs : List Record) → link.tail ≡ tail → All (λ r. r.tail ≡ tail) rs → (last_link link rs).tail ≡ tail
last_tail tail link [] is all = is
last_tail tail link (r ∷ rs) is all = last_tail tail (link_of r) rs (All-head (λ x. x.tail ≡ tail) r rs all) (All-tail (λ x. x.tail ≡ tail) r rs all)

tail_at : ℕ → ℕ → Tail
tail_at seq place = record { seq = seq; place = record { 0 = place } }

tail_cases : (a b : Tail) → (a ≡ b) ⊎ (a ≢ b)
unfolding tail_at
tail_cases a b = elim (eqb_tells a.seq b.seq) [
  | inl seq ↦ elim (eqb_tells a.place.0 b.place.0) [
    | inl place ↦ inl (ap (λ (s : ℕ). tail_at s a.place.0) seq.1 ∙ ap (λ (p : ℕ). tail_at b.seq p) place.1)
    | inr other ↦ inr (λ same. other.1 (ap (λ (t : Tail). t.place.0) same))
  ]
  | inr other ↦ inr (λ same. other.1 (ap (λ (t : Tail). t.seq) same))
]

-- where a record names another tail than the last one, not all name that of the trail
moves : (t : Trail) (rs : List Record) (r : Record) (gone : List Record) → r.tail ≢ (last_link (trail_link t) rs).tail → NoneGone t (rs ++ r ∷ []) gone
moves t rs r gone other all =
    let own : r.tail ≡ t.tail = All-head (λ x. x.tail ≡ t.tail) r [] (All-behind (λ x. x.tail ≡ t.tail) rs (r ∷ []) all) in
    let last = last_tail t.tail (trail_link t) rs refl (All-front (λ x. x.tail ≡ t.tail) rs (r ∷ []) all) in
    absurd (other (own ∙ sym last))

-- where the tail stays
tail_kept : (anchor : List ℕ) (t : Trail) (trail : IsTrail anchor t) (rs : List Record) (r : Record) → r.tail ≡ (last_link (trail_link t) rs).tail → HasTail anchor t trail rs → HasTail anchor t trail (rs ++ r ∷ [])
tail_kept anchor t trail rs r keeps_tail has =
    let after : (last_link (trail_link t) (rs ++ r ∷ [])).tail ≡ (last_link (trail_link t) rs).tail = ap (λ (l : Link). l.tail) (last_link-append (trail_link t) rs (r ∷ [])) ∙ keeps_tail in
    let seq : (last_link (trail_link t) (rs ++ r ∷ [])).tail.seq ≡ (last_link (trail_link t) rs).tail.seq = ap (λ (x : Tail). x.seq) after in
    let joined = has.joined in
    record {
      passed = has.passed;
      closed = has.closed;
      cut = has.cut;
      joined = omega arith;
      records = has.records ++ r ∷ [];
      from = subst (λ (x : Tail). AreFrom x.place.0 (has.closed ++ grown_part trail.newest (rs ++ r ∷ []) ∷ []) (has.records ++ r ∷ [])) (sym after)
          (subst (λ (p : Part). AreFrom (last_link (trail_link t) rs).tail.place.0 (has.closed ++ p ∷ []) (has.records ++ r ∷ [])) (grown_more trail.newest rs r)
          (grows_from (last_link (trail_link t) rs).tail.place.0 has.closed (grown_part trail.newest rs) has.records (r ∷ []) has.from));
      gone = has.gone;
      left = sym (append_assoc t.records rs (r ∷ [])) ∙ ap (λ (xs : List Record). xs ++ r ∷ []) has.left ∙ append_assoc has.gone has.records (r ∷ []);
      none = λ all. has.none (All-front (λ x. x.tail ≡ t.tail) rs (r ∷ []) all);
    }

-- where the tail moves to the place of the record that names it
tail_at_end : (anchor : List ℕ) (t : Trail) (trail : IsTrail anchor t) (rs : List Record) (r : Record) → r.tail ≢ (last_link (trail_link t) rs).tail → r.tail.seq ≡ t.seq → r.tail.place.0 ≡ chain_end t.end.0 rs → HasTail anchor t trail (rs ++ r ∷ [])
tail_at_end anchor t trail rs r other seq place =
    let p = trail.newest in
    let after : (last_link (trail_link t) (rs ++ r ∷ [])).tail ≡ r.tail = ap (λ (l : Link). l.tail) (last_link-append (trail_link t) rs (r ∷ [])) in
    let number : (last_link (trail_link t) (rs ++ r ∷ [])).tail.seq ≡ r.tail.seq = ap (λ (x : Tail). x.seq) after in
    let at : (last_link (trail_link t) (rs ++ r ∷ [])).tail.place.0 ≡ r.tail.place.0 = ap (λ (x : Tail). x.place.0) after in
    let ends : t.end.0 ≡ chain_end (first_block p.header.segment) p.records = ap (λ e. e.0) trail.ends ∙ trail.is_open.chain.ends in
    record {
      passed = trail.closed;
      closed = [];
      cut = sym (append-nil trail.closed);
      joined = omega arith;
      records = r ∷ [];
      from = (
        p.records ++ rs,
        r ∷ [],
        sym (append_assoc p.records rs (r ∷ [])),
        at ∙ place ∙ ap (λ (e : ℕ). chain_end e rs) ends ∙ sym (chain_end-append (first_block p.header.segment) p.records rs),
        refl,
      );
      gone = t.records ++ rs;
      left = sym (append_assoc t.records rs (r ∷ []));
      none = moves t rs r (t.records ++ rs) other;
    }

-- ---- the place of a record

-- records that name their places and their segment
Standing : ℕ → ℕ → List Record → Type 0
Standing place seq [] = Unit {0}
Standing place seq (r ∷ rs) = (r.seq ≡ seq) × (r.place.0 ≡ place) × Standing (place + blocks r.body) seq rs

standing_chain : (bytes : List ℕ) (place seq : ℕ) (link : Link) (rs : List Record) → IsChain bytes place seq link rs → Standing place seq rs
unfolding Standing
standing_chain bytes place seq link [] chain = tt
standing_chain bytes place seq link (r ∷ rs) chain =
    (chain.0.same_segment, chain.0.in_place, standing_chain (drop (4096 * blocks r.body) bytes) (place + blocks r.body) seq (link_of r) rs chain.1)

standing_linked : (place seq : ℕ) (link : Link) (rs : List Record) → Linked place seq link rs → Standing place seq rs
unfolding Standing
standing_linked place seq link [] linked = tt
standing_linked place seq link (r ∷ rs) linked =
    (linked.0.same_segment, linked.0.in_place, standing_linked (place + blocks r.body) seq (link_of r) rs linked.1)

standing_more : (place seq : ℕ) (xs ys : List Record) → Standing place seq xs → Standing (chain_end place xs) seq ys → Standing place seq (xs ++ ys)
unfolding Standing
standing_more place seq [] ys one two = two
standing_more place seq (x ∷ xs) ys one two = (one.0, one.1, standing_more (place + blocks x.body) seq xs ys one.2 two)

standing_behind : (place seq : ℕ) (xs ys : List Record) → Standing place seq (xs ++ ys) → Standing (chain_end place xs) seq ys
unfolding Standing
standing_behind place seq [] ys both = both
standing_behind place seq (x ∷ xs) ys both = standing_behind (place + blocks x.body) seq xs ys both.2

-- where such a record stands, it and those behind it begin at its place
pub record StandsAmong (place seq : ℕ) (rs : List Record) (x : Record) : Type 0 where
  pub before : List Record
  pub after : List Record
  pub cut : rs ≡ before ++ after
  pub at : x.place.0 ≡ chain_end place before
  pub number : x.seq ≡ seq

among_standing : (place seq : ℕ) (rs : List Record) (x : Record) → Standing place seq rs → Contains rs x → StandsAmong place seq rs x
unfolding Standing
among_standing place seq [] x standing has = absurd (omega (arith, has.1))
among_standing place seq (r ∷ rs) x standing has =
    elim (in_cons r rs x has) [
      | inl same ↦ record {
        before = [];
        after = r ∷ rs;
        cut = refl;
        at = ap (λ (y : Record). y.place.0) (sym same) ∙ standing.1;
        number = ap (λ (y : Record). y.seq) (sym same) ∙ standing.0;
      }
      | inr rest ↦ (let found = among_standing (place + blocks r.body) seq rs x standing.2 rest in record {
        before = r ∷ found.before;
        after = found.after;
        cut = ap (λ (ys : List Record). r ∷ ys) found.cut;
        at = found.at;
        number = found.number;
      })
    ]

-- the segments from a record's on, and the records from it on
pub record Moved (closed : List Part) (last : Part) (records : List Record) (x : Record) : Type 0 where
  pub passed : List Part
  pub left : List Part
  pub cut : closed ≡ passed ++ left
  pub joined : x.seq + length left ≡ last.header.seq
  pub behind : List Record
  pub from : AreFrom x.place.0 (left ++ last ∷ []) behind
  pub gone : List Record
  pub parts : records ≡ gone ++ behind

-- such a record in the first segment
moved_here : (q : Part) (qs : List Part) (place : ℕ) (records : List Record) (x : Record) → Standing (first_block q.header.segment) q.header.seq q.records
    → (from : AreFrom place (q ∷ qs) records) → Contains from.1 x
    → (x.seq ≡ q.header.seq) × ((gone : List Record) × (behind : List Record) × AreFrom x.place.0 (q ∷ qs) behind × (records ≡ gone ++ behind))
moved_here q qs place records x standing from has =
    let first = first_block q.header.segment in
    let rest : Standing (chain_end first from.0) q.header.seq from.1 = standing_behind first q.header.seq from.0 from.1 (subst (Standing first q.header.seq) from.2 standing) in
    let found = among_standing (chain_end first from.0) q.header.seq from.1 x rest has in
    let all = records_in qs in (
      found.number,
      (
        found.before,
        found.after ++ all,
        (
          from.0 ++ found.before,
          found.after,
          from.2 ∙ ap (λ (ys : List Record). from.0 ++ ys) found.cut ∙ sym (append_assoc from.0 found.before found.after),
          found.at ∙ sym (chain_end-append first from.0 found.before),
          refl,
        ),
        from.4 ∙ ap (λ (ys : List Record). ys ++ all) found.cut ∙ append_assoc found.before found.after all,
      ),
    )

start_from : (qs : List Part) (last : Part) → (place : ℕ) × AreFrom place (qs ++ last ∷ []) (records_in (qs ++ last ∷ []))
start_from [] last = (first_block last.header.segment, ([], last.records, refl, refl, refl))
start_from (q ∷ qs) last = (first_block q.header.segment, ([], q.records, refl, refl, refl))

moved : (image : List ℕ) (segments n : ℕ) (closed : List Part) (last : Part) (place : ℕ) (records : List Record) (x : Record) → AreParts image segments n closed
    → Standing (first_block last.header.segment) last.header.seq last.records → n + length closed ≡ last.header.seq
    → AreFrom place (closed ++ last ∷ []) records → Contains records x → Moved closed last records x
moved image segments n [] last place records x parts standing joined from has =
    let here : Contains from.1 x = subst (λ (ys : List Record). Contains ys x) (from.4 ∙ append-nil from.1) has in
    let found = moved_here last [] place records x standing from here in
    let number = found.0 in
    record {
      passed = [];
      left = [];
      cut = refl;
      joined = omega arith;
      behind = found.1.1;
      from = found.1.2;
      gone = found.1.0;
      parts = found.1.3;
    }
moved image segments n (q ∷ qs) last place records x parts standing joined from has =
    let all = records_in (qs ++ last ∷ []) in
    elim (Contains-append_cases from.1 all x (subst (λ (ys : List Record). Contains ys x) from.4 has)) [
      | inl here ↦ (
          let q_standing = standing_chain (body_of image q.header.segment) (first_block q.header.segment) q.header.seq (header_link q.header) q.records parts.1.chain in
          let found = moved_here q (qs ++ last ∷ []) place records x q_standing from here in
          let number = found.0 in
          let own = parts.0.number in
          record {
            passed = [];
            left = q ∷ qs;
            cut = refl;
            joined = omega arith;
            behind = found.1.1;
            from = found.1.2;
            gone = found.1.0;
            parts = found.1.3;
          }
          )
      | inr later ↦ (
          let start = start_from qs last in
          let found = moved image segments (n + 1) qs last start.0 all x parts.2 standing (omega arith) start.1 later in
          record {
            passed = q ∷ found.passed;
            left = found.left;
            cut = ap (λ (ps : List Part). q ∷ ps) found.cut;
            joined = found.joined;
            behind = found.behind;
            from = found.from;
            gone = from.1 ++ found.gone;
            parts = from.4 ∙ ap (λ (ys : List Record). from.1 ++ ys) found.parts ∙ sym (append_assoc from.1 found.gone found.behind);
          }
          )
    ]

-- where the tail moves to the place of a record on the trail or in the queue
tail_at_record : (anchor : List ℕ) (t : Trail) (trail : IsTrail anchor t) (rs : List Record) (r x : Record) → r.tail ≢ (last_link (trail_link t) rs).tail → Linked t.end.0 t.seq (trail_link t) rs → Contains (t.records ++ rs) x → r.tail.seq ≡ x.seq → r.tail.place.0 ≡ x.place.0 → HasTail anchor t trail (rs ++ r ∷ [])
tail_at_record anchor t trail rs r x other linked has seq place =
    let p = trail.newest in
    let first = first_block p.header.segment in
    let chain = trail.is_open.chain in
    let ends : t.end.0 ≡ chain_end first p.records = ap (λ e. e.0) trail.ends ∙ chain.ends in
    let more : Standing (chain_end first p.records) p.header.seq rs = subst (λ (n : ℕ). Standing n p.header.seq rs) ends (subst (λ (s : ℕ). Standing t.end.0 s rs) trail.seq (standing_linked t.end.0 t.seq (trail_link t) rs linked)) in
    let standing : Standing first p.header.seq (p.records ++ rs) = standing_more first p.header.seq p.records rs (standing_chain (body_of anchor p.header.segment) first p.header.seq (header_link p.header) p.records chain.chain) more in
    let from = grows_from t.tail.place.0 trail.closed p t.records rs trail.records in
    let to = moved anchor t.segments p.last.tail.seq trail.closed (grown_part p rs) t.tail.place.0 (t.records ++ rs) x trail.are_closed.parts standing trail.are_closed.joined from has in
    let after : (last_link (trail_link t) (rs ++ r ∷ [])).tail ≡ r.tail = ap (λ (l : Link). l.tail) (last_link-append (trail_link t) rs (r ∷ [])) in
    let number : (last_link (trail_link t) (rs ++ r ∷ [])).tail.seq ≡ r.tail.seq = ap (λ (y : Tail). y.seq) after in
    let at : (last_link (trail_link t) (rs ++ r ∷ [])).tail.place.0 ≡ x.place.0 = ap (λ (y : Tail). y.place.0) after ∙ place in
    let joined = to.joined in
    let own = trail.seq in
    record {
      passed = to.passed;
      closed = to.left;
      cut = to.cut;
      joined = omega arith;
      records = to.behind ++ r ∷ [];
      from = subst (λ (n : ℕ). AreFrom n (to.left ++ grown_part p (rs ++ r ∷ []) ∷ []) (to.behind ++ r ∷ [])) (sym at)
          (subst (λ (q : Part). AreFrom x.place.0 (to.left ++ q ∷ []) (to.behind ++ r ∷ [])) (grown_more p rs r) (grows_from x.place.0 to.left (grown_part p rs) to.behind (r ∷ []) to.from));
      gone = to.gone;
      left = sym (append_assoc t.records rs (r ∷ [])) ∙ ap (λ (ys : List Record). ys ++ r ∷ []) to.parts ∙ append_assoc to.gone to.behind (r ∷ []);
      none = moves t rs r to.gone other;
    }

kept_tail : (log : Log) (r : Record) (is : IsLog log) → r.tail ≡ (last_link (trail_link log.trail) log.queued).tail → HasTail log.anchor log.trail is.trail (log.queued ++ r ∷ [])
kept_tail log r is same =
    let news = log.queued in
    let all : take (length news) news ≡ news = take_all (length news) news (omega arith) in
    tail_kept log.anchor log.trail is.trail news r same (subst (HasTail log.anchor log.trail is.trail) all (is.tails (length news) (omega arith)))

moved_tail : (log : Log) (r : Record) (is : IsLog log) → r.tail ≢ (last_link (trail_link log.trail) log.queued).tail → NamesTail log r.tail → HasTail log.anchor log.trail is.trail (log.queued ++ r ∷ [])
moved_tail log r is other (stays same) = absurd (other same)
moved_tail log r is other (at_record x has seq place) = tail_at_record log.anchor log.trail is.trail log.queued r x other is.linked has seq place
moved_tail log r is other (at_end seq place) = tail_at_end log.anchor log.trail is.trail log.queued r other seq place

next_tail : (log : Log) (r : Record) (is : IsLog log) → NamesTail log r.tail → HasTail log.anchor log.trail is.trail (log.queued ++ r ∷ [])
next_tail log r is names = elim (tail_cases r.tail (last_link (trail_link log.trail) log.queued).tail) [
  | inl same ↦ kept_tail log r is same
  | inr other ↦ moved_tail log r is other names
]

pub pushed_is : (log : Log) (r : Record) → IsLog log → IsNext (chain_end log.trail.end.0 log.queued) log.trail.seq (last_link (trail_link log.trail) log.queued) r → NamesTail log r.tail → log.next ≡ None → IsLog (pushed log r)
pushed_is log r is next names steady =
    let t = log.trail in
    let news = log.queued in
    let tail : HasTail log.anchor t is.trail (news ++ r ∷ []) = next_tail log r is names in
    record {
      trail = is.trail;
      linked = linked_push t.end.0 t.seq (trail_link t) news r is.linked next;
      tails = λ j le. elim (cases_lt (length news) j) [
        | inr upto ↦ subst (HasTail log.anchor t is.trail) (sym (take-append-le j news (r ∷ []) upto)) (is.tails j upto)
        | inl more ↦ subst (HasTail log.anchor t is.trail) (sym (take_all j (news ++ r ∷ []) (omega (arith, length-append news (r ∷ []))))) tail
      ];
      found = is.found;
      made = λ x own later. elim (Contains-push_cases log.made r x own) [
        | inl before ↦ Contains-append_left news (r ∷ []) x (is.made x before later)
        | inr same ↦ subst (Contains (news ++ r ∷ [])) same (Contains-push news r)
      ];
      headers = is.headers;
      records = All-weaker (IsKnown log) (IsKnown (pushed log r)) (λ x own. elim own [
        | inl found ↦ inl found
        | inr made ↦ inr (Contains-append_left log.made (r ∷ []) x made)
      ]) is.trail.newest.records is.records;
      queued = All-push (Contains (log.made ++ r ∷ [])) news r (All-weaker (Contains log.made) (Contains (log.made ++ r ∷ [])) (λ x own. Contains-append_left log.made (r ∷ []) x own) news is.queued) (Contains-push log.made r);
      numbers = is.numbers;
      known = record { list = is.known.list; headers = is.known.headers; all = is.known.all };
      next = subst (λ (o : Option Header). IfSome o (IsNextHeader (pushed log r))) (sym steady) tt;
    }
