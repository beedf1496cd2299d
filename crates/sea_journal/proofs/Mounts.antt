-- A mount record goes on behind what was found.
use Rattle.std.proofs.Common.{◌≡◌, ℕ, ◌+◌, ◌-◌, ◌*◌, ◌^◌, ◌<◌, ◌≤◌, ◌⊎◌, List, [], ◌∷◌, ◌++◌, length, take, drop, refl, sym, ap, ◌∙◌, subst, inl, inr, arith, take-append-drop, Option, Some, None}
use Rattle.std.specs.Prelude.{MatchOption}
use Rattle.std.specs.List.{All, Contains}
use Rattle.std.proofs.lemmas.Bool.{cases_lt}
use Rattle.std.proofs.lemmas.List.{append-nil}
use Rattle.std.proofs.lemmas.List.Elements.{Contains-append_left, Contains-push, Contains-push_cases}
use Rattle.sea_base.specs.RootFields.{IsRoot, IsTail}
use Rattle.sea_base.specs.declared.place.Root.{Root}
use Rattle.sea_base.specs.declared.place.Tail.{Tail}
use Rattle.sea_base.proofs.Digests.{length-sha256}
use Rattle.sea_device.specs.Device.{Torn}
use Rattle.sea_device.specs.declared.device.Device.{Ghosts}
use Rattle.sea_record.specs.Record.{IsRecord, blocks, metadata}
use Rattle.sea_record.specs.declared.record.Body.{Body}
use Rattle.sea_record.specs.declared.record.Record.{Record}
use Rattle.sea_segment.specs.Header.{header_digest}
use Rattle.sea_segment.specs.Seal.{own_digest}
use Rattle.sea_segment.specs.Table.{IsLeastEmpty}
use Rattle.sea_segment.specs.declared.header.Header.{Header}
use Rattle.sea_segment.specs.declared.state.Segment.{Segment}
use Rattle.sea_trail.specs.Trail.{HasHeader, IsTrail, StandsIn, chain_end, first_block, header_link, last_link, segment_end, trail_link}
use Rattle.sea_trail.specs.declared.link.Link.{Link}
use Rattle.sea_trail.specs.declared.trail.Trail.{Trail}
use Rattle.sea_journal.specs.Links.{IsNext}
use Rattle.sea_journal.specs.Log.{Log, Extends, GoesOn, HasPrefix, HasRecords, IsAfter, IsBehind, IsBeside, IsClear, IsFinished, IsKnownHeader, IsLog, IsNextHeader, IsRolled, IsSynced, NamesTail, Opens, WithHeader, after_begin, after_roll, after_sync, as_before, begun, header_behind, pushed, stays, up_to_header, up_to_record}
use Rattle.sea_journal.specs.Opening.{IsNotBegun, IsTableThen, KeepsFound, LeadsTo, MayMount, resume_fault, with_roll, with_room}
use Rattle.sea_journal.specs.Reserve.{ComesTo, Finishes, IsOnTheWay, IsReady, IsSame, IsUnready, Rolls, TakesIn, after_past, beside_header}
use Rattle.sea_journal.specs.Resume.{mount_body, mount_record, mounted, record_behind}
use Rattle.sea_journal.specs.Changes.{ChangesBy}
use Rattle.sea_journal.specs.Journal.{HasLog}
use Rattle.sea_journal.specs.Rolls.{rest_of, rolled_table}
use Rattle.sea_journal.specs.declared.journal.Journal.{Journal}
use Rattle.sea_journal.specs.declared.journal.ReserveFault.{ReserveFault}
use Rattle.sea_journal.specs.declared.journal.ReserveFault.TheVariants.{NoRoom, DeviceFault as DeviceFailed, NoMemory as MemoryRanOut}
use Rattle.sea_journal.specs.declared.journal.ResumeFault.TheVariants.{NoSpace}
use Rattle.sea_journal.specs.declared.queue.Queue.{Queue}
use Rattle.sea_journal.specs.declared.room.Who.TheVariants.{Mount}
use Rattle.sea_journal.specs.declared.roll.Roll.{Roll}
use Rattle.sea_journal.proofs.Afters.{bounds}
use Rattle.sea_journal.proofs.Apart.{stands_or}
use Rattle.sea_journal.proofs.Calls.{IfSome-at}
use Rattle.sea_journal.proofs.Journals.{after_change, behind_of, none_synced, of_none, written_none}
use Rattle.sea_journal.proofs.Openings.{after_none, clear_has_prefix, finished, none_some, stays_beside}
use Rattle.sea_journal.proofs.Pasts.{pushed_is}
use Rattle.sea_journal.proofs.Rolling.{clear_by, rolled_by}
use Rattle.sea_journal.proofs.Tears.{Torn-more}

-- ---- the mount record

-- the one at this block of a segment, behind a link
abbrev pub mount_at : ℕ → ℕ → Link → Record
mount_at place seq link = record_behind place seq link mount_body link.tail link.root

pub mount_blocks : blocks mount_body ≡ 1
unfolding metadata
mount_blocks = refl

-- a link that a mount record may go on from
pub record MayFollow (number : ℕ) (link : Link) : Type 0 where
  pub seq : (1 ≤ number) × (number < 2 ^ 63)
  pub mount : link.mount < 2 ^ 62
  pub commit : link.commit.0 < 2 ^ 62
  pub digest : length link.digest.0 ≡ 32
  pub tail : IsTail link.tail
  pub root : IsRoot link.root

-- it keeps the rules of records
pub mount_fits : (place seq : ℕ) (link : Link) → place < 2 ^ 24 → MayFollow seq link → IsRecord (mount_at place seq link)
unfolding metadata
mount_fits place seq link below may = record {
  mount = (omega arith, omega (arith, may.mount));
  seq = may.seq;
  place = below;
  commit = (omega arith, omega (arith, may.commit));
  tail = may.tail;
  root = may.root;
  prev = may.digest;
  kind = record { listed = refl; nodes = refl; plain = refl };
  placed = λ k d lt. absurd (omega arith);
  nodes = λ k d lt. absurd (omega arith);
  changes = λ k d lt. absurd (omega arith);
  addresses = record {
    rise = (λ i j lt below. absurd (omega arith), λ i j lt below. absurd (omega arith), λ i j lt below. absurd (omega arith));
    given = (λ k d lt. absurd (omega arith), λ k d lt. absurd (omega arith), λ k d lt. absurd (omega arith));
    apart = (λ i j lt below. absurd (omega arith), λ i j lt below. absurd (omega arith), λ i j lt below. absurd (omega arith));
  };
  few = omega arith;
}

pub same_mount : (u : Trail) (place seq : ℕ) (link : Link) → u.end.0 ≡ place → u.seq ≡ seq → trail_link u ≡ link → mount_record u ≡ mount_at place seq link
same_mount u place seq link one two three =
    ap (λ (n : ℕ). mount_at n u.seq (trail_link u)) one
    ∙ ap (λ (n : ℕ). mount_at place n (trail_link u)) two
    ∙ ap (mount_at place seq) three

length-header_digest : (h : Header) → length (header_digest h) ≡ 32
unfolding header_digest own_digest
length-header_digest h = length-sha256 _

-- the link of a header that goes on from one
header_follows : (segment seq : ℕ) (link : Link) (h : Header) → h ≡ header_behind segment seq link → seq < 2 ^ 62 → MayFollow seq link → MayFollow h.seq (header_link h)
header_follows segment seq link h is below may = record {
  seq = (omega (arith, ap (λ (x : Header). x.seq) is), omega (arith, ap (λ (x : Header). x.seq) is));
  mount = omega (arith, ap (λ (x : Header). x.mount) is, may.mount);
  commit = omega (arith, ap (λ (x : Header). x.commit.0) is, may.commit);
  digest = length-header_digest h;
  tail = subst IsTail (sym (ap (λ (x : Header). x.tail) is)) may.tail;
  root = subst IsRoot (sym (ap (λ (x : Header). x.root) is)) may.root;
}

-- a past with it is one
pub mounted_log : (start : Log) → IsLog start → start.queued ≡ [] → start.next ≡ None → IsRecord (mount_record start.trail) → IsLog (mounted start)
mounted_log start is none steady record_is =
    let t = start.trail in
    pushed_is start (mount_record t) is
    (subst (λ (rs : List Record). IsNext (chain_end t.end.0 rs) t.seq (last_link (trail_link t) rs) (mount_record t)) (sym none) (record { is_record = record_is; same_segment = refl; in_place = refl; commit = refl; mount = refl; prev = refl }))
    (stays (ap (λ (rs : List Record). (last_link (trail_link t) rs).tail) (sym none)))
    steady

-- ---- pasts that are alike

-- They promise the same of an image.
pub record Alike (a b : Log) : Type 0 where
  pub opened : b.opened ≡ a.opened
  pub headers : b.headers ≡ a.headers
  pub made : b.made ≡ a.made
  pub segments : b.trail.segments ≡ a.trail.segments
  pub active : b.trail.active ≡ a.trail.active
  pub seq : b.trail.seq ≡ a.trail.seq
  pub ends : b.trail.end.0 ≡ a.trail.end.0
  pub last : trail_link b.trail ≡ trail_link a.trail
  pub records : b.trail.records ≡ a.trail.records
  pub queued : b.queued ≡ a.queued
  pub next : b.next ≡ a.next

alike_self : (a : Log) → Alike a a
alike_self a = record { opened = refl; headers = refl; made = refl; segments = refl; active = refl; seq = refl; ends = refl; last = refl; records = refl; queued = refl; next = refl }

alike_clear : (a b : Log) (c : List ℕ) → Alike a b → IsClear b c → IsClear a c
alike_clear a b c same clear = clear_by a b c same.opened same.headers same.made same.segments clear

alike_prefix : (a b : Log) (c : List ℕ) → Alike a b → HasPrefix b c → HasPrefix a c
alike_prefix a b c same (up_to_record has) =
    let ext = subst (λ (rs : List Record). Extends b.trail (take has.count rs) has.trail) same.queued has.extends in
    let news = take has.count a.queued in
    up_to_record (record {
      count = has.count;
      within = subst (λ (rs : List Record). has.count ≤ length rs) same.queued has.within;
      trail = has.trail;
      is_trail = has.is_trail;
      extends = record {
        segments = ext.segments ∙ same.segments;
        active = ext.active ∙ same.active;
        seq = ext.seq ∙ same.seq;
        ends = ext.ends ∙ ap (λ (n : ℕ). chain_end n news) same.ends;
        last = ext.last ∙ ap (λ (l : Link). last_link l news) same.last;
        gone = ext.gone;
        records = ap (λ (rs : List Record). rs ++ news) (sym same.records) ∙ ext.records;
        none = λ all. ext.none (subst (λ (l : Link). All (λ r. r.tail ≡ l.tail) news) (sym same.last) all);
      };
    })
alike_prefix a b c same (up_to_header h has) =
    let o = has.opens in
    up_to_header h (record {
      begun = sym same.next ∙ has.begun;
      alone = sym same.queued ∙ has.alone;
      trail = has.trail;
      is_trail = has.is_trail;
      opens = record { segments = o.segments ∙ same.segments; active = o.active; seq = o.seq; ends = o.ends; last = o.last; records = o.records ∙ same.records };
    })

alike_mounted : (a b : Log) → Alike a b → Alike (mounted a) (mounted b)
alike_mounted a b same =
    let m : mount_record b.trail ≡ mount_record a.trail = same_mount b.trail a.trail.end.0 a.trail.seq (trail_link a.trail) same.ends same.seq same.last in
    let behind : (xs ys : List Record) → ys ≡ xs → ys ++ mount_record b.trail ∷ [] ≡ xs ++ mount_record a.trail ∷ [] = λ xs ys e. ap (λ (rs : List Record). rs ++ mount_record b.trail ∷ []) e ∙ ap (λ (r : Record). xs ++ r ∷ []) m in
    record {
      opened = same.opened;
      headers = same.headers;
      made = behind a.made b.made same.made;
      segments = same.segments;
      active = same.active;
      seq = same.seq;
      ends = same.ends;
      last = same.last;
      records = same.records;
      queued = behind a.queued b.queued same.queued;
      next = same.next;
    }

-- ---- what was found, and the past that the mount record goes on from

pub extends_self : (t : Trail) → Extends t [] t
extends_self t = record { segments = refl; active = refl; seq = refl; ends = refl; last = refl; gone = []; records = append-nil t.records; none = λ all. refl }

-- nothing was written
torn_nowhere : (at count : ℕ) (old new : List ℕ) → count ≡ 0 → Torn at count old new → new ≡ old
torn_nowhere at count old new nothing torn =
    let here : at + count ≡ at = omega arith in
    let behind : drop at new ≡ drop at old = ap (λ (n : ℕ). drop n new) (sym here) ∙ torn.after ∙ ap (λ (n : ℕ). drop n old) here in
    sym (take-append-drop at new) ∙ ap (λ (xs : List ℕ). xs ++ drop at new) torn.before ∙ ap (λ (xs : List ℕ). take at old ++ xs) behind ∙ take-append-drop at old

module _ (found : Log) (table : List Segment) (none : found.queued ≡ []) (steady : found.next ≡ None) where
  rolled_opens : (s : Log) (r : IsRolled found s) → Opens found.trail r.header s.trail
  rolled_opens s r = subst (λ (t : Trail). Opens t r.header s.trail) (r.still none) r.trail

  rolled_header : (s : Log) (r : IsRolled found s) → r.header ≡ header_behind s.trail.active found.trail.seq (trail_link found.trail)
  rolled_header s r =
      r.is ∙ ap (λ (n : ℕ). header_behind n r.stable.seq (trail_link r.stable)) (sym r.trail.active)
      ∙ ap (λ (t : Trail). header_behind s.trail.active t.seq (trail_link t)) (r.still none)

  rolled_headers : (s : Log) (r : IsRolled found s) → s.headers ≡ found.headers ++ r.header ∷ []
  rolled_headers s r = subst (λ (o : Option Header). WithHeader o r.header found.headers s.headers) steady r.headers

  alike : (a b : Log) → LeadsTo found table a → LeadsTo found table b → Alike a b
  alike a b (with_room _ one) (with_room _ two) = subst (Alike a) (one ∙ sym two) (alike_self a)
  alike a b (with_room room one) (with_roll full rolled least) = absurd (omega arith)
  alike a b (with_roll full rolled least) (with_room room one) = absurd (omega arith)
  alike a b (with_roll _ one first) (with_roll _ two second) =
      let at : b.trail.active ≡ a.trail.active = omega (arith, first.least b.trail.active second.empty, second.least a.trail.active first.empty) in
      let before = rolled_opens a one in
      let after = rolled_opens b two in
      let header : two.header ≡ one.header =
      rolled_header b two ∙ ap (λ (n : ℕ). header_behind n found.trail.seq (trail_link found.trail)) at ∙ sym (rolled_header a one) in
      record {
        opened = two.opened ∙ sym one.opened;
        headers = rolled_headers b two ∙ ap (λ (h : Header). found.headers ++ h ∷ []) header ∙ sym (rolled_headers a one);
        made = two.made ∙ sym one.made;
        segments = after.segments ∙ sym before.segments;
        active = at;
        seq = after.seq ∙ ap (λ (h : Header). h.seq) header ∙ sym before.seq;
        ends = after.ends ∙ ap (λ (h : Header). first_block h.segment) header ∙ sym before.ends;
        last = after.last ∙ ap header_link header ∙ sym before.last;
        records = after.records ∙ sym before.records;
        queued = two.queued ∙ sym one.queued;
        next = two.next ∙ sym one.next;
      }

  -- what is clear for one such past, and comes after another, has a prefix
  pub then_keeps : (next start : Log) (c : List ℕ) → LeadsTo found table next → LeadsTo found table start → IsLog (mounted next) → IsAfter (mounted next) c → IsClear (mounted start) c → HasPrefix (mounted start) c
  then_keeps next start c leads to is after clear =
      alike_prefix (mounted start) (mounted next) c (alike_mounted start next (alike start next to leads))
      (clear_has_prefix (mounted next) c is after (alike_clear (mounted next) (mounted start) c (alike_mounted next start (alike next start leads to)) clear))

  segments_same : (start : Log) → LeadsTo found table start → start.trail.segments ≡ found.trail.segments
  segments_same start (with_room _ same) = ap (λ (l : Log). l.trail.segments) same
  segments_same start (with_roll _ rolled _) = (rolled_opens start rolled).segments

  -- a header that such a past knows
  known_before : (start : Log) (h k : Header) → LeadsTo found table start → IsLeastEmpty table h.segment → h ≡ header_behind h.segment found.trail.seq (trail_link found.trail) → IsKnownHeader (mounted start) k → IsKnownHeader (begun found h) k
  known_before start h k (with_room _ same) least is known = elim known [
    | inl there ↦ inl (subst (λ (l : Log). HasHeader l.opened l.trail.segments k) same there)
    | inr made ↦ inr (Contains-append_left found.headers (h ∷ []) k (subst (λ (l : Log). Contains l.headers k) same made))
  ]
  known_before start h k (with_roll full rolled first) least is known =
      let at : start.trail.active ≡ h.segment = omega (arith, first.least h.segment least.empty, least.least start.trail.active first.empty) in
      let header : rolled.header ≡ h = rolled_header start rolled ∙ ap (λ (n : ℕ). header_behind n found.trail.seq (trail_link found.trail)) at ∙ sym is in
      elim known [
        | inl there ↦ inl (subst (λ (b : List ℕ). HasHeader b found.trail.segments k) rolled.opened (subst (λ (n : ℕ). HasHeader start.opened n k) (rolled_opens start rolled).segments there))
        | inr made ↦ inr (subst (λ (x : Header). Contains (found.headers ++ x ∷ []) k) header (subst (λ (hs : List Header). Contains hs k) (rolled_headers start rolled) made))
      ]

  module _ (is : IsLog found) (few : found.trail.segments ≤ 8191) (below : found.trail.seq < 2 ^ 62) (may : MayFollow found.trail.seq (trail_link found.trail)) where
    -- the record goes on behind what was found
    found_mount : IsRecord (mount_record found.trail)
    found_mount =
        let t = found.trail in
        let b = bounds found.anchor t is.trail in
        let within : is.trail.newest.header.segment < t.segments = is.trail.is_open.newest.numbered.has.within in
        mount_fits t.end.0 t.seq (trail_link t) (omega (arith, b.upto, within, is.trail.active)) may

    -- what comes after the past that was found
    after_keeps : (start : Log) (c : List ℕ) → IsAfter found c → LeadsTo found table start → IsClear (mounted start) c → HasPrefix found c ⊎ HasPrefix (mounted start) c
    after_keeps start c after (with_room room same) clear =
        inr (then_keeps found start c (with_room room refl) (with_room room same) (mounted_log found is none steady found_mount) (of_none (mounted found) c steady (after_none found c steady after)) clear)
    after_keeps start c after (with_roll full rolled least) clear =
        let t = found.trail in
        let same : c ≡ found.anchor = torn_nowhere (4096 * t.end.0) (4096 * (segment_end t.active - t.end.0)) found.anchor c (omega arith) (after_none found c steady after) in
        inl (up_to_record (record { count = 0; within = omega arith; trail = t; is_trail = subst (λ (b : List ℕ). IsTrail b t) (sym same) is.trail; extends = extends_self t }))

    -- the header of the new segment may stand or not
    module _ (h : Header) (c : List ℕ) (is_begun : IsLog (begun found h)) (least : IsLeastEmpty table h.segment) (beside : IsBeside found h c) where
      own : IsNextHeader (begun found h) h
      own = IfSome-at (IsNextHeader (begun found h)) h refl is_begun.next

      stands_keeps : StandsIn c h → (start : Log) → LeadsTo found table start → IsClear (mounted start) c → HasPrefix (mounted start) c
      stands_keeps stands start (with_room room same) clear =
          let has : HasHeader c start.trail.segments h = subst (λ (n : ℕ). HasHeader c n h) (sym (segments_same start (with_room room same))) (record { within = own.spare.within; stands = stands }) in
          let known : IsKnownHeader found h = subst (λ (l : Log). IsKnownHeader l h) same (clear.headers h has) in
          elim (is.numbers h known) [
            | inl older ↦ absurd (omega (arith, older.upto, ap (λ (x : Header). x.seq) own.is))
            | inr next ↦ absurd (none_some h found.next steady next)
          ]
      stands_keeps stands start (with_roll full rolled first) clear =
          let done = finished (begun found h) h c is_begun refl beside stands in
          let next = done.new in
          let opens : Opens found.trail h next.trail = done.trail in
          let step : IsFinished (begun found h) next h = record { opened = done.opened; headers = done.headers; made = done.made; trail = opens; queued = done.queued; next = done.next } in
          let leads : LeadsTo found table next = with_roll full (rolled_by found found next h steady (none_synced found none) own.is step) (subst (IsLeastEmpty table) (sym opens.active) least) in
          let within : h.segment < found.trail.segments = own.spare.within in
          let fits : IsRecord (mount_record next.trail) = subst IsRecord (sym (same_mount next.trail (first_block h.segment) h.seq (header_link h) opens.ends opens.seq opens.last))
          (mount_fits (first_block h.segment) h.seq (header_link h) (omega (arith, within, few)) (header_follows h.segment found.trail.seq (trail_link found.trail) h own.is below may)) in
          then_keeps next start c leads (with_roll full rolled first) (mounted_log next done.is_log done.queued done.next fits) (of_none (mounted next) c done.next done.behind) clear

      beside_keeps : (start : Log) → LeadsTo found table start → IsClear (mounted start) c → HasPrefix found c ⊎ HasPrefix (mounted start) c
      beside_keeps start leads clear =
          elim (stands_or c h own.is_header) [
            | inl stands ↦ inr (stands_keeps stands start leads clear)
            | inr other ↦ (
                let made = stays_beside (begun found h) h c is_begun refl beside (λ k has. known_before start h k leads least own.is (clear.headers k (subst (λ (n : ℕ). HasHeader c n k) (sym (segments_same start leads)) has))) other in
                inl (up_to_record (record { count = 0; within = omega arith; trail = made.0; is_trail = made.1; extends = made.2 }))
                )
          ]

    -- an image that the roll may leave
    pub way_keeps : (c : List ℕ) → IsOnTheWay found table c → (start : Log) → LeadsTo found table start → IsClear (mounted start) c → HasPrefix found c ⊎ HasPrefix (mounted start) c
    way_keeps c (after_past after) start leads clear = after_keeps start c after leads clear
    way_keeps c (beside_header mid step h is_begun least beside) start leads clear =
        let same : mid ≡ found = step.still none in
        beside_keeps h c (subst (λ (l : Log). IsLog (begun l h)) same is_begun) least (subst (λ (l : Log). IsBeside l h c) same beside) start leads clear

-- ---- a journal that adds a mount record

module _ {D : Type 0} {g : Ghosts D} where
  -- why there is none
  pub not_begun_by : (old new : Journal D g) (before now : ℕ) (fault : ReserveFault) → old.roll ≡ None → IsUnready Mount 1 before now old new fault → IsNotBegun (TakesIn Mount 1 old) before now (resume_fault fault)
  not_begun_by old new before now (NoRoom need rest empty) idle why = why.3
  not_begun_by old new before now DeviceFailed idle why = (why.1 idle, why.0)
  not_begun_by old new before now MemoryRanOut idle why = why

  pub untouched_by : (old new : Journal D g) (before now : ℕ) (fault : ReserveFault) → old.roll ≡ None → IsUnready Mount 1 before now old new fault → resume_fault fault ≡ NoSpace → new.device ≡ old.device
  untouched_by old new before now (NoRoom need rest empty) idle why none = (why.5 idle).device
  untouched_by old new before now DeviceFailed idle why none = absurd (cc)
  untouched_by old new before now MemoryRanOut idle why none = absurd (cc)

  -- the reserved place
  reserved : (place : ℕ) (old new : Journal D g) → IsReady 1 place old new → old.roll ≡ None
      → (1 ≤ segment_end old.queue.active - old.queue.place.0 → IsSame old new) × (segment_end old.queue.active - old.queue.place.0 < 1 → Rolls old new)
  reserved place old new ready idle =
      subst (λ (o : Option Roll). MatchOption o ((1 ≤ rest_of o old.queue → IsSame old new) × (rest_of o old.queue < 1 → Rolls old new)) (λ roll. Finishes roll old new)) idle ready.segment

  reserved_follows : (place : ℕ) (old new : Journal D g) → IsReady 1 place old new → old.roll ≡ None → MayMount old.queue → MayFollow new.queue.seq new.queue.link
  reserved_follows place old new ready idle may =
      let both = reserved place old new ready idle in
      elim (cases_lt (segment_end old.queue.active - old.queue.place.0) 1) [
        | inl full ↦ (
            let at = (both.1 full).queue in record {
              seq = (omega (arith, at.seq), omega (arith, at.seq, may.seq.1));
              mount = omega (arith, ap (λ (l : Link). l.mount) at.link, may.mount);
              commit = omega (arith, ap (λ (l : Link). l.commit.0) at.link, may.commit);
              digest = new.queue.linked.digest;
              tail = new.queue.linked.tail;
              root = new.queue.linked.root;
            }
            )
        | inr room ↦ (
            let queue = (both.0 room).queue in record {
              seq = (omega (arith, ap (λ (q : Queue). q.seq) queue, may.seq.0), omega (arith, ap (λ (q : Queue). q.seq) queue, may.seq.1));
              mount = omega (arith, ap (λ (q : Queue). q.link.mount) queue, may.mount);
              commit = omega (arith, ap (λ (q : Queue). q.link.commit.0) queue, may.commit);
              digest = new.queue.linked.digest;
              tail = new.queue.linked.tail;
              root = new.queue.linked.root;
            }
            )
      ]

  -- the record that goes there
  pub reserved_record : (place : ℕ) (old new : Journal D g) (body : Body) → IsReady 1 place old new → old.roll ≡ None → MayMount old.queue → body ≡ mount_body
      → IsRecord (let q = new.queue in record_behind q.place.0 q.seq q.link body q.link.tail q.link.root)
  reserved_record place old new body ready idle may is =
      let q = new.queue in
      subst (λ (b : Body). IsRecord (record_behind q.place.0 q.seq q.link b q.link.tail q.link.root)) (sym is)
      (mount_fits q.place.0 q.seq q.link (omega (arith, ready.at, ready.room, q.few)) (reserved_follows place old new ready idle may))

  pub reserved_room : (place : ℕ) (old new : Journal D g) (body : Body) → IsReady 1 place old new → body ≡ mount_body → new.queue.place.0 + blocks body ≤ segment_end new.queue.active
  reserved_room place old new body ready is = omega (arith, ap blocks is, mount_blocks, ready.at, ready.room)

  module _ (log : Log) (old : Journal D g) (has : HasLog g log old) (none : log.queued ≡ []) (idle : old.roll ≡ None) (may : MayMount old.queue) where
    steady : log.next ≡ None
    steady = written_none log.next old.roll has.writes idle

    follows : MayFollow log.trail.seq (trail_link log.trail)
    follows =
        let q = old.queue in
        let link : q.link ≡ trail_link log.trail = has.waits.link ∙ ap (last_link (trail_link log.trail)) none in
        record {
          seq = (omega (arith, has.waits.seq, may.seq.0), omega (arith, has.waits.seq, may.seq.1));
          mount = omega (arith, ap (λ (l : Link). l.mount) link, may.mount);
          commit = omega (arith, ap (λ (l : Link). l.commit.0) link, may.commit);
          digest = ap (λ (l : Link). length l.digest.0) (sym link) ∙ q.linked.digest;
          tail = subst IsTail (ap (λ (l : Link). l.tail) link) q.linked.tail;
          root = subst IsRoot (ap (λ (l : Link). l.root) link) q.linked.root;
        }

    -- what the reservation may leave
    pub way : (new : D) → ((c : List ℕ) → g.left_since new (g.clock old.device) c → IsOnTheWay log old.table c) → KeepsFound g log old.table old.device new
    way new images start leads c left clear =
        way_keeps log old.table none steady has.is_log (omega (arith, has.table.count, old.few)) (omega (arith, has.waits.seq, may.seq.1)) follows c (images c left) start leads clear

    module _ (next : Log) (new : Journal D g) (comes : ComesTo g old new log next) (place : ℕ) (ready : IsReady 1 place old new) where
      both : (1 ≤ segment_end old.queue.active - old.queue.place.0 → IsSame old new) × (segment_end old.queue.active - old.queue.place.0 < 1 → Rolls old new)
      both = reserved place old new ready idle

      here : old.queue.place.0 ≡ log.trail.end.0
      here = has.waits.place ∙ ap (chain_end log.trail.end.0) none

      rolled_seq : IsRolled log next → next.trail.seq ≡ log.trail.seq + 1
      rolled_seq r = r.trail.seq ∙ ap (λ (h : Header). h.seq) r.is ∙ ap (λ (t : Trail). t.seq + 1) (r.still none)

      -- no header is being written any more
      not_begun : (mid : Log) (h : Header) → next ≡ begun mid h → ⊥
      not_begun mid h same = none_some h next.next (written_none next.next new.roll comes.has_log.writes ready.none) (ap (λ (l : Log). l.next) same)

      with_same : IsSame old new → GoesOn log next → next ≡ log
      with_same same (as_before e) = e
      with_same same (after_sync step) = step.still none
      with_same same (after_begin mid step h e) = absurd (not_begun mid h e)
      with_same same (after_roll r) = absurd (omega (arith, rolled_seq r, comes.has_log.waits.seq, ap (λ (q : Queue). q.seq) same.queue, has.waits.seq))

      with_other : Rolls old new → GoesOn log next → IsRolled log next
      with_other rolls (as_before e) = absurd (omega (arith, ap (λ (l : Log). l.trail.seq) e, comes.has_log.waits.seq, rolls.queue.seq, has.waits.seq))
      with_other rolls (after_sync step) = absurd (omega (arith, ap (λ (l : Log). l.trail.seq) (step.still none), comes.has_log.waits.seq, rolls.queue.seq, has.waits.seq))
      with_other rolls (after_begin mid step h e) = absurd (not_begun mid h e)
      with_other rolls (after_roll r) = r

      pub reserved_leads : LeadsTo log old.table next
      reserved_leads =
          elim (cases_lt log.trail.end.0 (segment_end log.trail.active)) [
            | inl room ↦ with_room room (with_same (both.0 (omega (arith, here, has.waits.active))) comes.goes_on)
            | inr full ↦ (
                let rolls = both.1 (omega (arith, here, has.waits.active)) in
                with_roll (omega arith) (with_other rolls comes.goes_on) (subst (IsLeastEmpty old.table) comes.has_log.waits.active rolls.least)
                )
          ]

      pub reserved_table : IsTableThen log.trail old.table new.table next.trail.active
      reserved_table = record {
        with_room = λ room. (both.0 (omega (arith, here, has.waits.active))).table;
        with_roll = λ full.
            let rolls = both.1 (omega (arith, here, has.waits.active)) in
            rolls.table
            ∙ ap (λ (a : ℕ). rolled_table old.table a old.queue.seq new.queue.active) has.waits.active
            ∙ ap (λ (n : ℕ). rolled_table old.table log.trail.active n new.queue.active) has.waits.seq
            ∙ ap (rolled_table old.table log.trail.active log.trail.seq) comes.has_log.waits.active;
      }

      none_waits : LeadsTo log old.table next → next.queued ≡ []
      none_waits (with_room _ same) = ap (λ (l : Log). l.queued) same ∙ none
      none_waits (with_roll _ r _) = r.queued

      pub reserved_none : next.queued ≡ []
      reserved_none = none_waits reserved_leads

      -- it is the mount record of the past
      pub reserved_mount : (body : Body) → body ≡ mount_body → (let q = new.queue in record_behind q.place.0 q.seq q.link body q.link.tail q.link.root) ≡ mount_record next.trail
      reserved_mount body is =
          let q = new.queue in
          let waits = comes.has_log.waits in
          ap (λ (b : Body). record_behind q.place.0 q.seq q.link b q.link.tail q.link.root) is
          ∙ sym (same_mount next.trail q.place.0 q.seq q.link (sym (waits.place ∙ ap (chain_end next.trail.end.0) reserved_none)) (sym waits.seq) (sym (waits.link ∙ ap (last_link (trail_link next.trail)) reserved_none)))

      pub reserved_tail : NamesTail next new.queue.link.tail
      reserved_tail = stays (ap (λ (l : Link). l.tail) comes.has_log.waits.link)

      -- the moments of its sync
      pub then : (mid : Journal D g) (last : D) → HasLog g (mounted next) mid → mid.device ≡ new.device
          → (let q = mid.queue in ChangesBy (Torn (4096 * q.start.0) (4096 * (segment_end q.active - q.start.0))) g mid.device last)
          → KeepsFound g log old.table old.device last
      then mid last has_mid same changes start leads c left clear =
          let by = after_change (mounted next) mid last has_mid changes in
          let quiet : next.next ≡ None = written_none next.next new.roll comes.has_log.writes ready.none in
          let at = 4096 * next.trail.end.0 in
          let count = 4096 * (segment_end next.trail.active - next.trail.end.0) in
          elim (by.moments (g.clock old.device) c (omega (arith, comes.later, ap g.clock same)) left) [
            | inl past ↦ way new.device comes.images start leads c (subst (λ (d : D). g.left_since d (g.clock old.device) c) same past) clear
            | inr from ↦ (
                let after : IsBehind (mounted next) c = Torn-more at count next.anchor from.0 c (behind_of (mounted next) mid has_mid quiet from.0 from.1) from.2 in
                inr (then_keeps log old.table none steady next start c reserved_leads leads has_mid.is_log (of_none (mounted next) c quiet after) clear)
                )
          ]
