-- What a roll makes of a journal's past, call by call.
use Rattle.std.proofs.Common.{◌≡◌, ℕ, zero, suc, ◌+◌, ◌-◌, ◌*◌, ◌<◌, ◌≤◌, ◌⊎◌, List, [], ◌∷◌, ◌++◌, length, take, drop, refl, sym, ap, ◌∙◌, subst, inl, inr, arith, append_assoc, Option, Some, None, IfSome}
use Rattle.std.specs.Prelude.{slice_range}
use Rattle.std.specs.Option.{option_map}
use Rattle.std.specs.List.{Contains}
use Rattle.std.proofs.lemmas.List.{append-nil, take_all}
use Rattle.std.proofs.lemmas.List.Elements.{All-nil, All-weaker}
use Rattle.sea_device.specs.declared.device.Device.{Ghosts}
use Rattle.sea_device.specs.Device.{IsImage, Torn, overwritten}
use Rattle.sea_record.specs.declared.record.Record.{Record}
use Rattle.sea_segment.specs.Header.{SpellsHeader}
use Rattle.sea_segment.specs.Table.{IsEmpty, IsLeastEmpty}
use Rattle.sea_segment.specs.declared.header.Header.{Header}
use Rattle.sea_segment.specs.declared.state.Segment.{Segment}
use Rattle.sea_trail.specs.Trail.{HasHeader, IsNewest, StandsIn, block_of, chain_end, first_block, header_block, header_link, last_link, segment_end, trail_link}
use Rattle.sea_trail.specs.declared.link.Link.{Link}
use Rattle.sea_trail.specs.declared.trail.Trail.{Trail}
use Rattle.sea_journal.specs.Changes.{ChangesBy, LeavesItself, ToldBy}
use Rattle.sea_journal.specs.Journal.{HasLog, IsSettled}
use Rattle.sea_journal.specs.Links.{queue_bytes}
use Rattle.sea_journal.specs.Log.{Log, Extends, HasPrefix, HasRecords, IsBehind, IsBeside, IsAfter, IsClear, IsFinished, IsKnown, IsKnownHeader, IsLog, IsNextHeader, IsOnTrail, IsRolled, IsSynced, Opens, WithHeader, after_begin, after_roll, after_sync, as_before, begun, header_behind, up_to_header, up_to_record}
use Rattle.sea_journal.specs.Queue.{Waits}
use Rattle.sea_journal.specs.Reserve.{Begins, ComesTo, IsFinishedBy, IsOnTheWay, Keeps, Rolls, after_past, beside_header}
use Rattle.sea_journal.specs.Rolls.{BeginsAt, InTable, Writes, rolled_table}
use Rattle.sea_journal.specs.declared.journal.Journal.{Journal}
use Rattle.sea_journal.specs.declared.roll.Roll.{Roll}
use Rattle.sea_journal.proofs.Calls.{IfSome-at}
use Rattle.sea_journal.proofs.Journals.{after_change, after_some, moments_after, none_synced, of_some, of_none, told_after, written_none, written_some}
use Rattle.sea_journal.proofs.Openings.{Finished, after_none, begun_is, clear_beside, clear_has_prefix, finished}
use Rattle.sea_journal.proofs.Overlays.{slice_inside}
use Rattle.sea_journal.proofs.Pasts.{KnowsRows, clear_behind}
use Rattle.sea_journal.proofs.Tables.{begun_in_table, empty_spare, finished_in_table}
use Rattle.sea_journal.proofs.Tears.{Torn-more, Torn-none}

-- ---- one past after another

-- rows that a later past knows, where the past before knows as much
pub rows_by : (log next : Log) (image : List ℕ) → next.opened ≡ log.opened → next.made ≡ log.made → next.trail.segments ≡ log.trail.segments → KnowsRows next image → KnowsRows log image
rows_by log next image opened made segments rows h row newest stand =
    All-weaker (IsKnown next) (IsKnown log) (λ r own. elim own [
      | inl found ↦ inl (subst (λ (b : List ℕ). IsOnTrail b r) opened found)
      | inr here ↦ inr (subst (λ (rs : List Record). Contains rs r) made here)
    ]) row (rows h row (subst (λ (n : ℕ). IsNewest image n h) (sym segments) newest) stand)

-- an image that is clear by what a later past knows is clear by the past before, where that knows as much
pub clear_by : (log next : Log) (image : List ℕ) → next.opened ≡ log.opened → next.headers ≡ log.headers → next.made ≡ log.made → next.trail.segments ≡ log.trail.segments → IsClear next image → IsClear log image
clear_by log next image opened headers made segments clear = record {
  headers = λ h has. known h (clear.headers h (subst (λ (n : ℕ). HasHeader image n h) (sym segments) has));
  records = rows_by log next image opened made segments clear.records;
}
  where
    known : (h : Header) → IsKnownHeader next h → IsKnownHeader log h
    known h own = elim own [
      | inl found ↦ inl (subst (λ (b : List ℕ). HasHeader b log.trail.segments h) opened (subst (λ (n : ℕ). HasHeader next.opened n h) segments found))
      | inr here ↦ inr (subst (λ (hs : List Header). Contains hs h) headers here)
    ]

-- the trail u of the trail t of the trail before
extends_then : (t : Trail) (news : List Record) (u v : Trail) → Extends t news u → Extends u [] v → Extends t news v
extends_then t news u v first second = record {
  segments = second.segments ∙ first.segments;
  active = second.active ∙ first.active;
  seq = second.seq ∙ first.seq;
  ends = second.ends ∙ first.ends;
  last = second.last ∙ first.last;
  gone = first.gone ++ second.gone;
  records = first.records ∙ ap (λ (rs : List Record). first.gone ++ rs) (sym (append-nil u.records) ∙ second.records) ∙ sym (append_assoc first.gone second.gone v.records);
  none = λ all. ap (λ (rs : List Record). rs ++ second.gone) (first.none all) ∙ second.none (All-nil (λ r. r.tail ≡ u.tail));
}

same_opened : (t : Trail) (h : Header) (u v : Trail) → Opens t h u → Opens t h v → Extends u [] v
same_opened t h u v one two = record {
  segments = two.segments ∙ sym one.segments;
  active = two.active ∙ sym one.active;
  seq = two.seq ∙ sym one.seq;
  ends = two.ends ∙ sym one.ends;
  last = two.last ∙ sym one.last;
  gone = [];
  records = append-nil u.records ∙ one.records ∙ sym two.records;
  none = λ all. refl;
}

-- while a header is written an image has all that was queued, or the header too
pub up_to_next : (log mid next : Log) (h : Header) (c : List ℕ) → IsSynced log mid → IsFinished (begun mid h) next h → HasPrefix (begun mid h) c → HasPrefix log c ⊎ HasPrefix next c
up_to_next log mid next h c step done (up_to_record has) =
    let none : take has.count mid.queued ≡ [] = ap (take has.count) step.queued ∙ take_none has.count in
    let ext = extends_then log.trail log.queued mid.trail has.trail step.trail (subst (λ (rs : List Record). Extends mid.trail rs has.trail) none has.extends) in
    inl (up_to_record (record {
      count = length log.queued;
      within = omega arith;
      trail = has.trail;
      is_trail = has.is_trail;
      extends = subst (λ (rs : List Record). Extends log.trail rs has.trail) (sym (take_all (length log.queued) log.queued (omega arith))) ext;
    }))
  where
    take_none : (n : ℕ) → take {A = Record} n [] ≡ []
    take_none zero = refl
    take_none (suc n) = refl
up_to_next log mid next h c step done (up_to_header k has) =
    let same : k ≡ h = (let e = has.begun in cc) in
    inr (up_to_record (record {
      count = 0;
      within = omega arith;
      trail = has.trail;
      is_trail = has.is_trail;
      extends = same_opened mid.trail h next.trail has.trail done.trail (subst (λ (x : Header). Opens mid.trail x has.trail) same has.opens);
    }))

-- the steps of a roll, as one
pub rolled_by : (log mid next : Log) (h : Header) → log.next ≡ None → IsSynced log mid → h ≡ header_behind h.segment mid.trail.seq (trail_link mid.trail) → IsFinished (begun mid h) next h → IsRolled log next
rolled_by log mid next h steady step follows done = record {
  opened = done.opened ∙ step.opened;
  made = done.made ∙ step.made;
  stable = mid.trail;
  extends = step.trail;
  still = λ none. ap (λ (l : Log). l.trail) (step.still none);
  header = h;
  is = follows;
  headers = subst (λ (o : Option Header). WithHeader o h log.headers next.headers) (sym steady) (done.headers ∙ ap (λ (hs : List Header). hs ++ h ∷ []) step.headers);
  trail = done.trail;
  queued = done.queued;
  next = done.next;
}

pub finished_by : (log next : Log) (h : Header) → log.next ≡ Some h → log.queued ≡ [] → h ≡ header_behind h.segment log.trail.seq (trail_link log.trail) → IsFinished log next h → IsRolled log next
finished_by log next h writing none follows done = record {
  opened = done.opened;
  made = done.made;
  stable = log.trail;
  extends = (none_synced log none).trail;
  still = λ _. refl;
  header = h;
  is = follows;
  headers = subst (λ (o : Option Header). WithHeader o h log.headers next.headers) (sym writing) (refl, done.headers);
  trail = done.trail;
  queued = done.queued;
  next = done.next;
}

-- ---- the block of a header

block_put : (image block : List ℕ) (s : ℕ) → length block ≡ 4096 → 4096 * header_block s ≤ length image → block_of (overwritten (4096 * header_block s) block image) (header_block s) ≡ block
block_put image block s size within =
    let at = 4096 * header_block s in
    let end = 4096 * (header_block s + 1) in
    let from : at - at ≡ 0 = omega arith in
    let to : end - at ≡ 4096 = omega arith in
    slice_inside at at end block image (omega arith) (omega arith) (omega arith) within
    ∙ ap (λ (n : ℕ). slice_range block n (end - at)) from ∙ ap (λ (n : ℕ). slice_range block 0 n) to
    ∙ take_all 4096 block (omega arith)

-- each image that was left since the old device comes after the anchor
abbrev pub AfterSince : {D : Type 0} → Ghosts D → Log → D → D → Type 0
AfterSince g log old new = (c : List ℕ) → g.left_since new (g.clock old) c → IsAfter log c

module _ {D : Type 0} {g : Ghosts D} where
  -- ---- the write of a header begins

  pub begins_has : (log : Log) (old new : Journal D g) (segment : ℕ) (begins : Begins segment old new) → HasLog g log old → old.roll ≡ None → log.queued ≡ [] → first_block old.queue.active < old.queue.place.0 → IsEmpty old.table segment
      → new.queue ≡ old.queue → new.device ≡ old.device → ((d : D) (b : List ℕ) → g.contents d ≡ Some b → IsImage (g.size d) b) → HasLog g (begun log begins.roll.header) new
  begins_has log old new segment begins has ready none some empty queue device whole =
      let h = begins.roll.header in
      let t = log.trail in
      let steady = written_none log.next old.roll has.writes ready in
      let settled = has.settled none steady in
      let place : old.queue.place.0 ≡ t.end.0 = has.waits.place ∙ ap (chain_end t.end.0) none in
      let held : has.image ≡ log.anchor = settled.held (omega (arith, has.waits.active, place)) in
      let link : old.queue.link ≡ trail_link t = has.waits.link ∙ ap (last_link (trail_link t)) none in
      let at : h.segment ≡ segment = ap (λ (x : Header). x.segment) begins.header in
      let follows : h ≡ header_behind h.segment t.seq (trail_link t) =
      begins.header ∙ ap (λ (s : ℕ). header_behind s old.queue.seq old.queue.link) (sym at) ∙ ap (λ (n : ℕ). header_behind h.segment n old.queue.link) has.waits.seq ∙ ap (header_behind h.segment t.seq) link in
      let there : IsEmpty old.table h.segment = subst (IsEmpty old.table) (sym at) empty in
      let still : IsBeside log h has.image = subst (λ (b : List ℕ). Torn (4096 * header_block h.segment) 4096 b has.image) held (Torn-none (4096 * header_block h.segment) 4096 (g.size old.device) has.image (whole old.device has.image has.told)) in
      let table : new.table ≡ rolled_table old.table t.active t.seq h.segment =
      begins.table ∙ ap (λ (a : ℕ). rolled_table old.table a old.queue.seq segment) has.waits.active ∙ ap (λ (n : ℕ). rolled_table old.table t.active n segment) has.waits.seq ∙ ap (rolled_table old.table t.active t.seq) (sym at) in
      record {
        is_log = begun_is log h has.is_log steady none begins.roll.spells.header follows (empty_spare log old.table h.segment has.table there);
        waits = same_waits (subst (Waits log) (sym queue) has.waits);
        writes = subst (Writes (Some h)) (sym begins.is) refl;
        table = subst (InTable (begun log h)) (sym table) (begun_in_table log h old.table has.is_log has.table there (ap (λ (x : Header). x.seq) follows));
        image = has.image;
        told = ap g.contents device ∙ has.told;
        after = still;
        images = λ c left. subst (IsBeside log h) (sym (settled.alone c (subst (λ (d : D). g.may_leave d c) device left))) still;
        settled = λ _ writing. absurd (cc);
      }
    where
      same_waits : Waits log new.queue → Waits (begun log begins.roll.header) new.queue
      same_waits w = record { active = w.active; seq = w.seq; start = w.start; place = w.place; link = w.link; bytes = w.bytes; count = w.count }

  -- ---- the header is written

  module _ (log : Log) (old new : Journal D g) (roll : Roll) (has : HasLog g log old) (writing : old.roll ≡ Some roll)
      (changes : ChangesBy (Torn (4096 * header_block roll.header.segment) 4096) g old.device new.device) where
    named : log.next ≡ Some roll.header
    named = written_some log.next old.roll roll has.writes writing

    beside_more : (image : List ℕ) → IsBeside log roll.header has.image → Torn (4096 * header_block roll.header.segment) 4096 has.image image → IsBeside log roll.header image
    beside_more image one two = Torn-more (4096 * header_block roll.header.segment) 4096 log.anchor has.image image one two

    each_beside : (c : List ℕ) → g.may_leave new.device c → IsBeside log roll.header c
    each_beside c left =
        let from = changes.images c left in
        Torn-more (4096 * header_block roll.header.segment) 4096 log.anchor from.0 c (after_some log roll.header from.0 named (has.images from.0 from.1)) from.2

    -- a write that failed leaves the past as it was
    pub unfinished_has : new.queue ≡ old.queue → new.table ≡ old.table → new.roll ≡ old.roll → HasLog g log new
    unfinished_has queue table same =
        let told = told_after (Torn (4096 * header_block roll.header.segment) 4096) has.image (g.contents old.device) (g.contents new.device) has.told changes.contents in
        record {
          is_log = has.is_log;
          waits = subst (Waits log) (sym queue) has.waits;
          writes = subst (Writes log.next) (sym same) has.writes;
          table = subst (InTable log) (sym table) has.table;
          image = told.0;
          told = told.1;
          after = of_some log roll.header told.0 named (beside_more told.0 (after_some log roll.header has.image named has.after) told.2);
          images = λ c left. of_some log roll.header c named (each_beside c left);
          settled = λ _ steady. (let e = named in absurd (cc));
        }

    -- at each moment of it an image comes after the anchor
    pub since_writing : ((c : List ℕ) → g.left_since old.device (g.clock old.device) c → g.may_leave old.device c) → AfterSince g log old.device new.device
    since_writing only c left =
        elim (changes.moments (g.clock old.device) c (omega arith) left) [
          | inl past ↦ has.images c (only c past)
          | inr from ↦ of_some log roll.header c named (Torn-more (4096 * header_block roll.header.segment) 4096 log.anchor from.0 c (after_some log roll.header from.0 named (has.images from.0 from.1)) from.2)
        ]

    -- once it is stable records go on behind it
    pub finished_has : length roll.block ≡ 4096 → 4096 * header_block roll.header.segment ≤ length has.image → g.contents new.device ≡ option_map (overwritten (4096 * header_block roll.header.segment) roll.block) (g.contents old.device) → LeavesItself g new.device
        → BeginsAt roll.header new.queue → new.table ≡ old.table → new.roll ≡ None → (next : Log) × HasLog g next new × IsFinishedBy old.roll log next
    finished_has size within written alone begins table ready =
        let h = roll.header in
        let at = 4096 * header_block h.segment in
        let image : List ℕ = overwritten at roll.block has.image in
        let told : g.contents new.device ≡ Some image = written ∙ ap (option_map (overwritten at roll.block)) has.told in
        let step : Torn at 4096 has.image image = subst (λ (o : Option (List ℕ)). ToldBy (Torn at 4096) o (Some image)) has.told (subst (λ (o : Option (List ℕ)). ToldBy (Torn at 4096) (g.contents old.device) o) told changes.contents) in
        let beside : IsBeside log h image = beside_more image (after_some log h has.image named has.after) step in
        let stands : StandsIn image h = subst (λ (b : List ℕ). SpellsHeader b h) (sym (block_put has.image roll.block h.segment size within)) roll.spells in
        let done = finished log h image has.is_log named beside stands in
        let next = done.new in
        let only : (c : List ℕ) → g.may_leave new.device c → c ≡ image = λ c left. IfSome-at (λ (b : List ℕ). c ≡ b) image told (alone c left) in
        let opens = done.trail in
        let none : [] ≡ next.queued = sym done.queued in (
          next,
          record {
            is_log = done.is_log;
            waits = record {
              active = begins.active ∙ sym opens.active;
              seq = begins.seq ∙ sym opens.seq;
              start = begins.start ∙ sym opens.ends;
              place = begins.place ∙ sym opens.ends ∙ ap (chain_end next.trail.end.0) none;
              link = begins.link ∙ sym opens.last ∙ ap (last_link (trail_link next.trail)) none;
              bytes = begins.bytes ∙ ap queue_bytes none;
              count = begins.count ∙ ap length none;
            };
            writes = subst (λ (o : Option Header). Writes o new.roll) (sym done.next) (subst (Writes None) (sym ready) tt);
            table = subst (InTable next) (sym table) (finished_in_table log h image old.table done named has.table);
            image = image;
            told = told;
            after = of_none next image done.next done.behind;
            images = λ c left. of_none next c done.next (subst (IsBehind next) (sym (only c left)) done.behind);
            settled = λ _ _. record { alone = only; held = λ some. absurd (omega (arith, opens.active, opens.ends, some)) };
          },
          subst (λ (o : Option Roll). IsFinishedBy o log next) (sym writing) (record { opened = done.opened; headers = done.headers; made = done.made; trail = opens; queued = done.queued; next = done.next }),
        )

  -- ---- a roll

  pub since_idle : (log : Log) (old : Journal D g) (new : D) → HasLog g log old → ((c : List ℕ) → g.left_since old.device (g.clock old.device) c → g.may_leave old.device c) → new ≡ old.device → AfterSince g log old.device new
  since_idle log old new has only same c left = has.images c (only c (subst (λ (d : D). g.left_since d (g.clock old.device) c) same left))

  pub since_sync : (log : Log) (old : Journal D g) (new : D) → HasLog g log old → log.next ≡ None → ((c : List ℕ) → g.left_since old.device (g.clock old.device) c → g.may_leave old.device c)
      → (let q = old.queue in ChangesBy (Torn (4096 * q.start.0) (4096 * (segment_end q.active - q.start.0))) g old.device new) → AfterSince g log old.device new
  since_sync log old new has steady only changes c left = of_none log c steady (moments_after log old new has steady only (after_change log old new has changes) c left)

  -- a call failed, or there was none
  pub comes_failed : (log : Log) (old new : Journal D g) → HasLog g log new → g.clock old.device ≤ g.clock new.device → AfterSince g log old.device new.device → ComesTo g old new log log
  comes_failed log old new has later since = record {
    has_log = has;
    goes_on = as_before refl;
    later = later;
    images = λ c left. after_past (since c left);
    crash = λ c left clear. inl (clear_has_prefix log c has.is_log (since c left) clear);
  }

  pub comes_synced : (log next : Log) (old new : Journal D g) → HasLog g next new → IsLog log → IsSynced log next → g.clock old.device ≤ g.clock new.device → AfterSince g log old.device new.device → ComesTo g old new log next
  comes_synced log next old new has is step later since = record {
    has_log = has;
    goes_on = after_sync step;
    later = later;
    images = λ c left. after_past (since c left);
    crash = λ c left clear. inl (clear_has_prefix log c is (since c left) (clear_by log next c step.opened step.headers step.made step.trail.segments clear));
  }

  pub comes_finished : (log next : Log) (h : Header) (old new : Journal D g) → HasLog g next new → IsLog log → log.next ≡ Some h → IsFinished log next h → g.clock old.device ≤ g.clock new.device → AfterSince g log old.device new.device → ComesTo g old new log next
  comes_finished log next h old new has is writing done later since =
      let own = IfSome-at (IsNextHeader log) h writing is.next in
      record {
        has_log = has;
        goes_on = after_roll (finished_by log next h writing own.alone own.is done);
        later = later;
        images = λ c left. after_past (since c left);
        crash = λ c left clear. inl (clear_has_prefix log c is (since c left) (clear_by log next c done.opened done.headers done.made done.trail.segments clear));
      }

  -- the header was written, where one was being written
  pub comes_by : (log next : Log) (old new : Journal D g) → HasLog g log old → HasLog g next new → IsFinishedBy old.roll log next → (old.roll ≡ None → new.device ≡ old.device)
      → IfSome old.roll (λ roll. ChangesBy (Torn (4096 * header_block roll.header.segment) 4096) g old.device new.device) → ((c : List ℕ) → g.left_since old.device (g.clock old.device) c → g.may_leave old.device c) → ComesTo g old new log next
  comes_by log next old new has has_new done idle changes only = by_cases old.roll refl done changes
    where
      by_cases : (o : Option Roll) → old.roll ≡ o → IsFinishedBy o log next → IfSome o (λ roll. ChangesBy (Torn (4096 * header_block roll.header.segment) 4096) g old.device new.device) → ComesTo g old new log next
      by_cases None e same by =
          let here = comes_failed log old new (subst (λ (l : Log). HasLog g l new) same has_new) (omega (arith, ap g.clock (idle e))) (since_idle log old new.device has only (idle e)) in
          subst (λ (l : Log). ComesTo g old new log l) (sym same) here
      by_cases (Some roll) e done by = comes_finished log next roll.header old new has_new has.is_log (written_some log.next old.roll roll has.writes e) done by.later (since_writing log old new roll has e by only)

  -- or its write failed
  pub comes_unfinished : (log : Log) (old new : Journal D g) → HasLog g log old → HasLog g log new → (old.roll ≡ None → new.device ≡ old.device)
      → IfSome old.roll (λ roll. ChangesBy (Torn (4096 * header_block roll.header.segment) 4096) g old.device new.device) → ((c : List ℕ) → g.left_since old.device (g.clock old.device) c → g.may_leave old.device c) → ComesTo g old new log log
  comes_unfinished log old new has has_new idle changes only = by_cases old.roll refl changes
    where
      by_cases : (o : Option Roll) → old.roll ≡ o → IfSome o (λ roll. ChangesBy (Torn (4096 * header_block roll.header.segment) 4096) g old.device new.device) → ComesTo g old new log log
      by_cases None e by = comes_failed log old new has_new (omega (arith, ap g.clock (idle e))) (since_idle log old new.device has only (idle e))
      by_cases (Some roll) e by = comes_failed log old new has_new by.later (since_writing log old new roll has e by only)

  -- from a journal that nothing was done to
  pub comes_from : (log next : Log) (old mid new : Journal D g) → mid.device ≡ old.device → mid.table ≡ old.table → ComesTo g mid new log next → ComesTo g old new log next
  comes_from log next old mid new same table comes = record {
    has_log = comes.has_log;
    goes_on = comes.goes_on;
    later = omega (arith, comes.later, ap g.clock same);
    images = λ c left. subst (λ (ss : List Segment). IsOnTheWay log ss c) table (comes.images c (subst (λ (d : D). g.left_since new.device (g.clock d) c) (sym same) left));
    crash = λ c left clear. comes.crash c (subst (λ (d : D). g.left_since new.device (g.clock d) c) (sym same) left) clear;
  }

  -- the open segment has a record
  pub held_there : (log : Log) (j : Journal D g) → HasLog g log j → log.queued ≡ [] → first_block j.queue.active < j.queue.place.0 → first_block log.trail.active < log.trail.end.0
  held_there log j has none some =
      let place : j.queue.place.0 ≡ log.trail.end.0 = has.waits.place ∙ ap (chain_end log.trail.end.0) none in
      omega (arith, has.waits.active, place)

  -- the moments of a roll whose queue was made stable
  module _ (log mid : Log) (h : Header) (first second third last : Journal D g) (has : HasLog g log first) (steady : log.next ≡ None) (step : IsSynced log mid) (has_mid : HasLog g mid second) (has_begun : HasLog g (begun mid h) third)
      (held : first_block mid.trail.active < mid.trail.end.0)
      (only : (c : List ℕ) → g.left_since first.device (g.clock first.device) c → g.may_leave first.device c)
      (syncs : let q = first.queue in ChangesBy (Torn (4096 * q.start.0) (4096 * (segment_end q.active - q.start.0))) g first.device second.device)
      (same : third.device ≡ second.device)
      (writes : ChangesBy (Torn (4096 * header_block h.segment) 4096) g third.device last.device)
      (least : IsLeastEmpty first.table h.segment) where
    moments : (c : List ℕ) → g.left_since last.device (g.clock first.device) c → IsBehind log c ⊎ IsBeside (begun mid h) h c
    moments c left =
        let by : ChangesBy (Torn (4096 * header_block h.segment) 4096) g second.device last.device = subst (λ (d : D). ChangesBy (Torn (4096 * header_block h.segment) 4096) g d last.device) same writes in
        let settled = has_mid.settled step.queued (step.next ∙ steady) in
        elim (by.moments (g.clock first.device) c syncs.later left) [
          | inl past ↦ inl (moments_after log first second.device has steady only (after_change log first second.device has syncs) c past)
          | inr from ↦ (
              let here : from.0 ≡ mid.anchor = settled.alone from.0 from.1 ∙ settled.held held in
              inr (subst (λ (b : List ℕ). Torn (4096 * header_block h.segment) 4096 b c) here from.2)
              )
        ]

    on_the_way : (c : List ℕ) → g.left_since last.device (g.clock first.device) c → IsOnTheWay log first.table c
    on_the_way c left = elim (moments c left) [
      | inl behind ↦ after_past (of_none log c steady behind)
      | inr beside ↦ beside_header mid step h has_begun.is_log least beside
    ]

    on : g.clock first.device ≤ g.clock last.device
    on = omega (arith, syncs.later, ap g.clock same, writes.later)

    pub comes_begun : HasLog g (begun mid h) last → ComesTo g first last log (begun mid h)
    comes_begun has_last = record {
      has_log = has_last;
      goes_on = after_begin mid step h refl;
      later = on;
      images = on_the_way;
      crash = λ c left clear. elim (moments c left) [
        | inl behind ↦ inl (clear_behind log c has.is_log behind (rows_by log (begun mid h) c step.opened step.made step.trail.segments clear.records))
        | inr beside ↦ inr (clear_beside (begun mid h) h c has_begun.is_log refl beside clear)
      ];
    }

    pub comes_rolled : (next : Log) → HasLog g next last → IsFinished (begun mid h) next h → ComesTo g first last log next
    comes_rolled next has_last done =
        let own = IfSome-at (IsNextHeader (begun mid h)) h refl has_begun.is_log.next in
        record {
          has_log = has_last;
          goes_on = after_roll (rolled_by log mid next h steady step own.is done);
          later = on;
          images = on_the_way;
          crash = λ c left clear.
              let clear_mid = clear_by (begun mid h) next c done.opened done.headers done.made done.trail.segments clear in
              elim (moments c left) [
                | inl behind ↦ inl (clear_behind log c has.is_log behind (rows_by log (begun mid h) c step.opened step.made step.trail.segments clear_mid.records))
                | inr beside ↦ up_to_next log mid next h c step done (clear_beside (begun mid h) h c has_begun.is_log refl beside clear_mid)
              ];
        }

  -- what a roll makes of the queue and the table
  pub rolls : (first second third last : Journal D g) (segment : ℕ) → IsLeastEmpty first.table segment → Keeps first second → (begins : Begins segment second third) → BeginsAt begins.roll.header last.queue → last.table ≡ third.table → Rolls first last
  rolls first second third last segment least keeps begins at table =
      let header : begins.roll.header ≡ header_behind segment first.queue.seq first.queue.link =
      begins.header ∙ ap (λ (n : ℕ). header_behind segment n second.queue.link) keeps.seq ∙ ap (header_behind segment first.queue.seq) keeps.link in
      let active : last.queue.active ≡ segment = at.active ∙ ap (λ (h : Header). h.segment) header in
      record {
        least = subst (IsLeastEmpty first.table) (sym active) least;
        queue = subst (λ (s : ℕ). BeginsAt (header_behind s first.queue.seq first.queue.link) last.queue) (sym active) (subst (λ (h : Header). BeginsAt h last.queue) header at);
        table = table ∙ begins.table
            ∙ ap (λ (ss : List Segment). rolled_table ss second.queue.active second.queue.seq segment) keeps.table
            ∙ ap (λ (a : ℕ). rolled_table first.table a second.queue.seq segment) keeps.active
            ∙ ap (λ (n : ℕ). rolled_table first.table first.queue.active n segment) keeps.seq
            ∙ ap (rolled_table first.table first.queue.active first.queue.seq) (sym active);
      }
