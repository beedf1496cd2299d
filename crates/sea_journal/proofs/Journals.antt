-- What the calls of a journal make of its past.
use Rattle.std.proofs.Common.{◌≡◌, ℕ, ◌+◌, ◌-◌, ◌*◌, ◌<◌, ◌≤◌, List, [], ◌∷◌, ◌++◌, length, take, drop, replicate, refl, sym, ap, ◌∙◌, subst, inl, inr, arith, length-append}
use Rattle.std.specs.Result.{is_err}
use Rattle.std.specs.Prelude.{Bool, true, false, Option, Some, None, IfSome, Result, Ok, Err, OnOk, OnErr}
use Rattle.std.specs.Option.{option_map}
use Rattle.std.specs.List.{flat_map}
use Rattle.std.proofs.Common.{cond}
use Rattle.std.proofs.lemmas.Bool.{cases_lt}
use Rattle.std.proofs.lemmas.Bool.Decides.{eqb_tells}
use Rattle.std.proofs.lemmas.List.{append-nil, drop-drop, drop-take, length-replicate, take_at}
use Rattle.sea_base.specs.declared.place.Root.{Root}
use Rattle.sea_base.specs.declared.place.Tail.{Tail}
use Rattle.sea_device.specs.declared.device.Device.{Ghosts}
use Rattle.sea_device.specs.Calls.{OnlyRead}
use Rattle.sea_device.specs.Device.{IsImage, Torn, overwritten}
use Rattle.sea_record.specs.Record.{IsRecord, blocks, metadata, record_bytes}
use Rattle.sea_record.specs.declared.record.Body.{Body}
use Rattle.sea_record.specs.declared.record.Record.{Record}
use Rattle.sea_segment.specs.declared.header.Header.{Header}
use Rattle.sea_trail.specs.Laws.{rest_of}
use Rattle.sea_trail.specs.Trail.{IsChain, IsTrail, chain_end, first_block, last_link, segment_end, trail_link}
use Rattle.sea_trail.specs.declared.link.Link.{Link}
use Rattle.sea_trail.specs.declared.trail.Trail.{Trail}
use Rattle.sea_trail.proofs.Growth.{chain_end-ge}
use Rattle.sea_journal.specs.Changes.{ChangesBy, ToldBy}
use Rattle.sea_journal.specs.Journal.{CrashesKeep, HasLog, IsSettled}
use Rattle.sea_journal.specs.Links.{IsNext, queue_bytes}
use Rattle.sea_journal.specs.Log.{Log, DiffersBy, IsLog, IsAfter, IsBehind, IsBeside, IsNextHeader, IsOfTrail, IsSynced, Extends, pushed, stays}
use Rattle.sea_journal.specs.Queue.{BeginsBehind, IsEmptied, IsWritten, Waits, batch}
use Rattle.sea_journal.specs.Resume.{CanResume, mount_body, mount_record, opened, record_behind}
use Rattle.sea_journal.specs.Rolls.{InTable, Writes}
use Rattle.sea_journal.specs.declared.journal.Journal.{Journal}
use Rattle.sea_journal.specs.declared.queue.Queue.{Queue}
use Rattle.sea_journal.specs.declared.roll.Roll.{Roll}
use Rattle.sea_journal.proofs.Afters.{Bounds, bounds, of_before}
use Rattle.sea_journal.proofs.Calls.{IfSome-at}
use Rattle.sea_journal.proofs.Openings.{after_none, clear_has_prefix}
use Rattle.sea_journal.proofs.Pasts.{clear_behind, later_tail, opened_is, pushed_is, synced}
use Rattle.sea_journal.proofs.Queues.{IsBatch, laid_in, length-queued, written_chain}
use Rattle.sea_journal.proofs.Tables.{later_in_table}
use Rattle.sea_journal.proofs.Tears.{Torn-more, Torn-none}

-- ---- results

pub OnOk-both : {T E P Q R : Type 0} (r : Result T E) → (P → Q → R) → OnOk r P → OnOk r Q → OnOk r R
OnOk-both (Ok x) f p q = f p q
OnOk-both (Err e) f p q = tt

pub OnErr-one : {T E P R : Type 0} (r : Result T E) → (P → R) → OnErr r P → OnErr r R
OnErr-one (Ok x) f p = tt
OnErr-one (Err e) f p = f p

pub OnOk-always : {T E R : Type 0} (r : Result T E) → R → OnOk r R
OnOk-always (Ok x) it = it
OnOk-always (Err e) it = tt

pub OnErr-ok : {E : Type 0} (R : Type 0) (r : Result (Unit {0}) E) → r ≡ Ok tt → OnErr r R
OnErr-ok R (Ok x) is = tt
OnErr-ok R (Err e) is = absurd (cc)

pub OnErr-here : {T E R : Type 0} (r : Result T E) → is_err r ≡ true → OnErr r R → R
OnErr-here (Ok x) is it = absurd (cc)
OnErr-here (Err e) is it = it

pub OnOk-here : {T E R : Type 0} (r : Result T E) → is_err r ≡ false → OnOk r R → R
OnOk-here (Ok x) is it = it
OnOk-here (Err e) is it = absurd (cc)

-- told bytes that came by a step
pub told_after : (step : List ℕ → List ℕ → Type 0) (b : List ℕ) (old new : Option (List ℕ)) → old ≡ Some b → ToldBy step old new → (c : List ℕ) × (new ≡ Some c) × step b c
told_after step b old new told by = at_some new (subst (λ (o : Option (List ℕ)). ToldBy step o new) told by)
  where
    at_some : (new : Option (List ℕ)) → ToldBy step (Some b) new → (c : List ℕ) × (new ≡ Some c) × step b c
    at_some None by = absurd by
    at_some (Some c) by = (c, refl, by)

-- ---- a record is queued

-- what a queue makes goes on behind it
pub next_behind : (log : Log) (q : Queue) (body : Body) (tail : Tail) (root : Root) → Waits log q → IsRecord (record_behind q.place.0 q.seq q.link body tail root)
    → IsNext (chain_end log.trail.end.0 log.queued) log.trail.seq (last_link (trail_link log.trail) log.queued) (record_behind q.place.0 q.seq q.link body tail root)
next_behind log q body tail root waits is =
    let r = record_behind q.place.0 q.seq q.link body tail root in
    let own : IsNext q.place.0 q.seq q.link r = record { is_record = is; same_segment = refl; in_place = refl; commit = refl; mount = refl; prev = refl } in
    subst (λ (n : ℕ). IsNext n log.trail.seq (last_link (trail_link log.trail) log.queued) r) waits.place
    (subst (λ (s : ℕ). IsNext q.place.0 s (last_link (trail_link log.trail) log.queued) r) waits.seq
    (subst (λ (l : Link). IsNext q.place.0 q.seq l r) waits.link own))

pub some_queued : (rs : List Record) (r : Record) → rs ++ r ∷ [] ≡ [] → ⊥
some_queued [] r e = cc
some_queued (x ∷ rs) r e = cc

-- nothing is queued where nothing has a place
pub none_queued : (place : ℕ) (rs : List Record) → chain_end place rs ≡ place → rs ≡ []
none_queued place [] e = refl
none_queued place (r ∷ rs) e = absurd (omega (arith, chain_end-ge (place + blocks r.body) rs))

-- ---- the batch

is_batch : (log : Log) (q : Queue) → IsLog log → Waits log q → q.start.0 < q.place.0 → IsBatch log.queued (4096 * (segment_end q.active - q.start.0)) (batch q)
is_batch log q is waits some =
    let t = log.trail in
    let rs = log.queued in
    let front = flat_map record_bytes rs in
    let len : length front ≡ 4096 * (q.place.0 - q.start.0) = omega (arith, length-queued t.end.0 t.seq (trail_link t) rs is.linked, waits.start, waits.place) in
    let filled : q.bytes.items ≡ front ++ replicate 4096 0 = waits.bytes ∙ queue_some rs (λ none.
    let here : chain_end t.end.0 rs ≡ t.end.0 = ap (chain_end t.end.0) none in
    absurd (omega (arith, waits.start, waits.place, here))) in
    let order = q.order in
    let within = q.within in
    elim (eqb_tells q.place.0 (segment_end q.active)) [
      | inl full ↦ (
          let cut : batch q ≡ front = ap (λ (b : Bool). cond b (take (4096 * (q.place.0 - q.start.0)) q.bytes.items) q.bytes.items) full.0
          ∙ ap (take (4096 * (q.place.0 - q.start.0))) filled ∙ take_at front (replicate 4096 0) (4096 * (q.place.0 - q.start.0)) len in
          let size : length (batch q) ≡ 4096 * (segment_end q.active - q.start.0) = ap length cut ∙ omega (arith, len, full.1) in
          record { zeros = 0; is = cut ∙ sym (append-nil front); fits = omega (arith, size); full = λ none. size }
          )
      | inr left ↦ (
          let cut : batch q ≡ front ++ replicate 4096 0 = ap (λ (b : Bool). cond b (take (4096 * (q.place.0 - q.start.0)) q.bytes.items) q.bytes.items) left.0 ∙ filled in
          let size : length (batch q) ≡ length front + 4096 = ap length cut ∙ length-append front (replicate 4096 0) ∙ ap (λ (n : ℕ). length front + n) (length-replicate {A = ℕ} 4096 0) in
          let below : q.place.0 < segment_end q.active = below_of q.place.0 (segment_end q.active) within left.1 in
          record { zeros = 4096; is = cut; fits = omega (arith, size, len, below); full = λ none. absurd (omega arith) }
          )
    ]
  where
    queue_some : (rs : List Record) → (rs ≡ [] → ⊥) → queue_bytes rs ≡ flat_map record_bytes rs ++ replicate 4096 0
    queue_some [] some = absurd (some refl)
    queue_some (r ∷ rs) some = refl

    below_of : (m n : ℕ) → m ≤ n → (m ≡ n → ⊥) → m < n
    below_of m n le other = elim (cases_lt m n) [ inl lt ↦ lt | inr ge ↦ absurd (other (omega arith)) ]

-- the bytes behind a trail, in its segment
rest_is : (t : Trail) (image : List ℕ) → Bounds t → rest_of image t ≡ take (4096 * (segment_end t.active - t.end.0)) (drop (4096 * t.end.0) image)
rest_is t image edge =
    let first = 4096 * first_block t.active in
    let n = 4096 * (t.end.0 - first_block t.active) in
    let room = 4096 * (segment_end t.active - t.end.0) in
    let low = edge.from in
    let high = edge.upto in
    let whole : 4096 * segment_end t.active - first ≡ n + room = omega arith in
    let at : first + n ≡ 4096 * t.end.0 = omega arith in
    ap (λ (k : ℕ). drop n (take k (drop first image))) whole ∙ drop-take n room (drop first image)
    ∙ ap (take room) (drop-drop n first image ∙ ap (λ (k : ℕ). drop k image) at)

-- ---- whether a header is being written

pub written_none : (o : Option Header) (roll : Option Roll) → Writes o roll → roll ≡ None → o ≡ None
written_none None None writes e = refl
written_none None (Some r) writes e = absurd writes
written_none (Some h) None writes e = absurd writes
written_none (Some h) (Some r) writes e = absurd (cc)

pub written_some : (o : Option Header) (roll : Option Roll) (r : Roll) → Writes o roll → roll ≡ Some r → o ≡ Some r.header
written_some None None r writes e = absurd (cc)
written_some None (Some x) r writes e = absurd writes
written_some (Some h) None r writes e = absurd writes
written_some (Some h) (Some x) r writes e =
    let same : x ≡ r = cc in
    ap (λ (k : Header). Some k) (sym writes ∙ ap (λ (y : Roll). y.header) same)

pub of_none : (log : Log) (image : List ℕ) → log.next ≡ None → IsBehind log image → IsAfter log image
of_none log image steady behind = by_cases log.next steady
  where
    by_cases : (o : Option Header) → o ≡ None → DiffersBy log o image
    by_cases None e = behind
    by_cases (Some h) e = absurd (cc)

pub of_some : (log : Log) (h : Header) (image : List ℕ) → log.next ≡ Some h → IsBeside log h image → IsAfter log image
of_some log h image writing beside = by_cases log.next writing
  where
    by_cases : (o : Option Header) → o ≡ Some h → DiffersBy log o image
    by_cases None e = absurd (cc)
    by_cases (Some k) e = let same : h ≡ k = cc in subst (λ (x : Header). IsBeside log x image) same beside

pub after_some : (log : Log) (h : Header) (image : List ℕ) → log.next ≡ Some h → IsAfter log image → IsBeside log h image
after_some log h image writing after = by_cases log.next writing after
  where
    by_cases : (o : Option Header) → o ≡ Some h → DiffersBy log o image → IsBeside log h image
    by_cases None e after = absurd (cc)
    by_cases (Some k) e after = let same : k ≡ h = cc in subst (λ (x : Header). IsBeside log x image) same after

-- where nothing is queued all is stable
pub none_synced : (log : Log) → log.queued ≡ [] → IsSynced log log
none_synced log none = record {
  opened = refl;
  headers = refl;
  made = refl;
  trail = subst (λ (rs : List Record). Extends log.trail rs log.trail) (sym none) (record {
    segments = refl;
    active = refl;
    seq = refl;
    ends = refl;
    last = refl;
    gone = [];
    records = append-nil log.trail.records;
    none = λ all. refl;
  });
  stand = refl;
  queued = none;
  next = refl;
  still = λ _. refl;
}

module _ {D : Type 0} {g : Ghosts D} where
  -- where records wait no header is being written
  pub steady_some : (log : Log) (j : Journal D g) → HasLog g log j → j.queue.start.0 < j.queue.place.0 → log.next ≡ None
  steady_some log j has some = by_cases log.next has.is_log.next
    where
      by_cases : (o : Option Header) → IfSome o (IsNextHeader log) → o ≡ None
      by_cases None next = refl
      by_cases (Some h) next =
          let here : chain_end log.trail.end.0 log.queued ≡ log.trail.end.0 = ap (chain_end log.trail.end.0) next.alone in
          absurd (omega (arith, has.waits.start, has.waits.place, here))

  pub behind_of : (log : Log) (j : Journal D g) → HasLog g log j → log.next ≡ None → (c : List ℕ) → g.may_leave j.device c → IsBehind log c
  behind_of log j has steady c left = after_none log c steady (has.images c left)

  -- from the old device at each moment
  pub after_change : (log : Log) (old : Journal D g) (new : D) → HasLog g log old → (let q = old.queue in ChangesBy (Torn (4096 * q.start.0) (4096 * (segment_end q.active - q.start.0))) g old.device new)
      → ChangesBy (Torn (4096 * log.trail.end.0) (4096 * (segment_end log.trail.active - log.trail.end.0))) g old.device new
  after_change log old new has changes =
      subst (λ (n : ℕ). ChangesBy (Torn (4096 * n) (4096 * (segment_end log.trail.active - n))) g old.device new) has.waits.start
      (subst (λ (a : ℕ). ChangesBy (Torn (4096 * old.queue.start.0) (4096 * (segment_end a - old.queue.start.0))) g old.device new) has.waits.active changes)

  -- each image of a moment of the call comes after the anchor
  pub moments_after : (log : Log) (old : Journal D g) (new : D) → HasLog g log old → log.next ≡ None → ((c : List ℕ) → g.left_since old.device (g.clock old.device) c → g.may_leave old.device c)
      → ChangesBy (Torn (4096 * log.trail.end.0) (4096 * (segment_end log.trail.active - log.trail.end.0))) g old.device new
      → (c : List ℕ) → g.left_since new (g.clock old.device) c → IsBehind log c
  moments_after log old new has steady only changes c left =
      let at = 4096 * log.trail.end.0 in
      let count = 4096 * (segment_end log.trail.active - log.trail.end.0) in
      elim (changes.moments (g.clock old.device) c (omega arith) left) [
        | inl past ↦ behind_of log old has steady c (only c past)
        | inr from ↦ Torn-more at count log.anchor from.0 c (behind_of log old has steady from.0 from.1) from.2
      ]

  pub keeps_at_crash : (log : Log) (old : Journal D g) (new : D) → HasLog g log old → log.next ≡ None → ((c : List ℕ) → g.left_since old.device (g.clock old.device) c → g.may_leave old.device c)
      → (let q = old.queue in ChangesBy (Torn (4096 * q.start.0) (4096 * (segment_end q.active - q.start.0))) g old.device new)
      → CrashesKeep g log old.device new
  keeps_at_crash log old new has steady only changes c left clear =
      clear_behind log c has.is_log (moments_after log old new has steady only (after_change log old new has changes) c left) clear.records

  -- without a call of the device a crash leaves what it might have left
  pub keeps_idle : (log : Log) (old : Journal D g) (new : D) → HasLog g log old → ((c : List ℕ) → g.left_since old.device (g.clock old.device) c → g.may_leave old.device c) → new ≡ old.device → CrashesKeep g log old.device new
  keeps_idle log old new has only same c left clear =
      clear_has_prefix log c has.is_log (has.images c (only c (subst (λ (d : D). g.left_since d (g.clock old.device) c) same left))) clear

  -- a call that failed leaves the past as it was
  pub still_has : (log : Log) (old new : Journal D g) → HasLog g log old → new.queue ≡ old.queue → new.table ≡ old.table → new.roll ≡ old.roll → old.queue.start.0 < old.queue.place.0
      → (let q = old.queue in ChangesBy (Torn (4096 * q.start.0) (4096 * (segment_end q.active - q.start.0))) g old.device new.device)
      → HasLog g log new
  still_has log old new has same table roll some changes =
      let at = 4096 * log.trail.end.0 in
      let count = 4096 * (segment_end log.trail.active - log.trail.end.0) in
      let steady = steady_some log old has some in
      let by = after_change log old new.device has changes in
      let told = told_after (Torn at count) has.image (g.contents old.device) (g.contents new.device) has.told by.contents in
      record {
        is_log = has.is_log;
        waits = subst (Waits log) (sym same) has.waits;
        writes = subst (Writes log.next) (sym roll) has.writes;
        table = subst (InTable log) (sym table) has.table;
        image = told.0;
        told = told.1;
        after = of_none log told.0 steady (Torn-more at count log.anchor has.image told.0 (after_none log has.image steady has.after) told.2);
        images = λ c left. let from = by.images c left in of_none log c steady (Torn-more at count log.anchor from.0 c (behind_of log old has steady from.0 from.1) from.2);
        settled = λ none _.
            let here : chain_end log.trail.end.0 log.queued ≡ log.trail.end.0 = ap (chain_end log.trail.end.0) none in
            absurd (omega (arith, has.waits.start, has.waits.place, here));
      }

  -- nor does one that read at most
  pub has_read : (log : Log) (old new : Journal D g) → HasLog g log old → OnlyRead g old.device new.device → new.queue ≡ old.queue → new.table ≡ old.table → new.roll ≡ old.roll → HasLog g log new
  has_read log old new has read queue table roll = record {
    is_log = has.is_log;
    waits = subst (Waits log) (sym queue) has.waits;
    writes = subst (Writes log.next) (sym roll) has.writes;
    table = subst (InTable log) (sym table) has.table;
    image = has.image;
    told = read.contents ∙ has.told;
    after = has.after;
    images = λ c left. has.images c ((read.images c).1 left);
    settled = λ none steady.
        let was = has.settled none steady in
        record { alone = λ c left. was.alone c ((read.images c).1 left); held = was.held };
  }

  -- another table leaves it too
  pub with_table : (log : Log) (old new : Journal D g) → HasLog g log old → new.queue ≡ old.queue → new.device ≡ old.device → new.roll ≡ old.roll → InTable log new.table → HasLog g log new
  with_table log old new has queue device roll table = record {
    is_log = has.is_log;
    waits = subst (Waits log) (sym queue) has.waits;
    writes = subst (Writes log.next) (sym roll) has.writes;
    table = table;
    image = has.image;
    told = ap g.contents device ∙ has.told;
    after = has.after;
    images = λ c left. has.images c (subst (λ (d : D). g.may_leave d c) device left);
    settled = λ none steady. subst (IsSettled g log has.image) (sym device) (has.settled none steady);
  }

  -- nor does one that made no call of the device
  pub has_as_before : (log : Log) (old new : Journal D g) → HasLog g log old → new.queue ≡ old.queue → new.device ≡ old.device → new.table ≡ old.table → new.roll ≡ old.roll → HasLog g log new
  has_as_before log old new has queue device table roll = with_table log old new has queue device roll (subst (InTable log) (sym table) has.table)

  pub idle_synced : (log : Log) (old new : Journal D g) → HasLog g log old → new.queue ≡ old.queue → new.device ≡ old.device → new.table ≡ old.table → new.roll ≡ old.roll → old.queue.place.0 ≡ old.queue.start.0 → (next : Log) × HasLog g next new × IsSynced log next
  idle_synced log old new has queue device table roll empty =
      let none : log.queued ≡ [] = none_queued log.trail.end.0 log.queued (sym has.waits.place ∙ empty ∙ has.waits.start) in
      (log, has_as_before log old new has queue device table roll, none_synced log none)

  -- What was queued is written and stable.
  pub written_synced : (log : Log) (old new : Journal D g) → HasLog g log old → new.table ≡ old.table → new.roll ≡ old.roll → IsWritten g old.queue old.device new.device → IsEmptied old.queue new.queue → old.queue.start.0 < old.queue.place.0
      → (let q = old.queue in ChangesBy (Torn (4096 * q.start.0) (4096 * (segment_end q.active - q.start.0))) g old.device new.device)
      → segment_end old.queue.active ≤ g.size old.device → ((d : D) (b : List ℕ) → g.contents d ≡ Some b → IsImage (g.size d) b)
      → (next : Log) × HasLog g next new × IsSynced log next
  written_synced log old new has table roll written emptied some changes room whole =
      let t = log.trail in
      let steady = steady_some log old has some in
      let q = old.queue in
      let at = 4096 * t.end.0 in
      let count = 4096 * (segment_end t.active - t.end.0) in
      let image : List ℕ = overwritten (4096 * q.start.0) (batch q) has.image in
      let told : g.contents new.device ≡ Some image = written.contents ∙ ap (option_map (overwritten (4096 * q.start.0) (batch q))) has.told in
      let by = after_change log old new.device has changes in
      let step : Torn at count has.image image = subst (λ (o : Option (List ℕ)). ToldBy (Torn at count) o (Some image)) has.told (subst (λ (o : Option (List ℕ)). ToldBy (Torn at count) (g.contents old.device) o) told by.contents) in
      let after : IsBehind log image = Torn-more at count log.anchor has.image image (after_none log has.image steady has.after) step in
      let size : length has.image ≡ 4096 * g.size old.device = (whole old.device has.image has.told).size in
      let laid = laid_in log.queued (4096 * (segment_end q.active - q.start.0)) (4096 * q.start.0) (batch q) has.image (is_batch log q has.is_log has.waits some) (omega (arith, q.order, q.within)) in
      let numbers : take (4096 * (segment_end t.active - t.end.0)) (drop (4096 * t.end.0) image) ≡ take (4096 * (segment_end q.active - q.start.0)) (drop (4096 * q.start.0) image) =
      ap (λ (n : ℕ). take (4096 * (segment_end t.active - n)) (drop (4096 * n) image)) (sym has.waits.start) ∙ ap (λ (a : ℕ). take (4096 * (segment_end a - q.start.0)) (drop (4096 * q.start.0) image)) (sym has.waits.active) in
      let chain : IsChain (rest_of image t) t.end.0 t.seq (trail_link t) log.queued = written_chain (rest_of image t) laid.behind t.end.0 t.seq (trail_link t) log.queued has.is_log.linked (rest_is t image (bounds log.anchor t has.is_log.trail) ∙ numbers ∙ laid.is) laid.none in
      let made = synced log image has.is_log steady after chain (λ nothing. omega (arith, some, has.waits.start, has.waits.place, ap (chain_end t.end.0) nothing)) in
      let next = made.0 in
      let step_to = made.1 in
      let ext = step_to.trail in
      let none : [] ≡ next.queued = sym step_to.queued in
      let before : (s n : ℕ) → IsOfTrail next.anchor next.trail s n → IsOfTrail log.anchor t s n = λ s n of.
      of_before log.anchor image t has.is_log.trail after next.trail s n ext.segments ext.seq (later_tail log has.is_log next.trail ext.last) (subst (λ (b : List ℕ). IsOfTrail b next.trail s n) made.2 of) in
      let still : IsBehind next image = subst (λ (b : List ℕ). Torn (4096 * next.trail.end.0) (4096 * (segment_end next.trail.active - next.trail.end.0)) b image) (sym made.2)
      (Torn-none (4096 * next.trail.end.0) (4096 * (segment_end next.trail.active - next.trail.end.0)) (g.size new.device) image (whole new.device image told)) in
      let only : (c : List ℕ) → g.may_leave new.device c → c ≡ image = λ c left. IfSome-at (λ (b : List ℕ). c ≡ b) image told (written.alone c left) in (
        next,
        record {
          is_log = made.3;
          waits = record {
            active = emptied.active ∙ has.waits.active ∙ sym ext.active;
            seq = emptied.seq ∙ has.waits.seq ∙ sym ext.seq;
            start = ap (λ p. p.0) emptied.start ∙ has.waits.place ∙ sym ext.ends;
            place = ap (λ p. p.0) emptied.place ∙ has.waits.place ∙ sym ext.ends ∙ ap (chain_end next.trail.end.0) none;
            link = emptied.link ∙ has.waits.link ∙ sym ext.last ∙ ap (last_link (trail_link next.trail)) none;
            bytes = emptied.bytes ∙ ap queue_bytes none;
            count = emptied.count ∙ ap length none;
          };
          writes = subst (λ (o : Option Header). Writes o new.roll) (sym step_to.next) (subst (Writes log.next) (sym roll) has.writes);
          table = subst (InTable next) (sym table) (later_in_table log next old.table ext.segments steady (step_to.next ∙ steady) before has.table);
          image = image;
          told = told;
          after = of_none next image (step_to.next ∙ steady) still;
          images = λ c left. of_none next c (step_to.next ∙ steady) (subst (IsBehind next) (sym (only c left)) still);
          settled = λ empty _. record { held = λ some. sym made.2; alone = only };
        },
        step_to,
      )

-- ---- a journal begins

module _ {D : Type 0} {g : Ghosts D} where
  -- a journal that begins has nothing of its own
  pub start_has : (image : List ℕ) (t : Trail) (j : Journal D g) → IsTrail image t → Waits (opened image t) j.queue → j.roll ≡ None → InTable (opened image t) j.table → g.contents j.device ≡ Some image
      → ((c : List ℕ) → g.may_leave j.device c → c ≡ image) → ((d : D) (b : List ℕ) → g.contents d ≡ Some b → IsImage (g.size d) b) → HasLog g (opened image t) j
  start_has image t j trail waits ready table told only whole =
      let still : IsBehind (opened image t) image = Torn-none (4096 * t.end.0) (4096 * (segment_end t.active - t.end.0)) (g.size j.device) image (whole j.device image told) in
      record {
        is_log = opened_is image t trail;
        waits = waits;
        writes = subst (Writes None) (sym ready) tt;
        table = table;
        image = image;
        told = told;
        after = still;
        images = λ c left. subst (IsBehind (opened image t)) (sym (only c left)) still;
        settled = λ none steady. record { held = λ some. refl; alone = only };
      }
