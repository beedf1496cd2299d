use Rattle.std.proofs.Common.{◌≡◌, ◌*◌, ◌<◌, ℕ, List, length, refl, sym, ap, ◌∙◌, subst, arith, Option, Some}
use Rattle.sea_device.specs.Device.{Torn}
use Rattle.sea_segment.specs.Table.{IsEmpty, IsLeastEmpty}
use Rattle.sea_segment.specs.declared.header.Header.{Header}
use Rattle.sea_segment.specs.declared.state.Segment.{Segment}
use Rattle.sea_trail.specs.Trail.{first_block, header_block}
use Rattle.sea_journal.specs.Changes.{ChangesBy}
use Rattle.sea_journal.specs.Journal.{HasLog}
use Rattle.sea_journal.specs.Log.{begun}
use Rattle.sea_journal.specs.Reserve.{IsFinishedBy}
use Rattle.sea_journal.specs.Rolls.{BeginsAt}
use Rattle.sea_journal.specs.declared.journal.Journal.{Journal}
use Rattle.sea_journal.specs.declared.roll.Roll.{Roll}
use Rattle.sea_journal.proofs.Calls.{IfSome-at}
use Rattle.sea_journal.proofs.Journals.{OnErr-here, OnOk-here, written_none}
use Rattle.sea_journal.proofs.Rolling.{AfterSince, begins_has, comes_begun, comes_failed, comes_rolled, comes_synced, held_there, rolls, since_sync}
use Rattle.sea_journal.proofs.journal.Journal.roll.Goals as goal

pub returns-then-is_err-clause-log : goal.returns-then-is_err-clause-log
returns-then-is_err-clause-log g c = λ log has.
    let still = OnErr-here c.sync.result (sym c.is_err.ensures.value ∙ c.if-is_err.true) (c.sync.ensures.err log has) in (
      log,
      comes_failed log c.args.self.now c.sync.new.self still c.sync.ensures.changes.later
          (since_sync log c.args.self.now c.sync.new.self.device has (written_none log.next c.args.self.now.roll has.writes c.requires.none) (g.met.D.Device.only_now c.args.self.now.device) c.sync.ensures.changes),
    )

pub returns-then-is_err-2-clause-log : goal.returns-then-is_err-2-clause-log
returns-then-is_err-2-clause-log g c = λ log has.
    let made = OnOk-here c.sync.result (sym c.is_err.ensures.value ∙ c.if-is_err.false) (c.sync.ensures.ok log has) in
    let same = OnErr-here c.begin.result (sym c.is_err-2.ensures.value ∙ c.if-is_err-2.true) c.begin.ensures.err in (
      made.0,
      comes_synced log made.0 c.args.self.now c.begin.new.self (subst (HasLog g.D.Device made.0) (sym same) made.1)
          has.is_log made.2 (omega (arith, c.sync.ensures.changes.later, ap (λ (j : Journal g.row.D.Denot g.D.Device). g.D.Device.clock j.device) same))
          (subst (λ (j : Journal g.row.D.Denot g.D.Device). AfterSince g.D.Device log c.args.self.now.device j.device) (sym same)
          (since_sync log c.args.self.now c.sync.new.self.device has (written_none log.next c.args.self.now.roll has.writes c.requires.none) (g.met.D.Device.only_now c.args.self.now.device) c.sync.ensures.changes)),
    )

pub returns-then-is_err-3-clause-log : goal.returns-then-is_err-3-clause-log
returns-then-is_err-3-clause-log g c = λ log has.
    let law = g.met.D.Device in
    let made = OnOk-here c.sync.result (sym c.is_err.ensures.value ∙ c.if-is_err.false) (c.sync.ensures.ok log has) in
    let mid = made.0 in
    let step = made.2 in
    let first = c.args.self.now in
    let second = c.sync.new.self in
    let third = c.begin.new.self in
    let keeps = c.sync.ensures.keeps.0 in
    let begins = OnOk-here c.begin.result (sym c.is_err-2.ensures.value ∙ c.if-is_err-2.false) c.begin.ensures.ok in
    let h = begins.roll.header in
    let least : IsLeastEmpty first.table h.segment = subst (IsLeastEmpty first.table) (sym (ap (λ (x : Header). x.segment) begins.header)) c.requires.least in
    let some : first_block second.queue.active < second.queue.place.0 = omega (arith, c.requires.some, keeps.active, ap (λ p. p.0) keeps.place) in
    let empty : IsEmpty second.table c.args.segment = subst (λ (t : List Segment). IsEmpty t c.args.segment) (sym keeps.table) c.requires.least.empty in
    let has_begun = begins_has mid second third c.args.segment begins made.1 (keeps.roll ∙ c.requires.none) step.queued some empty c.begin.ensures.queue c.begin.ensures.device law.whole in
    let has_last = OnErr-here c.finish.result (sym c.is_err-3.ensures.value ∙ c.if-is_err-3.true) (c.finish.ensures.err (begun mid h) has_begun) in
    let writes = IfSome-at (λ (r : Roll). ChangesBy (Torn (4096 * header_block r.header.segment) 4096) g.D.Device third.device c.finish.new.self.device) begins.roll begins.is c.finish.ensures.changes in (
      begun mid h,
      comes_begun log mid h first second third c.finish.new.self has (written_none log.next first.roll has.writes c.requires.none) step made.1 has_begun
          (held_there mid second made.1 step.queued some) (law.only_now first.device) c.sync.ensures.changes c.begin.ensures.device writes least has_last,
    )

pub returns-clause-log : goal.returns-clause-log
returns-clause-log g c = λ log has.
    let law = g.met.D.Device in
    let made = OnOk-here c.sync.result (sym c.is_err.ensures.value ∙ c.if-is_err.false) (c.sync.ensures.ok log has) in
    let mid = made.0 in
    let step = made.2 in
    let first = c.args.self.now in
    let second = c.sync.new.self in
    let third = c.begin.new.self in
    let keeps = c.sync.ensures.keeps.0 in
    let begins = OnOk-here c.begin.result (sym c.is_err-2.ensures.value ∙ c.if-is_err-2.false) c.begin.ensures.ok in
    let h = begins.roll.header in
    let least : IsLeastEmpty first.table h.segment = subst (IsLeastEmpty first.table) (sym (ap (λ (x : Header). x.segment) begins.header)) c.requires.least in
    let some : first_block second.queue.active < second.queue.place.0 = omega (arith, c.requires.some, keeps.active, ap (λ p. p.0) keeps.place) in
    let empty : IsEmpty second.table c.args.segment = subst (λ (t : List Segment). IsEmpty t c.args.segment) (sym keeps.table) c.requires.least.empty in
    let has_begun = begins_has mid second third c.args.segment begins made.1 (keeps.roll ∙ c.requires.none) step.queued some empty c.begin.ensures.queue c.begin.ensures.device law.whole in
    let last = OnOk-here c.finish.result (sym c.is_err-3.ensures.value ∙ c.if-is_err-3.false) (c.finish.ensures.ok (begun mid h) has_begun) in
    let done = subst (λ (o : Option Roll). IsFinishedBy o (begun mid h) last.0) begins.is last.2 in
    let writes = IfSome-at (λ (r : Roll). ChangesBy (Torn (4096 * header_block r.header.segment) 4096) g.D.Device third.device c.finish.new.self.device) begins.roll begins.is c.finish.ensures.changes in (
      last.0,
      comes_rolled log mid h first second third c.finish.new.self has (written_none log.next first.roll has.writes c.requires.none) step made.1 has_begun
          (held_there mid second made.1 step.queued some) (law.only_now first.device) c.sync.ensures.changes c.begin.ensures.device writes least last.0 last.1 done,
    )

pub returns-clause-opened : goal.returns-clause-opened
returns-clause-opened g c =
    let keeps = c.sync.ensures.keeps.0 in
    let begins = OnOk-here c.begin.result (sym c.is_err-2.ensures.value ∙ c.if-is_err-2.false) c.begin.ensures.ok in
    let opened = OnOk-here c.finish.result (sym c.is_err-3.ensures.value ∙ c.if-is_err-3.false) c.finish.ensures.opened in (
      opened.0,
      rolls c.args.self.now c.sync.new.self c.begin.new.self c.finish.new.self c.args.segment c.requires.least keeps begins
          (IfSome-at (λ (r : Roll). BeginsAt r.header c.finish.new.self.queue) begins.roll begins.is opened.1) c.finish.ensures.table,
    )
