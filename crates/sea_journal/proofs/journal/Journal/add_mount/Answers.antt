use Rattle.std.proofs.Common.{◌≡◌, List, sym, ◌∙◌, subst}
use Rattle.std.proofs.lemmas.Result.{err_from_is_err_and}
use Rattle.sea_segment.specs.declared.state.Segment.{Segment}
use Rattle.sea_record.specs.declared.record.Record.{Record}
use Rattle.sea_journal.specs.Journal.{HasLog}
use Rattle.sea_journal.specs.Log.{pushed}
use Rattle.sea_journal.specs.Opening.{IsTableThen, KeepsFound}
use Rattle.sea_journal.proofs.Mounts.{not_begun_by, reserved_leads, reserved_mount, reserved_none, reserved_record, reserved_room, reserved_table, reserved_tail, then, untouched_by, way}
use Rattle.sea_journal.proofs.journal.Journal.add_mount.Goals as goal

pub returns-in_err-reserve-clause-crash : goal.returns-in_err-reserve-clause-crash
returns-in_err-reserve-clause-crash g c = λ log has none.
    way log c.args.self.now has none c.requires.ready c.requires.numbers c.reserve.new.self.device (c.reserve.ensures.log log has).1.images

pub returns-in_err-reserve-clause-cause : goal.returns-in_err-reserve-clause-cause
returns-in_err-reserve-clause-cause g c =
    let p = err_from_is_err_and c.from_residual.result c.from_residual.ensures.1 in
    rw (p.1, p.2) (not_begun_by c.args.self.now c.reserve.new.self _ _ c.in_err-reserve.field-0.0 c.requires.ready c.in_err-reserve.ensures.fault)

pub returns-in_err-reserve-clause-untouched : goal.returns-in_err-reserve-clause-untouched
returns-in_err-reserve-clause-untouched g c =
    let p = err_from_is_err_and c.from_residual.result c.from_residual.ensures.1 in
    rw (p.1, p.2) (untouched_by c.args.self.now c.reserve.new.self _ _ c.in_err-reserve.field-0.0 c.requires.ready c.in_err-reserve.ensures.fault)

pub returns-in_err-body-clause-crash : goal.returns-in_err-body-clause-crash
returns-in_err-body-clause-crash g c = λ log has none.
    way log c.args.self.now has none c.requires.ready c.requires.numbers c.reserve.new.self.device (c.reserve.ensures.log log has).1.images

pub push-requires-clause-is_record : goal.push-requires-clause-is_record
push-requires-clause-is_record g c =
    reserved_record _ c.args.self.now c.reserve.new.self c.in_ok-body.body c.in_ok-reserve.ensures.place c.requires.ready c.requires.numbers c.in_ok-body.ensures

pub push-requires-clause-room : goal.push-requires-clause-room
push-requires-clause-room g c =
    reserved_room _ c.args.self.now c.reserve.new.self c.in_ok-body.body c.in_ok-reserve.ensures.place c.in_ok-body.ensures

pub returns-in_err-push-clause-crash : goal.returns-in_err-push-clause-crash
returns-in_err-push-clause-crash g c = λ log has none.
    subst (KeepsFound g.D.Device log c.args.self.now.table c.args.self.now.device) (sym c.push.ensures.others.0)
    (way log c.args.self.now has none c.requires.ready c.requires.numbers c.reserve.new.self.device (c.reserve.ensures.log log has).1.images)

pub returns-in_err-sync-clause-crash : goal.returns-in_err-sync-clause-crash
returns-in_err-sync-clause-crash g c = λ log has none.
    let old = c.args.self.now in
    let new = c.reserve.new.self in
    let next = c.reserve.ensures.log log has in
    let place = c.in_ok-reserve.ensures.place in
    let ready = c.requires.ready in
    let may = c.requires.numbers in
    let mount = reserved_mount log old has none ready may next.0 new next.1 _ place c.in_ok-body.body c.in_ok-body.ensures in
    let has_mount = subst (λ (r : Record). HasLog g.D.Device (pushed next.0 r) c.push.new.self) mount
    (c.in_ok-push.ensures.ok next.0 next.1.has_log (reserved_tail log old has none ready may next.0 new next.1 _ place)) in
    then log old has none ready may next.0 new next.1 _ place c.push.new.self c.sync.new.self.device has_mount c.push.ensures.others.0 c.sync.ensures.changes

pub returns-clause-begun : goal.returns-clause-begun
returns-clause-begun g c = λ log has none.
    let old = c.args.self.now in
    let new = c.reserve.new.self in
    let next = c.reserve.ensures.log log has in
    let place = c.in_ok-reserve.ensures.place in
    let ready = c.requires.ready in
    let may = c.requires.numbers in
    let mount = reserved_mount log old has none ready may next.0 new next.1 _ place c.in_ok-body.body c.in_ok-body.ensures in
    let has_mount = subst (λ (r : Record). HasLog g.D.Device (pushed next.0 r) c.push.new.self) mount
    (c.in_ok-push.ensures.ok next.0 next.1.has_log (reserved_tail log old has none ready may next.0 new next.1 _ place)) in
    let made = c.in_ok-sync.ensures.ok _ has_mount in
    record {
      start = next.0;
      leads = reserved_leads log old has none ready may next.0 new next.1 _ place;
      log = made.0;
      has_log = made.1;
      synced = made.2;
      table_then = subst (λ (ss : List Segment). IsTableThen log.trail old.table ss next.0.trail.active) (sym (c.sync.ensures.keeps.0.table ∙ c.push.ensures.others.1))
          (reserved_table log old has none ready may next.0 new next.1 _ place);
    }

pub returns-clause-crash : goal.returns-clause-crash
returns-clause-crash g c = λ log has none.
    let old = c.args.self.now in
    let new = c.reserve.new.self in
    let next = c.reserve.ensures.log log has in
    let place = c.in_ok-reserve.ensures.place in
    let ready = c.requires.ready in
    let may = c.requires.numbers in
    let mount = reserved_mount log old has none ready may next.0 new next.1 _ place c.in_ok-body.body c.in_ok-body.ensures in
    let has_mount = subst (λ (r : Record). HasLog g.D.Device (pushed next.0 r) c.push.new.self) mount
    (c.in_ok-push.ensures.ok next.0 next.1.has_log (reserved_tail log old has none ready may next.0 new next.1 _ place)) in
    then log old has none ready may next.0 new next.1 _ place c.push.new.self c.sync.new.self.device has_mount c.push.ensures.others.0 c.sync.ensures.changes
