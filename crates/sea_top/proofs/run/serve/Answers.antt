use Rattle.std.proofs.Common.{◌≡◌, ℕ, ◌*◌, ◌≤◌, List, [], length, refl, ap, ◌∙◌, subst, arith}
use Rattle.std.specs.Prelude.{Some, IfNone}
use Rattle.std.proofs.lemmas.Result.{on_ok_weaker}
use Rattle.sea_base.specs.declared.place.Paddr.{Paddr}
use Rattle.sea_top.specs.Crash.{ChangesBehind}
use Rattle.sea_top.specs.Queue.{Start, Waits, behind}
use Rattle.sea_top.specs.Serving.{Queues}
use Rattle.sea_top.specs.Trail.{IsTrailOf, after_pieces, chain_end, pieces_of}
use Rattle.sea_top.proofs.Readings.{IfSome-at}
use Rattle.sea_top.proofs.Outcomes.{mapped_ok}
use Rattle.sea_top.proofs.Moments.{written_moments, written_images}
use Rattle.sea_top.proofs.Runs.{few_acknowledged, keeps_objects, if_none, serving}
use Rattle.sea_top.proofs.run.serve.Goals as goal

pub write_out-ending-requires : goal.write_out-ending-requires
write_out-ending-requires g c =
    let end = c.in_ok-trail.trail.end in
    let start : Start = record { place = end; commit = c.in_ok-trail.trail.commit; previous = c.in_ok-trail.trail.previous.0; size = c.blocks-2.result } in
    let within : end ≤ c.blocks-2.result = omega (arith, c.in_ok-trail.ensures.within, c.read_trail.ensures.read.size, c.blocks-2.ensures) in
    let fresh = c.new-queue.ensures start refl refl refl (omega arith) in
    on_ok_weaker c.serve_all-served.result (λ (queues : Queues c.in_ok-trail.trail.objects c.serve_all-served.new.objects c.new-queue.result c.serve_all-served.new.queue).
    let waits = (queues start [] fresh).1 in
    omega (arith, waits.room, waits.placed, c.blocks-2.ensures, c.serve_all-served.new.queue.bytes.ok.0)) c.serve_all-served.ensures.queued

pub returns-clause-serves : goal.returns-clause-serves
returns-clause-serves g c image held =
    let trail = c.in_ok-trail.trail in
    let synced : g.D.Device.contents c.sync.new.self ≡ Some image = c.sync.ensures.contents ∙ held in
    let told : IsTrailOf trail image = IfSome-at (IsTrailOf trail) image synced c.in_ok-trail.ensures.trail in
    let read : g.D.Device.contents c.read_trail.new.device ≡ Some image = c.read_trail.ensures.read.contents ∙ synced in
    let size : c.blocks-2.result ≡ g.D.Device.size c.args.device.now = c.blocks-2.ensures ∙ c.read_trail.ensures.read.size ∙ c.sync.ensures.size in
    let stable = mapped_ok _ _ c.sync.result c.map_err.result c.in_ok-map_err.field-0 c.map_err.ensures.cases c.in_ok-map_err.was c.sync.ensures.stable in
    let only : (i : List ℕ) → g.D.Device.may_leave c.read_trail.new.device i → i ≡ image =
    λ i leaves. IfSome-at (λ (b : List ℕ). i ≡ b) image synced (stable i ((c.read_trail.ensures.read.images i).1 leaves)) in
    let acked : IfNone c.write_out-ending.result (c.count_acknowledged-acknowledged.result ≡ length c.serve_all-served.new.entries) = if_none _ _ c.write_out-ending.result (λ (e : c.count_acknowledged-acknowledged.result ≡ length c.items.result.now). e ∙ ap length c.items.ensures) c.count_acknowledged-acknowledged.ensures.all in
    let waits : Waits (behind told.records (g.D.Device.size c.read_trail.new.device)) c.new-queue.result [] = c.new-queue.ensures (behind told.records (g.D.Device.size c.read_trail.new.device)) told.end (told.commit ∙ omega arith) told.previous (omega (arith, c.in_ok-trail.ensures.within, c.read_trail.ensures.read.size, c.blocks-2.ensures)) in
    let logged = c.serve_all-served.ensures.logged (behind told.records (g.D.Device.size c.read_trail.new.device)) waits in
    let placed : 4096 * c.serve_all-served.new.queue.place.0 ≡ 4096 * chain_end 0 told.records = ap (λ (p : Paddr). 4096 * p.0) c.serve_all-served.ensures.place ∙ ap (λ (n : ℕ). 4096 * n) waits.placed in
    let at = 4096 * chain_end 0 told.records in
    let behind_trail : ChangesBehind at g.D.Device c.read_trail.new.device c.write_out-ending.new.device =
    subst (λ (n : ℕ). ChangesBehind n g.D.Device c.read_trail.new.device c.write_out-ending.new.device) placed c.write_out-ending.ensures.behind in
    serving c.args.plan.now image (g.D.Device.size c.args.device.now) c.serve_all-served.new.entries c.count_acknowledged-acknowledged.result c.write_out-ending.result (g.D.Device.contents c.write_out-ending.new.device) (g.D.Device.may_leave c.write_out-ending.new.device) (g.D.Device.may_leave c.args.device.now) (g.D.Device.clock c.args.device.now) (g.D.Device.clock c.write_out-ending.new.device) (g.D.Device.left_since c.write_out-ending.new.device) told.records logged.0 trail.objects c.serve_all-served.new.objects c.new-queue.result.rest c.serve_all-served.new.queue.rest c.requires.first told.is_trail told.objects (omega (arith, waits.room, ap length waits.spelled, c.read_trail.ensures.read.size, c.sync.ensures.size)) acked c.count_acknowledged-acknowledged.ensures.none (few_acknowledged c.write_out-ending.result c.count_acknowledged-acknowledged.result (length c.serve_all-served.new.entries) acked c.count_acknowledged-acknowledged.ensures.none) logged.1 logged.2 (written_moments g.D.Device at image c.args.device.now c.sync.new.self c.read_trail.new.device c.write_out-ending.new.device c.sync.ensures.images c.sync.ensures.time c.read_trail.ensures.read g.met.D.Device.only_now only behind_trail) (written_images g.D.Device at image c.read_trail.new.device c.write_out-ending.new.device only behind_trail) (λ b is. behind_trail.contents image b read is) c.serve_all-served.result c.serve_all-served.ensures.entries c.serve_all-served.ensures.all c.write_out-ending.ensures.served (on_ok_weaker c.serve_all-served.result (λ (queues : Queues trail.objects c.serve_all-served.new.objects c.new-queue.result c.serve_all-served.new.queue).
    let queued = queues (behind told.records (g.D.Device.size c.read_trail.new.device)) [] waits in
    if_none _ _ c.write_out-ending.result (keeps_objects told.records queued.0 (g.D.Device.contents c.write_out-ending.new.device) (g.D.Device.may_leave c.write_out-ending.new.device) c.serve_all-served.new.objects (queued.2 ∙ ap (after_pieces (pieces_of queued.0)) told.objects)) (c.write_out-ending.ensures.kept image told.records queued.0 read told.is_trail only queued.1)) c.serve_all-served.ensures.queued)
