use Rattle.std.proofs.Common.{◌≡◌, ℕ, ◌+◌, ◌*◌, List, [], length, replicate, sym, ap, ◌∙◌, subst}
use Rattle.std.specs.Prelude.{Some, IfSome, vec_len}
use Rattle.std.proofs.lemmas.Bool.{eqb-true}
use Rattle.std.specs.Option.{option_map}
use Rattle.std.proofs.lemmas.Result.{on_ok_weaker}
use Rattle.std.proofs.lemmas.List.{append-nil}
use Rattle.sea_device.specs.Device.{overwritten}
use Rattle.sea_top.specs.Trail.{chain_end, last_digest}
use Rattle.sea_top.specs.Batch.{batch}
use Rattle.sea_top.proofs.Outcomes.{both_ok}
use Rattle.sea_top.proofs.Batches.{none_spelled, batch_trail}
use Rattle.sea_top.proofs.queue.Queue.write.Goals as goal

pub returns-then-is_empty-clause-kept : goal.returns-then-is_empty-clause-kept
returns-then-is_empty-clause-kept g c image records news held trail only waits =
    let none : news ≡ [] = none_spelled (1 + length records) (last_digest (replicate 32 0) records) news waits.linked (ap length (sym waits.spelled) ∙ sym c.args.self.bytes.ok.0 ∙ eqb-true (vec_len c.args.self.bytes) 0 (sym c.is_empty.ensures ∙ c.if-is_empty.true)) in
    record {
      image = image;
      held = held;
      trail = rw none (rw (append-nil records) trail);
      only = only;
    }

pub returns-clause-kept : goal.returns-clause-kept
returns-clause-kept g c image records news held trail only waits =
    let queue = c.args.self in
    let at = 4096 * chain_end 0 records in
    let size = (g.met.D.Device.whole c.args.device.now image held).size in
    let grown = overwritten at (batch queue.bytes.items queue.rest) image in
    let placed : 4096 * queue.place.0 ≡ at = ap (λ (n : ℕ). 4096 * n) waits.placed in
    on_ok_weaker c.write_behind.result (λ (done : (g.D.Device.contents c.write_behind.new.device ≡ option_map (overwritten (4096 * queue.place.0) (batch queue.bytes.items queue.rest)) (g.D.Device.contents c.args.device.now)) × ((i : List ℕ) → g.D.Device.may_leave c.write_behind.new.device i → IfSome (g.D.Device.contents c.write_behind.new.device) (λ b. i ≡ b))).
    let holds : g.D.Device.contents c.write_behind.new.device ≡ Some grown =
    done.0 ∙ ap (option_map (overwritten (4096 * queue.place.0) (batch queue.bytes.items queue.rest))) held ∙ ap (λ (n : ℕ). Some (overwritten n (batch queue.bytes.items queue.rest) image)) placed in
    record {
      image = grown;
      held = holds;
      trail = batch_trail image queue.bytes.items records news queue.rest trail waits.spelled waits.linked (waits.room ∙ sym size);
      only = λ i leaves. subst (λ o. IfSome o (λ b. i ≡ b)) holds (done.1 i leaves);
    }) (both_ok _ _ c.write_behind.result c.write_behind.ensures.written c.write_behind.ensures.stable)
