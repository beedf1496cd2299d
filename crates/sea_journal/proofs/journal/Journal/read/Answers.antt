use Rattle.std.proofs.Common.{◌≡◌, ◌+◌, ◌*◌, ℕ, List, length, sym, ap, ◌∙◌, arith}
use Rattle.std.proofs.Common.{rules}
use Rattle.std.specs.Prelude.{slice_range}
use Rattle.std.proofs.lemmas.Option.{MatchOption-at_none}
use Rattle.sea_record.proofs.Encoding.{written_back}
use Rattle.sea_journal.specs.Blocks.{IsQueued}
use Rattle.sea_journal.proofs.Journals.{OnOk-here}
use Rattle.sea_journal.proofs.BlocksNow.{block_queued, block_unqueued}
use Rattle.sea_journal.proofs.Calls.{IfSome-at, IfSome-from}
use Rattle.sea_journal.proofs.journal.Journal.read.Goals as goal

pub returns-in-Some-clause-block : goal.returns-in-Some-clause-block
returns-in-Some-clause-block g c =
    let j = c.args.self.now in
    IfSome-from (g.D.Device.contents j.device) _ (λ image told.
    let size = (g.met.D.Device.whole j.device image told).size in
    c.in_ok-new.ensures ∙ c.in-Some.ensures.1 ∙ sym (block_queued j.queue image c.args.at.0 c.in-Some.ensures.0 (omega (arith, size, j.room, j.queue.within))))

pub returns-clause-block : goal.returns-clause-block
returns-clause-block g c =
    let j = c.args.self.now in
    let bytes = c.in_ok-bytes.bytes in
    let into = c.read.new.into in
    let value = c.deref_mut.ensures.value in
    let same : length into ≡ length bytes.items = c.read.auto.into ∙ ap length value in
    let len : length c.deref_mut.result.now ≡ 4096 = search rules in
    let other : IsQueued j.queue c.args.at.0 → ⊥ = MatchOption-at_none _ _ c.in_default.is c.block.ensures in
    IfSome-from (g.D.Device.contents j.device) _ (λ image told.
    let size = (g.met.D.Device.whole j.device image told).size in
    let end : 4096 * c.args.at.0 + length c.deref_mut.result.now ≡ 4096 * (c.args.at.0 + 1) = omega arith in
    let here : into ≡ slice_range image (4096 * c.args.at.0) (4096 * c.args.at.0 + length c.deref_mut.result.now) =
    IfSome-at (λ (b : List ℕ). into ≡ slice_range b (4096 * c.args.at.0) (4096 * c.args.at.0 + length c.deref_mut.result.now)) image told (OnOk-here c.read.result (sym c.is_err.ensures.value ∙ c.if-is_err.false) c.read.ensures.bytes) in
    c.in_ok-from_vec.ensures ∙ written_back into bytes.items bytes.len bytes.ok.0 same ∙ here
    ∙ ap (λ (e : ℕ). slice_range image (4096 * c.args.at.0) e) end
    ∙ sym (block_unqueued j.queue image c.args.at.0 other (omega (arith, size, j.room, j.queue.within))))
