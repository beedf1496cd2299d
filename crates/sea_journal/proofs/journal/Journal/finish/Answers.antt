use Rattle.std.proofs.Common.{◌≡◌, ◌*◌, ◌≤◌, ◌<◌, ℕ, List, length, refl, ap, ◌∙◌, subst, arith}
use Rattle.std.specs.Option.{option_map}
use Rattle.sea_device.specs.Device.{Torn, overwritten}
use Rattle.sea_trail.specs.Trail.{header_block}
use Rattle.sea_journal.specs.Changes.{ChangesBy}
use Rattle.sea_journal.specs.declared.roll.Roll.{Roll}
use Rattle.sea_journal.proofs.Calls.{IfSome-at}
use Rattle.sea_journal.proofs.Rolling.{finished_has}
use Rattle.sea_journal.proofs.journal.Journal.finish.Goals as goal

pub returns-clause-ok : goal.returns-clause-ok
returns-clause-ok g c = λ log has.
    let D = g.D.Device in
    let j = c.args.self.now in
    let roll = c.in-Some.roll in
    let at = c.header_block.ensures in
    let bytes = c.bytes.ensures.bytes in
    let size = c.bytes.ensures.length in
    let changes : ChangesBy (Torn (4096 * header_block roll.header.segment) 4096) D j.device c.put_blocks.new.device =
    subst (λ (n : ℕ). ChangesBy (Torn (4096 * n) 4096) D j.device c.put_blocks.new.device) at
    (subst (λ (m : ℕ). ChangesBy (Torn (4096 * c.header_block.result) m) D j.device c.put_blocks.new.device) (ap length bytes ∙ size) c.put_blocks.ensures.changes) in
    let written : D.contents c.put_blocks.new.device ≡ option_map (overwritten (4096 * header_block roll.header.segment) roll.block) (D.contents j.device) =
    c.in_ok-put_blocks.ensures.written ∙ ap (λ (n : ℕ). option_map (overwritten (4096 * n) c.bytes.result.now) (D.contents j.device)) at
    ∙ ap (λ (b : List ℕ). option_map (overwritten (4096 * header_block roll.header.segment) b) (D.contents j.device)) bytes in
    let below : roll.header.segment < length j.table = IfSome-at (λ (r : Roll). r.header.segment < length j.table) roll c.in-Some.is j.next in
    let whole = (g.met.D.Device.whole j.device has.image has.told).size in
    finished_has log j _ roll has c.in-Some.is changes size (omega (arith, j.fits)) written c.in_ok-put_blocks.ensures.alone c.open.ensures refl refl
