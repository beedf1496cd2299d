use Rattle.std.proofs.Common.{◌≡◌, ◌+◌, ◌-◌, ◌*◌, ℕ, List, length, take, drop, ap, ◌∙◌, arith}
use Rattle.std.proofs.lemmas.List.{length-drop, length-take-le}
use Rattle.sea_journal.proofs.Queues.{padded-some}
use Rattle.sea_journal.proofs.queue.Queue.block.Goals as goal

pub returns : goal.returns
returns c =
    let q = c.args.self.now in
    let n = c.args.at.0 - q.start.0 in
    let low = c.if-at-self.false in
    let high = c.if-at-self-2.false in
    let bytes = c.deref.result.now in
    let count : 4096 * n + 4096 - 4096 * n ≡ 4096 * (n + 1) - 4096 * n = omega arith in
    let one : 4096 * n + 4096 - 4096 * n ≡ 4096 = omega arith in
    let size : length bytes ≡ 4096 * (q.place.0 - q.start.0) + 4096 = ap length c.deref.ensures.value ∙ omega (arith, q.bytes.ok.0, q.padded, padded-some (q.place.0 - q.start.0) (omega arith)) in (
      (omega arith, omega arith),
      ap (λ (k : ℕ). take k (drop (4096 * n) bytes)) count ∙ ap (λ (b : List ℕ). take (4096 * (n + 1) - 4096 * n) (drop (4096 * n) b)) c.deref.ensures.value,
      length-take-le (4096 * n + 4096 - 4096 * n) (drop (4096 * n) bytes) (omega (arith, length-drop (4096 * n) bytes)) ∙ one,
    )
