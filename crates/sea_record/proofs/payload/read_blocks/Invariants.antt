use Rattle.std.proofs.Common.{◌≡◌, ◌+◌, ◌*◌, length, List, ℕ}
use Rattle.sea_record.proofs.Payloads.{Cut}
use Rattle.sea_record.proofs.payload.read_blocks.Given as goal

abbrev pub invariant-loop : goal.invariant-loop
invariant-loop l = record {
  count : length l.blocks ≡ l.counter;
  left : length l.rest + 4096 * l.counter ≡ 4096 * l.count;
  cut : Cut {A = List ℕ} (λ b. b) l.bytes l.blocks l.rest;
}
