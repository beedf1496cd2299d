use Rattle.std.proofs.Common.{◌≡◌, ℕ, ◌<◌, ◌≤◌, get_or}
use Rattle.sea_base.proofs.field.is_zero.Given as goal

abbrev pub invariant-loop-byte : goal.invariant-loop-byte
invariant-loop-byte l = record {
  greatest : (k : ℕ) → k < l.byte-index → get_or l.bytes k 0 ≤ l.greatest;
  zero : ((k : ℕ) → get_or l.bytes k 0 ≡ 0) → l.greatest ≡ 0;
}
