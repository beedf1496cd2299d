use Rattle.std.proofs.Common.{◌≡◌, ◌-◌, ◌≤◌, ℕ, take}
use Rattle.sea_base.specs.Field.{big_endian}
use Rattle.sea_node.specs.Reading.{IsSpan, key_in, entry_in}
use Rattle.sea_node.specs.Lookup.{HasValueOf}
use Rattle.sea_node.specs.Leap.{Leaps, moved_to}
use Rattle.sea_node.proofs.leap.leap.Given as goal

abbrev pub invariant-leap : goal.invariant-leap
invariant-leap l = record {
  leaps : (level : ℕ) → HasValueOf level (entry_in l.bytes l.first) → Leaps l.bytes level l.below l.first (moved_to l.first l.end);
  span : IsSpan l.bytes (moved_to l.first l.end);
  further : l.first.end ≤ l.end;
  word : take 8 (key_in l.bytes (moved_to l.first l.end)) ≡ big_endian 8 l.word;
}

abbrev pub decreases-leap : goal.decreases-leap
decreases-leap l = 4096 - l.end
