use Rattle.std.proofs.Common.{◌≡◌, ℕ, List, length, drop}
use Rattle.sea_trail.specs.Trail.{AreHeaders}
use Rattle.sea_engine.proofs.Tables.{Covers}
use Rattle.sea_engine.proofs.opening.table_of.Given as goal

abbrev pub invariant-loop-header : goal.invariant-loop-header
invariant-loop-header l = record {
  count : length l.table ≡ l.trail.segments;
  covers : (image : List ℕ) → AreHeaders image 0 l.trail.segments l.headers
      → Covers image l.trail l.table (drop l.header-index l.headers);
}
