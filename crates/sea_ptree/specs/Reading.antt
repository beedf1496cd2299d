-- What the parts of a block that are read stand for.
use Rattle.std.specs.Prelude.{◌≡◌, ℕ, ◌+◌, ◌-◌, ◌*◌, ◌≤◌, List, length, take, drop, replicate}
use Rattle.std.specs.Prelude.{slice_range}
use Rattle.std.specs.List.{AllByRecursion}
use Rattle.sea_ptree.specs.declared.kind.Kind.{Kind}
use Rattle.sea_ptree.specs.Node.{Entry, Fits, front_bytes, entries_bytes}

-- what stands around so many entries
pub record HasFront (kind : Kind) (level : ℕ) (bytes : List ℕ) (count : ℕ) : Type 0 where
  pub some : 1 ≤ count
  pub room : count ≤ 145
  pub front : take 32 bytes ≡ front_bytes kind level count
  pub zeros : drop (32 + 28 * count) bytes ≡ replicate (4064 - 28 * count) 0

-- the entries that stand behind the front
pub record AreRead (bytes : List ℕ) (count : ℕ) (entries : List Entry) : Type 0 where
  pub count_is : length entries ≡ count
  pub fits : AllByRecursion Fits entries
  pub spelled : slice_range bytes 32 (32 + 28 * count) ≡ entries_bytes entries
