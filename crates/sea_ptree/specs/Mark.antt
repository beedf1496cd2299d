-- Which node a block spells, of all kinds and levels.
use Rattle.std.specs.Prelude.{◌≡◌, ℕ, List, length, Option, Some, None}
use Rattle.sea_ptree.specs.declared.kind.Kind.{Kind}
use Rattle.sea_ptree.specs.declared.mark.Mark.{Mark}
use Rattle.sea_ptree.specs.Node.{Entry, Spells}

-- a block spells a node of this kind and level, with so many entries
pub record Marks (bytes : List ℕ) (mark : Mark) : Type 0 where
  pub entries : List Entry
  pub spells : Spells mark.kind bytes mark.level entries
  pub count : length entries ≡ mark.count

-- a block spells no node of any kind and level
abbrev pub SpellsNoNode : List ℕ → Type 0
SpellsNoNode bytes =
    (kind : Kind) (level : ℕ) (entries : List Entry) → Spells kind bytes level entries → ⊥

-- which node a block spells, or that it spells none
abbrev pub IsMarkOf : List ℕ → Option Mark → Type 0
IsMarkOf bytes None = SpellsNoNode bytes
IsMarkOf bytes (Some mark) = Marks bytes mark
