-- The rule of room.
use Rattle.std.specs.Prelude.{ℕ, ◌≤◌, ◌⊎◌}
use Rattle.sea_journal.specs.declared.room.Who.{Who}
use Rattle.sea_journal.specs.declared.room.Who.TheVariants.{Write, House, Free, Mount}

-- A record of so many blocks is taken. A write leaves two segments empty, a house step one, where
-- they roll; the last one is for a step that frees a segment and for an opening.
abbrev pub Takes : Who → ℕ → ℕ → ℕ → Type 0
Takes Write need rest empty = ((need ≤ rest) × (2 ≤ empty)) ⊎ (3 ≤ empty)
Takes House need rest empty = (need ≤ rest) ⊎ (2 ≤ empty)
Takes Free need rest empty = (need ≤ rest) ⊎ (1 ≤ empty)
Takes Mount need rest empty = (need ≤ rest) ⊎ (1 ≤ empty)
