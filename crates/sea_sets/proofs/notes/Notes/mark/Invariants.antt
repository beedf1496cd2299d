use Rattle.std.proofs.Common.{◌≡◌, ℕ, drop}
use Rattle.sea_sets.specs.Notes.{note_at}
use Rattle.sea_sets.specs.Versions.{moved_on}
use Rattle.sea_sets.proofs.notes.Notes.mark.Given as goal

-- what is left to be marked comes to what all the changes come to
abbrev pub invariant-loop-change : goal.invariant-loop-change
invariant-loop-change l = (at : ℕ) →
    moved_on l.commit (drop l.change-index l.changed) at (note_at l.self at) ≡ moved_on l.commit l.changed at (note_at l.fn.self at)
