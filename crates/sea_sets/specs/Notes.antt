-- What a transaction noted of the addresses that it read.
use Rattle.std.specs.Prelude.{◌≡◌, ◌≢◌, ℕ, ◌<◌, Option, Some}
use Rattle.std.specs.Ordering.{nat_cmp}
use Rattle.std.specs.BTreeMap.{get}
use Rattle.sea_base.specs.declared.place.Commit.{Commit}
use Rattle.sea_sets.specs.Versions.{Stands, first_note}
use Rattle.sea_sets.specs.declared.notes.Note.{Note}
use Rattle.sea_sets.specs.declared.notes.Notes.{Notes}

-- what is noted of an address
abbrev pub note_at : Notes → ℕ → Option Note
note_at notes at = get nat_cmp notes.notes at

-- an address has its first note, and nothing else changes
pub record Notices (at : ℕ) (seen : Option Commit) (old new : Notes) : Type 0 where
  pub here : note_at new at ≡ Some (first_note (note_at old at) seen)
  pub others : (q : ℕ) → q ≢ at → note_at new q ≡ note_at old q

abbrev pub StandStill : Notes → Notes → Type 0
StandStill old new = (at : ℕ) → note_at new at ≡ note_at old at

-- this is the note of the least address whose version has moved
pub record IsFirstMoved (notes : Notes) (at : ℕ) (note : Note) : Type 0 where
  pub noted : note_at notes at ≡ Some note
  pub moved : note.current ≢ note.seen
  pub least : (q : ℕ) → q < at → Stands (note_at notes q)
