-- What was noted of an address, and what commits make of that.
use Rattle.std.specs.Prelude.{◌≡◌, ◌≢◌, ℕ, ◌<◌, List, [], ◌∷◌, Option, Some, None, if◌then◌else◌, nat_eq}
use Rattle.std.specs.Option.{ForSome, option_map}
use Rattle.std.specs.Ordering.{nat_cmp}
use Rattle.std.specs.BTreeMap.{BTreeMap, get}
use Rattle.sea_base.specs.declared.place.Commit.{Commit}
use Rattle.sea_sets.specs.declared.board.Conflict.{Conflict}
use Rattle.sea_sets.specs.declared.notes.Change.{Change}
use Rattle.sea_sets.specs.declared.notes.Note.{Note}

-- the version that a commit leaves at an address that it changed
abbrev pub version_left : Commit → Change → Option Commit
version_left commit change = if change.gone then None else Some commit

-- The version at an address after these changes of a commit, of which the last one counts.
abbrev pub version_after : Commit → List Change → ℕ → Option Commit → Option Commit
version_after commit [] at version = version
version_after commit (change ∷ changed) at version =
    version_after commit changed at
    (if nat_eq change.at.0 at then version_left commit change else version)

-- a note once a commit has made these changes: what was found stays
abbrev pub moved_on : Commit → List Change → ℕ → Option Note → Option Note
moved_on commit changed at =
    option_map {T = Note} (λ note. record note { current = version_after commit changed at note.current })

-- the version that was found is there now; of what isn't noted nothing is asked
abbrev pub Stands : Option Note → Type 0
Stands note = ForSome note (λ n. n.current ≡ n.seen)

-- the note of an address is the first that was made of it
abbrev pub first_note : Option Note → Option Commit → Note
first_note None seen = record { seen = seen; current = seen }
first_note (Some note) seen = note

-- nothing has moved
abbrev pub IsQuiet : BTreeMap ℕ Note → Type 0
IsQuiet notes = (at : ℕ) → Stands (get nat_cmp notes at)

-- no version that was found has moved
abbrev pub AllStand : (ℕ → Option Note) → Type 0
AllStand noted = (at : ℕ) → Stands (noted at)

-- this is the least address whose version has moved, with the version found and the one there now
pub record IsFirstConflict (noted : ℕ → Option Note) (conflict : Conflict) : Type 0 where
  pub found : noted conflict.at.0
      ≡ Some (record { seen = conflict.seen; current = conflict.current })
  pub moved : conflict.current ≢ conflict.seen
  pub least : (q : ℕ) → q < conflict.at.0 → Stands (noted q)
