-- What a board notes of the objects that transactions read.
use Rattle.std.specs.Prelude.{◌≡◌, ◌≢◌, ◌⊎◌, ℕ, ◌+◌, ◌<◌, ◌≤◌, List, length, Option, Some, None}
use Rattle.std.specs.Option.{ForSome}
use Rattle.std.specs.FinMap as map
use Rattle.sea_base.specs.declared.place.Commit.{Commit}
use Rattle.sea_sets.specs.Board.{is_open_in, noted, place_of}
use Rattle.sea_sets.specs.declared.board.Board.{Board}
use Rattle.sea_sets.specs.declared.notes.Note.{Note}
use Rattle.sea_pieces.specs.Addresses.{AddressMap}
use Rattle.sea_pieces.specs.Committed.{VersionMap, version_of}

-- a version that a commit up to this one left
abbrev pub IsUpTo : Commit → Option Commit → Type 0
IsUpTo last version = ForSome version (λ commit. commit.0 ≤ last.0)

-- no object has a version past the last commit
abbrev pub AreUpTo : Commit → VersionMap → Type 0
AreUpTo last committed = (name : List ℕ) → IsUpTo last (version_of committed name)

-- A note stands at an address that was given, tells the version that the object of that name has
-- now, and found one that was there.
pub record AreNoted (committed : VersionMap) (addresses : AddressMap) (last : Commit) (board : Board)
    : Type 0 where
  pub given : (client at : ℕ) → ForSome (noted board client at) (λ _. at < 2 + map.len addresses)
  pub current : (client at : ℕ) (name : List ℕ) → map.get addresses name ≡ Some at →
      ForSome (noted board client at) (λ note. note.current ≡ version_of committed name)
  pub seen : (client at : ℕ) → ForSome (noted board client at) (λ note. IsUpTo last note.seen)

-- each version that was found is one from before this commit
abbrev pub AreBefore : Commit → Board → Type 0
AreBefore commit board = (client at : ℕ) → ForSome (noted board client at)
    (λ note. ForSome note.seen (λ seen. seen.0 < commit.0))

-- A note as a commit leaves it: what was found stays, and the version there now is the same or the
-- commit's.
pub record IsMarked (commit : Commit) (old new : Note) : Type 0 where
  pub seen : new.seen ≡ old.seen
  pub current : (new.current ≡ old.current) ⊎ (new.current ≡ Some commit)

-- a commit left the notes of all but this client so, and the same transactions of theirs are open
pub record AreMarked (client : ℕ) (commit : Commit) (old new : Board) : Type 0 where
  pub is_open : (c : ℕ) → c ≢ client → is_open_in (place_of new c) ≡ is_open_in (place_of old c)
  pub left : (c at : ℕ) (note : Note) → c ≢ client → noted old c at ≡ Some note →
      (now : Note) × (noted new c at ≡ Some now) × IsMarked commit note now
  pub none : (c at : ℕ) → c ≢ client → noted old c at ≡ None → noted new c at ≡ None
  pub clients : length new.transactions.items ≡ length old.transactions.items
