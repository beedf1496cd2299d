-- A piece of a commit laid, and the notes of its object moved on.
use Rattle.std.proofs.Common.{◌≡◌, ℕ, Bool, true, false, cond, nat_eq, List, [], ◌∷◌, Option, Some, None, refl, sym, ap, ◌∙◌}
use Rattle.std.specs.Prelude.{option_map, unwrap_or}
use Rattle.std.specs.Ordering.{nat_cmp, eq_by_cmp}
use Rattle.std.specs.Cmp.Lexicographic.{slice_cmp, nat_list_cmp_total}
use Rattle.std.specs.FinMap.{get, get-insert}
use Rattle.std.proofs.lemmas.Option.{none-some, same_Some}
use Rattle.sea_base.specs.declared.place.Commit.{Commit}
use Rattle.sea_sets.specs.declared.notes.Change.{Change}
use Rattle.sea_sets.specs.declared.notes.Note.{Note}
use Rattle.sea_sets.specs.Versions.{moved_on}
use Rattle.sea_pieces.specs.declared.committed.Version.{Version}
use Rattle.sea_pieces.specs.declared.piece.Piece.{Piece}
use Rattle.sea_pieces.specs.Committed.{VersionMap, content_of, version_of, with_piece}
use Rattle.sea_pieces.specs.Laying.{laid}

-- what was noted before, of a note that a change at `here` moved on
pub record Moved (commit : Commit) (here at : ℕ) (old : Option Note) (note : Note) : Type 0 where
  pub was : Note
  pub found : old ≡ Some was
  pub seen : note.seen ≡ was.seen
  pub current : note.current ≡ cond (nat_eq here at) (Some commit) was.current

pub moved : (commit : Commit) (change : Change) (at : ℕ) (old : Option Note) (note : Note) → change.gone ≡ false → moved_on commit (change ∷ []) at old ≡ Some note → Moved commit change.at.0 at old note
moved commit change at None note stays is = absurd (none-some note is)
moved commit change at (Some was) note stays is = record {
  was = was;
  found = refl;
  seen = ap (λ (n : Note). n.seen) (sym (same_Some _ note is));
  current = ap (λ (n : Note). n.current) (sym (same_Some _ note is)) ∙ ap (λ (g : Bool). cond (nat_eq change.at.0 at) (cond g None (Some commit)) was.current) stays;
}

-- the version of an object once a piece was laid
pub version_laid : (commit : Commit) (piece : Piece) (m : VersionMap) (name : List ℕ) → version_of (with_piece commit piece m) name ≡ cond (eq_by_cmp (slice_cmp nat_cmp) name piece.name) (Some commit) (version_of m name)
version_laid commit piece m name =
    let now : Version = record { commit = commit; content = laid piece.offset piece.bytes (unwrap_or (content_of m piece.name) []) } in
    ap (option_map (λ (v : Version). v.commit)) (get-insert nat_list_cmp_total m piece.name now name) ∙ go (eq_by_cmp (slice_cmp nat_cmp) name piece.name) now (get m name)
  where
    go : (b : Bool) (now : Version) (rest : Option Version) → option_map (λ (v : Version). v.commit) (cond b (Some now) rest) ≡ cond b (Some now.commit) (option_map (λ (v : Version). v.commit) rest)
    go true now rest = refl
    go false now rest = refl
