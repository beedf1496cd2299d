-- The objects of a map of versions.
use Rattle.std.proofs.Common.{◌≡◌, ℕ, Bool, true, false, cond, List, [], ◌∷◌, Option, Some, None, refl, sym, ap, ◌∙◌}
use Rattle.std.specs.Prelude.{option_map, unwrap_or}
use Rattle.std.specs.Ordering.{nat_cmp, eq_by_cmp}
use Rattle.std.specs.Cmp.Lexicographic.{slice_cmp, nat_list_cmp_total}
use Rattle.std.specs.FinMap.{find, get, entries, get-empty, get-entries, get-insert, same_map}
use Rattle.std.proofs.lemmas.Map.Lookups.{exact_bytes}
use Rattle.sea_base.specs.declared.place.Commit.{Commit}
use Rattle.sea_object.specs.Answer.{with_bytes}
use Rattle.sea_object.specs.Objects.{ObjectMap, ObjectValue, empty_object}
use Rattle.sea_pieces.specs.declared.committed.Version.{Version}
use Rattle.sea_pieces.specs.declared.piece.Piece.{Piece}
use Rattle.sea_pieces.specs.Committed.{VersionMap, content_of, objects_in, objects_of, plain_object, with_piece}
use Rattle.sea_pieces.specs.Laying.{after_piece, laid, object_under}

abbrev object_of : Version → ObjectValue
object_of version = plain_object version.content

picked : (b : Bool) (v : Version) (rest : Option Version) → cond b (Some (object_of v)) (option_map object_of rest) ≡ option_map object_of (cond b (Some v) rest)
picked true v rest = refl
picked false v rest = refl

get-objects_of : (es : List (List ℕ × Version)) (q : List ℕ) → get (objects_of es) q ≡ option_map object_of (find (slice_cmp nat_cmp) q es)
get-objects_of [] q = get-empty (slice_cmp nat_cmp) q
get-objects_of (e ∷ es) q =
    get-insert nat_list_cmp_total (objects_of es) e.0 (object_of e.1) q
    ∙ ap (cond (eq_by_cmp (slice_cmp nat_cmp) q e.0) (Some (object_of e.1))) (get-objects_of es q)
    ∙ picked (eq_by_cmp (slice_cmp nat_cmp) q e.0) e.1 (find (slice_cmp nat_cmp) q es)

fields : (v : Option Version) → option_map object_of v ≡ option_map plain_object (option_map (λ v. v.content) v)
fields None = refl
fields (Some v) = refl

-- an object is there where its version is
pub get-objects_in : (m : VersionMap) (q : List ℕ) → get (objects_in m) q ≡ option_map plain_object (content_of m q)
get-objects_in m q = get-objects_of (entries m) q ∙ ap (option_map object_of) (sym (get-entries m q)) ∙ fields (get m q)

relaid : (offset : ℕ) (bytes : List ℕ) (found : Option (List ℕ)) → plain_object (laid offset bytes (unwrap_or found [])) ≡ with_bytes (laid offset bytes (unwrap_or (option_map plain_object found) empty_object).bytes) (unwrap_or (option_map plain_object found) empty_object)
relaid offset bytes None = refl
relaid offset bytes (Some old) = refl

-- what lies under a name once bytes are laid over it
pub object_laid : (objects : ObjectMap) (piece : Piece) (found : Option (List ℕ)) → option_map plain_object found ≡ get objects piece.name → with_bytes (laid piece.offset piece.bytes (object_under objects piece.name).bytes) (object_under objects piece.name) ≡ plain_object (laid piece.offset piece.bytes (unwrap_or found []))
object_laid objects piece found is =
    sym (relaid piece.offset piece.bytes found ∙ ap (λ (o : Option ObjectValue). with_bytes (laid piece.offset piece.bytes (unwrap_or o empty_object).bytes) (unwrap_or o empty_object)) is)

-- a piece makes of the versions what it makes of their objects
pub objects_with_piece : (commit : Commit) (piece : Piece) (m : VersionMap) → objects_in (with_piece commit piece m) ≡ after_piece piece (objects_in m)
objects_with_piece commit piece m = same_map nat_list_cmp_total exact_bytes _ _ (λ q.
    let now : List ℕ = laid piece.offset piece.bytes (unwrap_or (content_of m piece.name) []) in
    let v : Version = record { commit = commit; content = now } in
    let b = eq_by_cmp (slice_cmp nat_cmp) q piece.name in
    get-objects_of (entries (with_piece commit piece m)) q
    ∙ ap (option_map object_of) (sym (get-entries (with_piece commit piece m) q) ∙ get-insert nat_list_cmp_total m piece.name v q)
    ∙ sym (picked b v (get m q))
    ∙ ap (cond b (Some (plain_object now))) (fields (get m q) ∙ sym (get-objects_in m q))
    ∙ ap (λ (o : ObjectValue). cond b (Some o) (get (objects_in m) q)) (sym (object_laid (objects_in m) piece (content_of m piece.name) (sym (get-objects_in m piece.name))))
    ∙ sym (get-insert nat_list_cmp_total (objects_in m) piece.name _ q))
