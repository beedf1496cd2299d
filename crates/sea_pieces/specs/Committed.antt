-- The committed objects, with their versions.
use Rattle.std.specs.Prelude.{ℕ, List, [], ◌∷◌, Option, option_map, unwrap_or, refl}
use Rattle.std.specs.Coded.{Coded, code_by, coded×, coded_ℕ, coded_list}
use Rattle.std.specs.FinMap as map
use Rattle.sea_base.specs.declared.place.Commit.{Commit}
use Rattle.sea_object.specs.Objects.{Named, ObjectMap, ObjectValue}
use Rattle.sea_pieces.specs.declared.committed.Version.{Version}
use Rattle.sea_pieces.specs.declared.piece.Piece.{Piece}
use Rattle.sea_pieces.specs.Laying.{laid}

abbrev pub VersionMap : Type 0
VersionMap = Named Version

-- a version is stored as its commit's number and its bytes
abbrev pub version_code : Coded Version
version_code =
    code_by (ℕ × List ℕ)
    (coded× coded_ℕ (coded_list coded_ℕ))
    (λ v. (v.commit.0, v.content))
    (λ p. record { commit = record { 0 = p.0 }; content = p.1 })
    (λ _. refl)

-- an object of these bytes, without attributes and keys
abbrev pub plain_object : List ℕ → ObjectValue
plain_object bytes = record { bytes = bytes; attributes = map.empty; omap = map.empty }

-- the objects of these versions
abbrev pub objects_of : List (List ℕ × Version) → ObjectMap
objects_of [] = map.empty
objects_of (entry ∷ entries) =
    map.insert (objects_of entries) entry.0 (plain_object entry.1.content)

abbrev pub objects_in : VersionMap → ObjectMap
objects_in versions = objects_of (map.entries versions)

-- the version of an object is the last commit with a piece of it; none where there is no object
abbrev pub version_of : VersionMap → List ℕ → Option Commit
version_of versions name = option_map (λ v. v.commit) (map.get versions name)

abbrev pub content_of : VersionMap → List ℕ → Option (List ℕ)
content_of versions name = option_map (λ v. v.content) (map.get versions name)

-- the versions once a commit laid a piece over its object, which it makes where there is none
abbrev pub with_piece : Commit → Piece → VersionMap → VersionMap
with_piece commit piece versions =
    map.insert versions piece.name
    (record {
      commit = commit;
      content = laid piece.offset piece.bytes (unwrap_or (content_of versions piece.name) []);
    })

-- once it laid pieces over their objects in order
abbrev pub with_pieces : Commit → List Piece → VersionMap → VersionMap
with_pieces commit [] versions = versions
with_pieces commit (piece ∷ pieces) versions =
    with_pieces commit pieces (with_piece commit piece versions)
