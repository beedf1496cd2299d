-- How many bytes metadata takes.
use Rattle.std.proofs.Common.{◌≡◌, Bool, if◌then◌else◌, ℕ, ◌+◌, ◌*◌, ◌<◌, ◌≤◌, List, [], ◌∷◌, ◌++◌, length, get_or, take, drop, refl, sym, ap, ◌∙◌, arith, length-append, take-append-drop}
use Rattle.std.specs.List.{flat_map}
use Rattle.std.proofs.lemmas.List.{append-nil, length-map, take_more}
use Rattle.std.proofs.lemmas.List.Concat.{flat_map-append}
use Rattle.sea_base.specs.declared.place.Laddr.{Laddr}
use Rattle.sea_record.specs.Entries.{mark_bytes, address_bytes, change_bytes, counted}
use Rattle.sea_record.specs.Parts.{spelled_mark, metadata_of, mark_of}
use Rattle.sea_record.specs.Record.{listed, metadata}
use Rattle.sea_record.specs.declared.entry.Mark.{Mark}
use Rattle.sea_record.specs.declared.record.Body.{Body}
use Rattle.sea_record.specs.declared.record.Change.{Change}
use Rattle.sea_record.proofs.EntryBytes.{length-mark_bytes, length-address_bytes, length-change_bytes}
use Rattle.sea_record.proofs.EntryLists.{length-counted}
use Rattle.sea_record.proofs.Metadatas.{lists, not_none, spelled_plain, spelled_lists}
use Rattle.sea_record.proofs.RecordRules.{listed_is}
use Rattle.sea_record.proofs.Records.{metadata_is}

length-marks : (xs : List Mark) → length (flat_map spelled_mark xs) ≡ 24 * length xs
length-marks [] = refl
length-marks (x ∷ xs) =
    omega (arith, length-mark_bytes x.at.0 x.version.0 x.sum.0, length-marks xs, length-append (spelled_mark x) (flat_map spelled_mark xs))

length-addresses : (xs : List Laddr) → length (flat_map address_bytes xs) ≡ 8 * length xs
length-addresses [] = refl
length-addresses (x ∷ xs) =
    omega (arith, length-address_bytes x, length-addresses xs, length-append (address_bytes x) (flat_map address_bytes xs))

pub metadata_plain : (body : Body) → listed body ≡ 0 → metadata body ≡ body.plain
metadata_plain body none = metadata_is body ∙ spelled_plain (metadata_of body) (listed_is body ∙ none)

pub metadata_lists : (body : Body) → 1 ≤ listed body → metadata body ≡ counted (λ p. mark_bytes p.at.0 p.version.0 p.sum.0) body.placed ++ counted address_bytes body.dropped ++ counted change_bytes body.changes
unfolding metadata
metadata_lists body some =
    ap (λ (b : Bool). if b then body.plain else counted (λ p. mark_bytes p.at.0 p.version.0 p.sum.0) body.placed ++ counted address_bytes body.dropped ++ counted change_bytes body.changes) (not_none (listed body) some)

pub length-metadata : (body : Body) → 1 ≤ listed body → length (metadata body) ≡ 12 + 24 * length body.placed + 8 * length body.dropped + length (flat_map change_bytes body.changes)
unfolding lists
length-metadata body some =
    let m = metadata_of body in
    let a = counted spelled_mark m.marks in
    let b = counted address_bytes m.dropped in
    let c = counted change_bytes m.changes in
    let marks : length (flat_map spelled_mark m.marks) ≡ 24 * length m.marks = length-marks m.marks in
    let drops : length (flat_map address_bytes m.dropped) ≡ 8 * length m.dropped = length-addresses m.dropped in
    omega (arith, ap length (metadata_is body ∙ spelled_lists m (omega (arith, listed_is body))), length-append a (b ++ c), length-append b c, length-counted spelled_mark m.marks, length-counted address_bytes m.dropped, length-counted change_bytes m.changes, marks, drops, length-map body.placed mark_of)

-- the changes at the front take no more bytes than all
pub front_bytes : (n : ℕ) (xs : List Change) → length (flat_map change_bytes (take n xs)) ≤ length (flat_map change_bytes xs)
front_bytes n xs =
    omega (arith, ap (λ (ys : List Change). length (flat_map change_bytes ys)) (take-append-drop n xs), ap length (flat_map-append change_bytes (take n xs) (drop n xs)), length-append (flat_map change_bytes (take n xs)) (flat_map change_bytes (drop n xs)))

pub more_bytes : (xs : List Change) (i : ℕ) (x : Change) → i < length xs → x ≡ get_or xs i x → length (flat_map change_bytes (take (i + 1) xs)) ≡ length (flat_map change_bytes (take i xs)) + (14 + length x.delta.put)
more_bytes xs i x within is =
    let more : flat_map change_bytes (take (i + 1) xs) ≡ flat_map change_bytes (take i xs) ++ flat_map change_bytes (x ∷ []) =
    ap (flat_map change_bytes) (take_more xs i x within ∙ ap (λ (y : Change). take i xs ++ y ∷ []) (sym is)) ∙ flat_map-append change_bytes (take i xs) (x ∷ []) in
    omega (arith, ap length more, length-append (flat_map change_bytes (take i xs)) (flat_map change_bytes (x ∷ [])), ap length (append-nil (change_bytes x)), length-change_bytes x)
