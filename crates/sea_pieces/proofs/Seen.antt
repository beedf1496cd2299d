-- An object's bytes with one piece more laid over them.
use Rattle.std.proofs.Common.{◌≡◌, ℕ, ◌+◌, ◌<◌, Bool, true, false, cond, List, [], ◌∷◌, length, take, get_or, Option, Some, refl, sym, ap, ◌∙◌}
use Rattle.std.specs.Prelude.{option_map, unwrap_or}
use Rattle.std.specs.Ordering.{nat_cmp, eq_by_cmp}
use Rattle.std.specs.Cmp.Lexicographic.{slice_cmp}
use Rattle.std.specs.FinMap.{get}
use Rattle.std.proofs.lemmas.List.{take_more}
use Rattle.std.proofs.lemmas.Map.Lookups.{exact_bytes}
use Rattle.std.proofs.lemmas.Map.Views.{tells_apart}
use Rattle.sea_object.specs.Answer.{with_bytes}
use Rattle.sea_object.specs.Objects.{ObjectMap, ObjectValue}
use Rattle.sea_object.proofs.Lookups.{get-insert_same}
use Rattle.sea_pieces.specs.declared.piece.Piece.{Piece}
use Rattle.sea_pieces.specs.Committed.{plain_object}
use Rattle.sea_pieces.specs.Laying.{after_piece, after_pieces, laid, object_under}
use Rattle.sea_pieces.specs.LayingLaws.{after_pieces-append}
use Rattle.sea_pieces.proofs.Shared.{get-after_piece}
use Rattle.sea_pieces.proofs.Versions.{object_laid}

-- a piece of another object changes nothing here
pub elsewhere : (piece : Piece) (objects : ObjectMap) (name : List ℕ) → (piece.name ≡ name → ⊥) → get (after_piece piece objects) name ≡ get objects name
elsewhere piece objects name differ = other (eq_by_cmp (slice_cmp nat_cmp) name piece.name) refl
  where
    other : (b : Bool) → eq_by_cmp (slice_cmp nat_cmp) name piece.name ≡ b → get (after_piece piece objects) name ≡ get objects name
    other true is = absurd (differ (sym (tells_apart exact_bytes name piece.name is)))
    other false is =
        get-after_piece piece objects name
        ∙ ap (λ b. cond b (Some (with_bytes (laid piece.offset piece.bytes (object_under objects piece.name).bytes) (object_under objects piece.name))) (get objects name)) is

pub passed : (piece : Piece) (objects : ObjectMap) (name : List ℕ) (found : Option (List ℕ)) → (piece.name ≡ name → ⊥) → option_map plain_object found ≡ get objects name → option_map plain_object found ≡ get (after_piece piece objects) name
passed piece objects name found differ e = e ∙ sym (elsewhere piece objects name differ)

-- a piece of this object is laid over it
pub reached : (piece : Piece) (objects : ObjectMap) (name : List ℕ) (found now : Option (List ℕ)) → piece.name ≡ name → now ≡ Some (laid piece.offset piece.bytes (unwrap_or found [])) → option_map plain_object found ≡ get objects name → option_map plain_object now ≡ get (after_piece piece objects) name
reached piece objects name found now same is e =
    ap (option_map plain_object) is
    ∙ ap (λ (o : ObjectValue). Some o) (sym (object_laid objects piece found (e ∙ ap (get objects) (sym same))))
    ∙ sym (get-insert_same objects piece.name _)
    ∙ ap (get (after_piece piece objects)) same

pub after_more : (pieces : List Piece) (i : ℕ) (p q : Piece) (objects : ObjectMap) → i < length pieces → p ≡ get_or pieces i q → after_pieces (take (i + 1) pieces) objects ≡ after_piece p (after_pieces (take i pieces) objects)
after_more pieces i p q objects below is =
    ap (λ (ps : List Piece). after_pieces ps objects) (take_more pieces i q below)
    ∙ after_pieces-append (take i pieces) (get_or pieces i q ∷ []) objects
    ∙ ap (λ (x : Piece). after_piece x (after_pieces (take i pieces) objects)) (sym is)

-- pieces of other objects, and one more
pub elsewhere_more : (pieces : List Piece) (i : ℕ) (p : Piece) (name : List ℕ) → i < length pieces → p ≡ get_or pieces i p → (p.name ≡ name → ⊥) → ((objects : ObjectMap) → get (after_pieces (take i pieces) objects) name ≡ get objects name) → (objects : ObjectMap) → get (after_pieces (take (i + 1) pieces) objects) name ≡ get objects name
elsewhere_more pieces i p name below is differ before objects =
    ap (λ (o : ObjectMap). get o name) (after_more pieces i p p objects below is)
    ∙ elsewhere p (after_pieces (take i pieces) objects) name differ
    ∙ before objects
