-- Operations taken back.
use Rattle.std.proofs.Common.{◌≡◌, ℕ, IsSome, unwrap_or, List, Some, refl, sym, ap, subst, ◌∙◌}
use Rattle.std.specs.FinMap.{get, insert}
use Rattle.sea_plain.specs.declared.patch.Saved.{Saved}
use Rattle.sea_plain.specs.declared.objects.Undo.TheVariants.{Written}
use Rattle.sea_plain.specs.Objects.{ObjectMap, ObjectValue, object_at, empty_object}
use Rattle.sea_plain.specs.Answer.{written}
use Rattle.sea_plain.specs.Undo.{Fits, restored, CanUndo, undone}
use Rattle.sea_plain.proofs.Lookups.{insert-insert, get-insert_same}

-- the object of a name that was found
pub object_found : (objects : ObjectMap) (name : List ℕ) (object : ObjectValue) → get objects name ≡ Some object → object_at objects name ≡ object
object_found objects name object has = ap (λ found. unwrap_or found empty_object) has

-- a write into an object that was there
pub undo_written : (old new : ObjectMap) (name : List ℕ) (object changed : ObjectValue) (saved : Saved) (offset : ℕ) (bytes : List ℕ) → get old name ≡ Some object → new ≡ insert old name changed → changed ≡ record object { bytes = written offset bytes object.bytes } → Fits saved changed.bytes × (restored saved changed.bytes ≡ object.bytes) → CanUndo (Written saved) name new × (undone (Written saved) name new ≡ old)
undo_written old new name object changed saved offset bytes has is wrote kept =
    let there : get new name ≡ Some changed = ap (λ objects. get objects name) is ∙ get-insert_same old name changed in
    let at = object_found new name changed there in
    let back : record changed { bytes = restored saved changed.bytes } ≡ object =
    ap (λ (b : List ℕ). record changed { bytes = b }) kept.1 ∙ ap (λ (o : ObjectValue). record o { bytes = object.bytes }) wrote in
    let Done : ObjectValue → Type 0 = λ o. (IsSome (get new name) × Fits saved o.bytes) × (insert new name (record o { bytes = restored saved o.bytes }) ≡ old) in
    subst Done (sym at) ((subst IsSome (sym there) refl, kept.0), ap (insert new name) back ∙ ap (λ objects. insert objects name object) is ∙ insert-insert old name changed object has)
