-- An object that is made where there is none.
use Rattle.std.proofs.Common.{◌≡◌, true, false, is_some, List, ℕ, Option, Some, None, unwrap_or, refl, sym, ap, ◌∙◌}
use Rattle.std.specs.FinMap as map
use Rattle.std.proofs.lemmas.Bool.{false≢true}
use Rattle.sea_plain.specs.Objects.{ObjectMap, ObjectValue, object_at, empty_object}
use Rattle.sea_plain.proofs.Lookups.{insert_same}

module _ (objects : ObjectMap) (name : List ℕ) where
  -- an object that is there stays as it is
  pub made_before : is_some (map.get objects name) ≡ true → objects ≡ map.insert objects name (object_at objects name)
  made_before some = go (map.get objects name) refl some
    where
      go : (found : Option ObjectValue) → map.get objects name ≡ found → is_some found ≡ true → objects ≡ map.insert objects name (object_at objects name)
      go None e some = absurd (false≢true some)
      go (Some object) e some = sym (ap (λ (o : Option ObjectValue). map.insert objects name (unwrap_or o empty_object)) e ∙ insert_same objects name object e)

  -- one that is not is made empty
  pub made_now : is_some (map.get objects name) ≡ false → empty_object ≡ object_at objects name
  made_now none = go (map.get objects name) none
    where
      go : (found : Option ObjectValue) → is_some found ≡ false → empty_object ≡ unwrap_or found empty_object
      go None none = refl
      go (Some object) none = absurd (false≢true (sym none))
