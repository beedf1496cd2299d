-- A list of names and bytes, scanned from the front, against the map that it makes.
use Rattle.std.proofs.Common.{◌≡◌, ℕ, ◌+◌, ◌<◌, Bool, true, false, cond, Option, None, Some, List, [], ◌∷◌, length, get_or, drop, map, unwrap_or, refl, sym, ap, ◌∙◌}
use Rattle.std.specs.Prelude.{option_map, nat_eq}
use Rattle.std.specs.Ordering.{nat_cmp}
use Rattle.std.specs.Cmp.Lexicographic.{slice_cmp, pointwise, texts_ties}
use Rattle.std.specs.Map.{lookup}
use Rattle.std.specs.BTreeMap.{is_at}
use Rattle.std.specs.FinMap.{get}
use Rattle.std.proofs.lemmas.Cmp.{nat_list_eq_equiv}
use Rattle.std.proofs.lemmas.List.{at_drop_more}
use Rattle.sea_plain.specs.Objects.{ObjectValue, empty_object, object_at}
use Rattle.sea_plain.specs.Scan.{objects_of, newest}
use Rattle.sea_plain.proofs.Lookups.{get_entry}

-- an object that has bytes alone
abbrev pub plain_object : List ℕ → ObjectValue
plain_object bytes = record empty_object { bytes = bytes }

-- one step of the scan
pub newest_more : (name : List ℕ) (written : List (List ℕ × List ℕ)) (i : ℕ) (e : List ℕ × List ℕ) → i < length written → e ≡ get_or written i e → newest name (drop i written) ≡ cond (pointwise nat_eq e.0 name) (Some e.1) (newest name (drop (i + 1) written))
newest_more name written i e within is =
    at_drop_more (newest name) written i e within
    ∙ ap (λ (first : List ℕ × List ℕ). newest name (first ∷ drop (i + 1) written)) (sym is)
    ∙ ap (λ b. cond b (Some e.1) (newest name (drop (i + 1) written))) (sym (texts_ties name e.0) ∙ nat_list_eq_equiv.symm name e.0)

chosen : {A B : Type 0} (f : A → B) (b : Bool) (x : A) (rest : Option A) → cond b (Some (f x)) (option_map f rest) ≡ option_map f (cond b (Some x) rest)
chosen f true x rest = refl
chosen f false x rest = refl

scanned : (name : List ℕ) (written : List (List ℕ × List ℕ)) → lookup (is_at (slice_cmp nat_cmp name)) (map (λ e. (e.0, plain_object e.1)) written) ≡ option_map plain_object (newest name written)
scanned name [] = refl
scanned name (e ∷ written) =
    ap (cond (is_at (slice_cmp nat_cmp name) e.0) (Some (plain_object e.1))) (scanned name written)
    ∙ chosen plain_object (is_at (slice_cmp nat_cmp name) e.0) e.1 (newest name written)

-- what the map has at a name is what the scan finds
pub get_newest : (written : List (List ℕ × List ℕ)) (name : List ℕ) → get (objects_of written) name ≡ option_map plain_object (newest name written)
get_newest written name = get_entry (map (λ e. (e.0, plain_object e.1)) written) name ∙ scanned name written

unwrapped : (found : Option (List ℕ)) → unwrap_or (option_map plain_object found) empty_object ≡ plain_object (unwrap_or found [])
unwrapped None = refl
unwrapped (Some bytes) = refl

pub object_newest : (written : List (List ℕ × List ℕ)) (name : List ℕ) → object_at (objects_of written) name ≡ plain_object (unwrap_or (newest name written) [])
object_newest written name = ap (λ found. unwrap_or found empty_object) (get_newest written name) ∙ unwrapped (newest name written)
