-- Slots of values: what they show, and changes of them noted and taken back.
use Rattle.std.proofs.Common.{◌≡◌, ℕ, ◌≤◌, length, Bool, true, false, cond, List, [], ◌∷◌, ◌++◌, Option, Some, None, refl, sym, ap, subst, ◌∙◌, arith}
use Rattle.std.specs.Prelude.{option_map, OnErr, OnOk, Result, Ok, Err}
use Rattle.std.specs.Option.{option_flatten}
use Rattle.std.specs.Ordering.{nat_cmp, eq_by_cmp}
use Rattle.std.specs.Cmp.Lexicographic.{slice_cmp, nat_list_cmp_total}
use Rattle.std.specs.FinMap.{FinMap, empty, get, insert, remove, entries, len, len-entries, get-remove, same_map}
use Rattle.std.proofs.lemmas.Map.Lookups.{exact_bytes}
use Rattle.std.proofs.lemmas.Map.Views.{tells_apart}
use Rattle.sea_object.specs.Held.{ValueSlots, new_held, shown, values_in}
use Rattle.sea_object.specs.Objects.{empty_object}
use Rattle.sea_object.specs.Undo.{before_changes, put_back_slot, refilled}
use Rattle.sea_object.specs.declared.values.Kept.{Kept}
use Rattle.sea_object.proofs.Lookups.{get-insert_same, insert-insert, insert_same, remove-insert}
use Rattle.sea_object.proofs.Shown.{count_shown, few_live, get-shown, live, shown-absent, shown-empty, shown-insert, shown-remove}

abbrev itself : List ℕ → List ℕ
itself value = value

as_it_is : (value : Option (List ℕ)) → option_map (λ v. v) value ≡ value
as_it_is None = refl
as_it_is (Some value) = refl

-- a value is there where its slot has one
pub values_get : (slots : ValueSlots) (q : List ℕ) → get (values_in slots) q ≡ option_flatten (get slots q)
values_get slots q = get-shown itself slots q ∙ as_it_is (option_flatten (get slots q))

pub values_put : (slots : ValueSlots) (k v : List ℕ) → values_in (insert slots k (Some v)) ≡ insert (values_in slots) k v
values_put slots k v = shown-insert itself slots k (Some v)

pub values_taken : (slots : ValueSlots) (k : List ℕ) → values_in (refilled slots k None (get slots k)) ≡ remove (values_in slots) k
values_taken slots k = go (get slots k) refl
  where
    go : (found : Option (Option (List ℕ))) → get slots k ≡ found → values_in (refilled slots k None found) ≡ remove (values_in slots) k
    go None none = shown-absent itself slots k none
    go (Some slot) has = shown-insert itself slots k None

pub values_tidy : (slots : ValueSlots) (k : List ℕ) → option_flatten (get slots k) ≡ None → values_in (remove slots k) ≡ values_in slots
values_tidy slots k none = shown-remove itself slots k none

pub values_none : values_in empty ≡ empty
values_none = shown-empty itself

pub values_count : (slots : ValueSlots) → len (values_in slots) ≡ length (live (entries slots))
values_count slots = count_shown itself slots

-- there are no more values than slots
pub values_few : (slots : ValueSlots) → len (values_in slots) ≤ len slots
values_few slots = omega (arith, values_count slots, few_live (entries slots), len-entries slots)

-- ---- taken back

gone : {X : Type 0} (b : Bool) (v : Option X) → (b ≡ true → v ≡ None) → cond b None v ≡ v
gone true v none = sym (none refl)
gone false v none = refl

absent : {X : Type 0} (m : FinMap (slice_cmp nat_cmp) X) (k : List ℕ) → get m k ≡ None → remove m k ≡ m
absent m k none = same_map nat_list_cmp_total exact_bytes _ _ (λ q.
    get-remove nat_list_cmp_total m k q
    ∙ gone (eq_by_cmp (slice_cmp nat_cmp) q k) (get m q) (λ same. ap (get m) (tells_apart exact_bytes q k same) ∙ none))

-- a slot as it is changes nothing
pub back_same : (m : ValueSlots) (k : List ℕ) → put_back_slot m k (get m k) ≡ m
back_same m k = go (get m k) refl
  where
    go : (found : Option (Option (List ℕ))) → get m k ≡ found → put_back_slot m k found ≡ m
    go None none = absent m k none
    go (Some slot) has = ap (refilled m k slot) has ∙ insert_same m k slot has

-- what was put into a slot is taken back
pub back_put : (m : ValueSlots) (k : List ℕ) (new : Option (List ℕ)) → put_back_slot (insert m k new) k (get m k) ≡ m
back_put m k new = go (get m k) refl
  where
    go : (found : Option (Option (List ℕ))) → get m k ≡ found → put_back_slot (insert m k new) k found ≡ m
    go None none = remove-insert m k new none
    go (Some slot) has = ap (refilled (insert m k new) k slot) (get-insert_same m k new) ∙ insert-insert m k new slot has

-- and so it is where nothing was put, as there was no slot
pub back_refilled : (m : ValueSlots) (k : List ℕ) (new : Option (List ℕ)) → put_back_slot (refilled m k new (get m k)) k (get m k) ≡ m
back_refilled m k new = go (get m k) refl
  where
    go : (found : Option (Option (List ℕ))) → get m k ≡ found → put_back_slot (refilled m k new found) k (get m k) ≡ m
    go None none = back_same m k
    go (Some slot) has = back_put m k new

-- the last change is taken back first
pub before_more : (log : List Kept) (kept : Kept) (m : ValueSlots) → before_changes (log ++ kept ∷ []) m ≡ before_changes log (put_back_slot m kept.key kept.slot)
before_more [] kept m = refl
before_more (first ∷ log) kept m = ap (λ slots. put_back_slot slots first.key first.slot) (before_more log kept m)

-- what was put is taken back, and so it is where memory ran out
pub filled_back : {T E : Type 0} (r : Result T E) (m n : ValueSlots) (k v : List ℕ) → OnOk r (n ≡ insert m k (Some v)) → OnErr r (n ≡ m) → put_back_slot n k (get m k) ≡ m
filled_back (Ok x) m n k v ok err = ap (λ s. put_back_slot s k (get m k)) ok ∙ back_put m k (Some v)
filled_back (Err e) m n k v ok err = ap (λ s. put_back_slot s k (get m k)) err ∙ back_same m k

-- an object that was just made is an empty one
pub none_shown : shown new_held ≡ empty_object
none_shown = ap (λ values. record { bytes = []; attributes = values; omap = values }) values_none
