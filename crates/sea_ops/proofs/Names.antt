-- Two maps that have something under the same names have the same names.
use Rattle.std.proofs.Common.{◌≡◌, ℕ, Bool, true, false, cond, List, [], ◌∷◌, Option, Some, None, refl, sym, ap, subst, ◌∙◌, map as each}
use Rattle.std.specs.Prelude.{T, ◌&&◌, option_map}
use Rattle.std.specs.Ordering.{eq_by_cmp, is_lt}
use Rattle.std.specs.FinMap as map
use Rattle.std.specs.FinMap.{get-entries, entries_sorted}
use Rattle.std.specs.FinMap.Entries.{find, below_all, is_sorted, same_entries}
use Rattle.sea_base.specs.Space.{Store}
use Rattle.sea_node.specs.Entries.{key_order}
use Rattle.sea_node.proofs.Keys.{key_order_total, same_key}
use Rattle.sea_object.specs.declared.onode.Onode.{Onode}
use Rattle.sea_object.specs.Objects.{ObjectValue, ObjectMap}
use Rattle.sea_onode.specs.Onodes.{Onodes}
use Rattle.sea_ops.specs.WellFormed.{AreOfOne}

-- that something is there, whatever it is
abbrev mark : {X : Type 0} → X → Unit {0}
mark x = tt

abbrev marked : {X : Type 0} → List ℕ × X → List ℕ × Unit {0}
marked e = (e.0, tt)

module _ {X : Type 0} where
  picked : (b : Bool) (x : X) (rest : Option X) → cond b (Some (mark x)) (option_map mark rest) ≡ option_map mark (cond b (Some x) rest)
  picked true x rest = refl
  picked false x rest = refl

  find-marked : (es : List (List ℕ × X)) (q : List ℕ) → find key_order q (each marked es) ≡ option_map mark (find key_order q es)
  find-marked [] q = refl
  find-marked (e ∷ es) q = ap (cond (eq_by_cmp key_order q e.0) (Some (mark e.1))) (find-marked es q) ∙ picked (eq_by_cmp key_order q e.0) e.1 (find key_order q es)

  below-marked : (x : List ℕ) (es : List (List ℕ × X)) → below_all key_order x (each marked es) ≡ below_all key_order x es
  below-marked x [] = refl
  below-marked x (e ∷ es) = ap (λ (b : Bool). is_lt (key_order x e.0) && b) (below-marked x es)

  sorted-marked : (es : List (List ℕ × X)) → is_sorted key_order (each marked es) ≡ is_sorted key_order es
  sorted-marked [] = refl
  sorted-marked (e ∷ es) = λ i. below-marked e.0 es i && sorted-marked es i

  keys-marked : (es : List (List ℕ × X)) → each (λ e. e.0) (each marked es) ≡ each (λ e. e.0) es
  keys-marked [] = refl
  keys-marked (e ∷ es) = ap (λ (rest : List (List ℕ)). e.0 ∷ rest) (keys-marked es)

-- an onode and its object, or neither
alike : (store : Store) (onode : Option Onode) (object : Option ObjectValue) → AreOfOne store onode object → option_map mark onode ≡ option_map mark object
alike store None None is = refl
alike store None (Some o) is = absurd is
alike store (Some x) None is = absurd is
alike store (Some x) (Some o) is = refl

pub same_names : (store : Store) (onodes : Onodes) (objects : ObjectMap) → ((name : List ℕ) → AreOfOne store (map.get onodes name) (map.get objects name)) → map.keys onodes ≡ map.keys objects
same_names store onodes objects are =
    sym (keys-marked (map.entries onodes))
    ∙ ap (each (λ e. e.0)) (same_entries key_order key_order_total same_key (each marked (map.entries onodes)) (each marked (map.entries objects))
    (subst T (sym (sorted-marked (map.entries onodes))) (entries_sorted onodes)) (subst T (sym (sorted-marked (map.entries objects))) (entries_sorted objects))
    (λ q. find-marked (map.entries onodes) q ∙ ap (option_map mark) (sym (get-entries onodes q)) ∙ alike store (map.get onodes q) (map.get objects q) (are q) ∙ ap (option_map mark) (get-entries objects q) ∙ sym (find-marked (map.entries objects) q)))
    ∙ keys-marked (map.entries objects)
