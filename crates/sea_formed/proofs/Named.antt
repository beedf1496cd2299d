-- What stands under a name, of the objects that were read.
use Rattle.std.proofs.Common.{◌≡◌, ℕ, Bool, true, false, cond, List, [], ◌∷◌, map as each, Option, Some, None, inl, inr, refl, sym, ap, subst, ◌∙◌}
use Rattle.std.specs.Prelude.{T, IsTrue, ◌&&◌}
use Rattle.std.specs.List.{Contains}
use Rattle.std.specs.Option.{option_map}
use Rattle.std.specs.Ordering.{eq_by_cmp, is_eq, is_lt, ordering_reverse}
use Rattle.std.specs.declared.cmp.Ordering.{Ordering}
use Rattle.std.specs.declared.cmp.Ordering.TheVariants.{Less, Equal, Greater}
use Rattle.std.specs.FinMap as map
use Rattle.std.specs.FinMap.{find, get-from_sorted}
use Rattle.std.specs.FinMap.Entries.{is_sorted, below_all}
use Rattle.std.proofs.lemmas.List.Elements.{All-contains, All-from_recursion}
use Rattle.sea_node.specs.Entries.{Entry, key_order, IsBelow, IsRising}
use Rattle.sea_node.proofs.Keys.{same_key, key_order-itself, key_order-back, IsRising-head, IsRising-tail}
use Rattle.sea_tree.proofs.Holding.{Contains-nil, Contains-cases, Contains-head, Contains-later}
use Rattle.sea_formed.specs.declared.object.Held.{Held}
use Rattle.sea_formed.specs.Held.{pair_of}

shown : (b : Bool) → IsTrue b → T b
shown true h = tt
shown false h = absurd (let e : ◌≡◌ {A = Bool} false true = h in cc)

tied : (o : Ordering) → is_eq o ≡ true → o ≡ Equal
tied Less e = absurd cc
tied Equal e = refl
tied Greater e = absurd cc

-- the object of a name
abbrev pub seek : List ℕ → List Held → Option Held
seek name [] = None
seek name (h ∷ hs) = cond (eq_by_cmp key_order name h.name) (Some h) (seek name hs)

-- a list of what is said of each object under its name
abbrev pub listed : {X : Type 0} → (Held → X) → List Held → List (List ℕ × X)
listed f hs = each (λ h. (h.name, f h)) hs

find_listed : {X : Type 0} (f : Held → X) (name : List ℕ) (hs : List Held) → find key_order name (listed f hs) ≡ option_map f (seek name hs)
find_listed f name [] = refl
find_listed {X} f name (h ∷ hs) = by (eq_by_cmp key_order name h.name) (find_listed f name hs)
  where
    by : (b : Bool) → find key_order name (listed f hs) ≡ option_map f (seek name hs) → cond b (Some (f h)) (find key_order name (listed f hs)) ≡ option_map f (cond b (Some h) (seek name hs))
    by true e = refl
    by false e = e

below_listed : {X Y : Type 0} (f : Held → X) (g : Held → Y) (key : List ℕ) (hs : List Held) → below_all key_order key (listed f hs) ≡ below_all key_order key (listed g hs)
below_listed f g key [] = refl
below_listed f g key (h ∷ hs) = ap (λ (b : Bool). is_lt (key_order key h.name) && b) (below_listed f g key hs)

sorted_listed : {X Y : Type 0} (f : Held → X) (g : Held → Y) (hs : List Held) → is_sorted key_order (listed f hs) ≡ is_sorted key_order (listed g hs)
sorted_listed f g [] = refl
sorted_listed f g (h ∷ hs) =
    ap (λ (b : Bool). b && is_sorted key_order (listed f hs)) (below_listed f g h.name hs) ∙ ap (λ (b : Bool). below_all key_order h.name (listed g hs) && b) (sorted_listed f g hs)

-- what the map has under a name is what is said of the object of the name
pub get_listed : {X : Type 0} (f : Held → X) (hs : List Held) → IsRising (each pair_of hs) → (name : List ℕ) → map.get (map.from_sorted {R = key_order} (listed f hs)) name ≡ option_map f (seek name hs)
get_listed f hs rising name =
    get-from_sorted key_order (listed f hs) name (shown _ (sorted_listed f (λ h. (pair_of h).1) hs ∙ rising)) ∙ find_listed f name hs

pub seek_contained : (name : List ℕ) (hs : List Held) (h : Held) → seek name hs ≡ Some h → Contains hs h × (h.name ≡ name)
seek_contained name [] h found = absurd cc
seek_contained name (x ∷ hs) h found = by (eq_by_cmp key_order name x.name) refl (seek_contained name hs h) found
  where
    by : (b : Bool) → eq_by_cmp key_order name x.name ≡ b → (seek name hs ≡ Some h → Contains hs h × (h.name ≡ name)) → cond b (Some x) (seek name hs) ≡ Some h → Contains (x ∷ hs) h × (h.name ≡ name)
    by true is later found =
        let same : x ≡ h = (cc) in
        (subst (Contains (x ∷ hs)) same (Contains-head x hs), ap (λ (y : Held). y.name) (sym same) ∙ sym (same_key name x.name (tied (key_order name x.name) is)))
    by false is later found = let l = later found in (Contains-later x hs h l.0, l.1)

pub Contains-each : {X Y : Type 0} (f : X → Y) (xs : List X) (x : X) → Contains xs x → Contains (each f xs) (f x)
Contains-each f [] x has = absurd (Contains-nil x has)
Contains-each {X} {Y} f (y ∷ xs) x has = elim (Contains-cases y xs x has) [
  | inl same ↦ subst (λ (z : X). Contains (f y ∷ each f xs) (f z)) same (Contains-head (f y) (each f xs))
  | inr later ↦ Contains-later (f y) (each f xs) (f x) (Contains-each f xs x later)
]

pub contained_sought : (hs : List Held) (h : Held) → IsRising (each pair_of hs) → Contains hs h → seek h.name hs ≡ Some h
contained_sought [] h rising has = absurd (Contains-nil h has)
contained_sought (x ∷ hs) h rising has = elim (Contains-cases x hs h has) [
  | inl same ↦
      let itself : key_order h.name x.name ≡ Equal = subst (λ (y : Held). key_order h.name y.name ≡ Equal) (sym same) (key_order-itself h.name) in
      ap (λ (o : Ordering). cond (is_eq o) (Some x) (seek h.name hs)) itself ∙ ap (λ (y : Held). Some y) same
  | inr later ↦
      let below : IsBelow x.name h.name = All-contains (λ (f : Entry). IsBelow x.name f.0) (each pair_of hs) (pair_of h) (All-from_recursion (λ (f : Entry). IsBelow x.name f.0) (each pair_of hs) (IsRising-head (pair_of x) (each pair_of hs) rising)) (Contains-each pair_of hs h later) in
      let above : key_order h.name x.name ≡ Greater = key_order-back h.name x.name ∙ ap ordering_reverse below in
      ap (λ (o : Ordering). cond (is_eq o) (Some x) (seek h.name hs)) above ∙ contained_sought hs h (IsRising-tail (pair_of x) (each pair_of hs) rising) later
]
