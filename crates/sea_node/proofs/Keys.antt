-- The order of keys, and entries in it.
use Rattle.std.proofs.Common.{length, ◌+◌, IsTrue, get_or, ◌≡◌, ◌≢◌, ◌⊎◌, ℕ, zero, suc, ◌<◌, Bool, true, false, ◌&&◌, List, [], ◌∷◌, ◌++◌, take, drop, refl, sym, ap, subst, ◌∙◌, inl, inr, arith, take-append-drop}
use Rattle.std.specs.List.{AllByRecursion, IsAllAdjacentAnswer}
use Rattle.std.specs.Ordering.{nat_cmp, is_lt, is_gt, ordering_reverse, ordering_then}
use Rattle.std.specs.declared.cmp.Ordering.{Ordering}
use Rattle.std.specs.declared.cmp.Ordering.TheVariants.{Less, Equal, Greater}
use Rattle.std.specs.Cmp.{IsTotalOrder, upto, tied_itself}
use Rattle.std.specs.Cmp.Lexicographic.{nat_list_cmp_total}
use Rattle.std.specs.FinMap.Entries.{below_all}
use Rattle.std.proofs.lemmas.Bool.Decides.{nat_tests}
use Rattle.std.proofs.lemmas.Map.Lookups.{exact_bytes}
use Rattle.sea_base.specs.Name.{IsName}
use Rattle.sea_node.specs.Entries.{Entry, key_order, IsBelow, IsNotAbove, IsRising}

pub key_order_total : IsTotalOrder key_order
key_order_total = nat_list_cmp_total

-- keys that tie are the same
pub same_key : (a b : List ℕ) → key_order a b ≡ Equal → a ≡ b
same_key a b e = exact_bytes a b e

pub key_order-itself : (a : List ℕ) → key_order a a ≡ Equal
key_order-itself a = tied_itself key_order_total a

pub key_order-back : (a b : List ℕ) → key_order a b ≡ ordering_reverse (key_order b a)
key_order-back a b = key_order_total.antisymm a b

not_gt : (o : Ordering) → o ≢ Greater → is_gt o ≡ false
not_gt Less h = refl
not_gt Equal h = refl
not_gt Greater h = absurd (h refl)

from_not_gt : (o : Ordering) → is_gt o ≡ false → o ≢ Greater
from_not_gt o e g = absurd (let h : is_gt o ≡ true = ap is_gt g in cc)

pub IsBelow-trans : (a b c : List ℕ) → IsBelow a b → IsBelow b c → IsBelow a c
IsBelow-trans a b c = key_order_total.trans a b c

pub not_below_itself : (a : List ℕ) → IsBelow a a → ⊥
not_below_itself a below = let same = key_order-itself a in cc

pub not_below_both : (a b : List ℕ) → IsBelow a b → IsBelow b a → ⊥
not_below_both a b first second = not_below_itself a (IsBelow-trans a b a first second)

pub IsNotAbove-itself : (a : List ℕ) → IsNotAbove a a
IsNotAbove-itself a above = let same = key_order-itself a in cc

pub IsNotAbove-same : (a b : List ℕ) → a ≡ b → IsNotAbove a b
IsNotAbove-same a b e = subst (IsNotAbove a) e (IsNotAbove-itself a)

pub IsNotAbove-below : (a b : List ℕ) → IsBelow a b → IsNotAbove a b
IsNotAbove-below a b below above = cc

pub IsNotAbove-trans : (a b c : List ℕ) → IsNotAbove a b → IsNotAbove b c → IsNotAbove a c
IsNotAbove-trans a b c first second = from_not_gt (key_order a c) (upto key_order_total a b c (not_gt (key_order a b) first) (not_gt (key_order b c) second))

-- one way of three
pub compared : (a b : List ℕ) → IsBelow a b ⊎ ((a ≡ b) ⊎ IsBelow b a)
compared a b = by (key_order a b) refl
  where
    by : (o : Ordering) → key_order a b ≡ o → IsBelow a b ⊎ ((a ≡ b) ⊎ IsBelow b a)
    by Less e = inl e
    by Equal e = inr (inl (same_key a b e))
    by Greater e = inr (inr (key_order-back b a ∙ ap ordering_reverse e))

pub below_or_same : (a b : List ℕ) → IsNotAbove a b → IsBelow a b ⊎ (a ≡ b)
below_or_same a b le = elim (compared a b) [
  | inl below ↦ inl below
  | inr (inl same) ↦ inr same
  | inr (inr above) ↦ absurd (le (key_order-back a b ∙ ap ordering_reverse above))
]

pub not_above_or_below : (a b : List ℕ) → IsNotAbove a b ⊎ IsBelow b a
not_above_or_below a b = elim (compared a b) [
  | inl below ↦ inl (IsNotAbove-below a b below)
  | inr (inl same) ↦ inl (IsNotAbove-same a b same)
  | inr (inr above) ↦ inr above
]

-- what is not above is no more below
pub not_above_not_below : (a b : List ℕ) → IsNotAbove a b → IsBelow b a → ⊥
not_above_not_below a b le above = le (key_order-back a b ∙ ap ordering_reverse above)

pub IsNotAbove-not_below : (a b : List ℕ) → (IsBelow b a → ⊥) → IsNotAbove a b
IsNotAbove-not_below a b h = elim (not_above_or_below a b) [ inl le ↦ le | inr above ↦ absurd (h above) ]

pub IsNotAbove-both : (a b : List ℕ) → IsNotAbove a b → IsNotAbove b a → a ≡ b
IsNotAbove-both a b first second = elim (below_or_same a b first) [ inl below ↦ absurd (not_above_not_below b a second below) | inr same ↦ same ]

pub below_then_not_above : (a b c : List ℕ) → IsBelow a b → IsNotAbove b c → IsBelow a c
below_then_not_above a b c below le = elim (below_or_same b c le) [
  | inl more ↦ IsBelow-trans a b c below more
  | inr same ↦ subst (IsBelow a) same below
]

pub not_above_then_below : (a b c : List ℕ) → IsNotAbove a b → IsBelow b c → IsBelow a c
not_above_then_below a b c le below = elim (below_or_same a b le) [
  | inl less ↦ IsBelow-trans a b c less below
  | inr same ↦ subst (λ (k : List ℕ). IsBelow k c) (sym same) below
]

-- the key of the one byte 0 is the least of all
pub least_key : (key : List ℕ) → IsName key → IsNotAbove (0 ∷ []) key
least_key [] name = absurd (omega arith)
least_key (zero ∷ []) name = IsNotAbove-itself (0 ∷ [])
least_key (zero ∷ b ∷ key) name = IsNotAbove-below (0 ∷ []) (zero ∷ b ∷ key) refl
least_key (suc a ∷ key) name = IsNotAbove-below (0 ∷ []) (suc a ∷ key) (ap (λ (o : Ordering). ordering_then o (key_order [] key)) (less (suc a) (omega arith)))
  where
    less : (n : ℕ) → 0 < n → nat_cmp 0 n ≡ Less
    less n some = grind (arith, nat_tests)

-- ---- entries in the order of their keys

both : (a b : Bool) → a ≡ true → b ≡ true → (a && b) ≡ true
both true b e f = f
both false b e f = absurd cc

first_of_both : (a b : Bool) → (a && b) ≡ true → a ≡ true
first_of_both true b e = refl
first_of_both false b e = absurd cc

second_of_both : (a b : Bool) → (a && b) ≡ true → b ≡ true
second_of_both true b e = e
second_of_both false b e = absurd cc

is_less : (o : Ordering) → is_lt o ≡ true → o ≡ Less
is_less Less e = refl
is_less Equal e = absurd cc
is_less Greater e = absurd cc

-- a key is below each key of some entries
abbrev pub IsBelowAll : List ℕ → List Entry → Type 0
IsBelowAll key es = AllByRecursion (λ (e : Entry). IsBelow key e.0) es

-- each key of some entries is below each key of others
abbrev pub AreBelow : List Entry → List Entry → Type 0
AreBelow es fs = AllByRecursion (λ (e : Entry). IsBelowAll e.0 fs) es

below_all_told : (key : List ℕ) (es : List Entry) → below_all key_order key es ≡ true → IsBelowAll key es
below_all_told key [] h = tt
below_all_told key (e ∷ es) h = (is_less _ (first_of_both _ _ h), below_all_told key es (second_of_both _ _ h))

pub below_all_shown : (key : List ℕ) (es : List Entry) → IsBelowAll key es → below_all key_order key es ≡ true
below_all_shown key [] h = refl
below_all_shown key (e ∷ es) h = both _ _ (ap is_lt h.0) (below_all_shown key es h.1)

pub IsRising-nil : IsRising []
IsRising-nil = refl

pub IsRising-one : (e : Entry) → IsRising (e ∷ [])
IsRising-one e = refl

pub IsRising-cons : (e : Entry) (es : List Entry) → IsBelowAll e.0 es → IsRising es → IsRising (e ∷ es)
IsRising-cons e es below rising = both _ _ (below_all_shown e.0 es below) rising

pub IsRising-head : (e : Entry) (es : List Entry) → IsRising (e ∷ es) → IsBelowAll e.0 es
IsRising-head e es rising = below_all_told e.0 es (first_of_both _ _ rising)

pub IsRising-tail : (e : Entry) (es : List Entry) → IsRising (e ∷ es) → IsRising es
IsRising-tail e es rising = second_of_both _ _ rising

pub IsBelowAll-trans : (a b : List ℕ) (es : List Entry) → IsBelow a b → IsBelowAll b es → IsBelowAll a es
IsBelowAll-trans a b [] below all = tt
IsBelowAll-trans a b (e ∷ es) below all = (IsBelow-trans a b e.0 below all.0, IsBelowAll-trans a b es below all.1)

pub IsBelowAll-not_above : (a b : List ℕ) (es : List Entry) → IsNotAbove a b → IsBelowAll b es → IsBelowAll a es
IsBelowAll-not_above a b [] le all = tt
IsBelowAll-not_above a b (e ∷ es) le all = (not_above_then_below a b e.0 le all.0, IsBelowAll-not_above a b es le all.1)

pub IsBelowAll-append : (key : List ℕ) (es fs : List Entry) → IsBelowAll key es → IsBelowAll key fs → IsBelowAll key (es ++ fs)
IsBelowAll-append key [] fs first second = second
IsBelowAll-append key (e ∷ es) fs first second = (first.0, IsBelowAll-append key es fs first.1 second)

pub IsBelowAll-split : (key : List ℕ) (es fs : List Entry) → IsBelowAll key (es ++ fs) → IsBelowAll key es × IsBelowAll key fs
IsBelowAll-split key [] fs all = (tt, all)
IsBelowAll-split key (e ∷ es) fs all = let rest = IsBelowAll-split key es fs all.1 in ((all.0, rest.0), rest.1)

-- entries that rise, joined and split
pub IsRising-append : (es fs : List Entry) → IsRising es → IsRising fs → AreBelow es fs → IsRising (es ++ fs)
IsRising-append [] fs first second below = second
IsRising-append (e ∷ es) fs first second below =
    IsRising-cons e (es ++ fs) (IsBelowAll-append e.0 es fs (IsRising-head e es first) below.0) (IsRising-append es fs (IsRising-tail e es first) second below.1)

pub IsRising-split : (es fs : List Entry) → IsRising (es ++ fs) → IsRising es × IsRising fs × AreBelow es fs
IsRising-split [] fs rising = (refl, rising, tt)
IsRising-split (e ∷ es) fs rising =
    let rest = IsRising-split es fs (IsRising-tail e (es ++ fs) rising) in
    let below = IsBelowAll-split e.0 es fs (IsRising-head e (es ++ fs) rising) in
    (IsRising-cons e es below.0 rest.0, rest.1, (below.1, rest.2))

pub IsRising-take : (n : ℕ) (es : List Entry) → IsRising es → IsRising (take n es)
IsRising-take n es rising = (IsRising-split (take n es) (drop n es) (subst IsRising (sym (take-append-drop n es)) rising)).0

pub IsRising-drop : (n : ℕ) (es : List Entry) → IsRising es → IsRising (drop n es)
IsRising-drop n es rising = (IsRising-split (take n es) (drop n es) (subst IsRising (sym (take-append-drop n es)) rising)).1

-- where entries rise, those before a place are below those from it on
pub AreBelow-cut : (n : ℕ) (es : List Entry) → IsRising es → AreBelow (take n es) (drop n es)
AreBelow-cut n es rising = (IsRising-split (take n es) (drop n es) (subst IsRising (sym (take-append-drop n es)) rising)).2

-- ---- entries that rise, by neighbours

rising_from_neighbours : (es : List Entry) → ((k : ℕ) (d : Entry) → k + 1 < length es → IsBelow (get_or es k d).0 (get_or es (k + 1) d).0) → IsRising es
rising_from_neighbours [] all = refl
rising_from_neighbours (e ∷ []) all = refl
rising_from_neighbours (e ∷ f ∷ es) all =
    let rest = rising_from_neighbours (f ∷ es) (λ k d within. subst (λ (n : ℕ). IsBelow (get_or (f ∷ es) k d).0 (get_or (e ∷ f ∷ es) n d).0) (later k) (all (suc k) d (omega arith))) in
    let below = all 0 e (omega arith) in
    IsRising-cons e (f ∷ es) (below, IsBelowAll-trans e.0 f.0 es below (IsRising-head f es rest)) rest
  where
    later : (k : ℕ) → suc k + 1 ≡ suc (k + 1)
    later k = omega arith

neighbours_from_rising : (es : List Entry) → IsRising es → (k : ℕ) (d : Entry) → k + 1 < length es → IsBelow (get_or es k d).0 (get_or es (k + 1) d).0
neighbours_from_rising [] rising k d within = absurd (omega arith)
neighbours_from_rising (e ∷ []) rising k d within = absurd (omega arith)
neighbours_from_rising (e ∷ f ∷ es) rising zero d within = (IsRising-head e (f ∷ es) rising).0
neighbours_from_rising (e ∷ f ∷ es) rising (suc k) d within =
    let later : suc (k + 1) ≡ suc k + 1 = omega arith in
    subst (λ (n : ℕ). IsBelow (get_or (f ∷ es) k d).0 (get_or (e ∷ f ∷ es) n d).0) later (neighbours_from_rising (f ∷ es) (IsRising-tail e (f ∷ es) rising) k d (omega arith))

-- what a test of each two neighbours tells
pub rising_answer : (es : List Entry) (r : Bool) → IsAllAdjacentAnswer (λ x y b. b ≡ is_lt (key_order x.0 y.0)) es r → (IsTrue r → IsRising es) × (IsRising es → IsTrue r)
rising_answer es true told = (λ _. rising_from_neighbours es (λ k d within. is_less _ (sym (told k d within))), λ _. refl)
rising_answer es false told = (λ e. absurd cc, λ rising. absurd (none told rising))
  where
    none : (k : ℕ) × (k + 1 < length es) × ((d : Entry) → false ≡ is_lt (key_order (get_or es k d).0 (get_or es (k + 1) d).0)) → IsRising es → ⊥
    none found rising =
        let d : Entry = ([], []) in
        let below = neighbours_from_rising es rising found.0 d found.1 in
        let yes = ap is_lt below in
        let no = found.2 d in cc
