-- Entries split where a key leads, in one way alone.
use Rattle.std.proofs.Common.{◌≡◌, ◌≢◌, ◌⊎◌, inl, inr, ℕ, zero, suc, ◌-◌, ◌<◌, ◌≤◌, List, [], ◌∷◌, ◌++◌, length, get_or, Option, None, refl, sym, ap, subst, ◌∙◌, arith, true, false}
use Rattle.std.specs.List.{All}
use Rattle.std.specs.List.Sorted.{IsPartitionPoint, IsPartitionedBy}
use Rattle.std.specs.Ordering.{is_le, ordering_reverse}
use Rattle.std.specs.declared.cmp.Ordering.{Ordering}
use Rattle.std.specs.declared.cmp.Ordering.TheVariants.{Less, Equal, Greater}
use Rattle.std.proofs.lemmas.List.Elements.{All-contains, Contains-append_right, All-from_recursion}
use Rattle.sea_node.specs.Entries.{Entry, key_order, IsBelow, IsNotAbove, IsRising}
use Rattle.sea_node.proofs.Keys.{key_order-back, IsBelow-trans, IsNotAbove-trans, IsNotAbove-below, not_above_not_below, IsRising-head, IsRising-tail, IsBelowAll-split}
use Rattle.sea_tree.specs.Tree.{Bounds, IsWithin, LiesWithin, IsInPlace, first_key, next_key, child_bounds}
use Rattle.sea_tree.specs.Place.{Splits}
use Rattle.sea_tree.proofs.Apart.{IsWithin-below}
use Rattle.sea_tree.proofs.Holding.{Contains-head, Contains-later, Contains-middle}

-- what holds of each entry holds of one in the middle
pub All-middle : (P : Entry → Type 0) (es before after : List Entry) (e : Entry) → es ≡ before ++ e ∷ after → All P es → P e
All-middle P es before after e split all =
    All-contains P (before ++ e ∷ after) e (subst (All P) split all) (Contains-middle before e after)

pub All-middle_next : (P : Entry → Type 0) (es before after : List Entry) (e f : Entry) → es ≡ before ++ e ∷ f ∷ after → All P es → P f
All-middle_next P es before after e f split all =
    All-contains P (before ++ e ∷ f ∷ after) f (subst (All P) split all) (Contains-append_right before (e ∷ f ∷ after) f (Contains-later e (f ∷ after) f (Contains-head f after)))

-- bounds of the last entry that are its node's, or none
pub within_none : (key : List ℕ) (after : List Entry) (upper : Option (List ℕ)) → IsWithin key (next_key after upper) → IsWithin key (next_key after None)
within_none key [] upper h = tt
within_none key (e ∷ after) upper h = h

pub within_upper : (key : List ℕ) (after : List Entry) (upper : Option (List ℕ)) → IsWithin key (next_key after None) → IsWithin key upper → IsWithin key (next_key after upper)
within_upper key [] upper h within = within
within_upper key (e ∷ after) upper h within = h

-- what the child's separators lead to, its parent's do
pub lies_above : (level : ℕ) (bounds : Bounds) (es before after : List Entry) (e : Entry) (key : List ℕ) → es ≡ before ++ e ∷ after → IsInPlace level bounds es → LiesWithin key (child_bounds e after bounds.upper) → LiesWithin key bounds
lies_above level bounds es before [] e key split place lies =
    (IsNotAbove-trans bounds.lower e.0 key (All-middle (λ (e : Entry). IsNotAbove bounds.lower e.0) es before [] e split place.lower) lies.0, lies.1)
lies_above level bounds es before (f ∷ after) e key split place lies = (
  IsNotAbove-trans bounds.lower e.0 key (All-middle (λ (e : Entry). IsNotAbove bounds.lower e.0) es before (f ∷ after) e split place.lower) lies.0,
  IsWithin-below key f.0 bounds.upper lies.1 (All-middle_next (λ (e : Entry). IsWithin e.0 bounds.upper) es before after e f split place.upper),
)

-- a key below the first of rising entries is not above a later one
too_low : (key : List ℕ) (before after : List Entry) (e : Entry) → IsRising (before ++ e ∷ after) → IsWithin key (next_key (before ++ e ∷ after) None) → IsNotAbove e.0 key → ⊥
too_low key [] after e rising within le = not_above_not_below e.0 key le within
too_low key (f ∷ before) after e rising within le =
    let later = IsBelowAll-split f.0 before (e ∷ after) (IsRising-head f (before ++ e ∷ after) rising) in
    not_above_not_below e.0 key le (IsBelow-trans key f.0 e.0 within later.1.0)

head_is : (e f : Entry) (es fs : List Entry) → e ∷ es ≡ f ∷ fs → e ≡ f
head_is e f es fs same = cc

tail_is : (e f : Entry) (es fs : List Entry) → e ∷ es ≡ f ∷ fs → es ≡ fs
tail_is e f es fs same = cc

-- rising entries are split in one way by the last entry that is not above a key
pub one_split : (key : List ℕ) (before before' after after' : List Entry) (e e' : Entry) → IsRising (before ++ e ∷ after) → before ++ e ∷ after ≡ before' ++ e' ∷ after' → IsNotAbove e.0 key → IsWithin key (next_key after None) → IsNotAbove e'.0 key → IsWithin key (next_key after' None) → (before ≡ before') × (e ≡ e') × (after ≡ after')
one_split key [] [] after after' e e' rising same le in' le' in'' = (refl, head_is _ _ _ _ same, tail_is _ _ _ _ same)
one_split key [] (b' ∷ before') after after' e e' rising same le in' le' in'' =
    let rest = tail_is _ _ _ _ same in
    absurd (too_low key before' after' e' (subst IsRising rest (IsRising-tail e after rising)) (subst (λ (es : List Entry). IsWithin key (next_key es None)) rest in') le')
one_split key (b ∷ before) [] after after' e e' rising same le in' le' in'' =
    let rest = tail_is _ _ _ _ same in
    absurd (too_low key before after e (IsRising-tail b (before ++ e ∷ after) rising) (subst (λ (es : List Entry). IsWithin key (next_key es None)) (sym rest) in'') le)
one_split key (b ∷ before) (b' ∷ before') after after' e e' rising same le in' le' in'' =
    let first = head_is _ _ _ _ same in
    let rest = one_split key before before' after after' e e' (IsRising-tail b (before ++ e ∷ after) rising) (tail_is _ _ _ _ same) le in' le' in'' in
    (λ i. first i ∷ rest.0 i, rest.1, rest.2)

-- ---- the last entry that is not above a key, by its index

pub rising_at : (es : List Entry) (i j : ℕ) (d : Entry) → IsRising es → i < j → j < length es → IsBelow (get_or es i d).0 (get_or es j d).0
rising_at [] i j d rising below within = absurd (omega arith)
rising_at (e ∷ es) i zero d rising below within = absurd (omega arith)
rising_at (e ∷ es) zero (suc j) d rising below within =
    All-from_recursion (λ (f : Entry). IsBelow e.0 f.0) es (IsRising-head e es rising) j d (omega arith)
rising_at (e ∷ es) (suc i) (suc j) d rising below within = rising_at es i j d (IsRising-tail e es rising) (omega arith) (omega arith)

pub is_le_from : (o : Ordering) → o ≢ Greater → is_le o ≡ true
is_le_from Less h = refl
is_le_from Equal h = refl
is_le_from Greater h = absurd (h refl)

pub from_is_le : (o : Ordering) → is_le o ≡ true → o ≢ Greater
from_is_le o h g = absurd (let e : is_le o ≡ false = ap is_le g in cc)

pub from_not_le : (o : Ordering) → is_le o ≡ false → o ≡ Greater
from_not_le Less h = absurd (cc)
from_not_le Equal h = absurd (cc)
from_not_le Greater h = refl

pub is_partitioned : (es : List Entry) (key : List ℕ) → IsRising es → IsPartitionedBy (λ (e : Entry). is_le (key_order e.0 key)) es
is_partitioned es key rising i j d le within passes =
    elim (cases_le i j le) [
      | inl less ↦ is_le_from _ (IsNotAbove-trans (get_or es i d).0 (get_or es j d).0 key (IsNotAbove-below (get_or es i d).0 (get_or es j d).0 (rising_at es i j d rising less within)) (from_is_le _ passes))
      | inr same ↦ subst (λ (k : ℕ). is_le (key_order (get_or es k d).0 key) ≡ true) (sym same) passes
    ]
  where
    cases_le : (i j : ℕ) → i ≤ j → (i < j) ⊎ (i ≡ j)
    cases_le zero zero h = inr refl
    cases_le zero (suc j) h = inl (omega arith)
    cases_le (suc i) zero h = absurd (omega arith)
    cases_le (suc i) (suc j) h = elim (cases_le i j (omega arith)) [ inl less ↦ inl (omega arith) | inr same ↦ inr (ap suc same) ]

-- the first key passes, so some entry does
pub some_passes : (es : List Entry) (key : List ℕ) (n : ℕ) → 1 ≤ length es → IsNotAbove (first_key es) key → IsPartitionPoint (λ (e : Entry). is_le (key_order e.0 key) ≡ true) (λ (e : Entry). is_le (key_order e.0 key) ≡ false) es n → 1 ≤ n
some_passes [] key n some le point = absurd (omega arith)
some_passes (e ∷ es) key zero some le point = absurd (le (from_not_le _ (point.1 0 e (omega arith) (omega arith))))
some_passes (e ∷ es) key (suc n) some le point = omega arith

pub middle_at : (before after : List Entry) (e d : Entry) → get_or (before ++ e ∷ after) (length before) d ≡ e
middle_at [] after e d = refl
middle_at (f ∷ before) after e d = middle_at before after e d

pub next_at : (before after : List Entry) (e f d : Entry) → get_or (before ++ e ∷ f ∷ after) (suc (length before)) d ≡ f
next_at [] after e f d = refl
next_at (g ∷ before) after e f d = next_at before after e f d

pub middle_within : (before after : List Entry) (e : Entry) → length before < length (before ++ e ∷ after)
middle_within [] after e = omega arith
middle_within (f ∷ before) after e = let rest = middle_within before after e in omega arith

pub next_within : (before after : List Entry) (e f : Entry) → suc (length before) < length (before ++ e ∷ f ∷ after)
next_within [] after e f = omega arith
next_within (g ∷ before) after e f = let rest = next_within before after e f in omega arith

pub point_leads : (es : List Entry) (key : List ℕ) (n : ℕ) → 1 ≤ n → IsPartitionPoint (λ (e : Entry). is_le (key_order e.0 key) ≡ true) (λ (e : Entry). is_le (key_order e.0 key) ≡ false) es n → (before after : List Entry) (e : Entry) → Splits es (n - 1) before e after → LiesWithin key (child_bounds e after None)
point_leads es key n some point before after e split = (here, within after split)
  where
    here : IsNotAbove e.0 key
    here =
        let count : length before ≡ n - 1 = split.count in
        let passes : is_le (key_order (get_or es (length before) e).0 key) ≡ true = point.0 (length before) e (omega arith) (omega arith) in
        from_is_le _ (subst (λ (f : Entry). is_le (key_order f.0 key) ≡ true) (middle_at before after e e) (subst (λ (fs : List Entry). is_le (key_order (get_or fs (length before) e).0 key) ≡ true) split.split passes))

    within : (rest : List Entry) → Splits es (n - 1) before e rest → IsWithin key (next_key rest None)
    within [] split = tt
    within (f ∷ rest) split =
        let count : length before ≡ n - 1 = split.count in
        let long : suc (length before) < length es = subst (λ (fs : List Entry). suc (length before) < length fs) (sym split.split) (next_within before rest e f) in
        let fails : is_le (key_order (get_or es (suc (length before)) e).0 key) ≡ false = point.1 (suc (length before)) e (omega arith) long in
        let above = from_not_le _ (subst (λ (g : Entry). is_le (key_order g.0 key) ≡ false) (next_at before rest e f e) (subst (λ (fs : List Entry). is_le (key_order (get_or fs (suc (length before)) e).0 key) ≡ false) split.split fails)) in
        key_order-back key f.0 ∙ ap ordering_reverse above
