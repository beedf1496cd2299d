-- What the code that edits a node's entries makes of them.
use Rattle.std.proofs.Common.{◌≡◌, ◌⊎◌, inl, inr, ℕ, zero, suc, ◌+◌, ◌<◌, ◌≤◌, Bool, true, false, cond, List, [], ◌∷◌, ◌++◌, length, get_or, take, drop, Option, Some, None, refl, sym, ap, subst, ◌∙◌, arith, append_assoc}
use Rattle.std.specs.List.Sorted.{IsPartitionPoint, IsPartitionedBy}
use Rattle.std.specs.Ordering.{eq_by_cmp, is_lt, is_le, is_eq, ordering_reverse}
use Rattle.std.specs.declared.cmp.Ordering.{Ordering}
use Rattle.std.specs.declared.cmp.Ordering.TheVariants.{Less, Equal, Greater}
use Rattle.std.specs.Str.{bytes_eq}
use Rattle.std.proofs.lemmas.List.{map_more}
use Rattle.std.proofs.lemmas.Slice.Eq.{bytes_eq-Decides}
use Rattle.sea_node.specs.Entries.{Entry, key_order, IsRising, edited, entries_before}
use Rattle.sea_node.proofs.Edits.{entries_after, edited-Some, edited-None}
use Rattle.sea_node.proofs.Keys.{key_order-itself, key_order-back, same_key, IsBelow-trans}
use Rattle.sea_tree.specs.Mending.{moved}
use Rattle.sea_tree.proofs.Splits.{rising_at}

-- ---- an entry that takes another key

abbrev pub moved_entry : List ℕ → List ℕ → Entry → Entry
moved_entry from to e = cond (eq_by_cmp key_order from e.0) (to, e.1) e

pub moved_here : (from to : List ℕ) (e : Entry) → bytes_eq e.0 from ≡ true → (to, e.1) ≡ moved_entry from to e
moved_here from to e told =
    let same : e.0 ≡ from = (bytes_eq-Decides e.0 from).0 told in
    let tied : key_order from e.0 ≡ Equal = ap (key_order from) same ∙ key_order-itself from in
    sym (ap (λ (o : Ordering). cond (is_eq o) (to, e.1) e) tied)

pub moved_other : (from to : List ℕ) (e : Entry) → bytes_eq e.0 from ≡ false → e ≡ moved_entry from to e
moved_other from to e told = by (key_order from e.0) refl
  where
    by : (o : Ordering) → key_order from e.0 ≡ o → e ≡ moved_entry from to e
    by Less is = sym (ap (λ (o : Ordering). cond (is_eq o) (to, e.1) e) is)
    by Equal is = absurd (let yes : bytes_eq e.0 from ≡ true = (bytes_eq-Decides e.0 from).1 (sym (same_key from e.0 is)) in cc)
    by Greater is = sym (ap (λ (o : Ordering). cond (is_eq o) (to, e.1) e) is)

pub moved_more : (from to : List ℕ) (es : List Entry) (i : ℕ) (e f : Entry) (changed new : List Entry) → i < length es → e ≡ get_or es i e → f ≡ moved_entry from to e → changed ≡ moved from to (take i es) → new ≡ changed ++ f ∷ [] → new ≡ moved from to (take (i + 1) es)
moved_more from to es i e f changed new within at is_f is_changed is_new =
    let whole = is_f ∙ ap (moved_entry from to) at in
    is_new ∙ (λ j. is_changed j ++ whole j ∷ []) ∙ sym (map_more (moved_entry from to) es i e within)

pub none_from : {A : Type 0} (o : Option A) → ((x : A) → o ≡ Some x → ⊥) → o ≡ None
none_from None none = refl
none_from (Some x) none = absurd (none x refl)

-- ---- the entries before a key and after it, by the places where it divides them

pub is_lt_from : (o : Ordering) → o ≡ Less → is_lt o ≡ true
is_lt_from o e = ap is_lt e

pub from_is_lt : (o : Ordering) → is_lt o ≡ true → o ≡ Less
from_is_lt Less h = refl
from_is_lt Equal h = absurd cc
from_is_lt Greater h = absurd cc

pub is_partitioned_below : (es : List Entry) (key : List ℕ) → IsRising es → IsPartitionedBy (λ (e : Entry). is_lt (key_order e.0 key)) es
is_partitioned_below es key rising i j d le within passes =
    elim (cases_le i j le) [
      | inl less ↦ is_lt_from _ (IsBelow-trans (get_or es i d).0 (get_or es j d).0 key (rising_at es i j d rising less within) (from_is_lt _ passes))
      | inr same ↦ subst (λ (k : ℕ). is_lt (key_order (get_or es k d).0 key) ≡ true) (sym same) passes
    ]
  where
    cases_le : (i j : ℕ) → i ≤ j → (i < j) ⊎ (i ≡ j)
    cases_le zero zero h = inr refl
    cases_le zero (suc j) h = inl (omega arith)
    cases_le (suc i) zero h = absurd (omega arith)
    cases_le (suc i) (suc j) h = elim (cases_le i j (omega arith)) [ inl less ↦ inl (omega arith) | inr same ↦ inr (ap suc same) ]

module _ (key : List ℕ) where
  abbrev PointBelow : List Entry → ℕ → Type 0
  PointBelow es n = IsPartitionPoint (λ (e : Entry). is_lt (key_order e.0 key) ≡ true) (λ (e : Entry). is_lt (key_order e.0 key) ≡ false) es n

  abbrev PointUpTo : List Entry → ℕ → Type 0
  PointUpTo es n = IsPartitionPoint (λ (e : Entry). is_le (key_order e.0 key) ≡ true) (λ (e : Entry). is_le (key_order e.0 key) ≡ false) es n

  pub before_point : (es : List Entry) (n : ℕ) → PointBelow es n → take n es ≡ entries_before key es
  before_point [] zero point = refl
  before_point [] (suc n) point = refl
  before_point (e ∷ es) zero point =
      let fails : is_lt (key_order e.0 key) ≡ false = point.1 0 e (omega arith) (omega arith) in
      let rest : [] ≡ entries_before key es = before_point es zero ((λ k d a b. absurd (omega arith)), (λ k d le within. point.1 (suc k) d (omega arith) (omega arith))) in
      rest ∙ sym (ap (λ (b : Bool). cond b (e ∷ entries_before key es) (entries_before key es)) fails)
  before_point (e ∷ es) (suc n) point =
      let passes : is_lt (key_order e.0 key) ≡ true = point.0 0 e (omega arith) (omega arith) in
      let rest : take n es ≡ entries_before key es = before_point es n ((λ k d lt within. point.0 (suc k) d (omega arith) (omega arith)), (λ k d le within. point.1 (suc k) d (omega arith) (omega arith))) in
      ap (λ (fs : List Entry). e ∷ fs) rest ∙ sym (ap (λ (b : Bool). cond b (e ∷ entries_before key es) (entries_before key es)) passes)

  above_from : (o p : Ordering) → o ≡ ordering_reverse p → is_le p ≡ false → is_lt o ≡ true
  above_from o Less is h = absurd cc
  above_from o Equal is h = absurd cc
  above_from o Greater is h = ap is_lt is

  not_above_from : (o p : Ordering) → o ≡ ordering_reverse p → is_le p ≡ true → is_lt o ≡ false
  not_above_from o Less is h = ap is_lt is
  not_above_from o Equal is h = ap is_lt is
  not_above_from o Greater is h = absurd cc

  pub after_point : (es : List Entry) (n : ℕ) → PointUpTo es n → drop n es ≡ entries_after key es
  after_point [] zero point = refl
  after_point [] (suc n) point = refl
  after_point (e ∷ es) zero point =
      let fails : is_lt (key_order key e.0) ≡ true = above_from _ _ (key_order-back key e.0) (point.1 0 e (omega arith) (omega arith)) in
      let rest : es ≡ entries_after key es = after_point es zero ((λ k d a b. absurd (omega arith)), (λ k d le within. point.1 (suc k) d (omega arith) (omega arith))) in
      ap (λ (fs : List Entry). e ∷ fs) rest ∙ sym (ap (λ (b : Bool). cond b (e ∷ entries_after key es) (entries_after key es)) fails)
  after_point (e ∷ es) (suc n) point =
      let passes : is_lt (key_order key e.0) ≡ false = not_above_from _ _ (key_order-back key e.0) (point.0 0 e (omega arith) (omega arith)) in
      let rest : drop n es ≡ entries_after key es = after_point es n ((λ k d lt within. point.0 (suc k) d (omega arith) (omega arith)), (λ k d le within. point.1 (suc k) d (omega arith) (omega arith))) in
      rest ∙ sym (ap (λ (b : Bool). cond b (e ∷ entries_after key es) (entries_after key es)) passes)

  -- so the parts around the key, with a pair between them or none, are the edited entries
  pub edited_parts-Some : (value : List ℕ) (es : List Entry) (m n : ℕ) → IsRising es → PointBelow es m → PointUpTo es n → take m es ++ (key, value) ∷ [] ++ drop n es ≡ edited key (Some value) es
  edited_parts-Some value es m n rising below upto =
      append_assoc (take m es) ((key, value) ∷ []) (drop n es) ∙ (λ j. before_point es m below j ++ (key, value) ∷ after_point es n upto j) ∙ sym (edited-Some key value es rising)

  pub edited_parts-None : (es : List Entry) (m n : ℕ) → IsRising es → PointBelow es m → PointUpTo es n → take m es ++ drop n es ≡ edited key None es
  edited_parts-None es m n rising below upto =
      (λ j. before_point es m below j ++ after_point es n upto j) ∙ sym (edited-None key es rising)
