-- A node in its place, by its first key and its last.
use Rattle.std.proofs.Common.{◌≡◌, ◌⊎◌, inl, inr, ℕ, zero, suc, ◌-◌, ◌<◌, ◌≤◌, List, [], ◌∷◌, length, get_or, Some, refl, sym, subst, ◌∙◌, arith}
use Rattle.std.proofs.lemmas.List.Elements.{All-from_get_or}
use Rattle.sea_base.specs.Space.{Store}
use Rattle.sea_node.specs.Entries.{Entry, IsBelow, IsNotAbove, IsRising, size}
use Rattle.sea_node.specs.Node.{Spells}
use Rattle.sea_node.proofs.Keys.{IsNotAbove-trans, IsNotAbove-below}
use Rattle.sea_node.proofs.Nodes.{one_spelled}
use Rattle.sea_tree.specs.Tree.{Bounds, IsWithin, IsInPlace, first_key}
use Rattle.sea_tree.specs.Breaks.{IsBroken}
use Rattle.sea_tree.proofs.Apart.{IsWithin-below}
use Rattle.sea_tree.proofs.Splits.{rising_at}

less_or_last : (i n : ℕ) → i < n → (i < n - 1) ⊎ (i ≡ n - 1)
less_or_last i zero h = absurd (omega arith)
less_or_last zero (suc zero) h = inr (omega arith)
less_or_last zero (suc (suc n)) h = inl (omega arith)
less_or_last (suc i) (suc n) h = elim (less_or_last i n (omega arith)) [ inl less ↦ inl (omega arith) | inr same ↦ inr (omega arith) ]

module _ (level : ℕ) (b : Bounds) (es : List Entry) (d e : Entry) (some : 1 ≤ length es) (rising : IsRising es) where
  first_key-is : first_key es ≡ (get_or es 0 d).0
  first_key-is = by es some
    where
      by : (es : List Entry) → 1 ≤ length es → first_key es ≡ (get_or es 0 d).0
      by [] some = absurd (omega arith)
      by (f ∷ es) some = refl

  from_first : (i : ℕ) → i < length es → IsNotAbove b.lower (get_or es 0 d).0 → IsNotAbove b.lower (get_or es i d).0
  from_first zero within le = le
  from_first (suc i) within le =
      let below : IsBelow (get_or es 0 d).0 (get_or es (suc i) d).0 = rising_at es 0 (suc i) d rising (omega arith) within in
      IsNotAbove-trans b.lower (get_or es 0 d).0 (get_or es (suc i) d).0 le (IsNotAbove-below (get_or es 0 d).0 (get_or es (suc i) d).0 below)

  upto_last : (i : ℕ) → i < length es → (i < length es - 1) ⊎ (i ≡ length es - 1) → IsWithin (get_or es (length es - 1) e).0 b.upper → IsWithin (get_or es i e).0 b.upper
  upto_last i within (inr same) below = subst (λ (k : ℕ). IsWithin (get_or es k e).0 b.upper) (sym same) below
  upto_last i within (inl less) below =
      IsWithin-below (get_or es i e).0 (get_or es (length es - 1) e).0 b.upper (rising_at es i (length es - 1) e rising less (omega arith)) below

  pub placed : b.least ≤ size es → IsWithin (get_or es (length es - 1) e).0 b.upper → IsNotAbove b.lower (get_or es 0 d).0 → (1 ≤ level → b.lower ≡ (get_or es 0 d).0) → IsInPlace level b es
  placed filled below le same = record {
    filled = filled;
    lower = All-from_get_or (λ (e : Entry). IsNotAbove b.lower e.0) es d (λ i within. from_first i within le);
    upper = All-from_get_or (λ (e : Entry). IsWithin e.0 b.upper) es e (λ i within. upto_last i within (less_or_last i (length es) within) below);
    first = λ above. first_key-is ∙ sym (same above);
  }

  pub last_within : IsInPlace level b es → IsWithin (get_or es (length es - 1) e).0 b.upper
  last_within place = place.upper (length es - 1) e (omega arith)

  pub first_within : IsInPlace level b es → IsNotAbove b.lower (get_or es 0 d).0
  first_within place = place.lower 0 d (omega arith)

  pub first_same : IsInPlace level b es → 1 ≤ level → b.lower ≡ (get_or es 0 d).0
  first_same place above = sym (place.first above) ∙ first_key-is

-- a block that spells a node that is not in its place, or of another level, is broken
pub IsBroken-other : (s : Store) (level at : ℕ) (b : Bounds) (bytes : List ℕ) (found : ℕ) (es : List Entry) → s at ≡ Some bytes → Spells bytes found es → ((found ≡ level) → IsInPlace level b es → ⊥) → IsBroken s level at b
IsBroken-other s level at b bytes found es here spells not = λ fs node place.
    let same : node.bytes ≡ bytes = (let e = sym node.here ∙ here in cc) in
    let one = one_spelled bytes found level es fs spells (subst (λ (x : List ℕ). Spells x level fs) same node.spells) in
    not one.0 (subst (IsInPlace level b) (sym one.1) place)
