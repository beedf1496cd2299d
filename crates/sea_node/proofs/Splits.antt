-- A list of entries in the order of their keys, split at a key.
use Rattle.std.proofs.Common.{◌≡◌, ◌≤◌, true, cond, not, T, List, [], ◌∷◌, ◌++◌, length, Ordering, Less, Equal, Greater, refl, sym, ap, subst, ◌∙◌, arith}
use Rattle.std.specs.Ordering.{is_eq, is_lt, eq_by_cmp, ordering_reverse}
use Rattle.std.specs.Cmp.{IsTotalOrder}
use Rattle.std.specs.FinMap.{IsAntisymmetric}
use Rattle.std.specs.FinMap.Entries.{put, where_key, is_sorted, below_all, by_order}
use Rattle.std.proofs.lemmas.Bool.{and_parts, and_from}

less : (o : Ordering) → is_lt o ≡ true → o ≡ Less
less Less e = refl
less Equal e = absurd (subst T (sym e) tt)
less Greater e = absurd (subst T (sym e) tt)

module _ {K X : Type 0} (R : K → K → Ordering) (key : K) where
  -- the entries before a key, at it and after it, and those that are not at it
  abbrev pub before : List (K × X) → List (K × X)
  before = where_key R (λ k. is_lt (R k key))

  abbrev pub at : List (K × X) → List (K × X)
  at = where_key R (λ k. eq_by_cmp R key k)

  abbrev pub after : List (K × X) → List (K × X)
  after = where_key R (λ k. is_lt (R key k))

  abbrev pub without : List (K × X) → List (K × X)
  without = where_key R (λ k. not (eq_by_cmp R key k))

  module _ (e : K × X) (es : List (K × X)) (r : Ordering) (is : R key e.0 ≡ r) where
    pub at_first : at (e ∷ es) ≡ cond (is_eq r) (e ∷ at es) (at es)
    at_first = ap (λ (o : Ordering). cond (is_eq o) (e ∷ at es) (at es)) is

    after_first : after (e ∷ es) ≡ cond (is_lt r) (e ∷ after es) (after es)
    after_first = ap (λ (o : Ordering). cond (is_lt o) (e ∷ after es) (after es)) is

    without_first : without (e ∷ es) ≡ cond (not (is_eq r)) (e ∷ without es) (without es)
    without_first = ap (λ (o : Ordering). cond (not (is_eq o)) (e ∷ without es) (without es)) is

    put_first : (v : X) → put R key v (e ∷ es) ≡ by_order r ((key, v) ∷ e ∷ es) ((e.0, v) ∷ es) (e ∷ put R key v es)
    put_first v = ap (λ (o : Ordering). by_order o ((key, v) ∷ e ∷ es) ((e.0, v) ∷ es) (e ∷ put R key v es)) is

    pub before_first : IsTotalOrder R → before (e ∷ es) ≡ cond (is_lt (ordering_reverse r)) (e ∷ before es) (before es)
    before_first o = ap (λ (p : Ordering). cond (is_lt p) (e ∷ before es) (before es)) (o.antisymm e.0 key ∙ ap ordering_reverse is)

  -- each key is above this one
  pub record Above (es : List (K × X)) : Type 0 where
    pub none_before : before es ≡ []
    pub none_at : at es ≡ []
    pub all_after : after es ≡ es
    pub all_without : without es ≡ es

  -- the entries split at the key
  pub record Split (es : List (K × X)) : Type 0 where
    pub whole : es ≡ before es ++ at es ++ after es
    pub one : length (at es) ≤ 1
    pub with_value : (v : X) → put R key v es ≡ before es ++ (key, v) ∷ after es
    pub with_none : without es ≡ before es ++ after es

  pub is_above : IsTotalOrder R → (es : List (K × X)) → below_all R key es ≡ true → Above es
  is_above o [] h = record { none_before = refl; none_at = refl; all_after = refl; all_without = refl }
  is_above o (e ∷ es) h =
      let parts = and_parts (is_lt (R key e.0)) (below_all R key es) h in
      let is : R key e.0 ≡ Less = less (R key e.0) parts.0 in
      let rest = is_above o es parts.1 in
      record {
        none_before = before_first e es Less is o ∙ rest.none_before;
        none_at = at_first e es Less is ∙ rest.none_at;
        all_after = after_first e es Less is ∙ ap (λ (r : List (K × X)). e ∷ r) rest.all_after;
        all_without = without_first e es Less is ∙ ap (λ (r : List (K × X)). e ∷ r) rest.all_without;
      }

  -- a key that is below another, or tied with it, is below all that the other is below
  pub below_less : IsTotalOrder R → (k : K) (es : List (K × X)) → R key k ≡ Less → below_all R k es ≡ true → below_all R key es ≡ true
  below_less o k [] p h = refl
  below_less o k (e ∷ es) p h =
      let parts = and_parts (is_lt (R k e.0)) (below_all R k es) h in
      and_from (is_lt (R key e.0)) (below_all R key es) (ap is_lt (o.trans key k e.0 p (less (R k e.0) parts.0))) (below_less o k es p parts.1)

  pub below_tied : IsTotalOrder R → (k : K) (es : List (K × X)) → R key k ≡ Equal → below_all R k es ≡ true → below_all R key es ≡ true
  below_tied o k [] p h = refl
  below_tied o k (e ∷ es) p h =
      let parts = and_parts (is_lt (R k e.0)) (below_all R k es) h in
      and_from (is_lt (R key e.0)) (below_all R key es) (ap is_lt (o.congr key k e.0 p) ∙ parts.0) (below_tied o k es p parts.1)

  module _ (o : IsTotalOrder R) (e : K × X) (es : List (K × X)) where
    split_less : R key e.0 ≡ Less → below_all R e.0 es ≡ true → Split (e ∷ es)
    split_less p h =
        let above = is_above o (e ∷ es) (and_from (is_lt (R key e.0)) (below_all R key es) (ap is_lt p) (below_less o e.0 es p h)) in
        record {
          whole = sym (λ i. above.none_before i ++ above.none_at i ++ above.all_after i);
          one = omega (arith, ap length above.none_at);
          with_value = λ v. put_first e es Less p v ∙ sym (λ i. above.none_before i ++ (key, v) ∷ above.all_after i);
          with_none = above.all_without ∙ sym (λ i. above.none_before i ++ above.all_after i);
        }

    split_tied : IsAntisymmetric R → R key e.0 ≡ Equal → below_all R e.0 es ≡ true → Split (e ∷ es)
    split_tied same p h =
        let above = is_above o es (below_tied o e.0 es p h) in
        let b = before_first e es Equal p o ∙ above.none_before in
        let t = at_first e es Equal p ∙ ap (λ (r : List (K × X)). e ∷ r) above.none_at in
        let a = after_first e es Equal p ∙ above.all_after in
        record {
          whole = sym (λ i. b i ++ t i ++ a i);
          one = omega (arith, ap length t);
          with_value = λ v. put_first e es Equal p v ∙ ap (λ (k : K). (k, v) ∷ es) (sym (same key e.0 p)) ∙ sym (λ i. b i ++ (key, v) ∷ a i);
          with_none = without_first e es Equal p ∙ above.all_without ∙ sym (λ i. b i ++ a i);
        }

    split_greater : R key e.0 ≡ Greater → Split es → Split (e ∷ es)
    split_greater p rest =
        let b = before_first e es Greater p o in
        let t = at_first e es Greater p in
        let a = after_first e es Greater p in
        record {
          whole = ap (λ (r : List (K × X)). e ∷ r) rest.whole ∙ sym (λ i. b i ++ t i ++ a i);
          one = omega (arith, ap length t, rest.one);
          with_value = λ v. put_first e es Greater p v ∙ ap (λ (r : List (K × X)). e ∷ r) (rest.with_value v) ∙ sym (λ i. b i ++ (key, v) ∷ a i);
          with_none = without_first e es Greater p ∙ ap (λ (r : List (K × X)). e ∷ r) rest.with_none ∙ sym (λ i. b i ++ a i);
        }

  pub is_split : IsTotalOrder R → IsAntisymmetric R → (es : List (K × X)) → is_sorted R es ≡ true → Split es
  is_split o same [] h = record { whole = refl; one = omega arith; with_value = λ v. refl; with_none = refl }
  is_split o same (e ∷ es) h =
      let parts = and_parts (below_all R e.0 es) (is_sorted R es) h in
      elim (R key e.0) as (λ r. R key e.0 ≡ r → Split (e ∷ es)) [
        | Less ↦ λ p. split_less o e es p parts.0
        | Equal ↦ λ p. split_tied o e es same p parts.0
        | Greater ↦ λ p. split_greater o e es p (is_split o same es parts.1)
      ] refl
