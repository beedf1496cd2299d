-- Addresses that stay apart.
use Rattle.std.proofs.Common.{◌≡◌, ℕ, ◌+◌, Bool, true, false, cond, List, Option, Some, None, ◌⊎◌, inl, inr, refl, sym, ap, ◌∙◌, arith}
use Rattle.std.specs.Ordering.{nat_cmp, eq_by_cmp}
use Rattle.std.specs.Cmp.Lexicographic.{slice_cmp, nat_list_cmp_total}
use Rattle.std.specs.Prelude.{is_some}
use Rattle.std.specs.FinMap.{empty, get, insert, len, get-empty, get-insert, len-insert}
use Rattle.std.proofs.lemmas.Map.Lookups.{exact_bytes}
use Rattle.std.proofs.lemmas.Map.Views.{tells_apart}
use Rattle.std.proofs.lemmas.Option.{none-some, same_Some}
use Rattle.sea_pieces.specs.Addresses.{AddressMap, AreApart}

pub none_apart : AreApart empty
none_apart = record {
  given = λ name at is. absurd (none-some at (sym (get-empty (slice_cmp nat_cmp) name) ∙ is));
  apart = λ name other at is too. absurd (none-some at (sym (get-empty (slice_cmp nat_cmp) name) ∙ is));
}

module _ (m : AddressMap) (k : List ℕ) (apart : AreApart m) (new : get m k ≡ None) where
  abbrev pub next : ℕ
  next = 2 + len m

  -- an address after the insertion is the new one, or one from before
  was : (q : List ℕ) (at : ℕ) → get (insert m k next) q ≡ Some at → ((q ≡ k) × (next ≡ at)) ⊎ (get m q ≡ Some at)
  was q at is = go (eq_by_cmp (slice_cmp nat_cmp) q k) refl (sym (get-insert nat_list_cmp_total m k next q) ∙ is)
    where
      go : (b : Bool) → eq_by_cmp (slice_cmp nat_cmp) q k ≡ b → cond b (Some next) (get m q) ≡ Some at → ((q ≡ k) × (next ≡ at)) ⊎ (get m q ≡ Some at)
      go true e same = inl (tells_apart exact_bytes q k e, same_Some next at same)
      go false e same = inr same

  more : len (insert m k next) ≡ len m + 1
  more = len-insert nat_list_cmp_total m k next ∙ ap (λ (o : Option ℕ). cond (is_some o) (len m) (len m + 1)) new

  -- one name more, at the next address
  pub next_apart : AreApart (insert m k next)
  next_apart = record {
    given = λ q at is. elim (was q at is) [
      | inl here ↦ (omega (arith, here.1), omega (arith, here.1, more))
      | inr old ↦ (let old_given = apart.given q at old in (old_given.0, omega (arith, old_given.1, more)))
    ];
    apart = λ q r at is too. elim (was q at is) [
      | inl here ↦ elim (was r at too) [
        | inl there ↦ here.0 ∙ sym there.0
        | inr old ↦ absurd (omega (arith, here.1, (apart.given r at old).1))
      ]
      | inr old ↦ elim (was r at too) [
        | inl there ↦ absurd (omega (arith, there.1, (apart.given q at old).1))
        | inr older ↦ apart.apart q r at old older
      ]
    ];
  }
