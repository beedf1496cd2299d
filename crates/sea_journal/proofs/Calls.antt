-- One call of a device after another.
use Rattle.std.proofs.Common.{◌≡◌, ℕ, ◌≤◌, Option, Some, None, IfSome, refl, ◌∙◌, inl, inr, arith}
use Rattle.std.proofs.lemmas.Option.{MatchOption-at_some}
use Rattle.sea_device.specs.declared.device.Device.{Ghosts}
use Rattle.sea_device.specs.Device.{FaultsRose}
use Rattle.sea_device.specs.Calls.{OnlyRead}

module _ {D : Type 0} {g : Ghosts D} where
  -- reading nothing
  pub OnlyRead-none : (d : D) → OnlyRead g d d
  OnlyRead-none d = record {
    size = refl;
    contents = refl;
    told = refl;
    images = λ c. (λ left. left, λ left. left);
    time = record { later = omega arith; nothing_else = λ t c before left. inl left; keeps = λ t c before left. left };
  }

  -- reading on
  pub OnlyRead-more : (d e f : D) → OnlyRead g d e → OnlyRead g e f → OnlyRead g d f
  OnlyRead-more d e f first second = record {
    size = second.size ∙ first.size;
    contents = second.contents ∙ first.contents;
    told = second.told ∙ first.told;
    images = λ c. (λ left. (second.images c).0 ((first.images c).0 left), λ left. (first.images c).1 ((second.images c).1 left));
    time = record {
      later = omega arith;
      nothing_else = λ t c before left. elim (second.time.nothing_else t c (omega arith) left) [
        | inl past ↦ elim (first.time.nothing_else t c before past) [ inl past' ↦ inl past' | inr now ↦ inr ((second.images c).0 now) ]
        | inr now ↦ inr now
      ];
      keeps = λ t c before past. second.time.keeps t c (omega arith) (first.time.keeps t c before past);
    };
  }

-- a count that rose after it had not fallen
pub FaultsRose-later : (before mid now : ℕ) → before ≤ mid → FaultsRose mid now → FaultsRose before now
FaultsRose-later before mid now later (inl rose) = inl (omega arith)
FaultsRose-later before mid now later (inr full) = inr full

-- what is shown for each value that is told
pub IfSome-from : {X : Type 0} (told : Option X) (P : X → Type 0) → ((x : X) → told ≡ Some x → P x) → IfSome told P
IfSome-from None P each = tt
IfSome-from (Some x) P each = each x refl

-- and what is known of the value that is told
pub IfSome-at : {X : Type 0} {told : Option X} (P : X → Type 0) (x : X) → told ≡ Some x → IfSome told P → P x
IfSome-at P x = MatchOption-at_some (Unit {0}) P x
