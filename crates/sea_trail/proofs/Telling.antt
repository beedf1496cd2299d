-- What is read of a device that tells its bytes, and one reading after another.
use Rattle.std.proofs.Common.{◌≡◌, Option, Some, None, IfSome, refl, ◌∙◌, inl, inr, arith}
use Rattle.std.proofs.lemmas.Option.{MatchOption-at_some}
use Rattle.sea_device.specs.declared.device.Device.{Ghosts}
use Rattle.sea_device.specs.Calls.{OnlyRead}

-- what is shown for each value that is told
pub IfSome-from : {X : Type 0} (told : Option X) (P : X → Type 0) → ((x : X) → told ≡ Some x → P x) → IfSome told P
IfSome-from None P each = tt
IfSome-from (Some x) P each = each x refl

-- and what is known of the value that is told
pub IfSome-at : {X : Type 0} {told : Option X} (P : X → Type 0) (x : X) → told ≡ Some x → IfSome told P → P x
IfSome-at P x = MatchOption-at_some (Unit {0}) P x

module _ {D : Type 0} {g : Ghosts D} where
  -- reading on
  pub OnlyRead-more : (d e f : D) → OnlyRead g d e → OnlyRead g e f → OnlyRead g d f
  OnlyRead-more d e f first second = record {
    size = second.size ∙ first.size;
    contents = second.contents ∙ first.contents;
    told = second.told ∙ first.told;
    images = λ c. (λ left. (second.images c).0 ((first.images c).0 left), λ left. (first.images c).1 ((second.images c).1 left));
    time = record {
      later = omega arith;
      nothing_else = λ t c before left. elim (second.time.nothing_else t c (omega arith) left) [
        | inl past ↦ elim (first.time.nothing_else t c before past) [ inl past' ↦ inl past' | inr now ↦ inr ((second.images c).0 now) ]
        | inr now ↦ inr now
      ];
      keeps = λ t c before past. second.time.keeps t c (omega arith) (first.time.keeps t c before past);
    };
  }
