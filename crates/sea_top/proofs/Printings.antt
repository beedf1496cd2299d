-- What a text that was put out, or was not, leaves of a sink.
use Rattle.std.proofs.Common.{◌≡◌, ℕ, ◌≤◌, List, [], ◌++◌, refl, sym, ap, ◌∙◌, arith, inl, inr}
use Rattle.std.specs.Prelude.{Option, Some}
use Rattle.std.specs.Option.{option_map}
use Rattle.std.proofs.lemmas.List.{append-nil}
use Rattle.sea_device.specs.Device.{FaultsRose}
use Rattle.sea_top.specs.declared.refusal.Refusal.{Refusal}
use Rattle.sea_top.specs.Headline.{nothing, front}
use Rattle.sea_top.specs.Input.{TakesFront}
use Rattle.sea_top.specs.Printing.{Says}

module _ {O : Type 0} (held : O → Option (List ℕ)) (count : O → ℕ) (text : Option Refusal → List ℕ) (ending : Option Refusal) (status : ℕ) where
  -- for want of memory nothing is put out
  pub says_nothing : (sink : O) → status ≡ 5 → Says held count sink sink text ending status
  says_nothing sink is = record {
    prints = λ before told. ([], told ∙ ap (λ (b : List ℕ). Some b) (sym (append-nil before)), nothing is refl);
    known = inr (inl is);
    later = omega arith;
    cause = λ seven. absurd (omega arith);
  }

  -- a sink that fails has taken a front
  pub says_front : (old new : O) (bytes : List ℕ) → status ≡ 7 → bytes ≡ text ending → TakesFront bytes (held old) (held new) → count old ≤ count new → FaultsRose (count old) (count new) → Says held count old new text ending status
  says_front old new bytes is spelled taken later rose = record {
    prints = λ before told. (taken.front, taken.taken ∙ ap (option_map (λ t. t ++ taken.front)) told, front is taken.back (sym spelled ∙ taken.parts));
    known = inr (inr is);
    later = later;
    cause = λ seven. rose;
  }
