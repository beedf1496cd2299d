-- One take, and one put, after others.
use Rattle.std.proofs.Common.{◌≡◌, ℕ, List, [], ◌∷◌, ◌++◌, take, Option, Some, None, refl, sym, ap, ◌∙◌, append_assoc}
use Rattle.std.specs.Option.{option_map}
use Rattle.std.specs.Prelude.{IfSome}
use Rattle.sea_device.specs.Stream.{Hands}
use Rattle.sea_top.specs.Input.{Leaves}

pub none_taken : (old : Option (List ℕ)) → Leaves [] old old
none_taken None = tt
none_taken (Some left) = refl

pub more_taken : (bytes into : List ℕ) (n : ℕ) (old left new : Option (List ℕ)) → Leaves bytes old left → Hands n into left new → Leaves (bytes ++ take n into) old new
more_taken bytes into n None None None taken hands = tt
more_taken bytes into n None None (Some new) taken hands = absurd hands
more_taken bytes into n None (Some left) new taken hands = absurd taken
more_taken bytes into n (Some old) None new taken hands = absurd taken
more_taken bytes into n (Some old) (Some left) None taken hands = absurd hands
more_taken bytes into n (Some old) (Some left) (Some new) taken hands =
    taken ∙ ap (λ (r : List ℕ). bytes ++ r) hands.0 ∙ sym (append_assoc bytes (take n into) new)

-- nothing is taken at the end alone
pub at_end : (bytes into : List ℕ) (old left new : Option (List ℕ)) → Leaves bytes old left → Hands 0 into left new → IfSome new (λ rest. rest ≡ [])
at_end bytes into None None None taken hands = tt
at_end bytes into None None (Some new) taken hands = absurd hands
at_end bytes into None (Some left) new taken hands = absurd taken
at_end bytes into (Some old) None new taken hands = absurd taken
at_end bytes into (Some old) (Some left) None taken hands = absurd hands
at_end bytes into (Some old) (Some left) (Some new) taken hands = sym hands.0 ∙ hands.1 refl

pub none_put : (old : Option (List ℕ)) → old ≡ option_map (λ taken. taken ++ []) old
none_put None = refl
none_put (Some taken) = ap (λ (t : List ℕ). Some t) (whole taken)
  where
    whole : (xs : List ℕ) → xs ≡ xs ++ []
    whole [] = refl
    whole (x ∷ xs) = ap (λ (r : List ℕ). x ∷ r) (whole xs)

pub more_put : (front part : List ℕ) (old mid new : Option (List ℕ)) → mid ≡ option_map (λ taken. taken ++ front) old → new ≡ option_map (λ taken. taken ++ part) mid → new ≡ option_map (λ taken. taken ++ (front ++ part)) old
more_put front part old mid new before now =
    now ∙ ap (option_map (λ taken. taken ++ part)) before ∙ both old
  where
    both : (old : Option (List ℕ)) → option_map (λ taken. taken ++ part) (option_map (λ taken. taken ++ front) old) ≡ option_map (λ taken. taken ++ (front ++ part)) old
    both None = refl
    both (Some taken) = ap (λ (t : List ℕ). Some t) (append_assoc taken front part)
