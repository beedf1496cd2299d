-- What holds on one outcome of a call.
use Rattle.std.specs.Prelude.{◌≡◌, Option, Some, None, IfNone, Result, Ok, Err, OnOk, IfOk, MatchResult, IsErrAnd}
use Rattle.std.proofs.Common.{subst}
use Rattle.std.specs.Result.{result_err}

pub both_ok : {T E : Type 0} (P Q : Type 0) (r : Result T E) → OnOk r P → OnOk r Q → OnOk r (P × Q)
both_ok P Q (Ok x) p q = (p, q)
both_ok P Q (Err e) p q = tt

-- where no error is left, the call was Ok
pub none_left : {T E : Type 0} (P : Type 0) (r : Result T E) (o : Option E) → o ≡ result_err r → OnOk r P → IfNone o P
none_left P (Ok x) None is p = p
none_left P (Ok x) (Some e) is p = tt
none_left P (Err e) None is p = absurd cc
none_left P (Err e) (Some d) is p = tt

-- Where the mapped error did not come, neither did the error.
pub mapped_ok : {T E F : Type 0} (P : Type 0) (Q : E → F → Type 0) (r : Result T E) (m : Result T F) (x : T) → MatchResult r (λ y. m ≡ Ok y) (λ e. IsErrAnd m (Q e)) → m ≡ Ok x → OnOk r P → P
mapped_ok P Q (Ok y) m x cases is p = p
mapped_ok {T} {E} {F} P Q (Err e) m x cases is p =
    let none : IsErrAnd {T = T} {E = F} (Ok x) (Q e) = subst (λ (o : Result T F). IsErrAnd o (Q e)) is cases in absurd (none_at none)
  where
    none_at : IsErrAnd {T = T} {E = F} (Ok x) (Q e) → ⊥
    none_at h = h

pub at_ok : {T E : Type 0} (P : T → Type 0) (r : Result T E) (x : T) → r ≡ Ok x → IfOk r P → P x
at_ok P (Ok y) x is p = let same : y ≡ x = cc in subst P same p
at_ok P (Err e) x is p = absurd cc
