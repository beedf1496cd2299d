-- Bytes that are cut to so many, or filled with zeros to as many.
use Rattle.std.proofs.Common.{◌≡◌, ℕ, ◌+◌, ◌-◌, ◌≤◌, List, ◌++◌, length, take, drop, replicate, refl, sym, ◌∙◌, ap, inl, inr, arith}
use Rattle.std.proofs.lemmas.Bool.{cases_lt}
use Rattle.std.proofs.lemmas.List.{take-append-le, take-replicate, take_all, append-nil}
use Rattle.std.proofs.Math.Seq.{take-append-add}
use Rattle.sea_base.specs.Splice.{spliced}

fills_short : (bytes : List ℕ) (m : ℕ)
    → take (length bytes + m) bytes ++ replicate m 0
    ≡ take (length bytes + m) (bytes ++ replicate (length bytes + m) 0)
fills_short bytes m =
    rw (take_all (length bytes + m) bytes (omega arith))
    (rw (take-append-add bytes (replicate (length bytes + m) 0) m)
    (rw (take-replicate {X = ℕ} m (length bytes + m) 0 (omega arith)) refl))

fills : (n m : ℕ) (bytes : List ℕ) → n ≡ length bytes + m
    → take n bytes ++ replicate m 0 ≡ take n (bytes ++ replicate n 0)
fills n m bytes e = rw e (fills_short bytes m)

none_left : (n m : ℕ) → n ≤ m → n - m ≡ 0
none_left n m le = omega arith

pub take-fills : (n : ℕ) (bytes : List ℕ)
    → take n bytes ++ replicate (n - length bytes) 0 ≡ take n (bytes ++ replicate n 0)
take-fills n bytes =
    elim (cases_lt n (length bytes)) [
      | inl lt ↦ rw (none_left n (length bytes) (omega arith))
          (append-nil (take n bytes) ∙ sym (take-append-le n bytes (replicate n 0) (omega arith)))
      | inr le ↦ fills n (n - length bytes) bytes (omega arith)
    ]

-- What is cut or filled so is what a splice makes.
pub filled_spliced : (cut gone : ℕ) (put block bytes : List ℕ)
    → bytes ≡ take cut block ++ put ++ drop (cut + gone) block
    → take 4096 bytes ++ replicate (4096 - length bytes) 0 ≡ spliced cut gone put block
unfolding spliced
filled_spliced cut gone put block bytes e =
    take-fills 4096 bytes ∙ ap (λ b. take 4096 (b ++ replicate 4096 0)) e
