-- What the definitions hold of, and what they refuse.
use Rattle.std.proofs.Common.{◌≡◌, ℕ, List, [], ◌∷◌, replicate, ap, arith, refl}
use Rattle.std.proofs.lemmas.List.{length-replicate}
use Rattle.std.specs.Prelude.{slice_index}
use Rattle.sea_base.specs.Field.{big_endian}
use Rattle.sea_base.specs.Name.{IsName}

field : big_endian 2 258 ≡ 1 ∷ 2 ∷ []
unfolding big_endian
field = refl

no_field : big_endian 2 258 ≡ 2 ∷ 1 ∷ [] → ⊥
unfolding big_endian
no_field e =
    let first : ◌≡◌ {A = ℕ} 1 2 = ap (λ (b : List ℕ). slice_index b 0) e in omega arith

name : IsName (replicate {A = ℕ} 64 97)
name = (omega (arith, length-replicate {A = ℕ} 64 97), omega (arith, length-replicate {A = ℕ} 64 97))

no_name : IsName [] → ⊥
no_name is = let some = is.0 in omega arith

long_name : IsName (replicate {A = ℕ} 65 97) → ⊥
long_name is = let few = is.1 in omega (arith, length-replicate {A = ℕ} 65 97)
