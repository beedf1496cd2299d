-- What the definitions hold of, and what they refuse.
use Rattle.std.proofs.Common.{◌≡◌, ℕ, [], ◌∷◌, length, Some, ap, subst, arith, refl}
use Rattle.sea_plain.specs.declared.op.Op.{Op}
use Rattle.sea_plain.specs.declared.op.Op.TheVariants.{Read}
use Rattle.sea_plain.specs.declared.request.RequestFault.TheVariants.{BadRange}
use Rattle.sea_plain.specs.Answer.{written, laid}
use Rattle.sea_plain.specs.Op.{IsWithinLimits, blocks_touched}
use Rattle.sea_plain.specs.Refusal.{Refuses}
use Rattle.sea_plain.specs.Scan.{newest}

-- a write past the end puts zeros between
past_the_end : written 3 (65 ∷ []) (97 ∷ []) ≡ 97 ∷ 0 ∷ 0 ∷ 65 ∷ []
past_the_end = refl

no_zeros : written 3 (65 ∷ []) (97 ∷ []) ≡ 97 ∷ 65 ∷ [] → ⊥
no_zeros e = let lengths : ◌≡◌ {A = ℕ} 4 2 = ap length e in omega arith

-- no bytes leave an object as it is
nothing_laid : laid 3 [] (97 ∷ []) ≡ 97 ∷ []
nothing_laid = refl

-- a byte on each side of a block's end
two_blocks : blocks_touched 4095 2 ≡ 2
two_blocks = refl

first_byte : Op
first_byte = Read (97 ∷ []) 0 1

-- the second operation asks for no byte
second_beyond : Refuses (first_byte ∷ Read (97 ∷ []) 0 0 ∷ []) (BadRange 2)
unfolding first_byte
second_beyond = (
  omega arith,
  record {
    counted = omega arith;
    before = (((omega arith, omega arith), omega arith, omega arith, omega arith), tt);
    beyond = (Read (97 ∷ []) 0 0, refl, λ within. let some = within.2 in omega arith);
  },
)

first_within : Refuses (first_byte ∷ Read (97 ∷ []) 0 0 ∷ []) (BadRange 1) → ⊥
unfolding first_byte
first_within is =
    let beyond = is.1.beyond in
    let found : Some first_byte ≡ Some beyond.0 = beyond.1 in
    let same : first_byte ≡ beyond.0 = cc in
    beyond.2 (subst IsWithinLimits same ((omega arith, omega arith), omega arith, omega arith, omega arith))

-- the first entry of a name counts
newer : newest (97 ∷ []) ((97 ∷ [], 2 ∷ []) ∷ (97 ∷ [], 1 ∷ []) ∷ []) ≡ Some (2 ∷ [])
newer = refl
