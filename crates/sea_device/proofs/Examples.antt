-- What the definitions hold of, and what they refuse.
use Rattle.std.proofs.Common.{◌≡◌, ℕ, zero, suc, ◌<◌, List, [], ◌∷◌, None, Some, ap, subst, inl, inr, arith, refl}
use Rattle.std.specs.Prelude.{slice_index}
use Rattle.sea_device.specs.Device.{IsWholeBlocks, Torn, ChangesWithin, FaultsRose}
use Rattle.sea_device.specs.Moments.{Change, Wrote, Synced, MayLeaveAt, LeftSince}
use Rattle.sea_device.specs.Stream.{Hands}

whole : IsWholeBlocks 8192
whole = (omega arith, refl)

no_blocks : IsWholeBlocks 0 → ⊥
no_blocks is = let some = is.0 in omega arith

-- the byte of a range of one
torn : Torn 1 1 (7 ∷ 8 ∷ 9 ∷ []) (7 ∷ 5 ∷ 9 ∷ [])
torn = record { size = refl; before = refl; after = refl; fits = fit }
  where
    fit : (i : ℕ) → slice_index (7 ∷ 5 ∷ 9 ∷ []) i < 256
    fit zero = omega arith
    fit (suc zero) = omega arith
    fit (suc (suc zero)) = omega arith
    fit (suc (suc (suc i))) = omega arith

torn_elsewhere : Torn 1 1 (7 ∷ 8 ∷ 9 ∷ []) (7 ∷ 8 ∷ 4 ∷ []) → ⊥
torn_elsewhere is =
    let last : ◌≡◌ {A = ℕ} 4 9 = ap (λ (b : List ℕ). slice_index b 0) is.after in omega arith

forgotten : ChangesWithin 1 1 (Some []) None → ⊥
forgotten is = is

rose : FaultsRose 3 4
rose = inl (omega arith)

not_risen : FaultsRose 3 3 → ⊥
not_risen (inl more) = omega arith
not_risen (inr last) = omega arith

handed : Hands 2 (97 ∷ 98 ∷ 0 ∷ []) (Some (97 ∷ 98 ∷ 99 ∷ [])) (Some (99 ∷ []))
handed = (refl, λ none. absurd (omega arith))

none_handed : Hands 0 (0 ∷ []) (Some (97 ∷ [])) (Some (97 ∷ [])) → ⊥
none_handed is = let gone : ◌≡◌ {A = ℕ} 97 0 = ap (λ (b : List ℕ). slice_index b 0) (is.1 refl) in omega arith

-- a byte is written, and then synced
changes : ℕ → Change
changes zero = Wrote 0 (5 ∷ [])
changes (suc k) = Synced

unsynced : MayLeaveAt (0 ∷ 0 ∷ []) changes 1 (9 ∷ 0 ∷ [])
unfolding changes
unsynced = (0 ∷ 0 ∷ [], refl, record { size = refl; before = refl; after = refl; fits = fit })
  where
    fit : (i : ℕ) → slice_index (9 ∷ 0 ∷ []) i < 256
    fit zero = omega arith
    fit (suc zero) = omega arith
    fit (suc (suc i)) = omega arith

synced : MayLeaveAt (0 ∷ 0 ∷ []) changes 2 (5 ∷ 0 ∷ [])
unfolding changes
synced = refl

lost_by_sync : LeftSince (0 ∷ 0 ∷ []) changes 2 2 (0 ∷ 0 ∷ []) → ⊥
unfolding changes
lost_by_sync left =
    let here : left.0 ≡ 2 = omega arith in
    let P : ℕ → Type 0 = λ k. MayLeaveAt (0 ∷ 0 ∷ []) changes k (0 ∷ 0 ∷ []) in
    let same : ◌≡◌ {A = List ℕ} (0 ∷ 0 ∷ []) (5 ∷ 0 ∷ []) = subst P here left.3 in
    let first : ◌≡◌ {A = ℕ} 0 5 = ap (λ (b : List ℕ). slice_index b 0) same in omega arith
