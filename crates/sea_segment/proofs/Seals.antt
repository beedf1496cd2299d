-- Blocks that end in their own digest: what sealing writes, and what a seal tells.
use Rattle.std.proofs.Common.{◌≡◌, ℕ, ◌+◌, ◌-◌, ◌≤◌, List, ◌++◌, length, take, drop, replicate, refl, sym, ap, ◌∙◌, arith, append_assoc, length-append, take-append-drop}
use Rattle.std.specs.Prelude.{slice_range}
use Rattle.std.proofs.lemmas.List.{take_at, drop_at, take_all, length-take-le, length-drop, length-replicate, replicate-append-replicate}
use Rattle.sea_base.specs.Digest.{sha256}
use Rattle.sea_base.proofs.Digests.{length-sha256}
use Rattle.sea_base.proofs.Slices.{slice_at, slice_then}
use Rattle.sea_segment.specs.Seal.{own_digest, sealed, sealed_with, HasSeal}

with_parts : (front digest : List ℕ) → sealed_with front digest ≡ front ++ (digest ++ replicate (4064 - length front) 0)
unfolding sealed_with
with_parts front digest = append_assoc front digest (replicate (4064 - length front) 0)

sealed_is : (front : List ℕ) → sealed front ≡ sealed_with front (sha256 (sealed_with front (replicate 32 0)))
unfolding sealed own_digest
sealed_is front = refl

own_digest_is : (front : List ℕ) → own_digest front ≡ sha256 (sealed_with front (replicate 32 0))
unfolding own_digest
own_digest_is front = refl

module _ (front : List ℕ) (at : ℕ) (len : length front ≡ at) where
  pub take_front : (digest : List ℕ) → take at (sealed_with front digest) ≡ front
  take_front digest = ap (take at) (with_parts front digest) ∙ take_at front _ at len

  -- the front of a sealed block
  pub take_sealed : take at (sealed front) ≡ front
  take_sealed = ap (take at) (sealed_is front) ∙ take_front _

  drop_seal : (digest : List ℕ) → length digest ≡ 32 → drop (at + 32) (sealed_with front digest) ≡ replicate (4064 - at) 0
  unfolding sealed_with
  drop_seal digest long =
      drop_at (front ++ digest) (replicate (4064 - length front) 0) (at + 32) (omega (arith, length-append front digest)) ∙ ap (λ (n : ℕ). replicate (4064 - n) 0) len

  -- another digest in its place
  resealed : (old new : List ℕ) → length old ≡ 32 → take at (sealed_with front old) ++ new ++ drop (at + 32) (sealed_with front old) ≡ sealed_with front new
  unfolding sealed_with
  resealed old new long =
      ap (λ (f : List ℕ). f ++ new ++ drop (at + 32) (sealed_with front old)) (take_front old)
      ∙ ap (λ (r : List ℕ). front ++ new ++ r) (drop_seal old long ∙ ap (λ (n : ℕ). replicate (4064 - n) 0) (sym len))

  -- what is written: the front filled with zeros, and over them its digest
  pub seal_written : (b0 b1 b2 b3 digest : List ℕ) (n m : ℕ) → at ≤ 4064 → n ≡ at → b0 ≡ take 4096 front ++ replicate (4096 - n) 0 → digest ≡ sha256 b0 → b1 ≡ take at b0 → b2 ≡ b1 ++ digest → m ≡ length b2
      → b3 ≡ take 4096 b2 ++ replicate (4096 - m) 0 → b3 ≡ sealed front
  seal_written b0 b1 b2 b3 digest n m fits is zeros own cut more count last =
      let zero = replicate {A = ℕ} 32 0 in
      let start : b0 ≡ sealed_with front zero =
      zeros ∙ ap (λ (f : List ℕ). f ++ replicate (4096 - n) 0) (take_all 4096 front (omega arith)) ∙ ap (λ (r : List ℕ). front ++ r) (filled n is) ∙ sym (with_parts front zero) in
      let digest_is : digest ≡ sha256 (sealed_with front zero) = own ∙ ap sha256 start in
      let long : length digest ≡ 32 = ap length own ∙ length-sha256 b0 in
      let b2_is : b2 ≡ front ++ digest = more ∙ ap (λ (f : List ℕ). f ++ digest) (cut ∙ ap (take at) start ∙ take_front zero) in
      let size : length b2 ≡ at + 32 = omega (arith, ap length b2_is, length-append front digest) in
      last ∙ ap (λ (f : List ℕ). f ++ replicate (4096 - m) 0) (take_all 4096 b2 (omega arith) ∙ b2_is) ∙ ap (λ (k : ℕ). front ++ digest ++ replicate k 0) (omega arith)
      ∙ append_assoc front digest (replicate (4064 - length front) 0) ∙ sym (with_parts front digest) ∙ ap (sealed_with front) digest_is ∙ sym (sealed_is front)
    where
      filled : (n : ℕ) → n ≡ at → replicate {A = ℕ} (4096 - n) 0 ≡ replicate 32 0 ++ replicate (4064 - length front) 0
      filled n is = ap (λ (k : ℕ). replicate {A = ℕ} k 0) (omega arith) ∙ sym (replicate-append-replicate 32 (4064 - length front) 0)

  -- where a sealed block has its digest
  pub digest_in_seal : slice_range (sealed front) at (at + 32) ≡ own_digest front
  digest_in_seal =
      let own = sha256 (sealed_with front (replicate 32 0)) in
      ap (λ (b : List ℕ). slice_range b at (at + 32)) (sealed_is front ∙ with_parts front own) ∙ slice_at front own _ at (at + 32) len (omega (arith, length-sha256 (sealed_with front (replicate 32 0)))) ∙ sym (own_digest_is front)

  -- a sealed block has its seal
  pub has_seal : at ≤ 4064 → HasSeal (sealed front) at
  has_seal fits =
      let digest = sha256 (sealed_with front (replicate 32 0)) in
      let own : length digest ≡ 32 = length-sha256 _ in
      let zeros : drop (at + 32) (sealed front) ≡ replicate (4064 - at) 0 = ap (drop (at + 32)) (sealed_is front) ∙ drop_seal digest own in
      record {
        zero = zeros ∙ ap (λ (n : ℕ). replicate n 0) (sym (ap length zeros ∙ length-replicate {A = ℕ} (4064 - at) 0));
        digest =
            ap (λ (b : List ℕ). slice_range b at (at + 32)) (sealed_is front ∙ with_parts front digest) ∙ slice_at front digest _ at (at + 32) len (omega arith)
            ∙ ap sha256 (sym (ap (λ (b : List ℕ). take at b ++ replicate 32 0 ++ drop (at + 32) b) (sealed_is front) ∙ resealed digest (replicate 32 0) own));
      }

with_zeros : (front digest rest : List ℕ) → rest ≡ replicate (4064 - length front) 0 → front ++ digest ++ rest ≡ sealed_with front digest
unfolding sealed_with
with_zeros front digest rest is = ap (λ (r : List ℕ). front ++ digest ++ r) is

front_and_seal : (bytes : List ℕ) (at : ℕ) → take (at + 32) bytes ≡ take at bytes ++ slice_range bytes at (at + 32)
front_and_seal bytes at =
    let from_start : (n : ℕ) → slice_range bytes 0 n ≡ take n bytes = λ n. ap (λ (k : ℕ). take k bytes) (omega arith) in
    sym (from_start (at + 32)) ∙ sym (slice_then bytes 0 at (at + 32) (omega arith) (omega arith)) ∙ ap (λ (f : List ℕ). f ++ slice_range bytes at (at + 32)) (from_start at)

-- a block with a seal is sealed
pub sealed_by : (bytes : List ℕ) (at : ℕ) → length bytes ≡ 4096 → at ≤ 4064 → HasSeal bytes at → bytes ≡ sealed (take at bytes)
sealed_by bytes at whole fits seal =
    let front = take at bytes in
    let own = slice_range bytes at (at + 32) in
    let len : length front ≡ at = length-take-le at bytes (omega arith) in
    let behind : drop (at + 32) bytes ≡ replicate (4064 - length front) 0 = seal.zero ∙ ap (λ (n : ℕ). replicate n 0) (omega (arith, length-drop (at + 32) bytes)) in
    let parts : bytes ≡ front ++ own ++ drop (at + 32) bytes =
    sym (take-append-drop (at + 32) bytes) ∙ ap (λ (f : List ℕ). f ++ drop (at + 32) bytes) (front_and_seal bytes at) in
    let is : (digest : List ℕ) → front ++ digest ++ drop (at + 32) bytes ≡ sealed_with front digest = λ digest. with_zeros front digest (drop (at + 32) bytes) behind in
    parts ∙ is own ∙ ap (sealed_with front) (seal.digest ∙ ap sha256 (is (replicate 32 0))) ∙ sym (sealed_is front)
