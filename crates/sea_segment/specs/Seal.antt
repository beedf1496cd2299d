-- Blocks that end in their own digest.
use Rattle.std.specs.Prelude.{◌≡◌, ℕ, ◌+◌, ◌-◌, List, ◌++◌, length, take, drop, replicate}
use Rattle.std.specs.Prelude.{slice_range}
use Rattle.sea_base.specs.Digest.{sha256}

-- the block that begins so, with these 32 bytes behind, and zeros
unfoldable pub sealed_with : List ℕ → List ℕ → List ℕ
sealed_with front digest = front ++ digest ++ replicate (4064 - length front) 0

-- the digest of the block that begins so, taken with zeros in its place
unfoldable pub own_digest : List ℕ → List ℕ
own_digest front = sha256 (sealed_with front (replicate 32 0))

-- the block that begins so, with its own digest behind
unfoldable pub sealed : List ℕ → List ℕ
sealed front = sealed_with front (own_digest front)

abbrev pub AreZeros : List ℕ → Type 0
AreZeros bytes = bytes ≡ replicate (length bytes) 0

-- the block has its own digest at `at`, and zeros behind it
pub record HasSeal (bytes : List ℕ) (at : ℕ) : Type 0 where
  pub zero : AreZeros (drop (at + 32) bytes)
  pub digest : slice_range bytes at (at + 32)
      ≡ sha256 (take at bytes ++ replicate 32 0 ++ drop (at + 32) bytes)
