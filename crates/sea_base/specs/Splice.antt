-- What a splice makes of a block.
use Rattle.std.specs.Prelude.{ℕ, ◌+◌, ◌≤◌, List, ◌++◌, length, take, drop, replicate}

-- a splice has room in a block
abbrev pub IsSplice : ℕ → ℕ → List ℕ → Type 0
IsSplice cut gone put = (cut + gone ≤ 4096) × (cut + length put ≤ 4096)

-- The first `cut` bytes, then `put`, then the bytes from `cut + gone` on, cut to 4,096 bytes or filled
-- with zeros to as many.
unfoldable pub spliced : ℕ → ℕ → List ℕ → List ℕ → List ℕ
spliced cut gone put block = take 4096 (take cut block ++ put ++ drop (cut + gone) block ++ replicate 4096 0)
