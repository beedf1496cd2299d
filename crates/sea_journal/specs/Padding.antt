-- How long a queue is.
use Rattle.std.specs.Prelude.{ℕ, zero, suc, ◌+◌, ◌*◌}

-- so many blocks, and one behind some
abbrev pub padded : ℕ → ℕ
padded zero = 0
padded (suc n) = 4096 * suc n + 4096
