-- What may be a name.
use Rattle.std.specs.Prelude.{◌≤◌, ℕ, List, length}

-- 1 to 64 bytes
abbrev pub IsName : List ℕ → Type 0
IsName bytes = (1 ≤ length bytes) × (length bytes ≤ 64)
