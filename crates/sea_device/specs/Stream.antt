-- What a take hands over.
use Rattle.std.specs.Prelude.{◌≡◌, ℕ, List, [], ◌++◌, take, Option, Some, None}

-- The first n bytes of `into` are the next of what was left, and 0 comes at the end alone.
abbrev pub Hands : ℕ → List ℕ → Option (List ℕ) → Option (List ℕ) → Type 0
Hands n into None None = Unit {0}
Hands n into None (Some new) = ⊥
Hands n into (Some old) None = ⊥
Hands n into (Some old) (Some new) = (old ≡ take n into ++ new) × (n ≡ 0 → old ≡ [])
