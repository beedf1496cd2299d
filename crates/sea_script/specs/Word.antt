-- How words are spelled.
use Rattle.std.specs.Prelude.{ℕ, ◌<◌, Bool, not, ◌&&◌, ◌==◌, nat_le, if◌then◌else◌, List, [], ◌∷◌}
use Rattle.std.specs.List.{flat_map, AllByRecursion}
use Rattle.hex.specs.Hex.{encode_lower}

-- a byte of a name that stands for itself: it can be printed, and is no space, `%` or `;`
abbrev pub stands_for_itself : ℕ → Bool
stands_for_itself b = nat_le 33 b && nat_le b 126 && not (b == 37) && not (b == 59)

-- a byte's two digits
unfoldable pub pair_text : ℕ → List ℕ
pair_text b = encode_lower (b ∷ [])

-- a byte of a name, which is `%` and its digits where it doesn't stand for itself
unfoldable pub byte_text : ℕ → List ℕ
byte_text b = if stands_for_itself b then b ∷ [] else 37 ∷ pair_text b

unfoldable pub name_text : List ℕ → List ℕ
name_text name = flat_map byte_text name

-- bytes are `x` and their digits
unfoldable pub data_text : List ℕ → List ℕ
data_text bytes = 120 ∷ encode_lower bytes

-- numbers that are bytes
abbrev pub AreBytes : List ℕ → Type 0
AreBytes bytes = AllByRecursion (λ b. b < 256) bytes
