-- How a number stands in a field.
use Rattle.std.specs.Prelude.{ℕ, List}
use Rattle.byteorder.specs.Endian.{big_bytes}

-- the n bytes of a number, the highest first
unfoldable pub big_endian : ℕ → ℕ → List ℕ
big_endian n x = big_bytes n x
