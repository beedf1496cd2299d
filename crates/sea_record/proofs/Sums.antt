-- A sum is told by its bytes.
use Rattle.std.proofs.Common.{◌≡◌, ℕ, ◌^◌, ◌<◌, List, sym, ◌∙◌, arith}
use Rattle.sea_base.specs.Field.{big_endian}
use Rattle.sea_base.proofs.Fields.{big_endian-injective}

pub same_sum : (x y : ℕ) (bytes : List ℕ) → x < 2 ^ 64 → y < 2 ^ 64 → big_endian 8 x ≡ bytes → big_endian 8 y ≡ bytes → x ≡ y
same_sum x y bytes fx fy e f = big_endian-injective 8 x y (omega arith) (omega arith) (e ∙ sym f)
