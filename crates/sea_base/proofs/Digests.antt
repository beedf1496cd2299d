-- How long a SHA-256 is.
use Rattle.std.proofs.Common.{◌≡◌, ℕ, zero, suc, ◌*◌, List, length, refl, arith, length-append, get_or}
use Rattle.std.specs.Int.{w32, to_be_bytes}
use Rattle.sha2.specs.Sha256.{sha256, digest_bytes}
use Rattle.byteorder.specs.Numbers.{length-bytes_high_first}

length-digest_bytes : (h : List ℕ) (n : ℕ) → length (digest_bytes h n) ≡ 4 * n
unfolding digest_bytes
length-digest_bytes h zero = refl
length-digest_bytes h (suc n) =
    omega (arith, length-digest_bytes h n, length-append (digest_bytes h n) (to_be_bytes w32 (get_or h n 0)), length-bytes_high_first 4 (get_or h n 0))

pub length-sha256 : (bytes : List ℕ) → length (sha256 bytes) ≡ 32
unfolding sha256
length-sha256 bytes = length-digest_bytes _ 8
