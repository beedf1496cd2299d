-- What a splice makes is a block, and the splice of nothing changes nothing.
use Rattle.std.proofs.Common.{◌≡◌, ℕ, ◌+◌, List, [], ◌++◌, length, take, drop, replicate, arith}
use Rattle.std.proofs.lemmas.List.{length-take, length-append, length-replicate, take_at}
use Rattle.sea_base.specs.Splice.{spliced}

-- the first n of a list that ends in n zeros
length-filled : (n : ℕ) (a b c : List ℕ) → length (take n (a ++ b ++ c ++ replicate n 0)) ≡ n
length-filled n a b c = simp (length-take, length-append, length-replicate) (omega arith)

pub length-spliced : (cut gone : ℕ) (put block : List ℕ) → length (spliced cut gone put block) ≡ 4096
unfolding spliced
length-spliced cut gone put block = length-filled 4096 (take cut block) put (drop (cut + gone) block)

pub spliced-nothing : (block : List ℕ) → length block ≡ 4096 → spliced 0 0 [] block ≡ block
unfolding spliced
spliced-nothing block size = take_at block (replicate 4096 0) 4096 size
