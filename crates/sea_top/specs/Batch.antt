-- What is written at once.
use Rattle.std.specs.Prelude.{ℕ, zero, suc, List, ◌++◌, replicate}

-- records, and a block of zeros behind them where blocks are left behind them
abbrev pub batch : List ℕ → ℕ → List ℕ
batch bytes zero = bytes
batch bytes (suc rest) = bytes ++ replicate 4096 0
