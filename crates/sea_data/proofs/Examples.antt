-- What the definitions hold of, and what they refuse.
use Rattle.std.proofs.Common.{◌≡◌, ℕ, ◌+◌, ◌-◌, ◌^◌, ◌≤◌, None, refl, arith}
use Rattle.sea_base.specs.Space.{Store}
use Rattle.sea_data.specs.Bytes.{block_address}
use Rattle.sea_data.specs.Ranges.{Touches, Covers, HoldsOldEnd}
use Rattle.sea_data.specs.Calls.{IsInOrder}

pub first_address : block_address 2 0 ≡ 4
unfolding block_address
first_address = refl

pub address_behind_the_last : block_address (2 ^ 64 - 2) 0 ≡ 0
unfolding block_address
address_behind_the_last = refl

-- an object without bytes, where no data block stands
pub empty_in_order : (store : Store) (base next : ℕ) → 2 ≤ base → base + 4098 ≤ next → ((i : ℕ) → store (block_address base i) ≡ None) → IsInOrder store base 0 next
empty_in_order store base next low high none = record { low = low; high = high; within = omega arith; none_past = λ i small past. none i }

pub covered : Covers 4096 8192 1
covered = (omega arith, omega arith)

pub one_byte_short : Covers 4096 8191 1 → ⊥
one_byte_short covers = let ends = covers.1 in omega arith

pub byte_before : Touches 4095 8192 0
byte_before = (omega arith, omega arith, omega arith)

pub end_within : HoldsOldEnd 3 10 0
end_within = (omega arith, omega arith, omega arith)

-- an old end between two blocks lies within none
pub end_between : (i : ℕ) → HoldsOldEnd 4096 9000 i → ⊥
end_between i holds = let a = holds.1 in let b = holds.2 in omega arith
