-- Counts of calls and of faults, and which calls fail.
use Rattle.std.specs.Prelude.{◌≡◌, ℕ, ◌+◌, ◌-◌, ◌^◌, List, min, Result, Ok, Err}
use Rattle.std.specs.List.{Contains}
use Rattle.sea_base.specs.declared.failures.Failures.{Failures}

-- one more, in a count that stands still at 2^64 - 1
abbrev pub one_more : ℕ → ℕ
one_more n = min (n + 1) (2 ^ 64 - 1)

-- a fault is counted, and nothing else is
abbrev pub CountsFault : {T E : Type 0} → ℕ → ℕ → Result T E → Type 0
CountsFault old new (Ok x) = new ≡ old
CountsFault old new (Err e) = new ≡ one_more old

-- the next call is listed
abbrev pub IsDue : Failures → Type 0
IsDue f = Contains f.listed (one_more f.calls)

-- the same, after one more call
abbrev pub counted : Failures → Failures
counted f = record f { calls = one_more f.calls }

-- no call so far, and these will fail
abbrev pub IsFresh : List ℕ → Failures → Type 0
IsFresh listed f = (f.listed ≡ listed) × (f.calls ≡ 0)
