-- How many segments are empty, once one of them has another state.
use Rattle.std.proofs.Common.{◌≡◌, Bool, true, false, ℕ, ◌+◌, ◌<◌, ◌≤◌, List, length, cond, refl, arith}
use mir.Val.{bool_byte}
use Rattle.std.proofs.lemmas.List.Sums.{sum_by-set, get_or-le-sum_by, count_by-le-length}
use Rattle.std.proofs.Math.ListN.{length-set}
use Rattle.sea_segment.specs.declared.state.SegState.{SegState}
use Rattle.sea_segment.specs.declared.state.Segment.{Segment}
use Rattle.sea_segment.specs.State.{is_empty}
use Rattle.sea_segment.specs.Table.{fresh, state_of, with_state, empty_of}

pub record Recounted (table : List Segment) (s : ℕ) (state : SegState) : Type 0 where
  pub sum : empty_of (with_state table s state) + cond (is_empty (state_of table s)) 1 0 ≡ empty_of table + cond (is_empty state) 1 0
  pub some : cond (is_empty (state_of table s)) 1 0 ≤ empty_of table
  pub few : empty_of (with_state table s state) ≤ length table

pub recounted : (table : List Segment) (s : ℕ) (state : SegState) → s < length table → Recounted table s state
recounted table s state within =
    let one : Segment → ℕ = λ (x : Segment). cond (is_empty x.state) 1 0 in
    record {
      sum = sum_by-set one table s _ fresh within;
      some = get_or-le-sum_by one table s fresh within;
      few = omega (arith, count_by-le-length (λ (x : Segment). is_empty x.state) (with_state table s state), length-set {A = Segment});
    }

-- a test as a number
pub byte_of : (b : Bool) → bool_byte b ≡ cond b 1 0
byte_of true = refl
byte_of false = refl
