-- The search for the segment to clean, as far as it has come.
use Rattle.std.proofs.Common.{◌≡◌, ℕ, ◌+◌, ◌<◌, ◌≤◌, List, length, Option, Some, None, ◌∙◌, arith, below_more}
use Rattle.std.specs.Prelude.{MatchOption, IfSome, IfNone}
use Rattle.sea_segment.specs.declared.state.Segment.{Segment}
use Rattle.sea_segment.specs.Table.{live_of, MayBeVictim, IsVictim}

-- of the first segments, this one has the fewest live blocks, and is the least of these
pub record Best (table : List Segment) (before upto fewest s : ℕ) : Type 0 where
  pub may_be : MayBeVictim table before s
  pub passed : s < upto
  pub live : live_of table s ≡ fewest
  pub least : (k : ℕ) → k < upto → MayBeVictim table before k → live_of table k ≡ fewest → s ≤ k

pub record Searched (table : List Segment) (before upto fewest : ℕ) (victim : Option ℕ) : Type 0 where
  pub few : fewest ≤ 1791
  pub below : (k : ℕ) → k < upto → MayBeVictim table before k → fewest ≤ live_of table k
  pub best : MatchOption victim (fewest ≡ 1791) (Best table before upto fewest)

pub nothing_searched : (table : List Segment) (before : ℕ) → Searched table before 0 1791 None
nothing_searched table before = record { few = omega arith; below = λ k h may_be. absurd (omega arith); best = omega arith }

-- a segment that is no better changes nothing
pub searched_past : (table : List Segment) (before i fewest : ℕ) (victim : Option ℕ) → Searched table before i fewest victim → (MayBeVictim table before i → fewest ≤ live_of table i)
    → Searched table before (i + 1) fewest victim
searched_past table before i fewest None so worse = record { few = so.few; below = below_more _ _ so.below worse; best = so.best }
searched_past table before i fewest (Some s) so worse =
    let best : Best table before i fewest s = so.best in
    record {
      few = so.few;
      below = below_more _ _ so.below worse;
      best = record {
        may_be = best.may_be;
        passed = omega arith;
        live = best.live;
        least = below_more _ _ best.least (λ may_be e. omega arith);
      };
    }

-- one that is better is the victim so far
pub searched_better : (table : List Segment) (before i fewest : ℕ) (victim : Option ℕ) → Searched table before i fewest victim → MayBeVictim table before i → live_of table i < fewest
    → Searched table before (i + 1) (live_of table i) (Some i)
searched_better table before i fewest victim so may_be fewer = record {
  few = omega arith;
  below = below_more _ _ (λ k h may. omega (arith, so.below k h may)) (λ may. omega arith);
  best = record {
    may_be = may_be;
    passed = omega arith;
    live = omega arith;
    least = below_more _ _ (λ k h may e. absurd (omega (arith, so.below k h may))) (λ may e. omega arith);
  };
}

pub victim_found : (table : List Segment) (before fewest : ℕ) (victim : Option ℕ) → Searched table before (length table) fewest victim → IfSome victim (IsVictim table before)
victim_found table before fewest None so = tt
victim_found table before fewest (Some s) so =
    let best : Best table before (length table) fewest s = so.best in
    record {
      may_be = best.may_be;
      fewest = λ k may. omega (arith, so.below k may.within may, best.live);
      least = λ k may e. best.least k may.within may (e ∙ best.live);
    }

pub none_found : (table : List Segment) (before fewest : ℕ) (victim : Option ℕ) → Searched table before (length table) fewest victim → IfNone victim ((k : ℕ) → MayBeVictim table before k → ⊥)
none_found table before fewest None so = λ k may.
    let all : fewest ≡ 1791 = so.best in omega (arith, so.below k may.within may, may.few)
none_found table before fewest (Some s) so = tt
