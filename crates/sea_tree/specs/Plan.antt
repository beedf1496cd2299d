-- What is planned to be written, as changes of a store.
use Rattle.std.specs.Prelude.{◌≡◌, ◌≢◌, ℕ, ◌+◌, List, [], ◌∷◌, ◌++◌, map, reverse, sum_by, true, false, Option, Some, None}
use Rattle.std.specs.Option.{option_map, IfSome}
use Rattle.sea_base.specs.Space.{Seen, IsKnown}
use Rattle.sea_base.specs.Splice.{spliced}
use Rattle.sea_tree.specs.declared.plan.Write.{Write}
use Rattle.sea_tree.specs.declared.plan.Write.TheVariants.{Whole, Gone}
use Rattle.sea_tree.specs.declared.plan.Plan.{Plan}
use Rattle.sea_tree.specs.declared.splice.Splice.{Splice}
use Rattle.sea_tree.specs.Does.{Change, is_among}

abbrev pub change_of : Write → Change
change_of (Whole at block) = (at.0, Some block)
change_of (Gone at) = (at.0, None)

-- the latest first
abbrev pub changes_of : List Write → List Change
changes_of writes = reverse (map change_of writes)

-- how many of them leave a block
abbrev pub fills : Write → ℕ
fills (Whole at block) = 1
fills (Gone at) = 0

abbrev pub count_filled : List Write → ℕ
count_filled writes = sum_by fills writes

-- what a splice changes, if there is one, before other changes
abbrev pub spliced_before : Option Splice → List Change → List Change
spliced_before None changes = changes
spliced_before (Some splice) changes = (splice.at.0, Some splice.block) ∷ changes

-- what a whole plan changes: its splice comes last
abbrev pub plan_changes : Plan → List Change
plan_changes plan = spliced_before plan.splice (changes_of plan.writes)

abbrev pub one_filled : Option Splice → ℕ
one_filled None = 0
one_filled (Some splice) = 1

abbrev pub plan_fills : Plan → ℕ
plan_fills plan = count_filled plan.writes + one_filled plan.splice

-- How the addresses of a plan were written: one by its splice, if it has one, and each other whole,
-- or dropped.
pub record IsWritten (plan : Plan) (old new : Seen) : Type 0 where
  pub amended : IfSome plan.splice
      (λ splice. new.splices splice.at.0 ≡ old.splices splice.at.0 ++ splice.delta ∷ [])
  pub placed : (at : ℕ) → is_among (plan_changes plan) at ≡ true
      → IfSome plan.splice (λ splice. at ≢ splice.at.0) → new.splices at ≡ []

-- The block that a splice changes is known, and nothing is planned at its address besides.
pub record Splices (seen : Seen) (writes : List Write) (splice : Splice) : Type 0 where
  pub known : IsKnown seen splice.at.0
  pub alone : is_among (changes_of writes) splice.at.0 ≡ false
  pub makes : option_map (spliced splice.delta.cut splice.delta.gone splice.delta.put)
      (seen.view splice.at.0) ≡ Some splice.block

-- The splice of a plan, if it has one, changes what stands there.
abbrev pub CanSplice : Seen → Plan → Type 0
CanSplice seen plan = IfSome plan.splice (Splices seen plan.writes)
