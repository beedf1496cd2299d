-- Slots for some keys, and what they make of a content.
use Rattle.std.specs.Prelude.{◌≡◌, ℕ, ◌≤◌, List, [], ◌∷◌, ◌++◌, map, filter, take, length, IsTrue}
use Rattle.std.specs.Prelude.{nat_le, Option, Some, None}
use Rattle.std.specs.Ordering.{nat_cmp}
use Rattle.std.specs.FinMap as finmap
use Rattle.std.specs.FinMap.Entries.{is_sorted}
use Rattle.sea_base.specs.declared.place.Slot.{Slot}
use Rattle.sea_ptree.specs.Node.{Entry}
use Rattle.sea_ptree.specs.Tree.{Content}

-- a key with the slot that it gets, or with none where it goes
abbrev pub Update : Type 0
Update = ℕ × Option Slot

-- the keys rise strictly
abbrev pub Rises : List Update → Type 0
Rises run = IsTrue (is_sorted nat_cmp run)

pub record IsRun (run : List Update) : Type 0 where
  pub few : length run ≤ 64
  pub rising : Rises run

-- one update, and some of them one after the other, laid over a content
abbrev pub updated : ℕ → Option Slot → Content → Content
updated key (Some slot) content = finmap.insert content key slot
updated key None content = finmap.remove content key

abbrev pub laid_over : List Update → Content → Content
laid_over [] content = content
laid_over (update ∷ run) content = laid_over run (updated update.0 update.1 content)

-- the pairs with keys from a key on
abbrev pub from_key : ℕ → List Entry → List Entry
from_key key pairs = filter (λ e. nat_le key e.0) pairs

-- the pairs of a content with keys from a key on, in the order of keys
abbrev pub pairs_from : ℕ → Content → List Entry
pairs_from key content = from_key key (finmap.entries content)

-- pairs as the updates that put them
abbrev pub puts : List Entry → List Update
puts pairs = map (λ e. (e.0, Some e.1)) pairs

-- A run takes the pairs with keys from a key on, as far as it has fewer than so many, where all
-- rise.
abbrev pub TakesFrom : ℕ → ℕ → List Entry → List Update → List Update → Type 0
TakesFrom from limit pairs old new =
    let all = old ++ puts (from_key from pairs) in
    Rises all → new ≡ take limit all
