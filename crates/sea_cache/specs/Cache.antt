-- What a cache holds, and what its calls make of that.
use Rattle.std.specs.Borrow.{Fml, MutBor, follows_so}
use mathlib.Core.Option.{none}
use Rattle.std.specs.Prelude.{◌≡◌, ◌≢◌, ℕ, List, ◌∷◌, take, Option, is_some, if◌then◌else◌, ◌-◌}
use Rattle.std.specs.Prelude.{nat_eq, ⊤}
use Rattle.std.specs.Ordering.{nat_cmp}
use Rattle.std.specs.BTreeMap.{get}
use Rattle.std.specs.Map.{lookup, remove_entry}
use Rattle.std.specs.Option.{option_map_or}
use Rattle.sea_base.specs.declared.place.Commit.{Commit}
use Rattle.sea_cache.specs.declared.Cache.{Cache}
use Rattle.sea_cache.specs.contracts.Cache.{the_row}

-- a pinned block, and its version
abbrev pub Pinned : Type 0
Pinned = List ℕ × Commit

-- clean blocks with their places, the last used first
abbrev pub Clean : Type 0
Clean = List (ℕ × List ℕ)

-- what is pinned at each address
abbrev pub pinned_of : Cache → ℕ → Option Pinned
pinned_of cache at = get nat_cmp cache.pinned at

abbrev pub clean_of : Cache → Clean
clean_of cache = cache.clean.entries

-- how many clean blocks there may be
abbrev pub limit_of : Cache → ℕ
limit_of cache = cache.clean.cap

-- the clean block of a place
abbrev pub block_at : Clean → ℕ → Option (List ℕ)
block_at clean at = lookup (nat_eq at) clean

-- without the block of a place
abbrev pub without : Clean → ℕ → Clean
without clean at = remove_entry (nat_eq at) clean

-- a block that is there goes first
abbrev pub used : Clean → ℕ → Clean
used clean at = option_map_or (λ block. (at, block) ∷ without clean at) (block_at clean at) clean

-- a block is put first, in the stead of an older one of its place; where there was none, the last
-- of a full cache goes
abbrev pub kept : Clean → ℕ → ℕ → List ℕ → Clean
kept clean limit at block =
    (at, block) ∷ (if is_some (block_at clean at) then without clean at else take (limit - 1) clean)

-- the clean blocks and their limit stay
abbrev pub SameClean : Cache → Cache → Type 0
SameClean old new = (clean_of new ≡ clean_of old) × (limit_of new ≡ limit_of old)

-- What is pinned at one address changes, and nothing else does.
pub record Pins (at : ℕ) (block : Option Pinned) (old new : Cache) : Type 0 where
  pub here : pinned_of new at ≡ block
  pub others : (q : ℕ) → q ≢ at → pinned_of new q ≡ pinned_of old q
  pub clean : SameClean old new

-- The clean blocks change, and nothing else does.
pub record Cleans (blocks : Clean) (old new : Cache) : Type 0 where
  pub pinned : (q : ℕ) → pinned_of new q ≡ pinned_of old q
  pub clean : clean_of new ≡ blocks
  pub limit : limit_of new ≡ limit_of old

-- The same, once a shared borrow out of the cache is over.
abbrev pub CleansOnce : MutBor Cache → Clean → Fml
CleansOnce cache blocks =
    follows_so the_row the_row cache.ghost_name none (λ _ _. ⊤) (λ new. Cleans blocks cache.now new)
