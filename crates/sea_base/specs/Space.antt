-- What a transaction knows and has changed of a store, and the stores that agree with what it read.
use Rattle.std.specs.Prelude.{◌≡◌, ◌≢◌, ◌⊎◌, ℕ, ◌+◌, List, [], ◌∷◌, ◌++◌, Bool, true, false, ◌==◌, ◌||◌, Option, Some, None, IsSome, if◌then◌else◌}
use Rattle.std.specs.Option.{option_map}
use Rattle.sea_base.specs.declared.delta.Delta.{Delta}
use Rattle.sea_base.specs.Splice.{spliced}

-- what stands at each address: the bytes of a block, or nothing
abbrev pub Store : Type 0
Store = ℕ → Option (List ℕ)

-- what a read found: the version of the content and its block, or nothing
abbrev pub Found : Type 0
Found = Option (ℕ × List ℕ)

-- the block that a read found
abbrev pub block_found : Found → Option (List ℕ)
block_found found = option_map (λ f. f.1) found

-- What one transaction has read and changed.
pub record Seen : Type 0 where
  -- what stands at each address, for this transaction
  pub view : Store
  -- what was found at each address that was read
  pub reads : ℕ → Option Found
  -- which addresses were put, amended or dropped
  pub changed : ℕ → Bool
  -- which of them were put or dropped, and not amended alone
  pub whole : ℕ → Bool
  -- the splices at each address since it was put or dropped, in order
  pub splices : ℕ → List Delta
  -- the next address to be given
  pub next : ℕ

-- the transaction has read or changed this address
abbrev pub IsKnown : Seen → ℕ → Type 0
IsKnown seen at = (seen.changed at ≡ true) ⊎ IsSome (seen.reads at)

-- a store has, at each address that was read, what was found there
abbrev pub Agrees : Store → Seen → Type 0
Agrees store seen = (at : ℕ) (found : Found) → seen.reads at ≡ Some found → store at ≡ block_found found

-- a store with the changes laid over it
abbrev pub laid : Seen → Store → Store
laid seen store at = if seen.changed at then seen.view at else store at

-- splices made of a block one after the other
abbrev pub all_spliced : List Delta → List ℕ → List ℕ
all_spliced [] block = block
all_spliced (delta ∷ deltas) block = all_spliced deltas (spliced delta.cut delta.gone delta.put block)

-- there are some
abbrev pub are_some : List Delta → Bool
are_some [] = false
are_some (delta ∷ deltas) = true

-- What holds of each transaction.
pub record IsSound (seen : Seen) : Type 0 where
  -- where nothing was placed whole, the view has what was found there with the splices made of it
  pub found : (at : ℕ) (found : Found) → seen.reads at ≡ Some found → seen.whole at ≡ false → seen.view at ≡ option_map (all_spliced (seen.splices at)) (block_found found)
  -- an address is changed where it was placed whole or amended
  pub changed : (at : ℕ) → seen.changed at ≡ (seen.whole at || are_some (seen.splices at))
  -- and read, where it was amended alone
  pub amended : (at : ℕ) → seen.changed at ≡ true → seen.whole at ≡ false → IsSome (seen.reads at)

-- all is as before
pub record IsSame (old new : Seen) : Type 0 where
  pub view : (at : ℕ) → new.view at ≡ old.view at
  pub reads : (at : ℕ) → new.reads at ≡ old.reads at
  pub changed : (at : ℕ) → new.changed at ≡ old.changed at
  pub whole : (at : ℕ) → new.whole at ≡ old.whole at
  pub splices : (at : ℕ) → new.splices at ≡ old.splices at
  pub next : new.next ≡ old.next

-- Reads alone were made: what was noted stays, and so does what is known.
pub record OnlyRead (old new : Seen) : Type 0 where
  pub noted : (at : ℕ) (found : Found) → old.reads at ≡ Some found → new.reads at ≡ Some found
  pub known : (at : ℕ) → IsKnown old at → new.view at ≡ old.view at
  pub changed : (at : ℕ) → new.changed at ≡ old.changed at
  pub whole : (at : ℕ) → new.whole at ≡ old.whole at
  pub splices : (at : ℕ) → new.splices at ≡ old.splices at
  pub next : new.next ≡ old.next

-- At most one address was read, and only if it wasn't known.
pub record ReadsAtMost (at : ℕ) (old new : Seen) : Type 0 where
  pub only : OnlyRead old new
  pub known : IsKnown old at → new.reads at ≡ old.reads at
  pub others : (q : ℕ) → q ≢ at → new.reads q ≡ old.reads q

-- Something stands at one address then, or nothing; nothing was read.
pub record Writes (at : ℕ) (block : Option (List ℕ)) (old new : Seen) : Type 0 where
  pub here : new.view at ≡ block
  pub others : (q : ℕ) → q ≢ at → new.view q ≡ old.view q
  pub changed : (q : ℕ) → new.changed q ≡ (q == at || old.changed q)
  pub reads : (q : ℕ) → new.reads q ≡ old.reads q
  pub whole : (q : ℕ) → q ≢ at → new.whole q ≡ old.whole q
  pub splices : (q : ℕ) → q ≢ at → new.splices q ≡ old.splices q
  pub next : new.next ≡ old.next

-- It was placed whole, or dropped.
pub record Places (at : ℕ) (block : Option (List ℕ)) (old new : Seen) : Type 0 where
  pub writes : Writes at block old new
  pub whole : new.whole at ≡ true
  pub splices : new.splices at ≡ []

-- It was made by a splice.
pub record Amends (at : ℕ) (delta : Delta) (block : List ℕ) (old new : Seen) : Type 0 where
  pub writes : Writes at (Some block) old new
  pub whole : new.whole at ≡ old.whole at
  pub splices : new.splices at ≡ old.splices at ++ delta ∷ []

-- Addresses were given; nothing was read or changed.
pub record Gives (count : ℕ) (old new : Seen) : Type 0 where
  pub view : (q : ℕ) → new.view q ≡ old.view q
  pub changed : (q : ℕ) → new.changed q ≡ old.changed q
  pub whole : (q : ℕ) → new.whole q ≡ old.whole q
  pub splices : (q : ℕ) → new.splices q ≡ old.splices q
  pub reads : (q : ℕ) → new.reads q ≡ old.reads q
  pub next : new.next ≡ old.next + count

-- each note is one that was there, or is what is current
abbrev pub NotesCurrent : (ℕ → Found) → Seen → Seen → Type 0
NotesCurrent current old new =
    (at : ℕ) (found : Found) → new.reads at ≡ Some found → (old.reads at ≡ Some found) ⊎ (found ≡ current at)

-- an address that the transaction has neither read nor changed shows what is current
abbrev pub ShowsCurrent : (ℕ → Found) → Seen → Type 0
ShowsCurrent current seen = (at : ℕ) → (IsKnown seen at → ⊥) → seen.view at ≡ block_found (current at)
