-- A transaction of several operations, and what it comes to on every store that agrees with its
-- reads.
use Rattle.std.specs.Prelude.{◌≡◌, ◌⊎◌, ℕ, ◌≤◌, ◌<◌, ◌^◌, ◌+◌, max, true, List, [], ◌∷◌, ◌++◌}
use Rattle.std.specs.Prelude.{length}
use Rattle.sea_base.specs.Space.{Store, Seen, Agrees, laid}
use Rattle.sea_object.specs.declared.op.Op.{Op}
use Rattle.sea_object.specs.declared.reply.Item.{Item}
use Rattle.sea_object.specs.declared.reply.Reply.TheVariants.{Done, Refused}
use Rattle.sea_object.specs.declared.reply.Why.{Why}
use Rattle.sea_object.specs.Answer as model
use Rattle.sea_object.specs.Objects.{ObjectMap}
use Rattle.sea_omap.specs.Calls.{IsGiven}
use Rattle.sea_ops.specs.WellFormed.{IsWellFormed}
use Rattle.sea_ops.specs.Calls.{IsFree, Does, Refuses}

-- Between two operations of a transaction others may go on: they may be given addresses, and what
-- the transaction hasn't changed may change. What it has read and changed stays.
pub record Waits (old new : Seen) : Type 0 where
  pub reads : (at : ℕ) → new.reads at ≡ old.reads at
  pub changed : (at : ℕ) → new.changed at ≡ old.changed at
  pub view : (at : ℕ) → old.changed at ≡ true → new.view at ≡ old.view at
  pub rises : old.next ≤ new.next

-- Operations were done one after the other, with these items.
abbrev pub AreDone : List Op → List Item → Seen → Seen → Type 0
AreDone [] items old new = (items ≡ []) × Waits old new
AreDone (op ∷ ops) [] old new = ⊥
AreDone (op ∷ ops) (item ∷ items) old new =
    (begun : Seen) × (mid : Seen) × Waits old begun × Does op item begun mid
    × AreDone ops items mid new

-- an address was given to one of them
abbrev pub WasGiven : (ops : List Op) (items : List Item) (old new : Seen)
    → AreDone ops items old new → ℕ → Type 0
WasGiven [] items old new done at = ⊥
WasGiven (op ∷ ops) [] old new done at = ⊥
WasGiven (op ∷ ops) (item ∷ items) old new done at =
    IsGiven done.0 done.1 at ⊎ WasGiven ops items done.1 new done.4 at

-- A store that a transaction speaks of: it agrees with what was read; with the changes made before
-- laid over it, it is well formed and holds these objects; no address goes past 64 bits; and each
-- that was given is free.
pub record MeetsAll (store : Store) (next : ℕ) (objects : ObjectMap) (given : ℕ → Type 0)
    (old new : Seen) : Type 0 where
  pub agrees : Agrees store new
  pub formed : IsWellFormed (laid old store) next objects
  pub bounded : max next new.next < 2 ^ 64
  pub fresh : (at : ℕ) → given at → IsFree (laid old store) formed.onodes at

-- A transaction is stable: whatever the store becomes, as long as it agrees with what was read and
-- leaves free what was given, the model answers the operations with these items, and the changes
-- laid over the store give a well-formed one again, with the objects after them.
abbrev pub IsStable : List Op → List Item → (ℕ → Type 0) → Seen → Seen → Type 0
IsStable ops items given old new =
    (store : Store) (next : ℕ) (objects : ObjectMap)
    → MeetsAll store next objects given old new
    → (model.answer ops objects ≡ Done items)
    × IsWellFormed (laid new store) (max next new.next) (model.after ops objects)

-- The same of a request that was refused at an operation behind others: its changes are dropped, and
-- the model refuses it at the same operation, for the same reason.
abbrev pub IsStablyRefused : List Op → Op → List Op → Why → (ℕ → Type 0) → Seen → Seen → Type 0
IsStablyRefused ops op rest why given old new =
    (store : Store) (next : ℕ) (objects : ObjectMap)
    → MeetsAll store next objects given old new
    → model.answer (ops ++ op ∷ rest) objects ≡ Refused (length ops + 1) why

-- ---- the law of transactions

-- Operations that were each done, one after the other, make a stable transaction.
abbrev pub DoneIsStable : Type 0
DoneIsStable =
    (ops : List Op) (items : List Item) (old new : Seen) (done : AreDone ops items old new)
    → IsStable ops items (WasGiven ops items old new done) old new

-- an address was given to an operation, or to the one behind them that was refused
abbrev pub GivenUntil : (ops : List Op) (items : List Item) (old begun new : Seen)
    → AreDone ops items old begun → ℕ → Type 0
GivenUntil ops items old begun new done at =
    WasGiven ops items old begun done at ⊎ IsGiven begun new at

-- An operation that was refused behind others that were done makes a request stably refused.
abbrev pub RefusedIsStable : Type 0
RefusedIsStable =
    (ops : List Op) (items : List Item) (op : Op) (rest : List Op) (why : Why)
    (old begun new : Seen) (done : AreDone ops items old begun) → Refuses op why begun new
    → IsStablyRefused ops op rest why (GivenUntil ops items old begun new done) old new
