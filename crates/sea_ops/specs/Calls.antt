-- What an operation does to a store, on every well-formed store that agrees with what it read.
use Rattle.std.specs.Prelude.{◌≡◌, ◌⊎◌, ℕ, ◌<◌, ◌≤◌, ◌^◌, max, true, List, Some, None}
use Rattle.std.specs.Prelude.{Result, Ok, Err}
use Rattle.std.specs.FinMap as map
use Rattle.sea_base.specs.Space.{Store, Seen, Agrees, laid}
use Rattle.sea_object.specs.declared.op.Op.{Op}
use Rattle.sea_object.specs.declared.reply.Item.{Item}
use Rattle.sea_object.specs.declared.reply.Why.{Why}
use Rattle.sea_object.specs.Answer as model
use Rattle.sea_object.specs.Objects.{ObjectMap, empty_object}
use Rattle.sea_omap.specs.Calls.{IsGiven}
use Rattle.sea_onode.specs.Onodes.{Onodes}
use Rattle.sea_onode.specs.Calls.{NotesMore}
use Rattle.sea_onode.specs.Order.{IsInRange}
use Rattle.sea_tree.specs.declared.fault.TreeFault.{TreeFault}
use Rattle.sea_tree.specs.Breaks.{FillsFewer}
use Rattle.sea_tree.specs.Calls.{IsOfSpace}
use Rattle.sea_ops.specs.WellFormed.{HasOnodeWith, IsWellFormed}

-- An address is free for a new use: it isn't that of the onode tree's root, nothing stands there, and
-- it is none of an object's addresses.
pub record IsFree (store : Store) (onodes : Onodes) (at : ℕ) : Type 0 where
  pub low : 2 ≤ at
  pub empty : store at ≡ None
  pub unused : HasOnodeWith onodes (λ onode. IsInRange onode at) → ⊥

-- A store that an operation speaks of: it agrees with what was read as the operation ends; with the
-- changes made before laid over it, it is well formed and holds these objects; its next address has
-- 64 bits; and each address that the operation was given is free.
pub record Meets (store : Store) (next : ℕ) (objects : ObjectMap) (old new : Seen) : Type 0 where
  pub agrees : Agrees store new
  pub formed : IsWellFormed (laid old store) next objects
  pub bounded : next < 2 ^ 64
  pub fresh : (at : ℕ) → IsGiven old new at → IsFree (laid old store) formed.onodes at

-- What an operation comes to on such a store: the model doesn't refuse it, and answers the same item;
-- with its changes laid over the store as well, that is well formed and holds the objects after it,
-- the next address raised above those that it was given; it leaves free what was free and wasn't
-- given; and what it changed lies from 1 to below the next address.
pub record IsDone (op : Op) (item : Item) (store : Store) (next : ℕ) (objects : ObjectMap)
    (old new : Seen) (m : Meets store next objects old new) : Type 0 where
  pub allowed : model.refusal op objects ≡ None
  pub answers : item ≡ model.item op objects
  pub formed : IsWellFormed (laid new store) (max next new.next) (model.effect op objects)
  pub leaves : (at : ℕ) → IsFree (laid old store) m.formed.onodes at → (IsGiven old new at → ⊥)
      → IsFree (laid new store) formed.onodes at
  pub within : (at : ℕ) → new.changed at ≡ true
      → (old.changed at ≡ true) ⊎ ((1 ≤ at) × (at < max next new.next))

-- An operation was done, with this item: on every store that it speaks of.
pub record Does (op : Op) (item : Item) (old new : Seen) : Type 0 where
  pub notes : NotesMore old new
  pub rises : old.next ≤ new.next
  pub does : (store : Store) (next : ℕ) (objects : ObjectMap)
      (m : Meets store next objects old new) → IsDone op item store next objects old new m

-- An operation was refused, for this reason: on every store that it speaks of.
pub record Refuses (op : Op) (why : Why) (old new : Seen) : Type 0 where
  pub notes : NotesMore old new
  pub rises : old.next ≤ new.next
  pub refuses : (store : Store) (next : ℕ) (objects : ObjectMap)
      → Meets store next objects old new → model.refusal op objects ≡ Some why

-- An operation that may be refused ended: it was done, with this item, or refused, for this reason.
abbrev pub Ends : Op → Result Item Why → Seen → Seen → Type 0
Ends op (Ok item) old new = Does op item old new
Ends op (Err why) old new = Refuses op why old new

-- An operation ended with a fault: that of the space, where it speaks of a store at all.
abbrev pub Fails : Seen → Seen → TreeFault → Type 0
Fails old new fault =
    (store : Store) (next : ℕ) (objects : ObjectMap) → Meets store next objects old new
    → IsOfSpace fault

-- The same of an operation that changes a tree: on stores with fewer filled addresses than so many,
-- whose trees can always grow.
abbrev pub FailsUnlessFull : ℕ → Seen → Seen → TreeFault → Type 0
FailsUnlessFull count old new fault =
    (store : Store) (next : ℕ) (objects : ObjectMap) → Meets store next objects old new
    → FillsFewer (laid old store) count → IsOfSpace fault

-- What the making of an empty object comes to on a store without one of that name.
pub record IsMade (name : List ℕ) (store : Store) (next : ℕ) (objects : ObjectMap)
    (old new : Seen) (m : Meets store next objects old new) : Type 0 where
  pub formed : IsWellFormed (laid new store) (max next new.next)
      (map.insert objects name empty_object)
  pub leaves : (at : ℕ) → IsFree (laid old store) m.formed.onodes at → (IsGiven old new at → ⊥)
      → IsFree (laid new store) formed.onodes at
  pub within : (at : ℕ) → new.changed at ≡ true
      → (old.changed at ≡ true) ⊎ ((1 ≤ at) × (at < max next new.next))

-- An empty object was made under a name: wherever there was none, the store is well formed with it.
pub record Makes (name : List ℕ) (old new : Seen) : Type 0 where
  pub notes : NotesMore old new
  pub rises : old.next ≤ new.next
  pub makes : (store : Store) (next : ℕ) (objects : ObjectMap)
      (m : Meets store next objects old new) → map.get objects name ≡ None
      → IsMade name store next objects old new m
