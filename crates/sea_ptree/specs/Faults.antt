-- Why a call on a tree was not done, and which nodes were whole where it was.
use Rattle.std.specs.Prelude.{◌≡◌, ℕ, zero, suc, List, IsTrue, Result, Ok, Err}
use Rattle.sea_base.specs.declared.place.PRoot.{PRoot}
use Rattle.sea_base.specs.declared.space.SpaceFault.TheVariants.{NoMemory, DeviceFault, Damaged}
use Rattle.sea_ptree.specs.declared.fault.PFault.{PFault}
use Rattle.sea_ptree.specs.declared.fault.PFault.TheVariants.{Space, NoNode}
use Rattle.sea_ptree.specs.declared.kind.Kind.{Kind}
use Rattle.sea_ptree.specs.declared.link.Link.{Link}
use Rattle.sea_ptree.specs.Blocks.{Image, Held, HasSum, IsBlockFault, Keeps}
use Rattle.sea_ptree.specs.Node.{Entry, Spells}
use Rattle.sea_ptree.specs.Tree.{NodeAt, Reaches, root_link, Content, IsTree}

-- What a call that reads blocks keeps. The count of faults rises in no call that is done.
abbrev pub Reads : {T E : Type 0} → Held → Held → Result T E → Type 0
Reads old new (Ok x) = Keeps old new × (new.faults ≡ old.faults)
Reads old new (Err e) = Keeps old new

-- a block with the sum that a link kept is no node of the wanted level
pub record IsNoNode (kind : Kind) (image : Image) (level : ℕ) (link : Link) : Type 0 where
  pub sum_is : HasSum (image link.at.0) link.sum.0
  pub none : (entries : List Entry) → Spells kind (image link.at.0) level entries → ⊥

-- why a node was not read
abbrev pub IsNodeFault : Kind → Held → Held → ℕ → Link → PFault → Type 0
IsNodeFault kind old new level link (Space fault) = IsBlockFault old new link.at.0 link.sum.0 fault
IsNodeFault kind old new level link (NoNode block) =
    (new.faults ≡ old.faults) × (block ≡ link.at)
    × (IsTrue old.tells → IsNoNode kind old.image level link)

-- a node that is reached from a link was not read
pub record IsFaultBelow (Step : List Entry → Entry → Type 0) (kind : Kind) (old new : Held)
    (top : ℕ) (from : Link) (fault : PFault) : Type 0 where
  pub level : ℕ
  pub link : Link
  pub node : IsNodeFault kind old new level link fault
  pub reached : IsTrue old.tells → Reaches Step kind old.image top from level link

-- want of memory, which counts no fault
abbrev pub IsWant : Held → Held → PFault → Type 0
IsWant old new (Space NoMemory) = new.faults ≡ old.faults
IsWant old new (Space DeviceFault) = ⊥
IsWant old new (Space (Damaged block kept found)) = ⊥
IsWant old new (NoNode block) = ⊥

abbrev pub IsFaultFrom : (List Entry → Entry → Type 0) → Kind → Held → Held → ℕ → Link → PFault
    → Type 0
IsFaultFrom Step kind old new zero from fault = IsWant old new fault
IsFaultFrom Step kind old new (suc level) from fault =
    IsFaultBelow Step kind old new level from fault

-- why a call on a tree was not done: a node that is reached from its root was not read, or memory
-- ran out
abbrev pub IsFault : (List Entry → Entry → Type 0) → Kind → Held → Held → PRoot → PFault → Type 0
IsFault Step kind old new root fault =
    IsFaultFrom Step kind old new root.height (root_link root) fault

-- each link that is reached leads to a node of its level
abbrev pub IsWhole : (List Entry → Entry → Type 0) → Kind → Image → ℕ → Link → Type 0
IsWhole Step kind image top from =
    (level : ℕ) (link : Link) → Reaches Step kind image top from level link
    → (entries : List Entry) × NodeAt kind image level link entries

abbrev pub IsWholeFrom : (List Entry → Entry → Type 0) → Kind → Image → ℕ → Link → Type 0
IsWholeFrom Step kind image zero from = Unit {0}
IsWholeFrom Step kind image (suc level) from = IsWhole Step kind image level from

-- no fault but one of the device or want of memory, which no tree is to blame for
abbrev pub IsOutside : PFault → Type 0
IsOutside (Space NoMemory) = Unit {0}
IsOutside (Space DeviceFault) = Unit {0}
IsOutside (Space (Damaged block kept found)) = ⊥
IsOutside (NoNode block) = ⊥

-- A tree that keeps its rules, where blocks are told, gives no other fault.
abbrev pub IsBlameless : Kind → Held → PRoot → PFault → Type 0
IsBlameless kind held root fault =
    IsTrue held.tells → (content : Content) (places : List ℕ)
    → IsTree kind held.image root content places → IsOutside fault
