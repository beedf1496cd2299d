-- Links that are reached, and what stands there.
use Rattle.std.proofs.Common.{◌≡◌, ℕ, zero, suc, List, refl, sym, subst, ◌∙◌, inl, inr, arith, IsTrue}
use Rattle.sea_base.specs.declared.space.SpaceFault.TheVariants.{NoMemory}
use Rattle.sea_ptree.specs.declared.fault.PFault.{PFault}
use Rattle.sea_ptree.specs.declared.fault.PFault.TheVariants.{Space}
use Rattle.sea_ptree.specs.declared.kind.Kind.{Kind}
use Rattle.sea_ptree.specs.declared.link.Link.{Link}
use Rattle.sea_ptree.specs.Blocks.{Image, Held, Keeps}
use Rattle.sea_ptree.specs.Node.{Entry}
use Rattle.sea_ptree.specs.Tree.{NodeAt, link_of, Reaches}
use Rattle.sea_ptree.specs.Faults.{IsNodeFault, IsFaultBelow, IsWhole}

-- a link is reached from itself
pub reached_itself : (Step : List Entry → Entry → Type 0) (kind : Kind) (image : Image) (level : ℕ) (link : Link) → Reaches Step kind image level link level link
reached_itself Step kind image zero link = (refl, refl)
reached_itself Step kind image (suc level) link = inl (refl, refl)

-- the node itself was not read
pub fault_here : (Step : List Entry → Entry → Type 0) (kind : Kind) (old new : Held) (level : ℕ) (link : Link) (fault : PFault) → IsNodeFault kind old new level link fault → IsFaultBelow Step kind old new level link fault
fault_here Step kind old new level link fault node = record { level = level; link = link; node = node; reached = λ _. reached_itself Step kind old.image level link }

-- why a call on a child was not done is why a call on its parent was not
pub fault_below : (Step : List Entry → Entry → Type 0) (kind : Kind) (old mid new : Held) (level : ℕ) (link : Link) (entries : List Entry) (entry : Entry) (fault : PFault)
    → Keeps old mid → mid.faults ≡ old.faults → (IsTrue old.tells → NodeAt kind old.image (suc level) link entries) → Step entries entry → IsFaultBelow Step kind mid new level (link_of entry.1) fault → IsFaultBelow Step kind old new (suc level) link fault
fault_below Step kind old mid new level link entries entry fault keeps counted node step below =
    let same : mid ≡ old = λ i. record { image = keeps.image i; tells = keeps.tells i; faults = counted i } in
    let moved = subst (λ (held : Held). IsFaultBelow Step kind held new level (link_of entry.1) fault) same below in
    record { level = moved.level; link = moved.link; node = moved.node; reached = λ told. inr (entries, node told, (entry, step, moved.reached told)) }

-- the same at a level by another name
pub fault_step : (Step : List Entry → Entry → Type 0) (kind : Kind) (old mid new : Held) (up level : ℕ) (link child : Link) (entries : List Entry) (entry : Entry) (fault : PFault) → suc level ≡ up → child ≡ link_of entry.1
    → Keeps old mid → mid.faults ≡ old.faults → (IsTrue old.tells → NodeAt kind old.image up link entries) → Step entries entry → IsFaultBelow Step kind mid new level child fault → IsFaultBelow Step kind old new up link fault
fault_step Step kind old mid new up level link child entries entry fault is leads_to keeps counted node step below =
    subst (λ (l : ℕ). IsFaultBelow Step kind old new l link fault) is
    (fault_below Step kind old mid new level link entries entry fault keeps counted (λ told. subst (λ (l : ℕ). NodeAt kind old.image l link entries) (sym is) (node told)) step
    (subst (λ (c : Link). IsFaultBelow Step kind mid new level c fault) leads_to below))

-- memory ran out, and no fault was counted
pub want_here : (Step : List Entry → Entry → Type 0) (kind : Kind) (old new : Held) (level : ℕ) (link : Link) → new.faults ≡ old.faults → IsFaultBelow Step kind old new level link (Space NoMemory)
want_here Step kind old new level link counted = fault_here Step kind old new level link (Space NoMemory) counted

pub keeps_on : (old mid new : Held) → Keeps old mid → Keeps mid new → Keeps old new
keeps_on old mid new first second = record { image = second.image ∙ first.image; tells = second.tells ∙ first.tells; later = omega (arith, first.later, second.later) }

-- ---- a node is told by its block

pub whole_leaf : (Step : List Entry → Entry → Type 0) (kind : Kind) (image : Image) (link : Link) (entries : List Entry) → NodeAt kind image 0 link entries → IsWhole Step kind image 0 link
whole_leaf Step kind image link entries node level target (level_is, link_is) =
    (entries, subst (λ (l : ℕ). NodeAt kind image l target entries) (sym level_is) (subst (λ (t : Link). NodeAt kind image 0 t entries) (sym link_is) node))
