-- A tree that keeps its rules is to blame for no fault.
use Rattle.std.proofs.Common.{◌≡◌, ℕ, zero, suc, List, map, sym, subst, ◌∙◌, inl, inr, IsTrue}
use Rattle.sea_base.specs.declared.place.PRoot.{PRoot}
use Rattle.sea_base.specs.declared.space.SpaceFault.TheVariants.{NoMemory, DeviceFault, Damaged}
use Rattle.sea_base.proofs.Fields.{big_endian-injective}
use Rattle.sea_ptree.specs.declared.fault.PFault.{PFault}
use Rattle.sea_ptree.specs.declared.fault.PFault.TheVariants.{Space, NoNode}
use Rattle.sea_ptree.specs.declared.kind.Kind.{Kind}
use Rattle.sea_ptree.specs.declared.link.Link.{Link}
use Rattle.sea_ptree.specs.Blocks.{Image, Held, HasSum}
use Rattle.sea_ptree.specs.Faults.{IsNodeFault, IsFaultFrom, IsWant, IsOutside, IsBlameless, IsWhole}
use Rattle.sea_ptree.specs.Node.{Entry}
use Rattle.sea_ptree.specs.Tree.{Item, entry_of, Stands, NodeAt, Guides, Has, Reaches, link_of, Content, IsTreeOf}
use Rattle.sea_ptree.proofs.Guiding.{one_node}
use Rattle.sea_ptree.proofs.Items.{AllStand, picked}
use Rattle.sea_ptree.proofs.Lookups.{stands_at}

-- a block has one sum alone
pub one_sum : (bytes : List ℕ) (a b : ℕ) → HasSum bytes a → HasSum bytes b → a ≡ b
one_sum bytes a b first second = big_endian-injective 8 a b first.fits second.fits (first.spelled ∙ sym second.spelled)

pub guides_has : (key : ℕ) (es : List Entry) (e : Entry) → Guides key es e → Has es e
guides_has key es e guides = record { before = guides.before; after = guides.after; split = guides.split }

-- an entry of a node, with what stands there
pub has_item : (kind : Kind) (image : Image) (level : ℕ) (items : List (Item level)) (e : Entry) → AllStand kind image level items → Has (map (entry_of level) items) e → (x : Item level) × (entry_of level x ≡ e) × Stands kind image level x
has_item kind image level items e all has =
    let p = picked level items has.before e has.after has.split in
    (p.item, p.item_is, stands_at kind image level p.front p.item p.back (subst (AllStand kind image level) p.split all))

-- each link that is reached in a tree leads to a node
pub reached_node : (Step : List Entry → Entry → Type 0) → ((es : List Entry) (e : Entry) → Step es e → Has es e) → (kind : Kind) (image : Image) (level : ℕ) (link : Link) (items : List (Item level))
    → NodeAt kind image level link (map (entry_of level) items) → AllStand kind image level items → IsWhole Step kind image level link
reached_node Step step kind image zero link items node all to target (to_is, target_is) =
    (map (entry_of zero) items, subst (λ (l : ℕ). NodeAt kind image l target (map (entry_of zero) items)) (sym to_is) (subst (λ (t : Link). NodeAt kind image 0 t (map (entry_of zero) items)) (sym target_is) node))
reached_node Step step kind image (suc level) link items node all to target (inl (to_is, target_is)) =
    (map (entry_of (suc level)) items, subst (λ (l : ℕ). NodeAt kind image l target (map (entry_of (suc level)) items)) (sym to_is) (subst (λ (t : Link). NodeAt kind image (suc level) t (map (entry_of (suc level)) items)) (sym target_is) node))
reached_node Step step kind image (suc level) link items node all to target (inr (es, at, (e, leads, below))) =
    let same = one_node kind image (suc level) link es (map (entry_of (suc level)) items) at node in
    let x = has_item kind image (suc level) items e all (subst (λ (xs : List Entry). Has xs e) same (step es e leads)) in
    reached_node Step step kind image level x.0.0 x.0.1 x.2.0 x.2.2 to target (subst (λ (f : Entry). Reaches Step kind image level (link_of f.1) to target) (sym x.1) below)

node_blameless : (kind : Kind) (old new : Held) (level : ℕ) (link : Link) (es : List Entry) (fault : PFault) → IsTrue old.tells → NodeAt kind old.image level link es → IsNodeFault kind old new level link fault → IsOutside fault
node_blameless kind old new level link es (Space NoMemory) told node fault = tt
node_blameless kind old new level link es (Space DeviceFault) told node fault = tt
node_blameless kind old new level link es (Space (Damaged block kept found)) told node fault =
    fault.3.differs (one_sum (old.image link.at.0) found.0 link.sum.0 (fault.3.told told) node.sum_is)
node_blameless kind old new level link es (NoNode block) told node fault = (fault.2 told).none es node.spells

want_outside : (old new : Held) (fault : PFault) → IsWant old new fault → IsOutside fault
want_outside old new (Space NoMemory) want = tt
want_outside old new (Space DeviceFault) want = absurd want
want_outside old new (Space (Damaged block kept found)) want = want
want_outside old new (NoNode block) want = want

below_blameless : (Step : List Entry → Entry → Type 0) → ((es : List Entry) (e : Entry) → Step es e → Has es e) → (kind : Kind) (old new : Held) (height : ℕ) (link : Link) (fault : PFault) → IsFaultFrom Step kind old new height link fault
    → IsTrue old.tells → (content : Content) (places : List ℕ) → IsTreeOf kind old.image height link content places → IsOutside fault
below_blameless Step step kind old new zero link fault cause told content places tree = want_outside old new fault cause
below_blameless Step step kind old new (suc level) link fault cause told content places tree =
    let node = reached_node Step step kind old.image level link tree.0 tree.1.node tree.1.stand cause.level cause.link (cause.reached told) in
    node_blameless kind old new cause.level cause.link node.0 fault told node.1 cause.node

pub blameless : (Step : List Entry → Entry → Type 0) → ((es : List Entry) (e : Entry) → Step es e → Has es e) → (kind : Kind) (old new : Held) (root : PRoot) (fault : PFault) → IsFaultFrom Step kind old new root.height (record { at = root.at; sum = root.sum }) fault → IsBlameless kind old root fault
blameless Step step kind old new root fault cause told content places tree =
    below_blameless Step step kind old new root.height (record { at = root.at; sum = root.sum }) fault cause told content places tree
