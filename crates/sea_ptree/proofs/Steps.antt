-- One step of a look-up, from a node to the child on the way of a key.
use Rattle.std.proofs.Common.{◌≡◌, ℕ, zero, suc, List, [], ◌∷◌, Option, Some, Result, sym, subst, ◌∙◌, inl, inr}
use Rattle.std.specs.Prelude.{◌↔◌, IfOk}
use Rattle.std.proofs.lemmas.Result.{IfOk-weaker}
use Rattle.std.specs.Ordering.{nat_cmp}
use Rattle.std.specs.FinMap.Entries.{find}
use Rattle.sea_base.specs.declared.place.PRoot.{PRoot}
use Rattle.sea_base.specs.declared.place.Slot.{Slot}
use Rattle.sea_ptree.specs.declared.fault.PFault.{PFault}
use Rattle.sea_ptree.specs.declared.kind.Kind.{Kind}
use Rattle.sea_ptree.specs.declared.link.Link.{Link}
use Rattle.sea_ptree.specs.Blocks.{Image, Held, Keeps}
use Rattle.sea_ptree.specs.Faults.{IsFaultBelow, IsFaultFrom, IsBlameless, IsWhole}
use Rattle.sea_ptree.specs.Node.{Entry}
use Rattle.sea_ptree.specs.Tree.{Item, Holds, NodeAt, Guides, Has, IsBelowNext, Leads, Reaches, link_of}
use Rattle.sea_ptree.proofs.Blame.{blameless}
use Rattle.sea_ptree.proofs.Guiding.{one_node, one_guided, none_guided, node_rising, leads_on, leads_leaf, find_guided}
use Rattle.sea_ptree.proofs.Items.{all_pairs}
use Rattle.sea_ptree.proofs.Lookups.{held_on, held_leaf}
use Rattle.sea_ptree.proofs.Reaching.{whole_leaf}

-- a call that is done leaves all as it was
pub same_held : (old mid : Held) → Keeps old mid × (mid.faults ≡ old.faults) → mid ≡ old
same_held old mid kept i = record { image = kept.0.image i; tells = kept.0.tells i; faults = kept.1 i }

pub leads_step : (kind : Kind) (old mid : Held) (up level : ℕ) (link child : Link) (key : ℕ) (es : List Entry) (e : Entry) (r : Result (Option Slot) PFault) → Keeps old mid × (mid.faults ≡ old.faults) → suc level ≡ up → child ≡ link_of e.1 → NodeAt kind old.image up link es → Guides key es e
    → IfOk r (λ found. (slot : Slot) → (found ≡ Some slot) ↔ Leads kind mid.image level child key slot) → IfOk r (λ found. (slot : Slot) → (found ≡ Some slot) ↔ Leads kind old.image up link key slot)
leads_step kind old mid up level link child key es e r kept is leads_to node guides =
    IfOk-weaker r (λ found. (slot : Slot) → (found ≡ Some slot) ↔ Leads kind mid.image level child key slot) (λ found. (slot : Slot) → (found ≡ Some slot) ↔ Leads kind old.image up link key slot) (λ found below slot.
    subst (λ (l : ℕ). (found ≡ Some slot) ↔ Leads kind old.image l link key slot) is
    (leads_on kind old.image level link key es e found (subst (λ (l : ℕ). NodeAt kind old.image l link es) (sym is) node) guides
    (λ s. subst (λ (c : Link). (found ≡ Some s) ↔ Leads kind old.image level c key s) leads_to (subst (λ (i : Image). (found ≡ Some s) ↔ Leads kind i level child key s) kept.0.image (below s))) slot))

pub content_step : (kind : Kind) (old mid : Held) (up level : ℕ) (link child : Link) (key : ℕ) (es : List Entry) (e : Entry) (r : Result (Option Slot) PFault) → Keeps old mid × (mid.faults ≡ old.faults) → suc level ≡ up → child ≡ link_of e.1 → NodeAt kind old.image up link es → Guides key es e
    → IfOk r (λ found. (items : List (Item level)) → Holds kind mid.image level child items → found ≡ find nat_cmp key (all_pairs level items)) → IfOk r (λ found. (items : List (Item up)) → Holds kind old.image up link items → found ≡ find nat_cmp key (all_pairs up items))
content_step kind old mid up level link child key es e r kept is leads_to node guides =
    IfOk-weaker r (λ found. (items : List (Item level)) → Holds kind mid.image level child items → found ≡ find nat_cmp key (all_pairs level items)) (λ found. (items : List (Item up)) → Holds kind old.image up link items → found ≡ find nat_cmp key (all_pairs up items)) (λ found below.
    subst (λ (l : ℕ). (items : List (Item l)) → Holds kind old.image l link items → found ≡ find nat_cmp key (all_pairs l items)) is
    (held_on kind old.image level link key es e found (subst (λ (l : ℕ). NodeAt kind old.image l link es) (sym is) node) guides
    (λ items holds. below items (subst (λ (c : Link). Holds kind mid.image level c items) (sym leads_to) (subst (λ (i : Image). Holds kind i level (link_of e.1) items) (sym kept.0.image) holds)))))

whole_on : (kind : Kind) (image : Image) (level : ℕ) (link : Link) (key : ℕ) (es : List Entry) (e : Entry) → NodeAt kind image (suc level) link es → Guides key es e → IsWhole (Guides key) kind image level (link_of e.1) → IsWhole (Guides key) kind image (suc level) link
whole_on kind image level link key es e node guides below to target (inl (to_is, target_is)) =
    (es, subst (λ (l : ℕ). NodeAt kind image l target es) (sym to_is) (subst (λ (t : Link). NodeAt kind image (suc level) t es) (sym target_is) node))
whole_on kind image level link key es e node guides below to target (inr (fs, at, (f, leads, further))) =
    let same = one_node kind image (suc level) link fs es at node in
    let entry : f ≡ e = one_guided key es f e (node_rising kind image (suc level) link es node) (subst (λ (xs : List Entry). Guides key xs f) same leads) guides in
    below to target (subst (λ (x : Entry). Reaches (Guides key) kind image level (link_of x.1) to target) entry further)

pub whole_step : (kind : Kind) (old mid : Held) (up level : ℕ) (link child : Link) (key : ℕ) (es : List Entry) (e : Entry) → Keeps old mid × (mid.faults ≡ old.faults) → suc level ≡ up → child ≡ link_of e.1 → NodeAt kind old.image up link es → Guides key es e
    → IsWhole (Guides key) kind mid.image level child → IsWhole (Guides key) kind old.image up link
whole_step kind old mid up level link child key es e kept is leads_to node guides below =
    subst (λ (l : ℕ). IsWhole (Guides key) kind old.image l link) is
    (whole_on kind old.image level link key es e (subst (λ (l : ℕ). NodeAt kind old.image l link es) (sym is) node) guides
    (subst (λ (c : Link). IsWhole (Guides key) kind old.image level c) leads_to (subst (λ (i : Image). IsWhole (Guides key) kind i level child) kept.0.image below)))

-- no child is on the way
pub whole_end : (kind : Kind) (image : Image) (level : ℕ) (link : Link) (key : ℕ) (es : List Entry) → NodeAt kind image level link es → IsBelowNext key es → IsWhole (Guides key) kind image level link
whole_end kind image zero link key es node next to target reached = whole_leaf (Guides key) kind image link es node to target reached
whole_end kind image (suc level) link key es node next to target (inl (to_is, target_is)) =
    (es, subst (λ (l : ℕ). NodeAt kind image l target es) (sym to_is) (subst (λ (t : Link). NodeAt kind image (suc level) t es) (sym target_is) node))
whole_end kind image (suc level) link key es node next to target (inr (fs, at, (f, leads, further))) =
    let same = one_node kind image (suc level) link fs es at node in
    absurd (none_guided key es f (node_rising kind image (suc level) link es node) next (subst (λ (xs : List Entry). Guides key xs f) same leads))

-- a leaf
pub leads_end : (kind : Kind) (image : Image) (level : ℕ) (link : Link) (key : ℕ) (es : List Entry) (e : Entry) (found : Option Slot) → level ≡ 0 → NodeAt kind image level link es → Guides key es e → found ≡ find nat_cmp key (e ∷ []) → (slot : Slot) → (found ≡ Some slot) ↔ Leads kind image level link key slot
leads_end kind image level link key es e found is node guides found_is slot =
    let leaf = subst (λ (l : ℕ). NodeAt kind image l link es) is node in
    subst (λ (l : ℕ). (found ≡ Some slot) ↔ Leads kind image l link key slot) (sym is)
    (leads_leaf kind image link key es found leaf (found_is ∙ sym (find_guided key es e (node_rising kind image 0 link es leaf) guides)) slot)

pub content_end : (kind : Kind) (image : Image) (level : ℕ) (link : Link) (key : ℕ) (es : List Entry) (e : Entry) (found : Option Slot) → level ≡ 0 → NodeAt kind image level link es → Guides key es e → found ≡ find nat_cmp key (e ∷ []) → (items : List (Item level)) → Holds kind image level link items → found ≡ find nat_cmp key (all_pairs level items)
content_end kind image level link key es e found is node guides found_is =
    let leaf = subst (λ (l : ℕ). NodeAt kind image l link es) is node in
    subst (λ (l : ℕ). (items : List (Item l)) → Holds kind image l link items → found ≡ find nat_cmp key (all_pairs l items)) (sym is)
    (held_leaf kind image link key es found leaf (found_is ∙ sym (find_guided key es e (node_rising kind image 0 link es leaf) guides)))

-- a fault below a root
pub root_blameless : (Step : List Entry → Entry → Type 0) → ((es : List Entry) (e : Entry) → Step es e → Has es e) → (kind : Kind) (old new : Held) (root : PRoot) (level : ℕ) (from : Link) (fault : PFault) → suc level ≡ root.height → from ≡ record { at = root.at; sum = root.sum } → IsFaultBelow Step kind old new level from fault → IsBlameless kind old root fault
root_blameless Step step kind old new root level from fault is from_is below =
    blameless Step step kind old new root fault (subst (λ (h : ℕ). IsFaultFrom Step kind old new h (record { at = root.at; sum = root.sum }) fault) is (subst (λ (l : Link). IsFaultBelow Step kind old new level l fault) from_is below))
