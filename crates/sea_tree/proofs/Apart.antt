-- The nodes of a subtree are distinct, and those of one child are none of another's.
use Rattle.std.proofs.Common.{◌≡◌, ◌≢◌, ◌⊎◌, ℕ, zero, suc, ◌<◌, ◌≤◌, List, [], ◌∷◌, ◌++◌, Option, Some, None, refl, sym, ap, subst, ◌∙◌, inl, inr, ⊎_elim, arith}
use Rattle.std.specs.List.{All, AllPairs, Contains}
use Rattle.std.proofs.lemmas.List.Elements.{All-head, All-tail, All-cons, All-weaker, All-from_recursion, Contains-append_left, Contains-append_right, Contains-append_cases, Contains-get_or}
use Rattle.std.proofs.lemmas.List.Kept.{AllPairs-cons}
use Rattle.std.proofs.lemmas.Bool.{cases_lt}
use Rattle.sea_base.specs.Space.{Store}
use Rattle.sea_node.specs.Entries.{Entry, Values, IsBelow, IsNotAbove, IsRising}
use Rattle.sea_node.proofs.Keys.{IsBelow-trans, IsNotAbove-itself, IsNotAbove-below, IsNotAbove-trans, not_above_not_below, IsRising-head, IsRising-tail}
use Rattle.sea_tree.specs.Tree.{NodeAt, Bounds, root_bounds, IsWithin, first_key, next_key, child_bounds, IsAddress, EachChild, IsSubtree, IsTree, IsBelowNode, IsNodeOf, AreApart}
use Rattle.sea_tree.specs.Breaks.{HasNode}
use Rattle.sea_tree.specs.Content.{Guides, Leads, LeadsTo, HasContent}
use Rattle.sea_tree.specs.Subtrees.{AllBelow, Holds}
use Rattle.sea_tree.proofs.Holding.{Contains-nil, Contains-cases, Contains-head, Contains-later, one_node, Holds-from_subtree, nodes_of_root, no_node}
use Rattle.sea_tree.proofs.Frames.{NodeAt-kept}

-- ---- distinct numbers

pub distinct-nil : AllPairs {X = ℕ} ◌≢◌ []
distinct-nil i j d l k = absurd (omega (arith, k))

pub distinct-cons : (x : ℕ) (xs : List ℕ) → (Contains xs x → ⊥) → AllPairs ◌≢◌ xs → AllPairs ◌≢◌ (x ∷ xs)
distinct-cons x xs new distinct =
    AllPairs-cons ◌≢◌ x xs (λ k d l e. new (subst (λ (y : ℕ). Contains xs y) (sym e) (Contains-get_or xs k d l))) distinct

pub distinct-head : (x : ℕ) (xs : List ℕ) → AllPairs ◌≢◌ (x ∷ xs) → Contains xs x → ⊥
distinct-head x xs distinct c = distinct 0 (suc c.0) x (omega arith) (omega (arith, c.1)) (sym c.2)

pub distinct-tail : (x : ℕ) (xs : List ℕ) → AllPairs ◌≢◌ (x ∷ xs) → AllPairs ◌≢◌ xs
distinct-tail x xs distinct i j d l k = distinct (suc i) (suc j) d (omega arith) (omega arith)

pub distinct-append : (a b : List ℕ) → AllPairs ◌≢◌ a → AllPairs ◌≢◌ b → ((q : ℕ) → Contains a q → Contains b q → ⊥) → AllPairs ◌≢◌ (a ++ b)
distinct-append [] b da db apart = db
distinct-append (x ∷ a) b da db apart =
    distinct-cons x (a ++ b) (λ c. ⊎_elim (distinct-head x a da) (apart x (Contains-head x a)) (Contains-append_cases a b x c)) (distinct-append a b (distinct-tail x a da) db (λ q c. apart q (Contains-later x a q c)))

pub distinct-left : (a b : List ℕ) → AllPairs ◌≢◌ (a ++ b) → AllPairs ◌≢◌ a
distinct-left [] b distinct = distinct-nil
distinct-left (x ∷ a) b distinct =
    distinct-cons x a (λ c. distinct-head x (a ++ b) distinct (Contains-append_left a b x c)) (distinct-left a b (distinct-tail x (a ++ b) distinct))

pub distinct-right : (a b : List ℕ) → AllPairs ◌≢◌ (a ++ b) → AllPairs ◌≢◌ b
distinct-right [] b distinct = distinct
distinct-right (x ∷ a) b distinct = distinct-right a b (distinct-tail x (a ++ b) distinct)

-- none of the first is among the second
pub distinct-apart : (a b : List ℕ) → AllPairs ◌≢◌ (a ++ b) → (q : ℕ) → Contains a q → Contains b q → ⊥
distinct-apart [] b distinct q c k = Contains-nil q c
distinct-apart (x ∷ a) b distinct q c k =
    ⊎_elim (λ (e : x ≡ q). distinct-head x (a ++ b) distinct (Contains-append_right a b x (subst (λ (y : ℕ). Contains b y) (sym e) k))) (λ later. distinct-apart a b (distinct-tail x (a ++ b) distinct) q later k) (Contains-cases x a q c)

-- ---- what an address fixes

-- A node stands at an address, of no higher level, and its first key is not below a bound and below another.
pub record IsRanged (store : Store) (level : ℕ) (low : List ℕ) (high : Option (List ℕ)) (at : ℕ) : Type 0 where
  pub node_level : ℕ
  pub entry : Entry
  pub rest : List Entry
  pub node : NodeAt store at node_level (entry ∷ rest)
  pub no_higher : node_level ≤ level
  pub lower : IsNotAbove low entry.0
  pub upper : IsWithin entry.0 high

pub IsRanged-wider : (store : Store) (level level' : ℕ) (low low' : List ℕ) (high high' : Option (List ℕ)) (at : ℕ) → level ≤ level' → IsNotAbove low' low → ((key : List ℕ) → IsWithin key high → IsWithin key high') → IsRanged store level low high at → IsRanged store level' low' high' at
IsRanged-wider store level level' low low' high high' at le lower upper r = record {
  node_level = r.node_level;
  entry = r.entry;
  rest = r.rest;
  node = r.node;
  no_higher = omega (arith, r.no_higher);
  lower = IsNotAbove-trans low' low r.entry.0 lower r.lower;
  upper = upper r.entry.0 r.upper;
}

-- ranges that meet at a key have no node in common
pub IsRanged-apart : (store : Store) (level level' : ℕ) (low key : List ℕ) (high : Option (List ℕ)) (at : ℕ) → IsRanged store level low (Some key) at → IsRanged store level' key high at → ⊥
IsRanged-apart store level level' low key high at a b =
    let same : a.entry.0 ≡ b.entry.0 = ap first_key (one_node store at a.node_level b.node_level (a.entry ∷ a.rest) (b.entry ∷ b.rest) a.node b.node).1 in
    not_above_not_below key b.entry.0 b.lower (subst (λ (k : List ℕ). IsBelow k key) same a.upper)

-- a node of a higher level is not among them
pub IsRanged-level : (store : Store) (level level' : ℕ) (low : List ℕ) (high : Option (List ℕ)) (at : ℕ) (entries : List Entry) → level < level' → NodeAt store at level' entries → IsRanged store level low high at → ⊥
IsRanged-level store level level' low high at entries above node r =
    let same : r.node_level ≡ level' = (one_node store at r.node_level level' (r.entry ∷ r.rest) entries r.node node).0 in
    omega (arith, r.no_higher)

-- ---- the nodes of a subtree

own_ranged : (store : Store) (level at : ℕ) (bounds : Bounds) (entries : List Entry) → HasNode store level at bounds entries → IsRanged store level bounds.lower bounds.upper at
own_ranged store level at bounds [] node = absurd (omega (arith, node.0.spells.node.some))
own_ranged store level at bounds (entry ∷ rest) node = record {
  node_level = level;
  entry = entry;
  rest = rest;
  node = node.0;
  no_higher = omega arith;
  lower = All-head (λ (e : Entry). IsNotAbove bounds.lower e.0) entry rest node.1.lower;
  upper = All-head (λ (e : Entry). IsWithin e.0 bounds.upper) entry rest node.1.upper;
}

pub IsWithin-below : (a b : List ℕ) (upper : Option (List ℕ)) → IsBelow a b → IsWithin b upper → IsWithin a upper
IsWithin-below a b None below within = tt
IsWithin-below a b (Some key) below within = IsBelow-trans a b key below within

-- what is below the next entry is below what bounds all
within_next : (after : List Entry) (upper : Option (List ℕ)) → All (λ e. IsWithin e.0 upper) after → (key : List ℕ) → IsWithin key (next_key after upper) → IsWithin key upper
within_next [] upper all key within = within
within_next (next ∷ after) upper all key within =
    IsWithin-below key next.0 upper within (All-head (λ (e : Entry). IsWithin e.0 upper) next after all)

rising_from : (entry : Entry) (after : List Entry) → IsRising (entry ∷ after) → All (λ e. IsNotAbove entry.0 e.0) (entry ∷ after)
rising_from entry after rising =
    All-cons (λ (e : Entry). IsNotAbove entry.0 e.0) entry after (IsNotAbove-itself entry.0) (All-weaker (λ (e : Entry). IsBelow entry.0 e.0) (λ (e : Entry). IsNotAbove entry.0 e.0) (λ e. IsNotAbove-below entry.0 e.0) after (All-from_recursion (λ (e : Entry). IsBelow entry.0 e.0) after (IsRising-head entry after rising)))

all_ranged : (store : Store) (level : ℕ) → ((child : ℕ) (b : Bounds) (p : List Entry) (n : List ℕ) → Holds store level child b p n → (q : ℕ) → Contains n q → IsRanged store level b.lower b.upper q) → (entries : List Entry) (low : List ℕ) (upper : Option (List ℕ)) (pairs : List Entry) (nodes : List ℕ) → All (λ e. IsNotAbove low e.0) entries → All (λ e. IsWithin e.0 upper) entries → AllBelow (Holds store level) entries upper pairs nodes → (q : ℕ) → Contains nodes q → IsRanged store level low upper q
all_ranged store level each [] low upper pairs nodes lowers uppers below q c = absurd (Contains-nil q (subst (λ (l : List ℕ). Contains l q) below.1 c))
all_ranged store level each (entry ∷ after) low upper pairs nodes lowers uppers below q c =
    let tail = All-tail (λ (e : Entry). IsWithin e.0 upper) entry after uppers in
    ⊎_elim
    (λ here. IsRanged-wider store level level entry.0 low (next_key after upper) upper q (omega arith) (All-head (λ (e : Entry). IsNotAbove low e.0) entry after lowers) (within_next after upper tail) (each below.0 (child_bounds entry after upper) below.1 below.3 below.6 q here))
    (λ later. all_ranged store level each after low upper below.2 below.4 (All-tail (λ (e : Entry). IsNotAbove low e.0) entry after lowers) tail below.7 q later)
    (Contains-append_cases below.3 below.4 q (subst (λ (l : List ℕ). Contains l q) below.9 c))

-- Each node of a subtree has no higher level, and its first key is within the bounds.
pub Holds-ranged : (store : Store) (level at : ℕ) (bounds : Bounds) (pairs : List Entry) (nodes : List ℕ) → Holds store level at bounds pairs nodes → (q : ℕ) → Contains nodes q → IsRanged store level bounds.lower bounds.upper q
Holds-ranged store zero at bounds pairs nodes holds q c =
    ⊎_elim
    (λ (e : at ≡ q). subst (IsRanged store 0 bounds.lower bounds.upper) e (own_ranged store 0 at bounds holds.0 holds.1))
    (λ none. absurd (Contains-nil q none))
    (Contains-cases at [] q (subst (λ (l : List ℕ). Contains l q) holds.3 c))
Holds-ranged store (suc level) at bounds pairs nodes holds q c =
    ⊎_elim
    (λ (e : at ≡ q). subst (IsRanged store (suc level) bounds.lower bounds.upper) e (own_ranged store (suc level) at bounds holds.0 holds.2))
    (λ later. IsRanged-wider store level (suc level) bounds.lower bounds.lower bounds.upper bounds.upper q (omega arith) (IsNotAbove-itself bounds.lower) (λ key w. w) (all_ranged store level (Holds-ranged store level) holds.0 bounds.lower bounds.upper pairs holds.1 holds.2.1.lower holds.2.1.upper holds.3 q later))
    (Contains-cases at holds.1 q (subst (λ (l : List ℕ). Contains l q) holds.4 c))

-- the same of the nodes below a list of entries
pub AllBelow-ranged : (store : Store) (level : ℕ) (entries : List Entry) (low : List ℕ) (upper : Option (List ℕ)) (pairs : List Entry) (nodes : List ℕ) → All (λ e. IsNotAbove low e.0) entries → All (λ e. IsWithin e.0 upper) entries → AllBelow (Holds store level) entries upper pairs nodes → (q : ℕ) → Contains nodes q → IsRanged store level low upper q
AllBelow-ranged store level = all_ranged store level (Holds-ranged store level)

-- the nodes of a child are none of those of the later ones
next_apart : (store : Store) (level : ℕ) (entry : Entry) (after : List Entry) (upper : Option (List ℕ)) (child : ℕ) (p ps : List Entry) (n ns : List ℕ) → IsRising (entry ∷ after) → All (λ e. IsWithin e.0 upper) after → Holds store level child (child_bounds entry after upper) p n → AllBelow (Holds store level) after upper ps ns → (q : ℕ) → Contains n q → Contains ns q → ⊥
next_apart store level entry [] upper child p ps n ns rising within here below q c k = Contains-nil q (subst (λ (l : List ℕ). Contains l q) below.1 k)
next_apart store level entry (next ∷ after) upper child p ps n ns rising within here below q c k =
    let first : IsRanged store level entry.0 (Some next.0) q = Holds-ranged store level child (child_bounds entry (next ∷ after) upper) p n here q c in
    let later : IsRanged store level next.0 upper q = AllBelow-ranged store level (next ∷ after) next.0 upper ps ns (rising_from next after (IsRising-tail entry (next ∷ after) rising)) within below q k in
    IsRanged-apart store level level entry.0 next.0 upper q first later

all_distinct : (store : Store) (level : ℕ) → ((child : ℕ) (b : Bounds) (p : List Entry) (n : List ℕ) → Holds store level child b p n → AllPairs ◌≢◌ n) → (entries : List Entry) (upper : Option (List ℕ)) (pairs : List Entry) (nodes : List ℕ) → IsRising entries → All (λ e. IsWithin e.0 upper) entries → AllBelow (Holds store level) entries upper pairs nodes → AllPairs ◌≢◌ nodes
all_distinct store level each [] upper pairs nodes rising within below = subst (λ (l : List ℕ). AllPairs ◌≢◌ l) (sym below.1) distinct-nil
all_distinct store level each (entry ∷ after) upper pairs nodes rising within below =
    let tail = All-tail (λ (e : Entry). IsWithin e.0 upper) entry after within in
    subst (λ (l : List ℕ). AllPairs ◌≢◌ l) (sym below.9) (distinct-append below.3 below.4 (each below.0 (child_bounds entry after upper) below.1 below.3 below.6) (all_distinct store level each after upper below.2 below.4 (IsRising-tail entry after rising) tail below.7) (next_apart store level entry after upper below.0 below.1 below.2 below.3 below.4 rising tail below.6 below.7))

-- a node's address is not among those below it
pub at_not_below : (store : Store) (level at : ℕ) (bounds : Bounds) (entries pairs : List Entry) (nodes : List ℕ) → HasNode store (suc level) at bounds entries → AllBelow (Holds store level) entries bounds.upper pairs nodes → Contains nodes at → ⊥
at_not_below store level at bounds entries pairs nodes node below c =
    IsRanged-level store level (suc level) bounds.lower bounds.upper at entries (omega arith) node.0 (AllBelow-ranged store level entries bounds.lower bounds.upper pairs nodes node.1.lower node.1.upper below at c)

-- The nodes of a subtree are distinct.
pub Holds-distinct : (store : Store) (level at : ℕ) (bounds : Bounds) (pairs : List Entry) (nodes : List ℕ) → Holds store level at bounds pairs nodes → AllPairs ◌≢◌ nodes
Holds-distinct store zero at bounds pairs nodes holds = subst (λ (l : List ℕ). AllPairs ◌≢◌ l) (sym holds.3) (distinct-cons at [] (Contains-nil at) distinct-nil)
Holds-distinct store (suc level) at bounds pairs nodes holds =
    subst (λ (l : List ℕ). AllPairs ◌≢◌ l) (sym holds.4) (distinct-cons at holds.1 (at_not_below store level at bounds holds.0 pairs holds.1 holds.2 holds.3) (all_distinct store level (Holds-distinct store level) holds.0 bounds.upper pairs holds.1 holds.2.0.spells.node.rising holds.2.1.upper holds.3))

-- the same of the nodes below a list of entries
pub AllBelow-distinct : (store : Store) (level : ℕ) (entries : List Entry) (upper : Option (List ℕ)) (pairs : List Entry) (nodes : List ℕ) → IsRising entries → All (λ e. IsWithin e.0 upper) entries → AllBelow (Holds store level) entries upper pairs nodes → AllPairs ◌≢◌ nodes
AllBelow-distinct store level = all_distinct store level (Holds-distinct store level)

-- ---- the nodes around one child

-- each node of a subtree is filled
pub Holds-filled : (store : Store) (level at : ℕ) (bounds : Bounds) (pairs : List Entry) (nodes : List ℕ) → Holds store level at bounds pairs nodes → (q : ℕ) → Contains nodes q → store q ≢ None
Holds-filled store level at bounds pairs nodes holds q c none =
    let r = Holds-ranged store level at bounds pairs nodes holds q c in
    let clash : Some r.node.bytes ≡ None = sym r.node.here ∙ none in
    cc

pub AllBelow-filled : (store : Store) (level : ℕ) (entries : List Entry) (upper : Option (List ℕ)) (pairs : List Entry) (nodes : List ℕ) → AllBelow (Holds store level) entries upper pairs nodes → (q : ℕ) → Contains nodes q → store q ≢ None
AllBelow-filled store level [] upper pairs nodes below q c = absurd (Contains-nil q (subst (λ (l : List ℕ). Contains l q) below.1 c))
AllBelow-filled store level (entry ∷ after) upper pairs nodes below q c =
    ⊎_elim (Holds-filled store level below.0 (child_bounds entry after upper) below.1 below.3 below.6 q) (AllBelow-filled store level after upper below.2 below.4 below.7 q) (Contains-append_cases below.3 below.4 q (subst (λ (l : List ℕ). Contains l q) below.9 c))

-- of three distinct lists the middle one has none of the others
pub distinct-middle : (a n b : List ℕ) → AllPairs ◌≢◌ (a ++ (n ++ b)) → (q : ℕ) → Contains n q → (Contains a q → ⊥) × (Contains b q → ⊥)
distinct-middle a n b distinct q c =
    (λ k. distinct-apart a (n ++ b) distinct q k (Contains-append_left n b q c), λ k. distinct-apart n b (distinct-right a (n ++ b) distinct) q c k)

-- ---- a tree beside one that changes

map_child : (P Q : ℕ → Bounds → Type 0) (entries : List Entry) (upper : Option (List ℕ)) → ((entry : Entry) (child : ℕ) (b : Bounds) → Contains entries entry → IsAddress entry.1 child → P child b → Q child b) → EachChild P entries upper → EachChild Q entries upper
map_child P Q [] upper f each = tt
map_child P Q (first ∷ after) upper f each = (
  (each.0.0, each.0.1, f first each.0.0 (child_bounds first after upper) (Contains-head first after) each.0.1 each.0.2),
  map_child P Q after upper (λ entry child b c. f entry child b (Contains-later first after entry c)) each.1,
)

-- the two stores have the same at each node from an address down
abbrev pub IsSameBelow : Store → Store → ℕ → ℕ → Type 0
IsSameBelow s t level at = (q : ℕ) → IsBelowNode s level at q → t q ≡ s q

same_here : (s t : Store) (level at : ℕ) → IsSameBelow s t level at → t at ≡ s at
same_here s t zero at same = same at refl
same_here s t (suc level) at same = same at (inl refl)

same_child_below : (s t : Store) (level at : ℕ) (entries : List Entry) (entry : Entry) (child : ℕ) → IsSameBelow s t (suc level) at → NodeAt s at (suc level) entries → Contains entries entry → IsAddress entry.1 child → IsSameBelow s t level child
same_child_below s t level at entries entry child same node c address q below = same q (inr (entries, node, (entry, c, (child, address, below))))

IsSubtree-kept : (s t : Store) (level at : ℕ) (bounds : Bounds) → IsSameBelow s t level at → IsSubtree s level at bounds → IsSubtree t level at bounds
IsSubtree-kept s t zero at bounds same tree = (tree.0, NodeAt-kept s t at 0 tree.0 (same_here s t 0 at same) tree.1, tree.2)
IsSubtree-kept s t (suc level) at bounds same tree =
    (tree.0, NodeAt-kept s t at (suc level) tree.0 (same_here s t (suc level) at same) tree.1, tree.2, map_child (IsSubtree s level) (IsSubtree t level) tree.0 bounds.upper (λ entry child b c address. IsSubtree-kept s t level child b (same_child_below s t level at tree.0 entry child same tree.1 c address)) tree.3)

guide_contained : (entries : List Entry) (key : List ℕ) (child : ℕ) (g : Guides entries key child) → Contains entries g.entry
guide_contained entries key child g =
    subst (λ (l : List Entry). Contains l g.entry) (sym g.split) (Contains-append_right g.before (g.entry ∷ g.after) g.entry (Contains-head g.entry g.after))

Leads-kept : (s t : Store) (level at : ℕ) (key value : List ℕ) → IsSameBelow s t level at → Leads s level at key value → Leads t level at key value
Leads-kept s t zero at key value same leads = (leads.0, NodeAt-kept s t at 0 leads.0 (same_here s t 0 at same) leads.1, leads.2)
Leads-kept s t (suc level) at key value same leads =
    let entries = leads.0 in
    let child = leads.2.0 in
    let guides = leads.2.1 in
    let below = same_child_below s t level at entries guides.entry child same leads.1 (guide_contained entries key child guides) guides.address in
    (entries, NodeAt-kept s t at (suc level) entries (same_here s t (suc level) at same) leads.1, (child, guides, Leads-kept s t level child key value below leads.2.2))

Leads-back : (s t : Store) (level at : ℕ) (key value : List ℕ) → IsSameBelow s t level at → Leads t level at key value → Leads s level at key value
Leads-back s t zero at key value same leads = (leads.0, NodeAt-kept t s at 0 leads.0 (sym (same_here s t 0 at same)) leads.1, leads.2)
Leads-back s t (suc level) at key value same leads =
    let entries = leads.0 in
    let child = leads.2.0 in
    let guides = leads.2.1 in
    let node : NodeAt s at (suc level) entries = NodeAt-kept t s at (suc level) entries (sym (same_here s t (suc level) at same)) leads.1 in
    let below = same_child_below s t level at entries guides.entry child same node (guide_contained entries key child guides) guides.address in
    (entries, node, (child, guides, Leads-back s t level child key value below leads.2.2))

pub Leads-node : (store : Store) (level at : ℕ) (key value : List ℕ) → Leads store level at key value → (entries : List Entry) × NodeAt store at level entries
Leads-node store zero at key value leads = (leads.0, leads.1)
Leads-node store (suc level) at key value leads = (leads.0, leads.1)

pub IsSubtree-node : (store : Store) (level at : ℕ) (bounds : Bounds) → IsSubtree store level at bounds → (entries : List Entry) × NodeAt store at level entries
IsSubtree-node store zero at bounds tree = (tree.0, tree.1)
IsSubtree-node store (suc level) at bounds tree = (tree.0, tree.1)

-- each node of a tree is filled
pub IsNodeOf-filled : (store : Store) (root q : ℕ) → IsTree store root → IsNodeOf store root q → store q ≢ None
IsNodeOf-filled store root q (inl empty) node = absurd (no_node store root q empty node)
IsNodeOf-filled store root q (inr tree) node =
    let held = Holds-from_subtree store tree.0 root root_bounds tree.1 in
    Holds-filled store tree.0 root root_bounds held.0 held.1 held.2 q ((nodes_of_root store tree.0 root root_bounds held.0 held.1 q held.2).1 node)

module _ (s t : Store) (other : ℕ) (here : t other ≡ s other) (same : (q : ℕ) → IsNodeOf s other q → t q ≡ s q) where
  same_below : (level : ℕ) (entries : List Entry) → NodeAt s other level entries → IsSameBelow s t level other
  same_below level entries node q below = same q (level, (entries, node), below)

  IsTree-kept : IsTree s other → IsTree t other
  IsTree-kept (inl empty) = inl (here ∙ empty)
  IsTree-kept (inr tree) =
      let top = IsSubtree-node s tree.0 other root_bounds tree.1 in
      inr (tree.0, IsSubtree-kept s t tree.0 other root_bounds (same_below tree.0 top.0 top.1) tree.1)

  LeadsTo-kept : (key value : List ℕ) → LeadsTo s other key value → LeadsTo t other key value
  LeadsTo-kept key value leads =
      let top = Leads-node s leads.0 other key value leads.1 in
      (leads.0, Leads-kept s t leads.0 other key value (same_below leads.0 top.0 top.1) leads.1)

  LeadsTo-back : (key value : List ℕ) → LeadsTo t other key value → LeadsTo s other key value
  LeadsTo-back key value leads =
      let top = Leads-node t leads.0 other key value leads.1 in
      (leads.0, Leads-back s t leads.0 other key value (same_below leads.0 top.0 (NodeAt-kept t s other leads.0 top.0 (sym here) top.1)) leads.1)

  -- A tree keeps its content where each of its nodes stays, and its root's address.
  pub HasContent-kept : (kept : Values) → HasContent s other kept → HasContent t other kept
  HasContent-kept kept h = record {
    tree = IsTree-kept h.tree;
    pairs = λ key value. (λ leads. (h.pairs key value).0 (LeadsTo-back key value leads), λ has. LeadsTo-kept key value ((h.pairs key value).1 has));
  }

-- the root of a tree that isn't empty is one of its nodes
pub IsNodeOf-root : (store : Store) (root : ℕ) → IsTree store root → store root ≢ None → IsNodeOf store root root
IsNodeOf-root store root (inl empty) filled = absurd (filled empty)
IsNodeOf-root store root (inr tree) filled = (tree.0, IsSubtree-node store tree.0 root root_bounds tree.1, at_top tree.0)
  where
    at_top : (level : ℕ) → IsBelowNode store level root root
    at_top zero = refl
    at_top (suc level) = inl refl

-- A store changes at no address but some, the nodes of one tree and some that weren't filled.
module _ (s t : Store) (root first next : ℕ) (tree : IsTree s root) (fresh : (at : ℕ) → first ≤ at → at < next → s at ≡ None) where
  kept_apart : (Stays : ℕ → Type 0) → ((at : ℕ) → Stays at → (IsNodeOf s root at → ⊥) → (at < first) ⊎ (next ≤ at) → t at ≡ s at) → (other : ℕ) (kept : Values) → HasContent s other kept → AreApart s root other → (other < first) ⊎ (next ≤ other) → Stays other → ((q : ℕ) → IsNodeOf s other q → Stays q) → HasContent t other kept
  kept_apart Stays elsewhere other kept h apart old stays each = HasContent-kept s t other (elsewhere other stays none old) same kept h
    where
      outside : (q : ℕ) → s q ≢ None → (q < first) ⊎ (next ≤ q)
      outside q filled = ⊎_elim (λ below. inl below) (λ from. ⊎_elim (λ within. absurd (filled (fresh q from within))) (λ past. inr past) (cases_lt q next)) (cases_lt q first)

      same : (q : ℕ) → IsNodeOf s other q → t q ≡ s q
      same q node = elsewhere q (each q node) (λ mine. apart q mine node) (outside q (IsNodeOf-filled s other q h.tree node))

      none : IsNodeOf s root other → ⊥
      none mine = apart other mine (IsNodeOf-root s other h.tree (IsNodeOf-filled s root other tree mine))

  -- the same where the root's own address may change too, which has no node while the tree is empty
  pub HasContent-beside : ((at : ℕ) → at ≢ root → (IsNodeOf s root at → ⊥) → (at < first) ⊎ (next ≤ at) → t at ≡ s at) → (other : ℕ) (kept : Values) → HasContent s other kept → AreApart s root other → other ≢ root → (other < first) ⊎ (next ≤ other) → HasContent t other kept
  HasContent-beside elsewhere other kept h apart else old = kept_apart (λ at. at ≢ root) elsewhere other kept h apart old else (λ q node e. apart q (mine q node e) node)
    where
      mine : (q : ℕ) → IsNodeOf s other q → q ≡ root → IsNodeOf s root q
      mine q node e =
          let filled : s root ≢ None = subst (λ (n : ℕ). s n ≢ None) e (IsNodeOf-filled s other q h.tree node) in
          subst (IsNodeOf s root) (sym e) (IsNodeOf-root s root tree filled)

-- a tree has at most eight levels
pub few_levels : (store : Store) (level at : ℕ) (bounds : Bounds) → IsSubtree store level at bounds → level ≤ 7
few_levels store zero at bounds tree = omega arith
few_levels store (suc level) at bounds tree = tree.1.spells.node.level_fits
