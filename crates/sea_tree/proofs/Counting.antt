-- A tree that can't grow has more nodes than a store of few blocks has room for.
use Rattle.std.proofs.Common.{◌≡◌, ◌≢◌, ℕ, zero, suc, ◌+◌, ◌*◌, ◌^◌, ◌<◌, ◌≤◌, List, [], ◌∷◌, ◌++◌, length, Option, Some, None, refl, sym, ap, subst, ◌∙◌, inl, inr, ⊎_elim, arith, length-append, mul-le-mul_right}
use Rattle.std.proofs.Math.Nat.{pow-succ'}
use Rattle.std.specs.List.{All, AllPairs, Contains}
use Rattle.std.proofs.lemmas.List.Elements.{All-head, All-tail, All-nil, All-cons, Contains-append_left, Contains-append_right, Contains-append_cases}
use Rattle.sea_base.specs.Space.{Store}
use Rattle.sea_base.specs.Name.{IsName}
use Rattle.sea_node.specs.Entries.{Entry, Values, entry_size, size}
use Rattle.sea_node.proofs.Nodes.{entry_size-inner, size-le}
use Rattle.sea_tree.specs.Tree.{NodeAt, Bounds, root_bounds, child_bounds, IsTree}
use Rattle.sea_tree.specs.Content.{HasContent}
use Rattle.sea_tree.specs.Breaks.{IsFull, FillsFewer}
use Rattle.sea_tree.specs.Subtrees.{AllBelow, Holds}
use Rattle.sea_tree.proofs.Holding.{Holds-from_subtree, one_node, Contains-cases, Contains-head, Contains-later, Contains-split}
use Rattle.sea_tree.proofs.Apart.{distinct-head, distinct-tail, Holds-distinct, Holds-filled, IsSubtree-node}

-- ---- distinct numbers, each among some others

-- Distinct numbers that are each in a list are no more than it has.
pub pigeonhole : (xs ys : List ℕ) → AllPairs ◌≢◌ xs → ((q : ℕ) → Contains xs q → Contains ys q) → length xs ≤ length ys
pigeonhole [] ys distinct inside = omega arith
pigeonhole (x ∷ xs) ys distinct inside =
    let at = Contains-split ys x (inside x (Contains-head x xs)) in
    let elsewhere : (q : ℕ) → Contains xs q → Contains (at.0 ++ at.1) q = λ q c.
    ⊎_elim
    (Contains-append_left at.0 at.1 q)
    (λ from. ⊎_elim (λ (e : x ≡ q). absurd (distinct-head x xs distinct (subst (λ (y : ℕ). Contains xs y) (sym e) c))) (Contains-append_right at.0 at.1 q) (Contains-cases x at.1 q from))
    (Contains-append_cases at.0 (x ∷ at.1) q (subst (λ (l : List ℕ). Contains l q) at.2 (inside q (Contains-later x xs q c)))) in
    let fewer : length xs ≤ length (at.0 ++ at.1) = pigeonhole xs (at.0 ++ at.1) (distinct-tail x xs distinct) elsewhere in
    let whole : length ys ≡ length at.0 + suc (length at.1) = ap length at.2 ∙ length-append at.0 (x ∷ at.1) in
    omega (arith, length-append at.0 at.1)

-- ---- how many nodes a subtree has

inner_sizes : (entries : List Entry) → All (λ e. length e.1 ≡ 8) entries → All (λ e. IsName e.0) entries → All (λ e. entry_size e ≤ 75) entries
inner_sizes [] values keys = All-nil (λ (e : Entry). entry_size e ≤ 75)
inner_sizes (entry ∷ entries) values keys =
    All-cons (λ (e : Entry). entry_size e ≤ 75) entry entries
    (entry_size-inner entry (All-head (λ (e : Entry). IsName e.0) entry entries keys) (All-head (λ (e : Entry). length e.1 ≡ 8) entry entries values))
    (inner_sizes entries (All-tail (λ (e : Entry). length e.1 ≡ 8) entry entries values) (All-tail (λ (e : Entry). IsName e.0) entry entries keys))

-- above the leaves an entry takes at most 75 bytes
pub inner_size : (store : Store) (at level : ℕ) (entries : List Entry) → NodeAt store at (suc level) entries → size entries ≤ 75 * length entries
inner_size store at level entries node = size-le 75 entries (inner_sizes entries (node.spells.node.children (omega arith)).1 node.spells.node.keys)

suc_times : (a b : ℕ) → suc a * b ≡ b + a * b
suc_times a b = grind arith

-- children that have each so many nodes
all_counted : (C : ℕ → Bounds → List Entry → List ℕ → Type 0) (count : ℕ) → ((child : ℕ) (b : Bounds) (p : List Entry) (n : List ℕ) → b.least ≡ 1016 → C child b p n → count ≤ length n) → (entries : List Entry) (upper : Option (List ℕ)) (pairs : List Entry) (nodes : List ℕ) → AllBelow C entries upper pairs nodes → length entries * count ≤ length nodes
all_counted C count each [] upper pairs nodes below = omega arith
all_counted C count each (entry ∷ after) upper pairs nodes below =
    let here : count ≤ length below.3 = each below.0 (child_bounds entry after upper) below.1 below.3 refl below.6 in
    let rest : length after * count ≤ length below.4 = all_counted C count each after upper below.2 below.4 below.7 in
    let whole : length nodes ≡ length below.3 + length below.4 = ap length below.9 ∙ length-append below.3 below.4 in
    let times : suc (length after) * count ≡ count + length after * count = suc_times (length after) count in
    omega arith

-- a subtree that isn't a root's has at least 14^level nodes
pub Holds-count : (store : Store) (level at : ℕ) (bounds : Bounds) (pairs : List Entry) (nodes : List ℕ) → bounds.least ≡ 1016 → Holds store level at bounds pairs nodes → 14 ^ level ≤ length nodes
Holds-count store zero at bounds pairs nodes least holds =
    let one : length nodes ≡ 1 = ap length holds.3 in
    omega arith
Holds-count store (suc level) at bounds pairs nodes least holds =
    let bytes : size holds.0 ≤ 75 * length holds.0 = inner_size store at level holds.0 holds.2.0 in
    let filled : bounds.least ≤ size holds.0 = holds.2.1.filled in
    let many : 14 ≤ length holds.0 = omega arith in
    let below : length holds.0 * 14 ^ level ≤ length holds.1 = all_counted (Holds store level) (14 ^ level) (Holds-count store level) holds.0 bounds.upper pairs holds.1 holds.3 in
    let step : 14 * 14 ^ level ≤ length holds.0 * 14 ^ level = mul-le-mul_right (14 ^ level) many in
    let whole : length nodes ≡ suc (length holds.1) = ap length holds.4 in
    let power : 14 ^ suc level ≡ 14 * 14 ^ level = pow-succ' 14 level in
    omega arith

-- a root of the highest level that has no room for one more separator
pub full_count : (store : Store) (root : ℕ) (pairs entries : List Entry) (nodes : List ℕ) → Holds store 7 root root_bounds pairs nodes → NodeAt store root 7 entries → 3989 < size entries → 2 ^ 25 ≤ length nodes
full_count store root pairs entries nodes holds node full =
    let same : entries ≡ holds.0 = (one_node store root 7 7 entries holds.0 node holds.2.0).1 in
    let sizes : size entries ≡ size holds.0 = ap size same in
    let bytes : size holds.0 ≤ 75 * length holds.0 = inner_size store root 6 holds.0 holds.2.0 in
    let below : length holds.0 * 7529536 ≤ length holds.1 = all_counted (Holds store 6) 7529536 (Holds-count store 6) holds.0 None pairs holds.1 holds.3 in
    let whole : length nodes ≡ suc (length holds.1) = ap length holds.4 in
    omega arith

-- A tree that can't grow does not stand in a store that fills fewer addresses.
pub full_crowded : (store : Store) (root : ℕ) (pairs entries : List Entry) (nodes : List ℕ) → Holds store 7 root root_bounds pairs nodes → NodeAt store root 7 entries → 3989 < size entries → FillsFewer store (2 ^ 25) → ⊥
full_crowded store root pairs entries nodes holds node full fewer =
    let many : 2 ^ 25 ≤ length nodes = full_count store root pairs entries nodes holds node full in
    let few : length nodes ≤ length fewer.0 = pigeonhole nodes fewer.0 (Holds-distinct store 7 root root_bounds pairs nodes holds) (λ q c. fewer.2 q (Holds-filled store 7 root root_bounds pairs nodes holds q c)) in
    let bound : length fewer.0 < 2 ^ 25 = fewer.1 in
    omega arith

full_tree : (store : Store) (root : ℕ) → IsTree store root → IsFull store root → FillsFewer store (2 ^ 25) → ⊥
full_tree store root (inl empty) full fewer =
    let clash : Some full.1.bytes ≡ None = sym full.1.here ∙ empty in
    cc
full_tree store root (inr tree) full fewer =
    let held = Holds-from_subtree store tree.0 root root_bounds tree.1 in
    let top = IsSubtree-node store tree.0 root root_bounds tree.1 in
    let level : tree.0 ≡ 7 = (one_node store root tree.0 7 top.0 full.0 top.1 full.1).0 in
    full_crowded store root held.0 full.0 held.1 (subst (λ (l : ℕ). Holds store l root root_bounds held.0 held.1) level held.2) full.1 full.2 fewer

pub full_refuted : (store : Store) (root : ℕ) (content : Values) → HasContent store root content → IsFull store root → FillsFewer store (2 ^ 25) → ⊥
full_refuted store root content has = full_tree store root has.tree
