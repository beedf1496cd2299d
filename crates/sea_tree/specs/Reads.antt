-- Which addresses a call reads.
use Rattle.std.specs.Prelude.{◌≡◌, ◌⊎◌, ◌<◌, ℕ, zero, suc, List, [], ◌∷◌, ◌++◌, length}
use Rattle.std.specs.List.{Contains}
use Rattle.sea_base.specs.Space.{Store, Seen, Agrees, laid}
use Rattle.sea_node.specs.Entries.{Entry, IsNotAbove, entries_before}
use Rattle.sea_tree.specs.Tree.{Bounds, root_bounds, LiesWithin, IsAddress, IsNodeOf}
use Rattle.sea_tree.specs.Breaks.{HasNode, Child}

-- an address is that of a child of a node with these entries
abbrev pub IsChildOf : List Entry → ℕ → Type 0
IsChildOf entries q = (entry : Entry) × Contains entries entry × IsAddress entry.1 q

-- the addresses on the path to a key, from this one down, by nodes in their places
abbrev pub OnPath : Store → List ℕ → ℕ → ℕ → Bounds → ℕ → Type 0
OnPath store key zero at bounds q = q ≡ at
OnPath store key (suc level) at bounds q =
    (q ≡ at)
    ⊎ ((entries : List Entry) × HasNode store (suc level) at bounds entries
    × ((before : List Entry) × (after : List Entry) × (child : ℕ) × (b : Bounds)
    × Child entries bounds.upper before after child b
    × LiesWithin key b × OnPath store key level child b q))

-- The neighbour of a child, with the entries before and after its own: the child of the next entry,
-- or of the one before where there is no next.
abbrev pub IsNeighbour : List Entry → List Entry → ℕ → Type 0
IsNeighbour before (next ∷ after) q = IsAddress next.1 q
IsNeighbour before [] q =
    (front : List Entry) × (last : Entry) × (before ≡ front ++ last ∷ []) × IsAddress last.1 q

-- the neighbours of the nodes on the path to a key
abbrev pub BesidePath : Store → List ℕ → ℕ → ℕ → Bounds → ℕ → Type 0
BesidePath store key zero at bounds q = ⊥
BesidePath store key (suc level) at bounds q =
    (entries : List Entry) × HasNode store (suc level) at bounds entries
    × ((before : List Entry) × (after : List Entry) × (child : ℕ) × (b : Bounds)
    × Child entries bounds.upper before after child b × LiesWithin key b
    × (IsNeighbour before after q ⊎ BesidePath store key level child b q))

-- the root, or an address reached so from it
abbrev pub OfRoot : (ℕ → ℕ → Bounds → ℕ → Type 0) → Store → ℕ → ℕ → Type 0
OfRoot below store root q =
    (q ≡ root)
    ⊎ ((level : ℕ) × ((entries : List Entry) × HasNode store level root root_bounds entries)
    × below level root root_bounds q)

abbrev pub IsOnPath : Store → List ℕ → ℕ → ℕ → Type 0
IsOnPath store key root q = OfRoot (OnPath store key) store root q

-- on the path, or the neighbour of a node on it
abbrev pub IsNearPath : Store → List ℕ → ℕ → ℕ → Type 0
IsNearPath store key root q =
    IsOnPath store key root q ⊎ OfRoot (BesidePath store key) store root q

-- what was newly read is one of these addresses
abbrev pub ReadsAmong : (Store → ℕ → Type 0) → Seen → Seen → Type 0
ReadsAmong P old new =
    (at : ℕ) → (new.reads at ≡ old.reads at)
    ⊎ ((store : Store) → Agrees store new → P (laid old store) at)

-- on the path to a key
abbrev pub ReadsPath : ℕ → List ℕ → Seen → Seen → Type 0
ReadsPath root key = ReadsAmong (λ store at. IsOnPath store key root at)

-- or beside it
abbrev pub ReadsNear : ℕ → List ℕ → Seen → Seen → Type 0
ReadsNear root key = ReadsAmong (λ store at. IsNearPath store key root at)

-- nothing was newly read
abbrev pub ReadsNothing : Seen → Seen → Type 0
ReadsNothing old new = (at : ℕ) → new.reads at ≡ old.reads at

-- or one address alone
abbrev pub ReadsOnly : ℕ → Seen → Seen → Type 0
ReadsOnly one old new = (at : ℕ) → (new.reads at ≡ old.reads at) ⊎ (at ≡ one)

-- On the paths to the keys from one on, while pairs are wanting: below the key that an address was
-- read for, fewer than wanted are found.
abbrev pub ReadsRange : ℕ → List ℕ → ℕ → List Entry → Seen → Seen → Type 0
ReadsRange root from limit found =
    ReadsAmong (λ store at. (key : List ℕ) × IsNotAbove from key
    × (length (entries_before key found) < limit) × IsOnPath store key root at)

-- what was newly read is the root or a node of the tree
abbrev pub ReadsTree : ℕ → Seen → Seen → Type 0
ReadsTree root = ReadsAmong (λ store at. (at ≡ root) ⊎ IsNodeOf store root at)

-- or stands in a list
abbrev pub ReadsListed : List ℕ → Seen → Seen → Type 0
ReadsListed listed old new = (at : ℕ) → (new.reads at ≡ old.reads at) ⊎ Contains listed at
