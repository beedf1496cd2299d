-- Which nodes a walk reads, in every tree, and what it takes of them.
use Rattle.std.specs.Prelude.{◌≡◌, ◌⊎◌, ℕ, zero, suc, ◌<◌, ◌≤◌, List, [], ◌∷◌, ◌++◌, drop, length}
use Rattle.std.specs.Prelude.{Some}
use Rattle.sea_ptree.specs.declared.kind.Kind.{Kind}
use Rattle.sea_ptree.specs.declared.link.Link.{Link}
use Rattle.sea_ptree.specs.Blocks.{Image}
use Rattle.sea_ptree.specs.Merging.{Towards}
use Rattle.sea_ptree.specs.Node.{Entry}
use Rattle.sea_ptree.specs.Run.{Update, Rises}
use Rattle.sea_ptree.specs.Tree.{NodeAt, link_of}

-- a run with a pair behind its last
abbrev pub with_pair : List Update → Entry → List Update
with_pair run pair = run ++ (pair.0, Some pair.1) ∷ []

-- A run takes a pair exactly where its key is wanted and above those that it has.
abbrev pub TakesPair : ℕ → Entry → List Update → List Update → Type 0
TakesPair from pair old new =
    ((from ≤ pair.0) × Rises (with_pair old pair) × (new ≡ with_pair old pair))
    ⊎ ((from ≤ pair.0 → Rises (with_pair old pair) → ⊥) × (new ≡ old))

-- entries one after the other, as long as a run has fewer than so many
abbrev pub Through : (Entry → List Update → List Update → Type 0) → ℕ → List Entry → List Update
    → List Update → Type 0
Through Step limit [] old new = new ≡ old
Through Step limit (entry ∷ entries) old new =
    ((limit ≤ length old) × (new ≡ old))
    ⊎ ((length old < limit)
    × ((mid : List Update) × Step entry old mid × Through Step limit entries mid new))

-- A node that is read is whole; its entries follow from the one that the key leads to on.
pub record WalksNode (Step : Entry → List Update → List Update → Type 0) (kind : Kind)
    (image : Image) (level : ℕ) (link : Link) (from limit : ℕ) (old new : List Update)
    : Type 0 where
  pub entries : List Entry
  pub index : ℕ
  pub node : NodeAt kind image level link entries
  pub toward : Towards from entries index
  pub through : Through Step limit (drop index entries) old new

abbrev pub WalksBelow : Kind → Image → ℕ → ℕ → ℕ → Link → List Update → List Update → Type 0
WalksBelow kind image from limit zero link old new =
    WalksNode (TakesPair from) kind image 0 link from limit old new
WalksBelow kind image from limit (suc level) link old new =
    WalksNode (λ entry before after.
    WalksBelow kind image from limit level (link_of entry.1) before after)
    kind image (suc level) link from limit old new

-- the same from a root of a height
abbrev pub Walks : Kind → Image → ℕ → ℕ → ℕ → Link → List Update → List Update → Type 0
Walks kind image from limit zero link old new = new ≡ old
Walks kind image from limit (suc level) link old new =
    WalksBelow kind image from limit level link old new
