-- Which nodes a relocation reads and writes anew, in every tree.
use Rattle.std.specs.Prelude.{◌≡◌, ◌⊎◌, ℕ, zero, suc, ◌-◌, ◌<◌, ◌≤◌, List, length, set}
use Rattle.sea_base.specs.declared.place.PRoot.{PRoot}
use Rattle.sea_ptree.specs.declared.kind.Kind.{Kind}
use Rattle.sea_ptree.specs.declared.link.Link.{Link}
use Rattle.sea_ptree.specs.declared.making.Fresh.{Fresh}
use Rattle.sea_ptree.specs.declared.making.Making.{Making}
use Rattle.sea_ptree.specs.Blocks.{Image}
use Rattle.sea_ptree.specs.Making.{Took, Wrote, Starts, IsMade}
use Rattle.sea_ptree.specs.Mending.{IsAt, root_of}
use Rattle.sea_ptree.specs.Merging.{Towards}
use Rattle.sea_ptree.specs.Node.{Entry}
use Rattle.sea_ptree.specs.Tree.{NodeAt, link_of, root_link}

-- A node that is read goes, and its entries are to be written.
pub record MovesNode (kind : Kind) (image : Image) (level : ℕ) (link : Link) (old new : Making)
    (made : List Entry) : Type 0 where
  pub node : NodeAt kind image level link made
  pub took : Took old new link.at

-- A node that is read goes, and the child that a key leads to is written anew; its entries are to
-- be written with the one that leads there.
pub record MovesChild (Below : Link → Making → Making → List Entry → Type 0) (kind : Kind)
    (image : Image) (key level : ℕ) (link : Link) (old new : Making) (made : List Entry)
    : Type 0 where
  pub entries : List Entry
  pub index : ℕ
  pub entry : Entry
  pub below : List Entry
  pub written : Entry
  pub gone : Making
  pub changed : Making
  pub node : NodeAt kind image (suc level) link entries
  pub took : Took old gone link.at
  pub there : IsAt entries index entry
  pub toward : Towards key entries index
  pub child : Below (link_of entry.1) gone changed below
  pub wrote : Wrote changed new level below written
  pub made_is : made ≡ set entries index written

-- the nodes on the path of a key, from a link of a level down to the level `bottom`
abbrev pub MovesBelow : Kind → Image → ℕ → ℕ → ℕ → Link → Making → Making → List Entry → Type 0
MovesBelow kind image key bottom zero link old new made = MovesNode kind image 0 link old new made
MovesBelow kind image key bottom (suc level) link old new made =
    ((suc level ≤ bottom) × MovesNode kind image (suc level) link old new made)
    ⊎ ((bottom < suc level) × MovesChild (λ child before after es.
    MovesBelow kind image key bottom level child before after es)
    kind image key level link old new made)

-- What `relocate` reads and writes: the nodes on the path of the key from the root down to the
-- level, each whole, go in this order; they are written anew from the level upwards, the root
-- last.
pub record Moves (kind : Kind) (image : Image) (root : PRoot) (key level place : ℕ) (fresh : Fresh)
    : Type 0 where
  pub start : Making
  pub changed : Making
  pub end : Making
  pub made : List Entry
  pub written : Entry
  pub starts : Starts kind place start
  pub below : MovesBelow kind image key level (root.height - 1) (root_link root) start changed made
  pub wrote : Wrote changed end (root.height - 1) made written
  pub is_made : IsMade end (root_of written.1 root.height) fresh

-- how much `relocate` makes
pub record IsPathOf (root : PRoot) (level : ℕ) (fresh : Fresh) : Type 0 where
  pub count : length fresh.nodes ≡ root.height - level
  pub height : fresh.root.height ≡ root.height
