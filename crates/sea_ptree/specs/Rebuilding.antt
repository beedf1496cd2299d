-- A node that is to be written anew, and what stands below it.
use Rattle.std.specs.Prelude.{◌≡◌, ℕ, ◌+◌, ◌≤◌, List, ◌∷◌, map, length}
use Rattle.std.specs.List.{AllByRecursion, flat_map}
use Rattle.sea_ptree.specs.declared.kind.Kind.{Kind}
use Rattle.sea_ptree.specs.declared.link.Link.{Link}
use Rattle.sea_ptree.specs.declared.making.Making.{Making}
use Rattle.sea_ptree.specs.Blocks.{Image}
use Rattle.sea_ptree.specs.Fresh.{HasBlocks, AgreeAt, places_from, times, numbers}
use Rattle.sea_ptree.specs.Node.{Entry, Fits, MayStand}
use Rattle.sea_ptree.specs.Tree.{Item, pairs, places, entry_of, Stands, Holds}

-- the places of the fresh nodes so far
abbrev pub fresh_places : Making → List ℕ
fresh_places making = places_from making.place (length making.nodes.items)

-- Some nodes stand in the place of others: what is written comes to the new ones, what goes is of
-- the old.
pub record Exchanges (old new : Making) (was is : List ℕ) : Type 0 where
  pub balance : (at : ℕ)
      → times at is + (times at (numbers new.dead.items) + times at (fresh_places old))
      ≡ times at was + (times at (numbers old.dead.items) + times at (fresh_places new))
  pub dead : (at : ℕ)
      → times at (numbers new.dead.items) ≤ times at (numbers old.dead.items) + times at was

-- Items of a level stand in an image, by these entries and with these pairs, where nodes stood at
-- other places.
pub record Rebuilt (kind : Kind) (image : Image) (level : ℕ) (entries held : List Entry)
    (old new : Making) (was : List ℕ) : Type 0 where
  pub items : List (Item level)
  pub entries_are : map (entry_of level) items ≡ entries
  pub stand : AllByRecursion (Stands kind image level) items
  pub fits : AllByRecursion Fits entries
  pub slots : AllByRecursion (λ e. MayStand kind level e.1) entries
  pub pairs_are : flat_map (pairs level) items ≡ held
  pub exchanges : Exchanges old new was (flat_map (places level) items)

-- The same for the node that a link leads to, in every image that has the fresh nodes, and the
-- others where they were.
abbrev pub Rebuilds : Kind → Image → ℕ → Link → Making → Making → (List Entry → List Entry)
    → List Entry → Type 0
Rebuilds kind old level link before after change entries =
    (items : List (Item level)) → Holds kind old level link items
    → (new : Image) → AgreeAt old new (flat_map (places level) items)
    → HasBlocks new before.place after.nodes.items
    → Rebuilt kind new level entries (change (flat_map (pairs level) items)) before after
    (link.at.0 ∷ flat_map (places level) items)
