-- Fresh nodes laid over an image, and what a change of a tree promises.
use Rattle.std.specs.Prelude.{◌≡◌, ℕ, zero, suc, ◌+◌, ◌≤◌, ◌↔◌, ◌==◌, cond, List, [], ◌∷◌, map}
use Rattle.std.specs.Prelude.{length}
use Rattle.std.specs.List.{AllByRecursion}
use Rattle.sea_base.specs.declared.place.Paddr.{Paddr}
use Rattle.sea_base.specs.declared.place.PRoot.{PRoot}
use Rattle.sea_ptree.specs.declared.kind.Kind.{Kind}
use Rattle.sea_ptree.specs.declared.making.Fresh.{Fresh}
use Rattle.sea_ptree.specs.Blocks.{Image}
use Rattle.sea_ptree.specs.Tree.{Content, IsTree}

-- an image has these blocks, one after the other from a place on
abbrev pub HasBlocks : Image → ℕ → List (List ℕ) → Type 0
HasBlocks image at [] = Unit {0}
HasBlocks image at (block ∷ blocks) = (image at ≡ block) × HasBlocks image (at + 1) blocks

-- two images have the same at each of these places
abbrev pub AgreeAt : Image → Image → List ℕ → Type 0
AgreeAt old new places = AllByRecursion (λ at. new at ≡ old at) places

-- so many places, from one on
abbrev pub places_from : ℕ → ℕ → List ℕ
places_from at zero = []
places_from at (suc count) = at ∷ places_from (at + 1) count

-- how often a place is among these
abbrev pub times : ℕ → List ℕ → ℕ
times at [] = 0
times at (place ∷ places) = cond (place == at) 1 0 + times at places

abbrev pub numbers : List Paddr → List ℕ
numbers places = map (λ p. p.0) places

-- the places of the fresh nodes
abbrev pub new_places : ℕ → Fresh → List ℕ
new_places place fresh = places_from place (length fresh.nodes)

-- The tree under the new root keeps its rules and has this content. Its nodes and the dead ones
-- are together the old nodes and the fresh ones, each as often, and the dead ones are of the old;
-- no place is named twice. So, where no fresh node stands at a place of the old tree, the dead
-- ones are exactly the old nodes that aren't reached any more, and each fresh node is reached.
pub record Renewed (kind : Kind) (image : Image) (fresh : Fresh) (place : ℕ) (content : Content)
    (old : List ℕ) : Type 0 where
  pub places : List ℕ
  pub tree : IsTree kind image fresh.root content places
  pub exchanged : (at : ℕ) → times at places + times at (numbers fresh.dead)
      ≡ times at old + times at (new_places place fresh)
  pub dead : (at : ℕ) → times at (numbers fresh.dead) ≤ times at old
  pub once : (at : ℕ) → (times at places ≤ 1) × (times at (numbers fresh.dead) ≤ 1)
  pub exact : (at : ℕ) → times at old + times at (new_places place fresh) ≤ 1
      → ((1 ≤ times at (numbers fresh.dead)) ↔ ((1 ≤ times at old) × (times at places ≡ 0)))
      × (1 ≤ times at (new_places place fresh) → 1 ≤ times at places)

-- So it is in every image that has the fresh nodes from a place on, and the old ones where they
-- were; what a tree had becomes this content.
abbrev pub Renews : Kind → Image → PRoot → ℕ → Fresh → (Content → Content) → Type 0
Renews kind old root place fresh change =
    (content : Content) (places : List ℕ) → IsTree kind old root content places
    → (new : Image) → AgreeAt old new places → HasBlocks new place fresh.nodes
    → Renewed kind new fresh place (change content) places
