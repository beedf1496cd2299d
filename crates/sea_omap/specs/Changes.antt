-- Keys of a tree changed one after the other.
use Rattle.std.specs.Prelude.{◌≡◌, ◌⊎◌, ℕ, List, [], ◌∷◌, map, Option, Some, None}
use Rattle.std.specs.FinMap as finite
use Rattle.sea_base.specs.Space.{Store, Seen, OnlyRead}
use Rattle.sea_node.specs.Entries.{Entry, Values}
use Rattle.sea_tree.specs.Changing.{changed_content}
use Rattle.sea_tree.specs.Form.{HasForm, HasFirst}
use Rattle.sea_tree.specs.Calls.{Meets, Becomes, ChangeFootprint}

-- a change of a key: the value that it is to have, or none
abbrev pub Change : Type 0
Change = List ℕ × Option (List ℕ)

-- each pair is put
abbrev pub puts : List Entry → List Change
puts pairs = map (λ pair. (pair.0, Some pair.1)) pairs

-- each key is taken out
abbrev pub removals : List (List ℕ) → List Change
removals keys = map (λ key. (key, None)) keys

-- How the tree of a key is changed, where it had this value: by the path to the key and its
-- neighbours, or by a first leaf; and not at all where an absent key is to go.
abbrev pub HasKeyForm : ℕ → List ℕ → Option (List ℕ) → Option (List ℕ) → Seen → Seen → Type 0
HasKeyForm root key (Some value) found old new =
    HasForm root key (Some value) old new ⊎ HasFirst root key value old new
HasKeyForm root key None None old new = OnlyRead old new
HasKeyForm root key None (Some value) old new = HasForm root key None old new

-- One key was changed, as a call of the tree does it, and had this value before: on every store
-- that the call speaks of; in this form; with what such a call reads and writes.
pub record ChangesKey (root : ℕ) (change : Change) (found : Option (List ℕ))
    (old new : Seen) : Type 0 where
  pub changed : (store : Store) (content : Values) → Meets store root old new content
      → (found ≡ finite.get content change.0)
      × Becomes store root old new (changed_content change.0 change.1 content)
  pub form : HasKeyForm root change.0 change.1 found old new
  pub footprint : ChangeFootprint root change.0 old new

-- Keys were changed in order, each behind those before it, and had these values as their turn came.
abbrev pub ChangesKeys : ℕ → List Change → List (Option (List ℕ)) → Seen → Seen → Type 0
ChangesKeys root [] found old new = (found ≡ []) × (new ≡ old)
ChangesKeys root (change ∷ changes) [] old new = ⊥
ChangesKeys root (change ∷ changes) (here ∷ found) old new =
    (mid : Seen) × ChangesKey root change here old mid × ChangesKeys root changes found mid new
