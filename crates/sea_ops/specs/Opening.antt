-- What the opening of an object for a change gives.
use Rattle.std.specs.Prelude.{◌≡◌, ◌⊎◌, ℕ, List, Some, None}
use Rattle.sea_base.specs.Space.{Seen, Gives, OnlyRead}
use Rattle.sea_object.specs.declared.onode.Onode.{Onode}
use Rattle.sea_onode.specs.Calls.{Finds}

-- an onode was found under the name, by reads alone
pub record IsFound (name : List ℕ) (onode : Onode) (old new : Seen) : Type 0 where
  pub reads : OnlyRead old new
  pub found : Finds name old new (Some onode)

-- none was found there, and then a new object was given the next addresses
pub record IsFresh (name : List ℕ) (onode : Onode) (old new : Seen) : Type 0 where
  pub between : Seen
  pub reads : OnlyRead old between
  pub absent : Finds name old between None
  pub given : Gives 4098 between new
  pub empty : onode
      ≡ record { base = record { 0 = between.next }; size = 0; attrs = 0; keys = 0 }

-- the onode of a name, or that of a new object where there is none
abbrev pub Opens : List ℕ → Onode → Seen → Seen → Type 0
Opens name onode old new = IsFound name onode old new ⊎ IsFresh name onode old new
