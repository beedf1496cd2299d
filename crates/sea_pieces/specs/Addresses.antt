-- The addresses under which reads of objects are noted.
use Rattle.std.specs.Prelude.{◌≡◌, ℕ, ◌+◌, ◌<◌, ◌≤◌, List, Some, unwrap_or}
use Rattle.std.specs.FinMap as map
use Rattle.sea_object.specs.Objects.{Named}

abbrev pub AddressMap : Type 0
AddressMap = Named ℕ

-- Each name has an address of its own, from 2 on, and none is left out.
pub record AreApart (addresses : AddressMap) : Type 0 where
  pub given : (name : List ℕ) (at : ℕ) → map.get addresses name ≡ Some at →
      (2 ≤ at) × (at < 2 + map.len addresses)
  pub apart : (name other : List ℕ) (at : ℕ) → map.get addresses name ≡ Some at →
      map.get addresses other ≡ Some at → name ≡ other

-- the address of a name: the one that it has, or the next
abbrev pub address_of : AddressMap → List ℕ → ℕ
address_of addresses name = unwrap_or (map.get addresses name) (2 + map.len addresses)
