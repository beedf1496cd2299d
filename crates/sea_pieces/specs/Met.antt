-- Names that have addresses.
use Rattle.std.specs.Prelude.{List, IsSome}
use Rattle.std.specs.List.{AllByRecursion}
use Rattle.std.specs.FinMap as map
use Rattle.sea_pieces.specs.declared.piece.Piece.{Piece}
use Rattle.sea_pieces.specs.Addresses.{AddressMap}

-- the names of these pieces have addresses
abbrev pub AreMet : List Piece → AddressMap → Type 0
AreMet pieces addresses = AllByRecursion (λ p. IsSome (map.get addresses p.name)) pieces
