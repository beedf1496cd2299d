-- How many bytes the entries of a node and a neighbour take together, and each of two parts of them.
use Rattle.std.proofs.Common.{List, take}
use Rattle.std.specs.List.{All}
use Rattle.sea_node.specs.Entries.{entry_size, size}
