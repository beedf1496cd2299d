-- Splices of a block, one after the other.
use Rattle.std.specs.Prelude.{ℕ, List, [], ◌∷◌}
use Rattle.sea_base.specs.declared.delta.Delta.{Delta}
use Rattle.sea_base.specs.Splice.{IsSplice, spliced}

-- a splice has room in a block
abbrev pub HasRoom : Delta → Type 0
HasRoom d = IsSplice d.cut d.gone d.put

-- what splices make of a block, the first of them first
abbrev pub after_all : List Delta → List ℕ → List ℕ
after_all [] block = block
after_all (d ∷ ds) block = after_all ds (spliced d.cut d.gone d.put block)
