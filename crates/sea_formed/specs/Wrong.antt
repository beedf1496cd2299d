-- What a store is refused for.
use Rattle.sea_formed.specs.declared.wrong.Wrong.{Wrong}
use Rattle.sea_formed.specs.declared.wrong.Wrong.TheVariants.{NoMemory, Breaks}

-- a broken rule tells that something doesn't hold; want of memory tells nothing
abbrev pub Refutes : Wrong → Type 0 → Type 0
Refutes NoMemory P = Unit {0}
Refutes (Breaks rule) P = P → ⊥
