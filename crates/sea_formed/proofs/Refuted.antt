-- What a fault tells of one thing, it tells of another from which the first follows.
use Rattle.std.proofs.Common.{◌≡◌}
use Rattle.sea_formed.specs.declared.wrong.Wrong.{Wrong}
use Rattle.sea_formed.specs.declared.wrong.Wrong.TheVariants.{NoMemory, Breaks}
use Rattle.sea_formed.specs.Wrong.{Refutes}

pub refutes_more : (wrong : Wrong) (P Q : Type 0) → (Q → P) → Refutes wrong P → Refutes wrong Q
refutes_more NoMemory P Q f told = tt
refutes_more (Breaks rule) P Q f told = λ q. told (f q)

pub refutes_memory : (wrong : Wrong) (P : Type 0) → wrong ≡ NoMemory → Refutes wrong P
refutes_memory NoMemory P same = tt
refutes_memory (Breaks rule) P same = absurd (cc)
