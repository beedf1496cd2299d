-- What every call of a space leaves.
use Rattle.std.specs.Prelude.{◌≡◌, ℕ, ◌≤◌, Bool, IsTrue, Option}
use Rattle.sea_base.specs.declared.space.SpaceFault.{SpaceFault}
use Rattle.sea_base.specs.Faults.{IsCause}
use Rattle.sea_base.specs.Space.{Seen, Found, NotesCurrent}

-- A space before and after a call that ended with a fault of the space, or with none: a transaction is still in
-- it; it tells its bytes as it did; what it is beside this transaction stays; on a space that tells, what was
-- newly noted is what is current; and the count of faults rose by a device fault alone.
pub record Continues {S : Type 0} (seen : S → Seen) (current : S → ℕ → Found) (count : S → ℕ) (tells is_ready : S → Bool) (keeps : S → S → Type 0) (old new : S) (fault : Option SpaceFault) : Type 0 where
  pub ready : IsTrue (is_ready new)
  pub told : tells new ≡ tells old
  pub kept : keeps old new
  pub noted : IsTrue (tells old) → NotesCurrent (current old) (seen old) (seen new)
  pub later : count old ≤ count new
  pub cause : IsCause (count old) (count new) (tells old) fault

-- What a space keeps beside a transaction: states follow one another, and share what is current.
pub record IsFrame {S : Type 0} (current : S → ℕ → Found) (keeps : S → S → Type 0) : Type 0 where
  pub reflexive : (s : S) → keeps s s
  pub transitive : (a b c : S) → keeps a b → keeps b c → keeps a c
  pub shared : (a b : S) → keeps a b → (at : ℕ) → current b at ≡ current a at
