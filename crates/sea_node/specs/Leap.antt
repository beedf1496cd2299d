-- A leap over entries of the same lengths.
use Rattle.std.specs.Prelude.{◌≡◌, ℕ, ◌-◌, ◌<◌, List, take}
use Rattle.sea_base.specs.Field.{big_endian}
use Rattle.sea_node.specs.declared.reading.Span.{Span}
use Rattle.sea_node.specs.Reading.{key_in}
use Rattle.sea_node.specs.Lookup.{GoesOn}

-- the span of an entry with the same lengths that ends elsewhere
abbrev pub moved_to : Span → ℕ → Span
moved_to span end = record {
  key_at = end - (span.end - span.key_at);
  value_at = end - (span.end - span.value_at);
  end = end;
}

-- the number that the first 8 bytes of a key spell is below another
abbrev pub HasWordBelow : List ℕ → ℕ → Type 0
HasWordBelow key n = (word : ℕ) × (word < n) × (take 8 key ≡ big_endian 8 word)

-- Entries go on one behind the other, from one to another, and the first words of their keys are
-- below a number.
pub data Leaps (bytes : List ℕ) (level below : ℕ) (first : Span) : Span → Type 0 where
  Stays : Leaps bytes level below first first
  Goes : (last next : Span) → Leaps bytes level below first last
      → GoesOn bytes level last next → HasWordBelow (key_in bytes next) below
      → Leaps bytes level below first next
