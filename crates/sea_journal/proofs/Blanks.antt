-- Blocks of zeros, read one after the other.
use Rattle.std.proofs.Common.{ℕ, ◌+◌, ◌<◌, List, refl, sym, subst, inl, inr, arith, below_more}
use Rattle.sea_trail.specs.Trail.{header_block}
use Rattle.sea_journal.specs.Mkfs.{IsFront, IsBlank, AllBlank, IsLeastFilled}

-- block 0 and the first blocks of so many segments are zeros
pub record BlankBefore (n : ℕ) (image : List ℕ) : Type 0 where
  pub zero : IsBlank image 0
  pub below : (s : ℕ) → s < n → IsBlank image (header_block s)

pub all_blank : (n : ℕ) (image : List ℕ) → BlankBefore n image → AllBlank n image
all_blank n image blank at (inl first) = subst (IsBlank image) (sym first) blank.zero
all_blank n image blank at (inr front) = subst (IsBlank image) (sym front.2) (blank.below front.0 front.1)

pub least_first : (n : ℕ) (image : List ℕ) → (IsBlank image 0 → ⊥) → IsLeastFilled n 0 image
least_first n image filled = record { front = inl refl; filled = filled; least = λ k front before. absurd (omega arith) }

pub least_next : (n s : ℕ) (image : List ℕ) → s < n → BlankBefore s image → (IsBlank image (header_block s) → ⊥) → IsLeastFilled n (header_block s) image
least_next n s image within blank filled = record { front = inr (s, within, refl); filled = filled; least = least }
  where
    least : (k : ℕ) → IsFront n k → k < header_block s → IsBlank image k
    least k (inl first) before = subst (IsBlank image) (sym first) blank.zero
    least k (inr front) before = subst (IsBlank image) (sym front.2) (blank.below front.0 (omega (arith, front.2)))

pub one_more : (s : ℕ) (image : List ℕ) → BlankBefore s image → IsBlank image (header_block s) → BlankBefore (s + 1) image
one_more s image blank here = record { zero = blank.zero; below = below_more (λ (k : ℕ). IsBlank image (header_block k)) s blank.below here }
