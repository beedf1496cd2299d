-- What edits one after the other have read and changed, and what stands then.
use Rattle.std.proofs.Common.{◌≡◌, ◌≢◌, inl, inr, ℕ, zero, suc, ◌+◌, ◌-◌, ◌*◌, ◌/◌, ◌<◌, ◌≤◌, List, length, Option, Some, None, refl, sym, ap, subst, ◌∙◌, arith}
use Rattle.std.proofs.lemmas.Bool.{cases_eq}
use Rattle.sea_base.specs.Space.{Store, Seen, laid, Places}
use Rattle.sea_base.proofs.Spaces.{changed_here}
use Rattle.sea_data.specs.Bytes.{block_address}
use Rattle.sea_data.specs.Ranges.{Touches, Covers, HoldsOldEnd, AtBlock, ReadsBlocks, IsAsBefore, ChangesBlocks}
use Rattle.sea_data.specs.Steps.{Does, Takes, Clears, ClearsOldEnd, part_of, part_steps}
use Rattle.sea_data.specs.Steps.Edit.{Over, Clear}
use Rattle.sea_data.specs.Calls.{IsPlaced}
use Rattle.sea_data.proofs.Bytes.{distinct}
use Rattle.sea_data.proofs.Taking.{Leaves, leaves, as_before_then}
use Rattle.sea_data.proofs.Parts.{length-part_of}
use Rattle.sea_data.proofs.Contents.{as_before_laid}

-- nothing was done
pub as_before_same : {old new : Seen} (at : ℕ) → new ≡ old → IsAsBefore old new at
as_before_same {old} {new} at same = subst (λ (s : Seen). IsAsBefore old s at) (sym same) (record { changed = refl; view = λ c. refl; whole = refl; splices = refl })

pub reads_same : {old new : Seen} (at : ℕ) → new ≡ old → new.reads at ≡ old.reads at
reads_same at same = ap (λ (s : Seen). s.reads at) same

-- edits of blocks of a kind
pub changes_then : {a b c : Seen} (base : ℕ) (P Q R : ℕ → Type 0) → ((i : ℕ) → P i → R i) → ((i : ℕ) → Q i → R i) → ChangesBlocks base P a b → ChangesBlocks base Q b c → ChangesBlocks base R a c
changes_then base P Q R p q first later at =
    elim (later at) [
      | inl here ↦ inl (here.0, q here.0 here.1, here.2)
      | inr same ↦ elim (first at) [
        | inl here ↦ inl (here.0, p here.0 here.1, here.2)
        | inr before ↦ inr (as_before_then before same)
      ]
    ]

pub reads_then : (a b c : Seen) (base : ℕ) (P Q R : ℕ → Type 0) → ((i : ℕ) → P i → R i) → ((i : ℕ) → Q i → R i) → ReadsBlocks base P a b → ReadsBlocks base Q b c → ReadsBlocks base R a c
reads_then a b c base P Q R p q first later at =
    elim (later at) [
      | inr here ↦ inr (here.0, q here.0 here.1, here.2)
      | inl same ↦ elim (first at) [
        | inr here ↦ inr (here.0, p here.0 here.1, here.2)
        | inl before ↦ inl (same ∙ before)
      ]
    ]

-- one edit of a block
pub changes_one : {old new : Seen} (base i : ℕ) (P : ℕ → Type 0) → P i → Leaves (block_address base i) old new → ChangesBlocks base P old new
changes_one base i P p l at =
    elim (cases_eq at (block_address base i)) [ inl same ↦ inl (i, p, same) | inr other ↦ inr (l.others at other) ]

pub reads_one : {old new : Seen} (base i : ℕ) (P : ℕ → Type 0) → P i → Leaves (block_address base i) old new → ReadsBlocks base P old new
reads_one base i P p l at =
    elim (cases_eq at (block_address base i)) [ inl same ↦ inr (i, p, same) | inr other ↦ inl (l.reads at other) ]

-- a part is shorter than its block, unless its range covers that
part_whole : (offset : ℕ) (bytes : List ℕ) (i : ℕ) → Covers offset (offset + length bytes) i → length (part_of offset bytes i) ≡ 4096
part_whole offset bytes i covers =
    let begins = covers.0 in
    let ends = covers.1 in
    length-part_of offset bytes i ∙ omega arith

reads_part : (base offset : ℕ) (bytes : List ℕ) (i : ℕ) {old new : Seen} → Touches offset (offset + length bytes) i → Takes (block_address base i) (Over (offset - 4096 * i) (part_of offset bytes i)) old new
    → ReadsBlocks base (λ i. (Covers offset (offset + length bytes) i → ⊥) × Touches offset (offset + length bytes) i) old new
reads_part base offset bytes i touches (inl whole) at = inl (whole.1.writes.reads at)
reads_part base offset bytes i touches (inr part) at =
    reads_one base i (λ (n : ℕ). (Covers offset (offset + length bytes) n → ⊥) × Touches offset (offset + length bytes) n)
    ((λ covers. absurd (let long = part_whole offset bytes i covers in let short = part.0 in omega arith)), touches)
    (leaves (block_address base i) (Over (offset - 4096 * i) (part_of offset bytes i)) (inr part)) at

-- the blocks of a range that were written so far
abbrev pub Within : ℕ → ℕ → ℕ → Type 0
Within offset end n = (offset < end) × (4096 * (offset / 4096 + n) < end + 4096)

touches_last : (offset end n : ℕ) → Within offset end (suc n) → Touches offset end (offset / 4096 + n)
touches_last offset end n w =
    let a = w.0 in
    let b = w.1 in
    (a, omega arith, omega arith)

pub within_less : (offset end n : ℕ) → Within offset end (suc n) → Within offset end n
within_less offset end n w =
    let a = w.0 in
    let b = w.1 in
    (a, omega arith)

pub parts_change : (base offset : ℕ) (bytes : List ℕ) (n : ℕ) {old new : Seen} → Within offset (offset + length bytes) n → Does (part_steps base offset bytes n) old new → ChangesBlocks base (Touches offset (offset + length bytes)) old new
parts_change base offset bytes zero w same = λ at. inr (as_before_same at same)
parts_change base offset bytes (suc n) w does =
    changes_then base (Touches offset (offset + length bytes)) (Touches offset (offset + length bytes)) (Touches offset (offset + length bytes)) (λ i t. t) (λ i t. t)
    (parts_change base offset bytes n (within_less offset (offset + length bytes) n w) does.1)
    (changes_one base (offset / 4096 + n) (Touches offset (offset + length bytes)) (touches_last offset (offset + length bytes) n w) (leaves (block_address base (offset / 4096 + n)) (Over (offset - 4096 * (offset / 4096 + n)) (part_of offset bytes (offset / 4096 + n))) does.2))

abbrev PartRead : ℕ → ℕ → ℕ → Type 0
PartRead from to i = (Covers from to i → ⊥) × Touches from to i

pub parts_read : (base offset : ℕ) (bytes : List ℕ) (n : ℕ) (old new : Seen) → Within offset (offset + length bytes) n → Does (part_steps base offset bytes n) old new → ReadsBlocks base (λ i. (Covers offset (offset + length bytes) i → ⊥) × Touches offset (offset + length bytes) i) old new
parts_read base offset bytes zero old new w same = λ at. inl (reads_same at same)
parts_read base offset bytes (suc n) old new w does =
    reads_then old does.0 new base (PartRead offset (offset + length bytes)) (PartRead offset (offset + length bytes)) (PartRead offset (offset + length bytes)) (λ i t. t) (λ i t. t)
    (parts_read base offset bytes n old does.0 (within_less offset (offset + length bytes) n w) does.1)
    (reads_part base offset bytes (offset / 4096 + n) (touches_last offset (offset + length bytes) n w) does.2)

-- what was placed whole is so
pub is_placed : {at : ℕ} {block : Option (List ℕ)} {old new : Seen} → Places at block old new → IsPlaced at new
is_placed p = record { changed = changed_here p.writes; whole = p.whole; splices = p.splices }

pub still_placed : {at : ℕ} {old new : Seen} → IsAsBefore old new at → IsPlaced at old → IsPlaced at new
still_placed same p = record { changed = same.changed ∙ p.changed; whole = same.whole ∙ p.whole; splices = same.splices ∙ p.splices }

part_placed : (base offset : ℕ) (bytes : List ℕ) (i : ℕ) {old new : Seen} → Covers offset (offset + length bytes) i → Takes (block_address base i) (Over (offset - 4096 * i) (part_of offset bytes i)) old new → IsPlaced (block_address base i) new
part_placed base offset bytes i covers (inl whole) = is_placed whole.1
part_placed base offset bytes i covers (inr part) = absurd (let long = part_whole offset bytes i covers in let short = part.0 in omega arith)

pub parts_placed : (base offset : ℕ) (bytes : List ℕ) (n : ℕ) (old new : Seen) → offset + length bytes ≤ 16777216 → Within offset (offset + length bytes) n → Does (part_steps base offset bytes n) old new → (i : ℕ) → i < offset / 4096 + n → Covers offset (offset + length bytes) i → IsPlaced (block_address base i) new
parts_placed base offset bytes zero old new limit w same i lt covers = absurd (let begins = covers.0 in let ends = covers.1 in omega arith)
parts_placed base offset bytes (suc n) old new limit w does i lt covers =
    let last : ℕ = offset / 4096 + n in
    let begins = covers.0 in
    let ends = covers.1 in
    let bound = w.1 in
    elim (cases_eq i (offset / 4096 + n)) [
      | inl same ↦ subst (λ (k : ℕ). IsPlaced (block_address base k) new) (sym same)
          (part_placed base offset bytes (offset / 4096 + n) (subst (Covers offset (offset + length bytes)) same covers) does.2)
      | inr other ↦ still_placed
          ((leaves (block_address base (offset / 4096 + n)) (Over (offset - 4096 * (offset / 4096 + n)) (part_of offset bytes (offset / 4096 + n))) does.2).others (block_address base i)
          (λ same. other (distinct base i (offset / 4096 + n) (omega arith) (omega arith) same)))
          (parts_placed base offset bytes n old does.0 limit (within_less offset (offset + length bytes) n w) does.1 i (omega arith) covers)
    ]

-- the old end of an object that is enlarged
pub end_changes : (base size from to : ℕ) {old new : Seen} → ClearsOldEnd base size from to old new → ChangesBlocks base (HoldsOldEnd size to) old new
end_changes base size from to (inl kept) = λ at. inr (as_before_same at kept.0)
end_changes base size from to (inr c) = changes_one base c.0 (HoldsOldEnd size to) c.1 (leaves (block_address base c.0) (Clear (size - 4096 * c.0)) c.3)

pub end_reads : (base size from to : ℕ) {old new : Seen} → ClearsOldEnd base size from to old new → ReadsBlocks base (λ i. (Covers from to i → ⊥) × HoldsOldEnd size to i) old new
end_reads base size from to (inl kept) = λ at. inl (reads_same at kept.0)
end_reads base size from to (inr c) = reads_one base c.0 (λ (i : ℕ). (Covers from to i → ⊥) × HoldsOldEnd size to i) (c.2, c.1) (leaves (block_address base c.0) (Clear (size - 4096 * c.0)) c.3)

-- a block that is zeroed past an old end is amended, and not placed
clear_kept : (at cut : ℕ) (found : Option (List ℕ)) (old new : Seen) → Clears at cut found old new → (q : ℕ) → new.whole q ≡ old.whole q
clear_kept at cut None old new same q = ap (λ (s : Seen). s.whole q) same
clear_kept at cut (Some block) old new (inl kept) q = ap (λ (s : Seen). s.whole q) kept.0
clear_kept at cut (Some block) old new (inr cleared) q =
    elim (cases_eq q at) [
      | inl same ↦ subst (λ (n : ℕ). new.whole n ≡ old.whole n) (sym same) cleared.1.1.whole
      | inr other ↦ cleared.1.1.writes.whole q other
    ]

pub end_whole : (base size from to : ℕ) (old new : Seen) → ClearsOldEnd base size from to old new → (q : ℕ) → new.whole q ≡ old.whole q
end_whole base size from to old new (inl kept) q = ap (λ (s : Seen). s.whole q) kept.0
end_whole base size from to old new (inr c) q =
    clear_kept (block_address base c.0) (size - 4096 * c.0) c.3.0 c.3.1 new c.3.3 q ∙ c.3.2.reads.only.whole q

-- what stands past the end of what was changed is as it was
pub past_end : (base : ℕ) (P : ℕ → Type 0) {old new : Seen} (store : Store) → ChangesBlocks base P old new → (i : ℕ) → i < 4096 → ((j : ℕ) → P j → (j < 4096) × (j ≢ i)) → laid new store (block_address base i) ≡ laid old store (block_address base i)
past_end base P {old} {new} store changes i small apart =
    elim (changes (block_address base i)) [
      | inl here ↦ absurd (let far = apart here.0 here.1 in far.1 (sym (distinct base i here.0 (omega arith) (let lt = far.0 in omega arith) here.2)))
      | inr same ↦ as_before_laid same store
    ]

-- and so is what is none of an object's data blocks
pub elsewhere_same : (base : ℕ) (P : ℕ → Type 0) {old new : Seen} (store : Store) → ChangesBlocks base P old new → ((j : ℕ) → P j → j < 4096) → (at : ℕ) → (AtBlock base (λ i. i < 4096) at → ⊥) → laid new store at ≡ laid old store at
elsewhere_same base P {old} {new} store changes within at apart =
    elim (changes at) [
      | inl here ↦ absurd (apart (here.0, within here.0 here.1, here.2))
      | inr same ↦ as_before_laid same store
    ]
