-- What a write and a cut do as a whole.
use Rattle.std.proofs.Common.{◌≡◌, ◌≢◌, ◌⊎◌, inl, inr, ℕ, zero, suc, ◌+◌, ◌-◌, ◌*◌, ◌/◌, ◌%◌, ◌^◌, ◌<◌, ◌≤◌, List, length, replicate, None, sym, subst, ◌∙◌, arith}
use Rattle.std.specs.Prelude.{min, max}
use Rattle.std.specs.Int.{div_ceil}
use Rattle.std.proofs.lemmas.Bool.{cases_lt, cases_eq}
use Rattle.std.proofs.lemmas.List.{length-replicate}
use Rattle.sea_base.specs.Space.{Store, Seen, Agrees, laid}
use Rattle.sea_base.proofs.Spaces.{laid_changed}
use Rattle.sea_object.specs.declared.onode.Onode.{Onode}
use Rattle.sea_object.specs.Answer.{written, resized}
use Rattle.sea_object.specs.Op.{blocks_touched}
use Rattle.sea_data.specs.Bytes.{block_address, byte_at, bytes_of}
use Rattle.sea_data.specs.Ranges.{Touches, Covers, HoldsOldEnd, IsReadFor, IsChangedFor, BeginsBetween, ChangesBlocks}
use Rattle.sea_data.specs.Steps.{Does, Takes, ClearsOldEnd, part_steps, drop_steps}
use Rattle.sea_data.specs.Steps.Edit.{Gone}
use Rattle.sea_data.specs.Calls.{Meets, Becomes, IsPlaced, WriteForm, WriteFootprint, CutForm, CutFootprint}
use Rattle.sea_data.proofs.Bytes.{distinct}
use Rattle.sea_data.proofs.Taking.{grows_agrees, Leaves, leaves}
use Rattle.sea_data.proofs.Parts.{byte_same, does_grows, does_parts}
use Rattle.sea_data.proofs.Contents.{grown, bytes_written, bytes_resized}
use Rattle.sea_data.proofs.Patches.{part_form}
use Rattle.sea_data.proofs.Footprints.{as_before_same, reads_same, changes_then, reads_then, changes_one, is_placed, still_placed, Within, parts_change, parts_read, parts_placed, end_changes, end_reads, end_whole, past_end, elsewhere_same}

-- all blocks of a range
all_within : (offset count : ℕ) → 1 ≤ count → Within offset (offset + count) (blocks_touched offset count)
all_within offset count some = (omega arith, omega arith)

module _ (onode : Onode) (offset : ℕ) (bytes : List ℕ) (old between new : Seen)
    (some : 1 ≤ length bytes) (fits : offset + length bytes ≤ 16777216)
    (cleared : ClearsOldEnd onode.base.0 onode.size offset (offset + length bytes) old between)
    (does : Does (part_steps onode.base.0 offset bytes (blocks_touched offset (length bytes))) between new) where
  changed_blocks : ChangesBlocks onode.base.0 (IsChangedFor onode.size offset (offset + length bytes)) old new
  changed_blocks =
      changes_then onode.base.0 (HoldsOldEnd onode.size (offset + length bytes)) (Touches offset (offset + length bytes)) (IsChangedFor onode.size offset (offset + length bytes)) (λ i h. inr h) (λ i t. inl t)
      (end_changes onode.base.0 onode.size offset (offset + length bytes) cleared)
      (parts_change onode.base.0 offset bytes (blocks_touched offset (length bytes)) (all_within offset (length bytes) some) does)

  pub write_footprint : WriteFootprint onode offset (offset + length bytes) old new
  write_footprint = record {
    reads = reads_then old between new onode.base.0 (λ i. (Covers offset (offset + length bytes) i → ⊥) × HoldsOldEnd onode.size (offset + length bytes) i) (λ i. (Covers offset (offset + length bytes) i → ⊥) × Touches offset (offset + length bytes) i) (IsReadFor onode.size offset (offset + length bytes)) (λ i h. (h.0, inr h.1)) (λ i t. (t.0, inl t.1))
        (end_reads onode.base.0 onode.size offset (offset + length bytes) cleared)
        (parts_read onode.base.0 offset bytes (blocks_touched offset (length bytes)) between new (all_within offset (length bytes) some) does);
    changes = changed_blocks;
    placed = λ i covers.
        let ends = covers.1 in
        parts_placed onode.base.0 offset bytes (blocks_touched offset (length bytes)) between new fits (all_within offset (length bytes) some) does i (omega arith) covers;
    whole = λ at. elim (parts_change onode.base.0 offset bytes (blocks_touched offset (length bytes)) (all_within offset (length bytes) some) does at) [
      | inl here ↦ inl here
      | inr same ↦ inr (same.whole ∙ end_whole onode.base.0 onode.size offset (offset + length bytes) old between cleared at)
    ];
  }

  changed_small : onode.size ≤ 16777216 → (i : ℕ) → IsChangedFor onode.size offset (offset + length bytes) i → (4096 * i < max onode.size (offset + length bytes)) × (i < 4096)
  changed_small limit i (inl touches) = let a = touches.1 in (omega arith, omega arith)
  changed_small limit i (inr holds) = let a = holds.1 in let b = holds.0 in (omega arith, omega arith)

  pub write_becomes : (store : Store) (next : ℕ) → Meets store next onode old new → Becomes store next onode (max onode.size (offset + length bytes)) (written offset bytes (bytes_of (laid old store) onode.base.0 onode.size)) old new
  write_becomes store next meets =
      let order = meets.order in
      let limit = order.within in
      let high = order.high in
      let middle : Agrees store between = grows_agrees between new store (does_grows (part_steps onode.base.0 offset bytes (blocks_touched offset (length bytes))) between new does) meets.agrees in
      let wide : offset + length bytes ≤ 4096 * (offset / 4096 + blocks_touched offset (length bytes)) = omega arith in
      let more = grown onode.base.0 onode.size offset (offset + length bytes) old between store limit fits order.none_past cleared middle in
      let wrote = does_parts onode.base.0 offset bytes (blocks_touched offset (length bytes)) between new store fits (omega arith) some does meets.agrees in
      record {
        bytes = bytes_written onode.base.0 onode.size offset bytes (4096 * (offset / 4096 + blocks_touched offset (length bytes))) (laid old store) (laid between store) (laid new store) limit fits wide more wrote;
        order = record {
          low = order.low;
          high = order.high;
          within = omega arith;
          none_past = λ i small past.
              past_end onode.base.0 (IsChangedFor onode.size offset (offset + length bytes)) store changed_blocks i small (λ j h. let b = changed_small limit j h in let b0 = b.0 in (b.1, λ same. absurd (omega arith)))
              ∙ order.none_past i small (omega arith);
        };
        elsewhere = λ at apart. elsewhere_same onode.base.0 (IsChangedFor onode.size offset (offset + length bytes)) store changed_blocks (λ j h. (changed_small limit j h).1) at apart;
      }

-- zeros written
pub zero_becomes : (onode : Onode) (offset count : ℕ) (old between new : Seen) → 1 ≤ count → offset + count ≤ 16777216
    → ClearsOldEnd onode.base.0 onode.size offset (offset + count) old between
    → Does (part_steps onode.base.0 offset (replicate count 0) (blocks_touched offset count)) between new
    → (store : Store) (next : ℕ) → Meets store next onode old new → Becomes store next onode (max onode.size (offset + count)) (written offset (replicate count 0) (bytes_of (laid old store) onode.base.0 onode.size)) old new
zero_becomes onode offset count old between new =
    subst (λ (n : ℕ). 1 ≤ n → offset + n ≤ 16777216
    → ClearsOldEnd onode.base.0 onode.size offset (offset + n) old between
    → Does (part_steps onode.base.0 offset (replicate count 0) (blocks_touched offset n)) between new
    → (store : Store) (next : ℕ) → Meets store next onode old new → Becomes store next onode (max onode.size (offset + n)) (written offset (replicate count 0) (bytes_of (laid old store) onode.base.0 onode.size)) old new)
    (length-replicate {A = ℕ} count 0) (λ some fits cleared does. write_becomes onode offset (replicate count 0) old between new some fits cleared does)

pub zero_footprint : (onode : Onode) (offset count : ℕ) (old between new : Seen) → 1 ≤ count → offset + count ≤ 16777216
    → ClearsOldEnd onode.base.0 onode.size offset (offset + count) old between
    → Does (part_steps onode.base.0 offset (replicate count 0) (blocks_touched offset count)) between new
    → WriteFootprint onode offset (offset + count) old new
zero_footprint onode offset count old between new =
    subst (λ (n : ℕ). 1 ≤ n → offset + n ≤ 16777216
    → ClearsOldEnd onode.base.0 onode.size offset (offset + n) old between
    → Does (part_steps onode.base.0 offset (replicate count 0) (blocks_touched offset n)) between new
    → WriteFootprint onode offset (offset + n) old new)
    (length-replicate {A = ℕ} count 0) (λ some fits cleared does. write_footprint onode offset (replicate count 0) old between new some fits cleared does)

pub write_form : (onode : Onode) (offset : ℕ) (bytes : List ℕ) (old between new : Seen) → 1 ≤ length bytes → offset + length bytes ≤ 16777216
    → ClearsOldEnd onode.base.0 onode.size offset (offset + length bytes) old between
    → Does (part_steps onode.base.0 offset bytes (blocks_touched offset (length bytes))) between new
    → WriteForm onode offset bytes old new
write_form onode offset bytes old between new some fits cleared does = record {
  between = between;
  cleared = cleared;
  written = does;
  part = λ i touches uncovered store agrees.
      let begins = touches.1 in
      part_form onode.base.0 onode.size offset bytes (blocks_touched offset (length bytes)) old between new fits (all_within offset (length bytes) some) cleared does i touches uncovered (omega arith) store agrees;
}

pub zero_form : (onode : Onode) (offset count : ℕ) (old between new : Seen) → 1 ≤ count → offset + count ≤ 16777216
    → ClearsOldEnd onode.base.0 onode.size offset (offset + count) old between
    → Does (part_steps onode.base.0 offset (replicate count 0) (blocks_touched offset count)) between new
    → WriteForm onode offset (replicate count 0) old new
zero_form onode offset count old between new =
    subst (λ (n : ℕ). 1 ≤ n → offset + n ≤ 16777216 → ClearsOldEnd onode.base.0 onode.size offset (offset + n) old between
    → Does (part_steps onode.base.0 offset (replicate count 0) (blocks_touched offset n)) between new
    → WriteForm onode offset (replicate count 0) old new)
    (length-replicate {A = ℕ} count 0) (λ some fits cleared does. write_form onode offset (replicate count 0) old between new some fits cleared does)

-- a size in blocks, rounded up
pub ceil_low : (size blocks : ℕ) → blocks ≡ size / 4096 + min 1 (size % 4096) → size ≤ 4096 * blocks
ceil_low size blocks is = omega arith

pub ceil_high : (size blocks : ℕ) → blocks ≡ size / 4096 + min 1 (size % 4096) → 4096 * blocks < size + 4096
ceil_high size blocks is = omega arith

-- dropped blocks
drops_leave : (base first n : ℕ) {old new : Seen} → Takes (block_address base (first + n)) Gone old new → Leaves (block_address base (first + n)) old new
drops_leave base first n take = leaves (block_address base (first + n)) Gone take

drops_change : (base first n : ℕ) {old new : Seen} → Does (drop_steps base first n) old new → ChangesBlocks base (λ i. (first ≤ i) × (i < first + n)) old new
drops_change base first zero same = λ at. inr (as_before_same at same)
drops_change base first (suc n) does =
    changes_then base (λ (i : ℕ). (first ≤ i) × (i < first + n)) (λ (i : ℕ). (first ≤ i) × (i < first + suc n)) (λ (i : ℕ). (first ≤ i) × (i < first + suc n)) (λ i h. let b = h.1 in (h.0, omega arith)) (λ i h. h)
    (drops_change base first n does.1)
    (changes_one base (first + n) (λ (i : ℕ). (first ≤ i) × (i < first + suc n)) (omega arith, omega arith) (drops_leave base first n does.2))

drops_unread : (base first n : ℕ) (old new : Seen) → Does (drop_steps base first n) old new → (at : ℕ) → new.reads at ≡ old.reads at
drops_unread base first zero old new same at = reads_same at same
drops_unread base first (suc n) old new does at = does.2.writes.reads at ∙ drops_unread base first n old does.0 does.1 at

-- each was dropped
drops_gone : (base first n : ℕ) (old new : Seen) → first + n ≤ 2 ^ 32 → Does (drop_steps base first n) old new → (i : ℕ) → first ≤ i → i < first + n → IsPlaced (block_address base i) new × (new.view (block_address base i) ≡ None)
drops_gone base first zero old new few same i low high = absurd (omega arith)
drops_gone base first (suc n) old new few does i low high =
    elim (cases_eq i (first + n)) [
      | inl same ↦ subst (λ (k : ℕ). IsPlaced (block_address base k) new × (new.view (block_address base k) ≡ None)) (sym same) (is_placed does.2, does.2.writes.here)
      | inr other ↦
          (let was = drops_gone base first n old does.0 (omega arith) does.1 i low (omega arith) in
          let as_was = (drops_leave base first n does.2).others (block_address base i) (λ same. other (distinct base i (first + n) (omega arith) (omega arith) same)) in
          (still_placed as_was was.0, as_was.view was.0.changed ∙ was.1))
    ]

module _ (onode : Onode) (size first last : ℕ) (old between new : Seen)
    (fits : size ≤ 16777216) (count : last < 2 ^ 32)
    (first_low : size ≤ 4096 * first) (first_high : 4096 * first < size + 4096)
    (last_low : onode.size ≤ 4096 * last) (last_high : 4096 * last < onode.size + 4096)
    (cleared : ClearsOldEnd onode.base.0 onode.size size size old between)
    (does : Does (drop_steps onode.base.0 first (last - first)) between new) where
  drop_range : (i : ℕ) → (first ≤ i) × (i < first + (last - first)) → BeginsBetween size onode.size i
  drop_range i h = let a = h.0 in let b = h.1 in (omega arith, omega arith)

  dropped_blocks : ChangesBlocks onode.base.0 (λ i. (first ≤ i) × (i < first + (last - first))) between new
  dropped_blocks = drops_change onode.base.0 first (last - first) does

  cut_blocks : ChangesBlocks onode.base.0 (λ i. BeginsBetween size onode.size i ⊎ HoldsOldEnd onode.size size i) old new
  cut_blocks =
      changes_then onode.base.0 (HoldsOldEnd onode.size size) (λ i. (first ≤ i) × (i < first + (last - first))) (λ i. BeginsBetween size onode.size i ⊎ HoldsOldEnd onode.size size i) (λ i h. inr h) (λ i h. inl (drop_range i h))
      (end_changes onode.base.0 onode.size size size cleared) dropped_blocks

  cut_gone : (i : ℕ) → BeginsBetween size onode.size i → IsPlaced (block_address onode.base.0 i) new × (new.view (block_address onode.base.0 i) ≡ None)
  cut_gone i begins = let a = begins.0 in let b = begins.1 in drops_gone onode.base.0 first (last - first) between new (omega arith) does i (omega arith) (omega arith)

  pub cut_footprint : CutFootprint onode size old new
  cut_footprint = record {
    reads = reads_then old between new onode.base.0 (λ i. (Covers size size i → ⊥) × HoldsOldEnd onode.size size i) (λ i. (Covers size size i → ⊥) × HoldsOldEnd onode.size size i) (HoldsOldEnd onode.size size) (λ i h. h.1) (λ i h. h.1)
        (end_reads onode.base.0 onode.size size size cleared) (λ at. inl (drops_unread onode.base.0 first (last - first) between new does at));
    changes = cut_blocks;
    dropped = cut_gone;
  }

  kept_byte : (store : Store) → onode.size ≤ 16777216 → (k : ℕ) → k < size → byte_at (laid new store) onode.base.0 k ≡ byte_at (laid between store) onode.base.0 k
  kept_byte store limit k lt =
      byte_same (laid new store) (laid between store) onode.base.0 k
      (past_end onode.base.0 (λ i. (first ≤ i) × (i < first + (last - first))) store dropped_blocks (k / 4096) (omega arith) (λ j h. let a = h.0 in let b = h.1 in (omega arith, λ same. absurd (omega arith))))

  cut_small : onode.size ≤ 16777216 → (i : ℕ) → BeginsBetween size onode.size i ⊎ HoldsOldEnd onode.size size i → i < 4096
  cut_small limit i (inl begins) = let a = begins.1 in omega arith
  cut_small limit i (inr holds) = let a = holds.1 in omega arith

  cut_apart : onode.size ≤ 16777216 → (i : ℕ) → onode.size ≤ 4096 * i → (j : ℕ) → BeginsBetween size onode.size j ⊎ HoldsOldEnd onode.size size j → (j < 4096) × (j ≢ i)
  cut_apart limit i past j (inl begins) = let a = begins.1 in (omega arith, λ same. absurd (omega arith))
  cut_apart limit i past j (inr holds) = let a = holds.1 in (omega arith, λ same. absurd (omega arith))

  pub cut_becomes : (store : Store) (next : ℕ) → Meets store next onode old new → Becomes store next onode size (resized size (bytes_of (laid old store) onode.base.0 onode.size)) old new
  cut_becomes store next meets =
      let order = meets.order in
      let limit = order.within in
      let high = order.high in
      let middle : Agrees store between = grows_agrees between new store (does_grows (drop_steps onode.base.0 first (last - first)) between new does) meets.agrees in
      let more = grown onode.base.0 onode.size size size old between store limit fits order.none_past cleared middle in
      record {
        bytes = bytes_resized onode.base.0 onode.size size (laid old store) (laid new store)
            (λ k was within. kept_byte store limit k within ∙ more.kept k was)
            (λ k past within. kept_byte store limit k within ∙ more.zeros k past within within);
        order = record {
          low = order.low;
          high = order.high;
          within = fits;
          none_past = λ i small past. elim (cases_lt (4096 * i) onode.size) [
            | inl was ↦ (let gone = cut_gone i (past, was) in laid_changed new store (block_address onode.base.0 i) gone.0.changed ∙ gone.1)
            | inr far ↦ past_end onode.base.0 (λ i. BeginsBetween size onode.size i ⊎ HoldsOldEnd onode.size size i) store cut_blocks i small (cut_apart limit i far) ∙ order.none_past i small far
          ];
        };
        elsewhere = λ at apart. elsewhere_same onode.base.0 (λ i. BeginsBetween size onode.size i ⊎ HoldsOldEnd onode.size size i) store cut_blocks (cut_small limit) at apart;
      }

pub cut_form : (onode : Onode) (size first last : ℕ) (old between new : Seen) → first ≡ div_ceil size 4096 → last ≡ div_ceil onode.size 4096
    → ClearsOldEnd onode.base.0 onode.size size size old between
    → Does (drop_steps onode.base.0 first (last - first)) between new
    → CutForm onode size old new
cut_form onode size first last old between new first_is last_is cleared does = record {
  between = between;
  cleared = cleared;
  dropped = subst (λ (n : ℕ). Does (drop_steps onode.base.0 (div_ceil size 4096) (n - div_ceil size 4096)) between new) last_is
      (subst (λ (n : ℕ). Does (drop_steps onode.base.0 n (last - n)) between new) first_is does);
}
