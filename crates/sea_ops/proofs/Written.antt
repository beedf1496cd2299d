-- The calls on an object's data are changes of its bytes.
use Rattle.std.proofs.Common.{◌≡◌, ◌⊎◌, inl, inr, ℕ, ◌-◌, ◌*◌, ◌<◌, ◌≤◌, List, Option, Some, sym, ap, ◌∙◌, arith, ◌+◌, max, length, replicate, None}
use Rattle.std.specs.FinMap as map
use Rattle.sea_base.specs.Space.{Store, Seen, laid}
use Rattle.sea_data.specs.Bytes.{bytes_of}
use Rattle.sea_data.specs.Calls as blocks
use Rattle.sea_data.specs.Ranges.{ChangesBlocks, BeginsBetween, HoldsOldEnd, IsChangedFor}
use Rattle.sea_data.specs.Steps.{ClearsOldEnd}
use Rattle.sea_data.specs.Steps.Edit.{Clear}
use Rattle.sea_data.specs.Bytes.{block_address}
use Rattle.sea_data.proofs.Parts.{does_grows}
use Rattle.sea_data.proofs.Taking.{leaves}
use Rattle.sea_object.specs.declared.onode.Onode.{Onode}
use Rattle.sea_object.specs.declared.op.Op.TheVariants.{Truncate, Write, Zero}
use Rattle.sea_object.specs.declared.reply.Item.TheVariants.{Unit as Nothing}
use Rattle.sea_object.specs.Answer as model
use Rattle.sea_object.specs.Answer.{resized, written}
use Rattle.sea_object.specs.Objects.{ObjectValue, ObjectMap, empty_object}
use Rattle.sea_onode.specs.Calls.{NotesMore}
use Rattle.sea_ops.proofs.Writes.{Writes, IsResize}

-- blocks of a smaller set are blocks of a larger one
more_blocks : (base : ℕ) (P Q : ℕ → Type 0) (a b : Seen) → ((i : ℕ) → P i → Q i) → ChangesBlocks base P a b → ChangesBlocks base Q a b
more_blocks base P Q a b on changes at = elim (changes at) [
  | inl block ↦ inl (block.0, on block.0 block.1, block.2)
  | inr same ↦ inr same
]

-- what was noted stays as the old end is zeroed
cleared_notes : (base size from to : ℕ) (a b : Seen) → ClearsOldEnd base size from to a b → NotesMore a b
cleared_notes base size from to a b (inl kept) at found e = ap (λ (s : Seen). s.reads at) kept.0 ∙ e
cleared_notes base size from to a b (inr c) at found e = (leaves (block_address base c.0) (Clear (size - 4096 * c.0)) c.3).grows at found e

-- ---- a cut

pub cut_writes : (x : Onode) (size : ℕ) (a b : Seen) → size ≤ 16777216
    → ((store : Store) (next : ℕ) → blocks.Meets store next x a b → blocks.Becomes store next x size (resized size (bytes_of (laid a store) x.base.0 x.size)) a b)
    → blocks.CutForm x size a b → blocks.CutFootprint x size a b → b.next ≡ a.next → Writes x size (resized size) a b
cut_writes x size a b small becomes form footprint next = record {
  becomes = becomes;
  changes = λ limit. more_blocks x.base.0 (λ i. BeginsBetween size x.size i ⊎ HoldsOldEnd x.size size i) (λ i. i < 4096) a b (λ i touched. within limit i touched) footprint.changes;
  notes = λ at found e. does_grows _ form.between b form.dropped at found (cleared_notes x.base.0 x.size size size a form.between form.cleared at found e);
  next = next;
}
  where
    within : x.size ≤ 16777216 → (i : ℕ) → BeginsBetween size x.size i ⊎ HoldsOldEnd x.size size i → i < 4096
    within limit i (inl begins) = omega (arith, begins.1, limit)
    within limit i (inr holds) = omega (arith, holds.1, limit)

pub truncates : (name : List ℕ) (size : ℕ) (objects : ObjectMap) (o : ObjectValue) → map.get objects name ≡ Some o → IsResize (Truncate name size) Nothing name (resized size) objects o
truncates name size objects o has = record {
  allowed = ap (model.refusal_at (Truncate name size)) has;
  answers = sym (ap (model.item_at (Truncate name size)) has);
  effect = ap (λ (z : Option ObjectValue). model.put_object (Some name) (model.object_after (Truncate name size) z) objects) has;
}

-- ---- a write

-- the blocks that a range within the limit has to do with are among the first 4,096
changed_few : (size from to i : ℕ) → to ≤ 16777216 → IsChangedFor size from to i → i < 4096
changed_few size from to i limit (inl touches) = omega (arith, touches.1, limit)
changed_few size from to i limit (inr holds) = omega (arith, holds.0, holds.1, limit)

pub written_writes : (x : Onode) (offset : ℕ) (bytes : List ℕ) (to : ℕ) (a b : Seen) → to ≤ 16777216
    → ((store : Store) (next : ℕ) → blocks.Meets store next x a b → blocks.Becomes store next x (max x.size to) (written offset bytes (bytes_of (laid a store) x.base.0 x.size)) a b)
    → blocks.WriteForm x offset bytes a b → blocks.WriteFootprint x offset to a b → b.next ≡ a.next → Writes x (max x.size to) (written offset bytes) a b
written_writes x offset bytes to a b limit becomes form footprint next = record {
  becomes = becomes;
  changes = λ small. more_blocks x.base.0 (IsChangedFor x.size offset to) (λ i. i < 4096) a b (λ i touched. changed_few x.size offset to i limit touched) footprint.changes;
  notes = λ at found e. does_grows _ form.between b form.written at found (cleared_notes x.base.0 x.size offset (offset + length bytes) a form.between form.cleared at found e);
  next = next;
}

-- An object is made where there is none, and then its bytes are changed.
pub writes_bytes : (name : List ℕ) (offset : ℕ) (bytes : List ℕ) (objects : ObjectMap) (o : ObjectValue) → (map.get objects name ≡ Some o) ⊎ ((map.get objects name ≡ None) × (o ≡ empty_object)) → IsResize (Write name offset bytes) Nothing name (written offset bytes) objects o
writes_bytes name offset bytes objects o (inl has) = record {
  allowed = ap (model.refusal_at (Write name offset bytes)) has;
  answers = sym (ap (model.item_at (Write name offset bytes)) has);
  effect = ap (λ (z : Option ObjectValue). model.put_object (Some name) (model.object_after (Write name offset bytes) z) objects) has;
}
writes_bytes name offset bytes objects o (inr none) = record {
  allowed = ap (model.refusal_at (Write name offset bytes)) none.0;
  answers = sym (ap (model.item_at (Write name offset bytes)) none.0);
  effect = ap (λ (z : Option ObjectValue). model.put_object (Some name) (model.object_after (Write name offset bytes) z) objects) none.0
      ∙ ap (λ (w : ObjectValue). map.insert objects name (model.with_bytes (written offset bytes w.bytes) w)) (sym none.1);
}

pub zeros_range : (name : List ℕ) (offset count : ℕ) (objects : ObjectMap) (o : ObjectValue) → (map.get objects name ≡ Some o) ⊎ ((map.get objects name ≡ None) × (o ≡ empty_object)) → IsResize (Zero name offset count) Nothing name (written offset (replicate count 0)) objects o
zeros_range name offset count objects o (inl has) = record {
  allowed = ap (model.refusal_at (Zero name offset count)) has;
  answers = sym (ap (model.item_at (Zero name offset count)) has);
  effect = ap (λ (z : Option ObjectValue). model.put_object (Some name) (model.object_after (Zero name offset count) z) objects) has;
}
zeros_range name offset count objects o (inr none) = record {
  allowed = ap (model.refusal_at (Zero name offset count)) none.0;
  answers = sym (ap (model.item_at (Zero name offset count)) none.0);
  effect = ap (λ (z : Option ObjectValue). model.put_object (Some name) (model.object_after (Zero name offset count) z) objects) none.0
      ∙ ap (λ (w : ObjectValue). map.insert objects name (model.with_bytes (written offset (replicate count 0) w.bytes) w)) (sym none.1);
}
