-- The blocks of an image with what is queued laid over it.
use Rattle.std.proofs.Common.{◌≡◌, ℕ, zero, suc, ◌+◌, ◌-◌, ◌*◌, ◌≤◌, List, length, take, ap, ◌∙◌, inl, inr, arith}
use Rattle.std.specs.Prelude.{slice_range}
use Rattle.std.proofs.lemmas.Bool.{cases_lt}
use Rattle.std.proofs.lemmas.List.{length-take-le, take-take}
use Rattle.sea_trail.specs.Trail.{block_of}
use Rattle.sea_journal.specs.Blocks.{IsQueued, image_now, queued_block}
use Rattle.sea_journal.specs.Padding.{padded}
use Rattle.sea_journal.specs.declared.queue.Queue.{Queue}
use Rattle.sea_journal.proofs.Overlays.{front_part, slice_before, slice_behind, slice_inside}

pub padded-ge : (n : ℕ) → 4096 * n ≤ padded n
padded-ge zero = omega arith
padded-ge (suc n) = omega arith

-- the queued records' bytes
length-records : (q : Queue) → length (take (4096 * (q.place.0 - q.start.0)) q.bytes.items) ≡ 4096 * (q.place.0 - q.start.0)
length-records q =
    length-take-le (4096 * (q.place.0 - q.start.0)) q.bytes.items (omega (arith, q.bytes.ok.0, q.padded, padded-ge (q.place.0 - q.start.0)))

pub block_queued : (q : Queue) (image : List ℕ) (at : ℕ) → IsQueued q at → 4096 * q.place.0 ≤ length image → block_of (image_now q image) at ≡ queued_block q at
block_queued q image at queued long =
    let whole = 4096 * (q.place.0 - q.start.0) in
    let records = take whole q.bytes.items in
    let size = length-records q in
    let from : 4096 * at - 4096 * q.start.0 ≡ 4096 * (at - q.start.0) = omega (arith, queued.0) in
    let to : 4096 * (at + 1) - 4096 * q.start.0 ≡ 4096 * (at - q.start.0 + 1) = omega (arith, queued.0) in
    slice_inside (4096 * q.start.0) (4096 * at) (4096 * (at + 1)) records image (omega (arith, queued.0)) (omega arith) (omega (arith, queued.0, queued.1, size)) (omega (arith, q.order))
    ∙ ap (λ (i : ℕ). slice_range records i (4096 * (at + 1) - 4096 * q.start.0)) from
    ∙ ap (λ (j : ℕ). slice_range records (4096 * (at - q.start.0)) j) to
    ∙ front_part q.bytes.items records (4096 * (at - q.start.0)) (4096 * (at - q.start.0 + 1) - 4096 * (at - q.start.0)) whole (omega (arith, queued.0, queued.1)) (take-take whole whole q.bytes.items (omega arith))

pub block_unqueued : (q : Queue) (image : List ℕ) (at : ℕ) → (IsQueued q at → ⊥) → 4096 * q.place.0 ≤ length image → block_of (image_now q image) at ≡ block_of image at
block_unqueued q image at other long =
    let whole = 4096 * (q.place.0 - q.start.0) in
    let records = take whole q.bytes.items in
    let size = length-records q in
    elim (cases_lt at q.start.0) [
      | inl before ↦ slice_before (4096 * q.start.0) (4096 * at) (4096 * (at + 1)) records image (omega arith) (omega arith) (omega (arith, q.order))
      | inr from ↦ elim (cases_lt at q.place.0) [
        | inl within ↦ absurd (other (from, within))
        | inr behind ↦ slice_behind (4096 * q.start.0) (4096 * at) (4096 * (at + 1)) records image (omega (arith, q.order, size)) (omega (arith, q.order, size))
      ]
    ]
