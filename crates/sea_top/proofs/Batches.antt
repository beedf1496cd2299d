-- What a batch leaves of an image: the trail, with the records of the batch.
use Rattle.std.proofs.Common.{◌≡◌, ℕ, zero, suc, ◌+◌, ◌-◌, ◌*◌, ◌≤◌, List, [], ◌∷◌, ◌++◌, length, take, drop, replicate, refl, ap, ◌∙◌, arith, append_assoc, length-append}
use Rattle.std.specs.List.{flat_map}
use Rattle.std.proofs.lemmas.List.{drop_at, take_at, length-take, length-replicate}
use Rattle.sea_device.specs.Device.{overwritten}
use Rattle.sea_top.specs.declared.record.PlainRecord.{PlainRecord}
use Rattle.sea_top.specs.Record.{BeginsWithNone, spelling}
use Rattle.sea_top.specs.Trail.{IsTrail, Linked, chain_end, last_digest}
use Rattle.sea_top.specs.Batch.{batch}
use Rattle.sea_top.proofs.RecordBytes.{length-spelling}
use Rattle.sea_top.proofs.Queues.{some_blocks}
use Rattle.sea_top.proofs.Chains.{BeginsWithNone-zero, BeginsWithNone-nil, grown_trail}

all_taken : (n : ℕ) (xs : List ℕ) → length xs ≤ n → take n xs ≡ xs
all_taken n [] le = elim n as (λ m. take {A = ℕ} m [] ≡ []) [ zero ↦ refl | suc k ↦ refl ]
all_taken zero (x ∷ xs) le = absurd (omega arith)
all_taken (suc n) (x ∷ xs) le = ap (λ (r : List ℕ). x ∷ r) (all_taken n xs (omega arith))

none_left : (n : ℕ) (xs : List ℕ) → length xs ≤ n → drop n xs ≡ []
none_left n [] le = elim n as (λ m. drop {A = ℕ} m [] ≡ []) [ zero ↦ refl | suc k ↦ refl ]
none_left zero (x ∷ xs) le = absurd (omega arith)
none_left (suc n) (x ∷ xs) le = none_left n xs (omega arith)

pub unpadded : (bytes : List ℕ) (rest : ℕ) → rest ≡ 0 → bytes ≡ batch bytes rest
unpadded bytes zero e = refl
unpadded bytes (suc rest) e = absurd (omega arith)

-- a vector that was resized by a block is a batch
pub resized : (bytes made : List ℕ) (rest len : ℕ) → (rest ≡ 0 → ⊥) → len ≡ length bytes + 4096 → made ≡ take len bytes ++ replicate (len - length bytes) 0 → made ≡ batch bytes rest
resized bytes made zero len some e is = absurd (some refl)
resized bytes made (suc rest) len some e is =
    let count : len - length bytes ≡ 4096 = omega arith in
    is ∙ ap (λ (b : List ℕ). b ++ replicate (len - length bytes) 0) (all_taken len bytes (omega arith)) ∙ ap (λ (n : ℕ). bytes ++ replicate n 0) count

zeros_begin : (n : ℕ) (rest : List ℕ) → 1 ≤ n → BeginsWithNone (replicate n 0 ++ rest)
zeros_begin zero rest some = absurd (omega arith)
zeros_begin (suc n) rest some = BeginsWithNone-zero (replicate n 0 ++ rest)

-- only no records have no bytes
pub none_spelled : (commit : ℕ) (previous : List ℕ) (news : List PlainRecord) → Linked commit previous news → length (flat_map spelling news) ≡ 0 → news ≡ []
none_spelled commit previous [] linked empty = refl
none_spelled commit previous (plain ∷ news) linked empty =
    absurd (omega (arith, length-append (spelling plain) (flat_map spelling news), length-spelling plain linked.0, some_blocks plain.pieces))

-- what stands behind the records of a batch
pub behind_batch : ℕ → ℕ → List ℕ → List ℕ
behind_batch at zero image = []
behind_batch at (suc rest) image = replicate 4096 0 ++ drop (at + 4096) image

behind_none : (at rest : ℕ) (image : List ℕ) → BeginsWithNone (behind_batch at rest image)
unfolding behind_batch
behind_none at zero image = BeginsWithNone-nil
behind_none at (suc rest) image = zeros_begin 4096 (drop (at + 4096) image) (omega arith)

kept_front : (at : ℕ) (bytes image : List ℕ) → at ≤ length image → take at (overwritten at bytes image) ≡ take at image
kept_front at bytes image within =
    ap (take at) (append_assoc (take at image) bytes (drop (at + length bytes) image)) ∙ take_at (take at image) (bytes ++ drop (at + length bytes) image) at (rw (length-take at image) (omega arith))

new_behind : (at : ℕ) (bytes image : List ℕ) → at ≤ length image → drop at (overwritten at bytes image) ≡ bytes ++ drop (at + length bytes) image
new_behind at bytes image within =
    ap (drop at) (append_assoc (take at image) bytes (drop (at + length bytes) image)) ∙ drop_at (take at image) (bytes ++ drop (at + length bytes) image) at (rw (length-take at image) (omega arith))

batch_behind : (at rest : ℕ) (bytes image : List ℕ) → at + length bytes + 4096 * rest ≡ length image → drop at (overwritten at (batch bytes rest) image) ≡ bytes ++ behind_batch (at + length bytes) rest image
unfolding behind_batch
batch_behind at zero bytes image room =
    new_behind at bytes image (omega arith) ∙ ap (λ (r : List ℕ). bytes ++ r) (none_left (at + length bytes) image (omega arith))
batch_behind at (suc rest) bytes image room =
    let zeros : List ℕ = replicate 4096 0 in
    let count : length (bytes ++ zeros) ≡ length bytes + 4096 = length-append bytes zeros ∙ ap (λ (n : ℕ). length bytes + n) (length-replicate {A = ℕ} 4096 0) in
    let end : at + length (bytes ++ zeros) ≡ at + length bytes + 4096 = omega arith in
    new_behind at (bytes ++ zeros) image (omega arith) ∙ ap (λ (n : ℕ). (bytes ++ zeros) ++ drop n image) end ∙ append_assoc bytes zeros (drop (at + length bytes + 4096) image)

-- The image that a batch leaves has the trail with the batch's records.
pub batch_trail : (image bytes : List ℕ) (records news : List PlainRecord) (rest : ℕ) → IsTrail image records → bytes ≡ flat_map spelling news → Linked (1 + length records) (last_digest (replicate 32 0) records) news → 4096 * chain_end 0 records + length bytes + 4096 * rest ≡ length image → IsTrail (overwritten (4096 * chain_end 0 records) (batch bytes rest) image) (records ++ news)
batch_trail image bytes records news rest trail spelled linked room =
    let at = 4096 * chain_end 0 records in
    grown_trail image (overwritten at (batch bytes rest) image) records news (behind_batch (at + length bytes) rest image) trail (kept_front at (batch bytes rest) image (omega arith)) (batch_behind at rest bytes image room ∙ ap (λ (b : List ℕ). b ++ behind_batch (at + length bytes) rest image) spelled) linked (behind_none (at + length bytes) rest image)
