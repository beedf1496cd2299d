-- Bytes written block by block, and blocks dropped: what becomes of an object's bytes.
use Rattle.std.proofs.Common.{◌≡◌, ◌≢◌, ◌⊎◌, inl, inr, ℕ, zero, suc, ◌+◌, ◌-◌, ◌*◌, ◌/◌, ◌%◌, ◌<◌, ◌≤◌, List, [], ◌∷◌, get_or, length, take, Option, refl, sym, ap, subst, ◌∙◌, arith}
use Rattle.std.specs.Prelude.{min}
use Rattle.std.proofs.lemmas.Bool.{cases_lt}
use Rattle.std.proofs.lemmas.List.{length-take, length-drop, get_or-take, get_or-drop}
use Rattle.std.proofs.lemmas.Slice.{between_is}
use Rattle.sea_base.specs.Space.{Store, Seen, Agrees, laid}
use Rattle.sea_data.specs.Bytes.{block_address, block_byte, byte_at}
use Rattle.sea_data.specs.Steps.{Step, Does, part_of, part_steps}
use Rattle.sea_data.specs.Steps.Edit.{Over}
use Rattle.sea_data.proofs.Bytes.{distinct, byte_in, byte_split}
use Rattle.sea_data.proofs.Edits.{IsOver}
use Rattle.sea_data.proofs.Taking.{Grows, grows_agrees, leaves, taken_over}

pub length-part_of : (offset : ℕ) (bytes : List ℕ) (i : ℕ) → length (part_of offset bytes i) ≡ min (4096 * (i + 1) - offset) (length bytes) - (4096 * i - offset)
length-part_of offset bytes i =
    let from : ℕ = 4096 * i - offset in
    let to : ℕ = min (4096 * (i + 1) - offset) (length bytes) in
    let t : length (take to bytes) ≡ min to (length bytes) = length-take to bytes in
    ap length (between_is bytes from to) ∙ length-drop from (take to bytes) ∙ omega arith

pub get_or-part_of : (offset : ℕ) (bytes : List ℕ) (i j : ℕ) → (4096 * i - offset) + j < min (4096 * (i + 1) - offset) (length bytes) → get_or (part_of offset bytes i) j 0 ≡ get_or bytes ((4096 * i - offset) + j) 0
get_or-part_of offset bytes i j within =
    let from : ℕ = 4096 * i - offset in
    let to : ℕ = min (4096 * (i + 1) - offset) (length bytes) in
    ap (λ (bs : List ℕ). get_or bs j 0) (between_is bytes from to) ∙ get_or-drop from (take to bytes) j 0 ∙ get_or-take to bytes (from + j) 0 within

-- a block that two stores have the same has the same bytes in both
pub byte_same : (s t : Store) (base k : ℕ) → s (block_address base (k / 4096)) ≡ t (block_address base (k / 4096)) → byte_at s base k ≡ byte_at t base k
byte_same s t base k same =
    byte_split s base k ∙ ap (λ (b : Option (List ℕ)). block_byte b (k % 4096)) same ∙ sym (byte_split t base k)

-- Bytes were written from an offset on, up to a limit, and no other byte is changed.
pub record IsWrittenTo (base offset : ℕ) (bytes : List ℕ) (upto : ℕ) (before after : Store) : Type 0 where
  pub inside : (k : ℕ) → offset ≤ k → k < offset + length bytes → k < upto → byte_at after base k ≡ get_or bytes (k - offset) 0
  pub outside : (k : ℕ) → k < 16777216 → (k < offset) ⊎ ((offset + length bytes ≤ k) ⊎ (upto ≤ k)) → byte_at after base k ≡ byte_at before base k

-- one block more
module _ (base offset i : ℕ) (bytes : List ℕ) (before between after : Store)
    (limit : offset + length bytes ≤ 16777216) (touched : 4096 * i < offset + length bytes) (from : offset < 4096 * (i + 1))
    (over : IsOver (offset - 4096 * i) (part_of offset bytes i) (between (block_address base i)) (after (block_address base i)))
    (others : (q : ℕ) → q ≢ block_address base i → after q ≡ between q) where
  elsewhere : (k : ℕ) → k < 16777216 → k / 4096 ≢ i → byte_at after base k ≡ byte_at between base k
  elsewhere k small other = byte_same after between base k (others (block_address base (k / 4096)) (λ same. other (distinct base (k / 4096) i (omega arith) (omega arith) same)))

  in_part : (k : ℕ) → 4096 * i ≤ k → k < 4096 * (i + 1) → offset ≤ k → k < offset + length bytes → byte_at after base k ≡ get_or bytes (k - offset) 0
  in_part k low high above below =
      let j : ℕ = k - 4096 * i in
      let place : ℕ = offset - 4096 * i in
      let start : ℕ = 4096 * i - offset in
      let l : length (part_of offset bytes i) ≡ min (4096 * (i + 1) - offset) (length bytes) - (4096 * i - offset) = length-part_of offset bytes i in
      let at : start + (j - place) ≡ k - offset = omega arith in
      byte_in after base i j k (omega arith) (omega arith)
      ∙ over.inside j (omega arith) (omega arith)
      ∙ get_or-part_of offset bytes i (j - place) (omega arith)
      ∙ ap (λ (n : ℕ). get_or bytes n 0) at

  beside_part : (k : ℕ) → 4096 * i ≤ k → k < 4096 * (i + 1) → (k < offset) ⊎ (offset + length bytes ≤ k) → byte_at after base k ≡ byte_at between base k
  beside_part k low high apart =
      let j : ℕ = k - 4096 * i in
      let place : ℕ = offset - 4096 * i in
      let l : length (part_of offset bytes i) ≡ min (4096 * (i + 1) - offset) (length bytes) - (4096 * i - offset) = length-part_of offset bytes i in
      let off : (j < offset - 4096 * i) ⊎ ((offset - 4096 * i) + length (part_of offset bytes i) ≤ j) = elim apart [ inl b ↦ inl (omega arith) | inr p ↦ inr (omega arith) ] in
      byte_in after base i j k (omega arith) (omega arith)
      ∙ over.outside j (omega arith) off
      ∙ sym (byte_in between base i j k (omega arith) (omega arith))

  pub written_more : IsWrittenTo base offset bytes (4096 * i) before between → IsWrittenTo base offset bytes (4096 * (i + 1)) before after
  written_more was = record {
    inside = λ k above below upto. elim (cases_lt k (4096 * i)) [
      | inl earlier ↦ elsewhere k (omega arith) (λ same. absurd (omega arith)) ∙ was.inside k above below earlier
      | inr here ↦ in_part k here upto above below
    ];
    outside = λ k small apart. elim (cases_lt k (4096 * i)) [
      | inl earlier ↦ elsewhere k small (λ same. absurd (omega arith)) ∙ was.outside k small (elim apart [ inl b ↦ inl b | inr (inl p) ↦ inr (inl p) | inr (inr u) ↦ absurd (omega arith) ])
      | inr here ↦ elim (cases_lt k (4096 * (i + 1))) [
        | inl within ↦ beside_part k here within (elim apart [ inl b ↦ inl b | inr (inl p) ↦ inr p | inr (inr u) ↦ absurd (omega arith) ]) ∙ was.outside k small (inr (inr here))
        | inr past ↦ elsewhere k small (λ same. absurd (omega arith)) ∙ was.outside k small (inr (inr here))
      ]
    ];
  }

-- a part has room in its block
pub part_room : (offset : ℕ) (bytes : List ℕ) (i : ℕ) → offset < 4096 * (i + 1) → (offset - 4096 * i) + length (part_of offset bytes i) ≤ 4096
part_room offset bytes i from =
    let l : length (part_of offset bytes i) ≡ min (4096 * (i + 1) - offset) (length bytes) - (4096 * i - offset) = length-part_of offset bytes i in
    omega arith

-- edits one after the other
pub does_grows : (steps : List Step) (old new : Seen) → Does steps old new → Grows old new
does_grows [] old new same = λ at found is. ap (λ (s : Seen). s.reads at) same ∙ is
does_grows (step ∷ steps) old new does = λ at found is. (leaves step.0 step.1 does.2).grows at found (does_grows steps old does.0 does.1 at found is)

-- so many blocks of a range
pub does_parts : (base offset : ℕ) (bytes : List ℕ) (n : ℕ) (old new : Seen) (store : Store) → offset + length bytes ≤ 16777216 → 4096 * (offset / 4096 + n) < offset + length bytes + 4096 → 1 ≤ length bytes → Does (part_steps base offset bytes n) old new → Agrees store new
    → IsWrittenTo base offset bytes (4096 * (offset / 4096 + n)) (laid old store) (laid new store)
does_parts base offset bytes zero old new store limit touched some same agrees =
    subst (λ (s : Seen). IsWrittenTo base offset bytes (4096 * (offset / 4096 + 0)) (laid old store) (laid s store)) (sym same) (record {
      inside = λ k above below upto. absurd (omega arith);
      outside = λ k small apart. refl;
    })
does_parts base offset bytes (suc n) old new store limit touched some does agrees =
    let i : ℕ = offset / 4096 + n in
    let l = leaves (block_address base (offset / 4096 + n)) (Over (offset - 4096 * (offset / 4096 + n)) (part_of offset bytes (offset / 4096 + n))) does.2 in
    let was = does_parts base offset bytes n old does.0 store limit (omega arith) some does.1 (grows_agrees does.0 new store l.grows agrees) in
    let next : 4096 * (offset / 4096 + n + 1) ≡ 4096 * (offset / 4096 + suc n) = omega arith in
    subst (λ (u : ℕ). IsWrittenTo base offset bytes u (laid old store) (laid new store)) next
    (written_more base offset (offset / 4096 + n) bytes (laid old store) (laid does.0 store) (laid new store) limit (omega arith) (omega arith)
    (taken_over (block_address base (offset / 4096 + n)) (offset - 4096 * (offset / 4096 + n)) (part_of offset bytes (offset / 4096 + n)) does.0 new store (part_room offset bytes (offset / 4096 + n) (omega arith)) does.2 agrees)
    (λ q ne. l.laid store q ne) was)
