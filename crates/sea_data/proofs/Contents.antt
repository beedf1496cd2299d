-- An object's bytes after its old end is zeroed, a range is written, or its end is cut.
use Rattle.std.proofs.Common.{◌≡◌, ◌≢◌, inl, inr, ℕ, ◌+◌, ◌-◌, ◌*◌, ◌/◌, ◌%◌, ◌<◌, ◌≤◌, List, ◌++◌, get_or, length, take, drop, replicate, Option, None, refl, sym, ap, ◌∙◌, arith}
use Rattle.std.specs.Prelude.{min, max}
use Rattle.std.proofs.lemmas.Bool.{cases_lt, cases_Bool}
use Rattle.std.proofs.lemmas.List.{length-take, length-drop, length-append, length-replicate, get_or-take, get_or-drop, get_or_append_left, get_or-append_right}
use Rattle.sea_base.specs.Space.{Store, Seen, Agrees, laid}
use Rattle.sea_base.proofs.Spaces.{laid_changed, laid_unchanged}
use Rattle.sea_object.specs.Answer.{written, resized}
use Rattle.sea_data.specs.Bytes.{block_address, block_byte, byte_at, bytes_of}
use Rattle.sea_data.specs.Ranges.{Covers, HoldsOldEnd, IsAsBefore}
use Rattle.sea_data.specs.Steps.{Takes, ClearsOldEnd}
use Rattle.sea_data.specs.Steps.Edit.{Clear}
use Rattle.sea_data.proofs.Bytes.{distinct, byte_in, byte_split, length-bytes_from, get_or-bytes_of, bytes_of_same}
use Rattle.sea_data.proofs.Edits.{zero_at}
use Rattle.sea_data.proofs.Taking.{leaves, taken_clear}
use Rattle.sea_data.proofs.Parts.{byte_same, IsWrittenTo}

-- what is as it was shows in every store
pub as_before_laid : {old new : Seen} {at : ℕ} → IsAsBefore old new at → (store : Store) → laid new store at ≡ laid old store at
as_before_laid {old} {new} {at} same store =
    elim (cases_Bool (old.changed at)) [
      | inl c ↦ laid_changed new store at (same.changed ∙ c) ∙ same.view c ∙ sym (laid_changed old store at c)
      | inr c ↦ laid_unchanged new store at (same.changed ∙ c) ∙ sym (laid_unchanged old store at c)
    ]

-- the bytes of a list that is written over, by their places
pub written_before : (offset : ℕ) (bytes old : List ℕ) (k : ℕ) → k < offset → k < length old → get_or (written offset bytes old) k 0 ≡ get_or old k 0
written_before offset bytes old k before within =
    let zeros : List ℕ = replicate (offset - length old) 0 in
    let lead : List ℕ = take offset (old ++ zeros) in
    let a : length (old ++ zeros) ≡ length old + length zeros = length-append old zeros in
    let z : length zeros ≡ offset - length old = length-replicate (offset - length old) 0 in
    let l : length lead ≡ min offset (length (old ++ zeros)) = length-take offset (old ++ zeros) in
    let p : length (lead ++ bytes) ≡ length lead + length bytes = length-append lead bytes in
    get_or_append_left (lead ++ bytes) (drop (offset + length bytes) old) 0 k (omega arith)
    ∙ get_or_append_left lead bytes 0 k (omega arith)
    ∙ get_or-take offset (old ++ zeros) k 0 before
    ∙ get_or_append_left old zeros 0 k within

pub written_gap : (offset : ℕ) (bytes old : List ℕ) (k : ℕ) → k < offset → length old ≤ k → get_or (written offset bytes old) k 0 ≡ 0
written_gap offset bytes old k before past =
    let zeros : List ℕ = replicate (offset - length old) 0 in
    let lead : List ℕ = take offset (old ++ zeros) in
    let a : length (old ++ zeros) ≡ length old + length zeros = length-append old zeros in
    let z : length zeros ≡ offset - length old = length-replicate (offset - length old) 0 in
    let l : length lead ≡ min offset (length (old ++ zeros)) = length-take offset (old ++ zeros) in
    let p : length (lead ++ bytes) ≡ length lead + length bytes = length-append lead bytes in
    get_or_append_left (lead ++ bytes) (drop (offset + length bytes) old) 0 k (omega arith)
    ∙ get_or_append_left lead bytes 0 k (omega arith)
    ∙ get_or-take offset (old ++ zeros) k 0 before
    ∙ get_or-append_right old zeros (length old) k 0 refl past
    ∙ zero_at (offset - length old) (k - length old)

pub written_inside : (offset : ℕ) (bytes old : List ℕ) (k : ℕ) → offset ≤ k → k < offset + length bytes → get_or (written offset bytes old) k 0 ≡ get_or bytes (k - offset) 0
written_inside offset bytes old k above below =
    let zeros : List ℕ = replicate (offset - length old) 0 in
    let lead : List ℕ = take offset (old ++ zeros) in
    let a : length (old ++ zeros) ≡ length old + length zeros = length-append old zeros in
    let z : length zeros ≡ offset - length old = length-replicate (offset - length old) 0 in
    let l : length lead ≡ min offset (length (old ++ zeros)) = length-take offset (old ++ zeros) in
    let p : length (lead ++ bytes) ≡ length lead + length bytes = length-append lead bytes in
    get_or_append_left (lead ++ bytes) (drop (offset + length bytes) old) 0 k (omega arith)
    ∙ get_or-append_right lead bytes offset k 0 (omega arith) above

pub written_behind : (offset : ℕ) (bytes old : List ℕ) (k : ℕ) → offset + length bytes ≤ k → get_or (written offset bytes old) k 0 ≡ get_or old k 0
written_behind offset bytes old k past =
    let zeros : List ℕ = replicate (offset - length old) 0 in
    let lead : List ℕ = take offset (old ++ zeros) in
    let a : length (old ++ zeros) ≡ length old + length zeros = length-append old zeros in
    let z : length zeros ≡ offset - length old = length-replicate (offset - length old) 0 in
    let l : length lead ≡ min offset (length (old ++ zeros)) = length-take offset (old ++ zeros) in
    let p : length (lead ++ bytes) ≡ length lead + length bytes = length-append lead bytes in
    let at : offset + length bytes + (k - (offset + length bytes)) ≡ k = omega arith in
    get_or-append_right (lead ++ bytes) (drop (offset + length bytes) old) (offset + length bytes) k 0 (omega arith) past
    ∙ get_or-drop (offset + length bytes) old (k - (offset + length bytes)) 0
    ∙ ap (λ (n : ℕ). get_or old n 0) at

length_written : (offset : ℕ) (bytes old : List ℕ) → length (written offset bytes old) ≡ max (length old) (offset + length bytes)
length_written offset bytes old =
    let zeros : List ℕ = replicate (offset - length old) 0 in
    let lead : List ℕ = take offset (old ++ zeros) in
    let a : length (old ++ zeros) ≡ length old + length zeros = length-append old zeros in
    let z : length zeros ≡ offset - length old = length-replicate (offset - length old) 0 in
    let l : length lead ≡ min offset (length (old ++ zeros)) = length-take offset (old ++ zeros) in
    let p : length (lead ++ bytes) ≡ length lead + length bytes = length-append lead bytes in
    let d : length (drop (offset + length bytes) old) ≡ length old - (offset + length bytes) = length-drop (offset + length bytes) old in
    length-append (lead ++ bytes) (drop (offset + length bytes) old) ∙ omega arith

-- The bytes past an old end are zeros, up to where a range is written, and those before it stay.
pub record IsGrown (base size from to : ℕ) (before after : Store) : Type 0 where
  pub kept : (k : ℕ) → k < size → byte_at after base k ≡ byte_at before base k
  pub zeros : (k : ℕ) → size ≤ k → k < from → k < to → byte_at after base k ≡ 0

nothing_there : (store : Store) (base size : ℕ) → ((i : ℕ) → i < 4096 → size ≤ 4096 * i → store (block_address base i) ≡ None) → (k : ℕ) → k < 16777216 → size ≤ 4096 * (k / 4096) → byte_at store base k ≡ 0
nothing_there store base size past k small far =
    byte_split store base k ∙ ap (λ (b : Option (List ℕ)). block_byte b (k % 4096)) (past (k / 4096) (omega arith) far)

module _ (base size from to : ℕ) (old new : Seen) (store : Store) (limit : size ≤ 16777216) (small : to ≤ 16777216)
    (past : (i : ℕ) → i < 4096 → size ≤ 4096 * i → laid old store (block_address base i) ≡ None) where
  grown_kept : (new ≡ old) × ((i : ℕ) → HoldsOldEnd size to i → Covers from to i) → IsGrown base size from to (laid old store) (laid new store)
  grown_kept h =
      let same : (k : ℕ) → byte_at (laid new store) base k ≡ byte_at (laid old store) base k = λ k. ap (λ (s : Seen). byte_at (laid s store) base k) h.0 in
      record {
        kept = λ k lt. same k;
        zeros = λ k le before below. same k ∙ elim (cases_lt (4096 * (k / 4096)) size) [
          | inl holds ↦ absurd (let whole : Covers from to (k / 4096) = h.1 (k / 4096) (omega arith, holds, omega arith) in let begins = whole.0 in omega arith)
          | inr far ↦ nothing_there (laid old store) base size past k (omega arith) far
        ];
      }

  grown_cleared : (i : ℕ) → HoldsOldEnd size to i → Takes (block_address base i) (Clear (size - 4096 * i)) old new → Agrees store new → IsGrown base size from to (laid old store) (laid new store)
  grown_cleared i holds take agrees =
      let h0 = holds.0 in
      let h1 = holds.1 in
      let h2 = holds.2 in
      let l = leaves (block_address base i) (Clear (size - 4096 * i)) take in
      let c = taken_clear (block_address base i) (size - 4096 * i) old new store (omega arith) take agrees in
      let elsewhere : (k : ℕ) → k < 16777216 → k / 4096 ≢ i → byte_at (laid new store) base k ≡ byte_at (laid old store) base k =
      λ k less other. byte_same (laid new store) (laid old store) base k (l.laid store (block_address base (k / 4096)) (λ same. other (distinct base (k / 4096) i (omega arith) (omega arith) same))) in
      record {
        kept = λ k lt. elim (cases_lt k (4096 * i)) [
          | inl earlier ↦ elsewhere k (omega arith) (λ same. absurd (omega arith))
          | inr here ↦
              byte_in (laid new store) base i (k - 4096 * i) k (omega arith) (omega arith)
              ∙ c.outside (k - 4096 * i) (omega arith)
              ∙ sym (byte_in (laid old store) base i (k - 4096 * i) k (omega arith) (omega arith))
        ];
        zeros = λ k le before below. elim (cases_lt k (4096 * (i + 1))) [
          | inl here ↦
              byte_in (laid new store) base i (k - 4096 * i) k (omega arith) (omega arith)
              ∙ c.inside (k - 4096 * i) (omega arith) (omega arith)
          | inr far ↦ elsewhere k (omega arith) (λ same. absurd (omega arith)) ∙ nothing_there (laid old store) base size past k (omega arith) (omega arith)
        ];
      }

  pub grown : ClearsOldEnd base size from to old new → Agrees store new → IsGrown base size from to (laid old store) (laid new store)
  grown (inl kept) agrees = grown_kept kept
  grown (inr cleared) agrees = grown_cleared cleared.0 cleared.1 cleared.3 agrees

-- what is written in a range of an object that is enlarged up to it
pub bytes_written : (base size offset : ℕ) (bytes : List ℕ) (upto : ℕ) (before between after : Store) → size ≤ 16777216 → offset + length bytes ≤ 16777216 → offset + length bytes ≤ upto → IsGrown base size offset (offset + length bytes) before between → IsWrittenTo base offset bytes upto between after
    → bytes_of after base (max size (offset + length bytes)) ≡ written offset bytes (bytes_of before base size)
bytes_written base size offset bytes upto before between after limit fits whole more wrote =
    let old = bytes_of before base size in
    let l : length old ≡ size = length-bytes_from before base 0 size in
    let w : length (written offset bytes old) ≡ max (length old) (offset + length bytes) = length_written offset bytes old in
    let was : (k : ℕ) → k < size → byte_at before base k ≡ get_or old k 0 = λ k lt. sym (get_or-bytes_of before base size k lt) in
    bytes_of_same after base (max size (offset + length bytes)) (written offset bytes old) (omega arith) (λ k within.
    elim (cases_lt k offset) [
      | inl early ↦ wrote.outside k (omega arith) (inl early) ∙ elim (cases_lt k size) [
        | inl inside ↦ more.kept k inside ∙ was k inside ∙ sym (written_before offset bytes old k early (omega arith))
        | inr past ↦ more.zeros k past early (omega arith) ∙ sym (written_gap offset bytes old k early (omega arith))
      ]
      | inr after_offset ↦ elim (cases_lt k (offset + length bytes)) [
        | inl inside ↦ wrote.inside k after_offset inside (omega arith) ∙ sym (written_inside offset bytes old k after_offset inside)
        | inr behind ↦ wrote.outside k (omega arith) (inr (inl behind)) ∙ more.kept k (omega arith) ∙ was k (omega arith) ∙ sym (written_behind offset bytes old k behind)
      ]
    ])

-- an object whose end is moved
pub bytes_resized : (base size to : ℕ) (before after : Store) → ((k : ℕ) → k < size → k < to → byte_at after base k ≡ byte_at before base k) → ((k : ℕ) → size ≤ k → k < to → byte_at after base k ≡ 0) → bytes_of after base to ≡ resized to (bytes_of before base size)
bytes_resized base size to before after kept zeros =
    let old = bytes_of before base size in
    let l : length old ≡ size = length-bytes_from before base 0 size in
    let lead : List ℕ = take to old in
    let rest : List ℕ = replicate (to - length old) 0 in
    let t : length lead ≡ min to (length old) = length-take to old in
    let z : length rest ≡ to - length old = length-replicate (to - length old) 0 in
    let a : length (lead ++ rest) ≡ length lead + length rest = length-append lead rest in
    bytes_of_same after base to (resized to old) (omega arith) (λ k within.
    elim (cases_lt k size) [
      | inl inside ↦ kept k inside within ∙ sym (get_or_append_left lead rest 0 k (omega arith) ∙ get_or-take to old k 0 within ∙ get_or-bytes_of before base size k inside)
      | inr past ↦ zeros k past within ∙ sym (get_or-append_right lead rest size k 0 (omega arith) past ∙ zero_at (to - length old) (k - size))
    ])
