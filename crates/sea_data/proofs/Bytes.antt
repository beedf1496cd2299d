-- The bytes of data blocks, one by one and in rows.
use Rattle.std.proofs.Common.{◌≡◌, inl, inr, ℕ, ◌+◌, ◌-◌, ◌*◌, ◌/◌, ◌%◌, ◌^◌, ◌<◌, ◌≤◌, List, ◌++◌, get_or, length, take, drop, replicate, Option, None, refl, sym, ap, ◌∙◌, arith}
use Rattle.std.specs.Prelude.{min}
use Rattle.std.proofs.lemmas.Bool.{cases_lt}
use Rattle.std.proofs.lemmas.List.{ext_get_or, length-take, length-drop, length-append, length-replicate, get_or-take, get_or-drop, get_or-replicate, get_or_append_left, get_or-append_right}
use Rattle.std.proofs.lemmas.List.FromFn.{length-map-range_with_len, get_or-map-range_with_len}
use Rattle.sea_base.specs.Space.{Store}
use Rattle.sea_data.specs.Bytes.{block_address, block_byte, block_part, byte_at, bytes_from, bytes_of}

-- two data blocks of an object have two addresses
pub distinct : (base i j : ℕ) → i < 2 ^ 32 → j < 2 ^ 32 → block_address base i ≡ block_address base j → i ≡ j
unfolding block_address
distinct base i j a b e = omega arith

-- and these lie from its base on, where they are addresses
pub address_is : (base i : ℕ) → i < 4096 → base + 4098 ≤ 2 ^ 64 → block_address base i ≡ base + 2 + i
unfolding block_address
address_is base i within fits = omega arith

pub length-bytes_from : (store : Store) (base from count : ℕ) → length (bytes_from store base from count) ≡ count
unfolding bytes_from
length-bytes_from store base from count = length-map-range_with_len (byte_at store base) from count

pub get_or-bytes_from : (store : Store) (base from count k : ℕ) → k < count → get_or (bytes_from store base from count) k 0 ≡ byte_at store base (from + k)
unfolding bytes_from
get_or-bytes_from store base from count k within = get_or-map-range_with_len (byte_at store base) from count k (from + k) 0 within refl

-- the bytes of an object, from its beginning
pub get_or-bytes_of : (store : Store) (base size k : ℕ) → k < size → get_or (bytes_of store base size) k 0 ≡ byte_at store base k
get_or-bytes_of store base size k within =
    let at : 0 + k ≡ k = omega arith in
    get_or-bytes_from store base 0 size k within ∙ ap (byte_at store base) at

-- a byte by its block and its place there
pub byte_in : (store : Store) (base i j k : ℕ) → j < 4096 → k ≡ 4096 * i + j → byte_at store base k ≡ block_byte (store (block_address base i)) j
unfolding byte_at
byte_in store base i j k within is =
    let block : k / 4096 ≡ i = omega arith in
    let place : k % 4096 ≡ j = omega arith in
    ap (λ (n : ℕ). block_byte (store (block_address base n)) (k % 4096)) block ∙ ap (block_byte (store (block_address base i))) place

-- the same of any byte
pub byte_split : (store : Store) (base k : ℕ) → byte_at store base k ≡ block_byte (store (block_address base (k / 4096))) (k % 4096)
unfolding byte_at
byte_split store base k = refl

-- a part of a block is a row of bytes
pub part_bytes : (store : Store) (base i place count from : ℕ) → place + count ≤ 4096 → from ≡ 4096 * i + place → block_part (store (block_address base i)) place count ≡ bytes_from store base from count
part_bytes store base i place count from room is =
    let one : List ℕ = block_part (store (block_address base i)) place count in
    let long : length one ≡ count = length-map-range_with_len (block_byte (store (block_address base i))) place count in
    ext_get_or 0 one (bytes_from store base from count) (long ∙ sym (length-bytes_from store base from count)) (λ k within.
    let lt : k < count = omega arith in
    get_or-map-range_with_len (block_byte (store (block_address base i))) place count k (place + k) 0 lt refl
    ∙ sym (get_or-bytes_from store base from count k lt ∙ byte_in store base i (place + k) (from + k) (omega arith) (omega arith)))

-- a row of bytes in two
pub bytes_split : (store : Store) (base from m n : ℕ) → bytes_from store base from m ++ bytes_from store base (from + m) n ≡ bytes_from store base from (m + n)
bytes_split store base from m n =
    let one = bytes_from store base from m in
    let two = bytes_from store base (from + m) n in
    let l1 : length one ≡ m = length-bytes_from store base from m in
    let l2 : length two ≡ n = length-bytes_from store base (from + m) n in
    let long : length (one ++ two) ≡ m + n = length-append one two ∙ omega arith in
    ext_get_or 0 (one ++ two) (bytes_from store base from (m + n)) (long ∙ sym (length-bytes_from store base from (m + n))) (λ k within.
    let lt : k < m + n = omega arith in
    let right : get_or (bytes_from store base from (m + n)) k 0 ≡ byte_at store base (from + k) = get_or-bytes_from store base from (m + n) k lt in
    elim (cases_lt k m) [
      | inl before ↦ get_or_append_left one two 0 k (omega arith) ∙ get_or-bytes_from store base from m k before ∙ sym right
      | inr behind ↦
          (let at : from + m + (k - m) ≡ from + k = omega arith in
          get_or-append_right one two m k 0 l1 behind ∙ get_or-bytes_from store base (from + m) n (k - m) (omega arith) ∙ ap (byte_at store base) at ∙ sym right)
    ])

-- a part of an object's bytes
pub bytes_within : (store : Store) (base size offset count : ℕ) → bytes_from store base offset (min size (offset + count) - offset) ≡ take count (drop offset (bytes_of store base size))
bytes_within store base size offset count =
    let all = bytes_from store base 0 size in
    let end : ℕ = min size (offset + count) in
    let one = bytes_from store base offset (end - offset) in
    let l : length all ≡ size = length-bytes_from store base 0 size in
    let l1 : length one ≡ end - offset = length-bytes_from store base offset (end - offset) in
    let d : length (drop offset all) ≡ length all - offset = length-drop offset all in
    let t : length (take count (drop offset all)) ≡ min count (length (drop offset all)) = length-take count (drop offset all) in
    ext_get_or 0 one (take count (drop offset all)) (omega arith) (λ k within.
    let lt : k < end - offset = omega arith in
    get_or-bytes_from store base offset (end - offset) k lt
    ∙ sym (get_or-take count (drop offset all) k 0 (omega arith) ∙ get_or-drop offset all k 0 ∙ get_or-bytes_of store base size (offset + k) (omega arith)))

-- zeros where no block is
pub zero_part : (place count : ℕ) → replicate count 0 ≡ block_part None place count
zero_part place count =
    let other : List ℕ = block_part None place count in
    let long : length other ≡ count = length-map-range_with_len (block_byte None) place count in
    ext_get_or 0 (replicate count 0) other (length-replicate {A = ℕ} count 0 ∙ sym long) (λ k within.
    let lt : k < count = omega (arith, length-replicate {A = ℕ} count 0) in
    get_or-replicate count k 0 0 lt ∙ sym (get_or-map-range_with_len (block_byte None) place count k (place + k) 0 lt refl))

-- two rows of bytes that are the same, byte by byte
pub bytes_same : (store : Store) (base from count : ℕ) (bytes : List ℕ) → length bytes ≡ count → ((k : ℕ) → k < count → byte_at store base (from + k) ≡ get_or bytes k 0) → bytes_from store base from count ≡ bytes
bytes_same store base from count bytes long each =
    ext_get_or 0 (bytes_from store base from count) bytes (length-bytes_from store base from count ∙ sym long) (λ k within.
    let lt : k < count = omega (arith, length-bytes_from store base from count) in
    get_or-bytes_from store base from count k lt ∙ each k lt)

pub bytes_of_same : (store : Store) (base size : ℕ) (bytes : List ℕ) → length bytes ≡ size → ((k : ℕ) → k < size → byte_at store base k ≡ get_or bytes k 0) → bytes_of store base size ≡ bytes
bytes_of_same store base size bytes long each =
    bytes_same store base 0 size bytes long (λ k within. (let at : 0 + k ≡ k = omega arith in ap (byte_at store base) at ∙ each k within))

-- The bytes of an object are those of its 4,096 data blocks: where two stores have the same there, an object has
-- the same bytes in both.
pub bytes_kept : (s t : Store) (base size : ℕ) → size ≤ 16777216 → ((i : ℕ) → i < 4096 → s (block_address base i) ≡ t (block_address base i)) → bytes_of s base size ≡ bytes_of t base size
bytes_kept s t base size limit same =
    bytes_of_same s base size (bytes_of t base size) (length-bytes_from t base 0 size) (λ k within.
    byte_split s base k ∙ ap (λ (b : Option (List ℕ)). block_byte b (k % 4096)) (same (k / 4096) (omega arith))
    ∙ sym (get_or-bytes_of t base size k within ∙ byte_split t base k))
