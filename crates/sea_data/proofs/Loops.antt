-- One block more, in the loops of the calls.
use Rattle.std.proofs.Common.{◌≡◌, inl, inr, ℕ, suc, ◌+◌, ◌-◌, ◌*◌, ◌/◌, ◌<◌, ◌≤◌, List, [], ◌++◌, length, take, drop, replicate, Option, Some, None, refl, sym, ap, subst, ◌∙◌, arith}
use Rattle.std.specs.Prelude.{min, slice_range}
use Rattle.std.proofs.lemmas.Bool.{cases_eq}
use Rattle.std.proofs.lemmas.List.{nil_from_length, take-replicate, drop-replicate, ext_get_or, take_all, length-append, length-replicate, length-take, length-drop, get_or-take, get_or-drop}
use Rattle.std.proofs.lemmas.List.FromFn.{length-map-range_with_len, get_or-map-range_with_len}
use Rattle.std.proofs.lemmas.Slice.{between_is}
use Rattle.sea_base.specs.Space.{Store, Seen, Agrees, IsKnown, IsSound, OnlyRead, ReadsAtMost, laid, Places}
use Rattle.sea_base.proofs.Spaces.{laid-only_read, laid_known}
use Rattle.sea_object.specs.Op.{blocks_touched}
use Rattle.sea_data.specs.Bytes.{block_address, block_byte, block_part, bytes_from}
use Rattle.sea_data.specs.Ranges.{Touches, ReadsBlocks}
use Rattle.sea_data.specs.Steps.{Does, Takes, among_zeros, part_of, part_steps, drop_steps}
use Rattle.sea_data.specs.Steps.Edit.{Over}
use Rattle.sea_data.proofs.Bytes.{part_bytes, bytes_split, length-bytes_from}

-- a part of a block that is there
pub slice_part : (block : List ℕ) (place count : ℕ) → place + count ≤ length block → slice_range block place (place + count) ≡ block_part (Some block) place count
slice_part block place count fits =
    let one : List ℕ = drop place (take (place + count) block) in
    let other : List ℕ = block_part (Some block) place count in
    let t : length (take (place + count) block) ≡ min (place + count) (length block) = length-take (place + count) block in
    let l : length one ≡ length (take (place + count) block) - place = length-drop place (take (place + count) block) in
    let long : length other ≡ count = length-map-range_with_len (block_byte (Some block)) place count in
    between_is block place (place + count)
    ∙ ext_get_or 0 one other (omega arith) (λ k within.
    let lt : k < count = omega arith in
    get_or-drop place (take (place + count) block) k 0
    ∙ get_or-take (place + count) block (place + k) 0 (omega arith)
    ∙ sym (get_or-map-range_with_len (block_byte (Some block)) place count k (place + k) 0 lt refl))

-- what was read so far, and the part of one block more
pub read_more : (old new : Seen) (base from to i at place count : ℕ) (bytes more : List ℕ) → OnlyRead old new → IsSound new → IsKnown new at
    → at ≡ block_address base i → place ≡ from - 4096 * i → count ≡ min (4096 * (i + 1) - from) (to - from) - (4096 * i - from) → from < to → 4096 * i < to → from < 4096 * (i + 1)
    → more ≡ bytes ++ block_part (new.view at) place count
    → (store : Store) → Agrees store new → bytes ≡ bytes_from (laid old store) base from (min (4096 * i) to - from)
    → more ≡ bytes_from (laid old store) base from (min (4096 * (i + 1)) to - from)
read_more old new base from to i at place count bytes more reads sound known is place_is count_is order begins ends pushed store agrees was =
    let m : ℕ = min (4096 * i) to - from in
    let shown : laid old store (block_address base i) ≡ new.view at =
    ap (laid old store) (sym is) ∙ sym (laid-only_read reads store at) ∙ laid_known new store sound agrees at known in
    let part : block_part (new.view at) place count ≡ bytes_from (laid old store) base (from + (min (4096 * i) to - from)) count =
    ap (λ (b : Option (List ℕ)). block_part b place count) (sym shown) ∙ part_bytes (laid old store) base i place count (from + (min (4096 * i) to - from)) (omega arith) (omega arith) in
    let whole : (min (4096 * i) to - from) + count ≡ min (4096 * (i + 1)) to - from = omega arith in
    pushed
    ∙ ap (λ (bs : List ℕ). bs ++ block_part (new.view at) place count) was
    ∙ ap (λ (bs : List ℕ). bytes_from (laid old store) base from (min (4096 * i) to - from) ++ bs) part
    ∙ bytes_split (laid old store) base from (min (4096 * i) to - from) count
    ∙ ap (bytes_from (laid old store) base from) whole

pub reads_more : (old between new : Seen) (base from to i at : ℕ) → at ≡ block_address base i → Touches from to i → ReadsAtMost at between new → ReadsBlocks base (Touches from to) old between → ReadsBlocks base (Touches from to) old new
reads_more old between new base from to i at is touches r was q =
    elim (cases_eq q at) [
      | inl same ↦ inr (i, touches, same ∙ is)
      | inr other ↦ elim (was q) [ inl before ↦ inl (r.others q other ∙ before) | inr here ↦ inr here ]
    ]

-- edits with the places that the code has for them
pub part_taken : (base offset i : ℕ) (bytes : List ℕ) (at place : ℕ) (part : List ℕ) (old new : Seen) → at ≡ block_address base i → place ≡ offset - 4096 * i → part ≡ part_of offset bytes i → Takes at (Over place part) old new → Takes (block_address base i) (Over (offset - 4096 * i) (part_of offset bytes i)) old new
part_taken base offset i bytes at place part old new at_is place_is part_is take =
    subst (λ (p : List ℕ). Takes (block_address base i) (Over (offset - 4096 * i) p) old new) part_is
    (subst (λ (n : ℕ). Takes (block_address base i) (Over n part) old new) place_is
    (subst (λ (a : ℕ). Takes a (Over place part) old new) at_is take))

pub parts_more : (base offset i : ℕ) (bytes : List ℕ) (old between new : Seen) → offset / 4096 ≤ i → Does (part_steps base offset bytes (i - offset / 4096)) old between → Takes (block_address base i) (Over (offset - 4096 * i) (part_of offset bytes i)) between new → Does (part_steps base offset bytes (i + 1 - offset / 4096)) old new
parts_more base offset i bytes old between new from does take =
    let at : i ≡ offset / 4096 + (i - offset / 4096) = omega arith in
    let count : suc (i - offset / 4096) ≡ i + 1 - offset / 4096 = omega arith in
    subst (λ (n : ℕ). Does (part_steps base offset bytes n) old new) count
    (between, does, subst (λ (n : ℕ). Takes (block_address base n) (Over (offset - 4096 * n) (part_of offset bytes n)) between new) at take)

pub parts_none : (base offset : ℕ) (bytes : List ℕ) (seen : Seen) → Does (part_steps base offset bytes (offset / 4096 - offset / 4096)) seen seen
parts_none base offset bytes seen =
    let none : 0 ≡ offset / 4096 - offset / 4096 = omega arith in
    subst (λ (n : ℕ). Does (part_steps base offset bytes n) seen seen) none refl

-- all of them
pub parts_all : (base offset i count : ℕ) (bytes : List ℕ) (old new : Seen) → i ≡ (offset + count - 1) / 4096 + 1 → 1 ≤ count → Does (part_steps base offset bytes (i - offset / 4096)) old new → Does (part_steps base offset bytes (blocks_touched offset count)) old new
parts_all base offset i count bytes old new is some does =
    let all : i - offset / 4096 ≡ blocks_touched offset count = omega arith in
    subst (λ (n : ℕ). Does (part_steps base offset bytes n) old new) all does

pub drops_more : (base first i at : ℕ) (old between new : Seen) → first ≤ i → at ≡ block_address base i → Does (drop_steps base first (i - first)) old between → Places at None between new → Does (drop_steps base first (i + 1 - first)) old new
drops_more base first i at old between new from is does gone =
    let here : i ≡ first + (i - first) = omega arith in
    let count : suc (i - first) ≡ i + 1 - first = omega arith in
    subst (λ (n : ℕ). Does (drop_steps base first n) old new) count
    (between, does, subst (λ (n : ℕ). Places (block_address base n) None between new) here (subst (λ (a : ℕ). Places a None between new) is gone))

pub drops_none : (base first : ℕ) (seen : Seen) → Does (drop_steps base first (first - first)) seen seen
drops_none base first seen =
    let none : 0 ≡ first - first = omega arith in
    subst (λ (n : ℕ). Does (drop_steps base first n) seen seen) none refl

-- bytes behind zeros, filled with zeros to a block
pub filled : (place : ℕ) (bytes made : List ℕ) → made ≡ replicate place 0 ++ bytes → place + length bytes ≤ 4096 → take 4096 made ++ replicate (4096 - length made) 0 ≡ among_zeros place bytes
filled place bytes made is room =
    let l : length made ≡ length (replicate {A = ℕ} place 0 ++ bytes) = ap length is in
    let a : length (replicate {A = ℕ} place 0 ++ bytes) ≡ length (replicate {A = ℕ} place 0) + length bytes = length-append (replicate place 0) bytes in
    let z : length (replicate {A = ℕ} place 0) ≡ place = length-replicate {A = ℕ} place 0 in
    let rest : 4096 - length made ≡ 4096 - (place + length bytes) = omega arith in
    ap (λ (bs : List ℕ). bs ++ replicate (4096 - length made) 0) (take_all 4096 made (omega arith) ∙ is)
    ∙ ap (λ (n : ℕ). replicate place 0 ++ bytes ++ replicate n 0) rest

-- a part of zeros is so many zeros
pub zeros_part : (count from to n : ℕ) → to ≤ count → to - from ≤ n → take (to - from) (replicate {A = ℕ} n 0) ≡ slice_range (replicate {A = ℕ} count 0) from to
zeros_part count from to n fits few =
    take-replicate (to - from) n 0 few
    ∙ sym (between_is (replicate {A = ℕ} count 0) from to
    ∙ ap (drop from) (take-replicate to count 0 fits)
    ∙ drop-replicate from to 0)

pub zeros_part_of : (offset i count n from to : ℕ) (source : List ℕ) → source ≡ replicate n 0 → from ≡ 4096 * i - offset → to ≡ min (4096 * (i + 1) - offset) count → to ≤ count → to - from ≤ n → take (to - from) source ≡ part_of offset (replicate count 0) i
zeros_part_of offset i count n from to source is from_is to_is fits few =
    let long : count ≡ length (replicate {A = ℕ} count 0) = sym (length-replicate {A = ℕ} count 0) in
    ap (take (to - from)) is
    ∙ zeros_part count from to n fits few
    ∙ ap (λ (k : ℕ). slice_range (replicate {A = ℕ} count 0) k to) from_is
    ∙ ap (slice_range (replicate {A = ℕ} count 0) (4096 * i - offset)) (to_is ∙ ap (min (4096 * (i + 1) - offset)) long)

-- nothing was read
pub none_read : (store : Store) (base from count : ℕ) → count ≡ 0 → [] ≡ bytes_from store base from count
none_read store base from count none = sym (nil_from_length (bytes_from store base from count) (length-bytes_from store base from count ∙ none))
