-- A cut where the parts differ least leaves two parts of a good size.
use Rattle.std.proofs.Common.{◌≡◌, ℕ, zero, suc, ◌+◌, ◌*◌, ◌<◌, ◌≤◌, List, [], ◌∷◌, length, take, drop, ap, inl, inr, arith, slice_index_or}
use Rattle.std.proofs.Math.ListN.{drop_of_length-le}
use Rattle.std.proofs.lemmas.Bool.{cases_lt}
use Rattle.std.specs.List.{AllByRecursion}
use Rattle.sea_node.specs.Entries.{Entry, entry_size, size}
use Rattle.sea_node.proofs.Nodes.{size-cons, size-cut}
use Rattle.sea_tree.specs.Cut.{gap, difference, IsCut}

-- Somewhere in the entries twice what stands before is as near to the whole as the largest entry is big.
pub near_half : (most total acc : ℕ) (entries : List Entry) → AllByRecursion (λ e. entry_size e ≤ most) entries → 2 * acc ≤ total → total ≤ 2 * (acc + size entries)
    → (k : ℕ) × (k ≤ length entries) × (gap (2 * (acc + size (take k entries))) total ≤ most)
near_half most total acc [] each below above = (0, omega arith, omega arith)
near_half most total acc (e ∷ entries) each below above =
    elim (cases_lt total (2 * (acc + entry_size e))) [
      | inl lt ↦ elim (cases_lt (2 * acc + most) total) [
        | inl far ↦ (1, omega arith, let is : size (take 1 (e ∷ entries)) ≡ entry_size e + size (take 0 entries) = size-cons e (take 0 entries) in omega (arith, is, each.0))
        | inr close ↦ (0, omega arith, omega arith)
      ]
      | inr ge ↦
          let whole : size (e ∷ entries) ≡ entry_size e + size entries = size-cons e entries in
          let rest = near_half most total (acc + entry_size e) entries each.1 (omega arith) (omega arith) in
          (suc rest.0, omega (arith, rest.1), let is : size (take (suc rest.0) (e ∷ entries)) ≡ entry_size e + size (take rest.0 entries) = size-cons e (take rest.0 entries) in omega (arith, is, rest.2))
    ]

-- one entry more on the left
pub size-take_more : (entries : List Entry) (k : ℕ) (entry : Entry) → k < length entries → entry ≡ slice_index_or entries k entry → size (take (suc k) entries) ≡ size (take k entries) + entry_size entry
size-take_more [] k entry lt is = absurd (omega arith)
size-take_more (e ∷ entries) zero entry lt is =
    let one : size (take 1 (e ∷ entries)) ≡ entry_size e + size (take 0 entries) = size-cons e (take 0 entries) in
    let same : entry_size entry ≡ entry_size e = ap (λ (x : Entry). entry_size x) is in
    omega (arith, one, same)
size-take_more (e ∷ entries) (suc k) entry lt is =
    let one : size (take (suc (suc k)) (e ∷ entries)) ≡ entry_size e + size (take (suc k) entries) = size-cons e (take (suc k) entries) in
    let two : size (take (suc k) (e ∷ entries)) ≡ entry_size e + size (take k entries) = size-cons e (take k entries) in
    let more : size (take (suc k) entries) ≡ size (take k entries) + entry_size entry = size-take_more entries k entry (omega arith) is in
    omega (arith, one, two, more)

-- the least difference before a place, and the first cut that has it; none before the first place
pub record Best (entries : List Entry) (i least cut : ℕ) : Type 0 where
  pub before : cut < i
  pub best : 1 < i → (0 < cut) × (least ≡ difference entries cut)
  pub lowest : (j : ℕ) → 0 < j → j < i → least ≤ difference entries j
  pub first : (j : ℕ) → 0 < j → j < cut → least < difference entries j

pub Best-better : (entries : List Entry) (i least cut d : ℕ) → 0 < i → Best entries i least cut → d ≡ difference entries i → d < least → Best entries (i + 1) d i
Best-better entries i least cut d some was is lt = record {
  before = omega arith;
  best = λ _. (some, is);
  lowest = λ j p q. elim (cases_lt j i) [ inl below ↦ omega (arith, was.lowest j p below) | inr above ↦ (let same : j ≡ i = omega arith in omega (arith, ap (difference entries) same)) ];
  first = λ j p q. omega (arith, was.lowest j p q);
}

pub Best-worse : (entries : List Entry) (i least cut d : ℕ) → 0 < i → Best entries i least cut → d ≡ difference entries i → least ≤ d → (i ≡ 1 → d < least) → Best entries (i + 1) least cut
Best-worse entries i least cut d some was is le one = record {
  before = omega (arith, was.before);
  best = λ _. elim (cases_lt 1 i) [ inl more ↦ was.best more | inr first ↦ absurd (omega (arith, one (omega arith))) ];
  lowest = λ j p q. elim (cases_lt j i) [ inl below ↦ was.lowest j p below | inr above ↦ (let same : j ≡ i = omega arith in omega (arith, ap (difference entries) same)) ];
  first = was.first;
}

-- the cut with the least difference is as near to the middle as the largest entry is big
pub cut_is_near : (most : ℕ) (entries : List Entry) (k : ℕ) → AllByRecursion (λ e. entry_size e ≤ most) entries → most < size entries → IsCut entries k → gap (2 * size (take k entries)) (size entries) ≤ most
cut_is_near most entries k each big cut =
    let half = near_half most (size entries) 0 entries each (omega arith) (omega arith) in
    let parts : size (take half.0 entries) + size (drop half.0 entries) ≡ size entries = size-cut half.0 entries in
    let here : size (take k entries) + size (drop k entries) ≡ size entries = size-cut k entries in
    let some : 0 < half.0 = elim (cases_lt 0 half.0) [
      | inl more ↦ more
      | inr none ↦ (let zero_is : half.0 ≡ 0 = omega arith in let nothing : size (take half.0 entries) ≡ 0 = ap (λ (n : ℕ). size (take n entries)) zero_is in absurd (omega (arith, nothing, half.2, big)))
    ] in
    let rest : half.0 < length entries = elim (cases_lt half.0 (length entries)) [
      | inl less ↦ less
      | inr all ↦ (let nothing : size (drop half.0 entries) ≡ 0 = ap (λ (es : List Entry). size es) (drop_of_length-le entries all) in absurd (omega (arith, nothing, half.2, big, parts)))
    ] in
    omega (arith, cut.least half.0 some rest, half.2, parts, here)

-- So of entries that are too many for a node, and not by more than one entry, each part has room and is filled.
pub cut_parts : (entries : List Entry) (k : ℕ) → AllByRecursion (λ e. entry_size e ≤ 1091) entries → 4064 < size entries → size entries ≤ 5155 → IsCut entries k
    → (1016 ≤ size (take k entries)) × (size (take k entries) ≤ 4064) × (1016 ≤ size (drop k entries)) × (size (drop k entries) ≤ 4064)
cut_parts entries k each over most cut =
    let near = cut_is_near 1091 entries k each (omega arith) cut in
    let here : size (take k entries) + size (drop k entries) ≡ size entries = size-cut k entries in
    (omega (arith, near, here), omega (arith, near, here), omega (arith, near, here), omega (arith, near, here))
