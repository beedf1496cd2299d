-- Bytes written in place, and taken back.
use Rattle.std.proofs.Common.{◌≡◌, ℕ, ◌+◌, ◌-◌, ◌≤◌, ◌⊎◌, List, ◌++◌, length, take, drop, replicate, sym, ap, ◌∙◌, arith, inl, inr, append_assoc, length-append, length-drop, length-take}
use Rattle.std.specs.Prelude.{min}
use Rattle.std.proofs.lemmas.Bool.{cases_lt}
use Rattle.std.proofs.lemmas.List.{append-nil, take_all, drop_all, take-append-le, take-take, take-append-drop, drop-drop, drop_min, replicate-append-replicate, length-replicate, drop_at}
use Rattle.sea_object.specs.Answer.{written}

zeros_split : (k m : ℕ) → k ≤ m → replicate {A = ℕ} m 0 ≡ replicate k 0 ++ replicate (m - k) 0
zeros_split k m le =
    let parts : k + (m - k) ≡ m = omega arith in
    sym (replicate-append-replicate k (m - k) 0 ∙ ap (λ (n : ℕ). replicate n 0) parts)

-- zeros past the offset do not show before it
padded : (offset m : ℕ) (old : List ℕ) → offset ≤ length old + m → take offset (old ++ replicate m 0) ≡ take offset (old ++ replicate (offset - length old) 0)
padded offset m old le =
    let k : ℕ = offset - length old in
    ap (λ (z : List ℕ). take offset (old ++ z)) (zeros_split k m (omega arith))
    ∙ ap (take offset) (sym (append_assoc old (replicate k 0) (replicate (m - k) 0)))
    ∙ take-append-le offset (old ++ replicate k 0) (replicate (m - k) 0) (omega (arith, length-append old (replicate k 0), length-replicate {A = ℕ} k 0))

-- where the old bytes reach the offset, there are no zeros
pub written_within : (offset : ℕ) (new old : List ℕ) → offset ≤ length old → written offset new old ≡ take offset old ++ new ++ drop (offset + length new) old
written_within offset new old le =
    ap (λ (t : List ℕ). t ++ new ++ drop (offset + length new) old) (take-append-le offset old (replicate (offset - length old) 0) le)

-- zeros up to the end do not show past it
grown_rest : (end n : ℕ) (old : List ℕ) → length old ≤ n → (n ≤ length old) ⊎ (n ≤ end) → drop end (old ++ replicate (n - length old) 0) ≡ drop end old
grown_rest end n old le (inl fits) =
    let none : n - length old ≡ 0 = omega arith in
    ap (λ (k : ℕ). drop end (old ++ replicate k 0)) none ∙ ap (drop end) (append-nil old)
grown_rest end n old le (inr past) =
    drop_all end (old ++ replicate (n - length old) 0) (omega (arith, length-append old (replicate (n - length old) 0), length-replicate {A = ℕ} (n - length old) 0))
    ∙ sym (drop_all end old (omega arith))

-- bytes filled up to where the new ones end, and overwritten there
pub written_grown : (offset size n : ℕ) (new old : List ℕ) → size ≡ length old → n ≡ size + (offset + length new - size) → written offset new (take n old ++ replicate (n - size) 0) ≡ written offset new old
written_grown offset size n new old counted is =
    let end = offset + length new in
    let full : List ℕ = old ++ replicate (n - length old) 0 in
    let long : length full ≡ n = length-append old (replicate (n - length old) 0) ∙ omega (arith, length-replicate {A = ℕ} (n - length old) 0) in
    let exact : (n ≤ length old) ⊎ (n ≤ end) = elim (cases_lt (length old) end) [ inl grows ↦ inr (omega arith) | inr within ↦ inl (omega arith) ] in
    ap (λ (t : List ℕ). written offset new (t ++ replicate (n - size) 0)) (take_all n old (omega arith))
    ∙ ap (λ (k : ℕ). written offset new (old ++ replicate (n - k) 0)) counted
    ∙ written_within offset new full (omega arith)
    ∙ ap (λ (t : List ℕ). t ++ new ++ drop end full) (padded offset (n - length old) old (omega arith))
    ∙ ap (λ (t : List ℕ). take offset (old ++ replicate (offset - length old) 0) ++ new ++ t) (grown_rest end n old (omega arith) exact)

-- what comes before the new bytes
before : ℕ → List ℕ → List ℕ
before offset old = take offset (old ++ replicate (offset - length old) 0)

length-before : (offset : ℕ) (old : List ℕ) → length (before offset old) ≡ offset
unfolding before
length-before offset old =
    length-take offset (old ++ replicate (offset - length old) 0) ∙ omega (arith, length-append old (replicate (offset - length old) 0), length-replicate {A = ℕ} (offset - length old) 0)

pub length-written : (offset : ℕ) (new old : List ℕ) → length (written offset new old) ≡ offset + length new + (length old - (offset + length new))
unfolding before
length-written offset new old =
    let b : length (before offset old) ≡ offset = length-before offset old in
    let r = length-drop (offset + length new) old in
    let two = length-append (before offset old) new in
    length-append (before offset old ++ new) (drop (offset + length new) old) ∙ omega arith

-- what a write saves fits what it leaves
saved_fits : (offset from : ℕ) (new old : List ℕ) → from ≡ min offset (length old) → (from + length (take (length new) (drop offset old)) ≤ length old) × (length old ≤ length (written offset new old))
saved_fits offset from new old is =
    let d = length-drop offset old in
    let t = length-take (length new) (drop offset old) in
    let w = length-written offset new old in
    (omega arith, omega arith)

before_kept : (offset from : ℕ) (new old : List ℕ) → from ≤ offset → from ≤ length old → take from (take (length old) (written offset new old)) ≡ take from old
unfolding before
before_kept offset from new old early short =
    let rest = drop (offset + length new) old in
    let b : length (before offset old) ≡ offset = length-before offset old in
    take-take from (length old) (written offset new old) short
    ∙ ap (take from) (append_assoc (before offset old) new rest)
    ∙ take-append-le from (before offset old) (new ++ rest) (omega arith)
    ∙ take-take from offset (old ++ replicate (offset - length old) 0) early
    ∙ take-append-le from old (replicate (offset - length old) 0) short

rest_kept : (offset to : ℕ) (new old : List ℕ) → ((offset + length new ≤ length old) × (to ≡ offset + length new)) ⊎ (length old ≤ to) → drop to (take (length old) (written offset new old)) ≡ drop to old
unfolding before
rest_kept offset to new old (inl within) =
    let rest = drop to old in
    let b : length (before offset old) ≡ offset = length-before offset old in
    let w = length-written offset new old in
    ap (drop to) (take_all (length old) (written offset new old) (omega arith) ∙ ap (λ (n : ℕ). before offset old ++ new ++ drop n old) (sym within.1))
    ∙ drop_at (before offset old ++ new) rest to (length-append (before offset old) new ∙ omega arith)
rest_kept offset to new old (inr past) =
    drop_all to (take (length old) (written offset new old)) (omega (arith, length-take (length old) (written offset new old))) ∙ sym (drop_all to old past)

-- bytes put back where they stood
put_back : (from n : ℕ) (old : List ℕ) → take from old ++ take n (drop from old) ++ drop (from + length (take n (drop from old))) old ≡ old
put_back from n old =
    let part = drop from old in
    ap (λ (r : List ℕ). take from old ++ take n part ++ r) (sym (drop-drop (length (take n part)) from old) ∙ ap (λ (k : ℕ). drop k part) (length-take n part) ∙ drop_min n part)
    ∙ append_assoc (take from old) (take n part) (drop n part)
    ∙ ap (λ (r : List ℕ). take from old ++ r) (take-append-drop n part)
    ∙ take-append-drop from old

-- what a write saves takes it back
restored : (offset from : ℕ) (new old : List ℕ) → from ≡ min offset (length old) → written from (take (length new) (drop offset old)) (take (length old) (written offset new old)) ≡ old
restored offset from new old is =
    let saved = take (length new) (drop offset old) in
    let cut = take (length old) (written offset new old) in
    let w = length-written offset new old in
    let c = length-take (length old) (written offset new old) in
    let d = length-drop offset old in
    let t = length-take (length new) (drop offset old) in
    let end : ((offset + length new ≤ length old) × (from + length saved ≡ offset + length new)) ⊎ (length old ≤ from + length saved) =
    elim (cases_lt (length old) (offset + length new)) [ inl past ↦ inr (omega arith) | inr within ↦ inl (within, omega arith) ] in
    written_within from saved cut (omega arith)
    ∙ ap (λ (r : List ℕ). r ++ saved ++ drop (from + length saved) cut) (before_kept offset from new old (omega arith) (omega arith))
    ∙ ap (λ (r : List ℕ). take from old ++ saved ++ r) (rest_kept offset (from + length saved) new old end)
    ∙ ap (λ (s : List ℕ). take from old ++ s ++ drop (from + length s) old) (ap (take (length new)) (sym (drop_min offset old) ∙ ap (λ (k : ℕ). drop k old) (sym is)))
    ∙ put_back from (length new) old

-- what a write saves takes it back, and fits what the write leaves
pub restored_written : (offset from size : ℕ) (new old saved now : List ℕ) → size ≡ length old → from ≡ min offset size → saved ≡ take (length new) (drop offset old) → now ≡ written offset new old → ((from + length saved ≤ size) × (size ≤ length now)) × (written from saved (take size now) ≡ old)
restored_written offset from size new old saved now counted is kept after =
    let l : length saved ≡ length (take (length new) (drop offset old)) = ap length kept in
    let n : length now ≡ length (written offset new old) = ap length after in
    let fits = saved_fits offset from new old (is ∙ ap (min offset) counted) in
    let back : written from saved (take size now) ≡ written from (take (length new) (drop offset old)) (take (length old) (written offset new old)) =
    ap (λ (s : List ℕ). written from s (take size now)) kept ∙ ap (λ (k : ℕ). written from (take (length new) (drop offset old)) (take k now)) counted ∙ ap (λ (t : List ℕ). written from (take (length new) (drop offset old)) (take (length old) t)) after in
    ((omega arith, omega arith), back ∙ restored offset from new old (is ∙ ap (min offset) counted))
