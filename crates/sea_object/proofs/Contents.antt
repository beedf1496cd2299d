-- An object's bytes changed in place, where bytes are left over behind them.
use Rattle.std.proofs.Common.{◌≡◌, ℕ, ◌+◌, ◌-◌, ◌≤◌, List, [], ◌++◌, length, take, drop, replicate, sym, ap, ◌∙◌, arith, inl, inr, append_assoc, length-append, length-take}
use Rattle.std.specs.Prelude.{min, max}
use Rattle.std.proofs.lemmas.Bool.{cases_lt}
use Rattle.std.proofs.lemmas.List.{append-nil, take_all, drop_all, take_at, take-take, drop-take, length-replicate}
use Rattle.std.proofs.Math.Seq.{take-append-add}
use Rattle.sea_object.specs.Answer.{written, resized}
use Rattle.sea_object.specs.declared.patch.Saved.{Saved}
use Rattle.sea_object.specs.Undo.{Fits, restored}
use Rattle.sea_object.proofs.Writes.{written_within, length-written}

cut_behind : (p r : List ℕ) (m k : ℕ) → m ≡ length p + k → take m (p ++ r) ≡ p ++ take k r
cut_behind p r m k is = ap (λ (n : ℕ). take n (p ++ r)) is ∙ take-append-add p r k

-- what is left of the front behind an offset
rest_cut : (end size : ℕ) (old : List ℕ) → drop end (take size old) ≡ take (size - end) (drop end old)
rest_cut end size old = elim (cases_lt size end) [
  | inl past ↦
      let none : size - end ≡ 0 = omega arith in
      drop_all end (take size old) (omega (arith, length-take size old)) ∙ ap (λ (k : ℕ). take k (drop end old)) (sym none)
  | inr within ↦
      let parts : size ≡ end + (size - end) = omega arith in
      ap (λ (k : ℕ). drop end (take k old)) parts ∙ drop-take end (size - end) old
]

-- a write that begins within the size
pub content_within : (offset size m : ℕ) (new old : List ℕ) → offset ≤ size → size ≤ length old → m ≡ max size (offset + length new) → take m (written offset new old) ≡ written offset new (take size old)
content_within offset size m new old le long is =
    let end : ℕ = offset + length new in
    let front = take offset old in
    let f : length front ≡ min offset (length old) = length-take offset old in
    let s : length (take size old) ≡ min size (length old) = length-take size old in
    let p : length (front ++ new) ≡ length front + length new = length-append front new in
    ap (take m) (written_within offset new old (omega arith))
    ∙ cut_behind (front ++ new) (drop end old) m (size - end) (omega arith)
    ∙ sym (written_within offset new (take size old) (omega arith)
    ∙ ap (λ (t : List ℕ). t ++ new ++ drop end (take size old)) (take-take offset size old le)
    ∙ ap (λ (t : List ℕ). front ++ new ++ t) (rest_cut end size old))

-- a write that begins past the size, with the zeros before it
pub content_past : (offset size m : ℕ) (new old : List ℕ) → size ≤ offset → size ≤ length old → m ≡ max size (size + length (replicate (offset - size) 0 ++ new)) → take m (written size (replicate (offset - size) 0 ++ new) old) ≡ written offset new (take size old)
content_past offset size m new old le long is =
    let zeros : List ℕ = replicate (offset - size) 0 in
    let filled : List ℕ = zeros ++ new in
    let front = take size old in
    let f : length front ≡ min size (length old) = length-take size old in
    let z : length zeros ≡ offset - size = length-replicate (offset - size) 0 in
    let d : length filled ≡ length zeros + length new = length-append zeros new in
    let p : length (front ++ filled) ≡ length front + length filled = length-append front filled in
    let q : length (front ++ zeros) ≡ length front + length zeros = length-append front zeros in
    let gap : offset - length front ≡ offset - size = omega arith in
    ap (take m) (written_within size filled old long)
    ∙ take_at (front ++ filled) (drop (size + length filled) old) m (omega arith)
    ∙ sym (append_assoc front zeros new)
    ∙ sym (ap (λ (k : ℕ). take offset (front ++ replicate k 0) ++ new ++ drop (offset + length new) front) gap
    ∙ ap (λ (t : List ℕ). t ++ new ++ drop (offset + length new) front) (take_all offset (front ++ zeros) (omega arith))
    ∙ ap (λ (t : List ℕ). front ++ zeros ++ new ++ t) (drop_all (offset + length new) front (omega arith))
    ∙ append-nil (front ++ zeros ++ new))

-- bytes filled with zeros to a size
pub grown : (size old : ℕ) (bytes : List ℕ) → length bytes ≡ old → old ≤ size → written old (replicate (size - old) 0) bytes ≡ resized size bytes
grown size old bytes long le =
    let zeros : List ℕ = replicate (size - old) 0 in
    let z : length zeros ≡ size - old = length-replicate (size - old) 0 in
    let gap : size - old ≡ size - length bytes = omega arith in
    written_within old zeros bytes (omega arith)
    ∙ ap (λ (t : List ℕ). t ++ zeros ++ drop (old + length zeros) bytes) (take_all old bytes (omega arith))
    ∙ ap (λ (t : List ℕ). bytes ++ zeros ++ t) (drop_all (old + length zeros) bytes (omega arith))
    ∙ append-nil (bytes ++ zeros)
    ∙ ap (λ (t : List ℕ). t ++ zeros) (sym (take_all size bytes (omega arith)))
    ∙ ap (λ (k : ℕ). take size bytes ++ replicate k 0) gap

-- bytes cut to a size
pub shrunk : (size old : ℕ) (bytes : List ℕ) → size ≤ old → old ≤ length bytes → take size bytes ≡ resized size (take old bytes)
shrunk size old bytes le long =
    let l : length (take old bytes) ≡ min old (length bytes) = length-take old bytes in
    let none : size - length (take old bytes) ≡ 0 = omega arith in
    sym (ap (λ (k : ℕ). take size (take old bytes) ++ replicate k 0) none ∙ append-nil (take size (take old bytes)) ∙ take-take size old bytes le)

-- what is put back is long enough
pub length-restored : (saved : Saved) (bytes : List ℕ) → Fits saved bytes → saved.size ≤ length (restored saved bytes)
length-restored saved bytes fits =
    let t : length (take saved.size bytes) ≡ min saved.size (length bytes) = length-take saved.size bytes in
    let w = length-written saved.offset saved.bytes (take saved.size bytes) in
    let a = fits.0 in
    let b = fits.1 in
    omega arith
