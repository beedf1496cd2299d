-- Bytes written over a part of others, one part behind the other.
use Rattle.std.proofs.Common.{◌≡◌, ℕ, ◌+◌, ◌-◌, ◌≤◌, List, [], ◌++◌, length, take, drop, replicate, sym, ap, ◌∙◌, arith, append_assoc, length-append}
use Rattle.std.proofs.lemmas.List.{take_at, drop_at, drop-drop, drop-replicate, length-take-le, length-replicate, replicate-append-replicate, take-append-drop, append-nil}
use Rattle.sea_base.specs.Field.{big_endian}
use Rattle.sea_base.proofs.Fields.{length-big_endian}

-- `now` is `old` with x written from `at` on
abbrev pub Overlays : ℕ → List ℕ → List ℕ → List ℕ → Type 0
Overlays at x old now = now ≡ take at old ++ x ++ drop (at + length x) old

pub Overlays-number : (n at value : ℕ) (old now : List ℕ) → now ≡ take at old ++ big_endian n value ++ drop (at + n) old → Overlays at (big_endian n value) old now
Overlays-number n at value old now e =
    e ∙ ap (λ (k : ℕ). take at old ++ big_endian n value ++ drop (at + k) old) (sym (length-big_endian n value))

-- two parts, of which the second begins where the first ends
pub Overlays-then : (at next : ℕ) (x y old mid now : List ℕ) → next ≡ at + length x → next + length y ≤ length old → Overlays at x old mid → Overlays next y mid now → Overlays at (x ++ y) old now
Overlays-then at next x y old mid now ends within first second =
    let front = take at old ++ x in
    let len : length front ≡ next = omega (arith, length-append (take at old) x, length-take-le at old (omega arith)) in
    let rest : drop (at + length x) old ≡ drop next old = ap (λ (k : ℕ). drop k old) (sym ends) in
    let is : mid ≡ front ++ drop next old = first ∙ ap (λ (r : List ℕ). front ++ r) rest in
    let kept : take next mid ≡ front = ap (take next) is ∙ take_at front (drop next old) next len in
    let behind : drop next mid ≡ drop next old = ap (drop next) is ∙ drop_at front (drop next old) next len in
    let left : drop (next + length y) mid ≡ drop (at + length (x ++ y)) old =
    sym (drop-drop (length y) next mid) ∙ ap (drop (length y)) behind ∙ drop-drop (length y) next old ∙ ap (λ (k : ℕ). drop k old) (omega (arith, length-append x y)) in
    second ∙ ap (λ (f : List ℕ). f ++ y ++ drop (next + length y) mid) kept ∙ ap (λ (r : List ℕ). (front ++ y) ++ r) left
    ∙ ap (λ (f : List ℕ). f ++ drop (at + length (x ++ y)) old) (append_assoc (take at old) x y)

-- zeros that stand there count as written
pub Overlays-zeros : (at k n : ℕ) (x old now : List ℕ) → old ≡ replicate n 0 → at + length x + k ≤ n → Overlays at x old now → Overlays at (x ++ replicate k 0) old now
Overlays-zeros at k n x old now zero within written =
    let m = at + length x in
    let len : at + length (x ++ replicate k 0) ≡ m + k = omega (arith, length-append x (replicate k 0), length-replicate {A = ℕ} k 0) in
    let whole : drop m old ≡ replicate (n - m) 0 = ap (drop m) zero ∙ drop-replicate m n 0 in
    let later : drop (m + k) old ≡ replicate (n - (m + k)) 0 = ap (drop (m + k)) zero ∙ drop-replicate (m + k) n 0 in
    let parts : replicate (n - m) 0 ≡ replicate k 0 ++ replicate (n - (m + k)) 0 =
    ap (λ (j : ℕ). replicate j 0) (omega arith) ∙ sym (replicate-append-replicate k (n - (m + k)) 0) in
    let rest : drop m old ≡ replicate k 0 ++ drop (at + length (x ++ replicate k 0)) old =
    whole ∙ parts ∙ ap (λ (r : List ℕ). replicate k 0 ++ r) (sym later ∙ ap (λ (j : ℕ). drop j old) (sym len)) in
    written ∙ ap (λ (r : List ℕ). (take at old ++ x) ++ r) rest
    ∙ sym (append_assoc (take at old ++ x) (replicate k 0) (drop (at + length (x ++ replicate k 0)) old))
    ∙ ap (λ (f : List ℕ). f ++ drop (at + length (x ++ replicate k 0)) old) (append_assoc (take at old) x (replicate k 0))

pub Overlays-nothing : (at : ℕ) (old : List ℕ) → Overlays at [] old old
Overlays-nothing at old =
    sym (take-append-drop at old) ∙ ap (λ (k : ℕ). take at old ++ drop k old) (omega arith) ∙ ap (λ (f : List ℕ). f ++ drop (at + 0) old) (sym (append-nil (take at old)))
