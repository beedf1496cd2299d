-- The parts of a record laid over bytes, one behind the other.
use Rattle.std.proofs.Common.{◌≡◌, ℕ, ◌+◌, ◌<◌, List, [], ◌∷◌, ◌++◌, length, get_or, take, drop, refl, sym, ap, ◌∙◌, arith, append_assoc, length-append}
use Rattle.std.specs.List.{flat_map}
use Rattle.std.proofs.lemmas.List.{append-nil, drop_all, drop_at, drop-drop, take_at, take_more}
use Rattle.std.proofs.lemmas.List.Concat.{flat_map-append}

-- A front and the blocks of items are laid, and the rest is as it was.
pub record Laid {A : Type 0} (block : A → List ℕ) (old front : List ℕ) (items : List A) (at : ℕ) (now : List ℕ) : Type 0 where
  pub len : length (front ++ flat_map block items) ≡ at
  pub is : now ≡ (front ++ flat_map block items) ++ drop at old

-- one part more
over : (old done now new part : List ℕ) (at to : ℕ) → length done ≡ at → now ≡ done ++ drop at old → to ≡ at + length part
    → new ≡ take at now ++ part ++ drop (at + length part) now → new ≡ (done ++ part) ++ drop to old
over old done now new part at to len is end laid =
    let n = length part in
    let front : take at now ≡ done = ap (take at) is ∙ take_at done (drop at old) at len in
    let rest : drop at now ≡ drop at old = ap (drop at) is ∙ drop_at done (drop at old) at len in
    let behind : drop (at + n) now ≡ drop to old =
    sym (drop-drop n at now) ∙ ap (drop n) rest ∙ drop-drop n at old ∙ ap (λ (k : ℕ). drop k old) (sym end) in
    laid ∙ ap (λ (x : List ℕ). x ++ part ++ drop (at + n) now) front ∙ ap (λ (x : List ℕ). done ++ part ++ x) behind

pub laid_first : {A : Type 0} (block : A → List ℕ) (old front now : List ℕ) (at : ℕ) → length front ≡ at → now ≡ take 0 old ++ front ++ drop (0 + length front) old → Laid block old front [] at now
laid_first block old front now at len laid = record {
  len = ap length (append-nil front) ∙ len;
  is = over old [] old now front 0 at refl refl (omega (arith, len)) laid ∙ ap (λ (x : List ℕ). x ++ drop at old) (sym (append-nil front));
}

pub laid_more : {A : Type 0} (block : A → List ℕ) (old front now new : List ℕ) (items : List A) (i at to : ℕ) (x : A) → Laid block old front (take i items) at now → i < length items → x ≡ get_or items i x
    → to ≡ at + length (block x) → new ≡ take at now ++ block x ++ drop (at + length (block x)) now → Laid block old front (take (i + 1) items) to new
laid_more {A} block old front now new items i at to x was within is end laid =
    let done = front ++ flat_map block (take i items) in
    let more : flat_map block (take (i + 1) items) ≡ flat_map block (take i items) ++ block x =
    ap (flat_map block) (take_more items i x within ∙ ap (λ (y : A). take i items ++ y ∷ []) (sym is)) ∙ flat_map-append block (take i items) (x ∷ []) ∙ ap (λ (b : List ℕ). flat_map block (take i items) ++ b) (append-nil (block x)) in
    let all : front ++ flat_map block (take (i + 1) items) ≡ done ++ block x = ap (λ (b : List ℕ). front ++ b) more ∙ sym (append_assoc front (flat_map block (take i items)) (block x)) in
    record {
      len = omega (arith, ap length all, length-append done (block x), was.len, end);
      is = over old done now new (block x) at to was.len was.is end laid ∙ ap (λ (b : List ℕ). b ++ drop to old) (sym all);
    }

-- what was laid is the front of what comes next
pub laid_next : {A B : Type 0} (block : A → List ℕ) (other : B → List ℕ) (old front now : List ℕ) (items : List A) (at : ℕ) → Laid block old front items at now → Laid other old (front ++ flat_map block items) [] at now
laid_next block other old front now items at was = record {
  len = ap length (append-nil (front ++ flat_map block items)) ∙ was.len;
  is = was.is ∙ ap (λ (x : List ℕ). x ++ drop at old) (sym (append-nil (front ++ flat_map block items)));
}

-- the last part leaves nothing of the old bytes
pub laid_all : {A : Type 0} (block : A → List ℕ) (old front now new back : List ℕ) (items : List A) (at : ℕ) → Laid block old front items at now → length old ≡ at + length back
    → new ≡ take at now ++ back ++ drop (at + length back) now → new ≡ (front ++ flat_map block items) ++ back
laid_all block old front now new back items at was len laid =
    let done = front ++ flat_map block items in
    over old done now new back at (at + length back) was.len was.is refl laid ∙ ap (λ (x : List ℕ). (done ++ back) ++ x) (drop_all (at + length back) old (omega (arith, len))) ∙ append-nil (done ++ back)
