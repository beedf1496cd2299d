-- The blocks of a record's payload, while they are read.
use Rattle.std.proofs.Common.{◌≡◌, ℕ, ◌+◌, ◌*◌, ◌≤◌, List, [], ◌∷◌, ◌++◌, length, take, drop, refl, sym, ap, subst, ◌∙◌, arith, append_assoc, take-append-drop}
use Rattle.std.specs.List.{All, flat_map}
use Rattle.std.proofs.lemmas.List.{append-nil, length-drop, length-take-le}
use Rattle.std.proofs.lemmas.List.Concat.{flat_map-append}
use Rattle.std.proofs.lemmas.List.Elements.{All-nil, All-push}

-- blocks were read, and the rest is left
pub record Cut {A : Type 0} (block : A → List ℕ) (bytes : List ℕ) (items : List A) (rest : List ℕ) : Type 0 where
  pub blocks : All (λ x. length (block x) ≡ 4096) items
  pub is : flat_map block items ++ rest ≡ bytes

pub cut_none : {A : Type 0} (block : A → List ℕ) (bytes : List ℕ) (items : List A) → items ≡ [] → Cut block bytes items bytes
cut_none {A} block bytes items e =
    subst (λ (xs : List A). Cut block bytes xs bytes) (sym e) (record { blocks = All-nil (λ x. length (block x) ≡ 4096); is = refl })

more : {A : Type 0} (block : A → List ℕ) (bytes rest : List ℕ) (items : List A) (x : A) → Cut block bytes items rest → 4096 ≤ length rest → block x ≡ take 4096 rest → Cut block bytes (items ++ x ∷ []) (drop 4096 rest)
more {A} block bytes rest items x cut long e = record {
  blocks = All-push (λ y. length (block y) ≡ 4096) items x cut.blocks (ap length e ∙ length-take-le 4096 rest long);
  is = ap (λ (b : List ℕ). b ++ drop 4096 rest) (flat_map-append block items (x ∷ []) ∙ ap (λ (b : List ℕ). flat_map block items ++ b) (append-nil (block x))) ∙ append_assoc (flat_map block items) (block x) (drop 4096 rest)
      ∙ ap (λ (b : List ℕ). flat_map block items ++ b) (ap (λ (b : List ℕ). b ++ drop 4096 rest) e ∙ take-append-drop 4096 rest) ∙ cut.is;
}

pub cut_more : {A : Type 0} (block : A → List ℕ) (bytes rest behind : List ℕ) (items later : List A) (x : A) → later ≡ items ++ x ∷ [] → Cut block bytes items rest → 4096 ≤ length rest → block x ≡ take 4096 rest → behind ≡ drop 4096 rest → Cut block bytes later behind
cut_more {A} block bytes rest behind items later x e cut long is left =
    subst (λ (xs : List A). Cut block bytes xs behind) (sym e) (subst (λ (r : List ℕ). Cut block bytes (items ++ x ∷ []) r) (sym left) (more block bytes rest items x cut long is))

pub left_more : (rest behind : List ℕ) (i n : ℕ) → behind ≡ drop 4096 rest → 4096 ≤ length rest → length rest + 4096 * i ≡ 4096 * n → length behind + 4096 * (i + 1) ≡ 4096 * n
left_more rest behind i n e long left = omega (arith, ap length e, length-drop 4096 rest)

-- nothing is left in the end
pub cut_all : {A : Type 0} (block : A → List ℕ) (bytes : List ℕ) (items : List A) (rest : List ℕ) → Cut block bytes items rest → length rest ≡ 0 → flat_map block items ≡ bytes
cut_all block bytes items rest cut left =
    sym (append-nil (flat_map block items)) ∙ ap (λ (r : List ℕ). flat_map block items ++ r) (sym (none rest left)) ∙ cut.is
  where
    none : (xs : List ℕ) → length xs ≡ 0 → xs ≡ []
    none [] e = refl
    none (x ∷ xs) e = absurd (omega arith)
