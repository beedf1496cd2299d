use Rattle.std.proofs.Common.{◌≡◌, ℕ, List, [], ◌∷◌, length, get_or, sym, ap, ◌∙◌, arith}
use Rattle.std.specs.Prelude.{map, string_bytes, codes}
use lib.Pointwise.{bytes_decides}
use Rattle.sea_top.proofs.command.is_steps.Goals as goal

-- a list of one item is that item
one : {A : Type 0} (xs : List A) (x : A) → length xs ≡ 1 → x ≡ get_or xs 0 x → xs ≡ x ∷ []
one [] x count is = absurd (omega arith)
one (y ∷ []) x count is = ap (λ z. z ∷ []) (sym is)
one (y ∷ z ∷ xs) x count is = absurd (omega arith)

head : (xs ys : List ℕ) → ◌≡◌ {A = List (List ℕ)} (xs ∷ []) (ys ∷ []) → xs ≡ ys
head xs ys e = cc

pub returns-in-len1 : goal.returns-in-len1
returns-in-len1 c =
    let word = c.word-item.result in
    let words : c.args.words.now ≡ word ∷ [] = one c.args.words.now word (omega (arith, c.in-len1.len_at_least, c.in-len1.len_below)) c.word-item.is in
    let texts : map string_bytes c.args.words.now ≡ string_bytes word ∷ [] = ap (map string_bytes) words in
    let decides = bytes_decides c.as_str.result.now (codes "steps") in (
      λ yes. texts ∙ ap (λ (t : List ℕ). t ∷ []) (sym c.as_str.ensures.value ∙ decides.0 (sym c.eq.ensures ∙ yes)),
      λ same. c.eq.ensures ∙ decides.1 (c.as_str.ensures.value ∙ head (string_bytes word) (codes "steps") (sym texts ∙ same)),
    )
