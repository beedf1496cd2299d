-- The bytes of an entry, one part after another.
use Rattle.std.proofs.Common.{◌≡◌, ℕ, ◌<◌, List, [], ◌∷◌, ◌++◌, length, sym, ap, ◌∙◌, append_assoc, append-nil, mod-eq_of_lt}
use Rattle.sea_base.specs.Field.{big_endian}
use Rattle.sea_node.specs.Entries.{entry_bytes}

big_endian-one : (n : ℕ) → n < 256 → big_endian 1 n ≡ n ∷ []
unfolding big_endian
big_endian-one n small = ap (λ (k : ℕ). k ∷ []) (mod-eq_of_lt small)

pub entry_pushed : (k v : ℕ) (old lengths first second third key value : List ℕ) → k ≡ length key → v ≡ length value → k < 256 → lengths ≡ k ∷ (big_endian 2 v ++ []) → first ≡ old ++ lengths → second ≡ first ++ key → third ≡ second ++ value → third ≡ old ++ entry_bytes (key, value)
entry_pushed k v old lengths first second third key value keys values small l a b c =
    let head : lengths ≡ big_endian 1 (length key) ++ big_endian 2 (length value) =
    l ∙ append-nil (k ∷ big_endian 2 v) ∙ ap (λ (r : List ℕ). r ++ big_endian 2 v) (sym (big_endian-one k small)) ∙ (λ i. big_endian 1 (keys i) ++ big_endian 2 (values i)) in
    c ∙ ap (λ (r : List ℕ). r ++ value) (b ∙ ap (λ (r : List ℕ). r ++ key) (a ∙ ap (λ (r : List ℕ). old ++ r) head)) ∙ simp append_assoc
