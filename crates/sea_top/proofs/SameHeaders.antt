-- Headers are told by their bytes.
use Rattle.std.proofs.Common.{◌≡◌, ℕ, List, ◌++◌, replicate, codes, refl, sym, ap, ◌∙◌, arith, append_assoc}
use Rattle.sea_base.specs.Field.{big_endian}
use Rattle.sea_base.proofs.Fields.{same_field}
use Rattle.sea_base.proofs.Slices.{same_parts}
use Rattle.sea_top.specs.declared.record.header.Header.{Header}
use Rattle.sea_top.specs.Header.{header_bytes, IsHeader}

-- a header's fields, one behind the other
pub header_parts : (h : Header) (rest : List ℕ) → header_bytes h ++ rest ≡ codes "SEAPLAIN" ++ (big_endian 8 h.commit.0 ++ (big_endian 4 h.blocks ++ (big_endian 4 h.body_len ++ (replicate 8 0 ++ (h.previous.0 ++ (h.digest.0 ++ rest))))))
unfolding header_bytes
header_parts h rest = simp append_assoc

pub same_header : (h k : Header) (rs ss : List ℕ) → IsHeader h → IsHeader k → header_bytes h ++ rs ≡ header_bytes k ++ ss → (h ≡ k) × (rs ≡ ss)
same_header h k rs ss is_h is_k e =
    let e0 = sym (header_parts h rs) ∙ e ∙ header_parts k ss in
    let f0 = same_parts (codes "SEAPLAIN") (codes "SEAPLAIN") _ _ refl e0 in
    let f1 = same_field 8 h.commit.0 k.commit.0 _ _ (omega (arith, is_h.commit)) (omega (arith, is_k.commit)) f0.1 in
    let f2 = same_field 4 h.blocks k.blocks _ _ (omega (arith, is_h.blocks)) (omega (arith, is_k.blocks)) f1.1 in
    let f3 = same_field 4 h.body_len k.body_len _ _ (omega (arith, is_h.body_len)) (omega (arith, is_k.body_len)) f2.1 in
    let f4 = same_parts {A = ℕ} (replicate 8 0) (replicate 8 0) _ _ refl f3.1 in
    let f5 = same_parts h.previous.0 k.previous.0 _ _ (is_h.previous ∙ sym is_k.previous) f4.1 in
    let f6 = same_parts h.digest.0 k.digest.0 rs ss (is_h.digest ∙ sym is_k.digest) f5.1 in
    let made : ℕ → ℕ → ℕ → List ℕ → List ℕ → Header = λ c b l p d. record { commit = record { 0 = c }; blocks = b; body_len = l; previous = record { 0 = p }; digest = record { 0 = d } } in (
      ap (λ (c : ℕ). made c h.blocks h.body_len h.previous.0 h.digest.0) f1.0 ∙ ap (λ (b : ℕ). made k.commit.0 b h.body_len h.previous.0 h.digest.0) f2.0 ∙ ap (λ (l : ℕ). made k.commit.0 k.blocks l h.previous.0 h.digest.0) f3.0
          ∙ ap (λ (p : List ℕ). made k.commit.0 k.blocks k.body_len p h.digest.0) f5.0 ∙ ap (made k.commit.0 k.blocks k.body_len k.previous.0) f6.0,
      f6.1,
    )
