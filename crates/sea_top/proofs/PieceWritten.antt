-- What writing the fields of a piece one behind the other leaves.
use Rattle.std.proofs.Common.{◌≡◌, ℕ, ◌+◌, ◌<◌, ◌≤◌, List, [], ◌∷◌, ◌++◌, length, take, drop, ap, subst, ◌∙◌, arith, length-append}
use Rattle.sea_base.specs.Field.{big_endian}
use Rattle.sea_base.proofs.Fields.{length-big_endian, one_byte}
use Rattle.sea_top.specs.declared.record.Piece.{Piece}
use Rattle.sea_top.specs.Record.{piece_bytes}
use Rattle.sea_top.proofs.Overlays.{Overlays, Overlays-number, Overlays-then}

module _ (at : ℕ) (name bytes : List ℕ) (offset : ℕ) (b0 b1 b2 b3 b4 b5 : List ℕ) where
  pub fields_written : length name < 256 → at + 9 + length name + length bytes ≤ length b0 → Overlays at (length name ∷ []) b0 b1 → Overlays (at + 1) name b1 b2
      → b3 ≡ take (at + 1 + length name) b2 ++ big_endian 4 offset ++ drop (at + 1 + length name + 4) b2
      → b4 ≡ take (at + 1 + length name + 4) b3 ++ big_endian 4 (length bytes) ++ drop (at + 1 + length name + 4 + 4) b3
      → Overlays (at + 1 + length name + 8) bytes b4 b5 → Overlays at (big_endian 1 (length name) ++ name ++ big_endian 4 offset ++ big_endian 4 (length bytes) ++ bytes) b0 b5
  fields_written short room w1 w2 w3 w4 w5 =
      let n = big_endian 1 (length name) in
      let o = big_endian 4 offset in
      let l = big_endian 4 (length bytes) in
      let len_n = length-big_endian 1 (length name) in
      let len_o = length-big_endian 4 offset in
      let len_l = length-big_endian 4 (length bytes) in
      let len2 = length-append n name in
      let len3 = length-append (n ++ name) o in
      let len4 = length-append (n ++ name ++ o) l in
      let first : Overlays at n b0 b1 = subst (λ (x : List ℕ). Overlays at x b0 b1) (one_byte (length name) short) w1 in
      let second = Overlays-then at (at + 1) n name b0 b1 b2 (omega arith) (omega arith) first w2 in
      let third = Overlays-then at (at + 1 + length name) (n ++ name) o b0 b2 b3 (omega arith) (omega arith) second (Overlays-number 4 (at + 1 + length name) offset b2 b3 w3) in
      let fourth = Overlays-then at (at + 1 + length name + 4) (n ++ name ++ o) l b0 b3 b4 (omega arith) (omega arith) third (Overlays-number 4 (at + 1 + length name + 4) (length bytes) b3 b4 w4) in
      Overlays-then at (at + 1 + length name + 8) (n ++ name ++ o ++ l) bytes b0 b4 b5 (omega arith) (omega arith) fourth w5

pub piece_written : (at : ℕ) (p : Piece) (name bytes : List ℕ) (b0 b5 : List ℕ) → name ≡ p.name → bytes ≡ p.bytes
    → Overlays at (big_endian 1 (length name) ++ name ++ big_endian 4 p.offset ++ big_endian 4 (length bytes) ++ bytes) b0 b5 → Overlays at (piece_bytes p) b0 b5
unfolding piece_bytes
piece_written at p name bytes b0 b5 e f w =
    subst (λ (x : List ℕ). Overlays at x b0 b5) (ap (λ (m : List ℕ). big_endian 1 (length m) ++ m ++ big_endian 4 p.offset ++ big_endian 4 (length bytes) ++ bytes) e ∙ ap (λ (d : List ℕ). big_endian 1 (length p.name) ++ p.name ++ big_endian 4 p.offset ++ big_endian 4 (length d) ++ d) f) w
