-- What writing the fields of a header into zeros leaves.
use Rattle.std.proofs.Common.{◌≡◌, ℕ, ◌+◌, ◌-◌, ◌≤◌, List, ◌++◌, length, take, drop, replicate, codes, ap, ◌∙◌, arith, length-append}
use Rattle.std.proofs.lemmas.List.{drop-replicate, length-replicate}
use Rattle.sea_base.specs.Field.{big_endian}
use Rattle.sea_base.proofs.Fields.{length-big_endian}
use Rattle.sea_top.specs.declared.record.header.Header.{Header}
use Rattle.sea_top.specs.Header.{header_bytes}
use Rattle.sea_top.proofs.Overlays.{Overlays, Overlays-number, Overlays-then, Overlays-zeros}

pub header_written : (h : Header) (n : ℕ) (b0 b1 b2 b3 b4 b5 b6 : List ℕ) → b0 ≡ replicate n 0 → 96 ≤ n → length h.previous.0 ≡ 32 → length h.digest.0 ≡ 32 → Overlays 0 (codes "SEAPLAIN") b0 b1
    → b2 ≡ take 8 b1 ++ big_endian 8 h.commit.0 ++ drop (8 + 8) b1 → b3 ≡ take 16 b2 ++ big_endian 4 h.blocks ++ drop (16 + 4) b2
    → b4 ≡ take 20 b3 ++ big_endian 4 h.body_len ++ drop (20 + 4) b3 → Overlays 32 h.previous.0 b4 b5 → Overlays 64 h.digest.0 b5 b6
    → b6 ≡ header_bytes h ++ replicate (n - 96) 0
unfolding header_bytes
header_written h n b0 b1 b2 b3 b4 b5 b6 zero room p d w1 w2 w3 w4 w5 w6 =
    let m = codes "SEAPLAIN" in
    let c = big_endian 8 h.commit.0 in
    let b = big_endian 4 h.blocks in
    let l = big_endian 4 h.body_len in
    let z = replicate {A = ℕ} 8 0 in
    let len : length b0 ≡ n = ap length zero ∙ length-replicate {A = ℕ} n 0 in
    let lc = length-big_endian 8 h.commit.0 in
    let lb = length-big_endian 4 h.blocks in
    let ll = length-big_endian 4 h.body_len in
    let l1 = length-append m c in
    let l2 = length-append (m ++ c) b in
    let l3 = length-append (m ++ c ++ b) l in
    let l4 = length-append (m ++ c ++ b ++ l) z in
    let l5 = length-append (m ++ c ++ b ++ l ++ z) h.previous.0 in
    let s2 = Overlays-then 0 8 m c b0 b1 b2 (omega arith) (omega arith) w1 (Overlays-number 8 8 h.commit.0 b1 b2 w2) in
    let s3 = Overlays-then 0 16 (m ++ c) b b0 b2 b3 (omega arith) (omega arith) s2 (Overlays-number 4 16 h.blocks b2 b3 w3) in
    let s4 = Overlays-then 0 20 (m ++ c ++ b) l b0 b3 b4 (omega arith) (omega arith) s3 (Overlays-number 4 20 h.body_len b3 b4 w4) in
    let s4z = Overlays-zeros 0 8 n (m ++ c ++ b ++ l) b0 b4 zero (omega arith) s4 in
    let s5 = Overlays-then 0 32 (m ++ c ++ b ++ l ++ z) h.previous.0 b0 b4 b5 (omega arith) (omega arith) s4z w5 in
    let s6 = Overlays-then 0 64 (m ++ c ++ b ++ l ++ z ++ h.previous.0) h.digest.0 b0 b5 b6 (omega arith) (omega arith) s5 w6 in
    let whole = m ++ c ++ b ++ l ++ z ++ h.previous.0 ++ h.digest.0 in
    let l6 : length whole ≡ 96 = omega (arith, length-append (m ++ c ++ b ++ l ++ z ++ h.previous.0) h.digest.0) in
    let rest : drop (0 + length whole) b0 ≡ replicate (n - 96) 0 = ap (λ (k : ℕ). drop (0 + k) b0) l6 ∙ ap (drop 96) zero ∙ drop-replicate 96 n 0 in
    s6 ∙ ap (λ (r : List ℕ). whole ++ r) rest
