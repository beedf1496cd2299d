use Rattle.std.proofs.Common.{◌≡◌, ℕ, ◌<◌, List, ◌++◌, length, ap, ◌∙◌, arith, append_assoc}
use Rattle.sea_base.specs.Field.{big_endian}
use Rattle.sea_base.proofs.Fields.{one_byte}
use Rattle.sea_pieces.specs.Spelling.{piece_bytes}
use Rattle.sea_pieces.proofs.spelling.push_piece.Goals as goal

-- parts appended one after the other
appended : (b0 b1 b2 b3 b4 b5 n m o l d : List ℕ) → b1 ≡ b0 ++ n → b2 ≡ b1 ++ m → b3 ≡ b2 ++ o → b4 ≡ b3 ++ l → b5 ≡ b4 ++ d → b5 ≡ b0 ++ (n ++ m ++ o ++ l ++ d)
appended b0 b1 b2 b3 b4 b5 n m o l d e1 e2 e3 e4 e5 =
    let grouped : ((((b0 ++ n) ++ m) ++ o) ++ l) ++ d ≡ b0 ++ (n ++ m ++ o ++ l ++ d) = simp append_assoc in
    e5 ∙ ap (λ (x : List ℕ). x ++ d) (e4 ∙ ap (λ (x : List ℕ). x ++ l) (e3 ∙ ap (λ (x : List ℕ). x ++ o) (e2 ∙ ap (λ (x : List ℕ). x ++ m) e1))) ∙ grouped

pub returns : goal.returns
unfolding piece_bytes
returns c =
    let p = c.args.piece.now in
    let short : length c.bytes-name.result.now < 256 = omega (arith, ap length c.bytes-name.ensures.bytes, c.bytes-name.ensures.name.1) in
    appended _ _ _ _ _ _ (big_endian 1 (length p.name)) p.name (big_endian 4 p.offset) (big_endian 4 (length p.bytes)) p.bytes
    (c.in_ok-push.ensures.items ∙ ap (λ (x : List ℕ). c.args.bytes.now.items ++ x) (one_byte _ short ∙ ap (λ (n : List ℕ). big_endian 1 (length n)) c.bytes-name.ensures.bytes))
    (c.in_ok-extend_from_slice.ensures.items ∙ ap (λ (n : List ℕ). c.push.new.self.items ++ n) c.bytes-name.ensures.bytes)
    c.in_ok-push_u32.ensures
    (c.in_ok-push_u32-2.ensures ∙ ap (λ (n : ℕ). c.push_u32.new.bytes.items ++ big_endian 4 n) c.len.ensures.value)
    (c.in_ok-extend_from_slice-2.ensures.items ∙ ap (λ (n : List ℕ). c.push_u32-2.new.bytes.items ++ n) c.bytes.ensures)
