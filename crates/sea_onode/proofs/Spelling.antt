-- An onode and its bytes: each gives the other.
use Rattle.std.proofs.Common.{◌≡◌, ℕ, List, [], ◌++◌, length, sym, ap, ◌∙◌, arith, append_assoc, length-append}
use Rattle.std.specs.Prelude.{slice_range}
use Rattle.sea_base.specs.Field.{big_endian}
use Rattle.sea_base.proofs.Fields.{length-big_endian, same_field}
use Rattle.sea_base.proofs.RootFields.{joined, whole_part}
use Rattle.sea_object.specs.declared.onode.Onode.{Onode}
use Rattle.sea_onode.specs.Spelling.{Spells, onode_bytes}

pub length-onode_bytes : (onode : Onode) → length (onode_bytes onode) ≡ 20
unfolding onode_bytes
length-onode_bytes onode =
    let b = big_endian 8 onode.base.0 in
    let s = big_endian 4 onode.size in
    let a = big_endian 4 onode.attrs in
    let k = big_endian 4 onode.keys in
    omega (arith, length-append (b ++ s ++ a) k, length-append (b ++ s) a, length-append b s, length-big_endian 8 onode.base.0, length-big_endian 4 onode.size, length-big_endian 4 onode.attrs, length-big_endian 4 onode.keys)

-- what is read from four fields is spelled there
pub onode_read : (bytes : List ℕ) (onode : Onode) → length bytes ≡ 20 → slice_range bytes 0 8 ≡ big_endian 8 onode.base.0 → slice_range bytes 8 12 ≡ big_endian 4 onode.size → slice_range bytes 12 16 ≡ big_endian 4 onode.attrs → slice_range bytes 16 20 ≡ big_endian 4 onode.keys → bytes ≡ onode_bytes onode
unfolding onode_bytes
onode_read bytes onode len b s a k =
    let f1 = joined bytes _ _ 0 8 12 (omega arith) (omega arith) b s in
    let f2 = joined bytes _ _ 0 12 16 (omega arith) (omega arith) f1 a in
    let f3 = joined bytes _ _ 0 16 20 (omega arith) (omega arith) f2 k in
    sym (whole_part bytes 20 len) ∙ f3

onode_parts : (onode : Onode) → onode_bytes onode ++ [] ≡ big_endian 8 onode.base.0 ++ (big_endian 4 onode.size ++ (big_endian 4 onode.attrs ++ (big_endian 4 onode.keys ++ [])))
unfolding onode_bytes
onode_parts onode = simp append_assoc

-- bytes spell one onode
pub same_onode : (bytes : List ℕ) (x y : Onode) → Spells bytes x → Spells bytes y → x ≡ y
same_onode bytes x y sx sy =
    let e = ap (λ (b : List ℕ). b ++ []) (sym sx.spelled ∙ sy.spelled) in
    let f0 = same_field 8 x.base.0 y.base.0 _ _ (omega (arith, sx.base)) (omega (arith, sy.base)) (sym (onode_parts x) ∙ e ∙ onode_parts y) in
    let f1 = same_field 4 x.size y.size _ _ (omega (arith, sx.size)) (omega (arith, sy.size)) f0.1 in
    let f2 = same_field 4 x.attrs y.attrs _ _ (omega (arith, sx.attrs)) (omega (arith, sy.attrs)) f1.1 in
    let f3 = same_field 4 x.keys y.keys [] [] (omega (arith, sx.keys)) (omega (arith, sy.keys)) f2.1 in
    let made : ℕ → ℕ → ℕ → ℕ → Onode = λ b s a k. record { base = record { 0 = b }; size = s; attrs = a; keys = k } in
    ap (λ (b : ℕ). made b x.size x.attrs x.keys) f0.0 ∙ ap (λ (s : ℕ). made y.base.0 s x.attrs x.keys) f1.0
    ∙ ap (λ (a : ℕ). made y.base.0 y.size a x.keys) f2.0 ∙ ap (made y.base.0 y.size y.attrs) f3.0

-- the fields appended one after the other
pub onode_pushed : (onode : Onode) (b0 b1 b2 b3 b4 : List ℕ) → b0 ≡ [] → b1 ≡ b0 ++ big_endian 8 onode.base.0 → b2 ≡ b1 ++ big_endian 4 onode.size → b3 ≡ b2 ++ big_endian 4 onode.attrs → b4 ≡ b3 ++ big_endian 4 onode.keys → b4 ≡ onode_bytes onode
unfolding onode_bytes
onode_pushed onode b0 b1 b2 b3 b4 e0 e1 e2 e3 e4 =
    let f1 = e1 ∙ ap (λ (b : List ℕ). b ++ big_endian 8 onode.base.0) e0 in
    let f2 = e2 ∙ ap (λ (b : List ℕ). b ++ big_endian 4 onode.size) f1 in
    let f3 = e3 ∙ ap (λ (b : List ℕ). b ++ big_endian 4 onode.attrs) f2 in
    e4 ∙ ap (λ (b : List ℕ). b ++ big_endian 4 onode.keys) f3
