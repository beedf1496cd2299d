-- Entries are told by their bytes.
use Rattle.std.specs.Prelude.{◌≡◌, ℕ, ◌^◌, ◌<◌, List, ◌++◌, length}
use Rattle.std.proofs.Common.{sym, ap, ◌∙◌, arith, append_assoc}
use Rattle.sea_base.specs.Field.{big_endian}
use Rattle.sea_base.specs.Splice.{IsSplice}
use Rattle.sea_base.specs.declared.place.Laddr.{Laddr}
use Rattle.sea_base.proofs.Fields.{same_field}
use Rattle.sea_base.proofs.Slices.{same_parts}
use Rattle.sea_record.specs.Entries.{mark_bytes, address_bytes, change_bytes}
use Rattle.sea_record.specs.declared.entry.Mark.{Mark}
use Rattle.sea_record.specs.declared.record.Change.{Change}

-- the numbers of an entry fit their fields
pub record IsMark (mark : Mark) : Type 0 where
  pub at : mark.at.0 < 2 ^ 64
  pub version : mark.version.0 < 2 ^ 64
  pub sum : mark.sum.0 < 2 ^ 64

abbrev pub IsAddress : Laddr → Type 0
IsAddress at = at.0 < 2 ^ 64

pub record IsListed (change : Change) : Type 0 where
  pub at : change.at.0 < 2 ^ 64
  pub splice : IsSplice change.delta.cut change.delta.gone change.delta.put

pub same_mark : (x y : Mark) (rs ss : List ℕ) → IsMark x → IsMark y
    → mark_bytes x.at.0 x.version.0 x.sum.0 ++ rs ≡ mark_bytes y.at.0 y.version.0 y.sum.0 ++ ss
    → (x ≡ y) × (rs ≡ ss)
same_mark x y rs ss fx fy e =
    let parts : (m : Mark) (r : List ℕ) → mark_bytes m.at.0 m.version.0 m.sum.0 ++ r
    ≡ big_endian 8 m.at.0 ++ (big_endian 8 m.version.0 ++ (big_endian 8 m.sum.0 ++ r))
    = λ m r. simp append_assoc in
    let f0 = same_field 8 x.at.0 y.at.0 _ _ (omega (arith, fx.at)) (omega (arith, fy.at))
    (sym (parts x rs) ∙ e ∙ parts y ss) in
    let f1 = same_field 8 x.version.0 y.version.0 _ _
    (omega (arith, fx.version)) (omega (arith, fy.version)) f0.1 in
    let f2 = same_field 8 x.sum.0 y.sum.0 rs ss
    (omega (arith, fx.sum)) (omega (arith, fy.sum)) f1.1 in
    let made : ℕ → ℕ → ℕ → Mark = λ a v s.
    record { at = record { 0 = a }; version = record { 0 = v }; sum = record { 0 = s } } in
    let same = ap (λ (a : ℕ). made a x.version.0 x.sum.0) f0.0
    ∙ ap (λ (v : ℕ). made y.at.0 v x.sum.0) f1.0
    ∙ ap (made y.at.0 y.version.0) f2.0 in
    (same, f2.1)

pub same_address : (x y : Laddr) (rs ss : List ℕ) → IsAddress x → IsAddress y
    → address_bytes x ++ rs ≡ address_bytes y ++ ss → (x ≡ y) × (rs ≡ ss)
same_address x y rs ss fx fy e =
    let f = same_field 8 x.0 y.0 rs ss (omega (arith, fx)) (omega (arith, fy)) e in
    let made : ℕ → Laddr = λ a. record { 0 = a } in
    (ap made f.0, f.1)

pub same_change : (x y : Change) (rs ss : List ℕ) → IsListed x → IsListed y
    → change_bytes x ++ rs ≡ change_bytes y ++ ss → (x ≡ y) × (rs ≡ ss)
same_change x y rs ss fx fy e =
    let parts : (c : Change) (r : List ℕ) → change_bytes c ++ r
    ≡ big_endian 8 c.at.0 ++ (big_endian 2 c.delta.cut ++ (big_endian 2 c.delta.gone
    ++ (big_endian 2 (length c.delta.put) ++ (c.delta.put ++ r))))
    = λ c r. simp append_assoc in
    let f0 = same_field 8 x.at.0 y.at.0 _ _ (omega (arith, fx.at)) (omega (arith, fy.at))
    (sym (parts x rs) ∙ e ∙ parts y ss) in
    let f1 = same_field 2 x.delta.cut y.delta.cut _ _
    (omega (arith, fx.splice.0)) (omega (arith, fy.splice.0)) f0.1 in
    let f2 = same_field 2 x.delta.gone y.delta.gone _ _
    (omega (arith, fx.splice.0)) (omega (arith, fy.splice.0)) f1.1 in
    let f3 = same_field 2 (length x.delta.put) (length y.delta.put) _ _
    (omega (arith, fx.splice.1)) (omega (arith, fy.splice.1)) f2.1 in
    let f4 = same_parts x.delta.put y.delta.put rs ss f3.0 f3.1 in
    let made : ℕ → ℕ → ℕ → List ℕ → Change = λ a c g p.
    record { at = record { 0 = a }; delta = record { cut = c; gone = g; put = p } } in
    let same = ap (λ (a : ℕ). made a x.delta.cut x.delta.gone x.delta.put) f0.0
    ∙ ap (λ (c : ℕ). made y.at.0 c x.delta.gone x.delta.put) f1.0
    ∙ ap (λ (g : ℕ). made y.at.0 y.delta.cut g x.delta.put) f2.0
    ∙ ap (made y.at.0 y.delta.cut y.delta.gone) f4.0 in
    (same, f4.1)
