-- The bytes of entries: how many there are, and where their fields stand.
use Rattle.std.proofs.Common.{◌≡◌, ℕ, ◌+◌, ◌-◌, ◌≤◌, List, ◌++◌, length, take, drop, sym, ap, ◌∙◌, arith, append_assoc, length-append, take-append-drop}
use Rattle.std.specs.Prelude.{slice_range}
use Rattle.sea_base.specs.Field.{big_endian}
use Rattle.sea_base.specs.declared.place.Laddr.{Laddr}
use Rattle.sea_base.proofs.Fields.{length-big_endian}
use Rattle.sea_base.proofs.RootFields.{joined}
use Rattle.sea_base.proofs.Slices.{slice_at, length-slice}
use Rattle.sea_record.specs.Entries.{mark_bytes, address_bytes, change_bytes}
use Rattle.sea_record.specs.declared.record.Change.{Change}

pub length-mark_bytes : (at version sum : ℕ) → length (mark_bytes at version sum) ≡ 24
length-mark_bytes at version sum =
    let a = big_endian 8 at in
    let v = big_endian 8 version in
    omega (arith, length-append (a ++ v) (big_endian 8 sum), length-append a v, length-big_endian 8 at, length-big_endian 8 version, length-big_endian 8 sum)

pub length-address_bytes : (at : Laddr) → length (address_bytes at) ≡ 8
length-address_bytes at = length-big_endian 8 at.0

pub length-change_bytes : (c : Change) → length (change_bytes c) ≡ 14 + length c.delta.put
length-change_bytes c =
    let a = big_endian 8 c.at.0 in
    let k = big_endian 2 c.delta.cut in
    let g = big_endian 2 c.delta.gone in
    let n = big_endian 2 (length c.delta.put) in
    omega (arith, length-append (a ++ k ++ g ++ n) c.delta.put, length-append (a ++ k ++ g) n, length-append (a ++ k) g, length-append a k, length-big_endian 8 c.at.0, length-big_endian 2 c.delta.cut, length-big_endian 2 c.delta.gone, length-big_endian 2 (length c.delta.put))

-- what stands at the front is as long as all at most
pub front_fits : (bytes front rest : List ℕ) → bytes ≡ front ++ rest → length front ≤ length bytes
front_fits bytes front rest e = omega (arith, ap length e, length-append front rest)

-- where the fields of a change stand
pub record ChangeFields (bytes : List ℕ) (c : Change) : Type 0 where
  pub long : 14 + length c.delta.put ≤ length bytes
  pub cut : slice_range bytes 8 10 ≡ big_endian 2 c.delta.cut
  pub gone : slice_range bytes 10 12 ≡ big_endian 2 c.delta.gone
  pub count : slice_range bytes 12 14 ≡ big_endian 2 (length c.delta.put)

pub change_fields : (bytes : List ℕ) (c : Change) (rest : List ℕ) → bytes ≡ change_bytes c ++ rest → ChangeFields bytes c
change_fields bytes c rest e =
    let a = big_endian 8 c.at.0 in
    let k = big_endian 2 c.delta.cut in
    let g = big_endian 2 c.delta.gone in
    let n = big_endian 2 (length c.delta.put) in
    let p = c.delta.put in
    let la = length-big_endian 8 c.at.0 in
    let lk = length-big_endian 2 c.delta.cut in
    let lg = length-big_endian 2 c.delta.gone in
    let ln = length-big_endian 2 (length c.delta.put) in
    let lak = length-append a k in
    let lakg = length-append (a ++ k) g in
    let at_cut : bytes ≡ a ++ (k ++ (g ++ (n ++ (p ++ rest)))) = e ∙ simp append_assoc in
    let at_gone : bytes ≡ (a ++ k) ++ (g ++ (n ++ (p ++ rest))) = e ∙ simp append_assoc in
    let at_count : bytes ≡ (a ++ k ++ g) ++ (n ++ (p ++ rest)) = e ∙ simp append_assoc in
    record {
      long = omega (arith, front_fits bytes (change_bytes c) rest e, length-change_bytes c);
      cut = ap (λ (x : List ℕ). slice_range x 8 10) at_cut ∙ slice_at a k _ 8 10 la (omega arith);
      gone = ap (λ (x : List ℕ). slice_range x 10 12) at_gone ∙ slice_at (a ++ k) g _ 10 12 (omega arith) (omega arith);
      count = ap (λ (x : List ℕ). slice_range x 12 14) at_count ∙ slice_at (a ++ k ++ g) n _ 12 14 (omega arith) (omega arith);
    }

-- what is read makes the change's bytes
pub change_read : (bytes : List ℕ) (c : Change) (end : ℕ) → 14 ≤ end → end ≤ length bytes → slice_range bytes 0 8 ≡ big_endian 8 c.at.0 → slice_range bytes 8 10 ≡ big_endian 2 c.delta.cut → slice_range bytes 10 12 ≡ big_endian 2 c.delta.gone
    → slice_range bytes 12 14 ≡ big_endian 2 (end - 14) → c.delta.put ≡ slice_range bytes 14 end → bytes ≡ change_bytes c ++ drop end bytes
change_read bytes c end low within a k g n p =
    let long : end - 14 ≡ length c.delta.put = sym (ap length p ∙ length-slice bytes 14 end low within) in
    let f1 = joined bytes _ _ 0 8 10 (omega arith) (omega arith) a k in
    let f2 = joined bytes _ _ 0 10 12 (omega arith) (omega arith) f1 g in
    let f3 = joined bytes _ _ 0 12 14 (omega arith) (omega arith) f2 (n ∙ ap (big_endian 2) long) in
    let f4 = joined bytes _ _ 0 14 end (omega arith) low f3 (sym p) in
    sym (take-append-drop end bytes) ∙ ap (λ (x : List ℕ). x ++ drop end bytes) (ap (λ (m : ℕ). take m bytes) (omega arith) ∙ f4)
