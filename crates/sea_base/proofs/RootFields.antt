-- The fields of tail and roots: what is read makes their bytes, and their bytes tell them.
use Rattle.std.proofs.Common.{◌≡◌, ℕ, ◌+◌, ◌-◌, ◌^◌, ◌<◌, ◌≤◌, List, [], ◌++◌, length, take, drop, replicate, refl, sym, ap, ◌∙◌, arith, append_assoc, length-append}
use Rattle.std.specs.Prelude.{slice_range}
use Rattle.std.proofs.lemmas.List.{append-nil, take_all, length-replicate}
use Rattle.sea_base.specs.Field.{big_endian}
use Rattle.sea_base.specs.RootFields.{proot_bytes, root_bytes, IsPRoot, IsTail, IsRoot, IsRootFields}
use Rattle.sea_base.specs.declared.digest.Sum.{Sum}
use Rattle.sea_base.specs.declared.place.Laddr.{Laddr}
use Rattle.sea_base.specs.declared.place.Paddr.{Paddr}
use Rattle.sea_base.specs.declared.place.PRoot.{PRoot}
use Rattle.sea_base.specs.declared.place.Root.{Root}
use Rattle.sea_base.specs.declared.place.Tail.{Tail}
use Rattle.sea_base.proofs.Fields.{length-big_endian, same_field}
use Rattle.sea_base.proofs.Slices.{same_parts, slice_at, slice_then}

-- a part and the part behind it, each known
pub joined : (bytes xs ys : List ℕ) (i j k : ℕ) → i ≤ j → j ≤ k → slice_range bytes i j ≡ xs → slice_range bytes j k ≡ ys → slice_range bytes i k ≡ xs ++ ys
joined bytes xs ys i j k le le' e f =
    sym (slice_then bytes i j k le le') ∙ ap (λ (x : List ℕ). x ++ slice_range bytes j k) e ∙ ap (λ (y : List ℕ). xs ++ y) f

-- the whole is a part
pub whole_part : (bytes : List ℕ) (n : ℕ) → length bytes ≡ n → slice_range bytes 0 n ≡ bytes
whole_part bytes n len = ap (λ (k : ℕ). take k bytes) (omega arith) ∙ take_all n bytes (omega arith)

-- ---- a root of physical nodes

-- its numbers fit their fields
pub record Fits (root : PRoot) : Type 0 where
  pub block : root.at.0 < 2 ^ 32
  pub height : root.height < 2 ^ 32
  pub sum : root.sum.0 < 2 ^ 64

pub fits_of : (root : PRoot) → IsPRoot root → Fits root
fits_of root is = record { block = is.block; height = omega (arith, is.height); sum = is.sum }

pub length-proot_bytes : (root : PRoot) → length (proot_bytes root) ≡ 16
unfolding proot_bytes
length-proot_bytes root =
    let a = big_endian 4 root.at.0 in
    let h = big_endian 4 root.height in
    let s = big_endian 8 root.sum.0 in
    omega (arith, length-append (a ++ h) s, length-append a h, length-big_endian 4 root.at.0, length-big_endian 4 root.height, length-big_endian 8 root.sum.0)

pub proot_read : (bytes : List ℕ) (at block height sum : ℕ) → slice_range bytes at (at + 4) ≡ big_endian 4 block → slice_range bytes (at + 4) (at + 4 + 4) ≡ big_endian 4 height → slice_range bytes (at + 8) (at + 8 + 8) ≡ big_endian 8 sum
    → slice_range bytes at (at + 16) ≡ proot_bytes (record { at = record { 0 = block }; height = height; sum = record { 0 = sum } })
unfolding proot_bytes
proot_read bytes at block height sum b h s =
    let second = joined bytes (big_endian 4 block) (big_endian 4 height) at (at + 4) (at + 8) (omega arith) (omega arith) b (ap (λ (k : ℕ). slice_range bytes (at + 4) k) (omega arith) ∙ h) in
    joined bytes (big_endian 4 block ++ big_endian 4 height) (big_endian 8 sum) at (at + 8) (at + 16) (omega arith) (omega arith) second (ap (λ (k : ℕ). slice_range bytes (at + 8) k) (omega arith) ∙ s)

proot_parts : (root : PRoot) (rest : List ℕ) → proot_bytes root ++ rest ≡ big_endian 4 root.at.0 ++ (big_endian 4 root.height ++ (big_endian 8 root.sum.0 ++ rest))
unfolding proot_bytes
proot_parts root rest = simp append_assoc

pub same_proot : (p q : PRoot) (rs ss : List ℕ) → Fits p → Fits q → proot_bytes p ++ rs ≡ proot_bytes q ++ ss → (p ≡ q) × (rs ≡ ss)
same_proot p q rs ss fp fq e =
    let f0 = same_field 4 p.at.0 q.at.0 _ _ (omega (arith, fp.block)) (omega (arith, fq.block)) (sym (proot_parts p rs) ∙ e ∙ proot_parts q ss) in
    let f1 = same_field 4 p.height q.height _ _ (omega (arith, fp.height)) (omega (arith, fq.height)) f0.1 in
    let f2 = same_field 8 p.sum.0 q.sum.0 rs ss (omega (arith, fp.sum)) (omega (arith, fq.sum)) f1.1 in
    let made : ℕ → ℕ → ℕ → PRoot = λ b h s. record { at = record { 0 = b }; height = h; sum = record { 0 = s } } in
    (ap (λ (b : ℕ). made b p.height p.sum.0) f0.0 ∙ ap (λ (h : ℕ). made q.at.0 h p.sum.0) f1.0 ∙ ap (made q.at.0 q.height) f2.0, f2.1)

-- ---- tail and roots

-- all numbers fit their fields
pub record RootFit (tail : Tail) (root : Root) : Type 0 where
  pub seq : tail.seq < 2 ^ 64
  pub place : tail.place.0 < 2 ^ 32
  pub lba : Fits root.lba
  pub owners : Fits root.owners
  pub next : root.next.0 < 2 ^ 64

pub root_fit : (tail : Tail) (root : Root) → IsTail tail → IsRoot root → RootFit tail root
root_fit tail root is_tail is_root = record {
  seq = omega (arith, is_tail.seq.1);
  place = omega (arith, is_tail.place);
  lba = fits_of root.lba is_root.lba;
  owners = fits_of root.owners is_root.owners;
  next = omega (arith, is_root.next.1);
}

pub length-root_bytes : (tail : Tail) (root : Root) → length (root_bytes tail root) ≡ 56
unfolding root_bytes
length-root_bytes tail root =
    let s = big_endian 8 tail.seq in
    let p = big_endian 4 tail.place.0 in
    let z = replicate {A = ℕ} 4 0 in
    let l = proot_bytes root.lba in
    let o = proot_bytes root.owners in
    let n = big_endian 8 root.next.0 in
    omega (arith, length-append (s ++ p ++ z ++ l ++ o) n, length-append (s ++ p ++ z ++ l) o, length-append (s ++ p ++ z) l, length-append (s ++ p) z, length-append s p, length-big_endian 8 tail.seq, length-big_endian 4 tail.place.0, length-big_endian 8 root.next.0, length-proot_bytes root.lba, length-proot_bytes root.owners)

pub roots_read : (fields : List ℕ) (tail : Tail) (root : Root) → length fields ≡ 56 → slice_range fields 0 8 ≡ big_endian 8 tail.seq → slice_range fields 8 12 ≡ big_endian 4 tail.place.0 → slice_range fields 12 16 ≡ replicate 4 0
    → slice_range fields 16 32 ≡ proot_bytes root.lba → slice_range fields 32 48 ≡ proot_bytes root.owners → slice_range fields 48 56 ≡ big_endian 8 root.next.0 → fields ≡ root_bytes tail root
unfolding root_bytes
roots_read fields tail root len s p z l o n =
    let f1 = joined fields _ _ 0 8 12 (omega arith) (omega arith) s p in
    let f2 = joined fields _ _ 0 12 16 (omega arith) (omega arith) f1 z in
    let f3 = joined fields _ _ 0 16 32 (omega arith) (omega arith) f2 l in
    let f4 = joined fields _ _ 0 32 48 (omega arith) (omega arith) f3 o in
    let f5 = joined fields _ _ 0 48 56 (omega arith) (omega arith) f4 n in
    sym (whole_part fields 56 len) ∙ f5

root_parts : (tail : Tail) (root : Root) (rest : List ℕ) → root_bytes tail root ++ rest ≡ big_endian 8 tail.seq ++ (big_endian 4 tail.place.0 ++ (replicate 4 0 ++ (proot_bytes root.lba ++ (proot_bytes root.owners ++ (big_endian 8 root.next.0 ++ rest)))))
unfolding root_bytes
root_parts tail root rest = simp append_assoc

pub same_roots : (t u : Tail) (x y : Root) (rs ss : List ℕ) → RootFit t x → RootFit u y → root_bytes t x ++ rs ≡ root_bytes u y ++ ss → (t ≡ u) × (x ≡ y) × (rs ≡ ss)
same_roots t u x y rs ss fx fy e =
    let f0 = same_field 8 t.seq u.seq _ _ (omega (arith, fx.seq)) (omega (arith, fy.seq)) (sym (root_parts t x rs) ∙ e ∙ root_parts u y ss) in
    let f1 = same_field 4 t.place.0 u.place.0 _ _ (omega (arith, fx.place)) (omega (arith, fy.place)) f0.1 in
    let f2 = same_parts {A = ℕ} (replicate 4 0) (replicate 4 0) _ _ refl f1.1 in
    let f3 = same_proot x.lba y.lba _ _ fx.lba fy.lba f2.1 in
    let f4 = same_proot x.owners y.owners _ _ fx.owners fy.owners f3.1 in
    let f5 = same_field 8 x.next.0 y.next.0 rs ss (omega (arith, fx.next)) (omega (arith, fy.next)) f4.1 in
    let tail : ℕ → ℕ → Tail = λ s p. record { seq = s; place = record { 0 = p } } in
    let root : PRoot → PRoot → ℕ → Root = λ l o n. record { lba = l; owners = o; next = record { 0 = n } } in (
      ap (λ (s : ℕ). tail s t.place.0) f0.0 ∙ ap (tail u.seq) f1.0,
      ap (λ (l : PRoot). root l x.owners x.next.0) f3.0 ∙ ap (λ (o : PRoot). root y.lba o x.next.0) f4.0 ∙ ap (root y.lba y.owners) f5.0,
      f5.1,
    )

-- fields that spell a tail and roots have the four zeros
pub zeros_between : (fields : List ℕ) (tail : Tail) (root : Root) → fields ≡ root_bytes tail root → slice_range fields 12 16 ≡ replicate 4 0
zeros_between fields tail root e =
    let s = big_endian 8 tail.seq in
    let p = big_endian 4 tail.place.0 in
    let z = replicate {A = ℕ} 4 0 in
    let behind = proot_bytes root.lba ++ (proot_bytes root.owners ++ (big_endian 8 root.next.0 ++ [])) in
    let len : length (s ++ p) ≡ 12 = omega (arith, length-append s p, length-big_endian 8 tail.seq, length-big_endian 4 tail.place.0) in
    ap (λ (x : List ℕ). slice_range x 12 16) (e ∙ sym (append-nil (root_bytes tail root)) ∙ root_parts tail root [] ∙ sym (append_assoc s p (z ++ behind)))
    ∙ slice_at (s ++ p) z behind 12 16 len (omega (arith, length-replicate {A = ℕ} 4 0))

-- and no others
pub same_fields : (fields : List ℕ) (t u : Tail) (x y : Root) → RootFit t x → RootFit u y → fields ≡ root_bytes t x → fields ≡ root_bytes u y → (t ≡ u) × (x ≡ y)
same_fields fields t u x y fx fy e f =
    let same = same_roots t u x y [] [] fx fy (ap (λ (b : List ℕ). b ++ []) (sym e ∙ f)) in (same.0, same.1)

-- ---- what is appended

zero_field : big_endian 4 0 ≡ replicate 4 0
unfolding big_endian
zero_field = refl

pub proot_pushed : (root : PRoot) (b0 b1 b2 b3 : List ℕ) → b1 ≡ b0 ++ big_endian 4 root.at.0 → b2 ≡ b1 ++ big_endian 4 root.height → b3 ≡ b2 ++ big_endian 8 root.sum.0 → b3 ≡ b0 ++ proot_bytes root
unfolding proot_bytes
proot_pushed root b0 b1 b2 b3 e1 e2 e3 =
    e3 ∙ ap (λ (b : List ℕ). b ++ big_endian 8 root.sum.0) (e2 ∙ ap (λ (b : List ℕ). b ++ big_endian 4 root.height) e1) ∙ simp append_assoc

pub roots_pushed : (tail : Tail) (root : Root) (b0 b1 b2 b3 b4 b5 b6 : List ℕ) → b1 ≡ b0 ++ big_endian 8 tail.seq → b2 ≡ b1 ++ big_endian 4 tail.place.0 → b3 ≡ b2 ++ big_endian 4 0 → b4 ≡ b3 ++ proot_bytes root.lba
    → b5 ≡ b4 ++ proot_bytes root.owners → b6 ≡ b5 ++ big_endian 8 root.next.0 → b6 ≡ b0 ++ root_bytes tail root
unfolding root_bytes
roots_pushed tail root b0 b1 b2 b3 b4 b5 b6 e1 e2 e3 e4 e5 e6 =
    let f2 = e2 ∙ ap (λ (b : List ℕ). b ++ big_endian 4 tail.place.0) e1 in
    let f3 = e3 ∙ ap (λ (b : List ℕ). b ++ big_endian 4 0) f2 ∙ ap (λ (z : List ℕ). b0 ++ big_endian 8 tail.seq ++ big_endian 4 tail.place.0 ++ z) zero_field in
    let f4 = e4 ∙ ap (λ (b : List ℕ). b ++ proot_bytes root.lba) f3 in
    let f5 = e5 ∙ ap (λ (b : List ℕ). b ++ proot_bytes root.owners) f4 in
    e6 ∙ ap (λ (b : List ℕ). b ++ big_endian 8 root.next.0) f5 ∙ simp append_assoc
