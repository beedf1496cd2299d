-- Onodes that are alike: under each name stands one with the same addresses and the same size, or none. A store that stands with the one map stands with the other.
use Rattle.std.proofs.Common.{◌≡◌, inl, inr, ℕ, Bool, true, false, cond, List, Some, refl, sym, ap, ◌∙◌, arith}
use Rattle.std.specs.Ordering.{eq_by_cmp}
use Rattle.std.specs.FinMap as map
use Rattle.std.specs.FinMap.{get-insert}
use Rattle.sea_base.specs.Space.{Store}
use Rattle.sea_node.specs.Entries.{key_order}
use Rattle.sea_node.proofs.Keys.{key_order_total}
use Rattle.sea_object.specs.declared.onode.Onode.{Onode}
use Rattle.sea_onode.specs.Onodes.{Onodes}
use Rattle.sea_onode.specs.Order.{IsInRange}
use Rattle.sea_onode.proofs.Onodes.{inserted}
use Rattle.sea_ops.specs.WellFormed.{IsOwnRoot, HasOnodeWith, IsRoot, IsDataOf}
use Rattle.sea_ops.specs.Calls.{IsFree}
use Rattle.sea_ops.proofs.Frames.{Stands}
use Rattle.sea_ops.proofs.Made.{tied}

-- two onodes have the same addresses and the same size
pub record HaveSame (x y : Onode) : Type 0 where
  pub base : x.base.0 ≡ y.base.0
  pub size : x.size ≡ y.size

-- each onode of the first map has one like it in the second
abbrev pub HasEach : Onodes → Onodes → Type 0
HasEach some others =
    (name : List ℕ) (x : Onode) → map.get some name ≡ Some x
    → (y : Onode) × (map.get others name ≡ Some y) × HaveSame x y

own_same : (root : ℕ) (x y : Onode) → HaveSame x y → IsOwnRoot x root → IsOwnRoot y root
own_same root x y same (inl e) = inl (e ∙ same.base)
own_same root x y same (inr e) = inr (omega (arith, e, same.base))

pub range_same : (at : ℕ) (x y : Onode) → HaveSame x y → IsInRange x at → IsInRange y at
range_same at x y same within = (omega (arith, within.0, same.base), omega (arith, within.1, same.base))

data_same : (at : ℕ) (x y : Onode) → HaveSame x y → IsDataOf x at → IsDataOf y at
data_same at x y same (i, below, is) = (i, omega (arith, below, same.size), omega (arith, is, same.base))

with_same : (some others : Onodes) (P : Onode → Type 0) → ((x y : Onode) → HaveSame x y → P x → P y) → HasEach some others → HasOnodeWith some P → HasOnodeWith others P
with_same some others P on each (name, x, e, p) = let y = each name x e in (name, y.0, y.1, on x y.0 y.2 p)

pub root_same : (some others : Onodes) → HasEach some others → (root : ℕ) → IsRoot some root → IsRoot others root
root_same some others each root (inl one) = inl one
root_same some others each root (inr own) = inr (with_same some others (λ o. IsOwnRoot o root) (own_same root) each own)

pub free_same : (store : Store) (some others : Onodes) → HasEach others some → (at : ℕ) → IsFree store some at → IsFree store others at
free_same store some others each at free = record {
  low = free.low;
  empty = free.empty;
  unused = λ used. free.unused (with_same others some (λ o. IsInRange o at) (range_same at) each used);
}

pub stands_same : (store : Store) (next : ℕ) (some others : Onodes) → HasEach some others → HasEach others some → Stands store next some → Stands store next others
stands_same store next some others on back s = record {
  begun = s.begun;
  ranges = λ name y e. let x = back name y e in let r = s.ranges name x.0 x.1 in (omega (arith, r.0, x.2.base), omega (arith, r.1, x.2.base), omega (arith, r.2, x.2.size));
  apart = λ a b x y at e f within within'.
      let u = back a x e in
      let v = back b y f in
      s.apart a b u.0 v.0 at u.1 v.1 (range_same at x u.0 u.2 within) (range_same at y v.0 v.2 within');
  bounds = s.bounds;
  trees = λ root is_root. s.trees root (root_same others some back root is_root);
  shared = record {
    apart = λ a b is_a is_b differs. s.shared.apart a b (root_same others some back a is_a) (root_same others some back b is_b) differs;
    alone = λ root at is_root node within. s.shared.alone root at (root_same others some back root is_root) node (with_same others some (λ o. IsInRange o at) (range_same at) back within);
    filled = λ at there. elim (s.shared.filled at there) [
      | inl node ↦ inl (node.0, root_same some others on node.0 node.1, node.2)
      | inr held ↦ inr (with_same some others (λ o. IsDataOf o at) (data_same at) on held)
    ];
  };
}

-- ---- an onode in place of one like it

module _ (onodes : Onodes) (name : List ℕ) (x y : Onode) (here : map.get onodes name ≡ Some x) (same : HaveSame x y) where
  pub replaced_back : HasEach (map.insert onodes name y) onodes
  replaced_back q z e = elim (inserted onodes name y q z e) [
    | inl made ↦ (x, ap (map.get onodes) made.0 ∙ here, record { base = sym (ap (λ (o : Onode). o.base.0) made.1) ∙ sym same.base; size = sym (ap (λ (o : Onode). o.size) made.1) ∙ sym same.size })
    | inr was ↦ (z, was, record { base = refl; size = refl })
  ]

  pub replaced_on : HasEach onodes (map.insert onodes name y)
  replaced_on q z e = by (eq_by_cmp key_order q name) refl
    where
      got : (b : Bool) → eq_by_cmp key_order q name ≡ b → map.get (map.insert onodes name y) q ≡ cond b (Some y) (map.get onodes q)
      got b is = get-insert key_order_total onodes name y q ∙ ap (λ (c : Bool). cond c (Some y) (map.get onodes q)) is

      by : (b : Bool) → eq_by_cmp key_order q name ≡ b → (w : Onode) × (map.get (map.insert onodes name y) q ≡ Some w) × HaveSame z w
      by true is =
          let one : z ≡ x = (let both = sym e ∙ ap (map.get onodes) (tied q name is) ∙ here in cc) in
          (y, got true is, record { base = ap (λ (o : Onode). o.base.0) one ∙ same.base; size = ap (λ (o : Onode). o.size) one ∙ same.size })
      by false is = (z, got false is ∙ e, record { base = refl; size = refl })
