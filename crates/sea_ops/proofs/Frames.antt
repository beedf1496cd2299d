-- What a change of one tree leaves of a store of objects: its other trees, the bytes of all objects, and the uses of its blocks.
use Rattle.std.proofs.Common.{◌≡◌, ◌≢◌, ◌⊎◌, inl, inr, ℕ, zero, suc, ◌+◌, ◌<◌, ◌≤◌, max, List, Option, Some, None, refl, sym, ap, subst, ◌∙◌, arith}
use Rattle.std.proofs.lemmas.Bool.{cases_lt, cases_eq}
use Rattle.std.specs.FinMap as map
use Rattle.sea_base.specs.Space.{Store}
use Rattle.sea_node.specs.Entries.{Values}
use Rattle.sea_object.specs.declared.onode.Onode.{Onode}
use Rattle.sea_onode.specs.Onodes.{Onodes}
use Rattle.sea_onode.specs.Order.{IsInRange}
use Rattle.sea_tree.specs.Tree.{IsTree, IsBelowNode, IsNodeOf, AreApart}
use Rattle.sea_tree.specs.Content.{HasContent}
use Rattle.sea_tree.specs.Changing.{Changed}
use Rattle.sea_tree.proofs.Apart.{IsNodeOf-filled, IsNodeOf-root, HasContent-kept}
use Rattle.sea_tree.proofs.Frames.{NodeAt-kept}
use Rattle.sea_ops.specs.WellFormed.{IsOwnRoot, HasOnodeWith, IsRoot, IsDataOf, AreSharedOut}
use Rattle.sea_ops.specs.Calls.{IsFree}

-- ---- the nodes of a tree in a store that has the same at each of them

below_on : (s t : Store) (level at q : ℕ) → ((p : ℕ) → IsBelowNode s level at p → t p ≡ s p) → IsBelowNode s level at q → IsBelowNode t level at q
below_on s t zero at q same below = below
below_on s t (suc level) at q same (inl here) = inl here
below_on s t (suc level) at q same (inr (entries, node, (entry, c, (child, address, below)))) =
    inr (entries, NodeAt-kept s t at (suc level) entries (same at (inl refl)) node, (entry, c, (child, address, below_on s t level child q (λ p b. same p (inr (entries, node, (entry, c, (child, address, b))))) below)))

below_back : (s t : Store) (level at q : ℕ) → ((p : ℕ) → IsBelowNode s level at p → t p ≡ s p) → IsBelowNode t level at q → IsBelowNode s level at q
below_back s t zero at q same below = below
below_back s t (suc level) at q same (inl here) = inl here
below_back s t (suc level) at q same (inr (entries, node, (entry, c, (child, address, below)))) =
    let was = NodeAt-kept t s at (suc level) entries (sym (same at (inl refl))) node in
    inr (entries, was, (entry, c, (child, address, below_back s t level child q (λ p b. same p (inr (entries, was, (entry, c, (child, address, b))))) below)))

module _ (s t : Store) (root : ℕ) (here : t root ≡ s root) (same : (q : ℕ) → IsNodeOf s root q → t q ≡ s q) where
  pub node_on : (q : ℕ) → IsNodeOf s root q → IsNodeOf t root q
  node_on q (level, (entries, node), below) =
      (level, (entries, NodeAt-kept s t root level entries here node), below_on s t level root q (λ p b. same p (level, (entries, node), b)) below)

  pub node_back : (q : ℕ) → IsNodeOf t root q → IsNodeOf s root q
  node_back q (level, (entries, node), below) =
      let was = NodeAt-kept t s root level entries (sym here) node in
      (level, (entries, was), below_back s t level root q (λ p b. same p (level, (entries, was), b)) below)

-- ---- a store of objects, but for what its trees hold

-- The trees are well formed, the objects have addresses of their own, and the blocks are shared out among them.
pub record Stands (store : Store) (next : ℕ) (onodes : Onodes) : Type 0 where
  pub begun : 2 ≤ next
  pub ranges : (name : List ℕ) (onode : Onode) → map.get onodes name ≡ Some onode → (2 ≤ onode.base.0) × (onode.base.0 + 4098 ≤ next) × (onode.size ≤ 16777216)
  pub apart : (a b : List ℕ) (x y : Onode) (at : ℕ) → map.get onodes a ≡ Some x → map.get onodes b ≡ Some y → IsInRange x at → IsInRange y at → a ≡ b
  pub bounds : (at : ℕ) → store at ≢ None → (1 ≤ at) × (at < next)
  pub trees : (root : ℕ) → IsRoot onodes root → (content : Values) × HasContent store root content
  pub shared : AreSharedOut store onodes

-- what is free is no root
pub never_root : (store : Store) (onodes : Onodes) (q : ℕ) → IsFree store onodes q → IsRoot onodes q → ⊥
never_root store onodes q free (inl one) = omega (arith, one, free.low)
never_root store onodes q free (inr (name, onode, e, inl base)) = free.unused (name, onode, e, (omega (arith, base), omega (arith, base)))
never_root store onodes q free (inr (name, onode, e, inr omap)) = free.unused (name, onode, e, (omega (arith, omap), omega (arith, omap)))

pub root_apart : (store : Store) (onodes : Onodes) (q first last : ℕ) → ((at : ℕ) → first ≤ at → at < last → IsFree store onodes at) → IsRoot onodes q → (q < first) ⊎ (last ≤ q)
root_apart store onodes q first last fresh is_root = elim (cases_lt q first) [
  | inl below ↦ inl below
  | inr from ↦ elim (cases_lt q last) [ inl within ↦ absurd (never_root store onodes q (fresh q from within) is_root) | inr past ↦ inr past ]
]

pub either : (found : Option (List ℕ)) → (found ≡ None) ⊎ (found ≢ None)
either None = inl refl
either (Some block) = inr (λ e. cc)

-- The store as it is has a tree with this content; nothing else is changed but its root, its nodes
-- and what was given; and of these, those that are filled are its nodes.
pub record Reshaped (was is : Store) (root first last : ℕ) (after : Values) : Type 0 where
  pub content : HasContent is root after
  pub elsewhere : (at : ℕ) → at ≢ root → (IsNodeOf was root at → ⊥) → (at < first) ⊎ (last ≤ at) → is at ≡ was at
  pub nodes : (at : ℕ) → IsNodeOf is root at → (at ≡ root) ⊎ (IsNodeOf was root at ⊎ ((first ≤ at) × (at < last)))
  pub left : (at : ℕ) → (at ≡ root) ⊎ (IsNodeOf was root at ⊎ ((first ≤ at) × (at < last))) → is at ≢ None → IsNodeOf is root at

pub reshaped : (was is : Store) (root first last : ℕ) (after : Values) → Changed was is root first last after → Reshaped was is root first last after
reshaped was is root first last after c = record { content = c.content; elsewhere = c.elsewhere; nodes = c.nodes; left = c.left }

module _ (was is : Store) (next first last : ℕ) (onodes : Onodes) (root : ℕ) (after : Values) (s : Stands was next onodes) (of : IsRoot onodes root) (fresh : (at : ℕ) → first ≤ at → at < last → IsFree was onodes at) (c : Reshaped was is root first last after) where
  tree_of : (q : ℕ) → IsRoot onodes q → IsTree was q
  tree_of q is_root = (s.trees q is_root).1.tree

  -- what is filled wasn't given
  outside : (at : ℕ) → was at ≢ None → (at < first) ⊎ (last ≤ at)
  outside at filled = elim (cases_lt at first) [
    | inl below ↦ inl below
    | inr from ↦ elim (cases_lt at last) [ inl within ↦ absurd (filled (fresh at from within).empty) | inr past ↦ inr past ]
  ]

  -- nor was a root
  root_outside : (q : ℕ) → IsRoot onodes q → (q < first) ⊎ (last ≤ q)
  root_outside q is_root = root_apart was onodes q first last fresh is_root

  -- a node of the tree at its root's own address
  own_root : (q : ℕ) → was q ≢ None → q ≡ root → IsNodeOf was root q
  own_root q filled e = subst (IsNodeOf was root) (sym e) (IsNodeOf-root was root (tree_of root of) (subst (λ (n : ℕ). was n ≢ None) e filled))

  module _ (q : ℕ) (is_root : IsRoot onodes q) (differs : q ≢ root) where
    not_mine : (at : ℕ) → IsNodeOf was q at → IsNodeOf was root at → ⊥
    not_mine at node mine = s.shared.apart q root is_root of differs at node mine

    same_at : (at : ℕ) → IsNodeOf was q at → is at ≡ was at
    same_at at node =
        let filled = IsNodeOf-filled was q at (tree_of q is_root) node in
        c.elsewhere at (λ e. not_mine at node (own_root at filled e)) (not_mine at node) (outside at filled)

    same_root : is q ≡ was q
    same_root = c.elsewhere q differs (λ mine. not_mine q (IsNodeOf-root was q (tree_of q is_root) (IsNodeOf-filled was root q (tree_of root of) mine)) mine) (root_outside q is_root)

    -- another tree keeps its content
    pub other_stays : (content : Values) → HasContent was q content → HasContent is q content
    other_stays content has = HasContent-kept was is q same_root same_at content has

    on : (at : ℕ) → IsNodeOf was q at → IsNodeOf is q at
    on = node_on was is q same_root same_at

    back : (at : ℕ) → IsNodeOf is q at → IsNodeOf was q at
    back = node_back was is q same_root same_at

    -- and shares no node with the tree that changed
    apart_now : (at : ℕ) → IsNodeOf is q at → IsNodeOf is root at → ⊥
    apart_now at node mine =
        let old = back at node in
        let filled = IsNodeOf-filled was q at (tree_of q is_root) old in
        elim (c.nodes at mine) [
          | inl e ↦ not_mine at old (own_root at filled e)
          | inr (inl before) ↦ not_mine at old before
          | inr (inr given) ↦ filled (fresh at given.0 given.1).empty
        ]

  -- the address of a data block is that of no tree
  pub data_stays : (name : List ℕ) (onode : Onode) (at : ℕ) → map.get onodes name ≡ Some onode → onode.base.0 + 2 ≤ at → at < onode.base.0 + 4098 → is at ≡ was at
  data_stays name onode at e from below = c.elsewhere at no_root (λ node. no_root (s.shared.alone root at of node (name, onode, e, within))) side
    where
      within : IsInRange onode at
      within = (omega (arith, from), below)

      same : (other : List ℕ) (x : Onode) → map.get onodes other ≡ Some x → IsInRange x at → x ≡ onode
      same other x f inside =
          let here : map.get onodes name ≡ Some x = ap (map.get onodes) (s.apart name other onode x at e f within inside) ∙ f in
          let both = sym here ∙ e in cc

      not_own : (x : Onode) → x ≡ onode → IsOwnRoot x at → ⊥
      not_own x is_it (inl base) = omega (arith, base, ap (λ (o : Onode). o.base.0) is_it, from)
      not_own x is_it (inr omap) = omega (arith, omap, ap (λ (o : Onode). o.base.0) is_it, from)

      none : IsRoot onodes at → ⊥
      none (inl one) = omega (arith, one, (s.ranges name onode e).0, from)
      none (inr (other, x, f, inl base)) = not_own x (same other x f (omega (arith, base), omega (arith, base))) (inl base)
      none (inr (other, x, f, inr omap)) = not_own x (same other x f (omega (arith, omap), omega (arith, omap))) (inr omap)

      no_root : at ≢ root
      no_root is_root = none (subst (IsRoot onodes) (sym is_root) of)

      side : (at < first) ⊎ (last ≤ at)
      side = elim (cases_lt at first) [
        | inl low ↦ inl low
        | inr high ↦ elim (cases_lt at last) [ inl inside ↦ absurd ((fresh at high inside).unused (name, onode, e, within)) | inr past ↦ inr past ]
      ]

  -- ---- the store as it stands then

  kept_apart : (a b : ℕ) → IsRoot onodes a → IsRoot onodes b → a ≢ b → AreApart is a b
  kept_apart a b is_a is_b differs = λ at left right. elim (cases_eq a root) [
    | inl e ↦ apart_now b is_b (λ f. differs (e ∙ sym f)) at right (subst (λ (r : ℕ). IsNodeOf is r at) e left)
    | inr other ↦ elim (cases_eq b root) [
      | inl f ↦ apart_now a is_a other at left (subst (λ (r : ℕ). IsNodeOf is r at) f right)
      | inr another ↦ s.shared.apart a b is_a is_b differs at (back a is_a other at left) (back b is_b another at right)
    ]
  ]

  kept_alone : (q at : ℕ) → IsRoot onodes q → IsNodeOf is q at → HasOnodeWith onodes (λ onode. IsInRange onode at) → at ≡ q
  kept_alone q at is_root node within = elim (cases_eq q root) [
    | inl e ↦ elim (c.nodes at (subst (λ (r : ℕ). IsNodeOf is r at) e node)) [
      | inl here ↦ here ∙ sym e
      | inr (inl before) ↦ s.shared.alone root at of before within ∙ sym e
      | inr (inr given) ↦ absurd ((fresh at given.0 given.1).unused within)
    ]
    | inr other ↦ s.shared.alone q at is_root (back q is_root other at node) within
  ]

  mine_now : (at : ℕ) → is at ≢ None → (at ≡ root) ⊎ (IsNodeOf was root at ⊎ ((first ≤ at) × (at < last))) → (q : ℕ) × IsRoot onodes q × IsNodeOf is q at
  mine_now at filled own = (root, of, c.left at own filled)

  was_used : (at : ℕ) → is at ≢ None → ((q : ℕ) × IsRoot onodes q × IsNodeOf was q at) ⊎ HasOnodeWith onodes (λ onode. IsDataOf onode at) → ((q : ℕ) × IsRoot onodes q × IsNodeOf is q at) ⊎ HasOnodeWith onodes (λ onode. IsDataOf onode at)
  was_used at filled (inl (q, is_root, node)) = elim (cases_eq q root) [
    | inl e ↦ inl (mine_now at filled (inr (inl (subst (λ (r : ℕ). IsNodeOf was r at) e node))))
    | inr other ↦ inl (q, is_root, on q is_root other at node)
  ]
  was_used at filled (inr held) = inr held

  -- what was empty and isn't any more is the tree's
  filled_anew : (at : ℕ) → is at ≢ None → was at ≡ None → (at ≡ root) ⊎ ((first ≤ at) × (at < last))
  filled_anew at filled empty = elim (cases_eq at root) [
    | inl e ↦ inl e
    | inr other ↦
        let kept : (at < first) ⊎ (last ≤ at) → ⊥ = λ side. filled (c.elsewhere at other (λ node. IsNodeOf-filled was root at (tree_of root of) node empty) side ∙ empty) in
        elim (cases_lt at first) [
          | inl below ↦ absurd (kept (inl below))
          | inr from ↦ elim (cases_lt at last) [ inl within ↦ inr (from, within) | inr past ↦ absurd (kept (inr past)) ]
        ]
  ]

  kept_filled : (at : ℕ) → is at ≢ None → ((q : ℕ) × IsRoot onodes q × IsNodeOf is q at) ⊎ HasOnodeWith onodes (λ onode. IsDataOf onode at)
  kept_filled at filled = elim (either (was at)) [
    | inl empty ↦ elim (filled_anew at filled empty) [
      | inl e ↦ inl (mine_now at filled (inl e))
      | inr given ↦ inl (mine_now at filled (inr (inr given)))
    ]
    | inr there ↦ was_used at filled (s.shared.filled at there)
  ]

  root_bounds_are : (q : ℕ) → IsRoot onodes q → (1 ≤ q) × (q < next)
  root_bounds_are q (inl one) = (omega (arith, one), omega (arith, one, s.begun))
  root_bounds_are q (inr (name, onode, e, inl base)) = let r = s.ranges name onode e in (omega (arith, base, r.0), omega (arith, base, r.1))
  root_bounds_are q (inr (name, onode, e, inr omap)) = let r = s.ranges name onode e in (omega (arith, omap, r.0), omega (arith, omap, r.1))

  kept_bounds : (at : ℕ) → is at ≢ None → (1 ≤ at) × (at < max next last)
  kept_bounds at filled = elim (either (was at)) [
    | inl empty ↦ elim (filled_anew at filled empty) [
      | inl e ↦ let b = root_bounds_are root of in (omega (arith, e, b.0), omega (arith, e, b.1))
      | inr given ↦ (omega (arith, (fresh at given.0 given.1).low), omega (arith, given.1))
    ]
    | inr there ↦ let b = s.bounds at there in (b.0, omega (arith, b.1))
  ]

  kept_trees : (q : ℕ) → IsRoot onodes q → (content : Values) × HasContent is q content
  kept_trees q is_root = elim (cases_eq q root) [
    | inl e ↦ (after, subst (λ (r : ℕ). HasContent is r after) (sym e) c.content)
    | inr other ↦ let was_held = s.trees q is_root in (was_held.0, other_stays q is_root other was_held.0 was_held.1)
  ]

  -- The store stands with the same onodes.
  pub stands_still : Stands is (max next last) onodes
  stands_still = record {
    begun = omega (arith, s.begun);
    ranges = λ name onode e. let r = s.ranges name onode e in (r.0, omega (arith, r.1), r.2);
    apart = s.apart;
    bounds = kept_bounds;
    trees = kept_trees;
    shared = record { apart = kept_apart; alone = kept_alone; filled = kept_filled };
  }

  -- What was free and wasn't given is free.
  pub free_still : (at : ℕ) → IsFree was onodes at → ((first ≤ at) × (at < last) → ⊥) → IsFree is onodes at
  free_still at free apart = record { low = free.low; empty = nothing (either (is at)); unused = free.unused }
    where
      nothing : (is at ≡ None) ⊎ (is at ≢ None) → is at ≡ None
      nothing (inl empty) = empty
      nothing (inr there) = elim (filled_anew at there free.empty) [ inl e ↦ absurd (never_root was onodes at free (subst (IsRoot onodes) (sym e) of)) | inr given ↦ absurd (apart given) ]

-- the same where the tree was changed by one call of it
module _ (was is : Store) (next first last : ℕ) (onodes : Onodes) (root : ℕ) (after : Values) (s : Stands was next onodes) (of : IsRoot onodes root) (fresh : (at : ℕ) → first ≤ at → at < last → IsFree was onodes at) (c : Changed was is root first last after) where
  shape : Reshaped was is root first last after
  shape = reshaped was is root first last after c

  pub other_kept : (q : ℕ) → IsRoot onodes q → q ≢ root → (content : Values) → HasContent was q content → HasContent is q content
  other_kept = other_stays was is next first last onodes root after s of fresh shape

  pub data_kept : (name : List ℕ) (onode : Onode) (at : ℕ) → map.get onodes name ≡ Some onode → onode.base.0 + 2 ≤ at → at < onode.base.0 + 4098 → is at ≡ was at
  data_kept = data_stays was is next first last onodes root after s of fresh shape

  pub stands_kept : Stands is (max next last) onodes
  stands_kept = stands_still was is next first last onodes root after s of fresh shape

  pub free_kept : (at : ℕ) → IsFree was onodes at → ((first ≤ at) × (at < last) → ⊥) → IsFree is onodes at
  free_kept = free_still was is next first last onodes root after s of fresh shape
