-- What rebalancing a node leaves to its parent is the mending of the parent.
use Rattle.std.proofs.Common.{◌≡◌, ◌⊎◌, ℕ, suc, ◌+◌, ◌<◌, ◌≤◌, ◌^◌, List, [], ◌∷◌, ◌++◌, length, drop, get_or, Option, Some, None, refl, sym, ap, subst, ◌∙◌, inl, inr, arith, append_assoc, length-append}
use Rattle.sea_base.specs.Field.{big_endian}
use Rattle.sea_base.specs.Space.{Store, Seen, Agrees, laid}
use Rattle.sea_base.proofs.Slices.{same_parts}
use Rattle.sea_node.specs.Entries.{Entry, size}
use Rattle.sea_node.specs.Node.{IsNode, node_bytes}
use Rattle.sea_tree.specs.declared.edit.Edit.{Edit}
use Rattle.sea_tree.specs.declared.edit.Edit.TheVariants.{Pair, Moved}
use Rattle.sea_tree.specs.declared.path.Step.{Step}
use Rattle.sea_tree.specs.Tree.{Bounds, first_key, child_bounds}
use Rattle.sea_tree.specs.Breaks.{HasNode}
use Rattle.sea_tree.specs.Does.{Change, overlaid}
use Rattle.sea_tree.specs.Path.{StepsDown}
use Rattle.sea_tree.specs.Reads.{ReadsOnly}
use Rattle.sea_tree.specs.Rebalanced.{Fits, Neighbours, Merges, Redistributes, Rebalanced}
use Rattle.sea_tree.specs.Subtrees.{Holds}
use Rattle.sea_tree.specs.Mending.{after_edit, Aim, Mending, Replaced, IsPart}
use Rattle.sea_tree.proofs.Frames.{HasNode-kept}
use Rattle.sea_tree.proofs.Mending.{fits_replaced, up_replaced}
use Rattle.sea_tree.proofs.MendNear.{IsNode-filled, halves}
use Rattle.sea_tree.proofs.MendSplit.{IsFree, given_more, split_mended, split_puts}
use Rattle.sea_tree.proofs.MendPair.{Paired, pair_left, pair_right}
use Rattle.sea_tree.proofs.MendMerge.{merge_mended}
use Rattle.sea_tree.proofs.MendCut.{cut_mended, cut_replaced}

-- The change is made below a node that is to have an edit still, or in its whole subtree, where none is left.
abbrev pub IsMended : Store → Store → ℕ → ℕ → Bounds → List Entry → Aim → Option Edit → Type 0
IsMended was is level at bounds entries aim None = Replaced was is level level at bounds aim
IsMended was is level at bounds entries aim (Some edit) = Mending was is level at bounds entries (after_edit edit entries) aim

-- an aim whose given addresses end elsewhere
abbrev pub aim_to : ℕ → Aim → Aim
aim_to last aim = record aim { last = last }

-- an entry at a place is one alone
one_place : (a a' b b' : List Entry) (e e' : Entry) → length a ≡ length a' → a ++ (e ∷ b) ≡ a' ++ (e' ∷ b') → (a ≡ a') × (e ≡ e') × (b ≡ b')
one_place a a' b b' e e' long same =
    let parts = same_parts a a' (e ∷ b) (e' ∷ b') long same in
    (parts.0, ap (λ (es : List Entry). get_or es 0 e) parts.1, ap (λ (es : List Entry). drop 1 es) parts.1)

-- a mending at one place is one at another that is the same
at_place : (was is : Store) (level x y : ℕ) (one two : Bounds) (before es fs : List Entry) (aim : Aim) → x ≡ y → one ≡ two → es ≡ fs → Mending was is level x one before es aim → Mending was is level y two before fs aim
at_place was is level x y one two before es fs aim places bounds entries m =
    subst (λ (l : List Entry). Mending was is level y two before l aim) entries (subst (λ (b : Bounds). Mending was is level y b before es aim) bounds (subst (λ (q : ℕ). Mending was is level q one before es aim) places m))

module _ (was is : Store) (level top : ℕ) (bounds : Bounds) (pairs : List Entry) (nodes : List ℕ) (step : Step) (key : List ℕ) (at : ℕ) (below : Bounds) (before entries : List Entry) (aim : Aim) (holds : Holds was (suc level) top bounds pairs nodes) (down : StepsDown was level top bounds step key at below) (m : Mending was is level at below before entries aim) where
  module _ (old new : Seen) (store : Store) (agrees : Agrees store new) (view : (q : ℕ) → was q ≡ laid old store q) (free : IsFree was aim) where
    -- a node that was read stands in the store as it was
    read_node : (other : ℕ) (asked : Option (List ℕ) → Bounds) (found : List Entry) → ((s : Store) → Agrees s new → HasNode (laid old s) level other (asked step.upper) found) → HasNode was level other (asked bounds.upper) found
    read_node other asked found read =
        subst (λ (u : Option (List ℕ)). HasNode was level other (asked u) found) down.upper_is (HasNode-kept (laid old store) was level other (asked step.upper) found (view other) (read store agrees))

    -- the parent's entries, with the two that lead to the neighbours
    split_node : (n : Neighbours level at entries step old new) → HasNode was (suc level) top bounds (n.before ++ (n.one ∷ (n.two ∷ n.after)))
    split_node n = subst (HasNode was (suc level) top bounds) n.split down.node

    -- The node in hand and its neighbour.
    pub neighbours_paired : (n : Neighbours level at entries step old new) → Paired was is level top bounds n.before n.one n.two n.after n.one_at n.two_at (n.one_entries ++ n.two_entries) aim
    neighbours_paired n = by_side n.sides
      where
        by_side : ((step.index ≡ length n.before) × (at ≡ n.one_at) × (entries ≡ n.one_entries)
            × ((s : Store) → Agrees s new → HasNode (laid old s) level n.two_at (child_bounds n.two n.after step.upper) n.two_entries) × ReadsOnly n.two_at old new)
            ⊎ ((step.index ≡ length n.before + 1) × (n.after ≡ []) × (at ≡ n.two_at) × (entries ≡ n.two_entries)
            × ((s : Store) → Agrees s new → HasNode (laid old s) level n.one_at (child_bounds n.one (n.two ∷ n.after) step.upper) n.one_entries) × ReadsOnly n.one_at old new)
            → Paired was is level top bounds n.before n.one n.two n.after n.one_at n.two_at (n.one_entries ++ n.two_entries) aim
        by_side (inl left) =
            let same = one_place down.before n.before down.after (n.two ∷ n.after) down.entry n.one (down.split.count ∙ left.0) (sym down.split.split ∙ n.split) in
            let asked : below ≡ child_bounds n.one (n.two ∷ n.after) bounds.upper = down.below_is ∙ (λ i. child_bounds (same.1 i) (same.2 i) bounds.upper) in
            let here : Mending was is level n.one_at (child_bounds n.one (n.two ∷ n.after) bounds.upper) before n.one_entries aim = at_place was is level at n.one_at below (child_bounds n.one (n.two ∷ n.after) bounds.upper) before entries n.one_entries aim left.1 asked left.2 m in
            pair_left was is level top bounds pairs nodes n.before n.one n.two n.after n.one_at n.two_at aim holds (split_node n) n.one_address n.two_address free before n.one_entries n.two_entries here
            (read_node n.two_at (child_bounds n.two n.after) n.two_entries left.3)
        by_side (inr right) =
            let merged : step.node.entries ≡ (n.before ++ (n.one ∷ [])) ++ (n.two ∷ n.after) = n.split ∙ sym (append_assoc n.before (n.one ∷ []) (n.two ∷ n.after)) in
            let same = one_place down.before (n.before ++ (n.one ∷ [])) down.after n.after down.entry n.two (omega (arith, down.split.count, right.0, length-append n.before (n.one ∷ []))) (sym down.split.split ∙ merged) in
            let asked : below ≡ child_bounds n.two n.after bounds.upper = down.below_is ∙ (λ i. child_bounds (same.1 i) (same.2 i) bounds.upper) in
            let here : Mending was is level n.two_at (child_bounds n.two n.after bounds.upper) before n.two_entries aim = at_place was is level at n.two_at below (child_bounds n.two n.after bounds.upper) before entries n.two_entries aim right.2 asked right.3 m in
            pair_right was is level top bounds pairs nodes n.before n.one n.two n.after n.one_at n.two_at aim holds (split_node n) n.one_address n.two_address free before n.two_entries n.one_entries here
            (read_node n.one_at (child_bounds n.one (n.two ∷ n.after)) n.one_entries right.4)

    -- They become one.
    pub merges_mended : (is' : Store) (changes : List Change) (left : Option Edit) → Merges level at entries step old new changes left → ((q : ℕ) → is' q ≡ overlaid changes is q) → IsMended was is' (suc level) top bounds step.node.entries aim left
    merges_mended is' changes left j same =
        let n = j.pair in
        let whole = n.before ++ (n.one ∷ (n.two ∷ n.after)) in
        let done : Mending was is' (suc level) top bounds whole (after_edit (Pair n.two.0 None) whole) aim = merge_mended was is is' level top bounds n.before n.one n.two n.after n.one_at n.two_at (n.one_entries ++ n.two_entries) aim (neighbours_paired n) free j.room
        (λ q. same q ∙ ap (λ (cs : List Change). overlaid cs is q) j.planned) in
        subst (IsMended was is' (suc level) top bounds step.node.entries aim) (sym j.parent_edit)
        (subst (λ (es : List Entry). Mending was is' (suc level) top bounds es (after_edit (Pair n.two.0 None) es) aim) (sym n.split) done)

    -- They are redistributed.
    pub redistributes_mended : (is' : Store) (changes : List Change) (left : Option Edit) → Redistributes level at entries step old new changes left → ((q : ℕ) → is' q ≡ overlaid changes is q) → IsMended was is' (suc level) top bounds step.node.entries aim left
    redistributes_mended is' changes left c same =
        let n = c.pair in
        let whole = n.before ++ (n.one ∷ (n.two ∷ n.after)) in
        let both = n.one_entries ++ n.two_entries in
        let puts : (q : ℕ) → is' q ≡ overlaid ((n.two_at, Some (node_bytes level c.back)) ∷ (n.one_at, Some (node_bytes level c.front)) ∷ []) is q = λ q. same q ∙ ap (λ (cs : List Change). overlaid cs is q) c.planned in
        elim c.parent_edit [
          | inl edit ↦
              let done : Mending was is' (suc level) top bounds whole (after_edit (Moved n.two.0 (first_key c.back)) whole) aim = cut_mended was is is' level top bounds n.before n.one n.two n.after n.one_at n.two_at both c.front c.back aim (neighbours_paired n) free c.cut c.front_part c.back_part puts in
              subst (IsMended was is' (suc level) top bounds step.node.entries aim) (sym edit)
              (subst (λ (es : List Entry). Mending was is' (suc level) top bounds es (after_edit (Moved n.two.0 (first_key c.back)) es) aim) (sym n.split) done)
          | inr stays ↦ subst (IsMended was is' (suc level) top bounds step.node.entries aim) (sym stays.0)
              (cut_replaced was is is' level top bounds n.before n.one n.two n.after n.one_at n.two_at both c.front c.back aim (neighbours_paired n) free c.cut c.front_part c.back_part stays.1 puts)
        ]

    -- The node in hand has a good size, and is written.
    pub fits_mended : (is' : Store) (changes : List Change) (left : Option Edit) → Fits level at entries old new changes left → ((q : ℕ) → is' q ≡ overlaid changes is q) → IsMended was is' (suc level) top bounds step.node.entries aim left
    fits_mended is' changes left f same =
        let least : below.least ≡ 1016 = ap (λ (c : Bounds). c.least) down.below_is in
        let written : Replaced was is' level level at below aim = fits_replaced was is is' level at below before entries aim m free (IsNode-filled level below entries m.near (f.filled, f.room)) (omega (arith, least, f.filled))
        (λ q. same q ∙ ap (λ (cs : List Change). overlaid cs is q) f.planned) in
        subst (IsMended was is' (suc level) top bounds step.node.entries aim) (sym f.nothing)
        (up_replaced was is' level at top bounds pairs nodes step.node.entries down.before down.entry down.after aim holds down.node down.split.split down.address
        (subst (λ (c : Bounds). Replaced was is' level level at c aim) down.below_is written) free)

  module _ (old new : Seen) (store : Store) (agrees : Agrees store new) (view : (q : ℕ) → was q ≡ laid old store q) (ordered : aim.first ≤ aim.last) (last : aim.last ≡ old.next) (small : old.next < 2 ^ 64) (free : IsFree was (aim_to new.next aim)) where
    -- no address was given
    none_given : new.next ≡ old.next → aim ≡ aim_to new.next aim
    none_given next = ap (λ (n : ℕ). aim_to n aim) (last ∙ sym next)

    -- one was, and the node in hand is split
    split_here : (is' : Store) (front back : List Entry) → entries ≡ front ++ back → IsPart front → IsPart back → new.next ≡ old.next + 1 → ((q : ℕ) → is' q ≡ overlaid ((old.next, Some (node_bytes level back)) ∷ (at, Some (node_bytes level front)) ∷ []) is q) → IsMended was is' (suc level) top bounds step.node.entries (aim_to new.next aim) (Some (Pair (first_key back) (Some (big_endian 8 old.next))))
    split_here is' front back cut front_part back_part next same =
        let more : aim_to new.next aim ≡ given_more 1 aim = ap (λ (n : ℕ). aim_to n aim) (omega (arith, next, last)) in
        let free_more : IsFree was (given_more 1 aim) = subst (IsFree was) more free in
        let here : Mending was is level at (child_bounds down.entry down.after bounds.upper) before (front ++ back) aim = at_place was is level at at below (child_bounds down.entry down.after bounds.upper) before entries (front ++ back) aim refl down.below_is cut m in
        let puts = split_puts was is is' level at below before entries front back aim m ordered free_more (λ q. same q ∙ ap (λ (n : ℕ). overlaid ((n, Some (node_bytes level back)) ∷ (at, Some (node_bytes level front)) ∷ []) is q) (sym last)) in
        let done = split_mended was is is' level at top bounds pairs nodes step.node.entries down.before down.entry down.after before front back aim holds down.node down.split.split down.address here front_part back_part ordered (omega (arith, last, small)) free_more puts in
        subst (λ (n : ℕ). Mending was is' (suc level) top bounds step.node.entries (after_edit (Pair (first_key back) (Some (big_endian 8 n))) step.node.entries) (aim_to new.next aim)) last
        (subst (Mending was is' (suc level) top bounds step.node.entries (after_edit (Pair (first_key back) (Some (big_endian 8 aim.last))) step.node.entries)) (sym more) done)

    -- However a node below the root is rebalanced, its parent is mended.
    pub rebalanced_mended : (is' : Store) (changes : List Change) (left : Option Edit) → Rebalanced level at entries step old new changes left → ((q : ℕ) → is' q ≡ overlaid changes is q) → IsMended was is' (suc level) top bounds step.node.entries (aim_to new.next aim) left
    rebalanced_mended is' changes left (inl f) same =
        let aims = none_given f.next in
        subst (λ (a : Aim). IsMended was is' (suc level) top bounds step.node.entries a left) aims (fits_mended old new store agrees view (subst (IsFree was) (sym aims) free) is' changes left f same)
    rebalanced_mended is' changes left (inr (inl s)) same =
        subst (IsMended was is' (suc level) top bounds step.node.entries (aim_to new.next aim)) (sym s.parent)
        (split_here is' s.front s.back s.cut s.front_part s.back_part s.next (λ q. same q ∙ ap (λ (cs : List Change). overlaid cs is q) s.planned))
    rebalanced_mended is' changes left (inr (inr (inl j))) same =
        let aims = none_given j.next in
        subst (λ (a : Aim). IsMended was is' (suc level) top bounds step.node.entries a left) aims (merges_mended old new store agrees view (subst (IsFree was) (sym aims) free) is' changes left j same)
    rebalanced_mended is' changes left (inr (inr (inr c))) same =
        let aims = none_given c.next in
        subst (λ (a : Aim). IsMended was is' (suc level) top bounds step.node.entries a left) aims (redistributes_mended old new store agrees view (subst (IsFree was) (sym aims) free) is' changes left c same)
