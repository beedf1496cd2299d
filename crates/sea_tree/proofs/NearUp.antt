-- What rebalancing a node leaves to its parent keeps the parent near its place.
use Rattle.std.proofs.Common.{◌≡◌, ℕ, suc, ◌+◌, ◌≤◌, List, [], ◌∷◌, ◌++◌, length, Option, Some, None, sym, ◌∙◌, ap, subst, inl, inr, arith, append_assoc, length-append}
use Rattle.std.specs.Option.{IfSome}
use Rattle.sea_base.specs.Field.{big_endian}
use Rattle.sea_base.specs.Name.{IsName}
use Rattle.sea_base.specs.Space.{Store, Seen, Found, Agrees, laid, block_found}
use Rattle.sea_base.proofs.Slices.{same_parts}
use Rattle.sea_base.proofs.Fields.{length-big_endian}
use Rattle.sea_node.specs.Entries.{Entry, IsBelow, IsNotAbove, IsRising, size}
use Rattle.sea_node.specs.Node.{IsNode}
use Rattle.sea_node.proofs.Keys.{IsBelowAll, IsRising-split, IsRising-head, IsRising-tail, IsNotAbove-below, not_above_then_below}
use Rattle.sea_tree.specs.declared.edit.Edit.{Edit}
use Rattle.sea_tree.specs.declared.edit.Edit.TheVariants.{Pair, Moved}
use Rattle.sea_tree.specs.declared.path.Step.{Step}
use Rattle.sea_tree.specs.Tree.{Bounds, IsInPlace, IsWithin, LiesWithin, child_bounds, next_key, first_key}
use Rattle.sea_tree.specs.Does.{Change}
use Rattle.sea_tree.specs.Mending.{after_edit, IsNearPlace}
use Rattle.sea_tree.specs.Rebalanced.{Neighbours, Rebalanced}
use Rattle.sea_tree.specs.Path.{StepsDown}
use Rattle.sea_tree.proofs.Splits.{All-middle, All-middle_next, lies_above}
use Rattle.sea_tree.proofs.MendNear.{IsNearPlace-edited, IsNearPlace-moved, size-edited_inner, size-moved_inner, halves}
use Rattle.sea_tree.proofs.MendPair.{AreInPlace, AreInPlace-near, AreInPlace-node, AreInPlace-append}
use Rattle.sea_tree.proofs.MendCut.{halves_placed}

-- a store of what was found, and nothing else: it agrees
found_at : Option Found → Option (List ℕ)
found_at None = None
found_at (Some found) = block_found found

found_store : Seen → Store
unfolding found_at
found_store seen at = found_at (seen.reads at)

agrees_found : (seen : Seen) → Agrees (found_store seen) seen
unfolding found_store found_at
agrees_found seen at found e = ap found_at e

-- The parent's entries after the edit are near their place, and take 75 bytes more at most.
pub record GrowsNear (level : ℕ) (bounds : Bounds) (before after : List Entry) : Type 0 where
  pub near : IsNearPlace level bounds after
  pub grown : size after ≤ size before + 75

-- a pair behind the first entry comes or goes
pair_near : (level : ℕ) (bounds : Bounds) (es : List Entry) (key : List ℕ) (value : Option (List ℕ)) → IsNode (suc level) es → IsInPlace (suc level) bounds es
    → IsName key → IsBelow bounds.lower key → IsWithin key bounds.upper → IfSome value (λ v. length v ≡ 8) → GrowsNear (suc level) bounds es (after_edit (Pair key value) es)
pair_near level bounds es key value node place name above within eight = record {
  near = IsNearPlace-edited (suc level) bounds key value es node place name (short value eight) (IsNotAbove-below bounds.lower key above) within (λ _. (above, eight));
  grown = size-edited_inner (suc level) key value es node name eight;
}
  where
    short : (value : Option (List ℕ)) → IfSome value (λ v. length v ≡ 8) → IfSome value (λ v. length v ≤ 1024)
    short None e = tt
    short (Some v) e = omega (arith, e)

-- a key above an entry's and below the next is above the lower bound, and within the upper one
between : (level : ℕ) (bounds : Bounds) (es before after : List Entry) (entry : Entry) (key : List ℕ) → es ≡ before ++ entry ∷ after → IsInPlace (suc level) bounds es
    → IsBelow entry.0 key → IsWithin key (next_key after bounds.upper) → IsBelow bounds.lower key × IsWithin key bounds.upper
between level bounds es before after entry key split place above within =
    let lies : LiesWithin key bounds = lies_above (suc level) bounds es before after entry key split place (IsNotAbove-below entry.0 key above, within) in
    let low : IsNotAbove bounds.lower entry.0 = All-middle (λ (e : Entry). IsNotAbove bounds.lower e.0) es before after entry split place.lower in
    (not_above_then_below bounds.lower entry.0 key low above, lies.1)

-- Of two splits of one list at the same place the parts are the same.
pub same_split : (a a' b b' : List Entry) (e e' : Entry) → length a ≡ length a' → a ++ e ∷ b ≡ a' ++ e' ∷ b' → (a ≡ a') × (e ≡ e') × (b ≡ b')
same_split a a' b b' e e' long same =
    let parts = same_parts a a' (e ∷ b) (e' ∷ b') long same in
    let rest : e ∷ b ≡ e' ∷ b' = parts.1 in
    (parts.0, cc, cc)

-- two adjacent entries rise, and the second is within the bounds
pub second_lies : (level : ℕ) (bounds : Bounds) (es before after : List Entry) (one two : Entry) → es ≡ before ++ one ∷ two ∷ after → IsNode (suc level) es → IsInPlace (suc level) bounds es → IsBelow one.0 two.0 × IsName two.0 × IsWithin two.0 (next_key after bounds.upper)
second_lies level bounds es before after one two split node place =
    let rising = IsRising-split before (one ∷ two ∷ after) (subst IsRising split node.rising) in
    let behind = IsRising-head one (two ∷ after) rising.1 in
    let name : IsName two.0 = All-middle_next (λ (e : Entry). IsName e.0) es before after one two split node.keys in
    (behind.0, name, within_next after (IsRising-head two after (IsRising-tail one (two ∷ after) rising.1)))
  where
    within_next : (after : List Entry) → IsBelowAll two.0 after → IsWithin two.0 (next_key after bounds.upper)
    within_next [] below = All-middle_next (λ (e : Entry). IsWithin e.0 bounds.upper) es before after one two split place.upper
    within_next (next ∷ after) below = below.0

-- The entries of two neighbours are between the bounds of both.
pub neighbours_placed : (store : Store) (n place : ℕ) (asked : Bounds) (step : Step) (key : List ℕ) (at : ℕ) (below : Bounds) (entries : List Entry) (old new : Seen) → StepsDown store n place asked step key at below → IsNearPlace n below entries
    → (pair : Neighbours n at entries step old new) → AreInPlace n (record { least = 1016; lower = pair.one.0; upper = next_key pair.after asked.upper }) (pair.one_entries ++ pair.two_entries)
neighbours_placed store n place asked step key at below entries old new down near pair =
    let lies = second_lies n asked step.node.entries pair.before pair.after pair.one pair.two pair.split down.node.0.spells.node down.node.1 in
    let merge = AreInPlace-append n 1016 1016 pair.one.0 pair.two.0 (next_key pair.after asked.upper) pair.one_entries pair.two_entries (IsNotAbove-below pair.one.0 pair.two.0 lies.0) lies.2 in
    elim pair.sides [
      | inl left ↦
          let same = same_split down.before pair.before down.after (pair.two ∷ pair.after) down.entry pair.one (down.split.count ∙ left.0) (sym down.split.split ∙ pair.split) in
          let bounds : below ≡ child_bounds pair.one (pair.two ∷ pair.after) asked.upper = down.below_is ∙ (λ i. child_bounds (same.1 i) (same.2 i) asked.upper) in
          let here : AreInPlace n (child_bounds pair.one (pair.two ∷ pair.after) asked.upper) pair.one_entries = subst (AreInPlace n (child_bounds pair.one (pair.two ∷ pair.after) asked.upper)) left.2 (subst (λ (b : Bounds). AreInPlace n b entries) bounds (AreInPlace-near n below entries near)) in
          let there : AreInPlace n (child_bounds pair.two pair.after step.upper) pair.two_entries = AreInPlace-node (laid old (found_store new)) n pair.two_at (child_bounds pair.two pair.after step.upper) pair.two_entries (left.3 (found_store new) (agrees_found new)) in
          merge here (subst (λ (u : Option (List ℕ)). AreInPlace n (child_bounds pair.two pair.after u) pair.two_entries) down.upper_is there)
      | inr right ↦
          let merged : step.node.entries ≡ (pair.before ++ pair.one ∷ []) ++ pair.two ∷ pair.after = pair.split ∙ sym (append_assoc pair.before (pair.one ∷ []) (pair.two ∷ pair.after)) in
          let same = same_split down.before (pair.before ++ pair.one ∷ []) down.after pair.after down.entry pair.two (omega (arith, down.split.count, right.0, length-append pair.before (pair.one ∷ []))) (sym down.split.split ∙ merged) in
          let bounds : below ≡ child_bounds pair.two pair.after asked.upper = down.below_is ∙ (λ i. child_bounds (same.1 i) (same.2 i) asked.upper) in
          let here : AreInPlace n (child_bounds pair.two pair.after asked.upper) pair.two_entries = subst (AreInPlace n (child_bounds pair.two pair.after asked.upper)) right.3 (subst (λ (b : Bounds). AreInPlace n b entries) bounds (AreInPlace-near n below entries near)) in
          let there : AreInPlace n (child_bounds pair.one (pair.two ∷ pair.after) step.upper) pair.one_entries = AreInPlace-node (laid old (found_store new)) n pair.one_at (child_bounds pair.one (pair.two ∷ pair.after) step.upper) pair.one_entries (right.4 (found_store new) (agrees_found new)) in
          merge there here
    ]

-- So what is left to the parent keeps it near its place.
pub near_up : (store : Store) (n place : ℕ) (asked : Bounds) (step : Step) (key : List ℕ) (at : ℕ) (below : Bounds) (entries : List Entry) (old new : Seen) (changes : List Change) (edit : Edit) → StepsDown store n place asked step key at below → IsNearPlace n below entries
    → Rebalanced n at entries step old new changes (Some edit) → GrowsNear (suc n) asked step.node.entries (after_edit edit step.node.entries)
near_up store n place asked step key at below entries old new changes edit down near rebalanced = by_case rebalanced
  where
    es : List Entry
    es = step.node.entries

    node : IsNode (suc n) es
    node = down.node.0.spells.node

    moved_to : (e : Edit) → Some edit ≡ Some e → GrowsNear (suc n) asked es (after_edit e es) → GrowsNear (suc n) asked es (after_edit edit es)
    moved_to e is grows = let same : e ≡ edit = cc in subst (λ (x : Edit). GrowsNear (suc n) asked es (after_edit x es)) same grows

    by_case : Rebalanced n at entries step old new changes (Some edit) → GrowsNear (suc n) asked es (after_edit edit es)
    by_case (inl f) = let clash : Some edit ≡ None = f.nothing in absurd (cc)
    by_case (inr (inl s)) =
        let parts = halves n below s.front s.back (subst (IsNearPlace n below) s.cut near) s.front_part s.back_part in
        let lies = between n asked es down.before down.after down.entry (first_key s.back) down.split.split down.node.1
        (subst (λ (b : Bounds). IsBelow b.lower (first_key s.back)) down.below_is parts.above) (subst (λ (b : Bounds). IsWithin (first_key s.back) b.upper) down.below_is parts.within) in
        moved_to (Pair (first_key s.back) (Some (big_endian 8 old.next))) s.parent
        (pair_near n asked es (first_key s.back) (Some (big_endian 8 old.next)) node down.node.1 parts.name lies.0 lies.1 (length-big_endian 8 old.next))
    by_case (inr (inr (inl j))) =
        let pair = j.pair in
        let lies = second_lies n asked es pair.before pair.after pair.one pair.two pair.split node down.node.1 in
        let low : IsBelow asked.lower pair.two.0 = not_above_then_below asked.lower pair.one.0 pair.two.0 (All-middle (λ (e : Entry). IsNotAbove asked.lower e.0) es pair.before (pair.two ∷ pair.after) pair.one pair.split down.node.1.lower) lies.0 in
        let high : IsWithin pair.two.0 asked.upper = All-middle_next (λ (e : Entry). IsWithin e.0 asked.upper) es pair.before pair.after pair.one pair.two pair.split down.node.1.upper in
        moved_to (Pair pair.two.0 None) j.parent_edit
        (pair_near n asked es pair.two.0 None node down.node.1 lies.1 low high tt)
    by_case (inr (inr (inr c))) = elim c.parent_edit [
      | inl here ↦
          let pair = c.pair in
          let placed = neighbours_placed store n place asked step key at below entries old new down near pair in
          let bounds : Bounds = record { least = 1016; lower = pair.one.0; upper = next_key pair.after asked.upper } in
          let parts = halves_placed n bounds c.front c.back (subst (AreInPlace n bounds) c.cut placed) c.front_part c.back_part in
          moved_to (Moved pair.two.0 (first_key c.back)) here (record {
            near = IsNearPlace-moved (suc n) asked es pair.before pair.one pair.two.0 (first_key c.back) pair.two.1 pair.after pair.split node down.node.1 parts.name parts.above parts.within;
            grown = size-moved_inner (suc n) es pair.before pair.one pair.two.0 (first_key c.back) pair.two.1 pair.after pair.split node (omega arith) parts.name;
          })
      | inr stays ↦ (let clash : Some edit ≡ None = stays.0 in absurd (cc))
    ]
