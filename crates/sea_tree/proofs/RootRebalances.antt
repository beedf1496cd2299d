-- Rebalancing a root: what a plan leaves at an address, and what the root is rebalanced to.
use Rattle.std.proofs.Common.{◌≡◌, ℕ, zero, suc, ◌+◌, ◌<◌, ◌≤◌, ◌==◌, ◌||◌, Bool, true, false, cond, List, [], ◌∷◌, ◌++◌, length, get_or, take, map, reverse, Option, Some, None, refl, sym, ap, subst, ◌∙◌, arith, add-one}
use Rattle.std.proofs.lemmas.Bool.{true≢false}
use Rattle.std.proofs.lemmas.List.{map-append, reverse-append, take_all}
use Rattle.sea_base.specs.Space.{Store, Seen, IsKnown, IsSound, Agrees, laid}
use Rattle.sea_base.proofs.Spaces.{laid_known}
use Rattle.sea_node.specs.declared.node.Node.{Node}
use Rattle.sea_node.specs.Entries.{Entry, size}
use Rattle.sea_node.specs.Node.{IsNode, node_bytes}
use Rattle.sea_tree.specs.declared.plan.Write.{Write}
use Rattle.sea_tree.specs.Tree.{NodeAt, root_bounds, IsAddress}
use Rattle.sea_tree.specs.Breaks.{HasNode, IsFull}
use Rattle.sea_tree.specs.Mending.{IsNearPlace}
use Rattle.sea_tree.specs.Rebalanced.{AreHalves}
use Rattle.sea_tree.specs.Changing.{root_entries, RootFits, RootSplits, RootCollapses, RootEmpties}
use Rattle.sea_tree.specs.Does.{Change, overlaid, is_among}
use Rattle.sea_tree.specs.declared.splice.Splice.{Splice}
use Rattle.sea_tree.specs.Plan.{change_of, changes_of, spliced_before}
use Rattle.sea_tree.proofs.Doing.{is_among-append}
use Rattle.sea_tree.proofs.MendNear.{halves, IsNode-near}
use Rattle.sea_tree.proofs.MendRoot.{IsNode-root}

-- ---- what stands at an address once a plan is carried out

changes_reversed : (plan : List Write) → changes_of plan ≡ map change_of (reverse plan)
changes_reversed [] = refl
changes_reversed (w ∷ plan) =
    reverse-append (change_of w ∷ []) (map change_of plan)
    ∙ ap (λ (cs : List Change). cs ++ change_of w ∷ []) (changes_reversed plan)
    ∙ sym (map-append change_of (reverse plan) (w ∷ []))
    ∙ ap (map change_of) (sym (reverse-append (w ∷ []) plan))

module _ (at : ℕ) where
  -- none of so many writes is of the address
  abbrev pub Passes : List Write → ℕ → Type 0
  Passes writes n = is_among (map change_of (take n writes)) at ≡ false

  pub passes_more : (writes : List Write) (n : ℕ) (w : Write) → n < length writes → w ≡ get_or writes n w → (at == (change_of w).0) ≡ false → Passes writes n → Passes writes (suc n)
  passes_more [] n w within is apart passes = absurd (omega arith)
  passes_more (x ∷ writes) zero w within is apart passes =
      ap (λ (v : Write). at == (change_of v).0 || false) (sym is) ∙ ap (λ (b : Bool). b || false) apart
  passes_more (x ∷ writes) (suc n) w within is apart passes =
      elim (at == (change_of x).0) as (λ b. (b || is_among (map change_of (take n writes)) at) ≡ false → (b || is_among (map change_of (take (suc n) writes)) at) ≡ false) [
        | true ↦ λ e. e
        | false ↦ λ e. passes_more writes n w (omega arith) is apart e
      ] passes

  -- one of them is
  among_found : (writes : List Write) (n : ℕ) (w : Write) → n < length writes → w ≡ get_or writes n w → (at == (change_of w).0) ≡ true → is_among (map change_of writes) at ≡ true
  among_found [] n w within is here = absurd (omega arith)
  among_found (x ∷ writes) zero w within is here =
      ap (λ (v : Write). at == (change_of v).0 || is_among (map change_of writes) at) (sym is) ∙ ap (λ (b : Bool). b || is_among (map change_of writes) at) here
  among_found (x ∷ writes) (suc n) w within is here =
      elim (at == (change_of x).0) as (λ b. (b || is_among (map change_of writes) at) ≡ true) [
        | true ↦ refl
        | false ↦ among_found writes n w (omega arith) is here
      ]

  among_reversed : (changes : List Change) → is_among (reverse changes) at ≡ is_among changes at
  among_reversed [] = refl
  among_reversed (c ∷ changes) =
      ap (λ (cs : List Change). is_among cs at) (reverse-append (c ∷ []) changes)
      ∙ is_among-append (reverse changes) (c ∷ []) at
      ∙ ap (λ (b : Bool). b || (at == c.0 || false)) (among_reversed changes)
      ∙ swapped (at == c.0) (is_among changes at)
    where
      swapped : (a b : Bool) → (b || (a || false)) ≡ (a || b)
      swapped true true = refl
      swapped true false = refl
      swapped false true = refl
      swapped false false = refl

  pub is_planned_found : (writes : List Write) (n : ℕ) (w : Write) → n < length writes → w ≡ get_or writes n w → (at == (change_of w).0) ≡ true → is_among (changes_of writes) at ≡ true
  is_planned_found writes n w within is here = among_reversed (map change_of writes) ∙ among_found writes n w within is here

  pub is_planned_none : (writes : List Write) (n : ℕ) → length writes ≤ n → Passes writes n → is_among (changes_of writes) at ≡ false
  is_planned_none writes n all passes = among_reversed (map change_of writes) ∙ ap (λ (ws : List Write). is_among (map change_of ws) at) (sym (take_all n writes all)) ∙ passes

  module _ (store : Store) where
    stands : (writes : List Write) (n : ℕ) (w : Write) → n < length writes → w ≡ get_or writes n w → (at == (change_of w).0) ≡ true → Passes writes n → overlaid (map change_of writes) store at ≡ (change_of w).1
    stands [] n w within is here passes = absurd (omega arith)
    stands (x ∷ writes) zero w within is here passes =
        ap (λ (v : Write). cond (at == (change_of v).0) (change_of v).1 (overlaid (map change_of writes) store at)) (sym is)
        ∙ ap (λ (b : Bool). cond b (change_of w).1 (overlaid (map change_of writes) store at)) here
    stands (x ∷ writes) (suc n) w within is here passes =
        elim (at == (change_of x).0) as (λ b. (b || is_among (map change_of (take n writes)) at) ≡ false → cond b (change_of x).1 (overlaid (map change_of writes) store at) ≡ (change_of w).1) [
          | true ↦ λ e. absurd (true≢false e)
          | false ↦ λ e. stands writes n w (omega arith) is here e
        ] passes

    -- the last write of the address stands there
    pub planned_last : (plan : List Write) (n : ℕ) (w : Write) → n < length (reverse plan) → w ≡ get_or (reverse plan) n w → (at == (change_of w).0) ≡ true → Passes (reverse plan) n → (change_of w).1 ≡ overlaid (changes_of plan) store at
    planned_last plan n w within is here passes =
        sym (ap (λ (cs : List Change). overlaid cs store at) (changes_reversed plan) ∙ stands (reverse plan) n w within is here passes)

  -- without one, nothing is planned there
  pub planned_absent : (plan : List Write) (n : ℕ) → length (reverse plan) ≤ n → Passes (reverse plan) n → is_among (changes_of plan) at ≡ false
  planned_absent plan n all passes =
      ap (λ (cs : List Change). is_among cs at) (changes_reversed plan)
      ∙ subst (λ (writes : List Write). is_among (map change_of writes) at ≡ false) (take_all n (reverse plan) all) passes

-- one write more
pub changes_push : (plan : List Write) (w : Write) → changes_of (plan ++ w ∷ []) ≡ change_of w ∷ changes_of plan
changes_push plan w = ap (λ (cs : List Change). reverse cs) (map-append change_of plan (w ∷ [])) ∙ reverse-append (map change_of plan) (change_of w ∷ [])

-- ---- the root

-- what is planned behind what was planned before
abbrev pub Planned : List Change → List Change → (List Change → Type 0) → Type 0
Planned before after P = (changes : List Change) × (after ≡ changes ++ before) × P changes

module _ (level root : ℕ) (entries : List Entry) (near : IsNearPlace level root_bounds entries) where
  pub root_fits : (seen : Seen) (before after : List Change) → 1 ≤ length entries → (1 ≤ level → 2 ≤ length entries) → size entries ≤ 4064 → after ≡ (root, Some (node_bytes level entries)) ∷ before → Planned before after (RootFits level root entries seen seen)
  root_fits seen before after some two fits planned = (
    (root, Some (node_bytes level entries)) ∷ [],
    planned,
    record { node = IsNode-near level root_bounds entries near some two fits; planned = refl; next = refl },
  )

  none_below : (n : ℕ) → (1 ≤ n → 1 ≤ length entries) → length entries ≡ 0 → n ≡ 0
  none_below zero some none = refl
  none_below (suc n) some none = absurd (let one = some (omega arith) in omega arith)

  no_entries : (es : List Entry) → length es ≡ 0 → es ≡ []
  no_entries [] none = refl
  no_entries (e ∷ es) none = absurd (omega arith)

  pub root_empties : (seen : Seen) (before after : List Change) → length entries ≡ 0 → after ≡ (root, None) ∷ before → Planned before after (RootEmpties level root entries seen seen)
  root_empties seen before after none planned = (
    (root, None) ∷ [],
    planned,
    record { leaf = none_below level (λ h. (near.first h).0) none; empty = no_entries entries none; planned = refl; next = refl },
  )

  module _ (front back : Node) (are : AreHalves level entries front back) (low : level < 7) (over : List Entry) (first : ℕ) (is_over : over ≡ root_entries first back.entries) where
    -- the root over two halves is a node
    pub node_over : IsNode (level + 1) over
    node_over =
        let parts = halves level root_bounds front.entries back.entries (subst (IsNearPlace level root_bounds) are.cut near) are.front_part are.back_part in
        let node = IsNode-root level first back.entries low parts.name parts.above in
        subst (λ (l : ℕ). IsNode l over) (sym (add-one level)) (subst (IsNode (suc level)) (sym is_over) node)

    pub root_splits : (old new : Seen) (before one two three : List Change) → 4064 < size entries → first ≡ old.next → new.next ≡ old.next + 2 → one ≡ (first, Some (node_bytes front.level front.entries)) ∷ before → two ≡ (first + 1, Some (node_bytes back.level back.entries)) ∷ one → three ≡ (root, Some (node_bytes (level + 1) over)) ∷ two → Planned before three (RootSplits level root entries old new)
    root_splits old new before one two three large is_first next is_one is_two is_three =
        let whole : over ≡ root_entries old.next back.entries = is_over ∙ ap (λ (n : ℕ). root_entries n back.entries) is_first in (
          (root, Some (node_bytes (level + 1) over)) ∷ (first + 1, Some (node_bytes back.level back.entries)) ∷ (first, Some (node_bytes front.level front.entries)) ∷ [],
          is_three ∙ ap (λ (cs : List Change). (root, Some (node_bytes (level + 1) over)) ∷ cs) (is_two ∙ ap (λ (cs : List Change). (first + 1, Some (node_bytes back.level back.entries)) ∷ cs) is_one),
          record {
            front = front.entries;
            back = back.entries;
            low = low;
            large = large;
            cut = are.cut;
            is_cut = are.is_cut;
            front_part = are.front_part;
            back_part = are.back_part;
            planned = λ j. (root, Some (node_bytes (add-one level j) (whole j))) ∷ (is_first j + 1, Some (node_bytes (are.back_level j) back.entries)) ∷ (is_first j, Some (node_bytes (are.front_level j) front.entries)) ∷ [];
            next = next;
          },
        )

-- the root takes what is to stand at its one child
pub root_collapses : (level root : ℕ) (entries : List Entry) (first : Entry) (child : ℕ) (block : Option (List ℕ)) (seen : Seen) (before one two : List Change) → 1 ≤ level → length entries ≡ 1 → IsAddress (get_or entries 0 first).1 child → ((store : Store) → block ≡ overlaid before store child) → one ≡ (root, block) ∷ before → two ≡ (child, None) ∷ one → Planned before two (RootCollapses level root entries seen seen before)
root_collapses zero root entries first child block seen before one two above alone address stands is_one is_two = absurd (omega arith)
root_collapses (suc below) root [] first child block seen before one two above alone address stands is_one is_two = absurd (omega arith)
root_collapses (suc below) root (only ∷ []) first child block seen before one two above alone address stands is_one is_two = (
  (child, None) ∷ (root, block) ∷ [],
  is_two ∙ ap (λ (cs : List Change). (child, None) ∷ cs) is_one,
  record {
    below = below;
    only = only;
    child = child;
    block = block;
    level_is = refl;
    one = refl;
    address = address;
    child_block = stands;
    planned = refl;
    next = refl;
  },
)
root_collapses (suc below) root (only ∷ another ∷ rest) first child block seen before one two above alone address stands is_one is_two = absurd (omega arith)

-- the only entry is the first
pub only_first : (entries : List Entry) (first : Entry) → length entries ≡ 1 → (only : Entry) × (entries ≡ only ∷ []) × (get_or entries 0 first ≡ only)
only_first [] first one = absurd (omega (arith, one))
only_first (only ∷ []) first one = (only, refl, refl)
only_first (only ∷ another ∷ rest) first one = absurd (omega (arith, one))

-- A plan without a splice rebalances the root as its writes do, and writes all whole.
pub rebalanced_whole : (s : Option Splice) (before after : List Change) (How : List Change → List Change → Type 0) → s ≡ None
    → (changes : List Change) × (after ≡ changes ++ before) × How before changes
    → (changes : List Change) × (spliced_before s after ≡ changes ++ spliced_before s before) × How (spliced_before s before) changes
rebalanced_whole s before after How none done =
    subst (λ (o : Option Splice). (changes : List Change) × (spliced_before o after ≡ changes ++ spliced_before o before) × How (spliced_before o before) changes) (sym none) done

-- a root of the highest level with too many entries can't grow
pub root_full : (seen : Seen) (level root : ℕ) (entries : List Entry) → IsSound seen → IsKnown seen root → HasNode seen.view level root root_bounds entries → level ≡ 7 → 3989 < size entries → (store : Store) → Agrees store seen → IsFull (laid seen store) root
root_full seen level root entries sound known has seven large store agrees =
    let node = subst (λ (l : ℕ). NodeAt seen.view root l entries) seven has.0 in
    (entries, record { bytes = node.bytes; here = laid_known seen store sound agrees root known ∙ node.here; spells = node.spells }, large)
