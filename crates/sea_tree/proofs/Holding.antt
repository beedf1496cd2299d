-- Subtrees with their pairs and nodes: that they are those of the specs, and what their keys are.
use Rattle.std.proofs.Common.{◌≡◌, ◌⊎◌, ℕ, zero, suc, List, [], ◌∷◌, ◌++◌, Option, Some, None, refl, sym, ap, subst, ◌∙◌, inl, inr, arith, append_assoc, append-nil}
use Rattle.std.specs.Prelude.{◌↔◌}
use Rattle.std.specs.List.{All, Contains}
use Rattle.std.proofs.lemmas.List.Elements.{All-nil, All-cons, All-head, All-tail, All-append, All-weaker, Contains-append_left, Contains-append_right, Contains-push, Contains-push_cases, Contains-append_cases}
use Rattle.sea_base.specs.Space.{Store}
use Rattle.sea_base.proofs.Fields.{big_endian-injective}
use Rattle.sea_node.specs.Entries.{Entry, IsBelow, IsNotAbove, IsRising}
use Rattle.sea_node.specs.Node.{Spells}
use Rattle.sea_node.proofs.Keys.{IsBelowAll, AreBelow, IsNotAbove-trans, IsNotAbove-below, IsNotAbove-itself, below_then_not_above, IsRising-nil, IsRising-head, IsRising-tail, IsRising-append}
use Rattle.sea_node.proofs.Nodes.{one_spelled}
use Rattle.sea_tree.specs.Tree.{NodeAt, Bounds, root_bounds, IsWithin, IsInPlace, next_key, child_bounds, IsAddress, EachChild, IsSubtree, IsTree, IsBelowNode, IsNodeOf}
use Rattle.sea_tree.specs.Breaks.{HasNode, Child, BreaksBelow, BreaksOnPath, FromRoot, Breaks, IsBreakOnPath}
use Rattle.sea_tree.specs.Subtrees.{AllBelow, Holds, Below}

-- ---- the same as in the specs

AllBelow_from_each : (P : ℕ → Bounds → Type 0) (C : ℕ → Bounds → List Entry → List ℕ → Type 0) → ((child : ℕ) (b : Bounds) → P child b → (pairs : List Entry) × (nodes : List ℕ) × C child b pairs nodes) → (entries : List Entry) (upper : Option (List ℕ)) → EachChild P entries upper → (pairs : List Entry) × (nodes : List ℕ) × AllBelow C entries upper pairs nodes
AllBelow_from_each P C each [] upper all = ([], [], (refl, refl))
AllBelow_from_each P C each (entry ∷ after) upper all =
    let here = each all.0.0 (child_bounds entry after upper) all.0.2 in
    let rest = AllBelow_from_each P C each after upper all.1 in
    (here.0 ++ rest.0, here.1 ++ rest.1, (all.0.0, here.0, rest.0, here.1, rest.1, all.0.1, here.2, rest.2, refl, refl))

each_from_AllBelow : (P : ℕ → Bounds → Type 0) (C : ℕ → Bounds → List Entry → List ℕ → Type 0) → ((child : ℕ) (b : Bounds) (pairs : List Entry) (nodes : List ℕ) → C child b pairs nodes → P child b) → (entries : List Entry) (upper : Option (List ℕ)) (pairs : List Entry) (nodes : List ℕ) → AllBelow C entries upper pairs nodes → EachChild P entries upper
each_from_AllBelow P C each [] upper pairs nodes all = tt
each_from_AllBelow P C each (entry ∷ after) upper pairs nodes all =
    ((all.0, all.5, each all.0 (child_bounds entry after upper) all.1 all.3 all.6), each_from_AllBelow P C each after upper all.2 all.4 all.7)

-- a subtree has its pairs and its nodes
pub Holds-from_subtree : (store : Store) (level at : ℕ) (bounds : Bounds) → IsSubtree store level at bounds → (pairs : List Entry) × (nodes : List ℕ) × Holds store level at bounds pairs nodes
Holds-from_subtree store zero at bounds tree = (tree.0, at ∷ [], (tree.0, (tree.1, tree.2), refl, refl))
Holds-from_subtree store (suc level) at bounds tree =
    let below = AllBelow_from_each (IsSubtree store level) (Holds store level) (Holds-from_subtree store level) tree.0 bounds.upper tree.3 in
    (below.0, at ∷ below.1, (tree.0, below.1, (tree.1, tree.2), below.2, refl))

pub subtree_held : (store : Store) (level at : ℕ) (bounds : Bounds) (pairs : List Entry) (nodes : List ℕ) → Holds store level at bounds pairs nodes → IsSubtree store level at bounds
subtree_held store zero at bounds pairs nodes holds = (holds.0, holds.1.0, holds.1.1)
subtree_held store (suc level) at bounds pairs nodes holds =
    (holds.0, holds.2.0, holds.2.1, each_from_AllBelow (IsSubtree store level) (Holds store level) (subtree_held store level) holds.0 bounds.upper pairs holds.1 holds.3)

pub each_below : (store : Store) (level : ℕ) (entries : List Entry) (upper : Option (List ℕ)) (pairs : List Entry) (nodes : List ℕ) → Below store (suc level) entries upper pairs nodes → EachChild (IsSubtree store level) entries upper
each_below store level entries upper pairs nodes below = each_from_AllBelow (IsSubtree store level) (Holds store level) (subtree_held store level) entries upper pairs nodes below

-- a subtree by its own node and what stands below it
pub record HoldsBelow (store : Store) (level at : ℕ) (bounds : Bounds) (pairs : List Entry) (nodes : List ℕ) : Type 0 where
  pub entries : List Entry
  pub others : List ℕ
  pub node : HasNode store level at bounds entries
  pub below : Below store level entries bounds.upper pairs others
  pub nodes_are : nodes ≡ at ∷ others

pub node_held : (store : Store) (level at : ℕ) (bounds : Bounds) (pairs : List Entry) (nodes : List ℕ) → Holds store level at bounds pairs nodes → HoldsBelow store level at bounds pairs nodes
node_held store zero at bounds pairs nodes holds = record { entries = holds.0; others = []; node = holds.1; below = (holds.2, refl); nodes_are = holds.3 }
node_held store (suc level) at bounds pairs nodes holds = record { entries = holds.0; others = holds.1; node = holds.2; below = holds.3; nodes_are = holds.4 }

pub Holds-node : (store : Store) (level at : ℕ) (bounds : Bounds) (entries pairs : List Entry) (others : List ℕ) → HasNode store level at bounds entries → Below store level entries bounds.upper pairs others → Holds store level at bounds pairs (at ∷ others)
Holds-node store zero at bounds entries pairs others node below = (entries, node, below.0, ap (λ (ns : List ℕ). at ∷ ns) below.1)
Holds-node store (suc level) at bounds entries pairs others node below = (entries, others, node, below, refl)

-- ---- children in two parts, and one of several

-- what stands below some entries, and below others behind them
pub record SplitBelow (C : ℕ → Bounds → List Entry → List ℕ → Type 0) (es fs : List Entry) (upper : Option (List ℕ)) (pairs : List Entry) (nodes : List ℕ) : Type 0 where
  pub pairs_before : List Entry
  pub pairs_after : List Entry
  pub nodes_before : List ℕ
  pub nodes_after : List ℕ
  pub before : AllBelow C es (next_key fs upper) pairs_before nodes_before
  pub after : AllBelow C fs upper pairs_after nodes_after
  pub pairs_are : pairs ≡ pairs_before ++ pairs_after
  pub nodes_are : nodes ≡ nodes_before ++ nodes_after

-- what bounds the last of some entries is the next key behind them
next_of_both : (es fs : List Entry) (upper : Option (List ℕ)) → next_key es (next_key fs upper) ≡ next_key (es ++ fs) upper
next_of_both [] fs upper = refl
next_of_both (e ∷ es) fs upper = refl

same_bounds : (e : Entry) (es fs : List Entry) (upper : Option (List ℕ)) → child_bounds e es (next_key fs upper) ≡ child_bounds e (es ++ fs) upper
same_bounds e es fs upper = ap (λ (k : Option (List ℕ)). record { least = 1016; lower = e.0; upper = k }) (next_of_both es fs upper)

pub AllBelow-split : (C : ℕ → Bounds → List Entry → List ℕ → Type 0) (es fs : List Entry) (upper : Option (List ℕ)) (pairs : List Entry) (nodes : List ℕ) → AllBelow C (es ++ fs) upper pairs nodes → SplitBelow C es fs upper pairs nodes
AllBelow-split C [] fs upper pairs nodes all =
    record { pairs_before = []; pairs_after = pairs; nodes_before = []; nodes_after = nodes; before = (refl, refl); after = all; pairs_are = refl; nodes_are = refl }
AllBelow-split C (e ∷ es) fs upper pairs nodes all =
    let more = AllBelow-split C es fs upper all.2 all.4 all.7 in
    record {
      pairs_before = all.1 ++ more.pairs_before;
      pairs_after = more.pairs_after;
      nodes_before = all.3 ++ more.nodes_before;
      nodes_after = more.nodes_after;
      before = (all.0, all.1, more.pairs_before, all.3, more.nodes_before, all.5, subst (λ (b : Bounds). C all.0 b all.1 all.3) (sym (same_bounds e es fs upper)) all.6, more.before, refl, refl);
      after = more.after;
      pairs_are = all.8 ∙ ap (λ (ps : List Entry). all.1 ++ ps) more.pairs_are ∙ sym (append_assoc all.1 more.pairs_before more.pairs_after);
      nodes_are = all.9 ∙ ap (λ (ns : List ℕ). all.3 ++ ns) more.nodes_are ∙ sym (append_assoc all.3 more.nodes_before more.nodes_after);
    }

pub AllBelow-append : (C : ℕ → Bounds → List Entry → List ℕ → Type 0) (es fs : List Entry) (upper : Option (List ℕ)) (p ps : List Entry) (n ns : List ℕ) → AllBelow C es (next_key fs upper) p n → AllBelow C fs upper ps ns → AllBelow C (es ++ fs) upper (p ++ ps) (n ++ ns)
AllBelow-append C [] fs upper p ps n ns first second =
    subst (λ (nodes : List ℕ). AllBelow C fs upper (p ++ ps) nodes) (ap (λ (r : List ℕ). r ++ ns) (sym first.1)) (subst (λ (pairs : List Entry). AllBelow C fs upper pairs ns) (ap (λ (r : List Entry). r ++ ps) (sym first.0)) second)
AllBelow-append C (e ∷ es) fs upper p ps n ns first second = (
  first.0,
  first.1,
  first.2 ++ ps,
  first.3,
  first.4 ++ ns,
  first.5,
  subst (λ (b : Bounds). C first.0 b first.1 first.3) (same_bounds e es fs upper) first.6,
  AllBelow-append C es fs upper first.2 ps first.4 ns first.7 second,
  ap (λ (r : List Entry). r ++ ps) first.8 ∙ append_assoc first.1 first.2 ps,
  ap (λ (r : List ℕ). r ++ ns) first.9 ∙ append_assoc first.3 first.4 ns,
)

-- one entry of several, with its child, and what stands before, in and after it
pub record Picked (C : ℕ → Bounds → List Entry → List ℕ → Type 0) (before : List Entry) (entry : Entry) (after : List Entry) (upper : Option (List ℕ)) (pairs : List Entry) (nodes : List ℕ) : Type 0 where
  pub child : ℕ
  pub pairs_before : List Entry
  pub pairs_here : List Entry
  pub pairs_after : List Entry
  pub nodes_before : List ℕ
  pub nodes_here : List ℕ
  pub nodes_after : List ℕ
  pub address : IsAddress entry.1 child
  pub first : AllBelow C before (Some entry.0) pairs_before nodes_before
  pub here : C child (child_bounds entry after upper) pairs_here nodes_here
  pub rest : AllBelow C after upper pairs_after nodes_after
  pub pairs_are : pairs ≡ pairs_before ++ (pairs_here ++ pairs_after)
  pub nodes_are : nodes ≡ nodes_before ++ (nodes_here ++ nodes_after)

pub AllBelow-pick : (C : ℕ → Bounds → List Entry → List ℕ → Type 0) (before : List Entry) (entry : Entry) (after : List Entry) (upper : Option (List ℕ)) (pairs : List Entry) (nodes : List ℕ) → AllBelow C (before ++ entry ∷ after) upper pairs nodes → Picked C before entry after upper pairs nodes
AllBelow-pick C before entry after upper pairs nodes all =
    let s = AllBelow-split C before (entry ∷ after) upper pairs nodes all in
    let h = s.after in
    record {
      child = h.0;
      pairs_before = s.pairs_before;
      pairs_here = h.1;
      pairs_after = h.2;
      nodes_before = s.nodes_before;
      nodes_here = h.3;
      nodes_after = h.4;
      address = h.5;
      first = s.before;
      here = h.6;
      rest = h.7;
      pairs_are = s.pairs_are ∙ ap (λ (ps : List Entry). s.pairs_before ++ ps) h.8;
      nodes_are = s.nodes_are ∙ ap (λ (ns : List ℕ). s.nodes_before ++ ns) h.9;
    }

-- an address is told by the value that spells it
pub same_address : (value : List ℕ) (a b : ℕ) → IsAddress value a → IsAddress value b → a ≡ b
same_address value a b first second = big_endian-injective 8 a b first.0 second.0 (sym first.1 ∙ second.1)

-- ---- keys

-- the keys of some pairs stand between two bounds and rise
pub record AreWithin (low : List ℕ) (high : Option (List ℕ)) (pairs : List Entry) : Type 0 where
  pub lower : All (λ e. IsNotAbove low e.0) pairs
  pub upper : All (λ e. IsWithin e.0 high) pairs
  pub rising : IsRising pairs

-- the entries of a node in its place do
pub AreWithin-node : (store : Store) (level at : ℕ) (bounds : Bounds) (entries : List Entry) → HasNode store level at bounds entries → AreWithin bounds.lower bounds.upper entries
AreWithin-node store level at bounds entries node = record { lower = node.1.lower; upper = node.1.upper; rising = node.0.spells.node.rising }

-- what is below a bound that is not above another, is below this
IsWithin-below : (a b : List ℕ) (high : Option (List ℕ)) → IsBelow a b → IsWithin b high → IsWithin a high
IsWithin-below a b None below within = tt
IsWithin-below a b (Some k) below within = below_then_not_above a b k below (IsNotAbove-below b k within)

pub AreWithin-nil : (low : List ℕ) (high : Option (List ℕ)) → AreWithin low high []
AreWithin-nil low high = record { lower = All-nil (λ (e : Entry). IsNotAbove low e.0); upper = All-nil (λ (e : Entry). IsWithin e.0 high); rising = IsRising-nil }

-- within a lower and a higher bound
pub AreWithin-wider : (low a : List ℕ) (high : Option (List ℕ)) (pairs : List Entry) → IsNotAbove low a → AreWithin a high pairs → AreWithin low high pairs
AreWithin-wider low a high pairs le within = record {
  lower = All-weaker (λ (e : Entry). IsNotAbove a e.0) (λ (e : Entry). IsNotAbove low e.0) (λ e h. IsNotAbove-trans low a e.0 le h) pairs within.lower;
  upper = within.upper;
  rising = within.rising;
}

pub AreWithin-tail : (e : Entry) (es : List Entry) (low : List ℕ) (high : Option (List ℕ)) → AreWithin low high (e ∷ es) → AreWithin low high es
AreWithin-tail e es low high within = record {
  lower = All-tail (λ (f : Entry). IsNotAbove low f.0) e es within.lower;
  upper = All-tail (λ (f : Entry). IsWithin f.0 high) e es within.upper;
  rising = IsRising-tail e es within.rising;
}

-- each key of some pairs is below a bound, which is not above any key of others
below_bound : (bound : List ℕ) (e : Entry) (fs : List Entry) → IsBelow e.0 bound → All (λ (f : Entry). IsNotAbove bound f.0) fs → IsBelowAll e.0 fs
below_bound bound e [] below all = tt
below_bound bound e (f ∷ fs) below all =
    (below_then_not_above e.0 bound f.0 below (All-head (λ (f : Entry). IsNotAbove bound f.0) f fs all), below_bound bound e fs below (All-tail (λ (f : Entry). IsNotAbove bound f.0) f fs all))

pub AreBelow-bound : (bound : List ℕ) (es fs : List Entry) → All (λ (e : Entry). IsBelow e.0 bound) es → All (λ (f : Entry). IsNotAbove bound f.0) fs → AreBelow es fs
AreBelow-bound bound [] fs first second = tt
AreBelow-bound bound (e ∷ es) fs first second =
    (below_bound bound e fs (All-head (λ (e : Entry). IsBelow e.0 bound) e es first) second, AreBelow-bound bound es fs (All-tail (λ (e : Entry). IsBelow e.0 bound) e es first) second)

-- pairs up to a bound and pairs from it on, joined
pub AreWithin-append : (low bound : List ℕ) (high : Option (List ℕ)) (es fs : List Entry) → IsNotAbove low bound → IsWithin bound high → AreWithin low (Some bound) es → AreWithin bound high fs → AreWithin low high (es ++ fs)
AreWithin-append low bound high es fs le within first second =
    let wider = AreWithin-wider low bound high fs le second in
    record {
      lower = All-append (λ (e : Entry). IsNotAbove low e.0) es fs first.lower wider.lower;
      upper = All-append (λ (e : Entry). IsWithin e.0 high) es fs (All-weaker (λ (e : Entry). IsBelow e.0 bound) (λ (e : Entry). IsWithin e.0 high) (λ e h. IsWithin-below e.0 bound high h within) es first.upper) second.upper;
      rising = IsRising-append es fs first.rising second.rising (AreBelow-bound bound es fs first.upper second.lower);
    }

-- Where the entries of a node stand between two bounds and rise, and the pairs of each child between that
-- child's, the pairs of all do.
AreWithin-all : (C : ℕ → Bounds → List Entry → List ℕ → Type 0) → ((child : ℕ) (b : Bounds) (pairs : List Entry) (nodes : List ℕ) → C child b pairs nodes → AreWithin b.lower b.upper pairs) → (entries : List Entry) (low : List ℕ) (upper : Option (List ℕ)) (pairs : List Entry) (nodes : List ℕ) → AreWithin low upper entries → AllBelow C entries upper pairs nodes → AreWithin low upper pairs
AreWithin-all C each [] low upper pairs nodes within all = subst (AreWithin low upper) (sym all.0) (AreWithin-nil low upper)
AreWithin-all C each (e ∷ []) low upper pairs nodes within all =
    let here = AreWithin-wider low e.0 upper all.1 (All-head (λ (f : Entry). IsNotAbove low f.0) e [] within.lower) (each all.0 (child_bounds e [] upper) all.1 all.3 all.6) in
    let same : pairs ≡ all.1 = all.8 ∙ ap (λ (ps : List Entry). all.1 ++ ps) all.7.0 ∙ append-nil all.1 in
    subst (AreWithin low upper) (sym same) here
AreWithin-all C each (e ∷ f ∷ fs) low upper pairs nodes within all =
    let rising = IsRising-head e (f ∷ fs) within.rising in
    let low_e = All-head (λ (g : Entry). IsNotAbove low g.0) e (f ∷ fs) within.lower in
    let upper_f = All-head (λ (g : Entry). IsWithin g.0 upper) f fs (All-tail (λ (g : Entry). IsWithin g.0 upper) e (f ∷ fs) within.upper) in
    let here = AreWithin-wider low e.0 (Some f.0) all.1 low_e (each all.0 (child_bounds e (f ∷ fs) upper) all.1 all.3 all.6) in
    let from_f : AreWithin f.0 upper (f ∷ fs) = from_first f fs upper (AreWithin-tail e (f ∷ fs) low upper within) in
    let rest = AreWithin-all C each (f ∷ fs) f.0 upper all.2 all.4 from_f all.7 in
    let le : IsNotAbove low f.0 = IsNotAbove-trans low e.0 f.0 low_e (IsNotAbove-below e.0 f.0 rising.0) in
    subst (AreWithin low upper) (sym all.8) (AreWithin-append low f.0 upper all.1 all.2 le upper_f here rest)
  where
    at_least : (key : List ℕ) (es : List Entry) → IsBelowAll key es → All (λ (g : Entry). IsNotAbove key g.0) es
    at_least key [] all = All-nil (λ (g : Entry). IsNotAbove key g.0)
    at_least key (g ∷ es) all = All-cons (λ (g : Entry). IsNotAbove key g.0) g es (IsNotAbove-below key g.0 all.0) (at_least key es all.1)

    from_first : (f : Entry) (fs : List Entry) (upper : Option (List ℕ)) → {low : List ℕ} → AreWithin low upper (f ∷ fs) → AreWithin f.0 upper (f ∷ fs)
    from_first f fs upper within = record {
      lower = All-cons (λ (g : Entry). IsNotAbove f.0 g.0) f fs (IsNotAbove-itself f.0) (at_least f.0 fs (IsRising-head f fs within.rising));
      upper = within.upper;
      rising = within.rising;
    }

-- the pairs of a subtree stand between its bounds, and their keys rise
pub keys_held : (store : Store) (level at : ℕ) (bounds : Bounds) (pairs : List Entry) (nodes : List ℕ) → Holds store level at bounds pairs nodes → AreWithin bounds.lower bounds.upper pairs
keys_held store zero at bounds pairs nodes holds = subst (AreWithin bounds.lower bounds.upper) (sym holds.2) (AreWithin-node store 0 at bounds holds.0 holds.1)
keys_held store (suc level) at bounds pairs nodes holds =
    AreWithin-all (Holds store level) (keys_held store level) holds.0 bounds.lower bounds.upper pairs holds.1 (AreWithin-node store (suc level) at bounds holds.0 holds.2) holds.3

-- and so do those below entries that stand between bounds and rise
pub keys_below : (store : Store) (level : ℕ) (entries : List Entry) (low : List ℕ) (upper : Option (List ℕ)) (pairs : List Entry) (nodes : List ℕ) → AreWithin low upper entries → Below store level entries upper pairs nodes → AreWithin low upper pairs
keys_below store zero entries low upper pairs nodes within below = subst (AreWithin low upper) (sym below.0) within
keys_below store (suc level) entries low upper pairs nodes within below =
    AreWithin-all (Holds store level) (keys_held store level) entries low upper pairs nodes within below

-- ---- elements of lists

pub Contains-nil : {X : Type 0} (x : X) → Contains [] x → ⊥
Contains-nil x has = omega (arith, has.1)

pub Contains-cases : {X : Type 0} (y : X) (xs : List X) (x : X) → Contains (y ∷ xs) x → (y ≡ x) ⊎ Contains xs x
Contains-cases y xs x has = elim (Contains-append_cases (y ∷ []) xs x has) [
  | inl first ↦ elim (Contains-push_cases [] y x first) [ inl none ↦ absurd (Contains-nil x none) | inr same ↦ inl same ]
  | inr later ↦ inr later
]

pub Contains-head : {X : Type 0} (x : X) (xs : List X) → Contains (x ∷ xs) x
Contains-head x xs = Contains-append_left (x ∷ []) xs x (Contains-push [] x)

pub Contains-later : {X : Type 0} (y : X) (xs : List X) (x : X) → Contains xs x → Contains (y ∷ xs) x
Contains-later y xs x has = Contains-append_right (y ∷ []) xs x has

pub Contains-middle : {X : Type 0} (before : List X) (x : X) (after : List X) → Contains (before ++ x ∷ after) x
Contains-middle before x after = Contains-append_right before (x ∷ after) x (Contains-head x after)

pub Contains-split : {X : Type 0} (xs : List X) (x : X) → Contains xs x → (before : List X) × (after : List X) × (xs ≡ before ++ x ∷ after)
Contains-split [] x has = absurd (Contains-nil x has)
Contains-split {X} (y ∷ xs) x has = elim (Contains-cases y xs x has) [
  | inl same ↦ ([], xs, ap (λ (z : X). z ∷ xs) same)
  | inr later ↦ let rest = Contains-split xs x later in (y ∷ rest.0, rest.1, ap (λ (zs : List X). y ∷ zs) rest.2)
]

-- ---- one node at an address

pub one_node : (store : Store) (at level level' : ℕ) (es fs : List Entry) → NodeAt store at level es → NodeAt store at level' fs → (level ≡ level') × (es ≡ fs)
one_node store at level level' es fs first second =
    let same : second.bytes ≡ first.bytes = (let e = first.here in let f = second.here in cc) in
    one_spelled first.bytes level level' es fs first.spells (subst (λ (b : List ℕ). Spells b level' fs) same second.spells)

-- ---- the child below which something stands

-- the child of one of some entries, of whose pairs and nodes something holds
pub record Found (C : ℕ → Bounds → List Entry → List ℕ → Type 0) (entries : List Entry) (upper : Option (List ℕ)) (Has : List Entry → List ℕ → Type 0) : Type 0 where
  pub before : List Entry
  pub entry : Entry
  pub after : List Entry
  pub child : ℕ
  pub pairs : List Entry
  pub nodes : List ℕ
  pub split : entries ≡ before ++ entry ∷ after
  pub address : IsAddress entry.1 child
  pub here : C child (child_bounds entry after upper) pairs nodes
  pub has : Has pairs nodes

module _ (C : ℕ → Bounds → List Entry → List ℕ → Type 0) (upper : Option (List ℕ)) where
  found_below : (Has : List Entry → List ℕ → Type 0) → (Has [] [] → ⊥) → ((p ps : List Entry) (n ns : List ℕ) → Has (p ++ ps) (n ++ ns) → Has p n ⊎ Has ps ns) → (entries pairs : List Entry) (nodes : List ℕ) → AllBelow C entries upper pairs nodes → Has pairs nodes → Found C entries upper Has
  found_below Has none either [] pairs nodes all has =
      absurd (none (subst (λ (ns : List ℕ). Has [] ns) all.1 (subst (λ (ps : List Entry). Has ps nodes) all.0 has)))
  found_below Has none either (e ∷ entries) pairs nodes all has =
      let parts : Has (all.1 ++ all.2) (all.3 ++ all.4) = subst (λ (ns : List ℕ). Has (all.1 ++ all.2) ns) all.9 (subst (λ (ps : List Entry). Has ps nodes) all.8 has) in
      elim (either all.1 all.2 all.3 all.4 parts) [
        | inl here ↦ record { before = []; entry = e; after = entries; child = all.0; pairs = all.1; nodes = all.3; split = refl; address = all.5; here = all.6; has = here }
        | inr later ↦ let f = found_below Has none either entries all.2 all.4 all.7 later in
            record { before = e ∷ f.before; entry = f.entry; after = f.after; child = f.child; pairs = f.pairs; nodes = f.nodes; split = ap (λ (es : List Entry). e ∷ es) f.split; address = f.address; here = f.here; has = f.has }
      ]

  -- a pair stands below one of the entries
  pub pair_below : (x : Entry) (entries pairs : List Entry) (nodes : List ℕ) → AllBelow C entries upper pairs nodes → Contains pairs x → Found C entries upper (λ ps ns. Contains ps x)
  pair_below x entries pairs nodes all has =
      found_below (λ ps ns. Contains ps x) (Contains-nil x) (λ p ps n ns h. Contains-append_cases p ps x h) entries pairs nodes all has

  -- and so does a node
  pub node_below : (q : ℕ) (entries pairs : List Entry) (nodes : List ℕ) → AllBelow C entries upper pairs nodes → Contains nodes q → Found C entries upper (λ ps ns. Contains ns q)
  node_below q entries pairs nodes all has =
      found_below (λ ps ns. Contains ns q) (Contains-nil q) (λ p ps n ns h. Contains-append_cases n ns q h) entries pairs nodes all has

-- what is in the child that was picked is in the whole
pub Contains-picked_pair : (C : ℕ → Bounds → List Entry → List ℕ → Type 0) (before : List Entry) (entry : Entry) (after : List Entry) (upper : Option (List ℕ)) (pairs : List Entry) (nodes : List ℕ) (p : Picked C before entry after upper pairs nodes) (x : Entry) → Contains p.pairs_here x → Contains pairs x
Contains-picked_pair C before entry after upper pairs nodes p x has =
    subst (λ (ps : List Entry). Contains ps x) (sym p.pairs_are) (Contains-append_right p.pairs_before (p.pairs_here ++ p.pairs_after) x (Contains-append_left p.pairs_here p.pairs_after x has))

pub Contains-picked_node : (C : ℕ → Bounds → List Entry → List ℕ → Type 0) (before : List Entry) (entry : Entry) (after : List Entry) (upper : Option (List ℕ)) (pairs : List Entry) (nodes : List ℕ) (p : Picked C before entry after upper pairs nodes) (q : ℕ) → Contains p.nodes_here q → Contains nodes q
Contains-picked_node C before entry after upper pairs nodes p q has =
    subst (λ (ns : List ℕ). Contains ns q) (sym p.nodes_are) (Contains-append_right p.nodes_before (p.nodes_here ++ p.nodes_after) q (Contains-append_left p.nodes_here p.nodes_after q has))

-- ---- the nodes of a subtree

node_from_below : (store : Store) (level at : ℕ) (bounds : Bounds) (pairs : List Entry) (nodes : List ℕ) (q : ℕ) → Holds store level at bounds pairs nodes → Contains nodes q → IsBelowNode store level at q
node_from_below store zero at bounds pairs nodes q holds has =
    elim (Contains-cases at [] q (subst (λ (ns : List ℕ). Contains ns q) holds.3 has)) [ inl same ↦ sym same | inr none ↦ absurd (Contains-nil q none) ]
node_from_below store (suc level) at bounds pairs nodes q holds has =
    elim (Contains-cases at holds.1 q (subst (λ (ns : List ℕ). Contains ns q) holds.4 has)) [
      | inl same ↦ inl (sym same)
      | inr later ↦
          let f = node_below (Holds store level) bounds.upper q holds.0 pairs holds.1 holds.3 later in
          let among : Contains holds.0 f.entry = subst (λ (es : List Entry). Contains es f.entry) (sym f.split) (Contains-middle f.before f.entry f.after) in
          inr (holds.0, holds.2.0, (f.entry, among, (f.child, f.address, node_from_below store level f.child (child_bounds f.entry f.after bounds.upper) f.pairs f.nodes q f.here f.has)))
    ]

below_from_node : (store : Store) (level at : ℕ) (bounds : Bounds) (pairs : List Entry) (nodes : List ℕ) (q : ℕ) → Holds store level at bounds pairs nodes → IsBelowNode store level at q → Contains nodes q
below_from_node store zero at bounds pairs nodes q holds is =
    subst (λ (ns : List ℕ). Contains ns q) (sym holds.3) (subst (Contains (at ∷ [])) (sym is) (Contains-head at []))
below_from_node store (suc level) at bounds pairs nodes q holds is =
    subst (λ (ns : List ℕ). Contains ns q) (sym holds.4) (elim is [
      | inl same ↦ subst (Contains (at ∷ holds.1)) (sym same) (Contains-head at holds.1)
      | inr d ↦
          let entry = d.2.0 in
          let same = (one_node store at (suc level) (suc level) d.0 holds.0 d.1 holds.2.0).1 in
          let s = Contains-split holds.0 entry (subst (λ (es : List Entry). Contains es entry) same d.2.1) in
          let p = AllBelow-pick (Holds store level) s.0 entry s.1 bounds.upper pairs holds.1 (subst (λ (es : List Entry). AllBelow (Holds store level) es bounds.upper pairs holds.1) s.2 holds.3) in
          let child = same_address entry.1 d.2.2.0 p.child d.2.2.1 p.address in
          let below = below_from_node store level p.child (child_bounds entry s.1 bounds.upper) p.pairs_here p.nodes_here q p.here (subst (λ (c : ℕ). IsBelowNode store level c q) child d.2.2.2) in
          Contains-later at holds.1 q (Contains-picked_node (Holds store level) s.0 entry s.1 bounds.upper pairs holds.1 p q below)
    ])

pub nodes_held : (store : Store) (level at : ℕ) (bounds : Bounds) (pairs : List Entry) (nodes : List ℕ) (q : ℕ) → Holds store level at bounds pairs nodes → Contains nodes q ↔ IsBelowNode store level at q
nodes_held store level at bounds pairs nodes q holds =
    (node_from_below store level at bounds pairs nodes q holds, below_from_node store level at bounds pairs nodes q holds)

-- the nodes of a tree whose root is filled
pub nodes_of_root : (store : Store) (level root : ℕ) (bounds : Bounds) (pairs : List Entry) (nodes : List ℕ) (q : ℕ) → Holds store level root bounds pairs nodes → Contains nodes q ↔ IsNodeOf store root q
nodes_of_root store level root bounds pairs nodes q holds =
    let own = node_held store level root bounds pairs nodes holds in
    let both = nodes_held store level root bounds pairs nodes q holds in (
      λ has. (level, (own.entries, own.node.0), both.0 has),
      λ is. both.1 (subst (λ (l : ℕ). IsBelowNode store l root q) (one_node store root is.0 level is.1.0 own.entries is.1.1 own.node.0).0 is.2),
    )

-- an empty root has no node
pub no_node : (store : Store) (root q : ℕ) → store root ≡ None → IsNodeOf store root q → ⊥
no_node store root q none is = let e = is.1.1.here in cc

-- ---- a tree that breaks is none

each_picked : (P : ℕ → Bounds → Type 0) (before : List Entry) (entry : Entry) (after : List Entry) (upper : Option (List ℕ)) → EachChild P (before ++ entry ∷ after) upper → (child : ℕ) × IsAddress entry.1 child × P child (child_bounds entry after upper)
each_picked P [] entry after upper all = all.0
each_picked P (e ∷ before) entry after upper all = each_picked P before entry after upper all.1

pub child_holds : (P : ℕ → Bounds → Type 0) (entries : List Entry) (upper : Option (List ℕ)) (before after : List Entry) (child : ℕ) (bounds : Bounds) → EachChild P entries upper → Child entries upper before after child bounds → P child bounds
child_holds P entries upper before after child bounds all c =
    let here = each_picked P before c.entry after upper (subst (λ (es : List Entry). EachChild P es upper) c.split all) in
    subst (P child) (sym c.bounds_are) (subst (λ (n : ℕ). P n (child_bounds c.entry after upper)) (same_address c.entry.1 here.0 child here.1 c.address) here.2)

pub unbroken : (store : Store) (level at : ℕ) (bounds : Bounds) (q : ℕ) → IsSubtree store level at bounds → BreaksBelow store level at bounds q → ⊥
unbroken store zero at bounds q tree breaks = breaks.1 tree.0 tree.1 tree.2
unbroken store (suc level) at bounds q tree breaks = elim breaks [
  | inl here ↦ here.1 tree.0 tree.1 tree.2
  | inr d ↦
      let same = (one_node store at (suc level) (suc level) tree.0 d.0 tree.1 d.1.0).1 in
      let all : EachChild (IsSubtree store level) d.0 bounds.upper = subst (λ (es : List Entry). EachChild (IsSubtree store level) es bounds.upper) same tree.3 in
      unbroken store level d.2.2 d.2.3 q (child_holds (IsSubtree store level) d.0 bounds.upper d.2.0 d.2.1 d.2.2 d.2.3 all d.2.4) d.2.5
]

pub breaks_on_path : (store : Store) (key : List ℕ) (level at : ℕ) (bounds : Bounds) (q : ℕ) → BreaksOnPath store key level at bounds q → BreaksBelow store level at bounds q
breaks_on_path store key zero at bounds q breaks = breaks
breaks_on_path store key (suc level) at bounds q breaks = elim breaks [
  | inl here ↦ inl here
  | inr d ↦ inr (d.0, d.1, (d.2.0, d.2.1, d.2.2, d.2.3, d.2.4, breaks_on_path store key level d.2.2 d.2.3 q d.2.6))
]

from_root : (P Q : ℕ → ℕ → Bounds → ℕ → Type 0) (store : Store) (root q : ℕ) → ((level : ℕ) → P level root root_bounds q → Q level root root_bounds q) → FromRoot P store root q → FromRoot Q store root q
from_root P Q store root q each breaks = (
  breaks.0,
  elim breaks.1 [ inl here ↦ inl here | inr d ↦ inr (d.0, d.1, each d.0 d.2) ],
)

pub breaks_from_path : (store : Store) (key : List ℕ) (root q : ℕ) → IsBreakOnPath store key root q → Breaks store root q
breaks_from_path store key root q breaks =
    from_root (BreaksOnPath store key) (BreaksBelow store) store root q (λ level. breaks_on_path store key level root root_bounds q) breaks

pub whole_tree : (store : Store) (root q : ℕ) → IsTree store root → Breaks store root q → ⊥
whole_tree store root q tree breaks = elim tree [
  | inl none ↦ breaks.0 none
  | inr is ↦ filled is.0 is.1
]
  where
    root_node : (level : ℕ) → IsSubtree store level root root_bounds → (entries : List Entry) × NodeAt store root level entries × IsInPlace level root_bounds entries
    root_node zero t = (t.0, t.1, t.2)
    root_node (suc level) t = (t.0, t.1, t.2)

    filled : (level : ℕ) → IsSubtree store level root root_bounds → ⊥
    filled level t =
        let own = root_node level t in
        elim breaks.1 [
          | inl here ↦ here.1 level own.0 own.1 own.2
          | inr d ↦
              let same = (one_node store root level d.0 own.0 d.1.0 own.1 d.1.1.0).0 in
              unbroken store d.0 root root_bounds q (subst (λ (l : ℕ). IsSubtree store l root root_bounds) same t) d.2
        ]
