-- The paths to all the keys that the leaves of paths admit are whole, one leaf after the other.
use Rattle.std.proofs.Common.{◌≡◌, ℕ, zero, suc, ◌<◌, ◌≤◌, Bool, true, false, cond, List, ◌∷◌, [], ◌++◌, length, take, Option, Some, None, MatchOption, ◌∙◌, refl, sym, ap, subst, inl, inr, arith}
use Rattle.std.proofs.lemmas.Bool.{true≢false}
use Rattle.std.specs.Option.{unwrap_or}
use Rattle.std.specs.Ordering.{is_lt}
use Rattle.std.specs.declared.cmp.Ordering.{Ordering}
use Rattle.std.specs.declared.cmp.Ordering.TheVariants.{Less, Equal, Greater}
use Rattle.sea_base.specs.Name.{IsName}
use Rattle.std.specs.List.{All}
use Rattle.std.proofs.lemmas.List.Elements.{All-nil, All-cons, All-head, All-tail, All-take, All-append, All-weaker}
use Rattle.sea_base.specs.Space.{Store, Seen, IsSound, OnlyRead, laid}
use Rattle.sea_base.proofs.Spaces.{agrees_before}
use Rattle.sea_node.specs.Entries.{Entry, key_order, IsBelow, IsNotAbove, entries_before}
use Rattle.sea_node.proofs.Keys.{least_key, not_above_not_below, compared, below_then_not_above, key_order-itself, IsNotAbove-itself, IsNotAbove-same, IsNotAbove-below, IsNotAbove-trans}
use Rattle.sea_tree.specs.declared.fault.TreeFault.{TreeFault}
use Rattle.sea_tree.specs.declared.fault.TreeFault.TheVariants.{Space, Broken}
use Rattle.sea_tree.specs.declared.path.Step.{Step}
use Rattle.sea_tree.specs.Tree.{Bounds, LiesWithin, IsWithin, root_bounds}
use Rattle.sea_tree.specs.Breaks.{IsBreakOnPath}
use Rattle.sea_tree.specs.Calls.{IsWholePath, AreWholePaths, IsPathFault, IsRangeFault}
use Rattle.sea_tree.specs.Reads.{IsOnPath, ReadsAmong, ReadsPath, ReadsRange, ReadsNothing}
use Rattle.sea_tree.specs.Range.{IsNextPath, entries_above, is_above}
use Rattle.sea_tree.specs.Path.{Descends, LeafPath, IsLeafPath}
use Rattle.sea_tree.proofs.Apart.{IsWithin-below}
use Rattle.sea_tree.proofs.Walks.{one_store}
use Rattle.sea_tree.proofs.Paths.{path_lies, path_laid, no_break}

-- the same steps lead down for each key within the last bounds
pub descends_for : (s : Store) (level at : ℕ) (bounds : Bounds) (steps : List Step) (key : List ℕ) (n q : ℕ) (b : Bounds) (k : List ℕ) → Descends s level at bounds steps key n q b → LiesWithin k b → Descends s level at bounds steps k n q b
descends_for s level at bounds [] key n q b k d lies = d
descends_for s zero at bounds (step ∷ steps) key n q b k d lies = absurd d
descends_for s (suc level) at bounds (step ∷ steps) key n q b k d lies = (
  d.0,
  d.1,
  record {
    here = d.2.here;
    level_is = d.2.level_is;
    upper_is = d.2.upper_is;
    node = d.2.node;
    before = d.2.before;
    entry = d.2.entry;
    after = d.2.after;
    split = d.2.split;
    address = d.2.address;
    below_is = d.2.below_is;
    leads = path_lies s level d.0 d.1 steps key n q b k d.3 lies;
  },
  descends_for s level d.0 d.1 steps key n q b k d.3 lies,
)

module _ (old new : Seen) (root : ℕ) (reads : OnlyRead old new) (sound : IsSound new) where
  leaf_whole : (key k : List ℕ) (path : LeafPath) → IsLeafPath new root key path → LiesWithin k path.bounds → IsWholePath root k old new
  leaf_whole key k path known lies store at agrees breaks =
      let path_is = path_laid old new store root key path reads sound agrees known in
      no_break (laid old store) known.top root path.steps k path.at path.entries path.bounds at
      (descends_for (laid old store) known.top root root_bounds path.steps key 0 path.at path.bounds k path_is.0 lies, path_is.1, lies) breaks

  -- the first leaf
  pub whole_first : (from : List ℕ) (path : LeafPath) → IsLeafPath new root from path → AreWholePaths root from path.bounds.upper old new
  whole_first from path known k above within = leaf_whole from k path known (IsNotAbove-trans path.bounds.lower from k known.leads.0 above, within)

  -- and the next
  pub whole_next : (mid : Seen) (from : List ℕ) (path next : LeafPath) → OnlyRead mid new → AreWholePaths root from path.bounds.upper old mid → IsNextPath new root path next → AreWholePaths root from next.bounds.upper old new
  whole_next mid from path next rest before is k above within = elim (compared k is.key) [
    | inl below ↦ earlier below
    | inr (inl same) ↦ later (IsNotAbove-same is.key k (sym same))
    | inr (inr greater) ↦ later (IsNotAbove-below is.key k greater)
  ]
    where
      earlier : IsBelow k is.key → IsWholePath root k old new
      earlier below store at agrees = before k above (subst (IsWithin k) (sym is.upper) below) store at (agrees_before rest agrees)

      later : IsNotAbove is.key k → IsWholePath root k old new
      later not_above = leaf_whole is.key k next is.known (subst (λ (l : List ℕ). IsNotAbove l k) (sym is.lower) not_above, within)

-- ---- a range

pub never : (from k : List ℕ) → IsNotAbove from k → IsBelow k from → ⊥
never from k above below =
    let itself : IsBelow k k = below_then_not_above k from k below above in
    let same = key_order-itself k in cc

-- the first path breaks
pub first_breaks : (root : ℕ) (from : List ℕ) (old new : Seen) (fault : TreeFault) → IsPathFault root from old new fault → IsRangeFault root from old new fault
first_breaks root from old new (Space fault) blames = tt
first_breaks root from old new (Broken at) breaks = (from, IsNotAbove-itself from, λ k above below. absurd (never from k above below), breaks)

-- a later one does
pub next_breaks : (root : ℕ) (from : List ℕ) (old mid new : Seen) (upper : Option (List ℕ)) (fault : TreeFault) → OnlyRead old mid → OnlyRead mid new → AreWholePaths root from upper old mid → IsWithin from upper
    → MatchOption upper ⊥ (λ key. IsPathFault root key mid new fault) → IsRangeFault root from old new fault
next_breaks root from old mid new None fault first rest whole begun blames = absurd blames
next_breaks root from old mid new (Some key) (Space fault) first rest whole begun blames = tt
next_breaks root from old mid new (Some key) (Broken at) first rest whole begun breaks = (
  key,
  IsNotAbove-below from key begun,
  (λ k above within store q agrees. whole k above within store q (agrees_before rest agrees)),
  (λ store agrees. subst (λ (s : Store). IsBreakOnPath s key root at.0) (one_store first store) (breaks store agrees)),
)

-- a range begins within the bounds of each of its leaves
pub begun_first : (seen : Seen) (root : ℕ) (from : List ℕ) (path : LeafPath) → IsLeafPath seen root from path → IsWithin from path.bounds.upper
begun_first seen root from path known = known.leads.1

pub begun_next : (seen : Seen) (root : ℕ) (from : List ℕ) (path next : LeafPath) → IsNextPath seen root path next → IsWithin from path.bounds.upper → IsWithin from next.bounds.upper
begun_next seen root from path next is begun = IsWithin-below from is.key next.bounds.upper (subst (IsWithin from) is.upper begun) is.known.leads.1

-- and so does each pair that it takes
all_above : (P : Entry → Type 0) (after : Option (List ℕ)) (es : List Entry) → All P es → All P (entries_above after es)
all_above P after [] all = all
all_above P after (e ∷ es) all =
    elim (is_above after e.0) as (λ b. All P (cond b (e ∷ entries_above after es) (entries_above after es))) [
      | true ↦ All-cons P e (entries_above after es) (All-head P e es all) (all_above P after es (All-tail P e es all))
      | false ↦ all_above P after es (All-tail P e es all)
    ]

pub taken_within : (seen : Seen) (root : ℕ) (key : List ℕ) (path : LeafPath) (limit : ℕ) (after : Option (List ℕ)) (before : List Entry) → IsLeafPath seen root key path → All (λ e. IsWithin e.0 path.bounds.upper) before
    → All (λ e. IsWithin e.0 path.bounds.upper) (take limit (before ++ entries_above after path.entries))
taken_within seen root key path limit after before known all =
    All-take (λ (e : Entry). IsWithin e.0 path.bounds.upper) limit (before ++ entries_above after path.entries)
    (All-append (λ (e : Entry). IsWithin e.0 path.bounds.upper) before (entries_above after path.entries) all (all_above (λ (e : Entry). IsWithin e.0 path.bounds.upper) after path.entries known.node.1.upper))

pub within_next : (seen : Seen) (root : ℕ) (path next : LeafPath) (found : List Entry) → IsNextPath seen root path next → All (λ e. IsWithin e.0 path.bounds.upper) found → All (λ e. IsWithin e.0 next.bounds.upper) found
within_next seen root path next found is all =
    All-weaker (λ (e : Entry). IsWithin e.0 path.bounds.upper) (λ (e : Entry). IsWithin e.0 next.bounds.upper) (λ e within. begun_next seen root e.0 path next is within) found all

-- ---- what a range reads

lt_less : (o : Ordering) → is_lt o ≡ true → o ≡ Less
lt_less Less e = refl
lt_less Equal e = absurd (true≢false (sym e))
lt_less Greater e = absurd (true≢false (sym e))

count_all : (key : List ℕ) (es : List Entry) → length (entries_before key es) ≤ length es
count_all key [] = omega arith
count_all key (e ∷ es) =
    let rest : length (entries_before key es) ≤ length es = count_all key es in
    elim (is_lt (key_order e.0 key)) as (λ b. length (cond b (e ∷ entries_before key es) (entries_before key es)) ≤ length (e ∷ es)) [
      | true ↦ omega (arith, rest)
      | false ↦ omega (arith, rest)
    ]

-- pairs that are not below a key add none below it
count_more : (key : List ℕ) (n : ℕ) (found more : List Entry) → All (λ e. IsNotAbove key e.0) more → length (entries_before key (take n (found ++ more))) ≤ length (entries_before key found)
count_more key zero [] [] all = omega arith
count_more key zero [] (e ∷ more) all = omega arith
count_more key zero (e ∷ found) more all = omega arith
count_more key (suc n) [] [] all = omega arith
count_more key (suc n) [] (e ∷ more) all = by (count_more key n [] more (All-tail (λ (x : Entry). IsNotAbove key x.0) e more all)) (is_lt (key_order e.0 key)) refl
  where
    by : length (entries_before key (take n more)) ≤ 0 → (b : Bool) → is_lt (key_order e.0 key) ≡ b → length (cond b (e ∷ entries_before key (take n more)) (entries_before key (take n more))) ≤ 0
    by rest true is = absurd (not_above_not_below key e.0 (All-head (λ (x : Entry). IsNotAbove key x.0) e more all) (lt_less (key_order e.0 key) is))
    by rest false is = rest
count_more key (suc n) (e ∷ found) more all =
    let rest : length (entries_before key (take n (found ++ more))) ≤ length (entries_before key found) = count_more key n found more all in
    elim (is_lt (key_order e.0 key)) as (λ b. length (cond b (e ∷ entries_before key (take n (found ++ more))) (entries_before key (take n (found ++ more)))) ≤ length (cond b (e ∷ entries_before key found) (entries_before key found))) [
      | true ↦ omega (arith, rest)
      | false ↦ rest
    ]

-- the pairs of a leaf above a bound are not below the key that a range begins at
above_from : (after : Option (List ℕ)) (es : List Entry) → All (λ e. IsName e.0) es → All (λ e. IsNotAbove (unwrap_or after (0 ∷ [])) e.0) (entries_above after es)
above_from after [] names = All-nil (λ (e : Entry). IsNotAbove (unwrap_or after (0 ∷ [])) e.0)
above_from after (e ∷ es) names = by (above_from after es (All-tail (λ (x : Entry). IsName x.0) e es names)) (is_above after e.0) refl
  where
    first : (bound : Option (List ℕ)) → is_above bound e.0 ≡ true → IsNotAbove (unwrap_or bound (0 ∷ [])) e.0
    first None is = least_key e.0 (All-head (λ (x : Entry). IsName x.0) e es names)
    first (Some bound) is = IsNotAbove-below bound e.0 (lt_less (key_order bound e.0) is)

    by : All (λ e. IsNotAbove (unwrap_or after (0 ∷ [])) e.0) (entries_above after es) → (b : Bool) → is_above after e.0 ≡ b → All (λ e. IsNotAbove (unwrap_or after (0 ∷ [])) e.0) (cond b (e ∷ entries_above after es) (entries_above after es))
    by rest true is = All-cons (λ (x : Entry). IsNotAbove (unwrap_or after (0 ∷ [])) x.0) e (entries_above after es) (first after is) rest
    by rest false is = rest

-- What was read so far, for keys below the bound of the last leaf.
abbrev pub ReadsUpto : ℕ → List ℕ → ℕ → List Entry → Option (List ℕ) → Seen → Seen → Type 0
ReadsUpto root from limit found upper =
    ReadsAmong (λ store at. (key : List ℕ) × IsNotAbove from key × IsWithin key upper × (length (entries_before key found) < limit) × IsOnPath store key root at)

pub upto_range : (root : ℕ) (from : List ℕ) (limit : ℕ) (found : List Entry) (upper : Option (List ℕ)) (old new : Seen) → ReadsUpto root from limit found upper old new → ReadsRange root from limit found old new
upto_range root from limit found upper old new reads at = elim (reads at) [
  | inl same ↦ inl same
  | inr on ↦ inr (λ store agrees. let is = on store agrees in (is.0, is.1, is.3, is.4))
]

-- of an empty tree
pub range_none : (root : ℕ) (from : List ℕ) (limit : ℕ) (found : List Entry) (old new : Seen) → 0 < limit → found ≡ [] → ReadsPath root from old new → ReadsRange root from limit found old new
range_none root from limit found old new wanting none reads at = elim (reads at) [
  | inl same ↦ inl same
  | inr on ↦ inr (λ store agrees. (from, IsNotAbove-itself from, subst (λ (es : List Entry). length (entries_before from es) < limit) (sym none) wanting, on store agrees))
]

-- of the first leaf
pub range_first : (root : ℕ) (after : Option (List ℕ)) (limit : ℕ) (found : List Entry) (old new : Seen) (path : LeafPath) → 0 < limit → IsLeafPath new root (unwrap_or after (0 ∷ [])) path → found ≡ take limit ([] ++ entries_above after path.entries) → ReadsPath root (unwrap_or after (0 ∷ [])) old new
    → ReadsUpto root (unwrap_or after (0 ∷ [])) limit found path.bounds.upper old new
range_first root after limit found old new path wanting known taken reads at = elim (reads at) [
  | inl same ↦ inl same
  | inr on ↦ inr (λ store agrees. (from, IsNotAbove-itself from, known.leads.1, few, on store agrees))
]
  where
    from : List ℕ
    from = unwrap_or after (0 ∷ [])

    few : length (entries_before from found) < limit
    few =
        let none : length (entries_before from (take limit ([] ++ entries_above after path.entries))) ≤ 0 = count_more from limit [] (entries_above after path.entries) (above_from after path.entries known.node.0.spells.node.keys) in
        omega (arith, none, wanting, ap (λ (es : List Entry). length (entries_before from es)) taken)

-- of the next one
pub range_next : (root : ℕ) (from : List ℕ) (after : Option (List ℕ)) (limit : ℕ) (found taken : List Entry) (old mid new : Seen) (path next : LeafPath) → OnlyRead old mid → OnlyRead mid new → IsNextPath new root path next → IsWithin from path.bounds.upper
    → All (λ e. IsWithin e.0 path.bounds.upper) found → length found < limit → taken ≡ take limit (found ++ entries_above after next.entries)
    → ReadsUpto root from limit found path.bounds.upper old mid → MatchOption path.bounds.upper (ReadsNothing mid new) (λ key. ReadsPath root key mid new) → ReadsUpto root from limit taken next.bounds.upper old new
range_next root from after limit found taken old mid new path next first rest is begun below few is_taken before reads0 at = elim (reads at) [
  | inl same ↦ elim (before at) [
    | inl was ↦ inl (same ∙ was)
    | inr on ↦ inr (λ store agrees.
        let was = on store (agrees_before rest agrees) in
        let low : IsBelow was.0 is.key = subst (IsWithin was.0) is.upper was.2 in
        (was.0, was.1, IsWithin-below was.0 is.key next.bounds.upper low is.known.leads.1, still was.0 (IsNotAbove-below was.0 is.key low) was.3, was.4))
  ]
  | inr on ↦ inr (λ store agrees. (
    is.key,
    IsNotAbove-below from is.key (subst (IsWithin from) is.upper begun),
    is.known.leads.1,
    still is.key (IsNotAbove-itself is.key) (let all = count_all is.key found in omega (arith, all, few)),
    subst (λ (s : Store). IsOnPath s is.key root at) (one_store first store) (on store agrees),
  ))
]
  where
    reads : ReadsPath root is.key mid new
    reads = subst (λ (u : Option (List ℕ)). MatchOption u (ReadsNothing mid new) (λ key. ReadsPath root key mid new)) is.upper reads0

    own : (key : List ℕ) → IsNotAbove key is.key → All (λ e. IsNotAbove key e.0) (entries_above after next.entries)
    own key low =
        let lower : All (λ e. IsNotAbove is.key e.0) next.entries = subst (λ (k : List ℕ). All (λ e. IsNotAbove k e.0) next.entries) is.lower is.known.node.1.lower in
        all_above (λ (e : Entry). IsNotAbove key e.0) after next.entries (All-weaker (λ (e : Entry). IsNotAbove is.key e.0) (λ (e : Entry). IsNotAbove key e.0) (λ e above. IsNotAbove-trans key is.key e.0 low above) next.entries lower)

    still : (key : List ℕ) → IsNotAbove key is.key → length (entries_before key found) < limit → length (entries_before key taken) < limit
    still key low wanting =
        let more = count_more key limit found (entries_above after next.entries) (own key low) in
        omega (arith, more, wanting, ap (λ (es : List Entry). length (entries_before key es)) is_taken)

-- and where there is no other
pub range_last : (root : ℕ) (from : List ℕ) (limit : ℕ) (found : List Entry) (old mid new : Seen) (upper : Option (List ℕ)) → OnlyRead mid new → upper ≡ None → ReadsUpto root from limit found upper old mid → MatchOption upper (ReadsNothing mid new) (λ key. ReadsPath root key mid new) → ReadsRange root from limit found old new
range_last root from limit found old mid new upper rest none before reads at =
    let same : ReadsNothing mid new = subst (λ (u : Option (List ℕ)). MatchOption u (ReadsNothing mid new) (λ key. ReadsPath root key mid new)) none reads in
    elim (upto_range root from limit found upper old mid before at) [
      | inl was ↦ inl (same at ∙ was)
      | inr on ↦ inr (λ store agrees. on store (agrees_before rest agrees))
    ]

-- where no pair is wanted
pub none_wanted : (n : ℕ) (es : List Entry) → n ≡ 0 → take n es ≡ []
none_wanted zero [] is = refl
none_wanted zero (e ∷ es) is = refl
none_wanted (suc n) es is = absurd (omega arith)
