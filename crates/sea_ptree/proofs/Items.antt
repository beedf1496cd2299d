-- The pairs below a node, and where a key stands among them.
use Rattle.std.proofs.Common.{◌≡◌, ℕ, zero, suc, ◌+◌, ◌<◌, ◌≤◌, List, [], ◌∷◌, ◌++◌, map, length, Some, None, false, cond, refl, sym, ap, subst, ◌∙◌, arith}
use Rattle.std.specs.List.{AllByRecursion, flat_map}
use Rattle.std.proofs.lemmas.List.Concat.{flat_map-append}
use Rattle.std.proofs.lemmas.Bool.Decides.{nat_tests}
use Rattle.std.specs.Ordering.{nat_cmp, eq_by_cmp}
use Rattle.std.specs.FinMap.Entries.{find}
use Rattle.sea_ptree.specs.declared.kind.Kind.{Kind}
use Rattle.sea_ptree.specs.Blocks.{Image}
use Rattle.sea_ptree.specs.Node.{Entry}
use Rattle.sea_ptree.specs.Tree.{Item, pairs, entry_of, least_key, Stands, IsBelowNext}
use Rattle.sea_ptree.proofs.Rising.{Lie, Lie-split}

abbrev pub all_pairs : (level : ℕ) → List (Item level) → List Entry
all_pairs level items = flat_map (pairs level) items

abbrev pub AllStand : Kind → Image → (level : ℕ) → List (Item level) → Type 0
AllStand kind image level items = AllByRecursion (Stands kind image level) items

pub entry_key : (level : ℕ) (x : Item level) → (entry_of level x).0 ≡ least_key (pairs level x)
entry_key zero x = refl
entry_key (suc level) x = refl

-- some pairs, by the first of them
pub record Begins (ps : List Entry) : Type 0 where
  pub first : Entry
  pub rest : List Entry
  pub is : ps ≡ first ∷ rest

begins_some : (kind : Kind) (image : Image) (level : ℕ) → ((x : Item level) → Stands kind image level x → Begins (pairs level x)) → (items : List (Item level)) → 37 ≤ length items → AllStand kind image level items → Begins (all_pairs level items)
begins_some kind image level each [] few all = absurd (omega arith)
begins_some kind image level each (y ∷ ys) few all =
    let first = each y all.0 in
    record { first = first.first; rest = first.rest ++ all_pairs level ys; is = ap (λ (ps : List Entry). ps ++ all_pairs level ys) first.is }

pub begins : (kind : Kind) (image : Image) (level : ℕ) (x : Item level) → Stands kind image level x → Begins (pairs level x)
begins kind image zero x stands = record { first = x; rest = []; is = refl }
begins kind image (suc level) x stands = begins_some kind image level (begins kind image level) x.1 stands.1 stands.2

-- ---- a key above all of some pairs, and below all of others

abbrev pub AllUnder : ℕ → List Entry → Type 0
AllUnder key ps = AllByRecursion (λ e. e.0 < key) ps

abbrev pub AllAbove : ℕ → List Entry → Type 0
AllAbove key ps = AllByRecursion (λ e. key < e.0) ps

pub under_from : (key low high : ℕ) (ps : List Entry) → Lie low high ps → high ≤ key → AllUnder key ps
under_from key low high [] lie le = tt
under_from key low high (e ∷ ps) lie le = (omega (arith, ends ps lie.1), under_from key (e.0 + 1) high ps lie.1 le)
  where
    ends : (qs : List Entry) {n : ℕ} → Lie n high qs → n ≤ high
    ends [] lie = lie
    ends (q ∷ qs) lie = omega (arith, ends qs lie.1)

pub above_from : (key low high : ℕ) (ps : List Entry) → Lie low high ps → key < low → AllAbove key ps
above_from key low high [] lie lt = tt
above_from key low high (e ∷ ps) lie lt = (omega arith, above_from key (e.0 + 1) high ps lie.1 (omega arith))

pub not_same : (a b : ℕ) → (a ≡ b → ⊥) → eq_by_cmp nat_cmp a b ≡ false
not_same a b h = grind (arith, nat_tests)

pub find_under : (key : ℕ) (ps rs : List Entry) → AllUnder key ps → find nat_cmp key (ps ++ rs) ≡ find nat_cmp key rs
find_under key [] rs all = refl
find_under key (e ∷ ps) rs all =
    ap (λ b. cond b (Some e.1) (find nat_cmp key (ps ++ rs))) (not_same key e.0 (λ same. omega (arith, all.0))) ∙ find_under key ps rs all.1

pub find_none : (key : ℕ) (rs : List Entry) → AllAbove key rs → find nat_cmp key rs ≡ None
find_none key [] all = refl
find_none key (e ∷ rs) all =
    ap (λ b. cond b (Some e.1) (find nat_cmp key rs)) (not_same key e.0 (λ same. omega (arith, all.0))) ∙ find_none key rs all.1

pub find_front : (key : ℕ) (ps rs : List Entry) → AllAbove key rs → find nat_cmp key (ps ++ rs) ≡ find nat_cmp key ps
find_front key [] rs all = find_none key rs all
find_front key (e ∷ ps) rs all = ap (cond (eq_by_cmp nat_cmp key e.0) (Some e.1)) (find_front key ps rs all)

-- ---- items in three parts, the middle one on the way of a key

-- what stands before an item, and what stands after it
pub record Parted (key level : ℕ) (before : List (Item level)) (x : Item level) (after : List (Item level)) : Type 0 where
  pub low : ℕ
  pub high : ℕ
  pub under : AllUnder key (all_pairs level before)
  pub here : Lie low high (pairs level x)
  pub above : AllAbove key (all_pairs level after)

pub all_pairs-parts : (level : ℕ) (before : List (Item level)) (x : Item level) (after : List (Item level)) → all_pairs level (before ++ x ∷ after) ≡ all_pairs level before ++ (pairs level x ++ all_pairs level after)
all_pairs-parts level before x after = flat_map-append (pairs level) before (x ∷ after)

-- a key below that of the next item is below all that follows
pub all_above : (kind : Kind) (image : Image) (level key low high : ℕ) (after : List (Item level)) → AllStand kind image level after → Lie low high (all_pairs level after) → IsBelowNext key (map (entry_of level) after) → AllAbove key (all_pairs level after)
all_above kind image level key low high [] all lie next = tt
all_above kind image level key low high (y ∷ ys) all lie next =
    let first = begins kind image level y all.0 in
    let is : all_pairs level (y ∷ ys) ≡ first.first ∷ (first.rest ++ all_pairs level ys) = ap (λ (ps : List Entry). ps ++ all_pairs level ys) first.is in
    let lie' = subst (Lie low high) is lie in
    let least : (entry_of level y).0 ≡ first.first.0 = entry_key level y ∙ ap least_key first.is in
    subst (AllAbove key) (sym is) (omega (arith, least, next), above_from key (first.first.0 + 1) high (first.rest ++ all_pairs level ys) lie'.1 (omega (arith, least, next)))

-- whether the key of an item is not above a key, or the item is the first
abbrev pub IsToward : (level : ℕ) → ℕ → List (Item level) → Item level → Type 0
IsToward level key [] x = Unit {0}
IsToward level key (b ∷ before) x = (entry_of level x).0 ≤ key

pub parted : (kind : Kind) (image : Image) (level key low high : ℕ) (before : List (Item level)) (x : Item level) (after : List (Item level)) → AllStand kind image level (before ++ x ∷ after) → Lie low high (all_pairs level (before ++ x ∷ after))
    → IsToward level key before x → IsBelowNext key (map (entry_of level) after) → Parted key level before x after
parted kind image level key low high before x after all lie toward next =
    let apart = Lie-split low high (all_pairs level before) (pairs level x ++ all_pairs level after) (subst (Lie low high) (all_pairs-parts level before x after) lie) in
    let behind = Lie-split apart.mid high (pairs level x) (all_pairs level after) apart.back in
    let rest = all_after before all in
    let first = begins kind image level x rest.0 in
    let least : (entry_of level x).0 ≡ first.first.0 = entry_key level x ∙ ap least_key first.is in
    record {
      low = apart.mid;
      high = behind.mid;
      under = under before toward apart.front (omega (arith, least, (subst (Lie apart.mid behind.mid) first.is behind.front).0));
      here = behind.front;
      above = all_above kind image level key behind.mid high after rest.1 behind.back next;
    }
  where
    all_after : (bs : List (Item level)) → AllStand kind image level (bs ++ x ∷ after) → AllStand kind image level (x ∷ after)
    all_after [] all = all
    all_after (b ∷ bs) all = all_after bs all.1

    under : (bs : List (Item level)) → IsToward level key bs x → {mid : ℕ} → Lie low mid (all_pairs level bs) → mid ≤ (entry_of level x).0 → AllUnder key (all_pairs level bs)
    under [] toward lie le = tt
    under (b ∷ bs) toward {mid} lie le = under_from key low mid (all_pairs level (b ∷ bs)) lie (omega arith)

-- the slot of a key stands below the item on its way
pub find_parted : (key level : ℕ) (before : List (Item level)) (x : Item level) (after : List (Item level)) → Parted key level before x after → find nat_cmp key (all_pairs level (before ++ x ∷ after)) ≡ find nat_cmp key (pairs level x)
find_parted key level before x after parts =
    ap (find nat_cmp key) (all_pairs-parts level before x after) ∙ find_under key (all_pairs level before) (pairs level x ++ all_pairs level after) parts.under ∙ find_front key (pairs level x) (all_pairs level after) parts.above

-- ---- the items of a node, by its entries

-- an entry of a node, with the item that it leads to
pub record Picked (level : ℕ) (items : List (Item level)) (before : List Entry) (entry : Entry) (after : List Entry) : Type 0 where
  pub front : List (Item level)
  pub item : Item level
  pub back : List (Item level)
  pub split : items ≡ front ++ item ∷ back
  pub front_is : map (entry_of level) front ≡ before
  pub item_is : entry_of level item ≡ entry
  pub back_is : map (entry_of level) back ≡ after

pub picked : (level : ℕ) (items : List (Item level)) (before : List Entry) (entry : Entry) (after : List Entry) → map (entry_of level) items ≡ before ++ entry ∷ after → Picked level items before entry after
picked level [] [] entry after is = absurd cc
picked level [] (b ∷ bs) entry after is = absurd cc
picked level (x ∷ xs) [] entry after is = record { front = []; item = x; back = xs; split = refl; front_is = refl; item_is = cc; back_is = cc }
picked level (x ∷ xs) (b ∷ bs) entry after is =
    let same : entry_of level x ≡ b = cc in
    let rest = picked level xs bs entry after cc in
    record {
      front = x ∷ rest.front;
      item = rest.item;
      back = rest.back;
      split = ap (λ (r : List (Item level)). x ∷ r) rest.split;
      front_is = λ i. same i ∷ rest.front_is i;
      item_is = rest.item_is;
      back_is = rest.back_is;
    }
