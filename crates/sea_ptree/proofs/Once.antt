-- No place is named twice among the nodes of a tree: a block tells its level and its least key.
use Rattle.std.proofs.Common.{◌≡◌, ℕ, zero, suc, ◌+◌, ◌≤◌, ◌<◌, ◌^◌, true, false, cond, ◌==◌, List, [], ◌∷◌, ◌++◌, length, sym, ap, subst, ◌∙◌, arith, inl, inr}
use Rattle.std.specs.Prelude.{◌⊎◌}
use Rattle.std.proofs.lemmas.Bool.{cases_lt}
use Rattle.std.proofs.lemmas.Bool.Decides.{nat_tests}
use Rattle.sea_ptree.specs.declared.kind.Kind.{Kind}
use Rattle.sea_ptree.specs.declared.link.Link.{Link}
use Rattle.sea_ptree.specs.Blocks.{Image}
use Rattle.sea_ptree.specs.Fresh.{times}
use Rattle.sea_ptree.specs.Node.{Entry, Spells}
use Rattle.sea_ptree.specs.Tree.{Item, pairs, places, least_key, NodeAt, Stands, Content, IsTreeOf}
use Rattle.sea_ptree.proofs.Fronts.{one_spelled, spelled_level}
use Rattle.sea_ptree.proofs.Items.{all_pairs, AllStand, begins}
use Rattle.sea_ptree.proofs.Lookups.{held_lie}
use Rattle.sea_ptree.proofs.Makings.{times-append}
use Rattle.sea_ptree.proofs.Rebuilding.{all_places, entries_of, least_below}
use Rattle.sea_ptree.proofs.Rising.{Lie, Lie-split, Lie-bounds}

times_same : (a b : ℕ) (ps : List ℕ) → a ≡ b → times b (a ∷ ps) ≡ 1 + times b ps
times_same a b ps is = ap (λ t. cond t 1 0 + times b ps) (itself a b is)
  where
    itself : (x y : ℕ) → x ≡ y → (x == y) ≡ true
    itself x y h = grind (arith, nat_tests)

times_other : (a b : ℕ) (ps : List ℕ) → (a ≡ b → ⊥) → times b (a ∷ ps) ≡ times b ps
times_other a b ps other = let e : times b (a ∷ ps) ≡ 0 + times b ps = ap (λ t. cond t 1 0 + times b ps) (no a b other) in omega (arith, e)
  where
    no : (x y : ℕ) → (x ≡ y → ⊥) → (x == y) ≡ false
    no x y h = grind (arith, nat_tests)

same_or_not : (a b : ℕ) → (a ≡ b) ⊎ (a ≡ b → ⊥)
same_or_not a b = elim (cases_lt a b) [
  | inl lt ↦ inr (λ is. omega arith)
  | inr le ↦ elim (cases_lt b a) [ inl lt ↦ inr (λ is. omega arith) | inr le' ↦ inl (omega arith) ]
]

-- a place where a node of a level below one stands, whose least key lies between two numbers
record Found (kind : Kind) (image : Image) (level low high p : ℕ) : Type 0 where
  at_level : ℕ
  es : List Entry
  under : at_level < level
  spells : Spells kind (image p) at_level es
  from : low ≤ least_key es
  upto : least_key es < high

wider : (kind : Kind) (image : Image) (level level' low low' high high' p : ℕ) → level ≤ level' → low' ≤ low → high ≤ high' → Found kind image level low high p → Found kind image level' low' high' p
wider kind image level level' low low' high high' p le le' le'' f = record {
  at_level = f.at_level;
  es = f.es;
  under = omega (arith, f.under);
  spells = f.spells;
  from = omega (arith, f.from);
  upto = omega (arith, f.upto);
}

-- two nodes at one place are of one level, with one least key
same_level : (kind : Kind) (bytes : List ℕ) (m n : ℕ) (es fs : List Entry) → Spells kind bytes m es → Spells kind bytes n fs → m ≡ n
same_level kind bytes m n es fs s t = sym (spelled_level kind m bytes es s) ∙ spelled_level kind n bytes fs t

same_key : (kind : Kind) (bytes : List ℕ) (m n : ℕ) (es fs : List Entry) → Spells kind bytes m es → Spells kind bytes n fs → least_key es ≡ least_key fs
same_key kind bytes m n es fs s t =
    ap least_key (one_spelled kind n bytes es fs (subst (λ (l : ℕ). Spells kind bytes l es) (same_level kind bytes m n es fs s t) s) t)

-- the node over some items, which has its least key among theirs
node_found : (kind : Kind) (image : Image) (level low high p : ℕ) (link : Link) (items : List (Item level)) → link.at.0 ≡ p → NodeAt kind image level link (entries_of level items) → AllStand kind image level items → Lie low high (all_pairs level items) → 1 ≤ length items → Found kind image (suc level) low high p
node_found kind image level low high p link [] is node all lie some = absurd (omega arith)
node_found kind image level low high p link (y ∷ ys) is node all lie some =
    let first = begins kind image level y all.0 in
    let ps_are : all_pairs level (y ∷ ys) ≡ first.first ∷ (first.rest ++ all_pairs level ys) = ap (λ (ps : List Entry). ps ++ all_pairs level ys) first.is in
    let lie' = subst (Lie low high) ps_are lie in
    let least : least_key (entries_of level (y ∷ ys)) ≡ first.first.0 = sym (least_below kind image level (y ∷ ys) all) ∙ ap least_key ps_are in
    let below = Lie-bounds (first.first.0 + 1) high (first.rest ++ all_pairs level ys) lie'.1 in
    record {
      at_level = level;
      es = entries_of level (y ∷ ys);
      under = omega arith;
      spells = subst (λ (q : ℕ). Spells kind (image q) level (entries_of level (y ∷ ys))) is node.spells;
      from = omega (arith, lie'.0, least);
      upto = omega (arith, below, least);
    }

found_each : (kind : Kind) (image : Image) (level p : ℕ) → ((x : Item level) (low high : ℕ) → Stands kind image level x → Lie low high (pairs level x) → 1 ≤ times p (places level x) → Found kind image level low high p)
    → (items : List (Item level)) (low high : ℕ) → AllStand kind image level items → Lie low high (all_pairs level items) → 1 ≤ times p (all_places level items) → Found kind image level low high p
found_each kind image level p each [] low high all lie some = absurd (omega arith)
found_each kind image level p each (x ∷ xs) low high all lie some =
    let apart = Lie-split low high (pairs level x) (all_pairs level xs) lie in
    let bound = Lie-bounds apart.mid high (all_pairs level xs) apart.back in
    let bound' = Lie-bounds low apart.mid (pairs level x) apart.front in
    let sum = times-append p (places level x) (all_places level xs) in
    elim (cases_lt 0 (times p (places level x))) [
      | inl here ↦ wider kind image level level low low apart.mid high p (omega arith) (omega arith) bound (each x low apart.mid all.0 apart.front (omega arith))
      | inr none ↦ wider kind image level level apart.mid low high high p (omega arith) bound' (omega arith) (found_each kind image level p each xs apart.mid high all.1 apart.back (omega (arith, sum, some, none)))
    ]

found_item : (kind : Kind) (image : Image) (level p : ℕ) (x : Item level) (low high : ℕ) → Stands kind image level x → Lie low high (pairs level x) → 1 ≤ times p (places level x) → Found kind image level low high p
found_item kind image zero p x low high stands lie some = absurd (omega arith)
found_item kind image (suc level) p x low high stands lie some = elim (same_or_not x.0.at.0 p) [
  | inl is ↦ node_found kind image level low high p x.0 x.1 is stands.0 stands.2 lie (omega (arith, stands.1))
  | inr other ↦ wider kind image level (suc level) low low high high p (omega arith) (omega arith) (omega arith)
      (found_each kind image level p (found_item kind image level p) x.1 low high stands.2 lie (omega (arith, some, times_other x.0.at.0 p (all_places level x.1) other)))
]

-- ---- once at most

once_each : (kind : Kind) (image : Image) (level p : ℕ) → ((x : Item level) (low high : ℕ) → Stands kind image level x → Lie low high (pairs level x) → times p (places level x) ≤ 1)
    → (items : List (Item level)) (low high : ℕ) → AllStand kind image level items → Lie low high (all_pairs level items) → times p (all_places level items) ≤ 1
once_each kind image level p each [] low high all lie = omega arith
once_each kind image level p each (x ∷ xs) low high all lie =
    let apart = Lie-split low high (pairs level x) (all_pairs level xs) lie in
    let sum = times-append p (places level x) (all_places level xs) in
    let one = each x low apart.mid all.0 apart.front in
    let others = once_each kind image level p each xs apart.mid high all.1 apart.back in
    elim (cases_lt 0 (times p (places level x))) [
      | inl here ↦ elim (cases_lt 0 (times p (all_places level xs))) [
        | inl there ↦ (
            let f = found_item kind image level p x low apart.mid all.0 apart.front (omega arith) in
            let g = found_each kind image level p (found_item kind image level p) xs apart.mid high all.1 apart.back (omega arith) in
            let key = same_key kind (image p) f.at_level g.at_level f.es g.es f.spells g.spells in
            absurd (omega (arith, f.upto, g.from, key))
            )
        | inr none ↦ omega (arith, sum, one, none)
      ]
      | inr none ↦ omega (arith, sum, others, none)
    ]

-- a node and all below it
once_node : (kind : Kind) (image : Image) (level p low high : ℕ) (link : Link) (items : List (Item level)) → ((x : Item level) (l h : ℕ) → Stands kind image level x → Lie l h (pairs level x) → times p (places level x) ≤ 1)
    → NodeAt kind image level link (entries_of level items) → AllStand kind image level items → Lie low high (all_pairs level items) → times p (link.at.0 ∷ all_places level items) ≤ 1
once_node kind image level p low high link items each node all lie = elim (same_or_not link.at.0 p) [
  | inl is ↦ elim (cases_lt 0 (times p (all_places level items))) [
    | inl there ↦ (
        let f = found_each kind image level p (found_item kind image level p) items low high all lie (omega arith) in
        let same = same_level kind (image p) f.at_level level f.es (entries_of level items) f.spells (subst (λ (q : ℕ). Spells kind (image q) level (entries_of level items)) is node.spells) in
        absurd (omega (arith, f.under, same))
        )
    | inr none ↦ omega (arith, times_same link.at.0 p (all_places level items) is, none)
  ]
  | inr other ↦ (let below = once_each kind image level p each items low high all lie in omega (arith, times_other link.at.0 p (all_places level items) other, below))
]

once_item : (kind : Kind) (image : Image) (level p : ℕ) (x : Item level) (low high : ℕ) → Stands kind image level x → Lie low high (pairs level x) → times p (places level x) ≤ 1
once_item kind image zero p x low high stands lie = omega arith
once_item kind image (suc level) p x low high stands lie = once_node kind image level p low high x.0 x.1 (once_item kind image level p) stands.0 stands.2 lie

pub tree_once : (kind : Kind) (image : Image) (height : ℕ) (link : Link) (content : Content) (ps : List ℕ) → IsTreeOf kind image height link content ps → (p : ℕ) → times p ps ≤ 1
tree_once kind image zero link content ps tree p = let none = ap (times p) tree.3 in omega (arith, none)
tree_once kind image (suc level) link content ps tree p =
    let below = once_node kind image level p 0 (2 ^ 64) link tree.0 (once_item kind image level p) tree.1.node tree.1.stand (held_lie kind image level link tree.0 tree.1) in
    let is = ap (times p) tree.4 in
    omega (arith, is, below)
