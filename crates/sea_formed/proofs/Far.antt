-- Numbers that are far from each other, and lists of them that share none.
use Rattle.std.proofs.Common.{◌≡◌, ◌≢◌, ◌⊎◌, ℕ, ◌+◌, List, [], ◌∷◌, ◌++◌, map as each, inl, inr, ⊎_elim, refl, sym, ap, subst, ◌∙◌, arith, append_assoc}
use Rattle.std.specs.List.{Contains, flat_map}
use Rattle.std.proofs.lemmas.List.Elements.{All-contains, Contains-append_left, Contains-append_right, Contains-append_cases}
use Rattle.sea_onode.specs.Order.{IsInRange}
use Rattle.sea_tree.proofs.Holding.{Contains-nil, Contains-cases, Contains-head, Contains-later}
use Rattle.sea_formed.specs.declared.object.Held.{Held}
use Rattle.sea_formed.specs.Shares.{IsFar, AreFar, nodes_of}
use Rattle.sea_formed.proofs.Named.{Contains-each}

far_right : (by : ℕ) (xs ys : List ℕ) → AreFar by (xs ++ ys) → AreFar by ys
far_right by [] ys far = far
far_right by (x ∷ xs) ys far = far_right by xs ys far.1

not_itself : (x q : ℕ) → x ≡ q → IsFar 1 x q → ⊥
not_itself x q same (inl far) = omega arith
not_itself x q same (inr far) = omega arith

far_apart : (xs ys : List ℕ) → AreFar 1 (xs ++ ys) → (q : ℕ) → Contains xs q → Contains ys q → ⊥
far_apart [] ys far q first second = Contains-nil q first
far_apart (x ∷ xs) ys far q first second =
    ⊎_elim (λ (same : x ≡ q). not_itself x q same (All-contains (IsFar 1 x) (xs ++ ys) q far.0 (Contains-append_right xs ys q second))) (λ later. far_apart xs ys far.1 q later second) (Contains-cases x xs q first)

-- a tree by its root and its nodes
abbrev pub Rooted : Type 0
Rooted = ℕ × List ℕ

abbrev pub nodes_in : List Rooted → List ℕ
nodes_in trees = flat_map (λ t. t.1) trees

node_in : (ts : List Rooted) (t : Rooted) (q : ℕ) → Contains ts t → Contains t.1 q → Contains (nodes_in ts) q
node_in [] t q has node = absurd (Contains-nil t has)
node_in (s ∷ ts) t q has node =
    ⊎_elim
    (λ (same : s ≡ t). Contains-append_left s.1 (nodes_in ts) q (subst (λ (u : Rooted). Contains u.1 q) (sym same) node))
    (λ later. Contains-append_right s.1 (nodes_in ts) q (node_in ts t q later node))
    (Contains-cases s ts t has)

-- trees with other roots share no node
pub trees_apart : (ts : List Rooted) → AreFar 1 (nodes_in ts) → (a b : Rooted) → a.0 ≢ b.0 → Contains ts a → Contains ts b → (q : ℕ) → Contains a.1 q → Contains b.1 q → ⊥
trees_apart [] far a b other has_a has_b q first second = Contains-nil a has_a
trees_apart (t ∷ ts) far a b other has_a has_b q first second = by (Contains-cases t ts a has_a) (Contains-cases t ts b has_b) (λ x y. trees_apart ts (far_right 1 t.1 (nodes_in ts) far) a b other x y q first second)
  where
    here : (u : Rooted) → t ≡ u → Contains u.1 q → Contains t.1 q
    here u same node = subst (λ (v : Rooted). Contains v.1 q) (sym same) node

    by : (t ≡ a) ⊎ Contains ts a → (t ≡ b) ⊎ Contains ts b → (Contains ts a → Contains ts b → ⊥) → ⊥
    by (inl x) (inl y) later = other (ap (λ (u : Rooted). u.0) (sym x ∙ y))
    by (inl x) (inr y) later = far_apart t.1 (nodes_in ts) far q (here a x first) (node_in ts b q y second)
    by (inr x) (inl y) later = far_apart t.1 (nodes_in ts) far q (here b y second) (node_in ts a q x first)
    by (inr x) (inr y) later = later x y

-- the two trees of an object
abbrev pub trees_of : Held → List Rooted
trees_of h = (h.onode.base.0, h.attributes.nodes.items) ∷ (h.onode.base.0 + 1, h.omap.nodes.items) ∷ []

pub nodes_of_trees : (hs : List Held) → nodes_in (flat_map trees_of hs) ≡ flat_map nodes_of hs
nodes_of_trees [] = refl
nodes_of_trees (h ∷ hs) =
    ap (λ (ns : List ℕ). h.attributes.nodes.items ++ (h.omap.nodes.items ++ ns)) (nodes_of_trees hs) ∙ sym (append_assoc h.attributes.nodes.items h.omap.nodes.items (flat_map nodes_of hs))

pub tree_listed : (hs : List Held) (h : Held) (t : Rooted) → Contains hs h → Contains (trees_of h) t → Contains (flat_map trees_of hs) t
tree_listed [] h t has own = absurd (Contains-nil h has)
tree_listed (x ∷ hs) h t has own =
    ⊎_elim
    (λ (same : x ≡ h). Contains-append_left (trees_of x) (flat_map trees_of hs) t (subst (λ (y : Held). Contains (trees_of y) t) (sym same) own))
    (λ later. Contains-append_right (trees_of x) (flat_map trees_of hs) t (tree_listed hs h t later own))
    (Contains-cases x hs h has)

pub node_of_one : (hs : List Held) (q : ℕ) → Contains (flat_map nodes_of hs) q → (h : Held) × Contains hs h × Contains (nodes_of h) q
node_of_one [] q has = absurd (Contains-nil q has)
node_of_one (h ∷ hs) q has = elim (Contains-append_cases (nodes_of h) (flat_map nodes_of hs) q has) [
  | inl here ↦ (h, Contains-head h hs, here)
  | inr later ↦ let f = node_of_one hs q later in (f.0, Contains-later h hs f.0 f.1, f.2)
]

-- an address is one of one object alone
module _ (at : ℕ) where
  meet : (x y : Held) → IsFar 4098 x.onode.base.0 y.onode.base.0 → IsInRange x.onode at → IsInRange y.onode at → ⊥
  meet x y (inl far) first second = omega (arith, first.0, first.1, second.0, second.1)
  meet x y (inr far) first second = omega (arith, first.0, first.1, second.0, second.1)

  pub one_in_range : (hs : List Held) → AreFar 4098 (each (λ h. h.onode.base.0) hs) → (x y : Held) → Contains hs x → Contains hs y → IsInRange x.onode at → IsInRange y.onode at → x ≡ y
  one_in_range [] far x y has_x has_y first second = absurd (Contains-nil x has_x)
  one_in_range (h ∷ hs) far x y has_x has_y first second = by (Contains-cases h hs x has_x) (Contains-cases h hs y has_y) (λ a b. one_in_range hs far.1 x y a b first second)
    where
      away : (z : Held) → Contains hs z → IsFar 4098 h.onode.base.0 z.onode.base.0
      away z has = All-contains (IsFar 4098 h.onode.base.0) (each (λ h. h.onode.base.0) hs) z.onode.base.0 far.0 (Contains-each (λ (h : Held). h.onode.base.0) hs z has)

      here : (z : Held) → h ≡ z → IsInRange z.onode at → IsInRange h.onode at
      here z same within = subst (λ (w : Held). IsInRange w.onode at) (sym same) within

      by : (h ≡ x) ⊎ Contains hs x → (h ≡ y) ⊎ Contains hs y → (Contains hs x → Contains hs y → x ≡ y) → x ≡ y
      by (inl a) (inl b) later = sym a ∙ b
      by (inl a) (inr b) later = absurd (meet h y (away y b) (here x a first) second)
      by (inr a) (inl b) later = absurd (meet h x (away x a) (here y b second) first)
      by (inr a) (inr b) later = later a b
