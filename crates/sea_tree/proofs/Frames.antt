-- Subtrees that stay in another store, and those below a list of entries, some of them replaced.
use Rattle.std.proofs.Common.{◌≡◌, ℕ, zero, suc, List, [], ◌∷◌, ◌++◌, Option, Some, Contains, refl, sym, ap, subst, ◌∙◌}
use Rattle.std.proofs.lemmas.List.Elements.{Contains-append_left, Contains-append_right}
use Rattle.sea_base.specs.Space.{Store}
use Rattle.sea_node.specs.Entries.{Entry}
use Rattle.sea_tree.specs.Tree.{NodeAt, Bounds, child_bounds, IsAddress}
use Rattle.sea_tree.specs.Breaks.{HasNode}
use Rattle.sea_tree.specs.Subtrees.{AllBelow, Holds, Below}
use Rattle.sea_tree.proofs.Holding.{AllBelow-append, AllBelow-pick, Contains-head, Contains-later}

-- what may stand at the child of an entry, with its pairs and nodes
abbrev pub Children : Type 1
Children = ℕ → Bounds → List Entry → List ℕ → Type 0

-- the two stores have the same at each of these addresses
abbrev pub IsSameOn : Store → Store → List ℕ → Type 0
IsSameOn s t nodes = (q : ℕ) → Contains nodes q → t q ≡ s q

pub IsSameOn-head : (s t : Store) (at : ℕ) (nodes : List ℕ) → IsSameOn s t (at ∷ nodes) → t at ≡ s at
IsSameOn-head s t at nodes same = same at (Contains-head at nodes)

pub IsSameOn-tail : (s t : Store) (at : ℕ) (nodes : List ℕ) → IsSameOn s t (at ∷ nodes) → IsSameOn s t nodes
IsSameOn-tail s t at nodes same q c = same q (Contains-later at nodes q c)

pub IsSameOn-left : (s t : Store) (a b : List ℕ) → IsSameOn s t (a ++ b) → IsSameOn s t a
IsSameOn-left s t a b same q c = same q (Contains-append_left a b q c)

pub IsSameOn-right : (s t : Store) (a b : List ℕ) → IsSameOn s t (a ++ b) → IsSameOn s t b
IsSameOn-right s t a b same q c = same q (Contains-append_right a b q c)

-- a node stays where the store stays
pub NodeAt-kept : (s t : Store) (at level : ℕ) (entries : List Entry) → t at ≡ s at → NodeAt s at level entries → NodeAt t at level entries
NodeAt-kept s t at level entries same node = record { bytes = node.bytes; here = same ∙ node.here; spells = node.spells }

pub HasNode-kept : (s t : Store) (level at : ℕ) (bounds : Bounds) (entries : List Entry) → t at ≡ s at → HasNode s level at bounds entries → HasNode t level at bounds entries
HasNode-kept s t level at bounds entries same node = (NodeAt-kept s t at level entries same node.0, node.1)

-- What holds of each child makes what holds of all. The nodes of a child are among those of all.
pub AllBelow-map : (C D : Children) (entries : List Entry) (upper : Option (List ℕ)) (pairs : List Entry) (nodes : List ℕ) → ((child : ℕ) (b : Bounds) (p : List Entry) (n : List ℕ) → ((q : ℕ) → Contains n q → Contains nodes q) → C child b p n → D child b p n) → AllBelow C entries upper pairs nodes → AllBelow D entries upper pairs nodes
AllBelow-map C D [] upper pairs nodes each below = below
AllBelow-map C D (entry ∷ after) upper pairs nodes each below =
    let n = below.3 in
    let ns = below.4 in
    let first : (q : ℕ) → Contains n q → Contains nodes q = λ q c. subst (λ (l : List ℕ). Contains l q) (sym below.9) (Contains-append_left n ns q c) in
    let later : (q : ℕ) → Contains ns q → Contains nodes q = λ q c. subst (λ (l : List ℕ). Contains l q) (sym below.9) (Contains-append_right n ns q c) in
    (below.0, below.1, below.2, n, ns, below.5, each below.0 (child_bounds entry after upper) below.1 n first below.6, AllBelow-map C D after upper below.2 ns (λ child b p m inside. each child b p m (λ q c. later q (inside q c))) below.7, below.8, below.9)

-- a subtree stays where each of its nodes stays
pub Holds-kept : (s t : Store) (level at : ℕ) (bounds : Bounds) (pairs : List Entry) (nodes : List ℕ) → IsSameOn s t nodes → Holds s level at bounds pairs nodes → Holds t level at bounds pairs nodes
Holds-kept s t zero at bounds pairs nodes same holds =
    let here : t at ≡ s at = IsSameOn-head s t at [] (subst (IsSameOn s t) holds.3 same) in
    (holds.0, HasNode-kept s t 0 at bounds holds.0 here holds.1, holds.2, holds.3)
Holds-kept s t (suc level) at bounds pairs nodes same holds =
    let all : IsSameOn s t (at ∷ holds.1) = subst (IsSameOn s t) holds.4 same in
    let below : AllBelow (Holds t level) holds.0 bounds.upper pairs holds.1 =
    AllBelow-map (Holds s level) (Holds t level) holds.0 bounds.upper pairs holds.1 (λ child b p n inside. Holds-kept s t level child b p n (λ q c. all q (Contains-later at holds.1 q (inside q c)))) holds.3 in
    (holds.0, holds.1, HasNode-kept s t (suc level) at bounds holds.0 (IsSameOn-head s t at holds.1 all) holds.2, below, holds.4)

pub AllBelow-kept : (s t : Store) (level : ℕ) (entries : List Entry) (upper : Option (List ℕ)) (pairs : List Entry) (nodes : List ℕ) → IsSameOn s t nodes → AllBelow (Holds s level) entries upper pairs nodes → AllBelow (Holds t level) entries upper pairs nodes
AllBelow-kept s t level entries upper pairs nodes same =
    AllBelow-map (Holds s level) (Holds t level) entries upper pairs nodes (λ child b p n inside. Holds-kept s t level child b p n (λ q c. same q (inside q c)))

pub Below-kept : (s t : Store) (level : ℕ) (entries : List Entry) (upper : Option (List ℕ)) (pairs : List Entry) (nodes : List ℕ) → IsSameOn s t nodes → Below s level entries upper pairs nodes → Below t level entries upper pairs nodes
Below-kept s t zero entries upper pairs nodes same below = below
Below-kept s t (suc level) entries upper pairs nodes same below = AllBelow-kept s t level entries upper pairs nodes same below

-- ---- entries with their subtrees replaced

-- one subtree before others, and behind others
pub AllBelow-one : (C : Children) (entry : Entry) (after : List Entry) (upper : Option (List ℕ)) (child : ℕ) (p ps : List Entry) (n ns : List ℕ) → IsAddress entry.1 child → C child (child_bounds entry after upper) p n → AllBelow C after upper ps ns → AllBelow C (entry ∷ after) upper (p ++ ps) (n ++ ns)
AllBelow-one C entry after upper child p ps n ns address here below = (child, p, ps, n, ns, address, here, below, refl, refl)

pub AllBelow-around : (C : Children) (before : List Entry) (entry : Entry) (after : List Entry) (upper : Option (List ℕ)) (child : ℕ) (pb p pa : List Entry) (nb n na : List ℕ) → AllBelow C before (Some entry.0) pb nb → IsAddress entry.1 child → C child (child_bounds entry after upper) p n → AllBelow C after upper pa na → AllBelow C (before ++ entry ∷ after) upper (pb ++ (p ++ pa)) (nb ++ (n ++ na))
AllBelow-around C before entry after upper child pb p pa nb n na left address here right =
    AllBelow-append C before (entry ∷ after) upper pb (p ++ pa) nb (n ++ na) left (AllBelow-one C entry after upper child p pa n na address here right)

-- two entries that follow each other, with their children, and what stands before, in and after them
pub record Adjacent (C : Children) (before : List Entry) (entry next : Entry) (after : List Entry) (upper : Option (List ℕ)) (pairs : List Entry) (nodes : List ℕ) : Type 0 where
  pub child : ℕ
  pub next_child : ℕ
  pub pairs_before : List Entry
  pub pairs_here : List Entry
  pub pairs_next : List Entry
  pub pairs_after : List Entry
  pub nodes_before : List ℕ
  pub nodes_here : List ℕ
  pub nodes_next : List ℕ
  pub nodes_after : List ℕ
  pub address : IsAddress entry.1 child
  pub next_address : IsAddress next.1 next_child
  pub first : AllBelow C before (Some entry.0) pairs_before nodes_before
  pub here : C child (child_bounds entry (next ∷ after) upper) pairs_here nodes_here
  pub there : C next_child (child_bounds next after upper) pairs_next nodes_next
  pub rest : AllBelow C after upper pairs_after nodes_after
  pub pairs_are : pairs ≡ pairs_before ++ (pairs_here ++ (pairs_next ++ pairs_after))
  pub nodes_are : nodes ≡ nodes_before ++ (nodes_here ++ (nodes_next ++ nodes_after))

pub AllBelow-adjacent : (C : Children) (before : List Entry) (entry next : Entry) (after : List Entry) (upper : Option (List ℕ)) (pairs : List Entry) (nodes : List ℕ) → AllBelow C (before ++ entry ∷ next ∷ after) upper pairs nodes → Adjacent C before entry next after upper pairs nodes
AllBelow-adjacent C before entry next after upper pairs nodes all =
    let p = AllBelow-pick C before entry (next ∷ after) upper pairs nodes all in
    let h = p.rest in
    record {
      child = p.child;
      next_child = h.0;
      pairs_before = p.pairs_before;
      pairs_here = p.pairs_here;
      pairs_next = h.1;
      pairs_after = h.2;
      nodes_before = p.nodes_before;
      nodes_here = p.nodes_here;
      nodes_next = h.3;
      nodes_after = h.4;
      address = p.address;
      next_address = h.5;
      first = p.first;
      here = p.here;
      there = h.6;
      rest = h.7;
      pairs_are = p.pairs_are ∙ ap (λ (l : List Entry). p.pairs_before ++ (p.pairs_here ++ l)) h.8;
      nodes_are = p.nodes_are ∙ ap (λ (l : List ℕ). p.nodes_before ++ (p.nodes_here ++ l)) h.9;
    }
