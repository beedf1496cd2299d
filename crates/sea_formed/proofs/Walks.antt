-- What is read below a node, child by child.
use Rattle.std.proofs.Common.{◌≡◌, ℕ, suc, ◌+◌, ◌<◌, ◌≤◌, List, [], ◌∷◌, ◌++◌, length, Option, Some, None, inl, inr, refl, sym, ap, subst, ◌∙◌, arith, append_assoc, append-nil, length-append}
use Rattle.std.specs.FinMap as map
use Rattle.std.specs.FinMap.{same_map, get-empty, get-from_sorted}
use Rattle.sea_base.specs.Space.{Store}
use Rattle.sea_node.specs.Entries.{Entry, key_order}
use Rattle.sea_node.specs.Node.{Spells}
use Rattle.sea_node.proofs.Keys.{IsRising-nil, key_order_total, same_key}
use Rattle.sea_tree.specs.Tree.{Bounds, root_bounds, next_key, child_bounds, IsAddress, IsSubtree, IsTree, EachChild}
use Rattle.sea_tree.specs.Content.{HasContent}
use Rattle.sea_tree.specs.Breaks.{HasNode}
use Rattle.sea_tree.specs.Place.{Splits}
use Rattle.sea_tree.specs.Subtrees.{AllBelow, Holds}
use Rattle.sea_tree.proofs.Holding.{AllBelow-append, one_node, child_holds, keys_held, nodes_of_root, no_node, Contains-nil}
use Rattle.sea_tree.proofs.Contents.{HasContent-from_sorted, HasContent-empty}
use Rattle.sea_tree.proofs.Apart.{Holds-distinct, distinct-nil, IsSubtree-node}
use Rattle.sea_tree.proofs.Frames.{AllBelow-one}
use Rattle.sea_formed.specs.Trees.{IsTreeOf}

-- what was read of a node above the leaves: itself, and what is below its first entries
pub record Collects (store : Store) (level at : ℕ) (entries : List Entry) (upper : Option (List ℕ)) (index : ℕ) (pairs : List Entry) (nodes : List ℕ) : Type 0 where
  pub done : List Entry
  pub rest : List Entry
  pub split : entries ≡ done ++ rest
  pub count : length done ≡ index
  pub others : List ℕ
  pub below : AllBelow (Holds store level) done (next_key rest upper) pairs others
  pub listed : nodes ≡ at ∷ others

pub collects_none : (store : Store) (level at : ℕ) (entries : List Entry) (upper : Option (List ℕ)) (pairs : List Entry) (nodes : List ℕ) → pairs ≡ [] → nodes ≡ at ∷ [] → Collects store level at entries upper 0 pairs nodes
collects_none store level at entries upper pairs nodes none one =
    record { done = []; rest = entries; split = refl; count = refl; others = []; below = (none, refl); listed = one }

module _ (store : Store) (level at : ℕ) (entries : List Entry) (upper : Option (List ℕ)) (index : ℕ) (pairs : List Entry) (nodes : List ℕ) (c : Collects store level at entries upper index pairs nodes) where
  -- all entries were passed
  pub collects_all : (top : ℕ) → suc level ≡ top → (bounds : Bounds) → upper ≡ bounds.upper → HasNode store top at bounds entries → length entries ≤ index → Holds store top at bounds pairs nodes
  collects_all top is bounds same node' end = subst (λ (l : ℕ). Holds store l at bounds pairs nodes) is (by c.rest c.split c.below)
    where
      node : HasNode store (suc level) at bounds entries
      node = subst (λ (l : ℕ). HasNode store l at bounds entries) (sym is) node'

      by : (rest : List Entry) → entries ≡ c.done ++ rest → AllBelow (Holds store level) c.done (next_key rest upper) pairs c.others → Holds store (suc level) at bounds pairs nodes
      by [] split below =
          let whole : AllBelow (Holds store level) entries bounds.upper pairs c.others = subst (λ (u : Option (List ℕ)). AllBelow (Holds store level) entries u pairs c.others) same (subst (λ (es : List Entry). AllBelow (Holds store level) es upper pairs c.others) (sym (split ∙ append-nil c.done)) below) in
          (entries, c.others, node, whole, c.listed)
      by (entry ∷ rest) split below = absurd (omega (arith, end, c.count, ap length split, length-append c.done (entry ∷ rest)))

  module _ (within : index < length entries) where
    next_entry : (rest : List Entry) → entries ≡ c.done ++ rest → (entry : Entry) × (after : List Entry) × (rest ≡ entry ∷ after)
    next_entry [] split = absurd (omega (arith, within, c.count, ap length (split ∙ append-nil c.done)))
    next_entry (entry ∷ after) split = (entry, after, refl)

    pub next : (entry : Entry) × (after : List Entry) × (c.rest ≡ entry ∷ after)
    next = next_entry c.rest c.split

    pub next_splits : Splits entries index c.done next.0 next.1
    next_splits = record { split = c.split ∙ ap (λ (r : List Entry). c.done ++ r) next.2; count = c.count }

    module _ (child : ℕ) (asked : Bounds) (address : (before after : List Entry) (entry : Entry) → Splits entries index before entry after → IsAddress entry.1 child) (asks : (before after : List Entry) (entry : Entry) → Splits entries index before entry after → asked ≡ child_bounds entry after upper) where
      -- one more child is read
      pub collects_more : (p : List Entry) (n : List ℕ) → Holds store level child asked p n → (pairs' : List Entry) (nodes' : List ℕ) → pairs' ≡ pairs ++ p → nodes' ≡ nodes ++ n → Collects store level at entries upper (index + 1) pairs' nodes'
      unfolding next
      collects_more p n holds pairs' nodes' more listed = record {
        done = c.done ++ next.0 ∷ [];
        rest = next.1;
        split = next_splits.split ∙ sym (append_assoc c.done (next.0 ∷ []) next.1);
        count = omega (arith, c.count, length-append c.done (next.0 ∷ []));
        others = c.others ++ (n ++ []);
        below =
            let here = subst (λ (b : Bounds). Holds store level child b p n) (asks c.done next.1 next.0 next_splits) holds in
            let one = AllBelow-one (Holds store level) next.0 [] (next_key next.1 upper) child p [] n [] (address c.done next.1 next.0 next_splits) here (refl, refl) in
            let before : AllBelow (Holds store level) c.done (next_key (next.0 ∷ []) (next_key next.1 upper)) pairs c.others = subst (λ (r : List Entry). AllBelow (Holds store level) c.done (next_key r upper) pairs c.others) next.2 c.below in
            let all = AllBelow-append (Holds store level) c.done (next.0 ∷ []) (next_key next.1 upper) pairs (p ++ []) c.others (n ++ []) before one in
            subst (λ (ps : List Entry). AllBelow (Holds store level) (c.done ++ next.0 ∷ []) (next_key next.1 upper) ps (c.others ++ (n ++ []))) (ap (λ (ps : List Entry). pairs ++ ps) (append-nil p) ∙ sym more) all;
        listed = listed ∙ ap (λ (ns : List ℕ). ns ++ n) c.listed ∙ ap (λ (ns : List ℕ). at ∷ (c.others ++ ns)) (sym (append-nil n));
      }

      -- a subtree has the child in its place
      pub child_of : (top : ℕ) → suc level ≡ top → (bounds : Bounds) → upper ≡ bounds.upper → HasNode store top at bounds entries → IsSubtree store top at bounds → IsSubtree store level child asked
      unfolding next
      child_of top is bounds same node' tree' =
          let node : HasNode store (suc level) at bounds entries = subst (λ (l : ℕ). HasNode store l at bounds entries) (sym is) node' in
          let tree : IsSubtree store (suc level) at bounds = subst (λ (l : ℕ). IsSubtree store l at bounds) (sym is) tree' in
          let one = (one_node store at (suc level) (suc level) tree.0 entries tree.1 node.0).1 in
          let all : EachChild (IsSubtree store level) entries upper = subst (λ (u : Option (List ℕ)). EachChild (IsSubtree store level) entries u) (sym same) (subst (λ (es : List Entry). EachChild (IsSubtree store level) es bounds.upper) one tree.3) in
          child_holds (IsSubtree store level) entries upper c.done next.1 child asked all (record { entry = next.0; split = next_splits.split; address = address c.done next.1 next.0 next_splits; bounds_are = asks c.done next.1 next.0 next_splits })

-- ---- a whole tree

no_pair_sorted : map.from_sorted {X = List ℕ} {R = key_order} [] ≡ map.empty
no_pair_sorted = same_map key_order_total same_key (map.from_sorted []) map.empty (λ key.
    get-from_sorted key_order [] key tt ∙ sym (get-empty key_order key))

pub empty_tree : (store : Store) (root : ℕ) (pairs : List Entry) (nodes : List ℕ) → store root ≡ None → pairs ≡ [] → nodes ≡ [] → IsTreeOf store root pairs nodes
empty_tree store root pairs nodes none no_pair no_node_read = subst (λ (ns : List ℕ). IsTreeOf store root pairs ns) (sym no_node_read) (subst (λ (ps : List Entry). IsTreeOf store root ps []) (sym no_pair) (record {
  content = subst (HasContent store root) (sym no_pair_sorted) (HasContent-empty store root none);
  rising = IsRising-nil;
  once = distinct-nil;
  nodes = λ q. (λ c. absurd (Contains-nil q c), λ node. absurd (no_node store root q none node));
}))

pub whole_tree : (store : Store) (level root : ℕ) (bounds : Bounds) (pairs : List Entry) (nodes : List ℕ) → bounds ≡ root_bounds → Holds store level root bounds pairs nodes → IsTreeOf store root pairs nodes
whole_tree store level root bounds pairs nodes same held =
    let holds = subst (λ (b : Bounds). Holds store level root b pairs nodes) same held in
    record {
      content = HasContent-from_sorted store level root pairs nodes holds;
      rising = (keys_held store level root root_bounds pairs nodes holds).rising;
      once = Holds-distinct store level root root_bounds pairs nodes holds;
      nodes = λ q. nodes_of_root store level root root_bounds pairs nodes q holds;
    }

-- what stands at the root is the node of a level
pub root_subtree : (store : Store) (root level : ℕ) (es : List Entry) (bounds : Bounds) → bounds ≡ root_bounds → (bytes : List ℕ) → Some bytes ≡ store root → Spells bytes level es → IsTree store root → IsSubtree store level root bounds
root_subtree store root level es bounds same bytes here spells (inl none) = absurd (let e : ◌≡◌ {A = Option (List ℕ)} (Some bytes) None = here ∙ none in cc)
root_subtree store root level es bounds same bytes here spells (inr tree) =
    let top = IsSubtree-node store tree.0 root root_bounds tree.1 in
    let is = (one_node store root tree.0 level top.0 es top.1 (record { bytes = bytes; here = sym here; spells = spells })).0 in
    subst (λ (b : Bounds). IsSubtree store level root b) (sym same) (subst (λ (l : ℕ). IsSubtree store l root root_bounds) is tree.1)

-- what stands there is no node
pub no_root : (store : Store) (root : ℕ) (bytes : List ℕ) → Some bytes ≡ store root → ((level : ℕ) (es : List Entry) → Spells bytes level es → ⊥) → IsTree store root → ⊥
no_root store root bytes here not (inl none) = let e : ◌≡◌ {A = Option (List ℕ)} (Some bytes) None = here ∙ none in cc
no_root store root bytes here not (inr tree) =
    let top = IsSubtree-node store tree.0 root root_bounds tree.1 in
    let same : top.1.bytes ≡ bytes = (let e = sym top.1.here ∙ sym here in cc) in
    not tree.0 top.0 (subst (λ (b : List ℕ). Spells b tree.0 top.0) same top.1.spells)
