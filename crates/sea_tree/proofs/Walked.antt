-- What a walk of a whole tree tells, and what dropping each node leaves.
use Rattle.std.proofs.Common.{◌≡◌, ◌≢◌, ◌⊎◌, inl, inr, ⊎_elim, ℕ, ◌+◌, ◌-◌, ◌^◌, ◌<◌, ◌≤◌, List, [], ◌∷◌, ◌++◌, length, take, get_or, map as map_list, min, Option, Some, None, refl, sym, ap, subst, ◌∙◌, arith, add-one, true, ◌==◌}
use Rattle.std.specs.List.{Contains}
use Rattle.std.specs.FinMap as map
use Rattle.std.specs.FinMap.{len-entries, len-empty}
use Rattle.std.proofs.Math.Seq.{take-suc}
use Rattle.std.proofs.lemmas.List.{map-append}
use Rattle.std.proofs.lemmas.Bool.{cases_eq, eqb-true}
use Rattle.std.proofs.lemmas.List.Elements.{Contains-append_left, Contains-append_right, Contains-append_cases}
use Rattle.sea_base.specs.Space.{Store, Seen, Found, IsKnown, IsSound, Agrees, OnlyRead, Writes, laid}
use Rattle.sea_base.specs.declared.place.Laddr.{Laddr}
use Rattle.sea_base.proofs.Spaces.{agrees_before, laid-only_read, laid_here, laid_others}
use Rattle.sea_node.specs.Entries.{Entry, Values, key_order}
use Rattle.sea_tree.specs.declared.fault.TreeFault.{TreeFault}
use Rattle.sea_tree.specs.declared.fault.TreeFault.TheVariants.{Space, Broken}
use Rattle.sea_tree.specs.declared.walking.Walk.{Walk}
use Rattle.sea_tree.specs.Tree.{root_bounds, IsNodeOf}
use Rattle.sea_tree.specs.Content.{HasContent}
use Rattle.sea_tree.specs.Breaks.{HasNode, BreaksUnder}
use Rattle.sea_tree.specs.Calls.{Meets, Becomes, IsWalkFault, IsWalked}
use Rattle.sea_tree.specs.Place.{IsRootFault}
use Rattle.sea_tree.specs.Subtrees.{Holds, Below}
use Rattle.sea_tree.specs.Walk.{addresses, Adds, IsUnderFault}
use Rattle.sea_tree.proofs.Holding.{Holds-node, subtree_held, keys_held, nodes_of_root, no_node, Contains-nil, Contains-head, Contains-cases}
use Rattle.sea_tree.proofs.Contents.{same_pairs, entries_rise, get_contains, pairs_of_root, only_empty, HasContent-empty}
use Rattle.sea_tree.proofs.Apart.{distinct-nil, Holds-distinct, IsNodeOf-root, HasContent-beside, few_levels}
use Rattle.sea_tree.proofs.Paths.{HasNode-same, IsBroken-same, laid_same}
use Rattle.sea_tree.proofs.Touched.{either_true}
use Rattle.sea_tree.proofs.Walks.{one_store, under_first}

-- ---- a whole tree

-- a tree that holds these pairs has them as the entries of its content
pub content_pairs : (store : Store) (level root : ℕ) (pairs : List Entry) (nodes : List ℕ) (content : Values) → Holds store level root root_bounds pairs nodes → HasContent store root content → pairs ≡ map.entries content
content_pairs store level root pairs nodes content holds has = same_pairs pairs (map.entries content) (keys_held store level root root_bounds pairs nodes holds).rising (entries_rise content) (λ key value.
    let paths = pairs_of_root store level root root_bounds pairs nodes key value holds in
    let gets = get_contains content key value in
    (λ h. gets.0 ((has.pairs key value).0 (paths.1 h)), λ h. paths.0 ((has.pairs key value).1 (gets.1 h))))

pub walked_none : (s : Store) (root : ℕ) → s root ≡ None → IsWalked s root 0 []
walked_none s root none = record {
  tree = inl none;
  counted = λ content has. sym (ap (λ n. min n (2 ^ 64 - 1)) (ap (λ (c : Values). map.len c) (only_empty s root content none has) ∙ len-empty key_order (List ℕ)));
  once = distinct-nil;
  nodes = λ q. (λ c. absurd (Contains-nil q c), λ node. absurd (no_node s root q none node));
}

pub walked_all : (s : Store) (level root : ℕ) (pairs : List Entry) (nodes : List ℕ) (count : ℕ) → Holds s level root root_bounds pairs nodes → count ≡ min (length pairs) (2 ^ 64 - 1) → IsWalked s root count nodes
walked_all s level root pairs nodes count holds counted = record {
  tree = inr (level, subtree_held s level root root_bounds pairs nodes holds);
  counted = λ content has. counted ∙ ap (λ n. min n (2 ^ 64 - 1)) (ap length (content_pairs s level root pairs nodes content holds has) ∙ sym (len-entries content));
  once = Holds-distinct s level root root_bounds pairs nodes holds;
  nodes = λ q. nodes_of_root s level root root_bounds pairs nodes q holds;
}

module _ (root : ℕ) (old read : Seen) (sound : IsSound read) (reads : OnlyRead old read) where
  pub root_fault : (fault : TreeFault) → IsRootFault root read fault → IsWalkFault root old read fault
  root_fault (Space fault) cause = tt
  root_fault (Broken at) (is, known, some, broken) = λ store agrees.
      let same = laid_same old read store reads sound agrees in
      ((λ none. some (same root known ∙ none)), inl (is, λ level. IsBroken-same read read.view (laid old store) same level root root_bounds known (broken level)))

  module _ (known : IsKnown read root) where
    pub empty_walked : read.view root ≡ None → (store : Store) → Agrees store read → IsWalked (laid old store) root 0 []
    empty_walked none store agrees = walked_none (laid old store) root (sym (laid_same old read store reads sound agrees root known) ∙ none)

    module _ (level : ℕ) (es : List Entry) (has : HasNode read.view level root root_bounds es) (new : Seen) (rest : OnlyRead read new) where
      has_there : (store : Store) → Agrees store new → HasNode (laid old store) level root root_bounds es
      has_there store agrees = HasNode-same read read.view (laid old store) (laid_same old read store reads sound (agrees_before rest agrees)) level root root_bounds es known has

      pub under_fault : (fault : TreeFault) → IsUnderFault level es None read new fault → IsWalkFault root old new fault
      under_fault (Space fault) cause = tt
      under_fault (Broken q) breaks = λ store agrees.
          let s = laid old store in
          let there = has_there store agrees in
          let under = subst (λ (t : Store). BreaksUnder t level es None q.0) (one_store reads store) (breaks store agrees) in
          ((λ none. let here = there.0.here in cc), inr (level, (es, there), under_first s level root root_bounds es q.0 there under))

      pub root_walked : (address : Laddr) (pushed after : Walk) → address.0 ≡ root → pushed.pairs ≡ 0 → pushed.nodes ≡ address ∷ [] → Adds level es None read new pushed after → (store : Store) → Agrees store new → IsWalked (laid old store) root after.pairs (addresses after)
      root_walked address pushed after is none one adds store agrees =
          let s = laid old store in
          let under = subst (λ (t : Store). Below t level es None adds.pairs adds.nodes) (one_store reads store) (adds.below store agrees) in
          let holds = Holds-node s level root root_bounds es adds.pairs adds.nodes (has_there store agrees) under in
          let listed : addresses after ≡ root ∷ adds.nodes = adds.listed ∙ ap (λ (ns : List Laddr). map_list (λ at. at.0) ns ++ adds.nodes) one ∙ ap (λ (a : ℕ). a ∷ adds.nodes) is in
          let counted : after.pairs ≡ min (length adds.pairs) (2 ^ 64 - 1) = omega (arith, adds.counted, none) in
          subst (λ (ns : List ℕ). IsWalked (laid old store) root after.pairs ns) (sym listed) (walked_all s level root adds.pairs (root ∷ adds.nodes) after.pairs holds counted)

-- ---- dropping

-- Nothing is left at these addresses, and nothing else has changed.
pub record Dropped (gone : List ℕ) (old new : Seen) : Type 0 where
  pub here : (store : Store) (q : ℕ) → Contains gone q → laid new store q ≡ None
  pub others : (store : Store) (q : ℕ) → (Contains gone q → ⊥) → laid new store q ≡ laid old store q
  pub changed : (q : ℕ) → new.changed q ≡ true → (old.changed q ≡ true) ⊎ Contains gone q
  pub reads : (q : ℕ) (found : Found) → old.reads q ≡ Some found → new.reads q ≡ Some found

pub dropped_none : (old new : Seen) → OnlyRead old new → Dropped [] old new
dropped_none old new reads = record { here = λ store q c. absurd (Contains-nil q c); others = λ store q not. laid-only_read reads store q; changed = λ q e. inl (sym (reads.changed q) ∙ e); reads = reads.noted }

pub dropped_more : (gone : List ℕ) (at : ℕ) (old mid new : Seen) → Dropped gone old mid → Writes at None mid new → Dropped (gone ++ at ∷ []) old new
dropped_more gone at old mid new before w = record {
  here = λ store q c. elim (cases_eq q at) [
    | inl same ↦ ap (laid new store) same ∙ laid_here w store
    | inr other ↦ laid_others w store q other ∙ before.here store q (earlier q other c)
  ];
  others = λ store q not. laid_others w store q (λ same. not (last q same)) ∙ before.others store q (λ c. not (Contains-append_left gone (at ∷ []) q c));
  changed = λ q e. elim (either_true (q == at) (mid.changed q) (sym (w.changed q) ∙ e)) [
    | inl same ↦ inr (last q (eqb-true q at same))
    | inr earlier ↦ elim (before.changed q earlier) [ inl was ↦ inl was | inr c ↦ inr (Contains-append_left gone (at ∷ []) q c) ]
  ];
  reads = λ q found e. w.reads q ∙ before.reads q found e;
}
  where
    earlier : (q : ℕ) → q ≢ at → Contains (gone ++ at ∷ []) q → Contains gone q
    earlier q other c = ⊎_elim (λ first. first) (λ later. ⊎_elim (λ (same : at ≡ q). absurd (other (sym same))) (λ none. absurd (Contains-nil q none)) (Contains-cases at [] q later)) (Contains-append_cases gone (at ∷ []) q c)

    last : (q : ℕ) → q ≡ at → Contains (gone ++ at ∷ []) q
    last q same = Contains-append_right gone (at ∷ []) q (subst (λ (a : ℕ). Contains (a ∷ []) q) same (Contains-head q []))

-- a tree all of whose nodes are dropped is empty, and nothing else changes
module _ (store : Store) (root : ℕ) (old new : Seen) (content : Values) (pairs : ℕ) (walked : List ℕ) (dropped : Dropped walked old new) (w : IsWalked (laid old store) root pairs walked) (m : Meets store root old new content) (same_next : new.next ≡ old.next) where
  none_given : (at : ℕ) → old.next ≤ at → at < new.next → ⊥
  none_given at from below = omega (arith, same_next)

  untouched : (at : ℕ) → (IsNodeOf (laid old store) root at → ⊥) → laid new store at ≡ laid old store at
  untouched at not = dropped.others store at (λ c. not ((w.nodes at).0 c))

  nothing : (at : ℕ) → IsNodeOf (laid old store) root at → laid new store at ≡ None
  nothing at node = dropped.here store at ((w.nodes at).1 node)

  root_empty : laid new store root ≡ None
  root_empty = by (laid old store root) refl
    where
      by : (o : Option (List ℕ)) → laid old store root ≡ o → laid new store root ≡ None
      by None none = untouched root (no_node (laid old store) root root none) ∙ none
      by (Some bytes) some = nothing root (IsNodeOf-root (laid old store) root w.tree (λ none. let e = sym some ∙ none in cc))

  nothing_left : (at : ℕ) → (at ≡ root) ⊎ IsNodeOf (laid old store) root at → laid new store at ≡ None
  nothing_left at (inl same) = ap (laid new store) same ∙ root_empty
  nothing_left at (inr node) = nothing at node

  pub becomes_empty : Becomes store root old new map.empty × ((at : ℕ) → (at ≡ root) ⊎ IsNodeOf (laid old store) root at → laid new store at ≡ None)
  becomes_empty = (
    record {
      content = HasContent-empty (laid new store) root root_empty;
      elsewhere = λ at other not outside. untouched at not;
      nodes = λ at node. absurd (no_node (laid new store) root at root_empty node);
      left = λ at was_there filled. absurd (elim was_there [
        | inl same ↦ filled (ap (laid new store) same ∙ root_empty)
        | inr (inl node) ↦ filled (nothing at node)
        | inr (inr given) ↦ none_given at given.0 given.1
      ]);
      used = λ at from below. absurd (none_given at from below);
      levels = λ level tree. few_levels (laid new store) level root root_bounds tree;
      others = λ other kept not_root has apart outside. HasContent-beside (laid old store) (laid new store) root old.next new.next w.tree m.fresh (λ at else not out. untouched at not) other kept has apart not_root outside;
    },
    nothing_left,
  )

-- the addresses of the first items, and one more
pub addresses_more : (items : List Laddr) (index : ℕ) (default : Laddr) → index < length items → map_list (λ at. at.0) (take (index + 1) items) ≡ map_list (λ at. at.0) (take index items) ++ (get_or items index default).0 ∷ []
addresses_more items index default within =
    ap (λ (n : ℕ). map_list (λ at. at.0) (take n items)) (add-one index) ∙ ap (λ (l : List Laddr). map_list (λ at. at.0) l) (take-suc items index default within) ∙ map-append (λ (at : Laddr). at.0) (take index items) (get_or items index default ∷ [])
