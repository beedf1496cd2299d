-- What the leaf at a path's end tells of the content of a tree.
use Rattle.std.proofs.Common.{◌≡◌, ℕ, zero, suc, ◌<◌, Bool, true, false, cond, List, [], ◌∷◌, length, get_or, Option, Some, None, refl, sym, ap, ◌∙◌, arith}
use Rattle.std.specs.List.{Contains}
use Rattle.std.specs.Ordering.{is_eq}
use Rattle.std.specs.declared.cmp.Ordering.{Ordering}
use Rattle.std.specs.declared.cmp.Ordering.TheVariants.{Less, Equal, Greater}
use Rattle.std.specs.FinMap as map
use Rattle.std.specs.FinMap.Entries.{find}
use Rattle.sea_base.specs.Space.{Store, Seen, IsKnown, IsSound, Agrees, OnlyRead, laid}
use Rattle.sea_node.specs.Entries.{Entry, Values, key_order}
use Rattle.sea_node.proofs.Keys.{same_key, key_order-itself}
use Rattle.sea_tree.specs.declared.path.Step.{Step}
use Rattle.sea_tree.specs.Tree.{Bounds, root_bounds, LiesWithin}
use Rattle.sea_tree.specs.Content.{HasContent}
use Rattle.sea_tree.specs.Path.{IsPath, LeafPath, IsLeafPath}
use Rattle.sea_tree.proofs.Contents.{only_empty}
use Rattle.sea_tree.proofs.Holding.{Contains-later}
use Rattle.sea_tree.proofs.Paths.{leaf_leads, path_laid, laid_same}

contains_found : (q : List ℕ) (es : List Entry) (v : List ℕ) → find key_order q es ≡ Some v → Contains es (q, v)
contains_found q [] v h = absurd (cc)
contains_found q (e ∷ es) v h = by (λ rest. contains_found q es v rest) (key_order q e.0) refl h
  where
    by : (find key_order q es ≡ Some v → Contains es (q, v)) → (o : Ordering) → key_order q e.0 ≡ o → cond (is_eq o) (Some e.1) (find key_order q es) ≡ Some v → Contains (e ∷ es) (q, v)
    by rest Less tie h = Contains-later e es (q, v) (rest h)
    by rest Greater tie h = Contains-later e es (q, v) (rest h)
    by rest Equal tie h =
        let key = same_key q e.0 tie in
        let value : e.1 ≡ v = (cc) in
        (0, omega arith, λ i. (sym key i, value i))

not_missing : (q : List ℕ) (es : List Entry) (v : List ℕ) (k : ℕ) → k < length es → get_or es k (q, v) ≡ (q, v) → find key_order q es ≡ None → ⊥
not_missing q [] v k within is none = omega arith
not_missing q (e ∷ es) v zero within is none =
    let tie = ap is_eq (ap (key_order q) (ap (λ (e : Entry). e.0) is) ∙ key_order-itself q) in
    let some : Some e.1 ≡ None = sym (ap (λ (b : Bool). cond b (Some e.1) (find key_order q es)) tie) ∙ none in
    cc
not_missing q (e ∷ es) v (suc k) within is none = not_missing q es v k (omega arith) is (by (is_eq (key_order q e.0)) none)
  where
    by : (b : Bool) → cond b (Some e.1) (find key_order q es) ≡ None → find key_order q es ≡ None
    by true h = absurd (cc)
    by false h = h

-- A leaf has under the keys within its bounds what the tree has.
pub leaf_find : (s : Store) (level root : ℕ) (steps : List Step) (key : List ℕ) (leaf : ℕ) (es : List Entry) (b : Bounds) (content : Values) → IsPath s level root root_bounds steps key leaf es b → HasContent s root content → (q : List ℕ) → LiesWithin q b → find key_order q es ≡ map.get content q
leaf_find s level root steps key leaf es b content path holds q lies = by (find key_order q es) refl
  where
    none : find key_order q es ≡ None → (y : Option (List ℕ)) → map.get content q ≡ y → None ≡ y
    none h None e = refl
    none h (Some v) e =
        let has = (leaf_leads s level root root_bounds steps key leaf es b q v path lies).0 ((holds.pairs q v).1 e) in
        absurd (not_missing q es v has.0 has.1 has.2 h)

    by : (x : Option (List ℕ)) → find key_order q es ≡ x → x ≡ map.get content q
    by (Some v) h = sym ((holds.pairs q v).0 ((leaf_leads s level root root_bounds steps key leaf es b q v path lies).1 (contains_found q es v h)))
    by None h = none h (map.get content q) refl

module _ (old new : Seen) (root : ℕ) (reads : OnlyRead old new) (sound : IsSound new) (store : Store) (content : Values) (agrees : Agrees store new) (holds : HasContent (laid old store) root content) where
  pub known_find : (key : List ℕ) (path : LeafPath) → IsLeafPath new root key path → (q : List ℕ) → LiesWithin q path.bounds → find key_order q path.entries ≡ map.get content q
  known_find key path known q lies =
      leaf_find (laid old store) known.top root path.steps key path.at path.entries path.bounds content (path_laid old new store root key path reads sound agrees known) holds q lies

  pub known_empty : IsKnown new root → new.view root ≡ None → (q : List ℕ) → map.get content q ≡ None
  known_empty known none q = ap (λ (m : Values). map.get m q) (only_empty (laid old store) root content (sym (laid_same old new store reads sound agrees root known) ∙ none) holds) ∙ map.get-empty key_order q

-- ---- a look through a leaf's entries
