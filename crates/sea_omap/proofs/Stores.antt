-- What keys changed one after the other do to a store in which their tree stands.
use Rattle.std.proofs.Common.{◌≡◌, ◌≢◌, ◌⊎◌, inl, inr, ℕ, zero, suc, ◌+◌, ◌-◌, ◌<◌, ◌≤◌, ◌^◌, List, [], ◌∷◌, ◌++◌, length, Option, Some, None, true, refl, sym, ap, subst, ◌∙◌, arith}
use Rattle.std.specs.List.{Contains, range_with_len}
use Rattle.std.proofs.lemmas.Bool.{cases_lt, cases_eq}
use Rattle.std.proofs.lemmas.List.{length-append}
use Rattle.std.proofs.lemmas.List.FromFn.{length-range_with_len, get_or-range_with_len}
use Rattle.std.proofs.lemmas.List.Elements.{Contains-append_left, Contains-append_right}
use Rattle.std.specs.FinMap as finite
use Rattle.sea_base.specs.Space.{Store, Seen, Agrees, laid}
use Rattle.sea_node.specs.Entries.{Values}
use Rattle.sea_tree.specs.declared.fault.TreeFault.{TreeFault}
use Rattle.sea_tree.specs.declared.fault.TreeFault.TheVariants.{Space, Broken}
use Rattle.sea_tree.specs.Tree.{NodeAt, IsBelowNode, IsNodeOf, AreApart}
use Rattle.sea_tree.specs.Content.{HasContent}
use Rattle.sea_tree.specs.Breaks.{FillsFewer}
use Rattle.sea_tree.specs.Changing.{changed_content}
use Rattle.sea_tree.specs.Calls.{ChangeFailure, IsOfSpace}
use Rattle.sea_tree.specs.Calls.{Meets as MeetsOne, Becomes as BecomesOne}
use Rattle.sea_tree.proofs.Apart.{IsNodeOf-filled, IsNodeOf-root}
use Rattle.sea_tree.proofs.Doing.{Does-agrees}
use Rattle.sea_tree.proofs.Frames.{NodeAt-kept}
use Rattle.sea_tree.proofs.Holding.{Contains-head, Contains-later}
use Rattle.sea_omap.specs.Changes.{Change, ChangesKeys}
use Rattle.sea_omap.specs.Calls.{Meets, Becomes, IsOwn, IsGiven}
use Rattle.sea_omap.proofs.Chains.{keys_agree, keys_give}
use Rattle.sea_omap.proofs.Contents.{content_after, found_in}
use Rattle.sea_omap.proofs.Given.{key_gives}
use Rattle.sea_omap.proofs.Paths.{near_path}

filled_or_not : (block : Option (List ℕ)) → (block ≡ None) ⊎ (block ≢ None)
filled_or_not None = inl refl
filled_or_not (Some bytes) = inr (λ e. absurd (cc))

-- a node of a tree whose blocks stayed was one of it before
node_back : (s t : Store) (level at q : ℕ) → ((p : ℕ) → IsBelowNode s level at p → t p ≡ s p) → IsBelowNode t level at q → IsBelowNode s level at q
node_back s t zero at q same below = below
node_back s t (suc level) at q same (inl here) = inl here
node_back s t (suc level) at q same (inr (entries, node, (entry, has, (child, address, below)))) =
    let was : NodeAt s at (suc level) entries = NodeAt-kept t s at (suc level) entries (sym (same at (inl refl))) node in
    inr (entries, was, (entry, has, (child, address, node_back s t level child q (λ p under. same p (inr (entries, was, (entry, has, (child, address, under))))) below)))

tree_back : (s t : Store) (root q : ℕ) → t root ≡ s root → ((p : ℕ) → IsNodeOf s root p → t p ≡ s p) → IsNodeOf t root q → IsNodeOf s root q
tree_back s t root q here same (level, (entries, node), below) =
    let was : NodeAt s root level entries = NodeAt-kept t s root level entries (sym here) node in
    (level, (entries, was), node_back s t level root q (λ p under. same p (level, (entries, was), under)) below)

-- nothing was done
pub becomes_same : (store : Store) (root : ℕ) (seen : Seen) (content : Values) → HasContent (laid seen store) root content → Becomes store root seen seen content
becomes_same store root seen content has = record {
  content = has;
  elsewhere = λ at other outside apart. refl;
  nodes = λ at node. inr (inl node);
  left = λ at own filled. elim own [
    | inl same ↦ subst (IsNodeOf (laid seen store) root) (sym same) (IsNodeOf-root (laid seen store) root has.tree (subst (λ (n : ℕ). laid seen store n ≢ None) same filled))
    | inr (inl node) ↦ node
    | inr (inr given) ↦ absurd (omega (arith, given.0, given.1))
  ];
  others = λ other kept differs there apart old_root. there;
}

-- One key was changed, and others after it.
module _ (store : Store) (root : ℕ) (a b c : Seen) (first second : Values) (meets : Meets store root a c first) (agrees : Agrees store b) (low : a.next ≤ b.next) (high : b.next ≤ c.next) where
  pub meets_one : MeetsOne store root a b first
  meets_one = record {
    agrees = agrees;
    content = meets.tree.content;
    fresh = λ at from below. meets.tree.fresh at from (omega arith);
  }

  module _ (one : BecomesOne store root a b second) where
    not_root : (at : ℕ) → a.next ≤ at → at < c.next → at ≢ root
    not_root at from below same = elim meets.rooted [ inl under ↦ omega arith | inr over ↦ omega arith ]

    -- an address that held nothing is no node
    no_node : (at : ℕ) → laid a store at ≡ None → IsNodeOf (laid a store) root at → ⊥
    no_node at none node = IsNodeOf-filled (laid a store) root at meets.tree.content.tree node none

    fresh_later : (at : ℕ) → b.next ≤ at → at < c.next → laid b store at ≡ None
    fresh_later at from below =
        let none = meets.tree.fresh at (omega arith) below in
        one.elsewhere at (not_root at (omega arith) below) (no_node at none) (inr from) ∙ none

    pub meets_later : Meets store root b c second
    meets_later = record {
      tree = record { agrees = meets.tree.agrees; content = one.content; fresh = fresh_later };
      rooted = elim meets.rooted [ inl under ↦ inl (omega arith) | inr over ↦ inr over ];
    }

    given_later : (at : ℕ) → IsGiven b c at → IsGiven a c at
    given_later at given = let from = given.0 in let below = given.1 in (omega arith, below)

    given_first : (at : ℕ) → IsGiven a b at → IsGiven a c at
    given_first at given = let from = given.0 in let below = given.1 in (from, omega arith)

    own_first : (at : ℕ) → (at ≡ root) ⊎ (IsNodeOf (laid a store) root at ⊎ IsGiven a b at) → IsOwn store root a c at
    own_first at (inl same) = inl same
    own_first at (inr (inl node)) = inr (inl node)
    own_first at (inr (inr given)) = inr (inr (given_first at given))

    pub own_before : (at : ℕ) → IsOwn store root b c at → IsOwn store root a c at
    own_before at (inl same) = inl same
    own_before at (inr (inl node)) = own_first at (one.nodes at node)
    own_before at (inr (inr given)) = inr (inr (given_later at given))

    -- an address that was filled was given neither then nor later
    outside : (at : ℕ) → laid a store at ≢ None → (at < a.next) ⊎ (c.next ≤ at)
    outside at filled =
        elim (cases_lt at a.next) [
          | inl below ↦ inl below
          | inr from ↦ elim (cases_lt at c.next) [
            | inl within ↦ absurd (filled (meets.tree.fresh at from within))
            | inr past ↦ inr past
          ]
        ]

    outside_first : (at : ℕ) → (at < a.next) ⊎ (c.next ≤ at) → (at < a.next) ⊎ (b.next ≤ at)
    outside_first at (inl below) = inl below
    outside_first at (inr past) = inr (omega arith)

    outside_later : (at : ℕ) → (at < a.next) ⊎ (c.next ≤ at) → (at < b.next) ⊎ (c.next ≤ at)
    outside_later at (inl below) = inl (omega arith)
    outside_later at (inr past) = inr past

    -- what is none of the tree's own before is no node in between
    still_none : (at : ℕ) → at ≢ root → (IsNodeOf (laid a store) root at → ⊥) → (at < a.next) ⊎ (c.next ≤ at) → IsNodeOf (laid b store) root at → ⊥
    still_none at other none out node =
        elim (one.nodes at node) [
          | inl same ↦ other same
          | inr (inl was) ↦ none was
          | inr (inr given) ↦ elim out [ inl below ↦ omega (arith, given.0) | inr past ↦ omega (arith, given.1) ]
        ]

    -- another tree has the nodes that it had
    module _ (other : ℕ) (kept : Values) (differs : other ≢ root) (has : HasContent (laid a store) other kept) (apart : AreApart (laid a store) root other) (old_root : (other < a.next) ⊎ (c.next ≤ other)) where
      -- no node of the other tree is the root
      root_is_mine : (at : ℕ) → IsNodeOf (laid a store) other at → at ≡ root → ⊥
      root_is_mine at node same =
          let filled : laid a store root ≢ None = subst (λ (n : ℕ). laid a store n ≢ None) same (IsNodeOf-filled (laid a store) other at has.tree node) in
          apart at (subst (IsNodeOf (laid a store) root) (sym same) (IsNodeOf-root (laid a store) root meets.tree.content.tree filled)) node

      stays : (at : ℕ) → IsNodeOf (laid a store) other at → laid b store at ≡ laid a store at
      stays at node =
          one.elsewhere at (root_is_mine at node) (λ mine. apart at mine node) (outside_first at (outside at (IsNodeOf-filled (laid a store) other at has.tree node)))

      root_stays : laid b store other ≡ laid a store other
      root_stays =
          one.elsewhere other differs
          (λ mine. apart other mine (IsNodeOf-root (laid a store) other has.tree (IsNodeOf-filled (laid a store) root other meets.tree.content.tree mine)))
          (outside_first other old_root)

      apart_later : AreApart (laid b store) root other
      apart_later at mine its =
          let was : IsNodeOf (laid a store) other at = tree_back (laid a store) (laid b store) other at root_stays stays its in
          elim (one.nodes at mine) [
            | inl same ↦ root_is_mine at was same
            | inr (inl node) ↦ apart at node was
            | inr (inr given) ↦ IsNodeOf-filled (laid a store) other at has.tree was (meets.tree.fresh at given.0 (omega (arith, given.1)))
          ]

    module _ (third : Values) (later : Becomes store root b c third) where
      -- of the first change's own addresses, those that are filled are nodes
      left_first : (at : ℕ) → (at ≡ root) ⊎ (IsNodeOf (laid a store) root at ⊎ IsGiven a b at) → (at < b.next) ⊎ (c.next ≤ at) → laid c store at ≢ None → IsNodeOf (laid c store) root at
      left_first at own out filled =
          elim (filled_or_not (laid b store at)) [
            | inr there ↦ later.left at (inr (inl (one.left at own there))) filled
            | inl none ↦ elim (cases_eq at root) [
              | inl same ↦ later.left at (inl same) filled
              | inr differs ↦ absurd (filled (later.elsewhere at differs (λ node. IsNodeOf-filled (laid b store) root at one.content.tree node none) out ∙ none))
            ]
          ]

      left_then : (at : ℕ) → IsOwn store root a c at → laid c store at ≢ None → IsNodeOf (laid c store) root at
      left_then at (inl same) filled = later.left at (inl same) filled
      left_then at (inr (inl node)) filled =
          left_first at (inr (inl node)) (outside_later at (outside at (IsNodeOf-filled (laid a store) root at meets.tree.content.tree node))) filled
      left_then at (inr (inr given)) filled =
          elim (cases_lt at b.next) [
            | inl below ↦ left_first at (inr (inr (given.0, below))) (inl below) filled
            | inr from ↦ later.left at (inr (inr (from, given.1))) filled
          ]

      pub becomes_then : Becomes store root a c third
      becomes_then = record {
        content = later.content;
        elsewhere = λ at differs none out. later.elsewhere at differs (still_none at differs none out) (outside_later at out) ∙ one.elsewhere at differs none (outside_first at out);
        nodes = λ at node. own_before at (later.nodes at node);
        left = left_then;
        others = λ other kept differs has apart old_root.
            later.others other kept differs (one.others other kept differs has apart (outside_first other old_root)) (apart_later other kept differs has apart old_root) (outside_later other old_root);
      }

-- What keys changed in order have done to a store, and read of it.
pub record Makes (store : Store) (root : ℕ) (changes : List Change) (found : List (Option (List ℕ))) (content : Values) (old new : Seen) : Type 0 where
  pub found_is : found ≡ found_in changes content
  pub becomes : Becomes store root old new (content_after changes content)
  pub reads : (at : ℕ) → (new.reads at ≡ old.reads at) ⊎ IsOwn store root old new at
  pub changed : (at : ℕ) → new.changed at ≡ true → (old.changed at ≡ true) ⊎ IsOwn store root old new at

pub keys_make : (store : Store) (root : ℕ) (changes : List Change) (found : List (Option (List ℕ))) (content : Values) (old new : Seen) → ChangesKeys root changes found old new → Meets store root old new content → Makes store root changes found content old new
keys_make store root [] found content old new done meets =
    record {
      found_is = done.0;
      becomes = subst (λ (s : Seen). Becomes store root old s content) (sym done.1) (becomes_same store root old content meets.tree.content);
      reads = λ at. inl (ap (λ (s : Seen). s.reads at) done.1);
      changed = λ at is. inl (sym (ap (λ (s : Seen). s.changed at) done.1) ∙ is);
    }
keys_make store root (change ∷ changes) [] content old new done meets = absurd done
keys_make store root (change ∷ changes) (here ∷ found) content old new (mid, step, rest) meets =
    let low = (key_gives root change.0 change.1 here old mid step.form).rises in
    let high = (keys_give root changes found mid new rest).rises in
    let second = changed_content change.0 change.1 content in
    let agrees = keys_agree root changes found mid new rest store meets.tree.agrees in
    let did = step.changed store content (meets_one store root old mid new content second meets agrees low high) in
    let one : BecomesOne store root old mid second = did.1 in
    let later = keys_make store root changes found second mid new rest (meets_later store root old mid new content second meets agrees low high one) in
    let before : (at : ℕ) → IsOwn store root mid new at → IsOwn store root old new at = own_before store root old mid new content second meets agrees low high one in
    let own : (at : ℕ) → (at ≡ root) ⊎ (IsNodeOf (laid old store) root at ⊎ IsGiven old mid at) → IsOwn store root old new at = own_first store root old mid new content second meets agrees low high one in
    record {
      found_is = ap (λ (f : Option (List ℕ)). f ∷ found) did.0 ∙ ap (λ (fs : List (Option (List ℕ))). finite.get content change.0 ∷ fs) later.found_is;
      becomes = becomes_then store root old mid new content second meets agrees low high one (content_after changes second) later.becomes;
      reads = λ at. elim (later.reads at) [
        | inr is_own ↦ inr (before at is_own)
        | inl same ↦ elim (step.footprint.near at) [
          | inl kept ↦ inl (same ∙ kept)
          | inr near ↦ elim (near_path (laid old store) change.0 root at (near store agrees)) [
            | inl is_root ↦ inr (inl is_root)
            | inr node ↦ inr (inr (inl node))
          ]
        ]
      ];
      changed = λ at is. elim (later.changed at is) [
        | inr is_own ↦ inr (before at is_own)
        | inl was ↦ elim (step.footprint.own store at agrees was) [
          | inl earlier ↦ inl earlier
          | inr is_own ↦ inr (own at is_own)
        ]
      ];
    }

-- ---- where a change failed

-- a number between two others is one of their range
in_range : (at from to : ℕ) → from ≤ at → at < to → Contains (range_with_len from (to - from)) at
in_range at from to low high = (
  at - from,
  omega (arith, length-range_with_len from (to - from)),
  get_or-range_with_len from (to - from) (at - from) at (omega arith) ∙ omega arith,
)

-- the tree's own changes fill few addresses more
fills : (store : Store) (root : ℕ) (old mid : Seen) (first after : Values) → HasContent (laid old store) root first → Becomes store root old mid after → old.next ≤ mid.next → (count more : ℕ) → mid.next - old.next + 1 ≤ more → FillsFewer (laid old store) count → FillsFewer (laid mid store) (count + more)
fills store root old mid first after has became rises count more few (filled, short, all) =
    let given : List ℕ = range_with_len old.next (mid.next - old.next) in (
      root ∷ (given ++ filled),
      omega (arith, length-append given filled, length-range_with_len old.next (mid.next - old.next)),
      λ at there. elim (filled_or_not (laid old store at)) [
        | inr was ↦ Contains-later root (given ++ filled) at (Contains-append_right given filled at (all at was))
        | inl none ↦ elim (cases_eq at root) [
          | inl same ↦ subst (Contains (root ∷ (given ++ filled))) (sym same) (Contains-head root (given ++ filled))
          | inr differs ↦ elim (cases_lt at old.next) [
            | inl below ↦ absurd (there (became.elsewhere at differs (λ node. IsNodeOf-filled (laid old store) root at has.tree node none) (inl below) ∙ none))
            | inr from ↦ elim (cases_lt at mid.next) [
              | inl within ↦ Contains-later root (given ++ filled) at (Contains-append_left given filled at (in_range at old.next mid.next from within))
              | inr past ↦ absurd (there (became.elsewhere at differs (λ node. IsNodeOf-filled (laid old store) root at has.tree node none) (inr past) ∙ none))
            ]
          ]
        ]
      ],
    )

-- A change that failed behind others blames the space alone, where few addresses are filled.
pub never_full : (root : ℕ) (done : List Change) (found : List (Option (List ℕ))) (key : List ℕ) (old mid new : Seen) (fault : TreeFault) → length done < 65536 → ChangesKeys root done found old mid → ChangeFailure root key mid new fault
    → (store : Store) (content : Values) → Meets store root old new content → FillsFewer (laid old store) (2 ^ 25 - 2 ^ 20) → IsOfSpace fault
never_full root done found key old mid new (Space fault) short keys failure store content meets few = tt
never_full root done found key old mid new (Broken at) short keys failure store content meets few =
    let given = keys_give root done found old mid keys in
    let reads = failure.unchanged in
    let agrees : Agrees store mid = Does-agrees [] reads store meets.tree.agrees in
    let rises : mid.next ≤ new.next = reads.next in
    let low : old.next ≤ mid.next = given.rises in
    let now : Meets store root old mid content = record {
      tree = meets_one store root old mid new content content meets agrees low rises;
      rooted = elim meets.rooted [ inl under ↦ inl under | inr over ↦ inr (omega arith) ];
    } in
    let made = keys_make store root done found content old mid keys now in
    let after = content_after done content in
    let fresh : (q : ℕ) → mid.next ≤ q → q < new.next → laid mid store q ≡ None = λ q from below.
    let none = meets.tree.fresh q (omega arith) below in
    made.becomes.elsewhere q (λ same. elim meets.rooted [ inl under ↦ omega arith | inr over ↦ omega arith ])
    (λ node. IsNodeOf-filled (laid old store) root q meets.tree.content.tree node none) (inr from) ∙ none in
    failure.never_full store after (record { agrees = meets.tree.agrees; content = made.becomes.content; fresh = fresh })
    (fills store root old mid content after meets.tree.content made.becomes low (2 ^ 25 - 2 ^ 20) (2 ^ 20) (omega (arith, given.few)) few)
