-- The change of an object's tree, or the save behind it, that fails, on stores with few enough filled addresses, fails by the space.
use Rattle.std.proofs.Common.{◌≡◌, ◌⊎◌, inl, inr, ℕ, ◌+◌, ◌-◌, ◌<◌, ◌≤◌, ◌^◌, List, ◌∷◌, ◌++◌, Option, Some, sym, subst, ◌∙◌, arith}
use Rattle.std.specs.List.{Contains, range_with_len}
use Rattle.std.proofs.lemmas.Bool.{cases_lt, cases_eq}
use Rattle.std.proofs.lemmas.List.{length-append}
use Rattle.std.proofs.lemmas.List.FromFn.{length-range_with_len, get_or-range_with_len}
use Rattle.std.proofs.lemmas.List.Elements.{Contains-append_left, Contains-append_right}
use Rattle.std.specs.FinMap as map
use Rattle.sea_base.specs.Space.{Store, Seen, OnlyRead, laid}
use Rattle.sea_node.specs.Entries.{Values}
use Rattle.sea_object.specs.declared.onode.Onode.{Onode}
use Rattle.sea_object.specs.Objects.{ObjectValue, ObjectMap}
use Rattle.sea_omap.specs.Calls as omap
use Rattle.sea_onode.specs.Calls as onode
use Rattle.sea_onode.specs.Calls.{NotesMore}
use Rattle.sea_tree.specs.declared.fault.TreeFault.{TreeFault}
use Rattle.sea_tree.specs.declared.fault.TreeFault.TheVariants.{Space, Broken}
use Rattle.sea_tree.specs.Breaks.{FillsFewer}
use Rattle.sea_tree.specs.Content.{HasContent}
use Rattle.sea_tree.specs.Calls as tree
use Rattle.sea_tree.specs.Calls.{ChangeFailure, IsOfSpace}
use Rattle.sea_tree.proofs.Apart.{IsNodeOf-filled}
use Rattle.sea_tree.proofs.Holding.{Contains-head, Contains-later}
use Rattle.sea_tree.proofs.Walks.{one_store}
use Rattle.sea_ops.specs.WellFormed.{IsObjectOf, AreOfOne, IsOwnRoot}
use Rattle.sea_ops.specs.Calls.{Meets, FailsUnlessFull}
use Rattle.sea_ops.proofs.Frames.{Reshaped, either, root_apart}
use Rattle.sea_ops.proofs.Parts.{Part, root_of, values_of, own_root, part_has}
use Rattle.sea_ops.proofs.Turned.{fresh_between, onodes_between}
use Rattle.sea_ops.proofs.Turns.{Turns, object_since, is_turned}
use Rattle.sea_ops.proofs.Asked.{formed_as}
use Rattle.sea_ops.proofs.Makes.{meets_since}

-- a number between two others is one of their range
pub in_range : (at from to : ℕ) → from ≤ at → at < to → Contains (range_with_len from (to - from)) at
in_range at from to low high = (
  at - from,
  omega (arith, length-range_with_len from (to - from)),
  get_or-range_with_len from (to - from) (at - from) at (omega arith) ∙ omega arith,
)

-- what a tree's change fills anew is its root, or was given
fills : (was is : Store) (root first last : ℕ) (before after : Values) → HasContent was root before → Reshaped was is root first last after → (count more : ℕ) → last - first + 1 ≤ more → FillsFewer was count → FillsFewer is (count + more)
fills was is root first last before after has c count more few (filled, short, all) =
    let given : List ℕ = range_with_len first (last - first) in (
      root ∷ (given ++ filled),
      omega (arith, length-append given filled, length-range_with_len first (last - first)),
      λ at there. elim (either (was at)) [
        | inr old ↦ Contains-later root (given ++ filled) at (Contains-append_right given filled at (all at old))
        | inl none ↦ elim (cases_eq at root) [
          | inl same ↦ subst (Contains (root ∷ (given ++ filled))) (sym same) (Contains-head root (given ++ filled))
          | inr differs ↦
              let stays : (at < first) ⊎ (last ≤ at) → ⊥ = λ side. there (c.elsewhere at differs (λ node. IsNodeOf-filled was root at has.tree node none) side ∙ none) in
              elim (cases_lt at first) [
                | inl below ↦ absurd (stays (inl below))
                | inr from ↦ elim (cases_lt at last) [
                  | inl within ↦ Contains-later root (given ++ filled) at (Contains-append_left given filled at (in_range at first last from within))
                  | inr past ↦ absurd (stays (inr past))
                ]
              ]
        ]
      ],
    )

pub more_room : (store : Store) (few many : ℕ) → few ≤ many → FillsFewer store few → FillsFewer store many
more_room store few many le (filled, short, all) = (filled, omega (arith, short, le), all)

-- A tree's change that ended with a fault: where it is none of the space, what was noted stays, and a well-formed tree on few addresses rules it out.
abbrev pub TurnFailure : Part → Onode → Seen → Seen → TreeFault → Type 0
TurnFailure part x a b (Space fault) = Unit {0}
TurnFailure part x a b (Broken at) =
    NotesMore a b
    × ((store : Store) (content : Values) → root_of part x < 2 ^ 64 → omap.Meets store (root_of part x) a b content → FillsFewer (laid a store) (2 ^ 25 - 2 ^ 20) → ⊥)

-- one call of the tree failed
pub failed_once : (part : Part) (x : Onode) (root : ℕ) (key : List ℕ) (a b : Seen) (fault : TreeFault) → (root_of part x < 2 ^ 64 → root ≡ root_of part x) → ChangeFailure root key a b fault → TurnFailure part x a b fault
failed_once part x root key a b (Space fault) is failure = tt
failed_once part x root key a b (Broken at) is failure = (
  failure.unchanged.reads,
  λ store content small meets few.
      failure.never_full store content (subst (λ (r : ℕ). tree.Meets store r a b content) (sym (is small)) meets.tree) (more_room (laid a store) (2 ^ 25 - 2 ^ 20) (2 ^ 25) (omega arith) few),
)

module _ (part : Part) (old a b : Seen) (first : OnlyRead old a) (name : List ℕ) (x : Onode) (finds : onode.Finds name old a (Some x)) where
  few_since : (store : Store) → FillsFewer (laid old store) (2 ^ 25 - 2 ^ 20) → FillsFewer (laid a store) (2 ^ 25 - 2 ^ 20)
  few_since store few = subst (λ (s : Store). FillsFewer s (2 ^ 25 - 2 ^ 20)) (sym (one_store first store)) few

  -- the change of the tree
  pub turn_fails : (fault : TreeFault) → a.next ≤ b.next → TurnFailure part x a b fault → FailsUnlessFull (2 ^ 25 - 2 ^ 20) old b fault
  unfolding meets_since formed_as
  turn_fails (Space fault) low failure store next objects m few = tt
  turn_fails (Broken at) low failure store next objects m few =
      let o = object_since old a b first name x finds failure.0 store next objects m in
      let since = meets_since old a b first store next objects m in
      failure.1 store (values_of part o.object) (o.small part) (record {
        tree = record {
          agrees = m.agrees;
          content = part_has part (laid a store) x o.object o.is_since;
          fresh = λ q from below. (since.fresh q (from, below)).empty;
        };
        rooted = root_apart (laid a store) since.formed.onodes (root_of part x) a.next b.next (λ q from below. since.fresh q (from, below)) (inr (name, x, o.here, own_root part x));
      }) (few_since store few)

  -- the save of the onode behind it
  module _ (c : Seen) (told : Values → Type 0) (turn : Values → Values) (turns : Turns part x told turn a b) (notes : NotesMore a b) (low : a.next ≤ b.next) (few_given : b.next < a.next + 2 ^ 20) (high : b.next ≤ c.next) where
    pub save_fails : (fault : TreeFault) → ChangeFailure 1 name b c fault → FailsUnlessFull (2 ^ 25 - 2 ^ 20) old c fault
    unfolding meets_since formed_as
    save_fails (Space fault) failure store next objects m few = tt
    save_fails (Broken at) failure store next objects m few =
        let later : NotesMore b c = failure.unchanged.reads in
        let o = object_since old a c first name x finds (λ q f e. later q f (notes q f e)) store next objects m in
        let since = meets_since old a c first store next objects m in
        let f = since.formed in
        let root = root_of part x in
        let before = values_of part o.object in
        let content = turn before in
        let did = is_turned part told turn a b c x low high turns later name store next objects since o.here (o.small part) o.object o.is_since in
        let own : IsOwnRoot x root = own_root part x in
        let onodes = onodes_between (laid a store) (laid b store) next a.next b.next c.next objects f name x o.here root own (λ q from below. since.fresh q (from, below)) low high content did.tree in
        failure.never_full store onodes.content (record {
          agrees = m.agrees;
          content = onodes.tree;
          fresh = λ q from below. (fresh_between (laid a store) (laid b store) next a.next b.next c.next objects f name x o.here root own (λ p least under. since.fresh p (least, under)) low high content did.tree q from below).empty;
        }) (fills (laid a store) (laid b store) root a.next b.next before content (part_has part (laid a store) x o.object o.is_since) did.tree (2 ^ 25 - 2 ^ 20) (2 ^ 20) (omega (arith, few_given)) (few_since store few))
