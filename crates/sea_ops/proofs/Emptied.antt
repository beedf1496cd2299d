-- A tree of an object is emptied: what that leaves, what it is in the model, and why it fails.
use Rattle.std.proofs.Common.{◌≡◌, ◌⊎◌, inl, inr, ℕ, zero, suc, ◌+◌, ◌<◌, ◌≤◌, ◌^◌, true, List, Option, Some, None, sym, ap, subst, arith}
use Rattle.std.specs.FinMap as map
use Rattle.std.specs.FinMap.{len-empty}
use Rattle.sea_base.specs.Space.{Store, Seen, Found, laid}
use Rattle.sea_node.specs.Entries.{Values, key_order}
use Rattle.sea_object.specs.declared.onode.Onode.{Onode}
use Rattle.sea_object.specs.declared.op.Op.TheVariants.{OmapClear, RmAttrs}
use Rattle.sea_object.specs.declared.reply.Item.TheVariants.{Unit as Nothing}
use Rattle.sea_object.specs.Answer as model
use Rattle.sea_object.specs.Objects.{ObjectValue, ObjectMap}
use Rattle.sea_tree.specs.declared.fault.TreeFault.{TreeFault}
use Rattle.sea_tree.specs.declared.fault.TreeFault.TheVariants.{Space, Broken}
use Rattle.sea_tree.specs.Breaks.{BreaksFirst, BreaksBelow, IsFirstBreak, Breaks}
use Rattle.sea_tree.specs.Calls as tree
use Rattle.sea_tree.specs.Calls.{DropFootprint, DropFailure}
use Rattle.sea_tree.specs.Tree.{Bounds, root_bounds, IsNodeOf}
use Rattle.sea_tree.proofs.Holding.{whole_tree}
use Rattle.sea_ops.proofs.Parts.{Part, Attributes, Omap, root_of}
use Rattle.sea_ops.proofs.Turns.{IsTurn, Turns, turns_once}
use Rattle.sea_ops.proofs.TurnFails.{TurnFailure}

-- nothing is told of the content
abbrev pub Any : Values → Type 0
Any content = Unit {0}

abbrev pub emptied : Values → Values
emptied content = map.empty

pub none_counted : map.len (map.empty {K = List ℕ} {X = List ℕ} {R = key_order}) ≡ 0
none_counted = len-empty key_order (List ℕ)

-- what a call that drops a tree leaves
abbrev pub Leaves : ℕ → Seen → Seen → Type 0
Leaves root a b =
    (store : Store) (content : Values) → tree.Meets store root a b content
    → tree.Becomes store root a b map.empty × ((at : ℕ) → (at ≡ root) ⊎ IsNodeOf (laid a store) root at → laid b store at ≡ None)

pub turns_emptied : (part : Part) (x : Onode) (a b : Seen) (root : ℕ) → (root_of part x < 2 ^ 64 → root ≡ root_of part x) → Leaves root a b → DropFootprint root a b → Turns part x Any emptied a b
turns_emptied part x a b root is gone footprint =
    turns_once part x Any emptied a b root is (λ store content m. (tt, (gone store content m).0))
    (λ store at agrees now. elim (footprint.own store at agrees now) [ inl was ↦ inl was | inr node ↦ inr (inr (inl node)) ])

-- ---- a well-formed tree is dropped without a fault of its own

first_below : (store : Store) (level at : ℕ) (bounds : Bounds) (q : ℕ) → BreaksFirst store level at bounds q → BreaksBelow store level at bounds q
first_below store zero at bounds q breaks = breaks
first_below store (suc level) at bounds q breaks = elim breaks [
  | inl here ↦ inl here
  | inr d ↦ inr (d.0, d.1, (d.2.0, d.2.1, d.2.2, d.2.3, d.2.4, first_below store level d.2.2 d.2.3 q d.2.6))
]

pub first_break : (store : Store) (root q : ℕ) → IsFirstBreak store root q → Breaks store root q
first_break store root q breaks = (
  breaks.0,
  elim breaks.1 [ inl here ↦ inl here | inr d ↦ inr (d.0, d.1, first_below store d.0 root root_bounds q d.2) ],
)

pub failed_drop : (part : Part) (x : Onode) (root : ℕ) (a b : Seen) (fault : TreeFault) → (root_of part x < 2 ^ 64 → root ≡ root_of part x) → DropFailure root a b fault → TurnFailure part x a b fault
failed_drop part x root a b (Space fault) is failure = tt
failed_drop part x root a b (Broken at) is failure = (
  failure.unchanged.reads,
  λ store content small meets few.
      let m = subst (λ (r : ℕ). tree.Meets store r a b content) (sym (is small)) meets.tree in
      whole_tree (laid a store) root at.0 m.content.tree (first_break (laid a store) root at.0 (failure.blames store m.agrees)),
)

-- ---- in the model

pub clears_omap : (name : List ℕ) → IsTurn (OmapClear name) name Omap Any emptied Nothing
clears_omap name = record {
  allowed = λ objects o has few. ap (model.refusal_at (OmapClear name)) has;
  answers = λ objects o has told. sym (ap (model.item_at (OmapClear name)) has);
  effect = λ objects o has. ap (λ (z : Option ObjectValue). model.put_object (Some name) (model.object_after (OmapClear name) z) objects) has;
}

pub clears_attributes : (name : List ℕ) → IsTurn (RmAttrs name) name Attributes Any emptied Nothing
clears_attributes name = record {
  allowed = λ objects o has few. ap (model.refusal_at (RmAttrs name)) has;
  answers = λ objects o has told. sym (ap (model.item_at (RmAttrs name)) has);
  effect = λ objects o has. ap (λ (z : Option ObjectValue). model.put_object (Some name) (model.object_after (RmAttrs name) z) objects) has;
}
