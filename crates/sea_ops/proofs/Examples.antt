-- What the definitions hold of.
use Rattle.std.proofs.Common.{◌≡◌, ℕ, List, Option, None, Some, refl, sym, ◌∙◌, inl, arith}
use Rattle.std.specs.FinMap as map
use Rattle.std.specs.FinMap.{get-empty}
use Rattle.sea_node.specs.Entries.{key_order}
use Rattle.sea_object.specs.declared.onode.Onode.{Onode}
use Rattle.sea_object.specs.Objects.{ObjectValue}
use Rattle.sea_onode.specs.Spelling.{IsValueOf}
use Rattle.sea_base.specs.Space.{Store}
use Rattle.sea_tree.proofs.Contents.{HasContent-empty}
use Rattle.sea_tree.proofs.Apart.{IsNodeOf-filled}
use Rattle.sea_ops.specs.WellFormed.{AreOfOne, IsWellFormed}
use Rattle.sea_ops.specs.Calls.{IsFree}

abbrev nothing : Store
nothing at = None

-- nothing is under any name
none_spelled : (a : Option (List ℕ)) (b : Option Onode) → a ≡ None → b ≡ None → IsValueOf a b
none_spelled None None e f = tt
none_spelled None (Some x) e f = absurd (cc)
none_spelled (Some v) b e f = absurd (cc)

none_of_one : (a : Option Onode) (b : Option ObjectValue) → a ≡ None → b ≡ None → AreOfOne nothing a b
none_of_one None None e f = tt
none_of_one None (Some o) e f = absurd (cc)
none_of_one (Some x) b e f = absurd (cc)

no_onode : (name : List ℕ) (onode : Onode) → map.get (map.empty {R = key_order}) name ≡ Some onode → ⊥
no_onode name onode e = let none = sym (get-empty key_order name) ∙ e in cc

-- an empty store is well formed, and holds no object
empty_formed : IsWellFormed nothing 2 map.empty
empty_formed = record {
  onodes = map.empty;
  order = record {
    tree = record { content = map.empty; tree = HasContent-empty nothing 1 refl; spelled = λ name. none_spelled _ _ (get-empty key_order name) (get-empty key_order name) };
    each = λ name onode e. absurd (no_onode name onode e);
    apart = λ a b x y at e f within within'. absurd (no_onode a x e);
    begun = omega arith;
    filled = λ at there. absurd (there refl);
  };
  each = λ name. none_of_one _ _ (get-empty key_order name) (get-empty key_order name);
  shared = record {
    apart = λ a b is_a is_b differs q node other. IsNodeOf-filled nothing a q (inl refl) node refl;
    alone = λ root at is node within. absurd (IsNodeOf-filled nothing root at (inl refl) node refl);
    filled = λ at there. absurd (there refl);
  };
}

-- and its next address is free
next_free : IsFree nothing empty_formed.onodes 2
unfolding empty_formed
next_free = record { low = omega arith; empty = refl; unused = λ other. no_onode other.0 other.1 other.2 }
