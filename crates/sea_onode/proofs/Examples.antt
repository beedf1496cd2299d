-- What the definitions hold of, and what they refuse.
use Rattle.std.proofs.Common.{◌≡◌, ℕ, zero, suc, List, [], ◌∷◌, Some, None, inl, refl, arith, ◌∙◌, sym}
use Rattle.std.specs.FinMap as map
use Rattle.std.specs.FinMap.{get-empty}
use Rattle.sea_base.specs.Field.{big_endian}
use Rattle.sea_base.specs.Space.{Store}
use Rattle.sea_node.specs.Entries.{key_order}
use Rattle.sea_object.specs.declared.onode.Onode.{Onode}
use Rattle.sea_tree.specs.Content.{Leads}
use Rattle.sea_onode.specs.Onodes.{Onodes}
use Rattle.sea_onode.specs.Order.{AreInOrder}
use Rattle.sea_onode.specs.Spelling.{onode_bytes}

pub five_bytes : onode_bytes (record { base = record { 0 = 2 }; size = 5; attrs = 0; keys = 0 }) ≡ 0 ∷ 0 ∷ 0 ∷ 0 ∷ 0 ∷ 0 ∷ 0 ∷ 2 ∷ 0 ∷ 0 ∷ 0 ∷ 5 ∷ 0 ∷ 0 ∷ 0 ∷ 0 ∷ 0 ∷ 0 ∷ 0 ∷ 0 ∷ []
unfolding onode_bytes big_endian
five_bytes = refl

abbrev nowhere : Store
nowhere at = None

no_path : (level root : ℕ) (key value : List ℕ) → Leads nowhere level root key value → ⊥
no_path zero root key value leads = let here = leads.1.here in cc
no_path (suc level) root key value leads = let here = leads.1.here in cc

-- the empty store has no objects
pub none_in_order : AreInOrder nowhere 2 map.empty
none_in_order = record {
  tree = record {
    content = map.empty;
    tree = record {
      tree = inl refl;
      pairs = λ key value. (λ leads. absurd (no_path leads.0 1 key value leads.1), λ has. absurd (let none = sym (get-empty {X = List ℕ} key_order key) ∙ has in cc));
    };
    spelled = λ name. rw (get-empty {X = List ℕ} key_order name, get-empty {X = Onode} key_order name) tt;
  };
  each = λ name onode e. absurd (let none = sym (get-empty {X = Onode} key_order name) ∙ e in cc);
  apart = λ a b x y at e f within within'. absurd (let none = sym (get-empty {X = Onode} key_order a) ∙ e in cc);
  begun = omega arith;
  filled = λ at there. absurd (there refl);
}

-- two objects whose ranges meet are one
pub one_range : (store : Store) (next : ℕ) (onodes : Onodes) (a b : List ℕ) (x y : Onode) → AreInOrder store next onodes → map.get onodes a ≡ Some x → map.get onodes b ≡ Some y → x.base.0 ≡ 2 → y.base.0 ≡ 4099 → a ≡ b
one_range store next onodes a b x y o e f low high = o.apart a b x y 4099 e f (omega (arith, low), omega (arith, low)) (omega (arith, high), omega (arith, high))
