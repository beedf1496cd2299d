-- What is asked of a node, from what is told of its entries.
use Rattle.std.proofs.Common.{◌≡◌, ℕ, ◌≤◌, List, [], ◌∷◌, length, get_or, Option, Some, refl, sym, ap, subst, ◌∙◌, arith}
use Rattle.std.specs.List.{All}
use Rattle.sea_base.specs.Space.{Store}
use Rattle.sea_node.specs.Entries.{Entry, IsNotAbove, size}
use Rattle.sea_node.specs.Node.{Spells}
use Rattle.sea_node.proofs.Nodes.{one_spelled}
use Rattle.sea_tree.specs.Tree.{Bounds, IsWithin, IsInPlace, first_key}
use Rattle.sea_tree.specs.Breaks.{HasNode}

first_of : (es : List Entry) (d : Entry) → 1 ≤ length es → first_key es ≡ (get_or es 0 d).0
first_of [] d some = absurd (omega arith)
first_of (e ∷ es) d some = refl

module _ (level : ℕ) (b : Bounds) (es items : List Entry) (upper : Option (List ℕ)) (same : items ≡ es) (bound : upper ≡ b.upper) (some : 1 ≤ length es) where
  pub placed : b.least ≤ size items → All (λ e. IsNotAbove b.lower e.0) items → All (λ e. IsWithin e.0 upper) items → (d : Entry) → (1 ≤ level → b.lower ≡ (get_or items 0 d).0) → IsInPlace level b es
  placed filled lower within d first = record {
    filled = subst (λ (l : List Entry). b.least ≤ size l) same filled;
    lower = subst (λ (l : List Entry). All (λ e. IsNotAbove b.lower e.0) l) same lower;
    upper = subst (λ (l : List Entry). All (λ e. IsWithin e.0 b.upper) l) same (subst (λ (u : Option (List ℕ)). All (λ e. IsWithin e.0 u) items) bound within);
    first = λ above. first_of es d some ∙ ap (λ (l : List Entry). (get_or l 0 d).0) (sym same) ∙ sym (first above);
  }

  pub placed_within : IsInPlace level b es → All (λ e. IsWithin e.0 upper) items
  placed_within place = subst (λ (l : List Entry). All (λ e. IsWithin e.0 upper) l) (sym same) (subst (λ (u : Option (List ℕ)). All (λ e. IsWithin e.0 u) es) (sym bound) place.upper)

  pub placed_first : IsInPlace level b es → (d : Entry) → 1 ≤ level → b.lower ≡ (get_or items 0 d).0
  placed_first place d above = sym (place.first above) ∙ first_of es d some ∙ ap (λ (l : List Entry). (get_or l 0 d).0) (sym same)

-- the one node that a block spells
pub only_node : (s : Store) (level at : ℕ) (b : Bounds) (bytes : List ℕ) (found : ℕ) (es : List Entry) → Some bytes ≡ s at → Spells bytes found es → (fs : List Entry) → HasNode s level at b fs → (found ≡ level) × IsInPlace level b es
only_node s level at b bytes found es here spells fs has =
    let same : has.0.bytes ≡ bytes = (let e = sym has.0.here ∙ sym here in cc) in
    let one = one_spelled bytes found level es fs spells (subst (λ (x : List ℕ). Spells x level fs) same has.0.spells) in
    (one.0, subst (IsInPlace level b) (sym one.1) has.1)
