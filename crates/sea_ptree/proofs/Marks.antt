-- A block tells of which kind and level its node is.
use Rattle.std.proofs.Common.{◌≡◌, ℕ, List, get_or, refl, sym, ap, subst, ◌∙◌, arith}
use Rattle.std.specs.Prelude.{slice_range}
use Rattle.sea_ptree.specs.declared.kind.Kind.{Kind}
use Rattle.sea_ptree.specs.declared.kind.Kind.TheVariants.{Mapping, Owners}
use Rattle.sea_ptree.specs.Mark.{SpellsNoNode}
use Rattle.sea_ptree.specs.Node.{Entry, Spells, word}
use Rattle.sea_ptree.proofs.Fronts.{front_fields, spelled_front, spelled_level}

apart : (a b : ℕ) → a ≡ b → a ≡ 76 → b ≡ 79 → ⊥
apart a b e is other = omega arith

one_word : (k l : Kind) → word k ≡ word l → k ≡ l
one_word Mapping Mapping e = refl
one_word Owners Owners e = refl
one_word Mapping Owners e = absurd (apart _ _ (ap (λ (b : List ℕ). get_or b 1 0) e) refl refl)
one_word Owners Mapping e = absurd (apart _ _ (sym (ap (λ (b : List ℕ). get_or b 1 0) e)) refl refl)

spelled_word : (kind : Kind) (level : ℕ) (bytes : List ℕ) (es : List Entry) → Spells kind bytes level es → slice_range bytes 0 4 ≡ word kind
spelled_word kind level bytes es spells = (front_fields kind level bytes _ (spelled_front kind level bytes es spells).front).magic

-- two nodes that a block spells are of one kind and one level
pub one_kind : (bytes : List ℕ) (k l : Kind) (m n : ℕ) (es fs : List Entry) → Spells k bytes m es → Spells l bytes n fs → k ≡ l
one_kind bytes k l m n es fs s t = one_word k l (sym (spelled_word k m bytes es s) ∙ spelled_word l n bytes fs t)

pub one_level : (bytes : List ℕ) (k l : Kind) (m n : ℕ) (es fs : List Entry) → Spells k bytes m es → Spells l bytes n fs → m ≡ n
one_level bytes k l m n es fs s t = sym (spelled_level k m bytes es s) ∙ spelled_level l n bytes fs t

-- a block that spells no node of the level that it names, of either kind, spells none
pub no_node : (bytes : List ℕ) (level : ℕ) → get_or bytes 4 0 ≡ level → ((es : List Entry) → Spells Mapping bytes level es → ⊥) → ((es : List Entry) → Spells Owners bytes level es → ⊥) → SpellsNoNode bytes
no_node bytes level is mapping owners Mapping l es spells = mapping es (subst (λ (k : ℕ). Spells Mapping bytes k es) (sym (spelled_level Mapping l bytes es spells) ∙ is) spells)
no_node bytes level is mapping owners Owners l es spells = owners es (subst (λ (k : ℕ). Spells Owners bytes k es) (sym (spelled_level Owners l bytes es spells) ∙ is) spells)
