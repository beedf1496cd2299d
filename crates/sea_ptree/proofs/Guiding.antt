-- The entry on the way of a key, and what a node tells of it.
use Rattle.std.proofs.Common.{◌≡◌, ℕ, zero, suc, ◌+◌, ◌<◌, ◌≤◌, ◌^◌, List, [], ◌∷◌, ◌++◌, Option, Some, None, true, cond, sym, ap, subst, ◌∙◌, arith}
use Rattle.std.specs.Prelude.{◌↔◌}
use Rattle.std.proofs.lemmas.Bool.Decides.{nat_tests}
use Rattle.std.specs.Ordering.{nat_cmp, eq_by_cmp}
use Rattle.std.specs.FinMap.Entries.{find}
use Rattle.sea_base.specs.declared.place.Slot.{Slot}
use Rattle.sea_ptree.specs.declared.kind.Kind.{Kind}
use Rattle.sea_ptree.specs.declared.link.Link.{Link}
use Rattle.sea_ptree.specs.Blocks.{Image}
use Rattle.sea_ptree.specs.Node.{Entry}
use Rattle.sea_ptree.specs.Tree.{NodeAt, Guides, IsBelowNext, Leads, link_of}
use Rattle.sea_ptree.proofs.Fronts.{one_spelled}
use Rattle.sea_ptree.proofs.Rising.{Lie, Lie-split, rising_from_zero}
use Rattle.sea_ptree.proofs.Items.{AllAbove, above_from, under_from, not_same, find_none, find_under, find_front}

-- the entries behind the one on the way are above the key
pub above_next : (key low high : ℕ) (after : List Entry) → Lie low high after → IsBelowNext key after → AllAbove key after
above_next key low high [] lie next = tt
above_next key low high (e ∷ after) lie next = (next, above_from key (e.0 + 1) high after lie.1 (omega arith))

above_at : (key : ℕ) (bs : List Entry) (f : Entry) (fs : List Entry) → AllAbove key (bs ++ f ∷ fs) → key < f.0
above_at key [] f fs all = all.0
above_at key (b ∷ bs) f fs all = above_at key bs f fs all.1

same_split : (key low high : ℕ) (bs : List Entry) (e : Entry) (after cs : List Entry) (f : Entry) (after' : List Entry) → Lie low high (bs ++ e ∷ after) → bs ++ e ∷ after ≡ cs ++ f ∷ after' → e.0 ≤ key → f.0 ≤ key → IsBelowNext key after → IsBelowNext key after' → e ≡ f
same_split key low high [] e after [] f after' lie same le_e le_f next next' = cc
same_split key low high [] e after (c ∷ cs) f after' lie same le_e le_f next next' =
    let rest : after ≡ cs ++ f ∷ after' = cc in
    absurd (omega (arith, above_at key cs f after' (subst (AllAbove key) rest (above_next key (e.0 + 1) high after lie.1 next))))
same_split key low high (b ∷ bs) e after [] f after' lie same le_e le_f next next' =
    let first : b ≡ f = cc in
    let rest : bs ++ e ∷ after ≡ after' = cc in
    absurd (omega (arith, above_at key bs e after (subst (AllAbove key) (sym rest) (above_next key (b.0 + 1) high after' (subst (Lie (b.0 + 1) high) rest lie.1) next'))))
same_split key low high (b ∷ bs) e after (c ∷ cs) f after' lie same le_e le_f next next' =
    same_split key (b.0 + 1) high bs e after cs f after' lie.1 (cc) le_e le_f next next'

-- one entry alone is on the way of a key
pub one_guided : (key : ℕ) (es : List Entry) (e f : Entry) → Lie 0 (2 ^ 64) es → Guides key es e → Guides key es f → e ≡ f
one_guided key es e f lie first second =
    same_split key 0 (2 ^ 64) first.before e first.after second.before f second.after (subst (Lie 0 (2 ^ 64)) first.split lie) (sym first.split ∙ second.split) first.not_above second.not_above first.next second.next

-- no entry is on the way of a key below all
pub none_guided : (key : ℕ) (es : List Entry) (f : Entry) → Lie 0 (2 ^ 64) es → IsBelowNext key es → Guides key es f → ⊥
none_guided key es f lie next guides =
    omega (arith, guides.not_above, above_at key guides.before f guides.after (subst (AllAbove key) guides.split (above_next key 0 (2 ^ 64) es lie next)))

-- what a leaf has under a key is told by the entry on its way
pub find_guided : (key : ℕ) (es : List Entry) (e : Entry) → Lie 0 (2 ^ 64) es → Guides key es e → find nat_cmp key es ≡ find nat_cmp key (e ∷ [])
find_guided key es e lie guides =
    let parts = Lie-split 0 (2 ^ 64) guides.before (e ∷ guides.after) (subst (Lie 0 (2 ^ 64)) guides.split lie) in
    ap (find nat_cmp key) guides.split ∙ find_under key guides.before (e ∷ guides.after) (under_from key 0 parts.mid guides.before parts.front (omega (arith, parts.back.0, guides.not_above)))
    ∙ find_front key (e ∷ []) guides.after (above_next key (e.0 + 1) (2 ^ 64) guides.after parts.back.1 guides.next)

pub find_nothing : (key : ℕ) (es : List Entry) → Lie 0 (2 ^ 64) es → IsBelowNext key es → find nat_cmp key es ≡ None
find_nothing key es lie next = find_none key es (above_next key 0 (2 ^ 64) es lie next)

-- ---- nodes

pub node_rising : (kind : Kind) (image : Image) (level : ℕ) (link : Link) (es : List Entry) → NodeAt kind image level link es → Lie 0 (2 ^ 64) es
node_rising kind image level link es node = rising_from_zero es node.spells.node.fits node.spells.node.rising

pub one_node : (kind : Kind) (image : Image) (level : ℕ) (link : Link) (es fs : List Entry) → NodeAt kind image level link es → NodeAt kind image level link fs → es ≡ fs
one_node kind image level link es fs first second = one_spelled kind level (image link.at.0) es fs first.spells second.spells

-- ---- paths

-- what is found below a node, by the entry on the way
pub leads_leaf : (kind : Kind) (image : Image) (link : Link) (key : ℕ) (es : List Entry) (found : Option Slot) → NodeAt kind image 0 link es → found ≡ find nat_cmp key es → (slot : Slot) → (found ≡ Some slot) ↔ Leads kind image 0 link key slot
leads_leaf kind image link key es found node is slot = (
  λ e. (es, node, sym is ∙ e),
  λ leads. is ∙ ap (find nat_cmp key) (one_node kind image 0 link es leads.0 node leads.1) ∙ leads.2,
)

pub leads_nowhere : (kind : Kind) (image : Image) (level : ℕ) (link : Link) (key : ℕ) (es : List Entry) → NodeAt kind image level link es → IsBelowNext key es → (slot : Slot) → (None ≡ Some slot) ↔ Leads kind image level link key slot
leads_nowhere kind image zero link key es node next slot =
    leads_leaf kind image link key es None node (sym (find_nothing key es (node_rising kind image 0 link es node) next)) slot
leads_nowhere kind image (suc level) link key es node next slot = (
  λ e. absurd cc,
  λ leads. absurd (none_guided key leads.0 leads.2.0 (node_rising kind image (suc level) link leads.0 leads.1) (subst (IsBelowNext key) (one_node kind image (suc level) link es leads.0 node leads.1) next) leads.2.1),
)

pub leads_on : (kind : Kind) (image : Image) (level : ℕ) (link : Link) (key : ℕ) (es : List Entry) (e : Entry) (found : Option Slot) → NodeAt kind image (suc level) link es → Guides key es e
    → ((slot : Slot) → (found ≡ Some slot) ↔ Leads kind image level (link_of e.1) key slot) → (slot : Slot) → (found ≡ Some slot) ↔ Leads kind image (suc level) link key slot
leads_on kind image level link key es e found node guides below slot = (
  λ is. (es, node, (e, guides, (below slot).0 is)),
  λ leads. (below slot).1 (
      let same = one_node kind image (suc level) link leads.0 es leads.1 node in
      let entry : leads.2.0 ≡ e = one_guided key es leads.2.0 e (node_rising kind image (suc level) link es node) (subst (λ (xs : List Entry). Guides key xs leads.2.0) same leads.2.1) guides in
      subst (λ (x : Entry). Leads kind image level (link_of x.1) key slot) entry leads.2.2
      ),
)

-- ---- the entry on the way in a leaf

pub found_none : (key at : ℕ) (slot : Slot) → (at ≡ key → ⊥) → None ≡ find nat_cmp key ((at, slot) ∷ [])
found_none key at slot other = sym (ap (λ b. cond b (Some slot) None) (not_same key at (λ same. other (sym same))))

pub found_some : (key at : ℕ) (slot : Slot) → at ≡ key → Some slot ≡ find nat_cmp key ((at, slot) ∷ [])
found_some key at slot same = sym (ap (λ b. cond b (Some slot) None) (itself key at same))
  where
    itself : (a b : ℕ) → b ≡ a → eq_by_cmp nat_cmp a b ≡ true
    itself a b h = grind (arith, nat_tests)
