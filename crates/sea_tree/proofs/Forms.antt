-- The form of a change, as the code goes: what remains to be done of it.
use Rattle.std.proofs.Common.{◌≡◌, ℕ, List, [], ◌∷◌, ◌++◌, reverse, Option, Some, None, refl, ap, sym, subst, ◌∙◌}
use Rattle.std.proofs.lemmas.List.{reverse-append}
use Rattle.sea_base.specs.Space.{Seen}
use Rattle.sea_node.specs.Entries.{Entry}
use Rattle.sea_tree.specs.declared.edit.Edit.{Edit}
use Rattle.sea_tree.specs.declared.path.Step.{Step}
use Rattle.sea_tree.specs.declared.splice.Splice.{Splice}
use Rattle.sea_tree.specs.Does.{Change}
use Rattle.sea_tree.specs.Mending.{after_edit}
use Rattle.sea_tree.specs.Changing.{RootRebalanced}
use Rattle.sea_tree.specs.Reads.{ReadsNothing}
use Rattle.sea_tree.specs.Rebalanced.{Rebalanced}
use Rattle.sea_tree.specs.Form.{IsKept, IsWrittenAs, Rises}

-- what rises from here on makes the whole
abbrev pub Completes : (Seen → List Change → Option Splice → Type 0) → List Step → ℕ → ℕ → List Entry → Edit → Seen → List Change → Type 0
Completes Whole steps level at entries edit now changes =
    (end : Seen) (done : List Change) (splice : Option Splice) → Rises (reverse steps) level at entries edit now end changes done splice → Whole end done splice

module _ (Whole : Seen → List Change → Option Splice → Type 0) (steps init : List Step) (step : Step) (level at : ℕ) (entries : List Entry) (edit : Edit) (now mid : Seen) (changes changes' added : List Change) (is : steps ≡ init ++ step ∷ []) (plans : changes' ≡ added ++ changes) (so_far : Completes Whole steps level at entries edit now changes) where
  lowest : reverse steps ≡ step ∷ reverse init
  lowest = ap reverse is ∙ reverse-append init (step ∷ [])

  with_step : (end : Seen) (done : List Change) (splice : Option Splice) → Rises (step ∷ reverse init) level at entries edit now end changes done splice → Whole end done splice
  with_step end done splice r = so_far end done splice (subst (λ (ss : List Step). Rises ss level at entries edit now end changes done splice) (sym lowest) r)

  -- a node is rebalanced, and its parent goes on
  pub completes_up : (next : Edit) → Rebalanced level at (after_edit edit entries) step now mid added (Some next) → Completes Whole init step.node.level step.at.0 step.node.entries next mid changes'
  completes_up next how end done splice r =
      with_step end done splice (mid, added, Some next, how, subst (λ (cs : List Change). Rises (reverse init) step.node.level step.at.0 step.node.entries next mid end cs done splice) plans r)

  -- nothing is left to it
  pub completes_here : (splice : Option Splice) (how : Rebalanced level at (after_edit edit entries) step now mid added None) → IsWrittenAs how (IsKept at entries edit changes splice) splice → Whole mid changes' splice
  completes_here splice how written = with_step mid changes' splice (mid, added, None, how, (written, refl, plans))

-- the root is rebalanced
pub completes_root : (Whole : Seen → List Change → Option Splice → Type 0) (steps : List Step) (level root at : ℕ) (entries : List Entry) (edit : Edit) (now new : Seen) (changes changes' added : List Change) (splice : Option Splice) → steps ≡ [] → at ≡ root → changes' ≡ added ++ changes
    → Completes Whole steps level at entries edit now changes → ReadsNothing now new → (how : RootRebalanced level root (after_edit edit entries) now new changes added) → IsWrittenAs how (IsKept root entries edit changes splice) splice → Whole new changes' splice
completes_root Whole steps level root at entries edit now new changes changes' added splice none here plans so_far unread how written =
    let from_root : Completes Whole steps level root entries edit now changes = subst (λ (a : ℕ). Completes Whole steps level a entries edit now changes) here so_far in
    from_root new changes' splice (subst (λ (ss : List Step). Rises (reverse ss) level root entries edit now new changes changes' splice) (sym none) (added, how, written, unread, plans))

pub completes_begun : (steps : List Step) (level at : ℕ) (entries : List Entry) (edit : Edit) (now : Seen) → level ≡ 0 → Completes (λ end done splice. Rises (reverse steps) 0 at entries edit now end [] done splice) steps level at entries edit now []
completes_begun steps level at entries edit now leaf end done splice r = subst (λ (l : ℕ). Rises (reverse steps) l at entries edit now end [] done splice) leaf r
