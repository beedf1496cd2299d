-- What a walk reads stands in its list.
use Rattle.std.proofs.Common.{◌≡◌, ℕ, None, List, [], ◌∷◌, ◌++◌, map, refl, sym, ap, subst, ◌∙◌, inl, inr}
use Rattle.std.specs.List.{Contains}
use Rattle.std.proofs.lemmas.Bool.{cases_eq}
use Rattle.std.proofs.lemmas.List.{map-append}
use Rattle.std.proofs.lemmas.List.Elements.{Contains-append_left, Contains-append_right}
use Rattle.sea_base.specs.declared.place.Laddr.{Laddr}
use Rattle.sea_base.specs.Space.{Store, Seen, Agrees, laid, ReadsAtMost, Places}
use Rattle.sea_tree.specs.Calls.{IsWalked}
use Rattle.sea_tree.specs.Reads.{ReadsListed, ReadsTree}
use Rattle.sea_tree.proofs.Holding.{Contains-head, Contains-later, Contains-cases}

pub listed_none : (listed : List ℕ) (s : Seen) → ReadsListed listed s s
listed_none listed s at = inl refl

-- a child is read and listed, and then what is below it
pub listed_more : (child : ℕ) (before pushed after nodes : List ℕ) (old mid read new : Seen) → pushed ≡ before ++ child ∷ [] → after ≡ pushed ++ nodes → ReadsListed before old mid → ReadsAtMost child mid read → ReadsListed after read new → ReadsListed after old new
listed_more child before pushed after nodes old mid read new is_pushed is_after first one later at = elim (later at) [
  | inr here ↦ inr here
  | inl same ↦ elim (cases_eq at child) [
    | inl is ↦ inr (subst (λ (l : List ℕ). Contains l at) (sym is_after) (Contains-append_left pushed nodes at (subst (λ (l : List ℕ). Contains l at) (sym is_pushed) (Contains-append_right before (child ∷ []) at (subst (Contains (child ∷ [])) (sym is) (Contains-head child []))))))
    | inr other ↦ elim (first at) [
      | inl was ↦ inl (same ∙ one.others at other ∙ was)
      | inr here ↦ inr (subst (λ (l : List ℕ). Contains l at) (sym is_after) (Contains-append_left pushed nodes at (subst (λ (l : List ℕ). Contains l at) (sym is_pushed) (Contains-append_left before (child ∷ []) at here))))
    ]
  ]
]

-- the root is read first
pub listed_root : (root : ℕ) (listed : List ℕ) (old read new : Seen) → ReadsAtMost root old read → ReadsListed listed read new → ReadsListed (root ∷ listed) old new
listed_root root listed old read new one later at = elim (later at) [
  | inr here ↦ inr (Contains-later root listed at here)
  | inl same ↦ elim (cases_eq at root) [
    | inl is ↦ inr (subst (Contains (root ∷ listed)) (sym is) (Contains-head root listed))
    | inr other ↦ inl (same ∙ one.others at other)
  ]
]

pub addresses_push : (nodes pushed : List Laddr) (at : Laddr) → pushed ≡ nodes ++ at ∷ [] → map (λ a. a.0) pushed ≡ map (λ a. a.0) nodes ++ at.0 ∷ []
addresses_push nodes pushed at is = ap (map (λ (a : Laddr). a.0)) is ∙ map-append (λ (a : Laddr). a.0) nodes (at ∷ [])

-- all that is listed is the tree's
pub listed_tree : (root pairs : ℕ) (walked : List ℕ) (old new : Seen) → ((store : Store) → Agrees store new → IsWalked (laid old store) root pairs walked) → ReadsListed (root ∷ walked) old new → ReadsTree root old new
listed_tree root pairs walked old new walks reads at = elim (reads at) [
  | inl same ↦ inl same
  | inr here ↦ inr (λ store agrees. elim (Contains-cases root walked at here) [
    | inl same ↦ inl (sym same)
    | inr later ↦ inr (((walks store agrees).nodes at).0 later)
  ])
]

pub listed_writes : (at : ℕ) (listed : List ℕ) (old mid new : Seen) → ReadsListed listed old mid → Places at None mid new → ReadsListed listed old new
listed_writes at listed old mid new reads p q = elim (reads q) [ inl same ↦ inl (p.writes.reads q ∙ same) | inr here ↦ inr here ]
