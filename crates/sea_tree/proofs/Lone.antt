-- An edit that leaves one entry in a node above the leaves has left one of those that it had.
use Rattle.std.proofs.Common.{◌≡◌, ℕ, suc, ◌≤◌, List, [], ◌∷◌, ◌++◌, length, Bool, true, false, cond, not, ◌==◌, ◌||◌, Option, Some, None, refl, ap, sym, subst, ◌∙◌, inl, inr, arith}
use Rattle.std.proofs.lemmas.Bool.{cases_Bool, true≢false, eq-eqb}
use Rattle.std.proofs.lemmas.List.{length-map}
use Rattle.std.specs.List.{Contains}
use Rattle.std.specs.Ordering.{eq_by_cmp, is_eq}
use Rattle.sea_base.specs.Field.{big_endian}
use Rattle.sea_base.specs.Space.{Seen}
use Rattle.sea_node.proofs.Keys.{same_key, not_below_itself, IsRising-split, IsRising-head}
use Rattle.sea_tree.specs.declared.path.Step.{Step}
use Rattle.sea_tree.specs.Tree.{IsAddress, first_key}
use Rattle.sea_tree.specs.Does.{Change, is_among}
use Rattle.sea_tree.specs.Rebalanced.{Rebalanced}
use Rattle.std.specs.declared.cmp.Ordering.{Ordering}
use Rattle.std.specs.declared.cmp.Ordering.TheVariants.{Less, Equal, Greater}
use Rattle.std.specs.FinMap.Entries.{put, by_order}
use Rattle.sea_node.specs.Entries.{Entry, key_order, edited, IsBelow, IsRising}
use Rattle.sea_node.specs.Node.{IsNode, node_bytes}
use Rattle.sea_tree.specs.declared.edit.Edit.{Edit}
use Rattle.sea_tree.specs.declared.edit.Edit.TheVariants.{Pair, Moved}
use Rattle.sea_tree.specs.Mending.{after_edit, moved}
use Rattle.sea_tree.proofs.Applied.{moved_entry}
use Rattle.sea_tree.proofs.Holding.{Contains-head, Contains-later, Contains-cases, Contains-middle, Contains-nil, same_address}

-- a pair that is put takes none away
put_length : (key value : List ℕ) (es : List Entry) → length es ≤ length (put key_order key value es)
put_length key value [] = omega arith
put_length key value (e ∷ es) =
    elim (key_order key e.0) as (λ o. length (e ∷ es) ≤ length (by_order o ((key, value) ∷ e ∷ es) ((e.0, value) ∷ es) (e ∷ put key_order key value es))) [
      | Less ↦ omega arith
      | Equal ↦ omega arith
      | Greater ↦ (let rest : length es ≤ length (put key_order key value es) = put_length key value es in omega (arith, rest))
    ]

kept_among : (key : List ℕ) (es : List Entry) (x : Entry) → Contains (edited key None es) x → Contains es x
kept_among key [] x c = c
kept_among key (e ∷ es) x c =
    elim (eq_by_cmp key_order key e.0) as (λ t. Contains (cond (not t) (e ∷ edited key None es) (edited key None es)) x → Contains (e ∷ es) x) [
      | true ↦ λ c. Contains-later e es x (kept_among key es x c)
      | false ↦ λ c. elim (Contains-cases e (edited key None es) x c) [
        | inl same ↦ subst (Contains (e ∷ es)) same (Contains-head e es)
        | inr later ↦ Contains-later e es x (kept_among key es x later)
      ]
    ] c

pub lone_edit : (level : ℕ) (entries : List Entry) (edit : Edit) (e : Entry) → IsNode (suc level) entries → after_edit edit entries ≡ e ∷ [] → Contains entries e
lone_edit level entries (Pair key None) e node is = kept_among key entries e (subst (λ (l : List Entry). Contains l e) (sym is) (Contains-head e []))
lone_edit level entries (Pair key (Some value)) e node is = absurd (omega (arith, (node.children (omega arith)).0, put_length key value entries, ap length is))
lone_edit level entries (Moved from to) e node is = absurd (omega (arith, (node.children (omega arith)).0, ap length is, length-map entries (moved_entry from to)))

-- ---- what is left alone was planned

module _ (key : List ℕ) where
  -- an entry with another key is kept
  stays : (es : List Entry) (x : Entry) → eq_by_cmp key_order key x.0 ≡ false → Contains es x → Contains (edited key None es) x
  stays [] x other c = c
  stays (e ∷ es) x other c = elim (Contains-cases e es x c) [
    | inl same ↦ subst (Contains (edited key None (e ∷ es))) same (first (eq_by_cmp key_order key e.0) (ap (λ (y : Entry). eq_by_cmp key_order key y.0) same ∙ other))
    | inr later ↦ (let rest : Contains (edited key None es) x = stays es x other later in
        elim (eq_by_cmp key_order key e.0) as (λ t. Contains (cond (not t) (e ∷ edited key None es) (edited key None es)) x) [
          | true ↦ rest
          | false ↦ Contains-later e (edited key None es) x rest
        ])
  ]
    where
      first : (t : Bool) → t ≡ false → Contains (cond (not t) (e ∷ edited key None es) (edited key None es)) e
      first true apart = absurd (true≢false apart)
      first false apart = Contains-head e (edited key None es)

other_key : (a b : List ℕ) → IsBelow a b → eq_by_cmp key_order b a ≡ false
other_key a b below = elim (cases_Bool (eq_by_cmp key_order b a)) [
  | inl same ↦ absurd (not_below_itself a (subst (λ (k : List ℕ). IsBelow a k) (same_key b a (equal_key (key_order b a) same)) below))
  | inr apart ↦ apart
]
  where
    equal_key : (o : Ordering) → is_eq o ≡ true → o ≡ Equal
    equal_key Less e = absurd (cc)
    equal_key Equal e = refl
    equal_key Greater e = absurd (cc)

among_second : (first : Change) (at : ℕ) (block : Option (List ℕ)) (rest : List Change) → is_among (first ∷ (at, block) ∷ rest) at ≡ true
among_second first at block rest =
    elim (at == first.0) as (λ b. (b || (at == at || is_among rest at)) ≡ true) [ true ↦ refl | false ↦ ap (λ (b : Bool). b || is_among rest at) (eq-eqb at at refl) ]

-- An edit that rebalancing a child leaves to a node above the leaves leaves it one entry alone only where
-- two children were merged; and their node is planned.
pub lone_planned : (level at : ℕ) (after : List Entry) (step : Step) (now new : Seen) (added : List Change) (edit : Edit) → IsNode (suc level) step.node.entries → Rebalanced level at after step now new added (Some edit)
    → (only : Entry) (child : ℕ) → after_edit edit step.node.entries ≡ only ∷ [] → IsAddress only.1 child → is_among added child ≡ true
lone_planned level at after step now new added edit node (inl fits) only child is address = absurd (let clash : Some edit ≡ None = fits.nothing in cc)
lone_planned level at after step now new added edit node (inr (inl split)) only child is address =
    let same : edit ≡ Pair (first_key split.back) (Some (big_endian 8 now.next)) = (let whole : Some edit ≡ Some (Pair (first_key split.back) (Some (big_endian 8 now.next))) = split.parent in cc) in
    let one : edited (first_key split.back) (Some (big_endian 8 now.next)) step.node.entries ≡ only ∷ [] = sym (ap (λ (e : Edit). after_edit e step.node.entries) same) ∙ is in
    absurd (omega (arith, (node.children (omega arith)).0, put_length (first_key split.back) (big_endian 8 now.next) step.node.entries, ap length one))
lone_planned level at after step now new added edit node (inr (inr (inl merged))) only child is address =
    let pair = merged.pair in
    let same : edit ≡ Pair pair.two.0 None = (let whole : Some edit ≡ Some (Pair pair.two.0 None) = merged.parent_edit in cc) in
    let one : edited pair.two.0 None step.node.entries ≡ only ∷ [] = sym (ap (λ (e : Edit). after_edit e step.node.entries) same) ∙ is in
    let rising = IsRising-split pair.before (pair.one ∷ pair.two ∷ pair.after) (subst IsRising pair.split node.rising) in
    let below : IsBelow pair.one.0 pair.two.0 = (IsRising-head pair.one (pair.two ∷ pair.after) rising.1).0 in
    let had : Contains step.node.entries pair.one = subst (λ (es : List Entry). Contains es pair.one) (sym pair.split) (Contains-middle pair.before pair.one (pair.two ∷ pair.after)) in
    let kept : Contains (only ∷ []) pair.one = subst (λ (es : List Entry). Contains es pair.one) one (stays pair.two.0 step.node.entries pair.one (other_key pair.one.0 pair.two.0 below) had) in
    let lone : only ≡ pair.one = elim (Contains-cases only [] pair.one kept) [ inl here ↦ here | inr none ↦ absurd (Contains-nil pair.one none) ] in
    let place : child ≡ pair.one_at = same_address pair.one.1 child pair.one_at (subst (λ (e : Entry). IsAddress e.1 child) lone address) pair.one_address in
    subst (λ (q : ℕ). is_among added q ≡ true) (sym place) (subst (λ (cs : List Change). is_among cs pair.one_at ≡ true) (sym merged.planned) (among_second (pair.two_at, None) pair.one_at (Some (node_bytes level (pair.one_entries ++ pair.two_entries))) []))
lone_planned level at after step now new added edit node (inr (inr (inr cut))) only child is address = elim cut.parent_edit [
  | inl moves ↦ (let same : edit ≡ Moved cut.pair.two.0 (first_key cut.back) = cc in
      let one : moved cut.pair.two.0 (first_key cut.back) step.node.entries ≡ only ∷ [] = sym (ap (λ (e : Edit). after_edit e step.node.entries) same) ∙ is in
      absurd (omega (arith, (node.children (omega arith)).0, ap length one, length-map step.node.entries (moved_entry cut.pair.two.0 (first_key cut.back)))))
  | inr stays ↦ absurd (let clash : Some edit ≡ None = stays.0 in cc)
]
