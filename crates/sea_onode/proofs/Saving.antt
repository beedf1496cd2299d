-- A change of the onode tree behind reads of the path to its name.
use Rattle.std.proofs.Common.{◌≡◌, ◌⊎◌, inl, inr, ℕ, ◌≤◌, ◌<◌, List, [], ◌∷◌, ◌++◌, Option, Some, None, MatchOption, sym, ap, subst, ◌∙◌, arith}
use Rattle.std.specs.FinMap as map
use Rattle.sea_base.specs.declared.delta.Delta.{Delta}
use Rattle.sea_base.specs.Space.{Store, Seen, Agrees, OnlyRead, laid}
use Rattle.sea_node.specs.Entries.{Values}
use Rattle.sea_object.specs.declared.onode.Onode.{Onode}
use Rattle.sea_tree.specs.declared.fault.TreeFault.{TreeFault}
use Rattle.sea_tree.specs.declared.fault.TreeFault.TheVariants.{Space, Broken}
use Rattle.sea_tree.specs.Breaks.{IsBreakOnPath}
use Rattle.sea_tree.specs.Content.{HasContent}
use Rattle.sea_tree.specs.Calls as tree
use Rattle.sea_tree.specs.Does.{ChangesAtMost, SplicesOnce, IsAsBefore}
use Rattle.sea_tree.specs.Form.{HasForm, HasFirst}
use Rattle.sea_tree.specs.Reads.{IsNearPath, ReadsPath}
use Rattle.sea_tree.specs.Tree.{IsNodeOf, AreApart, root_bounds}
use Rattle.sea_tree.proofs.Apart.{IsNodeOf-root, few_levels}
use Rattle.sea_tree.proofs.Puts.{planned_fails}
use Rattle.sea_tree.proofs.Walks.{one_store}
use Rattle.sea_onode.specs.Calls.{NotesMore, Meets, Saves, Erases, SaveForm, EraseForm, IsFindFault, IsNoOnode}
use Rattle.sea_onode.specs.Onodes.{Onodes}
use Rattle.sea_onode.specs.Spelling.{Spells, IsValueOf}
use Rattle.sea_onode.proofs.Onodes.{same_value, value_bytes, spelled-insert, spelled-remove, spelled-again}
use Rattle.sea_onode.proofs.Order.{order-insert, order-remove}

-- a store whose onodes a call speaks of is one of whose tree it does
pub meets_tree : {store : Store} {old new : Seen} {before : Onodes} (m : Meets store old new before) → tree.Meets store 1 old new m.onodes.content
meets_tree m = record { agrees = m.agrees; content = m.onodes.tree; fresh = m.fresh }

-- a fault on a path is one of a lookup
pub path_fault : (name : List ℕ) (old new : Seen) (fault : TreeFault) → tree.IsPathFault 1 name old new fault → IsFindFault name old new fault
path_fault name old new (Space fault) cause = tt
path_fault name old new (Broken at) cause = inl cause

-- ---- where reads alone were made

module _ (old new : Seen) (reads : OnlyRead old new) (store : Store) where
  same : laid new store ≡ laid old store
  same = one_store reads store

  -- a tree keeps its content
  pub becomes_same : (content : Values) → tree.Meets store 1 old new content → tree.Becomes store 1 old new content
  becomes_same content meets = record {
    content = subst (λ (s : Store). HasContent s 1 content) (sym same) meets.content;
    elsewhere = λ at other outside side. ap (λ (s : Store). s at) same;
    nodes = λ at node. inr (inl (subst (λ (s : Store). IsNodeOf s 1 at) same node));
    left = λ at was filled. subst (λ (s : Store). IsNodeOf s 1 at) (sym same) (elim was [
      | inl is_root ↦ subst (IsNodeOf (laid old store) 1) (sym is_root) (IsNodeOf-root (laid old store) 1 meets.content.tree (λ none. filled (ap (λ (s : Store). s at) same ∙ ap (laid old store) is_root ∙ none)))
      | inr (inl node) ↦ node
      | inr (inr given) ↦ absurd (omega (arith, given.0, given.1, reads.next))
    ]);
    used = λ at from below. absurd (omega (arith, from, below, reads.next));
    levels = λ level subtree. few_levels (laid new store) level 1 root_bounds subtree;
    others = λ other kept differs has apart side. subst (λ (s : Store). HasContent s other kept) (sym same) has;
  }

  -- the onode that is saved stands there already
  pub saves_same : (before : Onodes) (name bytes : List ℕ) (onode : Onode) → Meets store old new before → ((content : Values) → tree.Meets store 1 old new content → Some bytes ≡ map.get content name) → Spells bytes onode → Saves store name onode old new before
  saves_same before name bytes onode m found spells =
      let content = m.onodes.content in
      let b = becomes_same content (meets_tree m) in
      let spelled = spelled-again content before name bytes onode m.onodes.spelled (sym (found content (meets_tree m))) spells in
      record {
        becomes = record { content = content; spelled = spelled; tree = b };
        order = order-insert store old new content b (omega (arith, reads.next)) before name onode spelled;
      }

-- ---- a change behind reads

module _ (old mid new : Seen) (reads : OnlyRead old mid) where
  module _ (store : Store) where
    mid_is : laid mid store ≡ laid old store
    mid_is = one_store reads store

    pub meets_since : (content : Values) → tree.Meets store 1 old new content → tree.Meets store 1 mid new content
    meets_since content m = record {
      agrees = m.agrees;
      content = subst (λ (s : Store). HasContent s 1 content) (sym mid_is) m.content;
      fresh = λ at from below. ap (λ (s : Store). s at) mid_is ∙ m.fresh at (omega (arith, from, reads.next)) below;
    }

    node_was : (at : ℕ) → IsNodeOf (laid mid store) 1 at → IsNodeOf (laid old store) 1 at
    node_was at node = subst (λ (s : Store). IsNodeOf s 1 at) mid_is node

    node_since : (at : ℕ) → IsNodeOf (laid old store) 1 at → IsNodeOf (laid mid store) 1 at
    node_since at node = subst (λ (s : Store). IsNodeOf s 1 at) (sym mid_is) node

    own_was : (at : ℕ) → (at ≡ 1) ⊎ (IsNodeOf (laid mid store) 1 at ⊎ ((mid.next ≤ at) × (at < new.next))) → (at ≡ 1) ⊎ (IsNodeOf (laid old store) 1 at ⊎ ((old.next ≤ at) × (at < new.next)))
    own_was at (inl is_root) = inl is_root
    own_was at (inr (inl node)) = inr (inl (node_was at node))
    own_was at (inr (inr given)) = inr (inr (omega (arith, given.0, reads.next), given.1))

    own_since : (at : ℕ) → (at ≡ 1) ⊎ (IsNodeOf (laid old store) 1 at ⊎ ((old.next ≤ at) × (at < new.next))) → (at ≡ 1) ⊎ (IsNodeOf (laid mid store) 1 at ⊎ ((mid.next ≤ at) × (at < new.next)))
    own_since at (inl is_root) = inl is_root
    own_since at (inr (inl node)) = inr (inl (node_since at node))
    own_since at (inr (inr given)) = inr (inr (omega (arith, given.0, reads.next), given.1))

    side_since : (at : ℕ) → (at < old.next) ⊎ (new.next ≤ at) → (at < mid.next) ⊎ (new.next ≤ at)
    side_since at (inl below) = inl (omega (arith, below, reads.next))
    side_since at (inr past) = inr past

    pub becomes_since : (content : Values) → tree.Becomes store 1 mid new content → tree.Becomes store 1 old new content
    becomes_since content b = record {
      content = b.content;
      elsewhere = λ at other outside side. b.elsewhere at other (λ node. outside (node_was at node)) (side_since at side) ∙ ap (λ (s : Store). s at) mid_is;
      nodes = λ at node. own_was at (b.nodes at node);
      left = λ at was filled. b.left at (own_since at was) filled;
      used = λ at from below. b.used at (omega (arith, from, reads.next)) below;
      levels = b.levels;
      others = λ other kept differs has apart side. b.others other kept differs (subst (λ (s : Store). HasContent s other kept) (sym mid_is) has) (subst (λ (s : Store). AreApart s 1 other) (sym mid_is) apart) (side_since other side);
    }

    -- the onode's value was put
    pub saves_put : (before : Onodes) (name bytes : List ℕ) (onode : Onode) → old.next ≤ new.next → Meets store old new before → ((content : Values) → tree.Meets store 1 mid new content → tree.Becomes store 1 mid new (map.insert content name bytes)) → Spells bytes onode → Saves store name onode old new before
    saves_put before name bytes onode later m put spells =
        let content = m.onodes.content in
        let b = becomes_since (map.insert content name bytes) (put content (meets_since content (meets_tree m))) in
        let spelled = spelled-insert content before name bytes onode m.onodes.spelled spells in
        record {
          becomes = record { content = map.insert content name bytes; spelled = spelled; tree = b };
          order = order-insert store old new (map.insert content name bytes) b later before name onode spelled;
        }

  -- who agrees after the change agreed before it
  pub agrees_mid : (key : List ℕ) (value : Option (List ℕ)) (first : List ℕ) → HasForm 1 key value mid new ⊎ HasFirst 1 key first mid new → (store : Store) → Agrees store new → Agrees store mid
  agrees_mid key value first (inl form) store agrees = λ at found e. agrees at found (form.writes.reads at found (form.plans.reads at found (form.reads.noted at found e)))
  agrees_mid key value first (inr form) store agrees = λ at found e. agrees at found (form.writes.reads at found (form.reads.noted at found e))

  -- what was noted stays
  pub notes_put : (key : List ℕ) (value : Option (List ℕ)) (first : List ℕ) → HasForm 1 key value mid new ⊎ HasFirst 1 key first mid new → NotesMore old new
  notes_put key value first (inl form) = λ at found e. form.writes.reads at found (form.plans.reads at found (form.reads.noted at found (reads.noted at found e)))
  notes_put key value first (inr form) = λ at found e. form.writes.reads at found (form.reads.noted at found (reads.noted at found e))

  as_before : (at : ℕ) → IsAsBefore mid new at → IsAsBefore old new at
  as_before at was = record {
    changed = was.changed ∙ reads.changed at;
    view = λ c. was.view (reads.changed at ∙ c) ∙ reads.known at (inl c);
  }

  few_since : (count : ℕ) → ChangesAtMost count mid new → ChangesAtMost count old new
  few_since count few = (
    few.0,
    few.1,
    λ at. elim (few.2 at) [
      | inl listed ↦ inl listed
      | inr (inl gone) ↦ inr (inl gone)
      | inr (inr was) ↦ inr (inr (as_before at was))
    ],
  )

  once_since : (bytes : ℕ) → SplicesOnce bytes mid new → SplicesOnce bytes old new
  once_since bytes once = record {
    place = once.place;
    others = λ at other. elim (once.others at other) [ inl kept ↦ inl (kept ∙ reads.splices at) | inr none ↦ inr none ];
    here = elim once.here [
      | inl kept ↦ inl (kept ∙ reads.splices once.place)
      | inr (inl none) ↦ inr (inl none)
      | inr (inr one) ↦ inr (inr (one.0, one.1 ∙ ap (λ (deltas : List Delta). deltas ++ one.0 ∷ []) (reads.splices once.place), one.2))
    ];
  }

  pub footprint_since : (name : List ℕ) → ((store : Store) → Agrees store new → Agrees store mid) → ReadsPath 1 name old mid → tree.ChangeFootprint 1 name mid new → tree.ChangeFootprint 1 name old new
  footprint_since name agreed on_path f = record {
    whole = λ store at agrees breaks. f.whole store at agrees (subst (λ (s : Store). IsBreakOnPath s name 1 at) (sym (mid_is store)) breaks);
    near = λ at. elim (f.near at) [
      | inl kept ↦ elim (on_path at) [
        | inl was ↦ inl (kept ∙ was)
        | inr on ↦ inr (λ store agrees. inl (on store (agreed store agrees)))
      ]
      | inr near ↦ inr (λ store agrees. subst (λ (s : Store). IsNearPath s name 1 at) (mid_is store) (near store agrees))
    ];
    own = λ store at agrees changed. elim (f.own store at agrees changed) [
      | inl was ↦ inl (sym (reads.changed at) ∙ was)
      | inr own ↦ inr (own_was store at own)
    ];
    few = few_since 17 f.few;
    once = once_since 1091 f.once;
  }

  pub failure_since : (name : List ℕ) (fault : TreeFault) → tree.ChangeFailure 1 name mid new fault → tree.ChangeFailure 1 name old new fault
  failure_since name fault f = planned_fails 1 name old mid new reads fault f.unchanged f.blames

-- an erased name
pub erases : (store : Store) (old new : Seen) (before : Onodes) (name : List ℕ) → old.next ≤ new.next → (m : Meets store old new before) → tree.Becomes store 1 old new (map.remove m.onodes.content name) → Erases store name old new before
erases store old new before name later m b =
    let spelled = spelled-remove m.onodes.content before name m.onodes.spelled in
    record {
      becomes = record { content = map.remove m.onodes.content name; spelled = spelled; tree = b };
      order = order-remove store old new (map.remove m.onodes.content name) b later before name spelled;
    }

-- ---- the form of a call

-- what is found under a name and spells nothing
pub no_onode : (value : Option (List ℕ)) (bytes here : List ℕ) → value ≡ Some here → bytes ≡ here → ((onode : Onode) → Spells bytes onode → ◌≡◌ {A = Option Onode} None (Some onode)) → IsNoOnode value
no_onode value bytes here is same only =
    subst IsNoOnode (sym is) (λ onode spells. let none = only onode (subst (λ (b : List ℕ). Spells b onode) (sym same) spells) in cc)

pub form_same : (old new : Seen) (name bytes : List ℕ) (onode : Onode) → OnlyRead old new → ReadsPath 1 name old new → (store : Store) (before : Onodes) (m : Meets store old new before) → Some bytes ≡ map.get m.onodes.content name → Spells bytes onode → SaveForm store name onode old new before
form_same old new name bytes onode reads within store before m found spells = record {
  same = λ e. (reads, within);
  other = λ differs. absurd (differs (same_value (map.get m.onodes.content name) (map.get before name) (Some onode) (m.onodes.spelled name) (subst (λ (v : Option (List ℕ)). IsValueOf v (Some onode)) found spells)));
}

pub form_put : (old mid new : Seen) (name bytes : List ℕ) (onode : Onode) → OnlyRead old mid → ReadsPath 1 name old mid → HasForm 1 name (Some bytes) mid new ⊎ HasFirst 1 name bytes mid new → (store : Store) (before : Onodes) (m : Meets store old new before) → Spells bytes onode
    → (found : Option (List ℕ)) → ((content : Values) → tree.Meets store 1 old mid content → found ≡ map.get content name) → (found ≡ Some bytes → ⊥) → SaveForm store name onode old new before
form_put old mid new name bytes onode reads within form store before m spells found is differs = record {
  same = λ e. absurd (differs (here ∙ value_bytes (map.get m.onodes.content name) (Some onode) (subst (IsValueOf (map.get m.onodes.content name)) e (m.onodes.spelled name)) ∙ ap Some (sym spells.spelled)));
  other = λ other. record {
    between = mid;
    reads = reads;
    on_path = within;
    put = subst (λ (b : List ℕ). HasForm 1 name (Some b) mid new ⊎ HasFirst 1 name b mid new) spells.spelled form;
  };
}
  where
    here : found ≡ map.get m.onodes.content name
    here = is m.onodes.content (record {
      agrees = agrees_mid old mid new reads name (Some bytes) bytes form store m.agrees;
      content = m.onodes.tree;
      fresh = λ at from below. absurd (omega (arith, from, below, reads.next));
    })

erased : (Kept Taken : Type 0) (value : Option (List ℕ)) (onode : Option Onode) → IsValueOf value onode → MatchOption value Kept (λ _. Taken) → MatchOption onode Kept (λ _. Taken)
erased Kept Taken None None is form = form
erased Kept Taken None (Some x) is form = absurd is
erased Kept Taken (Some v) None is form = absurd is
erased Kept Taken (Some v) (Some x) is form = form

pub form_erase : (old new : Seen) (name : List ℕ) (store : Store) (before : Onodes) (m : Meets store old new before) (found : Option (List ℕ)) → found ≡ map.get m.onodes.content name → MatchOption found (OnlyRead old new) (λ _. HasForm 1 name None old new) → EraseForm name old new before
form_erase old new name store before m found is form =
    erased (OnlyRead old new) (HasForm 1 name None old new) (map.get m.onodes.content name) (map.get before name) (m.onodes.spelled name) (subst (λ (v : Option (List ℕ)). MatchOption v (OnlyRead old new) (λ _. HasForm 1 name None old new)) is form)

-- what an erasure noted before stays
pub notes_erased : (old new : Seen) (name : List ℕ) (found : Option (List ℕ)) → MatchOption found (OnlyRead old new) (λ _. HasForm 1 name None old new) → NotesMore old new
notes_erased old new name None reads = reads.noted
notes_erased old new name (Some value) form = λ at found e. form.writes.reads at found (form.plans.reads at found (form.reads.noted at found e))
