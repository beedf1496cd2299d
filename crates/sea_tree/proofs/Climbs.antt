-- A change carried up from a leaf to the root, as the code goes.
use Rattle.std.proofs.Common.{◌≡◌, ◌≢◌, true, ℕ, suc, ◌+◌, ◌<◌, ◌≤◌, ◌^◌, List, [], ◌∷◌, ◌++◌, length, Option, Some, None, refl, sym, ◌∙◌, ap, subst, inl, inr, arith, zero}
use Rattle.std.specs.Option.{IfSome}
use Rattle.std.proofs.lemmas.Bool.{true≢false}
use Rattle.std.specs.List.{Contains}
use Rattle.std.specs.FinMap as map
use Rattle.sea_base.specs.Name.{IsName}
use Rattle.sea_base.specs.Space.{Store, Seen, IsKnown, IsSound, Agrees, laid}
use Rattle.sea_base.proofs.Spaces.{only_read-refl}
use Rattle.sea_node.specs.Entries.{Entry, Values, size, edited}
use Rattle.sea_tree.specs.declared.edit.Edit.{Edit}
use Rattle.sea_tree.specs.declared.path.Step.{Step}
use Rattle.sea_tree.specs.declared.path.Path.{Path}
use Rattle.sea_tree.specs.Tree.{Bounds, NodeAt, IsNodeOf, root_bounds, IsAddress, child_bounds}
use Rattle.sea_tree.specs.Content.{HasContent}
use Rattle.sea_tree.specs.Breaks.{HasNode}
use Rattle.sea_tree.specs.Calls.{Meets}
use Rattle.sea_tree.specs.Does.{Change, overlaid, is_among, Does}
use Rattle.sea_tree.specs.Subtrees.{Holds}
use Rattle.sea_tree.specs.Mending.{Aim, IsGiven, after_edit, IsNearPlace, Mending, Replaced}
use Rattle.sea_tree.specs.Changing.{Changed, changed_content, IsPlanned, TouchesOwn, RootRebalanced, RootCollapses}
use Rattle.sea_tree.specs.Place.{meant}
use Rattle.sea_tree.specs.Rebalanced.{IsNearChild, Rebalanced}
use Rattle.sea_tree.specs.Path.{StepsDown, ComesDown, AreKnown, IsKnownPath}
use Rattle.sea_tree.proofs.Doing.{Does-then, Does-laid, Does-agrees, overlaid-append}
use Rattle.sea_tree.proofs.Holding.{one_node, node_held, same_address}
use Rattle.sea_tree.proofs.Contents.{content_held}
use Rattle.sea_tree.proofs.Paths.{laid_same, Descends-laid, StepsDown-same, first_node, step_lies}
use Rattle.sea_tree.proofs.Mending.{mending_begun, fits_replaced, replaced_changed}
use Rattle.sea_tree.proofs.MendSplit.{IsFree, given_more, mending_child_filled}
use Rattle.sea_tree.proofs.MendSides.{puts_one}
use Rattle.sea_tree.proofs.MendRoot.{root_split_puts, root_split, root_collapsed_puts, root_collapsed, root_emptied}
use Rattle.sea_tree.proofs.MendRebalanced.{IsMended, rebalanced_mended}
use Rattle.sea_tree.proofs.MendPath.{last_step, path_held, path_replaced}
use Rattle.sea_tree.specs.Reads.{IsChildOf}
use Rattle.sea_tree.proofs.Lone.{lone_edit, lone_planned}
use Rattle.sea_tree.proofs.Touched.{among_append, among_later, child_in, rebalanced_touches, root_touches, at_top, child_of_tree}
use Rattle.sea_tree.proofs.NearUp.{near_up, same_split}

-- what is aimed at, with what was given from one state to another
abbrev pub aim_of : List ℕ → Option (List ℕ) → Seen → Seen → Aim
aim_of key value begun now = record { key = key; value = value; first = begun.next; last = now.next }

-- How far a change has come: below a node on the path it is planned, and the node isn't yet.
pub record Climbs (begun now : Seen) (root : ℕ) (key : List ℕ) (value : Option (List ℕ)) (steps : List Step) (level at : ℕ) (entries after : List Entry) (changes : List Change) : Type 0 where
  pub bounds : Bounds
  pub down : ComesDown begun root key steps level at bounds entries
  pub near : IsNearPlace level bounds after
  pub grown : 1 ≤ level → size after ≤ size entries + 75
  pub lone : (e : Entry) → 1 ≤ level → after ≡ e ∷ [] → Contains entries e
  pub alone : (e : Entry) (child : ℕ) → 1 ≤ level → after ≡ e ∷ [] → IsAddress e.1 child → is_among changes child ≡ true
  pub reads : Does [] begun now
  pub touched : TouchesOwn root begun now changes
  pub mending : (store : Store) (before : Values) → Meets store root begun now before → Mending (laid begun store) (overlaid changes (laid begun store)) level at bounds entries after (aim_of key value begun now)

-- it begins at the leaf
pub climbs_begun : (begun : Seen) (root : ℕ) (key : List ℕ) (value : Option (List ℕ)) (path : Path) → IsSound begun → IsName key → IfSome value (λ v. length v ≤ 1024) → IsKnownPath begun root key path → Does [] begun begun
    → IsNearPlace 0 (meant path.bounds) (edited key value path.leaf.entries)
    → Climbs begun begun root key value path.steps.items path.leaf.level path.at.0 path.leaf.entries (edited key value path.leaf.entries) []
climbs_begun begun root key value path sound name short known nothing near =
    let leaf : 0 ≡ path.leaf.level = sym known.leaf_level in
    subst (λ (l : ℕ). Climbs begun begun root key value path.steps.items l path.at.0 path.leaf.entries (edited key value path.leaf.entries) []) leaf (record {
      bounds = meant path.bounds;
      down = known.down;
      near = near;
      grown = λ some. absurd (omega (arith, some));
      lone = λ e some is. absurd (omega (arith, some));
      alone = λ e child some is address. absurd (omega (arith, some));
      reads = nothing;
      touched = λ store q agrees e. absurd (true≢false (sym e));
      mending = λ store before meets.
          let here = (Descends-laid begun begun store root key path.steps.items 0 path.at.0 (meant path.bounds) path.leaf.entries (only_read-refl begun) sound meets.agrees known.down).1 in
          mending_begun (laid begun store) path.at.0 (meant path.bounds) path.leaf.entries (aim_of key value begun begun) here name short known.down.leads.0 known.down.leads.1 (omega arith);
    })

-- the step above, on what was seen
pub record Above (begun : Seen) (root : ℕ) (key : List ℕ) (steps : List Step) (step : Step) (level at : ℕ) (bounds : Bounds) : Type 0 where
  pub asked : Bounds
  pub down : StepsDown begun.view level step.at.0 asked step key at bounds
  pub comes : ComesDown begun root key steps (suc level) step.at.0 asked step.node.entries

pub step_above : (begun : Seen) (root : ℕ) (key : List ℕ) (steps : List Step) (step : Step) (level at : ℕ) (bounds : Bounds) (entries : List Entry) → ComesDown begun root key (steps ++ step ∷ []) level at bounds entries → Above begun root key steps step level at bounds
step_above begun root key steps step level at bounds entries down =
    let last = last_step begun.view down.top root root_bounds steps step key level at bounds down.descent in
    let known = known_last steps step down.steps_known in
    record {
      asked = last.from_bounds;
      down = last.down;
      comes = record {
        top = down.top;
        descent = last.path;
        node = last.down.node;
        steps_known = known.0;
        known = known.1;
        leads = step_lies begun.view level step.at.0 last.from_bounds step key at bounds key last.down down.leads;
      };
    }
  where
    known_last : (steps : List Step) (step : Step) → AreKnown begun (steps ++ step ∷ []) → AreKnown begun steps × IsKnown begun step.at.0
    known_last [] step known = (tt, known.0)
    known_last (first ∷ steps) step known = let rest = known_last steps step known.1 in ((known.0, rest.0), rest.1)

-- the node in hand is near its place as a child of the step above
pub child_near : (begun now : Seen) (root : ℕ) (key : List ℕ) (value : Option (List ℕ)) (steps : List Step) (step : Step) (level at : ℕ) (entries after : List Entry) (changes : List Change) → Climbs begun now root key value (steps ++ step ∷ []) level at entries after changes → IsNearChild step level at after
child_near begun now root key value steps step level at entries after changes climbs before behind entry split =
    let above = step_above begun root key steps step level at climbs.bounds entries climbs.down in
    let down = above.down in
    let same = same_split down.before before down.after behind down.entry entry (down.split.count ∙ sym split.count) (sym down.split.split ∙ split.split) in
    let address : IsAddress entry.1 at = subst (λ (e : Entry). IsAddress e.1 at) same.1 down.address in
    let bounds : climbs.bounds ≡ child_bounds entry behind step.upper = down.below_is ∙ (λ i. child_bounds (same.1 i) (same.2 i) above.asked.upper) ∙ ap (λ (u : Option (List ℕ)). child_bounds entry behind u) (sym down.upper_is) in
    (address, subst (λ (b : Bounds). IsNearPlace level b after) bounds climbs.near)

-- a tree whose root is a node of a level holds the entries of its content
root_held : (was : Store) (level root : ℕ) (content : Values) → HasContent was root content → (entries : List Entry) × HasNode was level root root_bounds entries → (nodes : List ℕ) × Holds was level root root_bounds (map.entries content) nodes
root_held was level root content has node =
    let filled : was root ≢ None = λ none. (let clash : Some node.1.0.bytes ≡ None = sym node.1.0.here ∙ none in absurd (cc)) in
    let held = content_held was root content has filled in
    let there = node_held was held.0 root root_bounds (map.entries content) held.1 held.2 in
    let levels = one_node was root held.0 level there.entries node.0 there.node.0 node.1.0 in
    (held.1, subst (λ (l : ℕ). Holds was l root root_bounds (map.entries content) held.1) levels.0 held.2)

-- Below a node on the path, on one store: what rebalancing the node in hand makes of it.
rebalanced_above : (begun now new : Seen) (root : ℕ) (key : List ℕ) (value : Option (List ℕ)) (steps : List Step) (step : Step) (level at : ℕ) (entries after : List Entry) (changes added : List Change) (left : Option Edit)
    → IsSound begun → now.next < 2 ^ 62 + 2 ^ 47 → (climbs : Climbs begun now root key value (steps ++ step ∷ []) level at entries after changes) → Rebalanced level at after step now new added left → Does [] now new
    → (above : Above begun root key steps step level at climbs.bounds) → (store : Store) (before : Values) → Meets store root begun new before
    → IsMended (laid begun store) (overlaid (added ++ changes) (laid begun store)) (suc level) step.at.0 above.asked step.node.entries (aim_of key value begun new) left
rebalanced_above begun now new root key value steps step level at entries after changes added left sound small climbs rebalanced goes above store before meets =
    let was : Store = laid begun store in
    let is : Store = overlaid changes was in
    let later : now.next ≤ new.next = goes.next in
    let agrees_now : Agrees store now = Does-agrees [] goes store meets.agrees in
    let agrees_begun : Agrees store begun = Does-agrees [] climbs.reads store agrees_now in
    let meets_now : Meets store root begun now before = record { agrees = agrees_now; content = meets.content; fresh = λ q from below. meets.fresh q from (omega (arith, later, below)) } in
    let same = laid_same begun begun store (only_read-refl begun) sound agrees_begun in
    let down : StepsDown was level step.at.0 above.asked step key at climbs.bounds = StepsDown-same begun begun.view was same level step.at.0 above.asked step key at climbs.bounds above.comes.known above.down in
    let there = Descends-laid begun begun store root key steps (suc level) step.at.0 above.asked step.node.entries (only_read-refl begun) sound agrees_begun above.comes in
    let held = root_held was above.comes.top root before meets.content (first_node was above.comes.top root root_bounds steps key (suc level) step.at.0 above.asked step.node.entries there.0 there.1) in
    let here = path_held was above.comes.top root root_bounds (map.entries before) held.0 steps key (suc level) step.at.0 above.asked held.1 there.0 in
    rebalanced_mended was is level step.at.0 above.asked here.0 here.1 step key at climbs.bounds entries after (aim_of key value begun now) here.2 down (climbs.mending store before meets_now)
    now new store meets.agrees (λ q. sym (Does-laid [] climbs.reads store q)) climbs.reads.next refl (omega (arith, small)) (λ q given. meets.fresh q given.0 given.1)
    (overlaid (added ++ changes) was) added left rebalanced (λ q. overlaid-append added changes was q)

-- what is written there too is the tree's own
pub rebalanced_own : (begun now new : Seen) (root : ℕ) (key : List ℕ) (value : Option (List ℕ)) (steps : List Step) (step : Step) (level at : ℕ) (entries after : List Entry) (changes added : List Change) (left : Option Edit)
    → IsSound begun → (climbs : Climbs begun now root key value (steps ++ step ∷ []) level at entries after changes) → Rebalanced level at after step now new added left → Does [] now new
    → TouchesOwn root begun new (added ++ changes)
rebalanced_own begun now new root key value steps step level at entries after changes added left sound climbs rebalanced goes store q agrees e =
    let agrees_now : Agrees store now = Does-agrees [] goes store agrees in
    let agrees_begun : Agrees store begun = Does-agrees [] climbs.reads store agrees_now in
    let above = step_above begun root key steps step level at climbs.bounds entries climbs.down in
    let there = Descends-laid begun begun store root key steps (suc level) step.at.0 above.asked step.node.entries (only_read-refl begun) sound agrees_begun above.comes in
    let first = first_node (laid begun store) above.comes.top root root_bounds steps key (suc level) step.at.0 above.asked step.node.entries there.0 there.1 in
    let own = child_in step.node.entries above.down.before above.down.entry above.down.after at above.down.split.split above.down.address in
    elim (among_append added changes q e) [
      | inl here ↦ elim (rebalanced_touches level at after step now new own q added left rebalanced here) [
        | inl child ↦ inr (inl (child_of_tree (laid begun store) above.comes.top root steps key level step.at.0 above.asked step.node.entries q first there.0 there.1.0 child))
        | inr given ↦ inr (inr (omega (arith, climbs.reads.next, given.0), given.1))
      ]
      | inr earlier ↦ elim (climbs.touched store q agrees_now earlier) [
        | inl root_is ↦ inl root_is
        | inr (inl node) ↦ inr (inl node)
        | inr (inr given) ↦ inr (inr (given.0, omega (arith, given.1, goes.next)))
      ]
    ]

-- What is left to the parent is the same climb, one step up.
pub climbs_up : (begun now new : Seen) (root : ℕ) (key : List ℕ) (value : Option (List ℕ)) (steps : List Step) (step : Step) (level at : ℕ) (entries after : List Entry) (changes added : List Change) (edit : Edit)
    → IsSound begun → now.next < 2 ^ 62 + 2 ^ 47 → Climbs begun now root key value (steps ++ step ∷ []) level at entries after changes → Rebalanced level at after step now new added (Some edit) → Does [] now new
    → Climbs begun new root key value steps (suc level) step.at.0 step.node.entries (after_edit edit step.node.entries) (added ++ changes)
climbs_up begun now new root key value steps step level at entries after changes added edit sound small climbs rebalanced goes =
    let above = step_above begun root key steps step level at climbs.bounds entries climbs.down in
    let grows = near_up begun.view level step.at.0 above.asked step key at climbs.bounds after now new added edit above.down climbs.near rebalanced in
    record {
      bounds = above.asked;
      down = above.comes;
      near = grows.near;
      grown = λ _. grows.grown;
      lone = λ e _ is. lone_edit level step.node.entries edit e above.down.node.0.spells.node is;
      alone = λ e child _ is address. among_later added changes child (lone_planned level at after step now new added edit above.down.node.0.spells.node rebalanced e child is address);
      reads = Does-then [] [] climbs.reads goes;
      touched = rebalanced_own begun now new root key value steps step level at entries after changes added (Some edit) sound climbs rebalanced goes;
      mending = rebalanced_above begun now new root key value steps step level at entries after changes added (Some edit) sound small climbs rebalanced goes above;
    }

-- Where nothing is left, the change is planned.
pub climbs_done : (begun now new : Seen) (root : ℕ) (key : List ℕ) (value : Option (List ℕ)) (steps : List Step) (step : Step) (level at : ℕ) (entries after : List Entry) (changes added : List Change)
    → IsSound begun → now.next < 2 ^ 62 + 2 ^ 47 → Climbs begun now root key value (steps ++ step ∷ []) level at entries after changes → Rebalanced level at after step now new added None → Does [] now new
    → IsPlanned root key value begun new (added ++ changes)
climbs_done begun now new root key value steps step level at entries after changes added sound small climbs rebalanced goes store before meets =
    let was : Store = laid begun store in
    let above = step_above begun root key steps step level at climbs.bounds entries climbs.down in
    let free : IsFree was (aim_of key value begun new) = λ q given. meets.fresh q given.0 given.1 in
    let done = rebalanced_above begun now new root key value steps step level at entries after changes added None sound small climbs rebalanced goes above store before meets in
    let agrees_begun : Agrees store begun = Does-agrees [] climbs.reads store (Does-agrees [] goes store meets.agrees) in
    let there = Descends-laid begun begun store root key steps (suc level) step.at.0 above.asked step.node.entries (only_read-refl begun) sound agrees_begun above.comes in
    let held = root_held was above.comes.top root before meets.content (first_node was above.comes.top root root_bounds steps key (suc level) step.at.0 above.asked step.node.entries there.0 there.1) in
    let replaced = path_replaced was (overlaid (added ++ changes) was) above.comes.top root root_bounds (map.entries before) held.0 steps key (suc level) step.at.0 above.asked (aim_of key value begun new) held.1 there.0 done free in
    replaced_changed was (overlaid (added ++ changes) was) above.comes.top above.comes.top root (aim_of key value begun new) before meets.content replaced free

-- At the root the climb ends: rebalanced, the change is planned.
module _ (begun now new : Seen) (root : ℕ) (key : List ℕ) (value : Option (List ℕ)) (level at : ℕ) (entries after : List Entry) (changes added : List Change)
    (small : now.next < 2 ^ 62 + 2 ^ 47) (climbs : Climbs begun now root key value [] level at entries after changes) (goes : Does [] now new)
    (store : Store) (before : Values) (meets : Meets store root begun new before) where
  abbrev was : Store
  was = laid begun store

  abbrev is : Store
  is = overlaid changes was

  abbrev is' : Store
  is' = overlaid (added ++ changes) was

  free : IsFree was (aim_of key value begun new)
  free q given = meets.fresh q given.0 given.1

  meets_now : Meets store root begun now before
  meets_now = record { agrees = Does-agrees [] goes store meets.agrees; content = meets.content; fresh = λ q from below. meets.fresh q from (omega (arith, goes.next, below)) }

  here : Mending was is level root root_bounds entries after (aim_of key value begun now)
  here =
      let place : at ≡ root = sym climbs.down.descent.1 in
      let asked : climbs.bounds ≡ root_bounds = sym climbs.down.descent.2 in
      subst (λ (b : Bounds). Mending was is level root b entries after (aim_of key value begun now)) asked
      (subst (λ (q : ℕ). Mending was is level q climbs.bounds entries after (aim_of key value begun now)) place (climbs.mending store before meets_now))

  aims : (count : ℕ) → new.next ≡ now.next + count → aim_of key value begun new ≡ given_more count (aim_of key value begun now)
  aims count next = ap (λ (n : ℕ). record (aim_of key value begun now) { last = n }) next

  put : (last : List Change) → added ≡ last → (q : ℕ) → is' q ≡ overlaid last is q
  put last planned q = overlaid-append added changes was q ∙ ap (λ (cs : List Change). overlaid cs is q) planned

  pub rooted : RootRebalanced level root after now new changes added → Changed was is' root begun.next new.next (changed_content key value before)
  rooted (inl f) =
      let same : aim_of key value begun new ≡ aim_of key value begun now = ap (λ (n : ℕ). record (aim_of key value begun now) { last = n }) f.next in
      let m : Mending was is level root root_bounds entries after (aim_of key value begun new) = subst (Mending was is level root root_bounds entries after) (sym same) here in
      replaced_changed was is' level level root (aim_of key value begun new) before meets.content
      (fits_replaced was is is' level root root_bounds entries after (aim_of key value begun new) m free f.node (omega arith) (put _ f.planned)) free
  rooted (inr (inl s)) =
      let more = aims 2 s.next in
      let free_more : IsFree was (given_more 2 (aim_of key value begun now)) = subst (IsFree was) more free in
      let m : Mending was is level root root_bounds entries (s.front ++ s.back) (aim_of key value begun now) = subst (λ (es : List Entry). Mending was is level root root_bounds entries es (aim_of key value begun now)) s.cut here in
      let puts = root_split_puts was is is' level root entries (s.front ++ s.back) _ _ _ (aim_of key value begun now) m climbs.reads.next free_more (put _ s.planned) in
      let done = root_split was is is' level root entries s.front s.back (aim_of key value begun now) m s.low s.front_part s.back_part climbs.reads.next (omega (arith, small)) free_more puts in
      replaced_changed was is' level (suc level) root (aim_of key value begun new) before meets.content (subst (λ (a : Aim). Replaced was is' level (suc level) root root_bounds a) (sym more) done) free
  rooted (inr (inr (inl s))) = collapsed s
    where
      collapsed : RootCollapses level root after now new changes added → Changed was is' root begun.next new.next (changed_content key value before)
      collapsed s =
          let aim : Aim = aim_of key value begun new in
          let same : aim ≡ aim_of key value begun now = ap (λ (n : ℕ). record (aim_of key value begun now) { last = n }) s.next in
          let m0 : Mending was is level root root_bounds entries after aim = subst (Mending was is level root root_bounds entries after) (sym same) here in
          let m1 : Mending was is (suc s.below) root root_bounds entries after aim = subst (λ (l : ℕ). Mending was is l root root_bounds entries after aim) s.level_is m0 in
          let m : Mending was is (suc s.below) root root_bounds entries (s.only ∷ []) aim = subst (λ (es : List Entry). Mending was is (suc s.below) root root_bounds entries es aim) s.one m1 in
          let node = node_held is s.below m.below_is.0 (child_bounds s.only [] None) m.below_is.1 m.below_is.3 m.below_is.6 in
          let there : is s.child ≡ Some node.node.0.bytes = subst (λ (q : ℕ). is q ≡ Some node.node.0.bytes) (same_address s.only.1 m.below_is.0 s.child m.below_is.5 s.address) node.node.0.here in
          let block : s.block ≡ Some node.node.0.bytes = s.child_block was ∙ there in
          let planned : added ≡ (s.child, None) ∷ (root, Some node.node.0.bytes) ∷ [] = s.planned ∙ ap (λ (b : Option (List ℕ)). (s.child, None) ∷ (root, b) ∷ []) block in
          let among : Contains entries s.only = climbs.lone s.only (omega (arith, s.level_is)) s.one in
          let old_child : IsGiven aim s.child → ⊥ = λ given. mending_child_filled was is s.below root root_bounds entries (s.only ∷ []) aim m s.only s.child among s.address (free s.child given) in
          let puts = root_collapsed_puts was is is' s.below root entries s.only.0 s.only.1 s.child node.node.0.bytes aim m s.address free there (put _ planned) in
          let done : Replaced was is' (suc s.below) s.below root root_bounds aim = root_collapsed was is is' s.below root entries s.only.0 s.only.1 s.child aim m s.address free old_child puts in
          replaced_changed was is' (suc s.below) s.below root aim before meets.content done free
  rooted (inr (inr (inr e))) =
      let aim : Aim = aim_of key value begun new in
      let same : aim ≡ aim_of key value begun now = ap (λ (n : ℕ). record (aim_of key value begun now) { last = n }) e.next in
      let m0 : Mending was is level root root_bounds entries after aim = subst (Mending was is level root root_bounds entries after) (sym same) here in
      let m1 : Mending was is 0 root root_bounds entries after aim = subst (λ (l : ℕ). Mending was is l root root_bounds entries after aim) e.leaf m0 in
      let m : Mending was is 0 root root_bounds entries [] aim = subst (λ (es : List Entry). Mending was is 0 root root_bounds entries es aim) e.empty m1 in
      root_emptied was is is' root entries aim before meets.content m free (puts_one is is' root None (put _ e.planned))

pub climbs_rooted : (begun now new : Seen) (root : ℕ) (key : List ℕ) (value : Option (List ℕ)) (level at : ℕ) (entries after : List Entry) (changes added : List Change) → now.next < 2 ^ 62 + 2 ^ 47
    → Climbs begun now root key value [] level at entries after changes → RootRebalanced level root after now new changes added → Does [] now new → IsPlanned root key value begun new (added ++ changes)
climbs_rooted begun now new root key value level at entries after changes added small climbs rebalanced goes store before meets =
    rooted begun now new root key value level at entries after changes added small climbs goes store before meets rebalanced

pub rooted_own : (begun now new : Seen) (root : ℕ) (key : List ℕ) (value : Option (List ℕ)) (level at : ℕ) (entries after : List Entry) (changes added : List Change) → IsSound begun
    → Climbs begun now root key value [] level at entries after changes → RootRebalanced level root after now new changes added → Does [] now new → TouchesOwn root begun new (added ++ changes)
rooted_own begun now new root key value level at entries after changes added sound climbs rebalanced goes store q agrees e =
    let agrees_now : Agrees store now = Does-agrees [] goes store agrees in
    let agrees_begun : Agrees store begun = Does-agrees [] climbs.reads store agrees_now in
    let there = Descends-laid begun begun store root key [] level at climbs.bounds entries (only_read-refl begun) sound agrees_begun climbs.down in
    let node : NodeAt (laid begun store) root level entries = subst (λ (x : ℕ). NodeAt (laid begun store) x level entries) (sym climbs.down.descent.1) there.1.0 in
    elim (among_append added changes q e) [
      | inl here ↦ elim (root_touches level root after now new changes added rebalanced q here) [
        | inl same ↦ inl same
        | inr (inl given) ↦ inr (inr (omega (arith, climbs.reads.next, given.0), given.1))
        | inr (inr only) ↦ inr (inl (only_child (laid begun store) level root entries q node only.1 (only.0, climbs.lone only.0 only.1 only.2, only.3)))
      ]
      | inr earlier ↦ elim (climbs.touched store q agrees_now earlier) [
        | inl root_is ↦ inl root_is
        | inr (inl own) ↦ inr (inl own)
        | inr (inr given) ↦ inr (inr (given.0, omega (arith, given.1, goes.next)))
      ]
    ]
  where
    only_child : (s : Store) (level root : ℕ) (entries : List Entry) (q : ℕ) → NodeAt s root level entries → 1 ≤ level → IsChildOf entries q → IsNodeOf s root q
    only_child s zero root entries q node some child = absurd (omega (arith, some))
    only_child s (suc level) root entries q node some child = (suc level, (entries, node), inr (entries, node, (child.0, child.1, (q, child.2, at_top s level q))))
