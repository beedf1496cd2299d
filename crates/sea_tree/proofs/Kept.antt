-- A leaf that keeps its place: its splice is what is planned of a change.
use Rattle.std.proofs.Common.{◌≡◌, ℕ, ◌+◌, ◌<◌, ◌≤◌, ◌^◌, List, [], ◌∷◌, ◌++◌, ◌⊎◌, reverse, length, Option, Some, None, refl, sym, ap, subst, ◌∙◌, inl, inr, arith}
use Rattle.std.specs.Option.{IfSome}
use Rattle.sea_base.specs.Name.{IsName}
use Rattle.sea_base.specs.Space.{Seen, IsKnown, IsSound, OnlyRead}
use Rattle.sea_base.specs.Splice.{spliced}
use Rattle.sea_base.proofs.Spaces.{only_read-refl}
use Rattle.sea_base.specs.declared.delta.Delta.{Delta}
use Rattle.sea_node.specs.declared.splice.BlockEdit.{BlockEdit}
use Rattle.sea_node.specs.BlockEdit.{IsEdit}
use Rattle.sea_node.specs.Entries.{Entry, size, edited, entry_put}
use Rattle.sea_node.specs.Node.{IsNode, Spells, node_bytes}
use Rattle.sea_node.proofs.Edits.{IsNode-edited}
use Rattle.sea_node.proofs.Nodes.{length-entry_bytes, entry_size-leaf, one_spelled}
use Rattle.sea_tree.specs.declared.edit.Edit.TheVariants.{Pair}
use Rattle.sea_tree.specs.declared.leaf.Leaf.{Leaf}
use Rattle.sea_tree.specs.declared.path.Path.{Path}
use Rattle.sea_tree.specs.declared.path.Step.{Step}
use Rattle.sea_tree.specs.declared.plan.Plan.{Plan}
use Rattle.sea_tree.specs.declared.plan.Write.{Write}
use Rattle.sea_tree.specs.declared.splice.Splice.{Splice}
use Rattle.sea_tree.specs.Changing.{IsPlanned, TouchesOwn, RootRebalanced}
use Rattle.sea_tree.specs.Tree.{NodeAt, root_bounds}
use Rattle.sea_tree.specs.Does.{Change, Does}
use Rattle.sea_tree.specs.Form.{KeepsPlace, IsKept, IsWrittenAs, Rises, Plans}
use Rattle.sea_tree.specs.Lookup.{HoldsLeaf}
use Rattle.sea_tree.specs.Path.{IsKnownPath}
use Rattle.sea_tree.specs.Plan.{changes_of, spliced_before, plan_changes, plan_fills, count_filled, one_filled, Splices, CanSplice}
use Rattle.sea_tree.specs.Rebalanced.{Rebalanced}
use Rattle.sea_tree.proofs.Climbs.{Climbs}
use Rattle.sea_tree.proofs.Doing.{Does-read}
use Rattle.sea_tree.proofs.Forms.{completes_begun, completes_here, completes_root}
use Rattle.sea_tree.proofs.Mended.{begins, ends, ends_own, roots, roots_own, root_reached}
use Rattle.sea_tree.proofs.Nears.{none_near}
use Rattle.sea_tree.proofs.Paths.{ComesDown-later, first_node}
use Rattle.sea_tree.proofs.Performing.{splices_node}

last_of : (steps : List Step) → (steps ≡ []) ⊎ ((init : List Step) × (step : Step) × (steps ≡ init ++ step ∷ []))
last_of [] = inl refl
last_of (s ∷ ss) = elim (last_of ss) [
  | inl none ↦ inr ([], s, ap (λ (l : List Step). s ∷ l) none)
  | inr some ↦ inr (s ∷ some.0, some.1, ap (λ (l : List Step). s ∷ l) some.2)
]

some_entries : (es : List Entry) → 1016 ≤ size es → 1 ≤ length es
some_entries [] filled = absurd (omega (arith, filled))
some_entries (e ∷ es) filled = omega arith

-- ---- the splice

pub put_short : (key : List ℕ) (value : Option (List ℕ)) → IsName key → IfSome value (λ v. length v ≤ 1024) → length (entry_put key value) ≤ 1091
put_short key None name short = omega arith
put_short key (Some v) name short = omega (arith, length-entry_bytes (key, v), entry_size-leaf (key, v) name short)

pub keeps_place : (at : ℕ) (block key : List ℕ) (value : Option (List ℕ)) (edit : BlockEdit) (plan : Plan) (splice : Splice) → (es : List Entry) × Spells block edit.level es × IsEdit key value es edit → 1016 ≤ edit.size → edit.size ≤ 4064
    → plan.writes ≡ [] → plan.splice ≡ Some splice → splice.at.0 ≡ at → splice.delta ≡ edit.delta → splice.block ≡ spliced edit.delta.cut edit.delta.gone edit.delta.put block → (entries : List Entry) → Spells block 0 entries → KeepsPlace at block entries key value plan
keeps_place at block key value edit plan splice told filled room writes planned here delta made entries spells =
    let same = one_spelled block 0 edit.level entries told.0 spells told.1 in
    let e = told.2 in
    let fits : size (edited key value told.0) ≤ 4064 = omega (arith, e.size_is, room) in
    let there : KeepsPlace at block told.0 key value plan = record {
      filled = omega (arith, e.size_is, filled);
      room = fits;
      writes = writes;
      splice = splice;
      planned = planned;
      of_pair = record { here = here; cut = ap (λ (d : Delta). d.cut) delta ∙ e.cut_is; gone = ap (λ (d : Delta). d.gone) delta ∙ e.gone_is; put = ap (λ (d : Delta). d.put) delta ∙ e.put_is };
      edited_block = made ∙ ap (spliced edit.delta.cut edit.delta.gone edit.delta.put) told.1.spelled ∙ e.splice_is fits ∙ ap (λ (l : ℕ). node_bytes l (edited key value told.0)) (sym same.0);
      makes = ap (λ (d : Delta). spliced d.cut d.gone d.put block) delta ∙ sym made;
    } in
    subst (λ (es : List Entry). KeepsPlace at block es key value plan) (sym same.1) there

-- ---- the leaf in its tree

module _ (seen : Seen) (root : ℕ) (key : List ℕ) (value : Option (List ℕ)) (leaf : Leaf) (plan : Plan) (sound : IsSound seen) (name : IsName key) (short : IfSome value (λ v. length v ≤ 1024)) (small : seen.next < 2 ^ 62 + 2 ^ 47)
    (held : HoldsLeaf seen root key leaf) (keeps : (entries : List Entry) → Spells leaf.block 0 entries → KeepsPlace leaf.at.0 leaf.block entries key value plan) where
  abbrev after : List Entry
  after = edited key value held.entries

  spells : Spells leaf.block 0 held.entries
  spells =
      let node = held.down.node.0 in
      let same : Some node.bytes ≡ Some leaf.block = sym node.here ∙ held.stands in
      let block : node.bytes ≡ leaf.block = (cc) in
      subst (λ (b : List ℕ). Spells b 0 held.entries) block node.spells

  kept : KeepsPlace leaf.at.0 leaf.block held.entries key value plan
  kept = keeps held.entries spells

  abbrev path : Path
  path = record { steps = record { items = held.steps; capacity = 8 }; at = leaf.at; leaf = record { level = 0; entries = held.entries }; bounds = record { least = held.bounds.least; lower = held.bounds.lower; upper = held.bounds.upper } }

  known : IsKnownPath seen root key path
  known = record { leaf_level = refl; down = held.down }

  abbrev changes : List Change
  changes = (leaf.at.0, Some (node_bytes 0 after)) ∷ []

  changes_is : plan_changes plan ≡ changes ++ []
  changes_is =
      ap (λ (o : Option Splice). spliced_before o (changes_of plan.writes)) kept.planned
      ∙ ap (λ (cs : List Change). (kept.splice.at.0, Some kept.splice.block) ∷ cs) (ap changes_of kept.writes)
      ∙ ap (λ (at : ℕ). (at, Some kept.splice.block) ∷ []) kept.of_pair.here
      ∙ ap (λ (b : List ℕ). (leaf.at.0, Some b) ∷ []) kept.edited_block

  nothing : Does [] seen seen
  nothing = Does-read (only_read-refl seen)

  climbs : Climbs seen seen root key value held.steps 0 leaf.at.0 held.entries after []
  climbs = (begins seen root key value path sound name short known).0

  is_kept : IsKept leaf.at.0 held.entries (Pair key value) [] plan.splice
  is_kept = subst (IsKept leaf.at.0 held.entries (Pair key value) []) (sym kept.planned) kept.of_pair

  whole_node : IsNode 0 after
  whole_node = IsNode-edited 0 key value held.entries spells.node name short (λ above. absurd (omega (arith, above))) (some_entries (edited key value held.entries) kept.filled) kept.room

  abbrev Rising : Seen → List Change → Option Splice → Type 0
  Rising end done splice = Rises (reverse held.steps) 0 leaf.at.0 held.entries (Pair key value) seen end [] done splice

  pub plan_few : plan_fills plan ≡ 1
  plan_few = ap (λ (n : ℕ). n + one_filled plan.splice) (ap count_filled kept.writes) ∙ ap (λ (o : Option Splice). 0 + one_filled o) kept.planned

  pub can_splice : CanSplice seen plan
  can_splice =
      let at : kept.splice.at.0 ≡ leaf.at.0 = kept.of_pair.here in
      let node = held.down.node.0 in
      subst (λ (o : Option Splice). IfSome o (Splices seen plan.writes)) (sym kept.planned)
      (subst (λ (ws : List Write). Splices seen ws kept.splice) (sym kept.writes)
      (splices_node seen [] kept.splice 0 held.entries (subst (IsKnown seen) (sym at) held.down.known) (subst (λ (q : ℕ). NodeAt seen.view q 0 held.entries) (sym at) node) refl (ap (spliced kept.splice.delta.cut kept.splice.delta.gone kept.splice.delta.put) (sym spells.spelled) ∙ kept.makes)))

  plans_with : Rising seen (plan_changes plan) plan.splice → IsPlanned root key value seen seen (plan_changes plan) → TouchesOwn root seen seen (plan_changes plan) → Plans root key value seen seen plan
  plans_with rises planned own = record {
    read = seen;
    path = path;
    reads = only_read-refl seen;
    on_path = λ at. inl refl;
    known = known;
    goes = nothing;
    near = none_near root key seen;
    rises = rises;
    planned = planned;
    own = own;
  }

  abbrev root_changes : List Change
  root_changes = (root, Some (node_bytes 0 after)) ∷ []

  abbrev root_fits : RootRebalanced 0 root after seen seen [] root_changes
  root_fits = inl (record { node = whole_node; planned = refl; next = refl })

  -- below a step the leaf fits
  abbrev leaf_fits : (step : Step) → Rebalanced 0 leaf.at.0 after step seen seen changes None
  leaf_fits step = inl (record { filled = kept.filled; room = kept.room; planned = refl; next = refl; nothing = refl; unread = λ at. refl })

  below : (init : List Step) (step : Step) → held.steps ≡ init ++ step ∷ [] → Plans root key value seen seen plan
  below init step is =
      plans_with
      (completes_here Rising held.steps init step 0 leaf.at.0 held.entries (Pair key value) seen seen [] (plan_changes plan) changes is changes_is (completes_begun held.steps 0 leaf.at.0 held.entries (Pair key value) seen refl) plan.splice (leaf_fits step) is_kept)
      (ends seen seen seen root key value held.steps init step 0 leaf.at.0 held.entries after [] (plan_changes plan) changes sound small is climbs changes_is (leaf_fits step) nothing)
      (ends_own seen seen seen root key value held.steps init step 0 leaf.at.0 held.entries after [] (plan_changes plan) changes sound is climbs changes_is (leaf_fits step) nothing)

  pub kept_plans : Plans root key value seen seen plan
  kept_plans = elim (last_of held.steps) [
    | inl none ↦ at_root none
    | inr some ↦ below some.0 some.1 some.2
  ]
    where
      at_root : held.steps ≡ [] → Plans root key value seen seen plan
      at_root none =
          let here : leaf.at.0 ≡ root = root_reached seen seen root key value held.steps 0 leaf.at.0 held.entries after [] none climbs in
          let root_is : plan_changes plan ≡ (root, Some (node_bytes 0 after)) ∷ [] = changes_is ∙ ap (λ (at : ℕ). (at, Some (node_bytes 0 after)) ∷ []) here in
          let written : IsKept root held.entries (Pair key value) [] plan.splice = subst (λ (at : ℕ). IsKept at held.entries (Pair key value) [] plan.splice) here is_kept in
          plans_with
          (completes_root Rising held.steps 0 root leaf.at.0 held.entries (Pair key value) seen seen [] (plan_changes plan) root_changes plan.splice none here root_is (completes_begun held.steps 0 leaf.at.0 held.entries (Pair key value) seen refl) (λ at. refl) root_fits written)
          (roots seen seen seen root key value held.steps 0 leaf.at.0 held.entries after [] (plan_changes plan) root_changes small none climbs root_is root_fits nothing)
          (roots_own seen seen seen root key value held.steps 0 leaf.at.0 held.entries after [] (plan_changes plan) root_changes sound none climbs root_is root_fits nothing)

-- the tree of a leaf is not empty
pub leads_somewhere : (old new : Seen) (root : ℕ) (key : List ℕ) (leaf : Leaf) → OnlyRead old new → HoldsLeaf old root key leaf → new.view root ≡ None → ⊥
leads_somewhere old new root key leaf reads held none =
    let later = ComesDown-later reads held.down in
    let top = first_node new.view later.top root root_bounds held.steps key 0 leaf.at.0 held.bounds held.entries later.descent later.node in
    let clash : Some top.1.0.bytes ≡ None = sym top.1.0.here ∙ none in
    absurd (cc)
