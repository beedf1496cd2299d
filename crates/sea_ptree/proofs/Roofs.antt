-- The root over a tree that a run was laid over.
use Rattle.std.proofs.Common.{◌≡◌, ℕ, zero, suc, ◌+◌, ◌≤◌, ◌<◌, ◌^◌, List, [], ◌∷◌, length, refl, sym, ap, subst, ◌∙◌, arith, inl, inr, append-nil, map-id}
use Rattle.std.specs.FinMap.{entries}
use Rattle.sea_base.specs.declared.place.PRoot.{PRoot}
use Rattle.sea_ptree.specs.declared.kind.Kind.{Kind}
use Rattle.sea_ptree.specs.declared.link.Link.{Link}
use Rattle.sea_ptree.specs.declared.making.Fresh.{Fresh}
use Rattle.sea_ptree.specs.declared.making.Making.{Making}
use Rattle.sea_ptree.specs.Blocks.{Image}
use Rattle.sea_ptree.specs.Fresh.{HasBlocks, AgreeAt}
use Rattle.sea_ptree.specs.Laying.{pairs_laid_over, RunFits}
use Rattle.sea_ptree.specs.Making.{Wrote, Onward, IsMade}
use Rattle.sea_ptree.specs.Mending.{WroteParts, SettlesRoot, RootNone, RootChild}
use Rattle.sea_ptree.specs.Merging.{LeadToOne, LeadToOneFrom, Merges, MergesBelow}
use Rattle.sea_ptree.specs.Node.{Entry}
use Rattle.sea_ptree.specs.Rebuilding.{Exchanges, Rebuilt}
use Rattle.sea_ptree.specs.Run.{Update, laid_over}
use Rattle.sea_ptree.specs.Tree.{Item, link_of, root_link, Holds, Content, IsTree, IsTreeOf, least_of_root}
use Rattle.sea_ptree.proofs.Items.{all_pairs, AllStand}
use Rattle.sea_ptree.proofs.Layings.{laid_lie, laid_fits, laid_slots, laid_entries}
use Rattle.sea_ptree.proofs.Lookups.{held_lie, leaf_pairs}
use Rattle.sea_ptree.proofs.Makings.{has_before, wrote_onward, wrote_exchanges, onward_by, exchanges_as}
use Rattle.sea_ptree.proofs.Mendings.{parts_written, exchanges_none}
use Rattle.sea_ptree.proofs.Merges.{all_stand, no_places, no_items, headed, least_small}
use Rattle.sea_ptree.proofs.Once.{tree_once}
use Rattle.sea_ptree.proofs.Rebuilding.{all_places, AllFit, AllMayStand}
use Rattle.sea_ptree.proofs.Relocations.{renewed_root, root_tree}
use Rattle.sea_ptree.proofs.Rising.{Lie, Lie-rising}

pub parts_onward : (old new : Making) (level : ℕ) (es parts : List Entry) → WroteParts old new level es parts → Onward old new
parts_onward old new level es parts (inl none) = record { kind = ap (λ (m : Making). m.kind) none.same; place = ap (λ (m : Making). m.place) none.same; more = []; nodes = ap (λ (m : Making). m.nodes.items) none.same ∙ sym (append-nil old.nodes.items) }
parts_onward old new level es parts (inr (inl one)) = wrote_onward old new level es one.entry one.wrote
parts_onward old new level es parts (inr (inr two)) = onward_by old two.mid new (wrote_onward old two.mid level _ two.first two.front) (wrote_onward two.mid new level _ two.second two.back)

pub two_parts : (old new : Making) (level : ℕ) (es parts : List Entry) → WroteParts old new level es parts → 145 < length es → length parts ≡ 2
two_parts old new level es parts (inl none) many = absurd (omega (arith, ap length none.none))
two_parts old new level es parts (inr (inl one)) many = absurd (omega (arith, one.room))
two_parts old new level es parts (inr (inr two)) many = ap length two.parts_are

-- a tree below a root, whose places are the old ones exchanged
abbrev Stood : Kind → Image → PRoot → Content → Making → Making → List ℕ → Type 0
Stood kind new root content first made was = (now : List ℕ) × Exchanges first made was now × IsTree kind new root content now

none_left : (kind : Kind) (new : Image) (level : ℕ) (es ps : List Entry) (first old made : Making) (was : List ℕ) (root : PRoot) (content : Content) → Rebuilt kind new level es ps first old was → RootNone old made es root → entries content ≡ ps → Stood kind new root content first made was
none_left kind new level es ps first old made was root content r n is =
    let empty : r.items ≡ [] = no_items level r.items (r.entries_are ∙ n.none) in (
      [],
      subst (λ (m : Making). Exchanges first m was []) (sym n.same) (exchanges_as first old was was (all_places level r.items) [] refl (ap (all_places level) empty) r.exchanges),
      subst (λ (t : PRoot). IsTree kind new t content []) (sym n.root_is) (refl, refl, is ∙ sym r.pairs_are ∙ ap (all_pairs level) empty, refl),
    )

child_left : (kind : Kind) (new : Image) (level : ℕ) (es ps : List Entry) (first old made : Making) (was : List ℕ) (root : PRoot) (content : Content) → Lie 0 (2 ^ 64) ps → Rebuilt kind new level es ps first old was → RootChild old made level es root → entries content ≡ ps → Stood kind new root content first made was
child_left kind new zero es ps first old made was root content lie r c is = absurd (omega (arith, c.above))
child_left kind new (suc level) es ps first old made was root content lie r c is =
    let h = headed (suc level) r.items c.only [] (r.entries_are ∙ c.one) in
    let one : r.items ≡ h.0 ∷ [] = h.2 ∙ ap (λ (ys : List (Item (suc level))). h.0 ∷ ys) (no_items (suc level) h.1 h.4) in
    let ps_are : ps ≡ all_pairs level h.0.1 = sym r.pairs_are ∙ ap (all_pairs (suc level)) one ∙ append-nil (all_pairs level h.0.1) in
    let stands = subst (λ (xs : List (Item (suc level))). AllStand kind new (suc level) xs) one r.stand in
    let leads : h.0.0 ≡ link_of c.only.1 = ap (λ (f : Entry). link_of f.1) h.3 in
    let holds : Holds kind new level h.0.0 h.0.1 = record { node = stands.0.0; stand = stands.0.2; rising = Lie-rising 0 (2 ^ 64) (all_pairs level h.0.1) (subst (Lie 0 (2 ^ 64)) ps_are lie) } in
    let places_are : all_places (suc level) r.items ≡ h.0.0.at.0 ∷ all_places level h.0.1 = ap (all_places (suc level)) one ∙ append-nil (h.0.0.at.0 ∷ all_places level h.0.1) in
    let tree : IsTreeOf kind new (suc level) h.0.0 content (h.0.0.at.0 ∷ all_places level h.0.1) = (h.0.1, holds, omega (arith, least_small level, stands.0.1), is ∙ ps_are, refl) in (
      h.0.0.at.0 ∷ all_places level h.0.1,
      subst (λ (m : Making). Exchanges first m was (h.0.0.at.0 ∷ all_places level h.0.1)) (sym c.same) (exchanges_as first old was was (all_places (suc level) r.items) (h.0.0.at.0 ∷ all_places level h.0.1) refl places_are r.exchanges),
      subst (λ (t : PRoot). IsTree kind new t content (h.0.0.at.0 ∷ all_places level h.0.1)) (sym c.root_is) (subst (λ (l : Link). IsTreeOf kind new (suc level) l content (h.0.0.at.0 ∷ all_places level h.0.1)) leads tree),
    )

root_written : (kind : Kind) (new : Image) (level height place : ℕ) (es ps : List Entry) (first old made : Making) (was : List ℕ) (e : Entry) (root : PRoot) (content : Content) → Lie 0 (2 ^ 64) ps → Rebuilt kind new level es ps first old was → Wrote old made level es e → root ≡ record { at = e.1.at; height = height; sum = e.1.sum } → height ≡ suc level
    → old.kind ≡ kind → place ≡ old.place → HasBlocks new place made.nodes.items → level ≤ 7 → least_of_root level ≤ length es → 1 ≤ length es → length es ≤ 145 → entries content ≡ ps → Stood kind new root content first made was
root_written kind new level height place es ps first old made was e root content lie r wrote root_is height_is same at has low least some room is =
    let now = e.1.at.0 ∷ all_places level r.items in
    let tree = root_tree kind new level place es ps first old made was e content lie r wrote same at has low least some room is in (
      e.1.at.0 ∷ all_places level r.items,
      wrote_exchanges first old made level es e was (all_places level r.items) wrote r.exchanges,
      subst (λ (t : PRoot). IsTree kind new t content (e.1.at.0 ∷ all_places level r.items)) (sym root_is) (subst (λ (h : ℕ). IsTreeOf kind new h (link_of e.1) content (e.1.at.0 ∷ all_places level r.items)) (sym height_is) tree),
    )

pub settled_root : (kind : Kind) (new : Image) (level place : ℕ) (es ps : List Entry) (first old made : Making) (was : List ℕ) (root : PRoot) (content : Content) → Lie 0 (2 ^ 64) ps → Rebuilt kind new level es ps first old was → SettlesRoot old made level es root → old.kind ≡ kind → place ≡ old.place
    → HasBlocks new place made.nodes.items → level ≤ 7 → length es ≤ 209 → entries content ≡ ps → Stood kind new root content first made was
settled_root kind new level place es ps first old made was root content lie r (inl none) same at has low room is = none_left kind new level es ps first old made was root content r none is
settled_root kind new level place es ps first old made was root content lie r (inr (inl child)) same at has low room is = child_left kind new level es ps first old made was root content lie r child is
settled_root kind new level place es ps first old made was root content lie r (inr (inr (inl w))) same at has low room is =
    root_written kind new level (level + 1) place es ps first old made was w.entry root content lie r w.wrote w.root_is (omega arith) same at has low w.least w.some w.room is
settled_root kind new level place es ps first old made was root content lie r (inr (inr (inr s))) same at has low room is =
    let onward = parts_onward old s.mid level es s.parts s.halves in
    let wrote = subst (λ (l : ℕ). Wrote s.mid made l s.parts s.entry) (omega arith) s.wrote in
    let up = parts_written kind new level place es ps s.parts first old s.mid was lie r s.halves same at (has_before s.mid made new place (wrote_onward s.mid made (suc level) s.parts s.entry wrote) has) low (omega (arith, s.many)) room in
    let two = two_parts old s.mid level es s.parts s.halves s.many in
    root_written kind new (suc level) (level + 2) place s.parts ps first s.mid made was s.entry root content lie up wrote s.root_is (omega arith) (onward.kind ∙ same) (at ∙ sym onward.place) has (omega (arith, s.low)) (omega (arith, two)) (omega (arith, two)) (omega (arith, two)) is

pub merged : (kind : Kind) (image : Image) (level place : ℕ) (root : PRoot) (link : Link) (run : List Update) (es : List Entry) (new_root : PRoot) (fresh : Fresh) (first old made : Making) → suc level ≡ root.height → level ≤ 7 → first.kind ≡ kind → first.place ≡ place → first.nodes.items ≡ [] → first.dead.items ≡ [] → link ≡ root_link root
    → MergesBelow first.kind image level link run first old es → RunFits run → length es ≤ 209 → Onward first old → SettlesRoot old made level es new_root → Onward old made → IsMade made new_root fresh → Merges kind image root place run fresh
merged kind image level place root link run es new_root fresh first old made is low same at_first no_nodes no_dead link_is merges fits room onward settles onward' is_made content places_of tree lead may new agree has =
    let t = subst (λ (l : Link). IsTreeOf kind image (suc level) l content places_of) (sym link_is) (subst (λ (h : ℕ). IsTreeOf kind image h (root_link root) content places_of) (sym is) tree) in
    let lead' : LeadToOne kind image level link run = subst (λ (l : Link). LeadToOne kind image level l run) (sym link_is) (subst (λ (h : ℕ). LeadToOneFrom kind image h (root_link root) run) (sym is) lead) in
    let agree' = (subst (AgreeAt image new) t.4 agree).1 in
    let has' = subst (λ n. HasBlocks new n made.nodes.items) (sym at_first) (subst (HasBlocks new place) is_made.nodes has) in
    let merges' = subst (λ (k : Kind). MergesBelow k image level link run first old es) same merges in
    let r = merges' t.0 t.1 t.2 lead' may new agree' (has_before old made new first.place onward' has') in
    let lie = laid_lie run (all_pairs level t.0) fits (held_lie kind image level link t.0 t.1) in
    let entries_are = laid_entries run content ∙ ap (pairs_laid_over run) t.3 in
    let s = settled_root kind new level first.place es (pairs_laid_over run (all_pairs level t.0)) first old made (link.at.0 ∷ all_places level t.0) new_root (laid_over run content) lie r settles (onward.kind ∙ same) (sym onward.place) has' low room entries_are in
    renewed_root kind new new_root fresh first made (laid_over run content) places_of s.0 place (tree_once kind image root.height (root_link root) content places_of tree) at_first no_nodes no_dead (onward'.place ∙ onward.place ∙ at_first) is_made (subst (λ (ps : List ℕ). Exchanges first made ps s.0) (sym t.4) s.1) s.2

-- a run over the empty tree
pub merged_none : (kind : Kind) (image : Image) (place : ℕ) (root : PRoot) (run : List Update) (es : List Entry) (new_root : PRoot) (fresh : Fresh) (first made : Making) → root.height ≡ 0 → first.kind ≡ kind → first.place ≡ place → first.nodes.items ≡ [] → first.dead.items ≡ []
    → es ≡ pairs_laid_over run [] → RunFits run → length es ≤ 209 → SettlesRoot first made 0 es new_root → Onward first made → IsMade made new_root fresh → Merges kind image root place run fresh
merged_none kind image place root run es new_root fresh first made is same at_first no_nodes no_dead es_are fits room settles onward is_made content places_of tree lead may new agree has =
    let t = subst (λ (h : ℕ). IsTreeOf kind image h (root_link root) content places_of) is tree in
    let has' = subst (λ n. HasBlocks new n made.nodes.items) (sym at_first) (subst (HasBlocks new place) is_made.nodes has) in
    let r : Rebuilt kind new 0 es es first first [] = record {
      items = es;
      entries_are = map-id es;
      stand = all_stand kind new es;
      fits = subst AllFit (sym es_are) (laid_fits run [] fits tt);
      slots = subst (AllMayStand kind 0) (sym es_are) (laid_slots kind run [] may tt);
      pairs_are = leaf_pairs es;
      exchanges = exchanges_as first first [] [] [] (all_places 0 es) refl (sym (no_places es)) (exchanges_none first []);
    } in
    let lie : Lie 0 (2 ^ 64) es = subst (Lie 0 (2 ^ 64)) (sym es_are) (laid_lie run [] fits (omega arith)) in
    let entries_are : entries (laid_over run content) ≡ es = laid_entries run content ∙ ap (pairs_laid_over run) t.2 ∙ sym es_are in
    let s = settled_root kind new 0 first.place es es first first made [] new_root (laid_over run content) lie r settles same refl has' (omega arith) room entries_are in
    renewed_root kind new new_root fresh first made (laid_over run content) places_of s.0 place (tree_once kind image root.height (root_link root) content places_of tree) at_first no_nodes no_dead (onward.place ∙ at_first) is_made (subst (λ (ps : List ℕ). Exchanges first made ps s.0) (sym t.3) s.1) s.2
