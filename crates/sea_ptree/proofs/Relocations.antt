-- One node written anew, step by step up to the root.
use Rattle.std.proofs.Common.{◌≡◌, ℕ, suc, ◌+◌, ◌≤◌, ◌<◌, ◌^◌, List, [], ◌∷◌, ◌++◌, length, get_or, set, take, drop, refl, sym, ap, subst, ◌∙◌, arith, IsTrue, append-nil, take-append-drop}
use Rattle.std.proofs.lemmas.List.{length-map, take_more, drop_more, set_split}
use Rattle.std.proofs.lemmas.List.Concat.{flat_map-append}
use Rattle.std.specs.FinMap.{entries}
use Rattle.sea_base.specs.declared.place.PRoot.{PRoot}
use Rattle.sea_base.specs.declared.place.Paddr.{Paddr}
use Rattle.sea_ptree.specs.declared.fault.PFault.{PFault}
use Rattle.sea_ptree.specs.declared.kind.Kind.{Kind}
use Rattle.sea_ptree.specs.declared.link.Link.{Link}
use Rattle.sea_ptree.specs.declared.making.Fresh.{Fresh}
use Rattle.sea_ptree.specs.declared.making.Making.{Making}
use Rattle.sea_ptree.specs.Blocks.{Image, Held, Keeps}
use Rattle.sea_ptree.specs.Faults.{IsFaultBelow}
use Rattle.sea_ptree.specs.Fresh.{HasBlocks, AgreeAt, Renewed, times, numbers, places_from}
use Rattle.sea_ptree.specs.Making.{Took, Wrote, Onward, IsMade}
use Rattle.sea_ptree.specs.Node.{Entry}
use Rattle.sea_ptree.specs.Rebuilding.{Exchanges, Rebuilt, Rebuilds}
use Rattle.sea_ptree.specs.Tree.{Item, pairs, places, entry_of, link_of, root_link, NodeAt, Holds, Has, Content, IsTree, IsTreeOf, least_of_root}
use Rattle.sea_ptree.proofs.Checks.{Next}
use Rattle.sea_ptree.proofs.Guiding.{one_node}
use Rattle.sea_ptree.proofs.Items.{all_pairs, AllStand, all_pairs-parts, picked}
use Rattle.sea_ptree.proofs.Lookups.{held_lie, item_held, stands_at}
use Rattle.sea_ptree.proofs.Makings.{has_before, wrote_onward, wrote_exchanges}
use Rattle.sea_ptree.proofs.Once.{tree_once}
use Rattle.sea_ptree.proofs.Reaching.{fault_step}
use Rattle.sea_ptree.proofs.Rebuilding.{all_places, entries_of, all_front, all_back, taken, written, node_written, rebuilt_as, after_taken, around}
use Rattle.sea_ptree.proofs.Rising.{Lie, Lie-split, Lie-rising}

-- the entry at an index
pub next_there : (es : List Entry) (index : ℕ) (d : Entry) → index < length es → Next es index (get_or es index d)
next_there es index d lt = record {
  more = take_more es index d lt;
  rest = drop_more es index d lt;
}

pub split_at : (es : List Entry) (index : ℕ) (e : Entry) → Next es index e → es ≡ take index es ++ e ∷ drop (index + 1) es
split_at es index e next = sym (take-append-drop index es) ∙ ap (λ (r : List Entry). take index es ++ r) next.rest

-- why a child was not done is why its parent was not
pub fault_up : (kind kind' : Kind) (old mid new : Held) (up level : ℕ) (link child : Link) (es : List Entry) (e : Entry) (fault : PFault) → kind' ≡ kind → suc level ≡ up → child ≡ link_of e.1 → Keeps old mid × (mid.faults ≡ old.faults)
    → (IsTrue old.tells → NodeAt kind old.image up link es) → Has es e → IsFaultBelow Has kind' mid new level child fault → IsFaultBelow Has kind old new up link fault
fault_up kind kind' old mid new up level link child es e fault same is leads_to kept node has below =
    fault_step Has kind old mid new up level link child es e fault is leads_to kept.0 kept.1 node has (subst (λ (k : Kind). IsFaultBelow Has k mid new level child fault) same below)

-- a child written anew, and its entry put in place of the old one
step : (kind : Kind) (image : Image) (level : ℕ) (link : Link) (es below : List Entry) (index : ℕ) (e e' : Entry) (m0 m1 m2 m3 : Making) → NodeAt kind image (suc level) link es → Next es index e → Took m0 m1 link.at → Rebuilds kind image level (link_of e.1) m1 m2 (λ ps. ps) below
    → ((fs : List Entry) → NodeAt kind image level (link_of e.1) fs → length below ≡ length fs) → Onward m1 m2 → Wrote m2 m3 level below e' → m1.kind ≡ kind → level ≤ 7 → Rebuilds kind image (suc level) link m0 m3 (λ ps. ps) (take index es ++ (e' ∷ [] ++ drop (index + 1) es))
step kind image level link es below index e e' m0 m1 m2 m3 node next took rebuilds same onward wrote kind_is fits items holds new agree has =
    let p = picked (suc level) items (take index es) e (drop (index + 1) es) (one_node kind image (suc level) link (entries_of (suc level) items) es holds.node node ∙ split_at es index e next) in
    let x : Item (suc level) = p.item in
    let all = subst (AllStand kind image (suc level)) p.split holds.stand in
    let lie = subst (λ (xs : List (Item (suc level))). Lie 0 (2 ^ 64) (all_pairs (suc level) xs)) p.split (held_lie kind image (suc level) link items holds) in
    let apart = Lie-split 0 (2 ^ 64) (all_pairs (suc level) p.front) (pairs (suc level) x ++ all_pairs (suc level) p.back) (subst (Lie 0 (2 ^ 64)) (all_pairs-parts (suc level) p.front x p.back) lie) in
    let here = Lie-split apart.mid (2 ^ 64) (pairs (suc level) x) (all_pairs (suc level) p.back) apart.back in
    let stands = stands_at kind image (suc level) p.front x p.back all in
    let child = item_held kind image level x apart.mid here.mid stands here.front in
    let leads : x.0 ≡ link_of e.1 = ap (λ (f : Entry). link_of f.1) p.item_is in
    let child' = subst (λ (l : Link). Holds kind image level l x.1) leads child in
    let agree' = subst (AgreeAt image new) (flat_map-append (places (suc level)) p.front (x ∷ p.back)) (subst (λ (xs : List (Item (suc level))). AgreeAt image new (all_places (suc level) xs)) p.split agree) in
    let agree_x = all_front (λ (at : ℕ). new at ≡ image at) (places (suc level) x) (all_places (suc level) p.back) (all_back (λ (at : ℕ). new at ≡ image at) (all_places (suc level) p.front) (places (suc level) x ++ all_places (suc level) p.back) agree') in
    let has2 = subst (λ n. HasBlocks new n m2.nodes.items) (sym took.place) (has_before m2 m3 new m0.place (wrote_onward m2 m3 level below e' wrote) has) in
    let r = rebuilds x.1 child' new agree_x.1 has2 in
    let r' = subst (λ (l : Link). Rebuilt kind new level below (all_pairs level x.1) m1 m2 (l.at.0 ∷ all_places level x.1)) (sym leads) r in
    let len : length below ≡ length x.1 = same (entries_of level x.1) child'.node ∙ length-map x.1 (entry_of level) in
    let room : length x.1 ≤ 145 = omega (arith, child.node.spells.node.room, length-map x.1 (entry_of level)) in
    let w = written kind new level apart.mid here.mid m0.place below (all_pairs level x.1) m1 m2 m3 (places (suc level) x) e' here.front r' wrote (onward.kind ∙ kind_is) (sym took.place ∙ sym onward.place) has fits (omega (arith, len, stands.1)) (omega (arith, len, room)) in
    let w' = rebuilt_as kind new (suc level) (e' ∷ []) (e' ∷ []) (all_pairs level x.1) (all_pairs level x.1) m1 m3 (places (suc level) x) (all_places (suc level) (x ∷ [])) refl refl (sym (append-nil (places (suc level) x))) w in
    let whole = around kind image new (suc level) items p.front (x ∷ []) p.back (e' ∷ []) (all_pairs level x.1) m1 m3 p.split holds.stand agree holds.node.spells.node.fits holds.node.spells.node.slots w' in
    after_taken kind new (suc level) (take index es ++ (e' ∷ [] ++ drop (index + 1) es)) (all_pairs (suc level) items) m0 m1 m3 link.at (all_places (suc level) items) took
    (rebuilt_as kind new (suc level) (entries_of (suc level) p.front ++ (e' ∷ [] ++ entries_of (suc level) p.back)) (take index es ++ (e' ∷ [] ++ drop (index + 1) es)) (all_pairs (suc level) p.front ++ (all_pairs level x.1 ++ all_pairs (suc level) p.back)) (all_pairs (suc level) items)
    m1 m3 (all_places (suc level) items) (all_places (suc level) items) (λ i. p.front_is i ++ (e' ∷ [] ++ p.back_is i)) (sym (ap (all_pairs (suc level)) p.split ∙ all_pairs-parts (suc level) p.front x p.back)) refl whole)

-- the same as the code has it
pub step_up : (old mid : Held) (up level : ℕ) (link child : Link) (es below : List Entry) (index : ℕ) (e e' : Entry) (m0 m1 m2 m3 : Making) → suc level ≡ up → Keeps old mid × (mid.faults ≡ old.faults) → child ≡ link_of e.1 → NodeAt m0.kind old.image up link es → Next es index e → Took m0 m1 link.at
    → Rebuilds m1.kind mid.image level child m1 m2 (λ ps. ps) below → ((fs : List Entry) → NodeAt m1.kind mid.image level child fs → length below ≡ length fs) → Onward m1 m2 → Wrote m2 m3 level below e' → level ≤ 7
    → Rebuilds m0.kind old.image up link m0 m3 (λ ps. ps) (take index es ++ (e' ∷ [] ++ drop (index + 1) es))
step_up old mid up level link child es below index e e' m0 m1 m2 m3 is kept leads node next took rebuilds same onward wrote fits =
    let E = take index es ++ (e' ∷ [] ++ drop (index + 1) es) in
    let rebuilds' = subst (λ (l : Link). Rebuilds m0.kind old.image level l m1 m2 (λ ps. ps) below) leads (subst (λ (i : Image). Rebuilds m0.kind i level child m1 m2 (λ ps. ps) below) kept.0.image (subst (λ (k : Kind). Rebuilds k mid.image level child m1 m2 (λ ps. ps) below) took.kind rebuilds)) in
    let same' = subst (λ (l : Link). (fs : List Entry) → NodeAt m0.kind old.image level l fs → length below ≡ length fs) leads (subst (λ (i : Image). (fs : List Entry) → NodeAt m0.kind i level child fs → length below ≡ length fs) kept.0.image (subst (λ (k : Kind). (fs : List Entry) → NodeAt k mid.image level child fs → length below ≡ length fs) took.kind same)) in
    subst (λ (l : ℕ). Rebuilds m0.kind old.image l link m0 m3 (λ ps. ps) E) is
    (step m0.kind old.image level link es below index e e' m0 m1 m2 m3 (subst (λ (l : ℕ). NodeAt m0.kind old.image l link es) (sym is) node) next took rebuilds' same' onward wrote took.kind fits)

-- ---- the root

-- what was made under a root, and the tree that stands there
pub renewed_root : (kind : Kind) (new : Image) (root : PRoot) (fresh : Fresh) (first made : Making) (content : Content) (old is : List ℕ) (place : ℕ) → ((at : ℕ) → times at old ≤ 1) → first.place ≡ place → first.nodes.items ≡ [] → first.dead.items ≡ [] → made.place ≡ place → IsMade made root fresh → Exchanges first made old is → IsTree kind new root content is → Renewed kind new fresh place content old
renewed_root kind new root fresh first made content old is place once at_first no_nodes no_dead at_made is_made exchanges tree =
    let dead : numbers made.dead.items ≡ numbers fresh.dead = ap numbers (sym is_made.dead) in
    let count : length made.nodes.items ≡ length fresh.nodes = ap length (sym is_made.nodes) in
    record {
      places = is;
      tree = subst (λ (r : PRoot). IsTree kind new r content is) (sym is_made.root_is) tree;
      exchanged = λ at. omega (arith, exchanges.balance at, ap (times at) dead, fresh_now at, none_dead at, none_fresh at);
      dead = λ at. omega (arith, exchanges.dead at, ap (times at) dead, none_dead at);
      once = λ at. (tree_once kind new root.height (root_link root) content is tree at, omega (arith, exchanges.dead at, ap (times at) dead, none_dead at, once at));
      exact = λ at apart. (
        (
          λ gone. (omega (arith, gone, exchanges.dead at, ap (times at) dead, none_dead at), omega (arith, gone, apart, exchanges.balance at, exchanges.dead at, ap (times at) dead, fresh_now at, none_dead at, none_fresh at)),
          λ lost. omega (arith, lost.0, lost.1, apart, exchanges.balance at, ap (times at) dead, fresh_now at, none_dead at, none_fresh at),
        ),
        λ fresh_one. omega (arith, fresh_one, apart, exchanges.balance at, exchanges.dead at, ap (times at) dead, fresh_now at, none_dead at, none_fresh at),
      );
    }
  where
    fresh_now : (at : ℕ) → times at (places_from made.place (length made.nodes.items)) ≡ times at (places_from place (length fresh.nodes))
    fresh_now at = λ i. times at (places_from (at_made i) (length (sym is_made.nodes i)))

    none_dead : (at : ℕ) → times at (numbers first.dead.items) ≡ 0
    none_dead at = ap (λ (ds : List Paddr). times at (numbers ds)) no_dead

    none_fresh : (at : ℕ) → times at (places_from first.place (length first.nodes.items)) ≡ 0
    none_fresh at = ap (λ (ns : List (List ℕ)). times at (places_from first.place (length ns))) no_nodes

-- a tree below a root that was written
pub root_tree : (kind : Kind) (new : Image) (level place : ℕ) (es ps : List Entry) (first old made : Making) (was : List ℕ) (e : Entry) (content : Content) → Lie 0 (2 ^ 64) ps → (r : Rebuilt kind new level es ps first old was) → Wrote old made level es e → old.kind ≡ kind → place ≡ old.place
    → HasBlocks new place made.nodes.items → level ≤ 7 → least_of_root level ≤ length es → 1 ≤ length es → length es ≤ 145 → entries content ≡ ps → IsTreeOf kind new (suc level) (link_of e.1) content (e.1.at.0 ∷ all_places level r.items)
root_tree kind new level place es ps first old made was e content lie r wrote same at has fits least some room is = (
  r.items,
  record {
    node = node_written kind new level 0 (2 ^ 64) place es ps first old made was e lie r wrote same at has fits some room;
    stand = r.stand;
    rising = Lie-rising 0 (2 ^ 64) (all_pairs level r.items) (subst (Lie 0 (2 ^ 64)) (sym r.pairs_are) lie);
  },
  omega (arith, ap length r.entries_are, length-map r.items (entry_of level)),
  is ∙ sym r.pairs_are,
  refl,
)

pub relocated : (kind kind' : Kind) (image : Image) (height level place : ℕ) (root : PRoot) (link : Link) (es : List Entry) (e : Entry) (fresh : Fresh) (first old made : Making) → suc level ≡ root.height → level ≤ 7 → kind' ≡ kind → first.place ≡ place → first.nodes.items ≡ [] → first.dead.items ≡ [] → link ≡ root_link root
    → Rebuilds kind' image level link first old (λ ps. ps) es → ((fs : List Entry) → NodeAt kind' image level link fs → length es ≡ length fs) → Onward first old → Wrote old made level es e → IsMade made (record { at = e.1.at; height = root.height; sum = e.1.sum }) fresh → first.kind ≡ kind
    → (content : Content) (places_of : List ℕ) → IsTree kind image root content places_of → (new : Image) → AgreeAt image new places_of → HasBlocks new place fresh.nodes → Renewed kind new fresh place content places_of
relocated kind kind' image height level place root link es e fresh first old made is fits same at_first no_nodes no_dead link_is rebuilds len onward wrote is_made first_kind content places_of tree new agree has =
    let t = subst (λ (h : ℕ). IsTreeOf kind image h (root_link root) content places_of) (sym is) tree in
    let t' = subst (λ (l : Link). IsTreeOf kind image (suc level) l content places_of) (sym link_is) t in
    let items : List (Item level) = t'.0 in
    let holds = t'.1 in
    let agree' = (subst (AgreeAt image new) t'.4 agree).1 in
    let has' = subst (λ n. HasBlocks new n made.nodes.items) (sym at_first) (subst (HasBlocks new place) is_made.nodes has) in
    let rebuilds' = subst (λ (k : Kind). Rebuilds k image level link first old (λ ps. ps) es) same rebuilds in
    let len' = subst (λ (k : Kind). (fs : List Entry) → NodeAt k image level link fs → length es ≡ length fs) same len in
    let r = rebuilds' items holds new agree' (has_before old made new first.place (wrote_onward old made level es e wrote) has') in
    let count : length es ≡ length items = len' (entries_of level items) holds.node ∙ length-map items (entry_of level) in
    let node = holds.node.spells.node in
    let tree' = root_tree kind new level first.place es (all_pairs level items) first old made (link.at.0 ∷ all_places level items) e content (held_lie kind image level link items holds) r wrote (onward.kind ∙ first_kind) (sym onward.place) has' fits (omega (arith, t'.2, count)) (omega (arith, count, node.some, length-map items (entry_of level))) (omega (arith, count, node.room, length-map items (entry_of level))) t'.3 in
    let at_made : made.place ≡ place = wrote.place ∙ onward.place ∙ at_first in
    renewed_root kind new (record { at = e.1.at; height = root.height; sum = e.1.sum }) fresh first made content places_of (e.1.at.0 ∷ all_places level r.items) place (tree_once kind image root.height (root_link root) content places_of tree) at_first no_nodes no_dead at_made is_made
    (subst (λ (ps : List ℕ). Exchanges first made ps (e.1.at.0 ∷ all_places level r.items)) (sym t'.4) (wrote_exchanges first old made level es e (link.at.0 ∷ all_places level items) (all_places level r.items) wrote r.exchanges))
    (subst (λ (h : ℕ). IsTreeOf kind new h (link_of e.1) content (e.1.at.0 ∷ all_places level r.items)) is tree')

-- a node that is read, and goes
pub taken_up : (kind : Kind) (image : Image) (level : ℕ) (link : Link) (es : List Entry) (m0 m1 : Making) → NodeAt kind image level link es → Took m0 m1 link.at → Rebuilds kind image level link m0 m1 (λ ps. ps) es
taken_up kind image level link es m0 m1 node took items holds new agree has =
    rebuilt_as kind new level (entries_of level items) es (all_pairs level items) (all_pairs level items) m0 m1 (link.at.0 ∷ all_places level items) (link.at.0 ∷ all_places level items) (one_node kind image level link (entries_of level items) es holds.node node) refl refl
    (taken kind image new level link items m0 m1 holds took agree)

-- one entry in place of another
pub put_at : (es : List Entry) (index : ℕ) (e' : Entry) → index < length es → take index es ++ (e' ∷ [] ++ drop (index + 1) es) ≡ set es index e'
put_at es index e' lt = let e : index + 1 ≡ suc index = omega arith in ap (λ n. take index es ++ (e' ∷ drop n es)) e ∙ sym (set_split es index e' lt)
