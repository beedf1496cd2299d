-- A run laid over a tree, step by step up to the root.
use Rattle.std.proofs.Common.{◌≡◌, ℕ, zero, suc, ◌+◌, ◌≤◌, ◌<◌, ◌^◌, List, [], ◌∷◌, ◌++◌, length, take, drop, refl, sym, ap, subst, ◌∙◌, arith, inl, inr, append_assoc, append-nil, length-append, map-id, IsTrue}
use Rattle.std.specs.Prelude.{◌⊎◌}
use Rattle.std.specs.List.{AllByRecursion}
use Rattle.std.proofs.lemmas.List.{length-map}
use Rattle.std.proofs.lemmas.List.Concat.{flat_map-append}
use Rattle.sea_ptree.specs.declared.kind.Kind.{Kind}
use Rattle.sea_ptree.specs.declared.link.Link.{Link}
use Rattle.sea_ptree.specs.declared.making.Making.{Making}
use Rattle.sea_ptree.specs.declared.fault.PFault.{PFault}
use Rattle.sea_ptree.specs.Blocks.{Image, Held, Keeps}
use Rattle.sea_ptree.specs.Faults.{IsFaultBelow}
use Rattle.sea_ptree.specs.Fresh.{HasBlocks, AgreeAt}
use Rattle.sea_ptree.specs.Laying.{pairs_laid_over, RunFits}
use Rattle.sea_ptree.specs.Making.{Took, Onward}
use Rattle.sea_ptree.specs.Mending.{IsAlone, IsWithRight, IsWithLeft, IsFaultNear, Gathered, IsSettled, WroteParts}
use Rattle.sea_ptree.specs.Merging.{Towards, LeadToOne, MergesBelow, first_key}
use Rattle.sea_ptree.specs.Node.{Entry, IsRising}
use Rattle.sea_ptree.specs.Rebuilding.{Rebuilt}
use Rattle.sea_ptree.specs.Run.{Update}
use Rattle.sea_ptree.specs.Tree.{Item, pairs, places, entry_of, link_of, NodeAt, Stands, Has, Holds, IsBelowNext, least_of_root}
use Rattle.sea_ptree.specs.View.{Parts}
use Rattle.sea_ptree.proofs.Checks.{Next}
use Rattle.sea_ptree.proofs.Guiding.{one_node, node_rising}
use Rattle.sea_ptree.proofs.Items.{all_pairs, AllStand, AllUnder, AllAbove, IsToward, Parted, all_pairs-parts, parted, picked}
use Rattle.sea_ptree.proofs.Layings.{laid_within, laid_lie, laid_fits, laid_slots}
use Rattle.sea_ptree.proofs.Lookups.{held_lie, item_held, leaf_pairs, stands_at}
use Rattle.sea_ptree.proofs.Makings.{has_before, took_exchanges, exchanges_as}
use Rattle.sea_ptree.proofs.Mendings.{parts_written, beside, before}
use Rattle.sea_ptree.proofs.Reaching.{fault_here}
use Rattle.sea_ptree.proofs.Rebuilding.{all_places, entries_of, AllFit, AllMayStand, all_front, all_back, taken, rebuilt_as, after_taken, around}
use Rattle.sea_ptree.proofs.Relocations.{split_at, fault_up}
use Rattle.sea_ptree.proofs.Rising.{Lie, Lie-split, Lie-weaker, Lie-bounds}

-- ---- where keys lead

parts_one : (key : ℕ) (es : List Entry) (c d : ℕ) → Parts key es c → Parts key es d → c ≡ d
parts_one key es zero zero p q = refl
parts_one key [] zero (suc d) p q = absurd (omega (arith, q.within))
parts_one key [] (suc c) d p q = absurd (omega (arith, p.within))
parts_one key (e ∷ es) zero (suc d) p q = absurd (omega (arith, p.next, q.upto.0))
parts_one key (e ∷ es) (suc c) zero p q = absurd (omega (arith, q.next, p.upto.0))
parts_one key (e ∷ es) (suc c) (suc d) p q =
    ap suc (parts_one key es c d (record { within = omega (arith, p.within); upto = p.upto.1; next = p.next }) (record { within = omega (arith, q.within); upto = q.upto.1; next = q.next }))

pub towards_one : (key : ℕ) (es : List Entry) (i j : ℕ) → Towards key es i → Towards key es j → i ≡ j
towards_one key es i j t u = let same = parts_one key es t.count u.count t.parts u.parts in omega (arith, t.index_is, u.index_is, same)

-- the entry that a key leads to, and the one behind it
toward_here : (key index : ℕ) (es : List Entry) (e : Entry) → Towards key es index → Next es index e → Lie 0 (2 ^ 64) es → ((index ≡ 0) ⊎ (e.0 ≤ key)) × IsBelowNext key (drop (index + 1) es)
toward_here key index es e t next lie = by t.count refl
  where
    behind : (rest : List Entry) → Lie (e.0 + 1) (2 ^ 64) rest → key < e.0 → IsBelowNext key rest
    behind [] lie lt = tt
    behind (f ∷ rest) lie lt = omega (arith, lie.0)

    by : (n : ℕ) → t.count ≡ n → ((index ≡ 0) ⊎ (e.0 ≤ key)) × IsBelowNext key (drop (index + 1) es)
    by zero is =
        let none : index ≡ 0 = omega (arith, t.index_is, is) in
        let all : es ≡ e ∷ drop (index + 1) es = subst (λ (i : ℕ). drop i es ≡ e ∷ drop (index + 1) es) none next.rest in
        let first : IsBelowNext key es = subst (λ (n : ℕ). IsBelowNext key (drop n es)) is t.parts.next in
        let lt : key < e.0 = subst (IsBelowNext key) all first in
        (inl none, behind (drop (index + 1) es) (subst (Lie 0 (2 ^ 64)) all lie).1 lt)
    by (suc n) is =
        let one : t.count ≡ index + 1 = omega (arith, t.index_is, is) in
        let upto = subst (λ (n : ℕ). AllByRecursion (λ (f : Entry). f.0 ≤ key) (take n es)) one t.parts.upto in
        let upto' = subst (AllByRecursion (λ (f : Entry). f.0 ≤ key)) next.more upto in
        (inr (all_back (λ (f : Entry). f.0 ≤ key) (take index es) (e ∷ []) upto').0, subst (λ (n : ℕ). IsBelowNext key (drop n es)) one t.parts.next)

-- what stands before and behind the item that a key leads to
toward_parted : (kind : Kind) (image : Image) (level key index : ℕ) (items front : List (Item level)) (x : Item level) (back : List (Item level)) (es : List Entry) (e : Entry) → items ≡ front ++ x ∷ back → entries_of level front ≡ take index es → entry_of level x ≡ e → entries_of level back ≡ drop (index + 1) es
    → AllStand kind image level items → Lie 0 (2 ^ 64) (all_pairs level items) → Lie 0 (2 ^ 64) es → Towards key es index → Next es index e → Parted key level front x back
toward_parted kind image level key index items front x back es e split front_is x_is back_is all lie rising t next =
    let here = toward_here key index es e t next rising in
    parted kind image level key 0 (2 ^ 64) front x back (subst (AllStand kind image level) split all) (subst (λ (xs : List (Item level)). Lie 0 (2 ^ 64) (all_pairs level xs)) split lie)
    (toward front front_is here.0) (subst (IsBelowNext key) (sym back_is) here.1)
  where
    toward : (bs : List (Item level)) → entries_of level bs ≡ take index es → ((index ≡ 0) ⊎ (e.0 ≤ key)) → IsToward level key bs x
    toward [] is h = tt
    toward (b ∷ bs) is (inl none) = let no : entry_of level b ∷ entries_of level bs ≡ [] = is ∙ ap (λ (i : ℕ). take i es) none in absurd cc
    toward (b ∷ bs) is (inr le) = subst (λ (f : Entry). f.0 ≤ key) (sym x_is) le

-- ---- the run and the parts of a node

record Split (kind : Kind) (image : Image) (level : ℕ) (run : List Update) (items : List (Item level)) (index : ℕ) (es : List Entry) (e : Entry) : Type 0 where
  front : List (Item level)
  item : Item level
  back : List (Item level)
  split : items ≡ front ++ item ∷ back
  front_is : entries_of level front ≡ take index es
  item_is : entry_of level item ≡ e
  back_is : entries_of level back ≡ drop (index + 1) es
  laid : pairs_laid_over run (all_pairs level items) ≡ all_pairs level front ++ (pairs_laid_over run (pairs level item) ++ all_pairs level back)
  stands : Stands kind image level item

split_run : (kind : Kind) (image : Image) (level : ℕ) (link : Link) (run : List Update) (items : List (Item level)) (index : ℕ) (es : List Entry) (e : Entry) → Holds kind image level link items → NodeAt kind image level link es → Next es index e → AllByRecursion (λ u. Towards u.0 es index) run → Split kind image level run items index es e
split_run kind image level link run items index es e holds node next towards =
    let p = picked level items (take index es) e (drop (index + 1) es) (one_node kind image level link (entries_of level items) es holds.node node ∙ split_at es index e next) in
    let lie = held_lie kind image level link items holds in
    let each : (key : ℕ) → Towards key es index → Parted key level p.front p.item p.back = λ key t. toward_parted kind image level key index items p.front p.item p.back es e p.split p.front_is p.item_is p.back_is holds.stand lie (node_rising kind image level link es node) t next in
    record {
      front = p.front;
      item = p.item;
      back = p.back;
      split = p.split;
      front_is = p.front_is;
      item_is = p.item_is;
      back_is = p.back_is;
      laid = ap (pairs_laid_over run) (ap (all_pairs level) p.split ∙ all_pairs-parts level p.front p.item p.back)
          ∙ laid_within run (all_pairs level p.front) (pairs level p.item) (all_pairs level p.back) (under p.front p.item p.back each run towards) (above p.front p.item p.back each run towards);
      stands = stands_at kind image level p.front p.item p.back (subst (AllStand kind image level) p.split holds.stand);
    }
  where
    under : (f : List (Item level)) (x : Item level) (b : List (Item level)) → ((key : ℕ) → Towards key es index → Parted key level f x b) → (us : List Update) → AllByRecursion (λ u. Towards u.0 es index) us → AllByRecursion (λ u. AllUnder u.0 (all_pairs level f)) us
    under f x b each [] all = tt
    under f x b each (u ∷ us) all = ((each u.0 all.0).under, under f x b each us all.1)

    above : (f : List (Item level)) (x : Item level) (b : List (Item level)) → ((key : ℕ) → Towards key es index → Parted key level f x b) → (us : List Update) → AllByRecursion (λ u. Towards u.0 es index) us → AllByRecursion (λ u. AllAbove u.0 (all_pairs level b)) us
    above f x b each [] all = tt
    above f x b each (u ∷ us) all = ((each u.0 all.0).above, above f x b each us all.1)

-- ---- a child, and what becomes of the node above it

-- an item's own node, by its parts
item_lie : (level : ℕ) (front : List (Item level)) (x : Item level) (back : List (Item level)) → Lie 0 (2 ^ 64) (all_pairs level (front ++ x ∷ back)) → (low : ℕ) × (high : ℕ) × Lie low high (pairs level x)
item_lie level front x back lie =
    let apart = Lie-split 0 (2 ^ 64) (all_pairs level front) (pairs level x ++ all_pairs level back) (subst (Lie 0 (2 ^ 64)) (all_pairs-parts level front x back) lie) in
    let here = Lie-split apart.mid (2 ^ 64) (pairs level x) (all_pairs level back) apart.back in
    (apart.mid, here.mid, here.front)

item_holds : (kind : Kind) (image : Image) (level : ℕ) (link : Link) (items front : List (Item (suc level))) (x : Item (suc level)) (back : List (Item (suc level))) → Holds kind image (suc level) link items → items ≡ front ++ x ∷ back → Holds kind image level x.0 x.1
item_holds kind image level link items front x back holds split =
    let lie = item_lie (suc level) front x back (subst (λ (xs : List (Item (suc level))). Lie 0 (2 ^ 64) (all_pairs (suc level) xs)) split (held_lie kind image (suc level) link items holds)) in
    item_held kind image level x lie.0 lie.1 (stands_at kind image (suc level) front x back (subst (AllStand kind image (suc level)) split holds.stand)) lie.2

item_agrees : (old new : Image) (level : ℕ) (items front : List (Item level)) (x : Item level) (back : List (Item level)) → items ≡ front ++ x ∷ back → AgreeAt old new (all_places level items) → AgreeAt old new (places level x)
item_agrees old new level items front x back split agree =
    let P : ℕ → Type 0 = λ at. new at ≡ old at in
    let parts = subst (AgreeAt old new) (flat_map-append (places level) front (x ∷ back)) (subst (λ (xs : List (Item level)). AgreeAt old new (all_places level xs)) split agree) in
    all_front P (places level x) (all_places level back) (all_back P (all_places level front) (places level x ++ all_places level back) parts)

-- the pairs of a part of what lies in order
mid_lie : (fs ms bs : List Entry) → Lie 0 (2 ^ 64) (fs ++ (ms ++ bs)) → Lie 0 (2 ^ 64) ms
mid_lie fs ms bs lie =
    let apart = Lie-split 0 (2 ^ 64) fs (ms ++ bs) lie in
    let here = Lie-split apart.mid (2 ^ 64) ms bs apart.back in
    Lie-weaker apart.mid 0 here.mid (2 ^ 64) ms (omega arith) (Lie-bounds here.mid (2 ^ 64) bs here.back) here.front

-- fresh nodes for some items in a row
replaced : (kind : Kind) (old new : Image) (level place : ℕ) (items front middle back : List (Item (suc level))) (all parts fs ms bs whole : List Entry) (first mid made : Making) → items ≡ front ++ (middle ++ back) → AllStand kind old (suc level) items → AgreeAt old new (all_places (suc level) items)
    → AllFit (entries_of (suc level) items) → AllMayStand kind (suc level) (entries_of (suc level) items) → Lie 0 (2 ^ 64) whole → whole ≡ all_pairs (suc level) front ++ (ms ++ all_pairs (suc level) back) → entries_of (suc level) front ≡ fs → entries_of (suc level) back ≡ bs
    → Rebuilt kind new level all ms first mid (all_places (suc level) middle) → WroteParts mid made level all parts → mid.kind ≡ kind → place ≡ mid.place → HasBlocks new place made.nodes.items → level ≤ 7 → 37 ≤ length all → length all ≤ 209
    → Rebuilt kind new (suc level) (fs ++ (parts ++ bs)) whole first made (all_places (suc level) items)
replaced kind old new level place items front middle back all parts fs ms bs whole first mid made split stand agree fits slots lie whole_is fs_is bs_is r wrote same at has low some room =
    let lie' = mid_lie (all_pairs (suc level) front) ms (all_pairs (suc level) back) (subst (Lie 0 (2 ^ 64)) whole_is lie) in
    let up = parts_written kind new level place all ms parts first mid made (all_places (suc level) middle) lie' r wrote same at has low some room in
    rebuilt_as kind new (suc level) (entries_of (suc level) front ++ (parts ++ entries_of (suc level) back)) (fs ++ (parts ++ bs)) (all_pairs (suc level) front ++ (ms ++ all_pairs (suc level) back)) whole first made (all_places (suc level) items) (all_places (suc level) items)
    (λ i. fs_is i ++ (parts ++ bs_is i)) (sym whole_is) refl
    (around kind old new (suc level) items front middle back parts ms first made split stand agree fits slots up)

-- an item at the front, and the item at the end
pub headed : (level : ℕ) (items : List (Item level)) (n : Entry) (rest : List Entry) → entries_of level items ≡ n ∷ rest → (y : Item level) × (ys : List (Item level)) × (items ≡ y ∷ ys) × (entry_of level y ≡ n) × (entries_of level ys ≡ rest)
headed level [] n rest is = absurd cc
headed level (y ∷ ys) n rest is = (y, ys, refl, cc, cc)

pub no_items : (level : ℕ) (items : List (Item level)) → entries_of level items ≡ [] → items ≡ []
no_items level [] is = refl
no_items level (y ∷ ys) is = absurd cc

ended : (level : ℕ) (items : List (Item level)) (rest : List Entry) (n : Entry) → entries_of level items ≡ rest ++ n ∷ [] → (ys : List (Item level)) × (y : Item level) × (items ≡ ys ++ y ∷ []) × (entry_of level y ≡ n) × (entries_of level ys ≡ rest)
ended level items rest n is =
    let p = picked level items rest n [] is in
    (p.front, p.item, p.split ∙ ap (λ (b : List (Item level)). p.front ++ p.item ∷ b) (no_items level p.back p.back_is), p.item_is, p.front_is)

pub least_small : (level : ℕ) → least_of_root level ≤ 2
least_small zero = omega arith
least_small (suc level) = omega arith

take_next : (n : ℕ) (es : List Entry) (e : Entry) (rest : List Entry) → drop n es ≡ e ∷ rest → take (suc n) es ≡ take n es ++ e ∷ []
take_next zero [] e rest is = absurd cc
take_next zero (x ∷ xs) e rest is = let same : x ≡ e = cc in ap (λ (f : Entry). f ∷ []) same
take_next (suc n) [] e rest is = absurd cc
take_next (suc n) (x ∷ xs) e rest is = ap (λ (es : List Entry). x ∷ es) (take_next n xs e rest is)

-- what a step has, for each of the three ways in which it may go
record Step (kind : Kind) (old new : Image) (level : ℕ) (link : Link) (run : List Update) (items : List (Item (suc level))) (index : ℕ) (es below : List Entry) (e : Entry) (m0 m1 m2 : Making) : Type 0 where
  holds : Holds kind old (suc level) link items
  node : NodeAt kind old (suc level) link es
  two : 2 ≤ length items
  agree : AgreeAt old new (all_places (suc level) items)
  split : Split kind old (suc level) run items index es e
  lie : Lie 0 (2 ^ 64) (pairs_laid_over run (all_pairs (suc level) items))
  rebuilt : Rebuilt kind new level below (pairs_laid_over run (pairs (suc level) split.item)) m1 m2 (places (suc level) split.item)
  kind_is : m2.kind ≡ kind
  place_is : m0.place ≡ m2.place
  low : level ≤ 6

alone : (kind : Kind) (old new : Image) (level : ℕ) (link : Link) (run : List Update) (items : List (Item (suc level))) (index : ℕ) (es below all parts : List Entry) (e : Entry) (m0 m1 m2 mid made : Making) (from to : ℕ) → Step kind old new level link run items index es below e m0 m1 m2
    → IsAlone es index below m2 mid from to all → WroteParts mid made level all parts → length all ≤ 209 → HasBlocks new m0.place made.nodes.items → Rebuilt kind new (suc level) (take from es ++ (parts ++ drop to es)) (pairs_laid_over run (all_pairs (suc level) items)) m1 made (all_places (suc level) items)
alone kind old new level link run items index es below all parts e m0 m1 m2 mid made from to s a wrote room has =
    let sp = s.split in
    let x = sp.item in
    let L = pairs_laid_over run (pairs (suc level) x) in
    let len : length es ≡ length items = ap length (one_node kind old (suc level) link es (entries_of (suc level) items) s.node s.holds.node) ∙ length-map items (entry_of (suc level)) in
    let r = subst (λ (m : Making). Rebuilt kind new level below (pairs_laid_over run (pairs (suc level) sp.item)) m1 m (places (suc level) sp.item)) (sym a.same) s.rebuilt in
    let r' = rebuilt_as kind new level below all (pairs_laid_over run (pairs (suc level) sp.item)) (pairs_laid_over run (pairs (suc level) sp.item)) m1 mid (places (suc level) sp.item) (all_places (suc level) (sp.item ∷ [])) (sym a.all_is) refl (sym (append-nil (places (suc level) sp.item))) r in
    let enough : 37 ≤ length below = elim a.enough [ inl h ↦ h | inr one ↦ absurd (omega (arith, one, len, s.two)) ] in
    rebuilt_as kind new (suc level) (take index es ++ (parts ++ drop (index + 1) es)) (take from es ++ (parts ++ drop to es)) (pairs_laid_over run (all_pairs (suc level) items)) (pairs_laid_over run (all_pairs (suc level) items)) m1 made (all_places (suc level) items) (all_places (suc level) items)
    (λ i. take (sym a.from_is i) es ++ (parts ++ drop (sym a.to_is i) es)) refl refl
    (replaced kind old new level m0.place items sp.front (sp.item ∷ []) sp.back all parts (take index es) (pairs_laid_over run (pairs (suc level) sp.item)) (drop (index + 1) es) (pairs_laid_over run (all_pairs (suc level) items)) m1 mid made sp.split s.holds.stand s.agree s.holds.node.spells.node.fits s.holds.node.spells.node.slots
    s.lie sp.laid sp.front_is sp.back_is r' wrote (ap (λ (m : Making). m.kind) a.same ∙ s.kind_is) (s.place_is ∙ ap (λ (m : Making). m.place) (sym a.same)) has (omega (arith, s.low)) (omega (arith, enough, ap length a.all_is)) room)

with_right : (kind : Kind) (old new : Image) (level : ℕ) (link : Link) (run : List Update) (items : List (Item (suc level))) (index : ℕ) (es below all parts : List Entry) (e : Entry) (m0 m1 m2 mid made : Making) (from to : ℕ) → Step kind old new level link run items index es below e m0 m1 m2
    → IsWithRight kind old level es index below m2 mid from to all → WroteParts mid made level all parts → length all ≤ 209 → HasBlocks new m0.place made.nodes.items → Rebuilt kind new (suc level) (take from es ++ (parts ++ drop to es)) (pairs_laid_over run (all_pairs (suc level) items)) m1 made (all_places (suc level) items)
with_right kind old new level link run items index es below all parts e m0 m1 m2 mid made from to s w wrote room has =
    let sp = s.split in
    let h = headed (suc level) sp.back w.next (drop (index + 1 + 1) es) (sp.back_is ∙ w.there) in
    let y = h.0 in
    let ys = h.1 in
    let split' : items ≡ sp.front ++ (sp.item ∷ h.0 ∷ h.1) = sp.split ∙ ap (λ (b : List (Item (suc level))). sp.front ++ sp.item ∷ b) h.2 in
    let split_y : items ≡ (sp.front ++ sp.item ∷ []) ++ h.0 ∷ h.1 = split' ∙ sym (append_assoc sp.front (sp.item ∷ []) (h.0 ∷ h.1)) in
    let yh = item_holds kind old level link items (sp.front ++ sp.item ∷ []) h.0 h.1 s.holds split_y in
    let agree_y = item_agrees old new (suc level) items (sp.front ++ sp.item ∷ []) h.0 h.1 split_y s.agree in
    let leads : link_of w.next.1 ≡ h.0.0 = ap (λ (f : Entry). link_of f.1) (sym h.3) in
    let beside_is : w.beside ≡ entries_of level h.0.1 = one_node kind old level h.0.0 w.beside (entries_of level h.0.1) (subst (λ (l : Link). NodeAt kind old level l w.beside) leads w.node) yh.node in
    let took = subst (λ (l : Link). Took m2 mid l.at) leads w.took in
    let tk = taken kind old new level h.0.0 h.0.1 m2 mid yh took agree_y.1 in
    let b = beside kind new level below (entries_of level h.0.1) (pairs_laid_over run (pairs (suc level) sp.item)) (pairs (suc level) h.0) m1 m2 mid (places (suc level) sp.item) (places (suc level) h.0) s.rebuilt tk in
    let b' = rebuilt_as kind new level (below ++ entries_of level h.0.1) all (pairs_laid_over run (pairs (suc level) sp.item) ++ pairs (suc level) h.0) (pairs_laid_over run (pairs (suc level) sp.item) ++ pairs (suc level) h.0) m1 mid (places (suc level) sp.item ++ places (suc level) h.0) (all_places (suc level) (sp.item ∷ h.0 ∷ []))
    (ap (λ (xs : List Entry). below ++ xs) (sym beside_is) ∙ sym w.all_is) refl (ap (λ (ps : List ℕ). places (suc level) sp.item ++ ps) (sym (append-nil (places (suc level) h.0)))) b in
    let whole_is = sp.laid ∙ ap (λ (xs : List (Item (suc level))). all_pairs (suc level) sp.front ++ (pairs_laid_over run (pairs (suc level) sp.item) ++ all_pairs (suc level) xs)) h.2
    ∙ ap (λ (ps : List Entry). all_pairs (suc level) sp.front ++ ps) (sym (append_assoc (pairs_laid_over run (pairs (suc level) sp.item)) (pairs (suc level) h.0) (all_pairs (suc level) h.1))) in
    let few = stands_at kind old (suc level) (sp.front ++ sp.item ∷ []) h.0 h.1 (subst (AllStand kind old (suc level)) split_y s.holds.stand) in
    let enough : 37 ≤ length all = omega (arith, few.1, ap length w.all_is, length-append below w.beside, ap length beside_is, length-map h.0.1 (entry_of level)) in
    let to_is : to ≡ index + 1 + 1 = omega (arith, w.to_is) in
    rebuilt_as kind new (suc level) (take index es ++ (parts ++ drop (index + 1 + 1) es)) (take from es ++ (parts ++ drop to es)) (pairs_laid_over run (all_pairs (suc level) items)) (pairs_laid_over run (all_pairs (suc level) items)) m1 made (all_places (suc level) items) (all_places (suc level) items)
    (λ i. take (sym w.from_is i) es ++ (parts ++ drop (sym to_is i) es)) refl refl
    (replaced kind old new level m0.place items sp.front (sp.item ∷ h.0 ∷ []) h.1 all parts (take index es) (pairs_laid_over run (pairs (suc level) sp.item) ++ pairs (suc level) h.0) (drop (index + 1 + 1) es) (pairs_laid_over run (all_pairs (suc level) items)) m1 mid made split' s.holds.stand s.agree s.holds.node.spells.node.fits s.holds.node.spells.node.slots
    s.lie whole_is sp.front_is h.4 b' wrote (took.kind ∙ s.kind_is) (s.place_is ∙ sym took.place) has (omega (arith, s.low)) enough room)

with_left : (kind : Kind) (old new : Image) (level : ℕ) (link : Link) (run : List Update) (items : List (Item (suc level))) (index : ℕ) (es below all parts : List Entry) (e : Entry) (m0 m1 m2 mid made : Making) (from to : ℕ) → Step kind old new level link run items index es below e m0 m1 m2
    → IsWithLeft kind old level es index below m2 mid from to all → WroteParts mid made level all parts → length all ≤ 209 → HasBlocks new m0.place made.nodes.items → Rebuilt kind new (suc level) (take from es ++ (parts ++ drop to es)) (pairs_laid_over run (all_pairs (suc level) items)) m1 made (all_places (suc level) items)
with_left kind old new level link run items index es below all parts e m0 m1 m2 mid made from to s w wrote room has =
    let sp = s.split in
    let index_is : index ≡ suc from = omega (arith, w.from_is) in
    let h = ended (suc level) sp.front (take from es) w.previous (sp.front_is ∙ ap (λ (n : ℕ). take n es) index_is ∙ take_next from es w.previous (drop (from + 1) es) w.there) in
    let split' : items ≡ h.0 ++ (h.1 ∷ sp.item ∷ sp.back) = sp.split ∙ ap (λ (f : List (Item (suc level))). f ++ sp.item ∷ sp.back) h.2 ∙ append_assoc h.0 (h.1 ∷ []) (sp.item ∷ sp.back) in
    let yh = item_holds kind old level link items h.0 h.1 (sp.item ∷ sp.back) s.holds split' in
    let agree_y = item_agrees old new (suc level) items h.0 h.1 (sp.item ∷ sp.back) split' s.agree in
    let leads : link_of w.previous.1 ≡ h.1.0 = ap (λ (f : Entry). link_of f.1) (sym h.3) in
    let beside_is : w.beside ≡ entries_of level h.1.1 = one_node kind old level h.1.0 w.beside (entries_of level h.1.1) (subst (λ (l : Link). NodeAt kind old level l w.beside) leads w.node) yh.node in
    let took = subst (λ (l : Link). Took m2 mid l.at) leads w.took in
    let tk = taken kind old new level h.1.0 h.1.1 m2 mid yh took agree_y.1 in
    let b = before kind new level below (entries_of level h.1.1) (pairs_laid_over run (pairs (suc level) sp.item)) (pairs (suc level) h.1) m1 m2 mid (places (suc level) sp.item) (places (suc level) h.1) s.rebuilt tk in
    let b' = rebuilt_as kind new level (entries_of level h.1.1 ++ below) all (pairs (suc level) h.1 ++ pairs_laid_over run (pairs (suc level) sp.item)) (pairs (suc level) h.1 ++ pairs_laid_over run (pairs (suc level) sp.item)) m1 mid (places (suc level) h.1 ++ places (suc level) sp.item) (all_places (suc level) (h.1 ∷ sp.item ∷ []))
    (ap (λ (xs : List Entry). xs ++ below) (sym beside_is) ∙ sym w.all_is) refl (ap (λ (ps : List ℕ). places (suc level) h.1 ++ ps) (sym (append-nil (places (suc level) sp.item)))) b in
    let L = pairs_laid_over run (pairs (suc level) sp.item) in
    let front_pairs : all_pairs (suc level) sp.front ≡ all_pairs (suc level) h.0 ++ pairs (suc level) h.1 = ap (all_pairs (suc level)) h.2 ∙ flat_map-append (pairs (suc level)) h.0 (h.1 ∷ []) ∙ ap (λ (ps : List Entry). all_pairs (suc level) h.0 ++ ps) (append-nil (pairs (suc level) h.1)) in
    let whole_is = sp.laid ∙ ap (λ (ps : List Entry). ps ++ (pairs_laid_over run (pairs (suc level) sp.item) ++ all_pairs (suc level) sp.back)) front_pairs
    ∙ append_assoc (all_pairs (suc level) h.0) (pairs (suc level) h.1) (pairs_laid_over run (pairs (suc level) sp.item) ++ all_pairs (suc level) sp.back)
    ∙ ap (λ (ps : List Entry). all_pairs (suc level) h.0 ++ ps) (sym (append_assoc (pairs (suc level) h.1) (pairs_laid_over run (pairs (suc level) sp.item)) (all_pairs (suc level) sp.back))) in
    let few = stands_at kind old (suc level) h.0 h.1 (sp.item ∷ sp.back) (subst (AllStand kind old (suc level)) split' s.holds.stand) in
    let enough : 37 ≤ length all = omega (arith, few.1, ap length w.all_is, length-append w.beside below, ap length beside_is, length-map h.1.1 (entry_of level)) in
    rebuilt_as kind new (suc level) (take from es ++ (parts ++ drop (index + 1) es)) (take from es ++ (parts ++ drop to es)) (pairs_laid_over run (all_pairs (suc level) items)) (pairs_laid_over run (all_pairs (suc level) items)) m1 made (all_places (suc level) items) (all_places (suc level) items)
    (λ i. take from es ++ (parts ++ drop (sym w.to_is i) es)) refl refl
    (replaced kind old new level m0.place items h.0 (h.1 ∷ sp.item ∷ []) sp.back all parts (take from es) (pairs (suc level) h.1 ++ pairs_laid_over run (pairs (suc level) sp.item)) (drop (index + 1) es) (pairs_laid_over run (all_pairs (suc level) items)) m1 mid made split' s.holds.stand s.agree s.holds.node.spells.node.fits s.holds.node.spells.node.slots
    s.lie whole_is h.4 sp.back_is b' wrote (took.kind ∙ s.kind_is) (s.place_is ∙ sym took.place) has (omega (arith, s.low)) enough room)

gathered : (kind : Kind) (old new : Image) (level : ℕ) (link : Link) (run : List Update) (items : List (Item (suc level))) (index : ℕ) (es below all parts : List Entry) (e : Entry) (m0 m1 m2 mid made : Making) (from to : ℕ) → Step kind old new level link run items index es below e m0 m1 m2
    → Gathered kind old level es index below m2 mid from to all → WroteParts mid made level all parts → length all ≤ 209 → HasBlocks new m0.place made.nodes.items → Rebuilt kind new (suc level) (take from es ++ (parts ++ drop to es)) (pairs_laid_over run (all_pairs (suc level) items)) m1 made (all_places (suc level) items)
gathered kind old new level link run items index es below all parts e m0 m1 m2 mid made from to s (inl a) wrote room has = alone kind old new level link run items index es below all parts e m0 m1 m2 mid made from to s a wrote room has
gathered kind old new level link run items index es below all parts e m0 m1 m2 mid made from to s (inr (inl w)) wrote room has = with_right kind old new level link run items index es below all parts e m0 m1 m2 mid made from to s w wrote room has
gathered kind old new level link run items index es below all parts e m0 m1 m2 mid made from to s (inr (inr w)) wrote room has = with_left kind old new level link run items index es below all parts e m0 m1 m2 mid made from to s w wrote room has

-- where the run leads, by the entry that the code takes
record Led (kind : Kind) (image : Image) (level : ℕ) (run : List Update) (es : List Entry) (index : ℕ) (e : Entry) : Type 0 where
  towards : AllByRecursion (λ u. Towards u.0 es index) run
  below : LeadToOne kind image level (link_of e.1) run

led : (kind : Kind) (image : Image) (level : ℕ) (link : Link) (run : List Update) (es : List Entry) (index : ℕ) (e : Entry) → NodeAt kind image (suc level) link es → Next es index e → Towards (first_key run) es index → LeadToOne kind image (suc level) link run → Led kind image level run es index e
led kind image level link run es index e node next toward (es', node', (i', e', at', first', all', below')) =
    let es_is : es' ≡ es = one_node kind image (suc level) link es' es node' node in
    let i_is : i' ≡ index = towards_one (first_key run) es i' index (subst (λ (xs : List Entry). Towards (first_key run) xs i') es_is first') toward in
    let at : drop index es ≡ e' ∷ drop (index + 1) es = subst (λ (i : ℕ). drop i es ≡ e' ∷ drop (i + 1) es) i_is (subst (λ (xs : List Entry). drop i' xs ≡ e' ∷ drop (i' + 1) xs) es_is at') in
    let both : e' ∷ drop (index + 1) es ≡ e ∷ drop (index + 1) es = sym at ∙ next.rest in
    let e_is : e' ≡ e = cc in
    record {
      towards = subst (λ (i : ℕ). AllByRecursion (λ (u : Update). Towards u.0 es i) run) i_is (subst (λ (xs : List Entry). AllByRecursion (λ (u : Update). Towards u.0 xs i') run) es_is all');
      below = subst (λ (f : Entry). LeadToOne kind image level (link_of f.1) run) e_is below';
    }

-- a node whose child was merged
step : (kind : Kind) (image : Image) (level : ℕ) (link : Link) (run : List Update) (es below made_es : List Entry) (index : ℕ) (e : Entry) (m0 m1 m2 m3 : Making) → NodeAt kind image (suc level) link es → Next es index e → Towards (first_key run) es index → Took m0 m1 link.at → MergesBelow kind image level (link_of e.1) run m1 m2 below
    → Onward m1 m2 → RunFits run → IsSettled kind image level es index below m2 m3 made_es → Onward m2 m3 → m1.kind ≡ kind → level ≤ 6 → MergesBelow kind image (suc level) link run m0 m3 made_es
step kind image level link run es below made_es index e m0 m1 m2 m3 node next toward took merges onward fits settled onward' kind_is low items holds least lead may new agree has =
    let l = led kind image level link run es index e node next toward lead in
    let sp = split_run kind image (suc level) link run items index es e holds node next l.towards in
    let child = item_holds kind image level link items sp.front sp.item sp.back holds sp.split in
    let leads : sp.item.0 ≡ link_of e.1 = ap (λ (f : Entry). link_of f.1) sp.item_is in
    let agree_x = item_agrees image new (suc level) items sp.front sp.item sp.back sp.split agree in
    let has2 = subst (λ n. HasBlocks new n m2.nodes.items) (sym took.place) (has_before m2 m3 new m0.place onward' has) in
    let r = merges sp.item.1 (subst (λ (k : Link). Holds kind image level k sp.item.1) leads child) (omega (arith, least_small level, sp.stands.1)) l.below may new agree_x.1 has2 in
    let r' = subst (λ (k : Link). Rebuilt kind new level below (pairs_laid_over run (all_pairs level sp.item.1)) m1 m2 (k.at.0 ∷ all_places level sp.item.1)) (sym leads) r in
    let s : Step kind image new level link run items index es below e m0 m1 m2 = record {
      holds = holds;
      node = node;
      two = least;
      agree = agree;
      split = sp;
      lie = laid_lie run (all_pairs (suc level) items) fits (held_lie kind image (suc level) link items holds);
      rebuilt = r';
      kind_is = onward.kind ∙ kind_is;
      place_is = sym took.place ∙ sym onward.place;
      low = low;
    } in
    let whole = gathered kind image new level link run items index es below settled.all settled.parts e m0 m1 m2 settled.mid m3 settled.from settled.to s settled.gathered settled.written settled.room has in
    after_taken kind new (suc level) made_es (pairs_laid_over run (all_pairs (suc level) items)) m0 m1 m3 link.at (all_places (suc level) items) took
    (subst (λ (xs : List Entry). Rebuilt kind new (suc level) xs (pairs_laid_over run (all_pairs (suc level) items)) m1 m3 (all_places (suc level) items)) (sym settled.made_is) whole)

-- ---- a leaf

pub all_stand : (kind : Kind) (image : Image) (es : List Entry) → AllStand kind image 0 es
all_stand kind image [] = tt
all_stand kind image (e ∷ es) = (tt, all_stand kind image es)

pub no_places : (es : List Entry) → all_places 0 es ≡ []
no_places [] = refl
no_places (e ∷ es) = no_places es

-- what is laid over a leaf
pub leaf : (kind : Kind) (image : Image) (link : Link) (run : List Update) (es made_es : List Entry) (m0 m1 : Making) → NodeAt kind image 0 link es → Took m0 m1 link.at → made_es ≡ pairs_laid_over run es → RunFits run → MergesBelow kind image 0 link run m0 m1 made_es
leaf kind image link run es made_es m0 m1 node took is fits items holds least lead may new agree has =
    let same : es ≡ items = one_node kind image 0 link es (entries_of 0 items) node holds.node ∙ map-id items in
    record {
      items = made_es;
      entries_are = map-id made_es;
      stand = all_stand kind new made_es;
      fits = subst AllFit (sym is) (laid_fits run es fits node.spells.node.fits);
      slots = subst (AllMayStand kind 0) (sym is) (laid_slots kind run es may node.spells.node.slots);
      pairs_are = leaf_pairs made_es ∙ is ∙ ap (pairs_laid_over run) (same ∙ sym (leaf_pairs items));
      exchanges = exchanges_as m0 m1 (link.at.0 ∷ []) (link.at.0 ∷ all_places 0 items) [] (all_places 0 made_es) (ap (λ (ps : List ℕ). link.at.0 ∷ ps) (sym (no_places items))) (sym (no_places made_es)) (took_exchanges m0 m1 link.at [] took);
    }

-- the same as the code has it
pub step_up : (old mid late : Held) (up level : ℕ) (link child : Link) (run : List Update) (es below made_es : List Entry) (index : ℕ) (e : Entry) (m0 m1 m2 m3 : Making) → suc level ≡ up → Keeps old mid × (mid.faults ≡ old.faults) → Keeps mid late × (late.faults ≡ mid.faults) → child ≡ link_of e.1 → NodeAt m0.kind old.image up link es → Next es index e
    → Towards (first_key run) es index → Took m0 m1 link.at → MergesBelow m1.kind mid.image level child run m1 m2 below → Onward m1 m2 → RunFits run → IsSettled m2.kind late.image level es index below m2 m3 made_es → up ≤ 7 → MergesBelow m0.kind old.image up link run m0 m3 made_es
step_up old mid late up level link child run es below made_es index e m0 m1 m2 m3 is kept kept' leads node next toward took merges onward fits settled low =
    let merges' = subst (λ (l : Link). MergesBelow m0.kind old.image level l run m1 m2 below) leads (subst (λ (i : Image). MergesBelow m0.kind i level child run m1 m2 below) kept.0.image (subst (λ (k : Kind). MergesBelow k mid.image level child run m1 m2 below) took.kind merges)) in
    let settled' = subst (λ (i : Image). IsSettled m0.kind i level es index below m2 m3 made_es) (kept'.0.image ∙ kept.0.image) (subst (λ (k : Kind). IsSettled k late.image level es index below m2 m3 made_es) (onward.kind ∙ took.kind) settled) in
    subst (λ (l : ℕ). MergesBelow m0.kind old.image l link run m0 m3 made_es) is
    (step m0.kind old.image level link run es below made_es index e m0 m1 m2 m3 (subst (λ (l : ℕ). NodeAt m0.kind old.image l link es) (sym is) node) next toward took merges' onward fits settled' settled.onward took.kind (omega (arith, is, low)))

pub leaf_up : (old : Held) (level : ℕ) (link : Link) (run : List Update) (es made_es : List Entry) (m0 m1 : Making) → level ≡ 0 → NodeAt m0.kind old.image level link es → Took m0 m1 link.at → (IsRising es → made_es ≡ pairs_laid_over run es) → RunFits run → MergesBelow m0.kind old.image level link run m0 m1 made_es
leaf_up old level link run es made_es m0 m1 is node took laid fits =
    subst (λ (l : ℕ). MergesBelow m0.kind old.image l link run m0 m1 made_es) (sym is)
    (leaf m0.kind old.image link run es made_es m0 m1 (subst (λ (l : ℕ). NodeAt m0.kind old.image l link es) is node) took (laid node.spells.node.rising) fits)

-- why a child or its neighbour was not read is why the node above it was not done
pub fault_near : (kind kind' : Kind) (old mid new : Held) (up level : ℕ) (link : Link) (es : List Entry) (fault : PFault) → kind' ≡ kind → suc level ≡ up → Keeps old mid × (mid.faults ≡ old.faults) → (IsTrue old.tells → NodeAt kind old.image up link es) → IsFaultNear kind' mid new level es fault → IsFaultBelow Has kind old new up link fault
fault_near kind kind' old mid new up level link es fault same is kept node near =
    fault_up kind kind' old mid new up level link (link_of near.0.1) es near.0 fault same is refl kept node near.1 (fault_here Has kind' mid new level (link_of near.0.1) fault near.2)
