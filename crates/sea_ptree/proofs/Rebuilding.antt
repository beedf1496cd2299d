-- What stands below nodes that are written anew.
use Rattle.std.proofs.Common.{◌≡◌, ℕ, zero, suc, ◌+◌, ◌≤◌, ◌<◌, ◌^◌, List, [], ◌∷◌, ◌++◌, map, length, refl, sym, ap, subst, ◌∙◌, arith, append-nil}
use Rattle.std.specs.List.{AllByRecursion, flat_map}
use Rattle.std.proofs.lemmas.List.{map-append, length-map}
use Rattle.std.proofs.lemmas.List.Concat.{flat_map-append}
use Rattle.sea_base.specs.declared.place.Commit.{Commit}
use Rattle.sea_base.specs.declared.place.Paddr.{Paddr}
use Rattle.sea_ptree.specs.declared.kind.Kind.{Kind}
use Rattle.sea_ptree.specs.declared.link.Link.{Link}
use Rattle.sea_ptree.specs.declared.making.Making.{Making}
use Rattle.sea_ptree.specs.Blocks.{Image, HasSum}
use Rattle.sea_ptree.specs.Fresh.{HasBlocks, AgreeAt}
use Rattle.sea_ptree.specs.Making.{Took, Wrote}
use Rattle.sea_ptree.specs.Node.{Entry, Fits, IsRising, MayStand, Spells, node_bytes}
use Rattle.sea_ptree.specs.Rebuilding.{Rebuilt}
use Rattle.sea_ptree.specs.Tree.{Item, pairs, places, entry_of, least_key, link_of, NodeAt, Stands, Holds}
use Rattle.sea_ptree.proofs.Items.{all_pairs, AllStand, begins, entry_key}
use Rattle.sea_ptree.proofs.Makings.{has_written, took_exchanges, wrote_exchanges, exchanges_within, exchanges_by, exchanges_as}
use Rattle.sea_ptree.proofs.Rising.{Lie, Lie-weaker, Lie-split, Lie-rising, Lie-bounds}

abbrev pub all_places : (level : ℕ) → List (Item level) → List ℕ
all_places level items = flat_map (places level) items

abbrev pub entries_of : (level : ℕ) → List (Item level) → List Entry
entries_of level items = map (entry_of level) items

abbrev pub AllFit : List Entry → Type 0
AllFit es = AllByRecursion Fits es

abbrev pub AllMayStand : Kind → ℕ → List Entry → Type 0
AllMayStand kind level es = AllByRecursion (λ e. MayStand kind level e.1) es

-- ---- parts of lists

pub all_both : {A : Type 0} (P : A → Type 0) (xs ys : List A) → AllByRecursion P xs → AllByRecursion P ys → AllByRecursion P (xs ++ ys)
all_both P [] ys all_x all_y = all_y
all_both P (x ∷ xs) ys all_x all_y = (all_x.0, all_both P xs ys all_x.1 all_y)

pub all_front : {A : Type 0} (P : A → Type 0) (xs ys : List A) → AllByRecursion P (xs ++ ys) → AllByRecursion P xs
all_front P [] ys all = tt
all_front P (x ∷ xs) ys all = (all.0, all_front P xs ys all.1)

pub all_back : {A : Type 0} (P : A → Type 0) (xs ys : List A) → AllByRecursion P (xs ++ ys) → AllByRecursion P ys
all_back P [] ys all = all
all_back P (x ∷ xs) ys all = all_back P xs ys all.1

pub all_around : {A : Type 0} (P : A → Type 0) (xs ys zs : List A) → AllByRecursion P xs → AllByRecursion P ys → AllByRecursion P zs → AllByRecursion P (xs ++ (ys ++ zs))
all_around P xs ys zs all_x all_y all_z = all_both P xs (ys ++ zs) all_x (all_both P ys zs all_y all_z)

-- ---- nodes in another image

pub node_in : (kind : Kind) (old new : Image) (level : ℕ) (link : Link) (es : List Entry) → new link.at.0 ≡ old link.at.0 → NodeAt kind old level link es → NodeAt kind new level link es
node_in kind old new level link es same node = record {
  sum_is = subst (λ (b : List ℕ). HasSum b link.sum.0) (sym same) node.sum_is;
  spells = subst (λ (b : List ℕ). Spells kind b level es) (sym same) node.spells;
}

all_in : (kind : Kind) (old new : Image) (level : ℕ) → ((x : Item level) → Stands kind old level x → AgreeAt old new (places level x) → Stands kind new level x) → (items : List (Item level)) → AllStand kind old level items → AgreeAt old new (all_places level items) → AllStand kind new level items
all_in kind old new level each [] all agree = tt
all_in kind old new level each (x ∷ xs) all agree =
    (each x all.0 (all_front (λ at. new at ≡ old at) (places level x) (all_places level xs) agree), all_in kind old new level each xs all.1 (all_back (λ at. new at ≡ old at) (places level x) (all_places level xs) agree))

stands_in : (kind : Kind) (old new : Image) (level : ℕ) (x : Item level) → Stands kind old level x → AgreeAt old new (places level x) → Stands kind new level x
stands_in kind old new zero x stands agree = tt
stands_in kind old new (suc level) x stands agree =
    (node_in kind old new level x.0 (map (entry_of level) x.1) agree.0 stands.0, stands.1, all_in kind old new level (stands_in kind old new level) x.1 stands.2 agree.1)

-- items stand in each image that has the same at their places
pub all_stand_in : (kind : Kind) (old new : Image) (level : ℕ) (items : List (Item level)) → AllStand kind old level items → AgreeAt old new (all_places level items) → AllStand kind new level items
all_stand_in kind old new level = all_in kind old new level (stands_in kind old new level)

-- ---- the entries of a node, by the pairs below it

-- the entries that lead to items rise as the pairs below do
pub entries_lie : (kind : Kind) (image : Image) (level low high : ℕ) (items : List (Item level)) → AllStand kind image level items → Lie low high (all_pairs level items) → Lie low high (entries_of level items)
entries_lie kind image level low high [] all lie = lie
entries_lie kind image level low high (y ∷ ys) all lie =
    let first = begins kind image level y all.0 in
    let key : (entry_of level y).0 ≡ first.first.0 = entry_key level y ∙ ap least_key first.is in
    let is : all_pairs level (y ∷ ys) ≡ first.first ∷ (first.rest ++ all_pairs level ys) = ap (λ (ps : List Entry). ps ++ all_pairs level ys) first.is in
    let lie' = subst (Lie low high) is lie in
    let apart = Lie-split (first.first.0 + 1) high first.rest (all_pairs level ys) lie'.1 in
    let above = Lie-bounds (first.first.0 + 1) apart.mid first.rest apart.front in
    let rest = entries_lie kind image level apart.mid high ys all.1 apart.back in
    (omega (arith, lie'.0, key), Lie-weaker apart.mid ((entry_of level y).0 + 1) high high (entries_of level ys) (omega (arith, above, key)) (omega arith) rest)

-- the least key of some entries is that of the pairs below
pub least_below : (kind : Kind) (image : Image) (level : ℕ) (items : List (Item level)) → AllStand kind image level items → least_key (all_pairs level items) ≡ least_key (entries_of level items)
least_below kind image level [] all = refl
least_below kind image level (y ∷ ys) all =
    let first = begins kind image level y all.0 in
    ap (λ (ps : List Entry). least_key (ps ++ all_pairs level ys)) first.is ∙ sym (entry_key level y ∙ ap least_key first.is)

-- ---- a node that is read

pub taken : (kind : Kind) (old new : Image) (level : ℕ) (link : Link) (items : List (Item level)) (before after : Making) → Holds kind old level link items → Took before after link.at → AgreeAt old new (all_places level items)
    → Rebuilt kind new level (entries_of level items) (all_pairs level items) before after (link.at.0 ∷ all_places level items)
taken kind old new level link items before after holds took agree = record {
  items = items;
  entries_are = refl;
  stand = all_stand_in kind old new level items holds.stand agree;
  fits = holds.node.spells.node.fits;
  slots = holds.node.spells.node.slots;
  pairs_are = refl;
  exchanges = took_exchanges before after link.at (all_places level items) took;
}

-- ---- a node that is written

least_fits : (es : List Entry) → AllFit es → 1 ≤ length es → least_key es < 2 ^ 64
least_fits [] fits some = absurd (omega arith)
least_fits (e ∷ es) fits some = fits.0.key

-- the node of what was rebuilt stands where the entry that was written leads to
pub node_written : (kind : Kind) (new : Image) (level low high place : ℕ) (es ps : List Entry) (first old made : Making) (was : List ℕ) (e : Entry) → Lie low high ps → (r : Rebuilt kind new level es ps first old was) → Wrote old made level es e → old.kind ≡ kind → place ≡ old.place
    → HasBlocks new place made.nodes.items → level ≤ 7 → 1 ≤ length es → length es ≤ 145 → NodeAt kind new level (link_of e.1) (entries_of level r.items)
node_written kind new level low high place es ps first old made was e lie r wrote same at has fits some room =
    let is : new e.1.at.0 ≡ node_bytes kind level es = has_written old made new place level es e wrote at has ∙ ap (λ (k : Kind). node_bytes k level es) same in
    let rising = Lie-rising low high (entries_of level r.items) (entries_lie kind new level low high r.items r.stand (subst (Lie low high) (sym r.pairs_are) lie)) in
    subst (NodeAt kind new level (link_of e.1)) (sym r.entries_are) (record {
      sum_is = subst (λ (b : List ℕ). HasSum b e.1.sum.0) (sym is) (subst (λ (k : Kind). HasSum (node_bytes k level es) e.1.sum.0) same wrote.sum);
      spells = record {
        node = record { level_fits = fits; some = some; room = room; rising = subst (λ (xs : List Entry). IsRising xs) r.entries_are rising; fits = r.fits; slots = r.slots };
        spelled = is;
      };
    })

-- an item of the level above, for the node that was written
pub written : (kind : Kind) (new : Image) (level low high place : ℕ) (es ps : List Entry) (first old made : Making) (was : List ℕ) (e : Entry) → Lie low high ps → Rebuilt kind new level es ps first old was → Wrote old made level es e → old.kind ≡ kind → place ≡ old.place
    → HasBlocks new place made.nodes.items → level ≤ 7 → 37 ≤ length es → length es ≤ 145 → Rebuilt kind new (suc level) (e ∷ []) ps first made was
written kind new level low high place es ps first old made was e lie r wrote same at has fits some room =
    let node = node_written kind new level low high place es ps first old made was e lie r wrote same at has fits (omega arith) room in
    let x : Item (suc level) = (link_of e.1, r.items) in
    let key : least_key (all_pairs level r.items) ≡ e.0 = least_below kind new level r.items r.stand ∙ ap least_key r.entries_are ∙ sym wrote.key in
    let version : record { 0 = 0 } ≡ e.1.version = λ i. let c : Commit = record { 0 = sym wrote.version i } in c in
    let entry : entry_of (suc level) x ≡ e = λ i. (key i, record { at = e.1.at; version = version i; sum = e.1.sum }) in
    record {
      items = x ∷ [];
      entries_are = λ i. entry i ∷ [];
      stand = ((node, omega (arith, ap length r.entries_are, length-map r.items (entry_of level)), r.stand), tt);
      fits = (record { key = omega (arith, least_fits es r.fits (omega arith), wrote.key); at = wrote.at_fits; version = omega (arith, wrote.version); sum = wrote.sum.fits }, tt);
      slots = (wrote.version, tt);
      pairs_are = append-nil (all_pairs level r.items) ∙ r.pairs_are;
      exchanges = exchanges_as first made was was (e.1.at.0 ∷ all_places level r.items) ((e.1.at.0 ∷ all_places level r.items) ++ []) refl (sym (append-nil (e.1.at.0 ∷ all_places level r.items)))
          (wrote_exchanges first old made level es e was (all_places level r.items) wrote r.exchanges);
    }

-- ---- among other items

parts_map : {A B : Type 0} (f : A → B) (xs ys zs : List A) → map f (xs ++ (ys ++ zs)) ≡ map f xs ++ (map f ys ++ map f zs)
parts_map f xs ys zs = map-append f xs (ys ++ zs) ∙ ap (λ r. map f xs ++ r) (map-append f ys zs)

pub parts_flat : {A B : Type 0} (f : A → List B) (xs ys zs : List A) → flat_map f (xs ++ (ys ++ zs)) ≡ flat_map f xs ++ (flat_map f ys ++ flat_map f zs)
parts_flat f xs ys zs = flat_map-append f xs (ys ++ zs) ∙ ap (λ r. flat_map f xs ++ r) (flat_map-append f ys zs)

pub within : (kind : Kind) (new : Image) (level : ℕ) (before after : List (Item level)) (es ps : List Entry) (old made : Making) (was : List ℕ) → AllStand kind new level before → AllStand kind new level after
    → AllFit (entries_of level before) → AllFit (entries_of level after) → AllMayStand kind level (entries_of level before) → AllMayStand kind level (entries_of level after)
    → Rebuilt kind new level es ps old made was → Rebuilt kind new level (entries_of level before ++ (es ++ entries_of level after)) (all_pairs level before ++ (ps ++ all_pairs level after)) old made (all_places level before ++ (was ++ all_places level after))
within kind new level before after es ps old made was stand_b stand_a fits_b fits_a slots_b slots_a r = record {
  items = before ++ (r.items ++ after);
  entries_are = parts_map (entry_of level) before r.items after ∙ ap (λ (xs : List Entry). entries_of level before ++ (xs ++ entries_of level after)) r.entries_are;
  stand = all_around (Stands kind new level) before r.items after stand_b r.stand stand_a;
  fits = all_around Fits (entries_of level before) es (entries_of level after) fits_b r.fits fits_a;
  slots = all_around (λ (e : Entry). MayStand kind level e.1) (entries_of level before) es (entries_of level after) slots_b r.slots slots_a;
  pairs_are = parts_flat (pairs level) before r.items after ∙ ap (λ (xs : List Entry). all_pairs level before ++ (xs ++ all_pairs level after)) r.pairs_are;
  exchanges = exchanges_as old made (all_places level before ++ (was ++ all_places level after)) (all_places level before ++ (was ++ all_places level after)) (all_places level before ++ (all_places level r.items ++ all_places level after)) (all_places level (before ++ (r.items ++ after))) refl (sym (parts_flat (places level) before r.items after))
      (exchanges_within old made (all_places level before) was (all_places level r.items) (all_places level after) r.exchanges);
}

-- the same by other words
pub rebuilt_as : (kind : Kind) (new : Image) (level : ℕ) (es es' ps ps' : List Entry) (old made : Making) (was was' : List ℕ) → es ≡ es' → ps ≡ ps' → was ≡ was' → Rebuilt kind new level es ps old made was → Rebuilt kind new level es' ps' old made was'
rebuilt_as kind new level es es' ps ps' old made was was' e p w r =
    subst (λ (xs : List Entry). Rebuilt kind new level xs ps' old made was') e (subst (λ (xs : List Entry). Rebuilt kind new level es xs old made was') p (subst (λ (xs : List ℕ). Rebuilt kind new level es ps old made xs) w r))

-- the node that went before
pub after_taken : (kind : Kind) (new : Image) (level : ℕ) (es ps : List Entry) (first old made : Making) (at : Paddr) (was : List ℕ) → Took first old at → Rebuilt kind new level es ps old made was → Rebuilt kind new level es ps first made (at.0 ∷ was)
after_taken kind new level es ps first old made at was took r = record {
  items = r.items;
  entries_are = r.entries_are;
  stand = r.stand;
  fits = r.fits;
  slots = r.slots;
  pairs_are = r.pairs_are;
  exchanges = exchanges_by first old made (at.0 ∷ []) [] was (all_places level r.items) (took_exchanges first old at [] took) r.exchanges;
}

-- some items of a node replaced, the others as they were
pub around : (kind : Kind) (old new : Image) (level : ℕ) (items front middle back : List (Item level)) (es ps : List Entry) (first made : Making) → items ≡ front ++ (middle ++ back) → AllStand kind old level items → AgreeAt old new (all_places level items) → AllFit (entries_of level items) → AllMayStand kind level (entries_of level items)
    → Rebuilt kind new level es ps first made (all_places level middle) → Rebuilt kind new level (entries_of level front ++ (es ++ entries_of level back)) (all_pairs level front ++ (ps ++ all_pairs level back)) first made (all_places level items)
around kind old new level items front middle back es ps first made split stand agree fits slots r =
    let stand' = all_stand_in kind old new level items stand agree in
    let all = subst (AllStand kind new level) split stand' in
    let es_are : entries_of level items ≡ entries_of level front ++ (entries_of level middle ++ entries_of level back) = ap (entries_of level) split ∙ parts_map (entry_of level) front middle back in
    let fits' = subst AllFit es_are fits in
    let slots' = subst (AllMayStand kind level) es_are slots in
    let may : Entry → Type 0 = λ e. MayStand kind level e.1 in
    let ps_are : all_places level items ≡ all_places level front ++ (all_places level middle ++ all_places level back) = ap (all_places level) split ∙ parts_flat (places level) front middle back in
    rebuilt_as kind new level (entries_of level front ++ (es ++ entries_of level back)) (entries_of level front ++ (es ++ entries_of level back)) (all_pairs level front ++ (ps ++ all_pairs level back)) (all_pairs level front ++ (ps ++ all_pairs level back)) first made
    (all_places level front ++ (all_places level middle ++ all_places level back)) (all_places level items) refl refl (sym ps_are)
    (within kind new level front back es ps first made (all_places level middle)
    (all_front (Stands kind new level) front (middle ++ back) all)
    (all_back (Stands kind new level) middle back (all_back (Stands kind new level) front (middle ++ back) all))
    (all_front Fits (entries_of level front) (entries_of level middle ++ entries_of level back) fits')
    (all_back Fits (entries_of level middle) (entries_of level back) (all_back Fits (entries_of level front) (entries_of level middle ++ entries_of level back) fits'))
    (all_front may (entries_of level front) (entries_of level middle ++ entries_of level back) slots')
    (all_back may (entries_of level middle) (entries_of level back) (all_back may (entries_of level front) (entries_of level middle ++ entries_of level back) slots'))
    r)
