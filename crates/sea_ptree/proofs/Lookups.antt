-- What is found below a node, among the pairs that it holds.
use Rattle.std.proofs.Common.{◌≡◌, ℕ, zero, suc, ◌≤◌, ◌^◌, List, [], ◌∷◌, ◌++◌, map, length, Option, None, sym, ap, subst, ◌∙◌}
use Rattle.std.specs.List.{AllByRecursion}
use Rattle.std.proofs.lemmas.List.{map-id, length-map}
use Rattle.std.proofs.lemmas.List.Concat.{flat_map_single}
use Rattle.std.specs.Ordering.{nat_cmp}
use Rattle.std.specs.FinMap.Entries.{find}
use Rattle.sea_base.specs.declared.place.Slot.{Slot}
use Rattle.sea_ptree.specs.declared.kind.Kind.{Kind}
use Rattle.sea_ptree.specs.declared.link.Link.{Link}
use Rattle.sea_ptree.specs.Blocks.{Image}
use Rattle.sea_ptree.specs.Node.{Entry, Fits}
use Rattle.sea_ptree.specs.Tree.{Item, pairs, entry_of, Stands, Holds, NodeAt, Guides, IsBelowNext, link_of}
use Rattle.sea_ptree.proofs.Guiding.{one_node}
use Rattle.sea_ptree.proofs.Items.{all_pairs, AllStand, IsToward, parted, find_parted, all_above, find_none, picked, Parted}
use Rattle.sea_ptree.proofs.Rising.{Lie, Lie-rising, rising_from_zero}

all_both : (P : Entry → Type 0) (es fs : List Entry) → AllByRecursion P es → AllByRecursion P fs → AllByRecursion P (es ++ fs)
all_both P [] fs all_e all_f = all_f
all_both P (e ∷ es) fs all_e all_f = (all_e.0, all_both P es fs all_e.1 all_f)

-- the pairs below nodes fit their fields
fit_each : (kind : Kind) (image : Image) (level : ℕ) → ((x : Item level) → Fits (entry_of level x) → Stands kind image level x → AllByRecursion Fits (pairs level x)) → (items : List (Item level)) → AllByRecursion Fits (map (entry_of level) items) → AllStand kind image level items → AllByRecursion Fits (all_pairs level items)
fit_each kind image level each [] fits all = tt
fit_each kind image level each (x ∷ xs) fits all = all_both Fits (pairs level x) (all_pairs level xs) (each x fits.0 all.0) (fit_each kind image level each xs fits.1 all.1)

item_fits : (kind : Kind) (image : Image) (level : ℕ) (x : Item level) → Fits (entry_of level x) → Stands kind image level x → AllByRecursion Fits (pairs level x)
item_fits kind image zero x fits stands = (fits, tt)
item_fits kind image (suc level) x fits stands = fit_each kind image level (item_fits kind image level) x.1 stands.0.spells.node.fits stands.2

pub pairs_fit : (kind : Kind) (image : Image) (level : ℕ) (items : List (Item level)) → AllByRecursion Fits (map (entry_of level) items) → AllStand kind image level items → AllByRecursion Fits (all_pairs level items)
pairs_fit kind image level = fit_each kind image level (item_fits kind image level)

-- the keys below a node rise between 0 and 2^64
pub held_lie : (kind : Kind) (image : Image) (level : ℕ) (link : Link) (items : List (Item level)) → Holds kind image level link items → Lie 0 (2 ^ 64) (all_pairs level items)
held_lie kind image level link items holds =
    rising_from_zero (all_pairs level items) (pairs_fit kind image level items holds.node.spells.node.fits holds.stand) holds.rising

-- the pairs of a leaf are its entries
pub leaf_pairs : (items : List Entry) → all_pairs zero items ≡ items
leaf_pairs items = flat_map_single (λ (e : Entry). e) items ∙ map-id items

-- an item of a node stands below its own link
pub item_held : (kind : Kind) (image : Image) (level : ℕ) (x : Item (suc level)) (low high : ℕ) → Stands kind image (suc level) x → Lie low high (pairs (suc level) x) → Holds kind image level x.0 x.1
item_held kind image level x low high stands lie = record { node = stands.0; stand = stands.2; rising = Lie-rising low high (pairs (suc level) x) lie }

pub stands_at : (kind : Kind) (image : Image) (level : ℕ) (bs : List (Item level)) (x : Item level) (cs : List (Item level)) → AllStand kind image level (bs ++ x ∷ cs) → Stands kind image level x
stands_at kind image level [] x cs all = all.0
stands_at kind image level (b ∷ bs) x cs all = stands_at kind image level bs x cs all.1

-- the item on the way of a key, with what stands around it
pub record OnWay (kind : Kind) (image : Image) (level key index : ℕ) (items : List (Item level)) (entry : Entry) : Type 0 where
  pub before : List (Item level)
  pub item : Item level
  pub after : List (Item level)
  pub split : items ≡ before ++ item ∷ after
  pub index_is : length before ≡ index
  pub entry_is : entry_of level item ≡ entry
  pub stands : Stands kind image level item
  pub parts : Parted key level before item after

pub on_way : (kind : Kind) (image : Image) (level : ℕ) (link : Link) (key : ℕ) (items : List (Item level)) (e : Entry) → Holds kind image level link items → (guides : Guides key (map (entry_of level) items) e) → OnWay kind image level key (length guides.before) items e
on_way kind image level link key items e holds guides =
    let p = picked level items guides.before e guides.after guides.split in
    let all = subst (AllStand kind image level) p.split holds.stand in
    record {
      before = p.front;
      item = p.item;
      after = p.back;
      split = p.split;
      index_is = sym (length-map p.front (entry_of level)) ∙ ap length p.front_is;
      entry_is = p.item_is;
      stands = stands_at kind image level p.front p.item p.back all;
      parts = parted kind image level key 0 (2 ^ 64) p.front p.item p.back all (subst (λ (xs : List (Item level)). Lie 0 (2 ^ 64) (all_pairs level xs)) p.split (held_lie kind image level link items holds))
          (toward p.front p.item (subst (λ (x : Entry). x.0 ≤ key) (sym p.item_is) guides.not_above)) (subst (IsBelowNext key) (sym p.back_is) guides.next);
    }
  where
    toward : (bs : List (Item level)) (x : Item level) → (entry_of level x).0 ≤ key → IsToward level key bs x
    toward [] x le = tt
    toward (b ∷ bs) x le = le

-- ---- what is found

pub held_nowhere : (kind : Kind) (image : Image) (level : ℕ) (link : Link) (key : ℕ) (es : List Entry) → NodeAt kind image level link es → IsBelowNext key es → (items : List (Item level)) → Holds kind image level link items → None ≡ find nat_cmp key (all_pairs level items)
held_nowhere kind image level link key es node next items holds =
    let same = one_node kind image level link es (map (entry_of level) items) node holds.node in
    sym (find_none key (all_pairs level items) (all_above kind image level key 0 (2 ^ 64) items holds.stand (held_lie kind image level link items holds) (subst (IsBelowNext key) same next)))

pub held_leaf : (kind : Kind) (image : Image) (link : Link) (key : ℕ) (es : List Entry) (found : Option Slot) → NodeAt kind image 0 link es → found ≡ find nat_cmp key es → (items : List Entry) → Holds kind image 0 link items → found ≡ find nat_cmp key (all_pairs 0 items)
held_leaf kind image link key es found node is items holds =
    is ∙ ap (find nat_cmp key) (one_node kind image 0 link es (map (entry_of 0) items) node holds.node ∙ map-id items ∙ sym (leaf_pairs items))

pub held_on : (kind : Kind) (image : Image) (level : ℕ) (link : Link) (key : ℕ) (es : List Entry) (e : Entry) (found : Option Slot) → NodeAt kind image (suc level) link es → Guides key es e
    → ((items : List (Item level)) → Holds kind image level (link_of e.1) items → found ≡ find nat_cmp key (all_pairs level items)) → (items : List (Item (suc level))) → Holds kind image (suc level) link items → found ≡ find nat_cmp key (all_pairs (suc level) items)
held_on kind image level link key es e found node guides below items holds =
    let same = one_node kind image (suc level) link es (map (entry_of (suc level)) items) node holds.node in
    let way = on_way kind image (suc level) link key items e holds (subst (λ (xs : List Entry). Guides key xs e) same guides) in
    let child = item_held kind image level way.item way.parts.low way.parts.high way.stands way.parts.here in
    below way.item.1 (subst (λ (x : Entry). Holds kind image level (link_of x.1) way.item.1) way.entry_is child)
    ∙ sym (ap (λ (xs : List (Item (suc level))). find nat_cmp key (all_pairs (suc level) xs)) way.split ∙ find_parted key (suc level) way.before way.item way.after way.parts)
