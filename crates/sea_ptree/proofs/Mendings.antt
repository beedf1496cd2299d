-- A node that was changed, put among its neighbours, and what stands below it then.
use Rattle.std.proofs.Common.{◌≡◌, ℕ, zero, suc, ◌-◌, ◌/◌, ◌≤◌, ◌^◌, List, [], ◌∷◌, ◌++◌, length, take, drop, refl, sym, ap, subst, ◌∙◌, arith, inl, inr, take-append-drop, length-drop}
use Rattle.std.proofs.lemmas.List.{map-append, length-take-le}
use Rattle.std.proofs.lemmas.List.Concat.{flat_map-append}
use Rattle.sea_base.specs.declared.place.Paddr.{Paddr}
use Rattle.sea_ptree.specs.declared.kind.Kind.{Kind}
use Rattle.sea_ptree.specs.declared.making.Making.{Making}
use Rattle.sea_ptree.specs.Blocks.{Image}
use Rattle.sea_ptree.specs.Fresh.{HasBlocks, times, numbers}
use Rattle.sea_ptree.specs.Mending.{WroteParts, WroteTwo}
use Rattle.sea_ptree.specs.Node.{Entry, Fits, MayStand}
use Rattle.sea_ptree.specs.Rebuilding.{Exchanges, Rebuilt}
use Rattle.sea_ptree.specs.Tree.{Item, pairs, places, entry_of, Stands}
use Rattle.sea_ptree.proofs.Items.{all_pairs, AllStand}
use Rattle.sea_ptree.proofs.Makings.{has_before, wrote_onward, exchanges_by, exchanges_turned, exchanges_as}
use Rattle.sea_ptree.proofs.Rebuilding.{all_places, entries_of, AllFit, AllMayStand, all_both, all_front, all_back, written, rebuilt_as}
use Rattle.sea_ptree.proofs.Rising.{Lie, Lie-split}

-- ---- exchanges

pub exchanges_none : (at : Making) (is : List ℕ) → Exchanges at at is is
exchanges_none at is = record { balance = λ q. refl; dead = λ q. omega arith }

-- what was exchanged, and written anew
pub exchanges_after : (a b c : Making) (was mid is : List ℕ) → c.dead.items ≡ b.dead.items → Exchanges a b was mid → Exchanges b c mid is → Exchanges a c was is
exchanges_after a b c was mid is same first second = record {
  balance = λ q. omega (arith, first.balance q, second.balance q);
  dead = λ q. omega (arith, first.dead q, ap (λ (ds : List Paddr). times q (numbers ds)) same);
}

-- ---- side by side

pub beside : (kind : Kind) (new : Image) (level : ℕ) (es fs ps qs : List Entry) (a b c : Making) (was was' : List ℕ) → Rebuilt kind new level es ps a b was → Rebuilt kind new level fs qs b c was' → Rebuilt kind new level (es ++ fs) (ps ++ qs) a c (was ++ was')
beside kind new level es fs ps qs a b c was was' r s = record {
  items = r.items ++ s.items;
  entries_are = map-append (entry_of level) r.items s.items ∙ (λ i. r.entries_are i ++ s.entries_are i);
  stand = all_both (Stands kind new level) r.items s.items r.stand s.stand;
  fits = all_both Fits es fs r.fits s.fits;
  slots = all_both (λ (e : Entry). MayStand kind level e.1) es fs r.slots s.slots;
  pairs_are = flat_map-append (pairs level) r.items s.items ∙ (λ i. r.pairs_are i ++ s.pairs_are i);
  exchanges = exchanges_as a c (was ++ was') (was ++ was') (all_places level r.items ++ all_places level s.items) (all_places level (r.items ++ s.items)) refl (sym (flat_map-append (places level) r.items s.items)) (exchanges_by a b c was (all_places level r.items) was' (all_places level s.items) r.exchanges s.exchanges);
}

-- the second stands before the first
pub before : (kind : Kind) (new : Image) (level : ℕ) (es fs ps qs : List Entry) (a b c : Making) (was was' : List ℕ) → Rebuilt kind new level es ps a b was → Rebuilt kind new level fs qs b c was' → Rebuilt kind new level (fs ++ es) (qs ++ ps) a c (was' ++ was)
before kind new level es fs ps qs a b c was was' r s = record {
  items = s.items ++ r.items;
  entries_are = map-append (entry_of level) s.items r.items ∙ (λ i. s.entries_are i ++ r.entries_are i);
  stand = all_both (Stands kind new level) s.items r.items s.stand r.stand;
  fits = all_both Fits fs es s.fits r.fits;
  slots = all_both (λ (e : Entry). MayStand kind level e.1) fs es s.slots r.slots;
  pairs_are = flat_map-append (pairs level) s.items r.items ∙ (λ i. s.pairs_are i ++ r.pairs_are i);
  exchanges = exchanges_as a c (was' ++ was) (was' ++ was) (all_places level s.items ++ all_places level r.items) (all_places level (s.items ++ r.items)) refl (sym (flat_map-append (places level) s.items r.items))
      (exchanges_turned a c was was' (all_places level r.items) (all_places level s.items) (exchanges_by a b c was (all_places level r.items) was' (all_places level s.items) r.exchanges s.exchanges));
}

-- ---- fresh nodes

front_map : (level count : ℕ) (items : List (Item level)) → (entries_of level (take count items) ≡ take count (entries_of level items)) × (entries_of level (drop count items) ≡ drop count (entries_of level items))
front_map level zero items = (refl, refl)
front_map level (suc count) [] = (refl, refl)
front_map level (suc count) (x ∷ xs) = let rest = front_map level count xs in (ap (λ (es : List Entry). entry_of level x ∷ es) rest.0, rest.1)

-- a part of what was rebuilt
part : (kind : Kind) (new : Image) (level : ℕ) (items : List (Item level)) (es : List Entry) (at : Making) → entries_of level items ≡ es → AllStand kind new level items → AllFit es → AllMayStand kind level es → Rebuilt kind new level es (all_pairs level items) at at (all_places level items)
part kind new level items es at is stand fits slots = record {
  items = items;
  entries_are = is;
  stand = stand;
  fits = fits;
  slots = slots;
  pairs_are = refl;
  exchanges = exchanges_none at (all_places level items);
}

two_written : (kind : Kind) (new : Image) (level place : ℕ) (es ps parts : List Entry) (first old made : Making) (was : List ℕ) → Lie 0 (2 ^ 64) ps → Rebuilt kind new level es ps first old was → WroteTwo old made level es parts → old.kind ≡ kind → place ≡ old.place → HasBlocks new place made.nodes.items
    → level ≤ 7 → length es ≤ 209 → Rebuilt kind new (suc level) parts ps first made was
two_written kind new level place es ps parts first old made was lie r w same at has fits room =
    let half = length es / 2 in
    let I = take (length es / 2) r.items in
    let J = drop (length es / 2) r.items in
    let split = front_map level (length es / 2) r.items in
    let all : take (length es / 2) r.items ++ drop (length es / 2) r.items ≡ r.items = take-append-drop (length es / 2) r.items in
    let es_all : take (length es / 2) es ++ drop (length es / 2) es ≡ es = take-append-drop (length es / 2) es in
    let stand = subst (AllStand kind new level) (sym all) r.stand in
    let fit = subst AllFit (sym es_all) r.fits in
    let slots = subst (AllMayStand kind level) (sym es_all) r.slots in
    let may : Entry → Type 0 = λ e. MayStand kind level e.1 in
    let ps_are : all_pairs level I ++ all_pairs level J ≡ ps = sym (flat_map-append (pairs level) I J) ∙ ap (all_pairs level) all ∙ r.pairs_are in
    let places_are : all_places level I ++ all_places level J ≡ all_places level r.items = sym (flat_map-append (places level) I J) ∙ ap (all_places level) all in
    let apart = Lie-split 0 (2 ^ 64) (all_pairs level I) (all_pairs level J) (subst (Lie 0 (2 ^ 64)) (sym ps_are) lie) in
    let front = part kind new level I (take (length es / 2) es) old (split.0 ∙ ap (take (length es / 2)) r.entries_are) (all_front (Stands kind new level) I J stand) (all_front Fits (take (length es / 2) es) (drop (length es / 2) es) fit) (all_front may (take (length es / 2) es) (drop (length es / 2) es) slots) in
    let back = part kind new level J (drop (length es / 2) es) w.mid (split.1 ∙ ap (drop (length es / 2)) r.entries_are) (all_back (Stands kind new level) I J stand) (all_back Fits (take (length es / 2) es) (drop (length es / 2) es) fit) (all_back may (take (length es / 2) es) (drop (length es / 2) es) slots) in
    let len_f : length (take (length es / 2) es) ≡ length es / 2 = length-take-le (length es / 2) es (omega arith) in
    let len_b : length (drop (length es / 2) es) ≡ length es - length es / 2 = length-drop (length es / 2) es in
    let has' = has_before w.mid made new place (wrote_onward w.mid made level (drop (length es / 2) es) w.second w.back) has in
    let x = written kind new level 0 apart.mid place (take (length es / 2) es) (all_pairs level I) old old w.mid (all_places level I) w.first apart.front front w.front same at has' fits (omega (arith, w.many, len_f)) (omega (arith, room, len_f)) in
    let y = written kind new level apart.mid (2 ^ 64) place (drop (length es / 2) es) (all_pairs level J) w.mid w.mid made (all_places level J) w.second apart.back back w.back (w.front.kind ∙ same) (at ∙ sym w.front.place) has fits (omega (arith, w.many, len_b)) (omega (arith, room, len_b)) in
    let both = beside kind new (suc level) (w.first ∷ []) (w.second ∷ []) (all_pairs level I) (all_pairs level J) old w.mid made (all_places level I) (all_places level J) x y in
    let both' = rebuilt_as kind new (suc level) (w.first ∷ w.second ∷ []) parts (all_pairs level I ++ all_pairs level J) ps old made (all_places level I ++ all_places level J) (all_places level r.items) (sym w.parts_are) ps_are places_are both in
    record {
      items = both'.items;
      entries_are = both'.entries_are;
      stand = both'.stand;
      fits = both'.fits;
      slots = both'.slots;
      pairs_are = both'.pairs_are;
      exchanges = exchanges_after first old made was (all_places level r.items) (all_places (suc level) both'.items) (w.back.dead ∙ w.front.dead) r.exchanges both'.exchanges;
    }

pub parts_written : (kind : Kind) (new : Image) (level place : ℕ) (es ps parts : List Entry) (first old made : Making) (was : List ℕ) → Lie 0 (2 ^ 64) ps → Rebuilt kind new level es ps first old was → WroteParts old made level es parts → old.kind ≡ kind → place ≡ old.place → HasBlocks new place made.nodes.items
    → level ≤ 7 → 37 ≤ length es → length es ≤ 209 → Rebuilt kind new (suc level) parts ps first made was
parts_written kind new level place es ps parts first old made was lie r (inl none) same at has fits some room = absurd (omega (arith, ap length none.none))
parts_written kind new level place es ps parts first old made was lie r (inr (inl one)) same at has fits some room =
    subst (λ (xs : List Entry). Rebuilt kind new (suc level) xs ps first made was) (sym one.parts_are)
    (written kind new level 0 (2 ^ 64) place es ps first old made was one.entry lie r one.wrote same at has fits some one.room)
parts_written kind new level place es ps parts first old made was lie r (inr (inr two)) same at has fits some room =
    two_written kind new level place es ps parts first old made was lie r two same at has fits room
