-- The onode of an open object is saved: the store is well formed with the object.
use Rattle.std.proofs.Common.{◌≡◌, inl, inr, ℕ, ◌<◌, ◌≤◌, ◌^◌, max, List, Option, Some, None, refl, sym, ap, subst, ◌∙◌, arith}
use Rattle.std.specs.FinMap as map
use Rattle.sea_base.specs.Space.{Store}
use Rattle.sea_node.specs.Entries.{Values}
use Rattle.sea_object.specs.declared.onode.Onode.{Onode}
use Rattle.sea_object.specs.Objects.{ObjectValue, ObjectMap}
use Rattle.sea_onode.specs.Onodes.{Onodes, AreSpelled}
use Rattle.sea_onode.specs.Spelling.{IsValueOf}
use Rattle.sea_tree.specs.Changing.{Changed}
use Rattle.sea_ops.specs.WellFormed.{IsObjectOf, AreOfOne, IsOwnRoot, IsWellFormed}
use Rattle.sea_ops.specs.Calls.{IsFree}
use Rattle.sea_ops.proofs.Frames.{Stands, reshaped, stands_kept, free_kept}
use Rattle.sea_ops.proofs.Made.{order_of}
use Rattle.sea_ops.proofs.Opened.{Opened, put_here, put_other, cases_name}
use Rattle.sea_ops.proofs.Turned.{object_stays}

module _ (mid is : Store) (next second last : ℕ) (objects : ObjectMap) (saved all : Onodes) (name : List ℕ) (x : Onode) (o : ObjectValue) (p : Opened mid next objects saved all name x o) (bounded : next < 2 ^ 64) (fresh : (at : ℕ) → second ≤ at → at < last → IsFree mid all at)
    (after : Values) (c : Changed mid is 1 second last after) (spelled : AreSpelled after (map.insert saved name x)) where
  kept : Stands is (max next last) all
  kept = stands_kept mid is next second last all 1 after p.stands (inl refl) fresh c

  same_onodes : (q : List ℕ) → map.get (map.insert saved name x) q ≡ map.get all q
  same_onodes q = elim (cases_name q name) [
    | inl e ↦ ap (map.get (map.insert saved name x)) e ∙ put_here saved name x ∙ sym (ap (map.get all) e ∙ p.here)
    | inr differs ↦ put_other saved name x q differs ∙ sym (p.others q differs)
  ]

  spelled_all : AreSpelled after all
  spelled_all q = subst (IsValueOf (map.get after q)) (same_onodes q) (spelled q)

  stays : (q : List ℕ) (z : Onode) → map.get all q ≡ Some z → (w : ObjectValue) → IsObjectOf mid z w → IsObjectOf is z w
  stays q z e w h =
      object_stays mid is next second last all 1 after p.stands (inl refl) fresh (reshaped mid is 1 second last after c) bounded q z e (low (p.stands.ranges q z e).0) w h
    where
      low : 2 ≤ z.base.0 → IsOwnRoot z 1 → ⊥
      low least (inl base) = omega (arith, base, least)
      low least (inr omap) = omega (arith, omap, least)

  other_stays : (q : List ℕ) (onode : Option Onode) (object : Option ObjectValue) → map.get all q ≡ onode → AreOfOne mid onode object → AreOfOne is onode object
  other_stays q None None e h = tt
  other_stays q None (Some w) e h = absurd h
  other_stays q (Some z) None e h = absurd h
  other_stays q (Some z) (Some w) e h = stays q z e w h

  each_now : (q : List ℕ) → AreOfOne is (map.get all q) (map.get (map.insert objects name o) q)
  each_now q = elim (cases_name q name) [
    | inl e ↦
        subst (λ (z : Option Onode). AreOfOne is z (map.get (map.insert objects name o) q)) (sym (ap (map.get all) e ∙ p.here))
        (subst (AreOfOne is (Some x)) (sym (ap (map.get (map.insert objects name o)) e ∙ put_here objects name o)) (stays name x p.here o p.object))
    | inr differs ↦ subst (AreOfOne is (map.get all q)) (sym (put_other objects name o q differs)) (other_stays q (map.get all q) (map.get objects q) refl (p.each q differs))
  ]

  saved_formed : IsWellFormed is (max next last) (map.insert objects name o)
  saved_formed = record {
    onodes = all;
    order = order_of is (max next last) all kept (record { content = after; tree = c.content; spelled = spelled_all }) p.counts;
    each = each_now;
    shared = kept.shared;
  }

  saved_free : (at : ℕ) → IsFree mid all at → ((second ≤ at) × (at < last) → ⊥) → IsFree is all at
  saved_free = free_kept mid is next second last all 1 after p.stands (inl refl) fresh c

  pub opened_saved : (g : IsWellFormed is (max next last) (map.insert objects name o)) × ((at : ℕ) → IsFree mid all at → ((second ≤ at) × (at < last) → ⊥) → IsFree is g.onodes at)
  unfolding saved_formed
  opened_saved = (saved_formed, saved_free)
