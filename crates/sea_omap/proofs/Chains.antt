-- Keys changed one after the other: what each change of a key leaves, added up.
use Rattle.std.proofs.Common.{◌≡◌, inl, inr, ℕ, ◌+◌, ◌*◌, ◌≤◌, List, [], ◌∷◌, ◌++◌, length, Option, Some, None, refl, sym, subst, arith}
use Rattle.sea_base.specs.Space.{Store, Seen, Agrees}
use Rattle.sea_base.proofs.Spaces.{agrees_before, only_read-refl}
use Rattle.sea_tree.specs.Plan.{plan_changes}
use Rattle.sea_tree.specs.Does.{ChangesAtMost}
use Rattle.sea_tree.specs.Form.{HasForm}
use Rattle.sea_tree.proofs.Doing.{Does-agrees, ChangesAtMost-read, ChangesAtMost-then}
use Rattle.sea_omap.specs.Changes.{Change, HasKeyForm, ChangesKey, ChangesKeys}
use Rattle.sea_omap.proofs.Given.{Gives, key_gives}

-- one more
pub changes_more : (root : ℕ) (changes : List Change) (change : Change) (found : List (Option (List ℕ))) (here : Option (List ℕ)) (a b c : Seen) → ChangesKeys root changes found a b → ChangesKey root change here b c → ChangesKeys root (changes ++ change ∷ []) (found ++ here ∷ []) a c
changes_more root [] change found here a b c done step =
    subst (λ (fs : List (Option (List ℕ))). ChangesKeys root (change ∷ []) (fs ++ here ∷ []) a c) (sym done.0)
    (c, subst (λ (s : Seen). ChangesKey root change here s c) done.1 step, (refl, refl))
changes_more root (first ∷ changes) change [] here a b c done step = absurd done
changes_more root (first ∷ changes) change (f ∷ found) here a b c done step =
    (done.0, done.1, changes_more root changes change found here done.0 b c done.2 step)

-- a store that agrees afterwards agreed before
form_agrees : (root : ℕ) (key : List ℕ) (value : Option (List ℕ)) (old new : Seen) → HasForm root key value old new → (store : Store) → Agrees store new → Agrees store old
form_agrees root key value old new form store agrees =
    agrees_before form.reads (Does-agrees [] form.plans store (Does-agrees (plan_changes form.plan) form.writes store agrees))

pub key_agrees : (root : ℕ) (key : List ℕ) (value found : Option (List ℕ)) (old new : Seen) → HasKeyForm root key value found old new → (store : Store) → Agrees store new → Agrees store old
key_agrees root key (Some value) found old new (inl form) store agrees = form_agrees root key (Some value) old new form store agrees
key_agrees root key (Some value) found old new (inr first) store agrees = agrees_before first.reads (Does-agrees _ first.writes store agrees)
key_agrees root key None None old new reads store agrees = agrees_before reads agrees
key_agrees root key None (Some value) old new form store agrees = form_agrees root key None old new form store agrees

pub keys_agree : (root : ℕ) (changes : List Change) (found : List (Option (List ℕ))) (old new : Seen) → ChangesKeys root changes found old new → (store : Store) → Agrees store new → Agrees store old
keys_agree root [] found old new done store agrees = subst (Agrees store) done.1 agrees
keys_agree root (change ∷ changes) [] old new done store agrees = absurd done
keys_agree root (change ∷ changes) (here ∷ found) old new done store agrees =
    key_agrees root change.0 change.1 here old done.0 done.1.form store (keys_agree root changes found done.0 new done.2 store agrees)

-- what all were given
pub record GiveAll (keys : ℕ) (old new : Seen) : Type 0 where
  pub rises : old.next ≤ new.next
  pub few : new.next ≤ old.next + 9 * keys

pub give_none : (old : Seen) → GiveAll 0 old old
give_none old = record { rises = omega arith; few = omega arith }

pub give_more : (keys : ℕ) (a b c : Seen) → GiveAll keys a b → Gives b c → GiveAll (keys + 1) a c
give_more keys a b c all one = record { rises = omega (arith, one.rises, all.rises); few = omega (arith, one.few, all.few) }

pub keys_give : (root : ℕ) (changes : List Change) (found : List (Option (List ℕ))) (old new : Seen) → ChangesKeys root changes found old new → GiveAll (length changes) old new
keys_give root [] found old new done = subst (λ (s : Seen). GiveAll 0 old s) (sym done.1) (give_none old)
keys_give root (change ∷ changes) [] old new done = absurd done
keys_give root (change ∷ changes) (here ∷ found) old new done =
    let one = key_gives root change.0 change.1 here old done.0 done.1.form in
    let all = keys_give root changes found done.0 new done.2 in
    record { rises = omega (arith, one.rises, all.rises); few = omega (arith, one.few, all.few) }

-- how many blocks all changed
pub keys_few : (root : ℕ) (changes : List Change) (found : List (Option (List ℕ))) (old new : Seen) → ChangesKeys root changes found old new → ChangesAtMost (length changes * 17) old new
keys_few root [] found old new done = subst (ChangesAtMost 0 old) (sym done.1) (ChangesAtMost-read (only_read-refl old))
keys_few root (change ∷ changes) [] old new done = absurd done
keys_few root (change ∷ changes) (here ∷ found) old new done =
    let few : length changes * 17 + 17 ≡ length (change ∷ changes) * 17 = omega arith in
    subst (λ (n : ℕ). ChangesAtMost n old new) few (ChangesAtMost-then 17 (length changes * 17) done.1.footprint.few (keys_few root changes found done.0 new done.2))
