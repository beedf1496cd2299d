-- Keys changed one by one in a loop: one more, the end, and one that failed.
use Rattle.std.proofs.Common.{◌≡◌, ℕ, suc, ◌+◌, ◌*◌, ◌<◌, ◌≤◌, List, [], ◌∷◌, ◌++◌, length, map, get_or, take, drop, Bool, cond, Option, is_some, is_none, sym, ap, subst, ◌∙◌, arith}
use Rattle.std.specs.List.{count_by}
use Rattle.std.proofs.Math.ListN.{get_or-map}
use Rattle.std.proofs.Math.Seq.{drop-cons}
use Rattle.std.proofs.lemmas.List.{take_all, take_more, take-append-drop, length-take, length-map}
use Rattle.std.proofs.lemmas.List.Sums.{sum_by-append, count_by-le-length}
use Rattle.sea_base.specs.Space.{Store, Seen}
use Rattle.std.specs.FinMap as finite
use Rattle.sea_node.specs.Entries.{Entry, Values}
use Rattle.sea_object.specs.Objects.{with_pairs, without_keys}
use Rattle.sea_tree.specs.declared.fault.TreeFault.{TreeFault}
use Rattle.sea_tree.specs.Calls.{ChangeFailure}
use Rattle.sea_tree.specs.Does.{ChangesAtMost}
use Rattle.sea_omap.specs.Changes.{Change, puts, removals, ChangesKey, ChangesKeys}
use Rattle.sea_omap.specs.Calls.{Counts, Fails, Footprint, Meets, Becomes}
use Rattle.sea_omap.proofs.Chains.{changes_more, keys_few}
use Rattle.sea_omap.proofs.Contents.{found_in, after_puts, after_removals, puts_counted, removals_counted}
use Rattle.sea_omap.proofs.Stores.{keys_make, never_full}

-- the change of an item of a list, at its index
pub change_at : {X : Type 0} (f : X → Change) (xs ys : List X) (i : ℕ) (item : X) → ys ≡ xs → i < length ys → item ≡ get_or ys i item → (i < length (map f xs)) × (get_or (map f xs) i (f item) ≡ f item)
change_at f xs ys i item same within is = (
  omega (arith, length-map xs f, ap length same),
  get_or-map f xs i item ∙ ap (λ (l : List _). f (get_or l i item)) (sym same) ∙ sym (ap f is),
)

pub all_changes : {X : Type 0} (f : X → Change) (xs ys : List X) (i : ℕ) → ys ≡ xs → length ys ≤ i → take i (map f xs) ≡ map f xs
all_changes f xs ys i same past = take_all i (map f xs) (omega (arith, length-map xs f, ap length same))

-- one more
pub counts_more : (root : ℕ) (changes : List Change) (i : ℕ) (change : Change) (test : Option (List ℕ) → Bool) (count next : ℕ) (here : Option (List ℕ)) (a b c : Seen) → i < length changes → get_or changes i change ≡ change → Counts root (take i changes) test count a b → ChangesKey root change here b c → next ≡ count + cond (test here) 1 0 → Counts root (take (i + 1) changes) test next a c
counts_more root changes i change test count next here a b c within is done step counted =
    let more : take (i + 1) changes ≡ take i changes ++ change ∷ [] = take_more changes i change within ∙ ap (λ (x : Change). take i changes ++ x ∷ []) is in
    subst (λ (cs : List Change). Counts root cs test next a c) (sym more) (record {
      found = done.found ++ here ∷ [];
      changed = changes_more root (take i changes) change done.found here a b c done.changed step;
      counted = omega (arith, counted, done.counted, sum_by-append (λ (x : Option (List ℕ)). cond (test x) 1 0) done.found (here ∷ []));
    })

-- a count is at most that of the keys
found_each : (root : ℕ) (changes : List Change) (found : List (Option (List ℕ))) (old new : Seen) → ChangesKeys root changes found old new → length found ≡ length changes
found_each root [] found old new done = ap length done.0
found_each root (change ∷ changes) [] old new done = absurd done
found_each root (change ∷ changes) (here ∷ found) old new done = ap suc (found_each root changes found done.0 new done.2)

pub counts_few : (root : ℕ) (changes : List Change) (test : Option (List ℕ) → Bool) (count : ℕ) (old new : Seen) → Counts root changes test count old new → count ≤ length changes
counts_few root changes test count old new done =
    omega (arith, done.counted, count_by-le-length test done.found, found_each root changes done.found old new done.changed)

-- one that failed
pub fails_at : (root : ℕ) (changes : List Change) (i : ℕ) (change : Change) (test : Option (List ℕ) → Bool) (count : ℕ) (old mid new : Seen) (fault : TreeFault) → i < length changes → length changes ≤ 65536 → get_or changes i change ≡ change → Counts root (take i changes) test count old mid → ChangeFailure root change.0 mid new fault → Fails root changes old new fault
fails_at root changes i change test count old mid new fault within few is done failure = record {
  done = take i changes;
  change = change;
  rest = drop (suc i) changes;
  split = sym (take-append-drop i changes) ∙ ap (λ (cs : List Change). take i changes ++ cs) (drop-cons changes i change within ∙ ap (λ (x : Change). x ∷ drop (suc i) changes) is);
  found = done.found;
  mid = mid;
  changed = done.changed;
  failure = failure;
  never_full = never_full root (take i changes) done.found change.0 old mid new fault (omega (arith, length-take i changes)) done.changed failure;
}

-- the end
pub has_footprint : (root : ℕ) (changes : List Change) (test : Option (List ℕ) → Bool) (count keys : ℕ) (old new : Seen) → keys ≡ length changes → Counts root changes test count old new → Footprint root keys old new
has_footprint root changes test count keys old new all done = record {
  reads = λ store content meets. (keys_make store root changes done.found content old new done.changed meets).reads;
  changes = λ store content meets. (keys_make store root changes done.found content old new done.changed meets).changed;
  few = subst (λ (n : ℕ). ChangesAtMost (n * 17) old new) (sym all) (keys_few root changes done.found old new done.changed);
}

pub set_becomes : (root : ℕ) (pairs : List Entry) (count : ℕ) (old new : Seen) → Counts root (puts pairs) is_none count old new → (store : Store) (content : Values) → Meets store root old new content → (finite.len (with_pairs pairs content) ≡ finite.len content + count) × Becomes store root old new (with_pairs pairs content)
set_becomes root pairs count old new done store content meets =
    let made = keys_make store root (puts pairs) done.found content old new done.changed meets in
    let same : count ≡ count_by is_none (found_in (puts pairs) content) = done.counted ∙ ap (count_by is_none) made.found_is in
    (omega (arith, same, puts_counted pairs content), subst (Becomes store root old new) (after_puts pairs content) made.becomes)

pub unset_becomes : (root : ℕ) (keys : List (List ℕ)) (count : ℕ) (old new : Seen) → Counts root (removals keys) is_some count old new → (store : Store) (content : Values) → Meets store root old new content → (finite.len content ≡ finite.len (without_keys keys content) + count) × Becomes store root old new (without_keys keys content)
unset_becomes root keys count old new done store content meets =
    let made = keys_make store root (removals keys) done.found content old new done.changed meets in
    let same : count ≡ count_by is_some (found_in (removals keys) content) = done.counted ∙ ap (count_by is_some) made.found_is in
    (omega (arith, same, removals_counted keys content), subst (Becomes store root old new) (after_removals keys content) made.becomes)
