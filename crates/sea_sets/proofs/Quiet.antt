-- Notes that have not moved.
use Rattle.std.proofs.Common.{◌≡◌, ℕ, Bool, true, false, cond, List, [], ◌∷◌, ◌++◌, Less, Option, Some, None, Result, Ok, Err, OnOk, OnErr, refl, sym, subst, ◌∙◌, map, Bor}
use Rattle.std.specs.Ordering.{nat_cmp}
use Rattle.std.specs.Cmp.{nat_cmp_total}
use Rattle.std.specs.BTreeMap.{BTreeMap, IsUnchanged, Updates, is_at}
use Rattle.std.specs.List.{All, AllByRecursion}
use Rattle.std.specs.List.Sorted.{IsStrictlySortedBy}
use Rattle.std.specs.Map.{lookup, keys_of}
use Rattle.std.specs.Map.Iter.{deref_pair}
use Rattle.std.proofs.lemmas.List.Elements.{recursion_from_All}
use Rattle.std.proofs.lemmas.Map.{lookup-none}
use Rattle.std.proofs.lemmas.Map.Entries.{none_below_head}
use Rattle.std.proofs.lemmas.Option.{none-some, same_Some}
use Rattle.sea_base.specs.declared.place.Commit.{Commit}
use Rattle.sea_sets.specs.declared.notes.Change.{Change}
use Rattle.sea_sets.specs.declared.notes.Note.{Note}
use Rattle.sea_sets.specs.Versions.{IsQuiet, Stands, moved_on}

module _ (k : ℕ) (n : Note) where
  put_stands : (b : Bool) (old : Option Note) → n.current ≡ n.seen → Stands old → Stands (cond b (Some n) old)
  put_stands true old same rest = λ x found. subst (λ m. m.current ≡ m.seen) (same_Some n x found) same
  put_stands false old same rest = rest

  -- a note that stands is put among others, or there was no memory for it
  pub put_quiet : {T E : Type 0} (r : Result T E) (old new : BTreeMap ℕ Note) → OnOk r (Updates nat_cmp old new k (Some n)) →
      OnErr r (IsUnchanged old new) → n.current ≡ n.seen → IsQuiet old → IsQuiet new
  put_quiet (Ok x) old new put unchanged same quiet = λ at. subst (λ o. Stands o) (sym (put.0 at)) (put_stands _ _ same (quiet at))
  put_quiet (Err e) old new put unchanged same quiet = λ at. subst (λ es. Stands (lookup (is_at (nat_cmp at)) es)) (sym unchanged) (quiet at)

-- what stands among the first entries of those in order stands of each key below the next one
pub stands_below : (es rest : List (ℕ × Note)) (e : ℕ × Note) → IsStrictlySortedBy nat_cmp (keys_of (es ++ e ∷ rest)) → AllByRecursion (λ f. f.1.current ≡ f.1.seen) es →
    (q : ℕ) → nat_cmp q e.0 ≡ Less → Stands (lookup (is_at (nat_cmp q)) (es ++ e ∷ rest))
unfolding IsStrictlySortedBy
stands_below [] rest e sorted stand q below = λ x found. absurd (none-some x (sym (lookup-none _ (e ∷ rest) (none_below_head nat_cmp_total q e rest sorted below)) ∙ found))
stands_below (f ∷ es) rest e sorted stand q below =
    put_stands f.0 f.1 (is_at (nat_cmp q) f.0) _ stand.0 (stands_below es rest e sorted.1 stand.1 q below)

-- and where that is all of them, of each key
pub all_stand : (es : List (ℕ × Note)) → AllByRecursion (λ f. f.1.current ≡ f.1.seen) es → (q : ℕ) → Stands (lookup (is_at (nat_cmp q)) es)
all_stand [] stand q = λ x found. absurd (none-some x found)
all_stand (f ∷ es) stand q = put_stands f.0 f.1 (is_at (nat_cmp q) f.0) _ stand.0 (all_stand es stand.1 q)

-- one change, and then the others
pub moved_more : (commit : Commit) (change : Change) (changed : List Change) (at : ℕ) (note : Option Note) →
    moved_on commit changed at (moved_on commit (change ∷ []) at note) ≡ moved_on commit (change ∷ changed) at note
moved_more commit change changed at None = refl
moved_more commit change changed at (Some note) = refl

-- the same of what was lent
pub stands_through : (lent : List (Bor ℕ × Bor Note)) (es : List (ℕ × Note)) → map deref_pair lent ≡ es →
    All (λ f. f.1.now.current ≡ f.1.now.seen) lent → AllByRecursion (λ f. f.1.current ≡ f.1.seen) es
stands_through lent es is stand = subst (AllByRecursion (λ f. f.1.current ≡ f.1.seen)) is (go lent (recursion_from_All _ lent stand))
  where
    go : (lent : List (Bor ℕ × Bor Note)) → AllByRecursion (λ f. f.1.now.current ≡ f.1.now.seen) lent → AllByRecursion (λ f. f.1.current ≡ f.1.seen) (map deref_pair lent)
    go [] all = tt
    go (f ∷ fs) all = (all.0, go fs all.1)
