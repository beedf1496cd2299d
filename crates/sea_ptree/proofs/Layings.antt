-- A run laid over pairs, part by part.
use Rattle.std.proofs.Common.{◌≡◌, ℕ, suc, ◌+◌, ◌≤◌, ◌<◌, ◌^◌, Bool, true, false, cond, not, List, [], ◌∷◌, ◌++◌, take, drop, Option, Some, None, refl, sym, ap, subst, ◌∙◌, arith, IsTrue, inl, inr, take-append-drop}
use Rattle.std.specs.Prelude.{T, ◌⊎◌}
use Rattle.std.specs.List.{AllByRecursion, filter}
use Rattle.std.proofs.lemmas.Bool.{cases_lt}
use Rattle.std.proofs.lemmas.Bool.Decides.{nat_tests}
use Rattle.std.proofs.lemmas.List.Elements.{filter-append}
use Rattle.std.specs.declared.cmp.Ordering.{Ordering}
use Rattle.std.specs.declared.cmp.Ordering.TheVariants.{Less, Equal, Greater}
use Rattle.std.specs.Ordering.{nat_cmp, eq_by_cmp}
use Rattle.std.specs.FinMap.{entries, entries_sorted}
use Rattle.std.specs.FinMap as finmap
use Rattle.std.specs.FinMap.Entries.{put, where_key, by_order, find, below_all, is_sorted, is_sorted-put, is_sorted-where_key, find-where_key}
use Rattle.std.proofs.lemmas.Cmp.{nat_cmp_total}
use Rattle.sea_base.specs.declared.place.Slot.{Slot}
use Rattle.sea_ptree.specs.declared.kind.Kind.{Kind}
use Rattle.sea_ptree.specs.Laying.{pairs_updated, pairs_laid_over, SlotFits, UpdateFits, RunFits, IsPlaceOf, StartsFrom}
use Rattle.sea_ptree.specs.Merging.{UpdateMayStand, RunMayStand}
use Rattle.sea_ptree.specs.Node.{Entry, Fits, MayStand, IsRising}
use Rattle.sea_ptree.specs.Run.{Update, updated, laid_over}
use Rattle.sea_ptree.specs.Tree.{Content}
use Rattle.sea_ptree.proofs.Items.{AllUnder, AllAbove, not_same}
use Rattle.sea_ptree.proofs.Rising.{Lie, Lie-weaker, first_of, second_of, less_told}

-- ---- numbers in order

data Compared (a b : ℕ) : Type 0 where
  is_below : a < b → nat_cmp a b ≡ Less → Compared a b
  is_same : a ≡ b → nat_cmp a b ≡ Equal → Compared a b
  is_above : b < a → nat_cmp a b ≡ Greater → Compared a b

cmp_less : (a b : ℕ) → a < b → nat_cmp a b ≡ Less
cmp_less a b h = grind (arith, nat_tests)

cmp_equal : (a b : ℕ) → a ≡ b → nat_cmp a b ≡ Equal
cmp_equal a b h = grind (arith, nat_tests)

cmp_greater : (a b : ℕ) → b < a → nat_cmp a b ≡ Greater
cmp_greater a b h = grind (arith, nat_tests)

compared : (a b : ℕ) → Compared a b
compared a b = elim (cases_lt a b) [
  | inl lt ↦ is_below lt (cmp_less a b lt)
  | inr le ↦ elim (cases_lt b a) [
    | inl lt ↦ is_above lt (cmp_greater a b lt)
    | inr le' ↦ (let e : a ≡ b = omega arith in is_same e (cmp_equal a b e))
  ]
]

by : {A : Type 0} (o o' : Ordering) (a b c : A) → o ≡ o' → by_order o a b c ≡ by_order o' a b c
by o o' a b c e = ap (λ x. by_order x a b c) e

-- ---- a key put, step by step

put_less : (key : ℕ) (slot : Slot) (e : Entry) (es : List Entry) → key < e.0 → put nat_cmp key slot (e ∷ es) ≡ (key, slot) ∷ e ∷ es
put_less key slot e es lt = by (nat_cmp key e.0) Less ((key, slot) ∷ e ∷ es) ((e.0, slot) ∷ es) (e ∷ put nat_cmp key slot es) (cmp_less key e.0 lt)

put_same : (key : ℕ) (slot : Slot) (e : Entry) (es : List Entry) → key ≡ e.0 → put nat_cmp key slot (e ∷ es) ≡ (e.0, slot) ∷ es
put_same key slot e es is = by (nat_cmp key e.0) Equal ((key, slot) ∷ e ∷ es) ((e.0, slot) ∷ es) (e ∷ put nat_cmp key slot es) (cmp_equal key e.0 is)

put_greater : (key : ℕ) (slot : Slot) (e : Entry) (es : List Entry) → e.0 < key → put nat_cmp key slot (e ∷ es) ≡ e ∷ put nat_cmp key slot es
put_greater key slot e es lt = by (nat_cmp key e.0) Greater ((key, slot) ∷ e ∷ es) ((e.0, slot) ∷ es) (e ∷ put nat_cmp key slot es) (cmp_greater key e.0 lt)

-- pairs below a key stay before it
put_behind : (key : ℕ) (slot : Slot) (front rest : List Entry) → AllUnder key front → put nat_cmp key slot (front ++ rest) ≡ front ++ put nat_cmp key slot rest
put_behind key slot [] rest under = refl
put_behind key slot (e ∷ front) rest under = put_greater key slot e (front ++ rest) under.0 ∙ ap (λ (es : List Entry). e ∷ es) (put_behind key slot front rest under.1)

-- and those above it behind it
put_before : (key : ℕ) (slot : Slot) (pairs back : List Entry) → AllAbove key back → put nat_cmp key slot (pairs ++ back) ≡ put nat_cmp key slot pairs ++ back
put_before key slot [] [] above = refl
put_before key slot [] (b ∷ back) above = put_less key slot b back above.0
put_before key slot (e ∷ pairs) back above = elim (compared key e.0) [
  | is_below lt _ ↦ put_less key slot e (pairs ++ back) lt ∙ ap (λ (es : List Entry). es ++ back) (sym (put_less key slot e pairs lt))
  | is_same is _ ↦ put_same key slot e (pairs ++ back) is ∙ ap (λ (es : List Entry). es ++ back) (sym (put_same key slot e pairs is))
  | is_above lt _ ↦ put_greater key slot e (pairs ++ back) lt ∙ ap (λ (es : List Entry). e ∷ es) (put_before key slot pairs back above) ∙ ap (λ (es : List Entry). es ++ back) (sym (put_greater key slot e pairs lt))
]

-- ---- a key taken out

abbrev without : ℕ → List Entry → List Entry
without key es = where_key nat_cmp (λ other. not (eq_by_cmp nat_cmp key other)) es

kept_one : (key : ℕ) (e : Entry) (es : List Entry) → (key ≡ e.0 → ⊥) → without key (e ∷ es) ≡ e ∷ without key es
kept_one key e es other = ap (λ b. cond (not b) (e ∷ without key es) (without key es)) (not_same key e.0 other)

gone_one : (key : ℕ) (e : Entry) (es : List Entry) → key ≡ e.0 → without key (e ∷ es) ≡ without key es
gone_one key e es is = ap (λ b. cond (not b) (e ∷ without key es) (without key es)) (itself key e.0 is)
  where
    itself : (a b : ℕ) → a ≡ b → eq_by_cmp nat_cmp a b ≡ true
    itself a b h = grind (arith, nat_tests)

without_under : (key : ℕ) (es : List Entry) → AllUnder key es → without key es ≡ es
without_under key [] under = refl
without_under key (e ∷ es) under = kept_one key e es (λ is. omega (arith, under.0)) ∙ ap (λ (xs : List Entry). e ∷ xs) (without_under key es under.1)

without_above : (key : ℕ) (es : List Entry) → AllAbove key es → without key es ≡ es
without_above key [] above = refl
without_above key (e ∷ es) above = kept_one key e es (λ is. omega (arith, above.0)) ∙ ap (λ (xs : List Entry). e ∷ xs) (without_above key es above.1)

without-append : (key : ℕ) (es fs : List Entry) → without key (es ++ fs) ≡ without key es ++ without key fs
without-append key es fs = filter-append (λ (e : Entry). not (eq_by_cmp nat_cmp key e.0)) es fs

-- ---- an update, and a run

-- between pairs below its key and pairs above it
updated_within : (key : ℕ) (slot : Option Slot) (front pairs back : List Entry) → AllUnder key front → AllAbove key back → pairs_updated key slot (front ++ (pairs ++ back)) ≡ front ++ (pairs_updated key slot pairs ++ back)
updated_within key (Some slot) front pairs back under above = put_behind key slot front (pairs ++ back) under ∙ ap (λ (es : List Entry). front ++ es) (put_before key slot pairs back above)
updated_within key None front pairs back under above =
    without-append key front (pairs ++ back) ∙ (λ i. without_under key front under i ++ without-append key pairs back i) ∙ ap (λ (es : List Entry). front ++ (without key pairs ++ es)) (without_above key back above)

pub laid_within : (run : List Update) (front pairs back : List Entry) → AllByRecursion (λ u. AllUnder u.0 front) run → AllByRecursion (λ u. AllAbove u.0 back) run → pairs_laid_over run (front ++ (pairs ++ back)) ≡ front ++ (pairs_laid_over run pairs ++ back)
laid_within [] front pairs back under above = refl
laid_within (u ∷ run) front pairs back under above =
    ap (pairs_laid_over run) (updated_within u.0 u.1 front pairs back under.0 above.0) ∙ laid_within run front (pairs_updated u.0 u.1 pairs) back under.1 above.1

-- keys rise as before
put_lie : (low high key : ℕ) (slot : Slot) (es : List Entry) → low ≤ key → key < high → Lie low high es → Lie low high (put nat_cmp key slot es)
put_lie low high key slot [] ge lt lie = (ge, omega arith)
put_lie low high key slot (e ∷ es) ge lt lie = elim (compared key e.0) [
  | is_below lt' _ ↦ subst (Lie low high) (sym (put_less key slot e es lt')) (ge, (omega arith, lie.1))
  | is_same is _ ↦ subst (Lie low high) (sym (put_same key slot e es is)) (lie.0, lie.1)
  | is_above lt' _ ↦ subst (Lie low high) (sym (put_greater key slot e es lt')) (lie.0, put_lie (e.0 + 1) high key slot es (omega arith) lt lie.1)
]

without_lie : (low high key : ℕ) (es : List Entry) → Lie low high es → Lie low high (without key es)
without_lie low high key [] lie = lie
without_lie low high key (e ∷ es) lie = elim (cases_same key e.0) [
  | inl is ↦ subst (Lie low high) (sym (gone_one key e es is)) (Lie-weaker (e.0 + 1) low high high (without key es) (omega (arith, lie.0)) (omega arith) (without_lie (e.0 + 1) high key es lie.1))
  | inr other ↦ subst (Lie low high) (sym (kept_one key e es other)) (lie.0, without_lie (e.0 + 1) high key es lie.1)
]
  where
    cases_same : (a b : ℕ) → (a ≡ b) ⊎ (a ≡ b → ⊥)
    cases_same a b = elim (compared a b) [
      | is_below lt _ ↦ inr (λ is. omega arith)
      | is_same is _ ↦ inl is
      | is_above lt _ ↦ inr (λ is. omega arith)
    ]

updated_lie : (key : ℕ) (slot : Option Slot) (es : List Entry) → SlotFits key slot → Lie 0 (2 ^ 64) es → Lie 0 (2 ^ 64) (pairs_updated key slot es)
updated_lie key (Some slot) es fits lie = put_lie 0 (2 ^ 64) key slot es (omega arith) fits.key lie
updated_lie key None es fits lie = without_lie 0 (2 ^ 64) key es lie

pub laid_lie : (run : List Update) (es : List Entry) → RunFits run → Lie 0 (2 ^ 64) es → Lie 0 (2 ^ 64) (pairs_laid_over run es)
laid_lie [] es fits lie = lie
laid_lie (u ∷ run) es fits lie = laid_lie run (pairs_updated u.0 u.1 es) fits.1 (updated_lie u.0 u.1 es fits.0 lie)

-- what holds of all pairs and of all slots of a run
put_all : (P : Entry → Type 0) (key : ℕ) (slot : Slot) (es : List Entry) → ((k : ℕ) → k ≡ key → P (k, slot)) → AllByRecursion P es → AllByRecursion P (put nat_cmp key slot es)
put_all P key slot [] one all = (one key refl, tt)
put_all P key slot (e ∷ es) one all = elim (compared key e.0) [
  | is_below lt _ ↦ subst (AllByRecursion P) (sym (put_less key slot e es lt)) (one key refl, all)
  | is_same is _ ↦ subst (AllByRecursion P) (sym (put_same key slot e es is)) (one e.0 (sym is), all.1)
  | is_above lt _ ↦ subst (AllByRecursion P) (sym (put_greater key slot e es lt)) (all.0, put_all P key slot es one all.1)
]

without_all : (P : Entry → Type 0) (p : Entry → Bool) (es : List Entry) → AllByRecursion P es → AllByRecursion P (filter p es)
without_all P p [] all = tt
without_all P p (e ∷ es) all = elim (p e) as (λ b. AllByRecursion P (cond b (e ∷ filter p es) (filter p es))) [ true ↦ (all.0, without_all P p es all.1) | false ↦ without_all P p es all.1 ]

updated_fits : (key : ℕ) (slot : Option Slot) (es : List Entry) → SlotFits key slot → AllByRecursion Fits es → AllByRecursion Fits (pairs_updated key slot es)
updated_fits key (Some slot) es fits all = put_all Fits key slot es (λ k is. subst (λ (n : ℕ). Fits (n, slot)) (sym is) fits) all
updated_fits key None es fits all = without_all Fits (λ (e : Entry). not (eq_by_cmp nat_cmp key e.0)) es all

pub laid_fits : (run : List Update) (es : List Entry) → RunFits run → AllByRecursion Fits es → AllByRecursion Fits (pairs_laid_over run es)
laid_fits [] es fits all = all
laid_fits (u ∷ run) es fits all = laid_fits run (pairs_updated u.0 u.1 es) fits.1 (updated_fits u.0 u.1 es fits.0 all)

updated_slots : (kind : Kind) (key : ℕ) (slot : Option Slot) (es : List Entry) → UpdateMayStand kind slot → AllByRecursion (λ e. MayStand kind 0 e.1) es → AllByRecursion (λ e. MayStand kind 0 e.1) (pairs_updated key slot es)
updated_slots kind key (Some slot) es may all = put_all (λ (e : Entry). MayStand kind 0 e.1) key slot es (λ k is. may) all
updated_slots kind key None es may all = without_all (λ (e : Entry). MayStand kind 0 e.1) (λ (e : Entry). not (eq_by_cmp nat_cmp key e.0)) es all

pub laid_slots : (kind : Kind) (run : List Update) (es : List Entry) → RunMayStand kind run → AllByRecursion (λ e. MayStand kind 0 e.1) es → AllByRecursion (λ e. MayStand kind 0 e.1) (pairs_laid_over run es)
laid_slots kind [] es may all = all
laid_slots kind (u ∷ run) es may all = laid_slots kind run (pairs_updated u.0 u.1 es) may.1 (updated_slots kind u.0 u.1 es may.0 all)

-- ---- the content

flipped : (b c : Bool) (found : Option Slot) → b ≡ c → cond (not b) found None ≡ cond c None found
flipped true c found is = ap (λ d. cond d None found) is
flipped false c found is = ap (λ d. cond d None found) is

same_test : (a b : ℕ) → eq_by_cmp nat_cmp a b ≡ eq_by_cmp nat_cmp b a
same_test a b = grind (arith, nat_tests)

entries_remove : (content : Content) (key : ℕ) → entries (finmap.remove content key) ≡ without key (entries content)
entries_remove content key =
    let p : ℕ → Bool = λ other. not (eq_by_cmp nat_cmp key other) in
    let es = entries content in
    let sorted : T (is_sorted nat_cmp (without key es)) = is_sorted-where_key nat_cmp p es (entries_sorted content) in
    let n : Content = finmap.from_sorted (without key es) in
    let there : entries n ≡ without key es = finmap.entries-from_sorted nat_cmp (without key es) sorted in
    let same = finmap.same_map nat_cmp_total finmap.nat_cmp-IsAntisymmetric (finmap.remove content key) n (λ q.
    finmap.get-remove nat_cmp_total content key q
    ∙ sym (find-where_key nat_cmp p q (λ x is. ap p (sym (finmap.nat_cmp-IsAntisymmetric q x is))) es ∙ flipped (eq_by_cmp nat_cmp key q) (eq_by_cmp nat_cmp q key) (find nat_cmp q es) (same_test key q) ∙ ap (cond (eq_by_cmp nat_cmp q key) None) (sym (finmap.get-entries content q)))
    ∙ sym (finmap.get-entries n q ∙ ap (find nat_cmp q) there)) in
    ap entries same ∙ there

updated_entries : (key : ℕ) (slot : Option Slot) (content : Content) → entries (updated key slot content) ≡ pairs_updated key slot (entries content)
updated_entries key (Some slot) content = finmap.entries-insert nat_cmp_total content key slot
updated_entries key None content = entries_remove content key

pub laid_entries : (run : List Update) (content : Content) → entries (laid_over run content) ≡ pairs_laid_over run (entries content)
laid_entries [] content = refl
laid_entries (u ∷ run) content = laid_entries run (updated u.0 u.1 content) ∙ ap (pairs_laid_over run) (updated_entries u.0 u.1 content)

-- ---- in the code

abbrev pub StartsAbove : ℕ → List Entry → Type 0
StartsAbove key [] = Unit {0}
StartsAbove key (entry ∷ after) = key < entry.0

-- a pair of the key stands at its place, or there is none
pub put_there : (key : ℕ) (slot : Slot) (es : List Entry) (count : ℕ) (e : Entry) → IsPlaceOf key es count → drop count es ≡ e ∷ drop (count + 1) es → e.0 ≡ key → put nat_cmp key slot es ≡ take count es ++ (key, slot) ∷ drop (count + 1) es
put_there key slot es count e place at is =
    ap (put nat_cmp key slot) (sym (take-append-drop count es) ∙ ap (λ (r : List Entry). take count es ++ r) at)
    ∙ put_behind key slot (take count es) (e ∷ drop (count + 1) es) place.below
    ∙ ap (λ (r : List Entry). take count es ++ r) (put_same key slot e (drop (count + 1) es) (sym is) ∙ ap (λ (k : ℕ). (k, slot) ∷ drop (count + 1) es) is)

pub put_new : (key : ℕ) (slot : Slot) (es rest : List Entry) (count : ℕ) → IsPlaceOf key es count → drop count es ≡ rest → StartsAbove key rest → put nat_cmp key slot es ≡ take count es ++ (key, slot) ∷ rest
put_new key slot es rest count place at above =
    ap (put nat_cmp key slot) (sym (take-append-drop count es) ∙ ap (λ (r : List Entry). take count es ++ r) at)
    ∙ put_behind key slot (take count es) rest place.below ∙ ap (λ (r : List Entry). take count es ++ r) (first rest above)
  where
    first : (r : List Entry) → StartsAbove key r → put nat_cmp key slot r ≡ (key, slot) ∷ r
    first [] above = refl
    first (e ∷ r) above = put_less key slot e r above

-- what stands from a place on, in a list whose keys rise
rising_behind : (fs rs : List Entry) → IsRising (fs ++ rs) → IsRising rs
rising_behind [] rs h = h
rising_behind (f ∷ fs) rs h = rising_behind fs rs (second_of _ _ h)

below_all_above : (key : ℕ) (es : List Entry) → IsTrue (below_all nat_cmp key es) → AllAbove key es
below_all_above key [] h = tt
below_all_above key (e ∷ es) h = (less_told key e.0 (first_of _ _ h), below_all_above key es (second_of _ _ h))

above_more : (low key : ℕ) (es : List Entry) → low ≤ key → AllAbove key es → AllAbove low es
above_more low key [] le above = tt
above_more low key (e ∷ es) le above = (omega (arith, above.0), above_more low key es le above.1)

starts_above : (key : ℕ) (es : List Entry) → StartsAbove key es → IsRising es → AllAbove key es
starts_above key [] start rising = tt
starts_above key (e ∷ es) start rising = (start, above_more key e.0 es (omega arith) (below_all_above e.0 es (first_of _ _ rising)))

pub start_other : (key : ℕ) (es rest : List Entry) (e : Entry) → StartsFrom key es → es ≡ e ∷ rest → (e.0 ≡ key → ⊥) → StartsAbove key es
start_other key [] rest e start is other = tt
start_other key (f ∷ es) rest e start is other = let same : f ≡ e = cc in let ne : f.0 ≡ key → ⊥ = λ k. other (ap (λ (x : Entry). x.0) (sym same) ∙ k) in strict f.0 ne start
  where
    strict : (n : ℕ) → (n ≡ key → ⊥) → key ≤ n → key < n
    strict n ne le = elim (compared key n) [
      | is_below lt _ ↦ lt
      | is_same is _ ↦ absurd (ne (sym is))
      | is_above lt _ ↦ absurd (omega arith)
    ]

pub start_end : (key : ℕ) (es : List Entry) → es ≡ [] → StartsAbove key es
start_end key [] is = tt
start_end key (f ∷ es) is = absurd cc

pub removed_there : (key : ℕ) (es : List Entry) (count : ℕ) (e : Entry) → IsRising es → IsPlaceOf key es count → drop count es ≡ e ∷ drop (count + 1) es → e.0 ≡ key → without key es ≡ take count es ++ drop (suc count) es
removed_there key es count e rising place at is =
    let rising' = rising_behind (take count es) (drop count es) (subst (λ (xs : List Entry). IsRising xs) (sym (take-append-drop count es)) rising) in
    let rising'' = subst (λ (xs : List Entry). IsRising xs) at rising' in
    let above = above_more key e.0 (drop (count + 1) es) (omega (arith, is)) (below_all_above e.0 (drop (count + 1) es) (first_of _ _ rising'')) in
    let one : count + 1 ≡ suc count = omega arith in
    ap (without key) (sym (take-append-drop count es)) ∙ without-append key (take count es) (drop count es)
    ∙ (λ i. without_under key (take count es) place.below i ++ without key (at i)) ∙ ap (λ (xs : List Entry). take count es ++ xs) (gone_one key e (drop (count + 1) es) (sym is) ∙ without_above key (drop (count + 1) es) above ∙ ap (λ n. drop n es) one)

pub removed_none : (key : ℕ) (es : List Entry) (count : ℕ) → IsRising es → IsPlaceOf key es count → StartsAbove key (drop count es) → es ≡ without key es
removed_none key es count rising place start =
    let rising' = rising_behind (take count es) (drop count es) (subst (λ (xs : List Entry). IsRising xs) (sym (take-append-drop count es)) rising) in
    sym (ap (without key) (sym (take-append-drop count es)) ∙ without-append key (take count es) (drop count es)
    ∙ (λ i. without_under key (take count es) place.below i ++ without_above key (drop count es) (starts_above key (drop count es) start rising') i) ∙ take-append-drop count es)

-- ---- update by update

t_of : (b : Bool) → IsTrue b → T b
t_of true h = tt
t_of false h = absurd cc

of_t : (b : Bool) → T b → IsTrue b
of_t true h = refl
of_t false h = absurd h

updated_rising : (key : ℕ) (slot : Option Slot) (es : List Entry) → IsRising es → IsRising (pairs_updated key slot es)
updated_rising key (Some slot) es h = of_t _ (is_sorted-put nat_cmp nat_cmp_total key slot es (t_of _ h))
updated_rising key None es h = of_t _ (is_sorted-where_key nat_cmp (λ other. not (eq_by_cmp nat_cmp key other)) es (t_of _ h))

pub laid_rising : (run : List Update) (es : List Entry) → IsRising es → IsRising (pairs_laid_over run es)
laid_rising [] es h = h
laid_rising (u ∷ run) es h = laid_rising run (pairs_updated u.0 u.1 es) (updated_rising u.0 u.1 es h)

pub laid_more : (run : List Update) (u : Update) (es : List Entry) → pairs_laid_over (run ++ u ∷ []) es ≡ pairs_updated u.0 u.1 (pairs_laid_over run es)
laid_more [] u es = refl
laid_more (v ∷ run) u es = laid_more run u (pairs_updated v.0 v.1 es)

pub fits_more : (run : List Update) (u : Update) → RunFits run → UpdateFits u → RunFits (run ++ u ∷ [])
fits_more [] u fits here = (here, tt)
fits_more (v ∷ run) u fits here = (fits.0, fits_more run u fits.1 here)
