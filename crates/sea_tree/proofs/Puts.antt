-- What a change of one pair does, from its reads to its writes.
use Rattle.std.proofs.Common.{◌≡◌, ◌⊎◌, ℕ, ◌+◌, ◌≤◌, ◌^◌, List, [], ◌∷◌, Bool, true, false, cond, Option, Some, None, length, refl, sym, ◌∙◌, ap, subst, inl, inr, arith}
use Rattle.std.proofs.Math.Path.{fun_ext}
use Rattle.std.specs.FinMap as map
use Rattle.std.specs.FinMap.{same_map, get-remove}
use Rattle.std.specs.Ordering.{eq_by_cmp, is_eq}
use Rattle.std.specs.declared.cmp.Ordering.{Ordering}
use Rattle.std.specs.declared.cmp.Ordering.TheVariants.{Less, Equal, Greater}
use Rattle.sea_base.specs.Name.{IsName}
use Rattle.sea_base.specs.Space.{Store, Seen, IsKnown, IsSound, Agrees, laid, OnlyRead}
use Rattle.sea_base.proofs.Spaces.{laid_known, only_read-trans, agrees_before}
use Rattle.sea_node.specs.Entries.{Values, key_order}
use Rattle.sea_node.specs.Node.{node_bytes}
use Rattle.sea_node.proofs.Keys.{key_order_total, same_key}
use Rattle.sea_tree.specs.declared.fault.TreeFault.{TreeFault}
use Rattle.sea_tree.specs.declared.fault.TreeFault.TheVariants.{Space, Broken}
use Rattle.sea_tree.specs.Tree.{root_bounds, IsNodeOf}
use Rattle.sea_tree.specs.Content.{HasContent}
use Rattle.sea_tree.specs.Breaks.{Breaks, IsBreakOnPath, IsFull, FillsFewer}
use Rattle.sea_tree.specs.Calls.{Meets, Becomes, ChangesOwn, ChangeFootprint, ChangeFailure, IsPathFault, IsChangeFault, IsPlanFault, IsUnchanged, IsWholePath, IsOfSpace}
use Rattle.sea_tree.specs.Form.{HasForm, Plans}
use Rattle.sea_tree.specs.Reads.{IsOnPath, ReadsPath, ReadsNear, ReadsNothing}
use Rattle.sea_tree.specs.declared.plan.Plan.{Plan}
use Rattle.sea_tree.specs.Plan.{plan_changes, plan_fills, IsWritten}
use Rattle.sea_tree.proofs.Nears.{run_near, path_near}
use Rattle.sea_tree.proofs.Performing.{read_unchanged, unchanged_since, once_since, once_none, placed_none}
use Rattle.sea_tree.specs.Does.{Change, overlaid, is_among, Does, ChangesAtMost, SplicesOnce}
use Rattle.sea_tree.specs.Changing.{Changed, changed_content, IsPlanned, TouchesOwn}
use Rattle.sea_tree.proofs.Apart.{IsNodeOf-root, few_levels}
use Rattle.sea_tree.proofs.Counting.{full_refuted}
use Rattle.sea_tree.proofs.Doing.{Does-read, Does-agrees, Does-laid, overlaid-same, ChangesAtMost-read, ChangesAtMost-then}
use Rattle.sea_tree.proofs.Holding.{whole_tree, breaks_from_path}
use Rattle.sea_tree.proofs.MendRoot.{planted}
use Rattle.sea_tree.proofs.MendSides.{puts_one}
use Rattle.sea_tree.proofs.Mending.{becomes_changed}
use Rattle.sea_tree.proofs.Touched.{either_true, among_one}
use Rattle.sea_tree.proofs.Walks.{one_store}

-- ---- faults

pub path_fault : (root : ℕ) (key : List ℕ) (old new : Seen) (fault : TreeFault) → IsPathFault root key old new fault → IsChangeFault root key old new fault
path_fault root key old new (Space fault) cause = tt
path_fault root key old new (Broken at) found = inl found

pub fault_since : (root : ℕ) (key : List ℕ) (old mid new : Seen) → OnlyRead old mid → IsWholePath root key old mid → (fault : TreeFault) → IsUnchanged mid new fault → IsPlanFault root mid new fault → IsChangeFault root key old new fault
fault_since root key old mid new reads whole (Space fault) same cause = tt
fault_since root key old mid new reads whole (Broken at) same found = inr (
  (λ store q agrees. whole store q (Does-agrees [] same store agrees)),
  (λ store agrees. subst (λ (s : Store). Breaks s root at.0 ⊎ ((at.0 ≡ root) × IsFull s root)) (one_store reads store) (found store agrees)),
)

-- a tree that is well formed on fewer than 2^25 filled addresses gives a fault of the space alone
pub of_space : (root : ℕ) (key : List ℕ) (old new : Seen) (fault : TreeFault) → IsChangeFault root key old new fault → (store : Store) (content : Values) → Meets store root old new content → FillsFewer (laid old store) (2 ^ 25) → IsOfSpace fault
of_space root key old new (Space fault) cause store content meets few = tt
of_space root key old new (Broken at) (inl breaks) store content meets few =
    absurd (whole_tree (laid old store) root at.0 meets.content.tree (breaks_from_path (laid old store) key root at.0 (breaks store meets.agrees)))
of_space root key old new (Broken at) (inr found) store content meets few = by (found.1 store meets.agrees)
  where
    by : Breaks (laid old store) root at.0 ⊎ ((at.0 ≡ root) × IsFull (laid old store) root) → ⊥
    by (inl breaks) = whole_tree (laid old store) root at.0 meets.content.tree breaks
    by (inr full) = full_refuted (laid old store) root content meets.content full.1 few

-- ---- what is changed

-- The reads, the plan and its writes, one after the other.
pub record Run (old mid planned new : Seen) (changes : List Change) : Type 0 where
  pub reads : OnlyRead old mid
  pub plans : Does [] mid planned
  pub writes : Does changes planned new
  pub next : new.next ≡ planned.next

pub run_becomes : (root : ℕ) (key : List ℕ) (value : Option (List ℕ)) (old mid planned new : Seen) (changes : List Change) → Run old mid planned new changes → IsPlanned root key value mid planned changes
    → (store : Store) (content : Values) → Meets store root old new content → Becomes store root old new (changed_content key value content)
run_becomes root key value old mid planned new changes run plans store content meets =
    let was : laid mid store ≡ laid old store = one_store run.reads store in
    let is : laid new store ≡ overlaid changes (laid mid store) = fun_ext (λ q. Does-laid changes run.writes store q ∙ overlaid-same changes (laid planned store) (laid mid store) q (Does-laid [] run.plans store q)) in
    let meets_mid : Meets store root mid planned content = record {
      agrees = Does-agrees changes run.writes store meets.agrees;
      content = subst (λ (s : Store). HasContent s root content) (sym was) meets.content;
      fresh = λ q from below. subst (λ (s : Store). s q ≡ None) (sym was) (meets.fresh q (omega (arith, from, run.reads.next)) (omega (arith, below, run.next)));
    } in
    let changed = plans store content meets_mid in
    let after = changed_content key value content in
    let one : Changed (laid mid store) (laid new store) root mid.next planned.next after = subst (λ (s : Store). Changed (laid mid store) s root mid.next planned.next after) (sym is) changed in
    let two : Changed (laid old store) (laid new store) root mid.next planned.next after = subst (λ (s : Store). Changed s (laid new store) root mid.next planned.next after) was one in
    let three : Changed (laid old store) (laid new store) root old.next planned.next after = subst (λ (n : ℕ). Changed (laid old store) (laid new store) root n planned.next after) run.reads.next two in
    becomes_changed store root old new after (subst (λ (n : ℕ). Changed (laid old store) (laid new store) root old.next n after) (sym run.next) three)

-- the first pair of a tree
pub plants : (root : ℕ) (key value : List ℕ) (mid : Seen) (changes : List Change) → IsSound mid → IsKnown mid root → mid.view root ≡ None → IsName key → length value ≤ 1024 → changes ≡ (root, Some (node_bytes 0 ((key, value) ∷ []))) ∷ [] → IsPlanned root key (Some value) mid mid changes
plants root key value mid changes sound known none name short planned_is store before meets =
    let empty : laid mid store root ≡ None = laid_known mid store sound meets.agrees root known ∙ none in
    planted (laid mid store) (overlaid changes (laid mid store)) root mid.next mid.next key value before meets.content empty name short (omega arith)
    (puts_one (laid mid store) (overlaid changes (laid mid store)) root (Some (node_bytes 0 ((key, value) ∷ []))) (λ q. ap (λ (cs : List Change). overlaid cs (laid mid store) q) planned_is))

pub run_touches : (root : ℕ) (old mid planned new : Seen) (changes : List Change) → Run old mid planned new changes → TouchesOwn root mid planned changes → ChangesOwn root old new
run_touches root old mid planned new changes run own store at agrees changed =
    elim (either_true (is_among changes at) (planned.changed at) (sym (run.writes.changed at) ∙ changed)) [
      | inl among ↦ elim (own store at (Does-agrees changes run.writes store agrees) among) [
        | inl same ↦ inr (inl same)
        | inr (inl node) ↦ inr (inr (inl (subst (λ (s : Store). IsNodeOf s root at) (one_store run.reads store) node)))
        | inr (inr given) ↦ inr (inr (inr (omega (arith, given.0, run.reads.next), omega (arith, given.1, run.next))))
      ]
      | inr before ↦ inl (sym (run.plans.changed at ∙ run.reads.changed at) ∙ before)
    ]

-- the first pair writes the root alone
pub plants_own : (root : ℕ) (old new : Seen) (changes : List Change) (block : Option (List ℕ)) → changes ≡ (root, block) ∷ [] → TouchesOwn root old new changes
plants_own root old new changes block is store q agrees e = inl (among_one is q e)

-- Where the key is absent nothing changes.
pub nothing_changes : (root : ℕ) (key : List ℕ) (old new : Seen) → OnlyRead old new → (store : Store) (content : Values) → Meets store root old new content → map.get content key ≡ None → Becomes store root old new (map.remove content key)
nothing_changes root key old new reads store content meets absent =
    let same : laid new store ≡ laid old store = one_store reads store in
    let content_same : content ≡ map.remove content key = same_map key_order_total same_key content (map.remove content key) (λ q. kept (eq_by_cmp key_order q key) q refl ∙ sym (get-remove key_order_total content key q)) in
    record {
      content = subst (λ (c : Values). HasContent (laid new store) root c) content_same (subst (λ (s : Store). HasContent s root content) (sym same) meets.content);
      elsewhere = λ at other outside apart. ap (λ (s : Store). s at) same;
      nodes = λ at node. inr (inl (subst (λ (s : Store). IsNodeOf s root at) same node));
      left = λ at was_there filled. subst (λ (s : Store). IsNodeOf s root at) (sym same) (elim was_there [
        | inl is_root ↦ subst (IsNodeOf (laid old store) root) (sym is_root) (IsNodeOf-root (laid old store) root meets.content.tree (λ none. filled (ap (λ (s : Store). s at) same ∙ ap (laid old store) is_root ∙ none)))
        | inr (inl node) ↦ node
        | inr (inr given) ↦ absurd (omega (arith, given.0, given.1, reads.next))
      ]);
      used = λ at from below. absurd (omega (arith, from, below, reads.next));
      levels = λ level tree. few_levels (laid new store) level root root_bounds tree;
      others = λ other kept_content differs has apart old_root. subst (λ (s : Store). HasContent s other kept_content) (sym same) has;
    }
  where
    kept : (b : Bool) (q : List ℕ) → eq_by_cmp key_order q key ≡ b → map.get content q ≡ cond (eq_by_cmp key_order q key) None (map.get content q)
    kept true q is = same_there q is ∙ sym (ap (λ (b : Bool). cond b None (map.get content q)) is)
      where
        same_there : (q : List ℕ) → eq_by_cmp key_order q key ≡ true → map.get content q ≡ None
        same_there q is = ap (λ (k : List ℕ). map.get content k) (same_key q key (equal_key (key_order q key) is)) ∙ absent
          where
            equal_key : (o : Ordering) → is_eq o ≡ true → o ≡ Equal
            equal_key Less e = absurd (cc)
            equal_key Equal e = refl
            equal_key Greater e = absurd (cc)
    kept false q is = sym (ap (λ (b : Bool). cond b None (map.get content q)) is)

-- ---- how much

pub nothing_few : {old new : Seen} → Does [] old new → ChangesAtMost 0 old new
nothing_few d = ([], omega arith, λ at. inr (inr (record { changed = d.changed at; view = λ c. d.view at (inr (inl c)) })))

pub fewer : {old new : Seen} (m n : ℕ) → m ≤ n → ChangesAtMost m old new → ChangesAtMost n old new
fewer m n le few = (few.0, omega (arith, few.1, le), few.2)

pub run_few : (old mid planned new : Seen) (changes : List Change) (count : ℕ) → Run old mid planned new changes → count ≤ 17 → ChangesAtMost count planned new → ChangesAtMost 17 old new
run_few old mid planned new changes count run le few =
    fewer (count + (0 + 0)) 17 (omega (arith, le)) (ChangesAtMost-then (0 + 0) count (ChangesAtMost-then 0 0 (ChangesAtMost-read run.reads) (nothing_few run.plans)) few)

pub run_whole : (root : ℕ) (key : List ℕ) (old mid planned new : Seen) (changes : List Change) → Run old mid planned new changes → IsWholePath root key old mid → IsWholePath root key old new
run_whole root key old mid planned new changes run whole store at agrees = whole store at (Does-agrees [] run.plans store (Does-agrees changes run.writes store agrees))

pub run_agrees : (old mid planned new : Seen) (changes : List Change) → Run old mid planned new changes → (store : Store) → Agrees store new → Agrees store mid
run_agrees old mid planned new changes run store agrees = Does-agrees [] run.plans store (Does-agrees changes run.writes store agrees)

-- ---- what a whole call promises

-- where reads and the plan were made, and then the writes
pub run_footprint : (root : ℕ) (key : List ℕ) (old mid planned new : Seen) (plan : Plan) → Run old mid planned new (plan_changes plan) → IsWholePath root key old mid → ReadsPath root key old mid → ReadsNear root key mid planned → TouchesOwn root mid planned (plan_changes plan)
    → plan_fills plan ≤ 17 → ChangesAtMost (plan_fills plan) planned new → SplicesOnce 1091 planned new → ReadsNothing planned new → ChangeFootprint root key old new
run_footprint root key old mid planned new plan run whole path near own le few once unread = record {
  whole = run_whole root key old mid planned new (plan_changes plan) run whole;
  near = run_near root key old mid planned new run.reads path run.plans near (plan_changes plan) run.writes unread;
  own = run_touches root old mid planned new (plan_changes plan) run own;
  few = run_few old mid planned new (plan_changes plan) (plan_fills plan) run le few;
  once = once_since (Does-read run.reads) (once_since run.plans once);
}

-- where the path was read alone
pub read_footprint : (root : ℕ) (key : List ℕ) (old new : Seen) → OnlyRead old new → IsWholePath root key old new → ReadsPath root key old new → ChangeFootprint root key old new
read_footprint root key old new reads whole path = record {
  whole = whole;
  near = path_near root key old new path;
  own = λ store at agrees changed. inl (sym (reads.changed at) ∙ changed);
  few = fewer 0 17 (omega arith) (ChangesAtMost-read reads);
  once = once_none [] (Does-read reads) (placed_none new);
}

-- where the path breaks
pub path_fails : (root : ℕ) (key : List ℕ) (old new : Seen) → OnlyRead old new → (fault : TreeFault) → IsPathFault root key old new fault → ChangeFailure root key old new fault
path_fails root key old new reads fault cause = record {
  blames = path_fault root key old new fault cause;
  never_full = of_space root key old new fault (path_fault root key old new fault cause);
  unchanged = read_unchanged (Does-read reads) fault;
}

-- ---- a change by what is planned behind a lookup

pub reads_path-then : (root : ℕ) (key : List ℕ) (old mid new : Seen) → OnlyRead old mid → OnlyRead mid new → ReadsPath root key old mid → ReadsPath root key mid new → ReadsPath root key old new
reads_path-then root key old mid new first later was is at = elim (is at) [
  | inl same ↦ elim (was at) [
    | inl before ↦ inl (same ∙ before)
    | inr on ↦ inr (λ store agrees. on store (agrees_before later agrees))
  ]
  | inr on ↦ inr (λ store agrees. subst (λ (s : Store). IsOnPath s key root at) (one_store first store) (on store agrees))
]

module _ (old mid planned new : Seen) (root : ℕ) (key : List ℕ) (value : Option (List ℕ)) (plan : Plan) (reads : OnlyRead old mid) (on_path : ReadsPath root key old mid) (plans : Plans root key value mid planned plan) (writes : Does (plan_changes plan) planned new) (next : new.next ≡ planned.next) where
  run : Run old plans.read planned new (plan_changes plan)
  run = record { reads = only_read-trans reads plans.reads; plans = plans.goes; writes = writes; next = next }

  path_read : ReadsPath root key old plans.read
  path_read = reads_path-then root key old mid plans.read reads plans.reads on_path plans.on_path

  pub plan_agrees : (store : Store) → Agrees store new → Agrees store mid
  plan_agrees store agrees = agrees_before plans.reads (run_agrees old plans.read planned new (plan_changes plan) run store agrees)

  pub plan_form : IsWritten plan planned new → ReadsNothing planned new → HasForm root key value old new
  plan_form written unread = record { read = plans.read; planned = planned; plan = plan; path = plans.path; reads = run.reads; on_path = path_read; known = plans.known; plans = plans.goes; rises = plans.rises; writes = writes; written = written; unread = unread; next = next }

  pub plan_footprint : IsWholePath root key old mid → plan_fills plan ≤ 17 → ChangesAtMost (plan_fills plan) planned new → SplicesOnce 1091 planned new → ReadsNothing planned new → ChangeFootprint root key old new
  plan_footprint whole le few once unread =
      run_footprint root key old plans.read planned new plan run (λ store at agrees. whole store at (agrees_before plans.reads agrees)) path_read plans.near plans.own le few once unread

  pub plan_becomes : (store : Store) (content : Values) → Meets store root old new content → Becomes store root old new (changed_content key value content)
  plan_becomes store content meets = run_becomes root key value old plans.read planned new (plan_changes plan) run plans.planned store content meets

change_since : (root : ℕ) (key : List ℕ) (old mid new : Seen) → OnlyRead old mid → (fault : TreeFault) → IsChangeFault root key mid new fault → IsChangeFault root key old new fault
change_since root key old mid new reads (Space fault) cause = tt
change_since root key old mid new reads (Broken at) (inl breaks) = inl (λ store agrees. subst (λ (s : Store). IsBreakOnPath s key root at.0) (one_store reads store) (breaks store agrees))
change_since root key old mid new reads (Broken at) (inr found) = inr (
  (λ store q agrees breaks. found.0 store q agrees (subst (λ (s : Store). IsBreakOnPath s key root q) (sym (one_store reads store)) breaks)),
  (λ store agrees. subst (λ (s : Store). Breaks s root at.0 ⊎ ((at.0 ≡ root) × IsFull s root)) (one_store reads store) (found.1 store agrees)),
)

pub planned_fails : (root : ℕ) (key : List ℕ) (old mid new : Seen) → OnlyRead old mid → (fault : TreeFault) → IsUnchanged mid new fault → IsChangeFault root key mid new fault → ChangeFailure root key old new fault
planned_fails root key old mid new reads fault same cause =
    let blames = change_since root key old mid new reads fault cause in
    record { blames = blames; never_full = of_space root key old new fault blames; unchanged = unchanged_since (Does-read reads) new fault same }
