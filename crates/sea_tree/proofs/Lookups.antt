-- What a lookup tells of the node that it looks at, and of the child that its key leads to.
use Rattle.std.proofs.Common.{◌≡◌, ℕ, suc, ◌-◌, ◌≤◌, cond, List, [], ◌∷◌, ◌++◌, length, length-append, get_or, Option, Some, None, refl, sym, ap, subst, ◌∙◌, arith}
use Rattle.std.specs.Prelude.{IfSome}
use Rattle.std.specs.Option.{MatchOption, option_or}
use Rattle.std.specs.Ordering.{is_eq, ordering_reverse}
use Rattle.std.specs.declared.cmp.Ordering.{Ordering}
use Rattle.std.specs.declared.cmp.Ordering.TheVariants.{Less, Equal, Greater}
use Rattle.std.specs.FinMap as map
use Rattle.std.specs.FinMap.Entries.{find}
use Rattle.sea_base.specs.Space.{Store, Seen, IsKnown, IsSound, Agrees, OnlyRead, laid}
use Rattle.sea_node.specs.declared.lookup.Lookup.{Lookup}
use Rattle.sea_node.specs.Entries.{Entry, Values, key_order, IsBelow, IsNotAbove, IsRising, size}
use Rattle.sea_node.specs.Node.{IsNode}
use Rattle.sea_node.specs.Lookup.{front_key, EndsAt, AreAbove, Finds, Tells}
use Rattle.sea_node.proofs.Keys.{same_key, key_order-itself, key_order-back, not_above_not_below, below_then_not_above, AreBelow, IsRising-split}
use Rattle.sea_tree.specs.declared.fault.TreeFault.{TreeFault}
use Rattle.sea_tree.specs.declared.path.Step.{Step}
use Rattle.sea_tree.specs.Tree.{Bounds, root_bounds, IsWithin, LiesWithin, IsAddress, child_bounds, next_key, first_key, IsInPlace}
use Rattle.sea_tree.specs.Breaks.{HasNode}
use Rattle.sea_tree.specs.Calls.{IsPathFault, IsWholePath}
use Rattle.sea_tree.specs.Content.{HasContent}
use Rattle.sea_tree.specs.Place.{Splits, IsPlaceFault}
use Rattle.sea_tree.specs.Path.{ComesDown, IsPath}
use Rattle.sea_tree.specs.Lookup.{LooksDown, IsSeen, IsFound, HoldsLeaf}
use Rattle.sea_tree.specs.declared.lookup.Sight.{Sight}
use Rattle.sea_tree.specs.declared.leaf.Leaf.{Leaf}
use Rattle.sea_tree.proofs.Paths.{ComesDown-later, Descends-laid, no_break}
use Rattle.sea_tree.specs.Reads.{IsOnPath}
use Rattle.sea_tree.proofs.OnPaths.{step_on_path}
use Rattle.sea_tree.proofs.PathSteps.{IsStep, comes_further, step_fault}
use Rattle.sea_tree.proofs.Leaves.{leaf_find}
use Rattle.sea_tree.proofs.Places.{placed, first_within, first_same}
use Rattle.sea_tree.proofs.Splits.{All-middle, middle_at}

-- ---- the pair under the key

find_front : (q : List ℕ) (before : List Entry) (e : Entry) (after : List Entry) → AreBelow before (e ∷ after) → IsNotAbove e.0 q → find key_order q (before ++ e ∷ after) ≡ find key_order q (e ∷ after)
find_front q [] e after below le = refl
find_front q (b ∷ before) e after below le =
    let above : key_order q b.0 ≡ Greater = key_order-back q b.0 ∙ ap ordering_reverse (below_then_not_above b.0 e.0 q below.0.0 le) in
    ap (λ (o : Ordering). cond (is_eq o) (Some b.1) (find key_order q (before ++ e ∷ after))) above ∙ find_front q before e after below.1 le

find_above : (q : List ℕ) (after : List Entry) → AreAbove q after → find key_order q after ≡ None
find_above q [] above = refl
find_above q (a ∷ after) above = ap (λ (o : Ordering). cond (is_eq o) (Some a.1) (find key_order q after)) above.0 ∙ find_above q after above.1

module _ (q : List ℕ) (es : List Entry) (e : Entry) (next : Option (List ℕ)) (rising : IsRising es) (finds : Finds q es (Some e) next) where
  at_found : find key_order q es ≡ find key_order q (e ∷ finds.1)
  at_found =
      let rises = subst IsRising finds.2 rising in
      ap (find key_order q) finds.2 ∙ find_front q finds.0 e finds.1 (IsRising-split finds.0 (e ∷ finds.1) rises).2 finds.3

  pub found_equal : e.0 ≡ q → find key_order q es ≡ Some e.1
  found_equal same =
      let tie : key_order q e.0 ≡ Equal = ap (key_order q) same ∙ key_order-itself q in
      at_found ∙ ap (λ (o : Ordering). cond (is_eq o) (Some e.1) (find key_order q finds.1)) tie

  pub found_other : (e.0 ≡ q → ⊥) → find key_order q es ≡ None
  found_other other = at_found ∙ by (key_order q e.0) refl
    where
      by : (o : Ordering) → key_order q e.0 ≡ o → find key_order q (e ∷ finds.1) ≡ None
      by Equal tie = absurd (other (sym (same_key q e.0 tie)))
      by Less tie = ap (λ (o : Ordering). cond (is_eq o) (Some e.1) (find key_order q finds.1)) tie ∙ find_above q finds.1 finds.4
      by Greater tie = ap (λ (o : Ordering). cond (is_eq o) (Some e.1) (find key_order q finds.1)) tie ∙ find_above q finds.1 finds.4

-- ---- the child that the key leads to

below_first : (key : List ℕ) (es : List Entry) → 1 ≤ length es → AreAbove key es → IsBelow key (first_key es)
below_first key [] some above = absurd (omega arith)
below_first key (e ∷ es) some above = above.0

next_is : (after : List Entry) (next upper bound : Option (List ℕ)) → next ≡ front_key after → upper ≡ bound → option_or next upper ≡ next_key after bound
next_is [] next upper bound is same = ap (λ (n : Option (List ℕ)). option_or n upper) is ∙ same
next_is (e ∷ after) next upper bound is same = ap (λ (n : Option (List ℕ)). option_or n upper) is

lies_below : (key : List ℕ) (after : List Entry) (upper : Option (List ℕ)) → AreAbove key after → IsWithin key upper → IsWithin key (next_key after upper)
lies_below key [] upper above within = within
lies_below key (e ∷ after) upper above within = above.0

pub one_below : (n : ℕ) → 1 ≤ n → n ≡ suc (n - 1)
one_below n some = omega arith

-- the entry whose child is next on the path
pub record Turns (key : List ℕ) (bounds : Bounds) (upper : Option (List ℕ)) (lookup : Lookup) (entries : List Entry) : Type 0 where
  pub entry : Entry
  pub before : List Entry
  pub after : List Entry
  pub found : lookup.found ≡ Some entry
  pub split : Splits entries (length before) before entry after
  pub address : length entry.1 ≡ 8
  pub front : lookup.next ≡ front_key after
  pub next : option_or lookup.next upper ≡ next_key after bounds.upper
  pub leads : LiesWithin key (child_bounds entry after bounds.upper)

module _ (seen : Seen) (root : ℕ) (key : List ℕ) (upper : Option (List ℕ)) (lookup : Lookup) (above : 1 ≤ lookup.level) (looks : LooksDown seen root key upper lookup) where
  pub turns : Turns key looks.bounds upper lookup looks.entries
  turns = by lookup.found refl looks.tells.finds
    where
      by : (found : Option Entry) → lookup.found ≡ found → Finds key looks.entries found lookup.next → Turns key looks.bounds upper lookup looks.entries
      by None is finds =
          let node = looks.down.node.0.spells.node in
          let below = below_first key looks.entries node.some finds.0 in
          let first = looks.down.node.1.first above in
          absurd (not_above_not_below looks.bounds.lower key looks.down.leads.0 (subst (IsBelow key) first below))
      by (Some e) is (before, after, split, le, higher, next) = record {
        entry = e;
        before = before;
        after = after;
        found = is;
        split = record { split = split; count = refl };
        address = All-middle (λ (e : Entry). length e.1 ≡ 8) looks.entries before after e split (looks.down.node.0.spells.node.children above).1;
        front = next;
        next = next_is after lookup.next upper looks.bounds.upper next looks.upper_is;
        leads = (le, lies_below key after looks.bounds.upper higher looks.down.leads.1);
      }

  pub found_some : MatchOption lookup.found ⊥ (λ e. length e.1 ≡ 8)
  found_some = subst (λ (f : Option Entry). MatchOption f ⊥ (λ e. length e.1 ≡ 8)) (sym turns.found) turns.address

-- ---- one step down

module _ (mid new : Seen) (root : ℕ) (key : List ℕ) (upper : Option (List ℕ)) (lookup : Lookup) (above : 1 ≤ lookup.level) (looks : LooksDown mid root key upper lookup) (child : ℕ) (below : Bounds)
    (leads_to : IfSome lookup.found (λ e. IsAddress e.1 child)) (bounds_are : IfSome lookup.found (λ e. below ≡ record { least = 1016; lower = e.0; upper = option_or lookup.next upper })) (reads : OnlyRead mid new) where
  at_entry : Turns key looks.bounds upper lookup looks.entries
  at_entry = turns mid root key upper lookup above looks

  step : Step
  step = record { at = record { 0 = looks.at }; node = record { level = lookup.level; entries = looks.entries }; index = length at_entry.before; upper = looks.bounds.upper }

  below_is : below ≡ child_bounds at_entry.entry at_entry.after looks.bounds.upper
  unfolding at_entry step
  below_is =
      subst (λ (f : Option Entry). IfSome f (λ e. below ≡ record { least = 1016; lower = e.0; upper = option_or lookup.next upper })) at_entry.found bounds_are
      ∙ ap (λ (n : Option (List ℕ)). record { least = 1016; lower = at_entry.entry.0; upper = n }) at_entry.next

  goes : IsStep new root key looks.steps (lookup.level - 1) looks.at looks.bounds step child below
  unfolding at_entry step
  goes =
      let level = one_below lookup.level above in
      let moved : ComesDown new root key looks.steps (suc (lookup.level - 1)) looks.at looks.bounds looks.entries = subst (λ (l : ℕ). ComesDown new root key looks.steps l looks.at looks.bounds looks.entries) level (ComesDown-later reads looks.down) in (
        moved,
        record {
          here = refl;
          level_is = level;
          upper_is = refl;
          node = moved.node;
          before = at_entry.before;
          entry = at_entry.entry;
          after = at_entry.after;
          split = at_entry.split;
          address = subst (λ (f : Option Entry). IfSome f (λ e. IsAddress e.1 child)) at_entry.found leads_to;
          below_is = below_is;
          leads = subst (LiesWithin key) (sym below_is) at_entry.leads;
        },
      )

  pub looks_further : (next : Lookup) (entries : List Entry) → next.level ≡ lookup.level - 1 → HasNode new.view (lookup.level - 1) child below entries → Tells key entries next → IsKnown new child → LooksDown new root key below.upper next
  unfolding step
  looks_further next entries level has tells known = record {
    steps = looks.steps ++ step ∷ [];
    at = child;
    bounds = below;
    entries = entries;
    down = subst (λ (l : ℕ). ComesDown new root key (looks.steps ++ step ∷ []) l child below entries) (sym level) (comes_further new root key looks.steps (looks.steps ++ step ∷ []) (lookup.level - 1) looks.at looks.bounds step child below entries goes refl has known);
    upper_is = refl;
    tells = tells;
  }

  pub found_further : (next : Sight) (entries : List Entry) → next.lookup.level ≡ lookup.level - 1 → HasNode new.view (lookup.level - 1) child below entries → Tells key entries next.lookup → IsKnown new child → IsSeen new child next → IsFound new root key below.upper next
  unfolding looks_further
  found_further next entries level has tells known seen = record { looks = looks_further next.lookup entries level has tells known; is = seen }

  pub look_fault : (old : Seen) → OnlyRead old new → IsSound new → (fault : TreeFault) → IsPlaceFault (lookup.level - 1) child below new fault → IsPathFault root key old new fault
  unfolding step
  look_fault old all sound fault blames =
      step_fault old new root key all sound looks.steps (lookup.level - 1) looks.at looks.bounds step child below fault goes blames

  pub looks_on_path : (old : Seen) → OnlyRead old new → IsSound new → (store : Store) → Agrees store new → IsOnPath (laid old store) key root child
  unfolding step
  looks_on_path old all sound store agrees =
      step_on_path old new root key all sound looks.steps (lookup.level - 1) looks.at looks.bounds step child below goes store agrees

-- ---- the leaf

-- what a node tells of its value under a key
module _ (key : List ℕ) (entries : List Entry) (lookup : Lookup) (rising : IsRising entries) (tells : Tells key entries lookup) where
  finds : (found : Option Entry) → lookup.found ≡ found → Finds key entries found lookup.next
  finds found is = subst (λ (f : Option Entry). Finds key entries f lookup.next) is tells.finds

  pub value_there : (e : Entry) → lookup.found ≡ Some e → e.0 ≡ key → Some e.1 ≡ find key_order key entries
  value_there e is same = sym (found_equal key entries e lookup.next rising (finds (Some e) is) same)

  pub value_elsewhere : (e : Entry) → lookup.found ≡ Some e → (e.0 ≡ key → ⊥) → None ≡ find key_order key entries
  value_elsewhere e is other = sym (found_other key entries e lookup.next rising (finds (Some e) is) other)

  pub value_nowhere : lookup.found ≡ None → None ≡ find key_order key entries
  value_nowhere is = sym (find_above key entries (finds None is).0)

-- what is found at level 0 is the leaf
pub leaf_held : (seen : Seen) (root : ℕ) (key : List ℕ) (upper : Option (List ℕ)) (sight : Sight) (value : Option (List ℕ)) → sight.lookup.level ≡ 0 → IsFound seen root key upper sight
    → ((entries : List Entry) → IsRising entries → Tells key entries sight.lookup → value ≡ find key_order key entries) → HoldsLeaf seen root key (record { at = sight.at; block = sight.block; value = value })
leaf_held seen root key upper sight value leaf found is =
    let looks = found.looks in
    let down : ComesDown seen root key looks.steps 0 looks.at looks.bounds looks.entries = subst (λ (l : ℕ). ComesDown seen root key looks.steps l looks.at looks.bounds looks.entries) leaf looks.down in
    record {
      steps = looks.steps;
      bounds = looks.bounds;
      entries = looks.entries;
      down = subst (λ (at : ℕ). ComesDown seen root key looks.steps 0 at looks.bounds looks.entries) (sym found.is.here) down;
      stands = subst (λ (at : ℕ). seen.view at ≡ Some sight.block) (sym found.is.here) found.is.stands;
      value = is looks.entries down.node.0.spells.node.rising looks.tells;
    }

module _ (old new : Seen) (root : ℕ) (key : List ℕ) (leaf : Leaf) (reads : OnlyRead old new) (sound : IsSound new) (held : HoldsLeaf new root key leaf) where
  path : (store : Store) → Agrees store new → IsPath (laid old store) held.down.top root root_bounds held.steps key leaf.at.0 held.entries held.bounds
  path store agrees =
      let l = Descends-laid old new store root key held.steps 0 leaf.at.0 held.bounds held.entries reads sound agrees held.down in
      (l.0, l.1, held.down.leads)

  pub whole_leaf : IsWholePath root key old new
  whole_leaf = λ store at agrees breaks. no_break (laid old store) held.down.top root held.steps key leaf.at.0 held.entries held.bounds at (path store agrees) breaks

  -- its value is the tree's
  pub leaf_value : (store : Store) (content : Values) → Agrees store new → HasContent (laid old store) root content → leaf.value ≡ map.get content key
  leaf_value store content agrees holds = held.value ∙ leaf_find (laid old store) held.down.top root held.steps key leaf.at.0 held.entries held.bounds content (path store agrees) holds key held.down.leads

-- ---- a node in its place, by what is told of it

last_at : (es : List Entry) (d : Entry) (last : List ℕ) → EndsAt es (Some last) → (get_or es (length es - 1) d).0 ≡ last
last_at es d last (before, value, split) =
    let e : Entry = (last, value) in
    let place : length (before ++ e ∷ []) - 1 ≡ length before = omega (arith, length-append before (e ∷ [])) in
    ap (λ (xs : List Entry). (get_or xs (length xs - 1) d).0) split ∙ ap (λ (n : ℕ). (get_or (before ++ e ∷ []) n d).0) place ∙ ap (λ (x : Entry). x.0) (middle_at before [] e d)

first_at : (es : List Entry) (d : Entry) (first : List ℕ) → Some first ≡ front_key es → (get_or es 0 d).0 ≡ first
first_at [] d first is = absurd (cc)
first_at (e ∷ es) d first is = cc

module _ (level : ℕ) (b : Bounds) (es : List Entry) (key : List ℕ) (lookup : Lookup) (node : IsNode level es) (tells : Tells key es lookup) where
  any : Entry
  any = ([], [])

  first_told : (get_or es 0 any).0 ≡ lookup.first
  first_told = first_at es any lookup.first tells.first_is

  last_told : (get_or es (length es - 1) any).0 ≡ lookup.last
  last_told = last_at es any lookup.last tells.last_is

  pub placed_by : b.least ≤ size es → IsWithin lookup.last b.upper → IsNotAbove b.lower lookup.first → (1 ≤ level → b.lower ≡ lookup.first) → IsInPlace level b es
  placed_by filled below le same =
      placed level b es any any node.some node.rising filled (subst (λ (k : List ℕ). IsWithin k b.upper) (sym last_told) below) (subst (IsNotAbove b.lower) (sym first_told) le) (λ above. same above ∙ sym first_told)

  pub placed_above : IsInPlace level b es → IsNotAbove b.lower lookup.first
  placed_above place = subst (IsNotAbove b.lower) first_told (first_within level b es any any node.some node.rising place)

  pub placed_at : IsInPlace level b es → 1 ≤ level → b.lower ≡ lookup.first
  placed_at place above = first_same level b es any any node.some node.rising place above ∙ first_told
