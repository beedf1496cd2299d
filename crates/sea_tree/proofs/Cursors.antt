-- Cursors: the nodes that are held, and the path to the next leaf.
use Rattle.std.proofs.Common.{◌≡◌, ℕ, suc, ◌-◌, ◌≤◌, List, [], ◌∷◌, ◌++◌, reverse, Option, Some, None, refl, sym, ap, subst, ◌∙◌, inl, inr}
use Rattle.std.specs.Prelude.{IfSome}
use Rattle.std.specs.Option.{MatchOption, option_or}
use Rattle.std.proofs.lemmas.List.{reverse-append}
use Rattle.sea_base.specs.Space.{Store, Seen, OnlyRead}
use Rattle.sea_base.proofs.Spaces.{agrees_before}
use Rattle.sea_node.specs.declared.lookup.Lookup.{Lookup}
use Rattle.sea_node.specs.Entries.{Entry, IsNotAbove}
use Rattle.sea_node.specs.Node.{Spells}
use Rattle.sea_node.specs.Lookup.{Tells, front_key}
use Rattle.sea_node.proofs.Nodes.{one_spelled}
use Rattle.sea_tree.specs.declared.fault.TreeFault.{TreeFault}
use Rattle.sea_tree.specs.declared.fault.TreeFault.TheVariants.{Space, Broken}
use Rattle.sea_tree.specs.declared.cursor.Turn.{Turn}
use Rattle.sea_tree.specs.declared.cursor.Cursor.{Cursor}
use Rattle.sea_tree.specs.declared.lookup.Sight.{Sight}
use Rattle.sea_tree.specs.Tree.{NodeAt, Bounds, root_bounds, LiesWithin, IsWithin}
use Rattle.sea_tree.specs.Breaks.{IsBreakOnPath}
use Rattle.sea_tree.specs.Calls.{IsPathFault}
use Rattle.sea_tree.specs.Lookup.{IsFound}
use Rattle.sea_tree.specs.Path.{ComesDown, LeafPath, IsLeafPath}
use Rattle.sea_tree.specs.Range.{IsTurn, AreTurns, StandsAt, IsAtLeaf, IsAtNext}
use Rattle.sea_tree.specs.Reads.{IsOnPath, ReadsPath}
use Rattle.sea_tree.proofs.Lookups.{Turns, turns, one_below}
use Rattle.sea_tree.proofs.Paths.{ComesDown-later}
use Rattle.sea_tree.proofs.Splits.{All-middle_next}
use Rattle.sea_tree.proofs.Taking.{next_path}
use Rattle.sea_tree.proofs.Walks.{one_store}
use Rattle.sea_tree.proofs.WholePaths.{descends_for}

-- ---- what stays along reads

IsTurn-later : {old new : Seen} → OnlyRead old new → (root : ℕ) (key : List ℕ) (turn : Turn) → IsTurn old root key turn → IsTurn new root key turn
IsTurn-later r root key turn held = record {
  steps = held.steps;
  level = held.level;
  bounds = held.bounds;
  entries = held.entries;
  down = ComesDown-later r held.down;
  stands = r.known turn.at.0 held.down.known ∙ held.stands;
  upper_is = held.upper_is;
}

pub AreTurns-later : {old new : Seen} → OnlyRead old new → (root : ℕ) (turns : List Turn) (upper : Option (List ℕ)) → AreTurns old root turns upper → AreTurns new root turns upper
AreTurns-later r root [] upper none = none
AreTurns-later r root (turn ∷ turns) upper (key, is, held, rest) =
    (key, is, IsTurn-later r root key turn held, AreTurns-later r root turns turn.upper rest)

-- ---- a node is held where the path to its next child turns off

module _ (seen : Seen) (root : ℕ) (key : List ℕ) (upper : Option (List ℕ)) (sight : Sight) (above : 1 ≤ sight.lookup.level) (found : IsFound seen root key upper sight) where
  at_entry : Turns key found.looks.bounds upper sight.lookup found.looks.entries
  at_entry = turns seen root key upper sight.lookup above found.looks

  next_lies : (n : List ℕ) → Some n ≡ front_key at_entry.after → LiesWithin n found.looks.bounds
  next_lies n = by at_entry.after at_entry.split.split
    where
      by : (after : List Entry) → found.looks.entries ≡ at_entry.before ++ at_entry.entry ∷ after → Some n ≡ front_key after → LiesWithin n found.looks.bounds
      by [] split is = absurd (cc)
      by (e ∷ after) split is =
          let same : e.0 ≡ n = (cc) in
          let place = found.looks.down.node.1 in (
            subst (IsNotAbove found.looks.bounds.lower) same (All-middle_next (λ (x : Entry). IsNotAbove found.looks.bounds.lower x.0) found.looks.entries at_entry.before after at_entry.entry e split place.lower),
            subst (λ (k : List ℕ). IsWithin k found.looks.bounds.upper) same (All-middle_next (λ (x : Entry). IsWithin x.0 found.looks.bounds.upper) found.looks.entries at_entry.before after at_entry.entry e split place.upper),
          )

  turn : Turn
  turn = record { at = sight.at; block = sight.block; upper = upper }

  held : (n : List ℕ) → sight.lookup.next ≡ Some n → IsTurn seen root n turn
  unfolding at_entry turn
  held n is =
      let looks = found.looks in
      let lies = next_lies n (sym is ∙ at_entry.front) in
      let down : ComesDown seen root n looks.steps sight.lookup.level looks.at looks.bounds looks.entries = record {
        top = looks.down.top;
        descent = descends_for seen.view looks.down.top root root_bounds looks.steps key sight.lookup.level looks.at looks.bounds n looks.down.descent lies;
        node = looks.down.node;
        steps_known = looks.down.steps_known;
        known = looks.down.known;
        leads = lies;
      } in
      record {
        steps = looks.steps;
        level = sight.lookup.level - 1;
        bounds = looks.bounds;
        entries = looks.entries;
        down = subst (λ (l : ℕ). ComesDown seen root n looks.steps l sight.at.0 looks.bounds looks.entries) (one_below sight.lookup.level above)
            (subst (λ (at : ℕ). ComesDown seen root n looks.steps sight.lookup.level at looks.bounds looks.entries) (sym found.is.here) down);
        stands = subst (λ (at : ℕ). seen.view at ≡ Some sight.block) (sym found.is.here) found.is.stands;
        upper_is = looks.upper_is;
      }

  -- the child that the path goes through has the held nodes behind it
  turned_off : (before after : List Turn) → MatchOption sight.lookup.next (after ≡ before) (λ n. after ≡ before ++ record { at = sight.at; block = sight.block; upper = upper } ∷ []) → AreTurns seen root (reverse before) upper → AreTurns seen root (reverse after) (option_or sight.lookup.next upper)
  unfolding turn
  turned_off before after = by sight.lookup.next refl
    where
      by : (next : Option (List ℕ)) → sight.lookup.next ≡ next → MatchOption next (after ≡ before) (λ n. after ≡ before ++ record { at = sight.at; block = sight.block; upper = upper } ∷ []) → AreTurns seen root (reverse before) upper
          → AreTurns seen root (reverse after) (option_or next upper)
      by None is same turns = subst (λ (ts : List Turn). AreTurns seen root (reverse ts) upper) (sym same) turns
      by (Some n) is more turns =
          let last = ap reverse more ∙ reverse-append before (turn ∷ []) in
          subst (λ (ts : List Turn). AreTurns seen root ts (Some n)) (sym last) (n, refl, held n is, turns)

  -- the same by the bounds of that child
  pub turned_on : (before after : List Turn) (below : Bounds) → IfSome sight.lookup.found (λ e. below ≡ record { least = 1016; lower = e.0; upper = option_or sight.lookup.next upper })
      → MatchOption sight.lookup.next (after ≡ before) (λ n. after ≡ before ++ record { at = sight.at; block = sight.block; upper = upper } ∷ []) → AreTurns seen root (reverse before) upper → AreTurns seen root (reverse after) below.upper
  unfolding at_entry
  turned_on before after below bounds_are more turns =
      let is = subst (λ (f : Option Entry). IfSome f (λ e. below ≡ record { least = 1016; lower = e.0; upper = option_or sight.lookup.next upper })) at_entry.found bounds_are in
      subst (AreTurns seen root (reverse after)) (sym (ap (λ (b : Bounds). b.upper) is)) (turned_off before after more turns)

-- ---- a node that is held is looked at again

-- what stands at an address spells the node there
stands_spelled : (seen : Seen) (at level : ℕ) (block : List ℕ) (entries : List Entry) → seen.view at ≡ Some block → NodeAt seen.view at level entries → Spells block level entries
stands_spelled seen at level block entries stands node =
    let same : node.bytes ≡ block = (let e = sym node.here ∙ stands in cc) in
    subst (λ (x : List ℕ). Spells x level entries) same node.spells

pub turn_spelled : (seen : Seen) (root : ℕ) (key : List ℕ) (turn : Turn) (held : IsTurn seen root key turn) → Spells turn.block (suc held.level) held.entries
turn_spelled seen root key turn held = stands_spelled seen turn.at.0 (suc held.level) turn.block held.entries held.stands held.down.node.0

pub turn_found : (seen : Seen) (root : ℕ) (key : List ℕ) (turn : Turn) (lookup : Lookup) (entries : List Entry) → IsTurn seen root key turn → Spells turn.block lookup.level entries → Tells key entries lookup
    → IsFound seen root key turn.upper (record { at = turn.at; block = turn.block; lookup = lookup })
turn_found seen root key turn lookup entries held spells tells =
    let same = one_spelled turn.block (suc held.level) lookup.level held.entries entries (turn_spelled seen root key turn held) spells in
    record {
      looks = record {
        steps = held.steps;
        at = turn.at.0;
        bounds = held.bounds;
        entries = held.entries;
        down = subst (λ (l : ℕ). ComesDown seen root key held.steps l turn.at.0 held.bounds held.entries) same.0 held.down;
        upper_is = held.upper_is;
        tells = subst (λ (es : List Entry). Tells key es lookup) (sym same.1) tells;
      };
      is = record { here = refl; stands = held.stands };
    }

-- the last of the held nodes, and those before it
pub last_turn : (seen : Seen) (root : ℕ) (turns before : List Turn) (turn : Turn) (upper : Option (List ℕ)) (key : List ℕ) → turns ≡ before ++ turn ∷ [] → upper ≡ Some key → AreTurns seen root (reverse turns) upper → IsTurn seen root key turn
last_turn seen root turns before turn upper key is some held =
    let last = subst (λ (ts : List Turn). AreTurns seen root ts upper) (ap reverse is ∙ reverse-append before (turn ∷ [])) held in
    let first_is : last.0 ≡ key = (let same = sym last.1 ∙ some in cc) in
    subst (λ (k : List ℕ). IsTurn seen root k turn) first_is last.2

-- ---- the leaf is reached

pub found_spelled : (seen : Seen) (root : ℕ) (key : List ℕ) (upper : Option (List ℕ)) (sight : Sight) → (found : IsFound seen root key upper sight) → Spells sight.block sight.lookup.level found.looks.entries
found_spelled seen root key upper sight found =
    stands_spelled seen found.looks.at sight.lookup.level sight.block found.looks.entries found.is.stands found.looks.down.node.0

pub leaf_reached : (seen : Seen) (root : ℕ) (key : List ℕ) (sight : Sight) (cursor : Cursor) → cursor.root.0 ≡ root → sight.lookup.level ≡ 0 → IsFound seen root key cursor.upper sight → Spells sight.block cursor.leaf.level cursor.leaf.entries
    → AreTurns seen root (reverse cursor.turns.items) cursor.upper → IsAtLeaf seen root key cursor
leaf_reached seen root key sight cursor is leaf found spells turns =
    let looks = found.looks in
    let same = one_spelled sight.block sight.lookup.level cursor.leaf.level looks.entries cursor.leaf.entries (found_spelled seen root key cursor.upper sight found) spells in
    let path : LeafPath = record { steps = looks.steps; at = looks.at; bounds = looks.bounds; entries = looks.entries } in
    record {
      path = path;
      known = subst (λ (l : ℕ). ComesDown seen root key looks.steps l looks.at looks.bounds looks.entries) leaf looks.down;
      stands = record { root_is = is; entries_are = sym same.1; upper_is = looks.upper_is; turns = turns };
    }

-- and is the next one
pub next_reached : (old new : Seen) (root : ℕ) (key u : List ℕ) (path : LeafPath) (cursor next : Cursor) → OnlyRead old new → cursor.upper ≡ Some u → IsLeafPath old root key path → StandsAt old root path cursor → IsAtLeaf new root u next → IsAtNext new root path next
next_reached old new root key u path cursor next reads upper known stands reached = record {
  next = reached.path;
  is = next_path old new root key u path reached.path reads known (sym stands.upper_is ∙ upper) reached.known;
  stands = reached.stands;
}

-- ---- a call behind another

pub path_reads_then : (root : ℕ) (key : List ℕ) (old mid new : Seen) → OnlyRead old mid → OnlyRead mid new → ReadsPath root key old mid → ReadsPath root key mid new → ReadsPath root key old new
path_reads_then root key old mid new before after first second at = elim (second at) [
  | inl same ↦ elim (first at) [
    | inl was ↦ inl (same ∙ was)
    | inr on ↦ inr (λ store agrees. on store (agrees_before after agrees))
  ]
  | inr on ↦ inr (λ store agrees. subst (λ (s : Store). IsOnPath s key root at) (one_store before store) (on store agrees))
]

pub path_fault_then : (root : ℕ) (key : List ℕ) (old mid new : Seen) (fault : TreeFault) → OnlyRead old mid → IsPathFault root key mid new fault → IsPathFault root key old new fault
path_fault_then root key old mid new (Space fault) before blames = tt
path_fault_then root key old mid new (Broken at) before blames = λ store agrees.
    subst (λ (s : Store). IsBreakOnPath s key root at.0) (one_store before store) (blames store agrees)

-- ---- a cursor's own root and upper bound

pub of_path : (P : ℕ → Option (List ℕ) → Type 0) (seen : Seen) (root : ℕ) (path : LeafPath) (cursor : Cursor) → StandsAt seen root path cursor → P cursor.root.0 cursor.upper → P root path.bounds.upper
of_path P seen root path cursor stands holds = subst (λ (r : ℕ). P r path.bounds.upper) stands.root_is (subst (P cursor.root.0) stands.upper_is holds)

pub of_cursor : (seen : Seen) (root : ℕ) (key : List ℕ) (path : LeafPath) (cursor : Cursor) → IsLeafPath seen root key path → StandsAt seen root path cursor → IsLeafPath seen cursor.root.0 key path × StandsAt seen cursor.root.0 path cursor
of_cursor seen root key path cursor known stands =
    let P : ℕ → Type 0 = λ r. IsLeafPath seen r key path × StandsAt seen r path cursor in
    subst P (sym stands.root_is) (known, stands)
