-- How a change of a leaf is carried up to the root: it begins, a node that fits is written, the nodes above it
-- stay, and the tree has the new content.
use Rattle.std.proofs.Common.{◌≡◌, ◌≢◌, ◌⊎◌, ℕ, zero, suc, ◌<◌, ◌≤◌, List, [], ◌∷◌, ◌++◌, length, Option, Some, None, IfSome, refl, sym, ap, subst, ◌∙◌, inl, inr, arith}
use Rattle.std.specs.List.{Contains}
use Rattle.std.specs.FinMap as map
use Rattle.std.proofs.lemmas.List.Elements.{Contains-append_left, Contains-append_right}
use Rattle.sea_base.specs.Name.{IsName}
use Rattle.sea_base.specs.Space.{Store, Seen, laid}
use Rattle.sea_node.specs.Entries.{Entry, Values, IsNotAbove, size, edited}
use Rattle.sea_node.specs.Node.{IsNode, node_bytes}
use Rattle.sea_tree.specs.Tree.{Bounds, root_bounds, IsWithin, child_bounds, IsAddress, IsTree, IsNodeOf}
use Rattle.sea_tree.specs.Content.{HasContent}
use Rattle.sea_tree.specs.Breaks.{HasNode}
use Rattle.sea_tree.specs.Calls.{Becomes}
use Rattle.sea_tree.specs.Does.{overlaid}
use Rattle.sea_tree.specs.Subtrees.{AllBelow, Holds}
use Rattle.sea_tree.specs.Changing.{Changed, changed_content}
use Rattle.sea_tree.specs.Mending.{Aim, IsGiven, Mending, Replaced}
use Rattle.sea_tree.proofs.Holding.{Holds-node, same_address, nodes_of_root, one_node, AllBelow-pick, Contains-head, Contains-later, Contains-cases}
use Rattle.sea_tree.proofs.Contents.{one_content, pairs_as_entries, insert_entries, remove_entries, HasContent-from_sorted, HasContent-held}
use Rattle.sea_tree.proofs.Frames.{IsSameOn, HasNode-kept, AllBelow-kept, AllBelow-around, Below-kept}
use Rattle.sea_tree.proofs.Apart.{at_not_below, HasContent-beside, few_levels}
use Rattle.sea_tree.proofs.MendNear.{IsNearPlace-edited}
use Rattle.sea_tree.proofs.MendSides.{Sides, sides, sides_lower, sides_upper, sides_whole, sides_kept, sides_pairs, Contains-other_middle, puts_one}
use Rattle.sea_tree.proofs.MendSplit.{IsFree, put_node, mending_held, mending_apart, mending_new_apart}

-- ---- a leaf's entries are edited

pub mending_begun : (was : Store) (at : ℕ) (bounds : Bounds) (before : List Entry) (aim : Aim) → HasNode was 0 at bounds before → IsName aim.key → IfSome aim.value (λ v. length v ≤ 1024) → IsNotAbove bounds.lower aim.key → IsWithin aim.key bounds.upper → aim.last ≤ aim.first → Mending was was 0 at bounds before (edited aim.key aim.value before) aim
mending_begun was at bounds before aim node name short lower upper none = record {
  old_pairs = before;
  new_pairs = edited aim.key aim.value before;
  old_nodes = [];
  new_nodes = [];
  node = node;
  below_was = (refl, refl);
  below_is = (refl, refl);
  near = IsNearPlace-edited 0 bounds aim.key aim.value before node.0.spells.node node.1 name short lower upper (λ h. absurd (omega (arith, h)));
  pairs = refl;
  key_lower = lower;
  key_upper = upper;
  elsewhere = λ q out unknown. refl;
  nodes = λ q c. inl c;
  stays = λ q c. inl c;
  uses = λ q given. absurd (omega (arith, given.0, given.1, none));
}

-- ---- a node that fits is written

module _ (was is is' : Store) (level at : ℕ) (bounds : Bounds) (before after : List Entry) (aim : Aim) (m : Mending was is level at bounds before after aim) (free : IsFree was aim) (others : (q : ℕ) → q ≢ at → is' q ≡ is q) where
  same_below : IsSameOn is is' m.new_nodes
  same_below q c = others q (λ same. mending_new_apart was is level at bounds before after aim m free (subst (Contains m.new_nodes) same c))

  finished : HasNode is' level at bounds after → Replaced was is' level level at bounds aim
  finished node = record {
    old_pairs = m.old_pairs;
    new_pairs = m.new_pairs;
    old_nodes = at ∷ m.old_nodes;
    new_nodes = at ∷ m.new_nodes;
    holds_was = mending_held was is level at bounds before after aim m;
    holds_is = Holds-node is' level at bounds after m.new_pairs m.new_nodes node (Below-kept is is' level after bounds.upper m.new_pairs m.new_nodes same_below m.below_is);
    pairs = m.pairs;
    key_lower = m.key_lower;
    key_upper = m.key_upper;
    elsewhere = λ q out unknown.
        others q (λ same. out (subst (Contains (at ∷ m.old_nodes)) (sym same) (Contains-head at m.old_nodes)))
        ∙ m.elsewhere q (λ c. out (Contains-later at m.old_nodes q c)) unknown;
    nodes = λ q c. elim (Contains-cases at m.new_nodes q c) [
      | inl same ↦ inl (subst (Contains (at ∷ m.old_nodes)) same (Contains-head at m.old_nodes))
      | inr later ↦ elim (m.nodes q later) [ inl old ↦ inl (Contains-later at m.old_nodes q old) | inr given ↦ inr given ]
    ];
    stays = λ q c. elim (Contains-cases at m.old_nodes q c) [
      | inl same ↦ inl (subst (Contains (at ∷ m.new_nodes)) same (Contains-head at m.new_nodes))
      | inr later ↦ elim (m.stays q later) [
        | inl new ↦ inl (Contains-later at m.new_nodes q new)
        | inr none ↦ inr (others q (λ same. mending_apart was is level at bounds before after aim m (subst (Contains m.old_nodes) same later)) ∙ none)
      ]
    ];
    uses = λ q given. Contains-later at m.new_nodes q (m.uses q given);
  }

-- The node in hand is written: where its entries are a node and enough, the change is made below its address.
pub fits_replaced : (was is is' : Store) (level at : ℕ) (bounds : Bounds) (before after : List Entry) (aim : Aim) → Mending was is level at bounds before after aim → IsFree was aim → IsNode level after → bounds.least ≤ size after → ((q : ℕ) → is' q ≡ overlaid ((at, Some (node_bytes level after)) ∷ []) is q) → Replaced was is' level level at bounds aim
fits_replaced was is is' level at bounds before after aim m free node filled same =
    let puts = puts_one is is' at (Some (node_bytes level after)) same in
    finished was is is' level at bounds before after aim m free puts.others
    (put_node is' level at bounds after puts.here node (record { filled = filled; lower = m.near.lower; upper = m.near.upper; first = λ h. (m.near.first h).1 }))

-- ---- nothing changes above

-- the subtree of a child
pub child_held : (store : Store) (level at : ℕ) (bounds : Bounds) (pairs : List Entry) (nodes : List ℕ) (a : List Entry) (e : Entry) (b : List Entry) (child : ℕ) → Holds store (suc level) at bounds pairs nodes → HasNode store (suc level) at bounds (a ++ (e ∷ b)) → IsAddress e.1 child → (p : List Entry) × (n : List ℕ) × Holds store level child (child_bounds e b bounds.upper) p n
child_held store level at bounds pairs nodes a e b child holds node address =
    let same : holds.0 ≡ a ++ (e ∷ b) = (one_node store at (suc level) (suc level) holds.0 (a ++ (e ∷ b)) holds.2.0 node.0).1 in
    let m = AllBelow-pick (Holds store level) a e b bounds.upper pairs holds.1 (subst (λ (es : List Entry). AllBelow (Holds store level) es bounds.upper pairs holds.1) same holds.3) in
    (m.pairs_here, m.nodes_here, subst (λ (c : ℕ). Holds store level c (child_bounds e b bounds.upper) m.pairs_here m.nodes_here) (same_address e.1 m.child child m.address address) m.here)

module _ (was is : Store) (level at top : ℕ) (bounds : Bounds) (a : List Entry) (e : Entry) (b : List Entry) (aim : Aim) (s : Sides was level top bounds a e b) (address : IsAddress e.1 at) (r : Replaced was is level level at (child_bounds e b bounds.upper) aim) (free : IsFree was aim) where
  old_nodes : List ℕ
  old_nodes = s.nodes_a ++ (r.old_nodes ++ s.nodes_b)

  below_was : AllBelow (Holds was level) (a ++ (e ∷ b)) bounds.upper (s.pairs_a ++ (r.old_pairs ++ s.pairs_b)) (s.nodes_a ++ (r.old_nodes ++ s.nodes_b))
  below_was = sides_whole was level top bounds a e b s at r.old_pairs r.old_nodes address r.holds_was

  kept : IsSameOn was is s.nodes_a × IsSameOn was is s.nodes_b
  kept = sides_kept was level top bounds a e b s is at r.old_pairs r.old_nodes address r.holds_was (λ q out filled. r.elsewhere q out (λ given. filled (free q given)))

  below_is : AllBelow (Holds is level) (a ++ (e ∷ b)) bounds.upper (s.pairs_a ++ (r.new_pairs ++ s.pairs_b)) (s.nodes_a ++ (r.new_nodes ++ s.nodes_b))
  below_is =
      AllBelow-around (Holds is level) a e b bounds.upper at s.pairs_a r.new_pairs s.pairs_b s.nodes_a r.new_nodes s.nodes_b
      (AllBelow-kept was is level a (Some e.0) s.pairs_a s.nodes_a kept.0 s.below_a) address r.holds_is (AllBelow-kept was is level b bounds.upper s.pairs_b s.nodes_b kept.1 s.below_b)

  top_filled : was top ≢ None
  top_filled none = let clash : Some s.node.0.bytes ≡ None = sym s.node.0.here ∙ none in cc

  inside : (q : ℕ) → Contains r.old_nodes q → Contains (s.nodes_a ++ (r.old_nodes ++ s.nodes_b)) q
  inside q c = Contains-append_right s.nodes_a (r.old_nodes ++ s.nodes_b) q (Contains-append_left r.old_nodes s.nodes_b q c)

  same_top : is top ≡ was top
  same_top =
      r.elsewhere top (λ c. at_not_below was level top bounds (a ++ (e ∷ b)) (s.pairs_a ++ (r.old_pairs ++ s.pairs_b)) (s.nodes_a ++ (r.old_nodes ++ s.nodes_b)) s.node below_was (inside top c))
      (λ given. top_filled (free top given))

  up_sides : Replaced was is (suc level) (suc level) top bounds aim
  up_sides = record {
    old_pairs = s.pairs_a ++ (r.old_pairs ++ s.pairs_b);
    new_pairs = s.pairs_a ++ (r.new_pairs ++ s.pairs_b);
    old_nodes = top ∷ (s.nodes_a ++ (r.old_nodes ++ s.nodes_b));
    new_nodes = top ∷ (s.nodes_a ++ (r.new_nodes ++ s.nodes_b));
    holds_was = (a ++ (e ∷ b), s.nodes_a ++ (r.old_nodes ++ s.nodes_b), s.node, below_was, refl);
    holds_is = (a ++ (e ∷ b), s.nodes_a ++ (r.new_nodes ++ s.nodes_b), HasNode-kept was is (suc level) top bounds (a ++ (e ∷ b)) same_top s.node, below_is, refl);
    pairs = sides_pairs was level top bounds a e b s aim.key aim.value r.old_pairs r.new_pairs r.key_lower r.key_upper r.pairs;
    key_lower = sides_lower was level top bounds a e b s aim.key r.key_lower;
    key_upper = sides_upper was level top bounds a e b s aim.key r.key_upper;
    elsewhere = λ q out unknown. r.elsewhere q (λ c. out (Contains-later top (s.nodes_a ++ (r.old_nodes ++ s.nodes_b)) q (inside q c))) unknown;
    nodes = λ q c. elim (Contains-cases top (s.nodes_a ++ (r.new_nodes ++ s.nodes_b)) q c) [
      | inl same ↦ inl (subst (Contains (top ∷ (s.nodes_a ++ (r.old_nodes ++ s.nodes_b)))) same (Contains-head top (s.nodes_a ++ (r.old_nodes ++ s.nodes_b))))
      | inr later ↦ elim (Contains-other_middle s.nodes_a r.new_nodes r.old_nodes s.nodes_b q (IsGiven aim q) (r.nodes q) later) [
        | inl old ↦ inl (Contains-later top (s.nodes_a ++ (r.old_nodes ++ s.nodes_b)) q old)
        | inr given ↦ inr given
      ]
    ];
    stays = λ q c. elim (Contains-cases top (s.nodes_a ++ (r.old_nodes ++ s.nodes_b)) q c) [
      | inl same ↦ inl (subst (Contains (top ∷ (s.nodes_a ++ (r.new_nodes ++ s.nodes_b)))) same (Contains-head top (s.nodes_a ++ (r.new_nodes ++ s.nodes_b))))
      | inr later ↦ elim (Contains-other_middle s.nodes_a r.old_nodes r.new_nodes s.nodes_b q (is q ≡ None) (r.stays q) later) [
        | inl new ↦ inl (Contains-later top (s.nodes_a ++ (r.new_nodes ++ s.nodes_b)) q new)
        | inr none ↦ inr none
      ]
    ];
    uses = λ q given. Contains-later top (s.nodes_a ++ (r.new_nodes ++ s.nodes_b)) q (Contains-append_right s.nodes_a (r.new_nodes ++ s.nodes_b) q (Contains-append_left r.new_nodes s.nodes_b q (r.uses q given)));
  }

-- Where the change is made in the subtree of a child, it is in that of its parent, which stays.
pub up_replaced : (was is : Store) (level at top : ℕ) (bounds : Bounds) (pairs : List Entry) (nodes : List ℕ) (entries a : List Entry) (e : Entry) (b : List Entry) (aim : Aim) → Holds was (suc level) top bounds pairs nodes → HasNode was (suc level) top bounds entries → entries ≡ a ++ (e ∷ b) → IsAddress e.1 at → Replaced was is level level at (child_bounds e b bounds.upper) aim → IsFree was aim → Replaced was is (suc level) (suc level) top bounds aim
up_replaced was is level at top bounds pairs nodes entries a e b aim holds node split address r free =
    up_sides was is level at top bounds a e b aim (sides was level top bounds pairs nodes a e b holds (subst (HasNode was (suc level) top bounds) split node)) address r free

-- a path down from a node of a level at an address with its bounds to another
abbrev pub IsDescent : Store → ℕ → ℕ → Bounds → ℕ → ℕ → Bounds → Type 0
IsDescent store zero at bounds last_level last last_bounds = (zero ≡ last_level) × (at ≡ last) × (bounds ≡ last_bounds)
IsDescent store (suc level) at bounds last_level last last_bounds =
    ((suc level ≡ last_level) × (at ≡ last) × (bounds ≡ last_bounds))
    ⊎ ((a : List Entry) × (e : Entry) × (b : List Entry) × (child : ℕ) × HasNode store (suc level) at bounds (a ++ (e ∷ b)) × IsAddress e.1 child
    × IsDescent store level child (child_bounds e b bounds.upper) last_level last last_bounds)

pub descent_none : (store : Store) (level at : ℕ) (bounds : Bounds) → IsDescent store level at bounds level at bounds
descent_none store zero at bounds = (refl, refl, refl)
descent_none store (suc level) at bounds = inl (refl, refl, refl)

at_end : (P : ℕ → ℕ → Bounds → Type 0) (level at : ℕ) (bounds : Bounds) (last_level last : ℕ) (last_bounds : Bounds) → level ≡ last_level → at ≡ last → bounds ≡ last_bounds → P level at bounds → P last_level last last_bounds
at_end P level at bounds last_level last last_bounds levels places are here =
    subst (P last_level last) are (subst (λ (x : ℕ). P last_level x bounds) places (subst (λ (l : ℕ). P l at bounds) levels here))

-- there is a subtree at its end
pub descent_held : (store : Store) (level at : ℕ) (bounds : Bounds) (pairs : List Entry) (nodes : List ℕ) (last_level last : ℕ) (last_bounds : Bounds) → Holds store level at bounds pairs nodes → IsDescent store level at bounds last_level last last_bounds → (p : List Entry) × (n : List ℕ) × Holds store last_level last last_bounds p n
descent_held store zero at bounds pairs nodes last_level last last_bounds holds descent =
    (pairs, nodes, at_end (λ l x c. Holds store l x c pairs nodes) zero at bounds last_level last last_bounds descent.0 descent.1 descent.2 holds)
descent_held store (suc level) at bounds pairs nodes last_level last last_bounds holds (inl end) =
    (pairs, nodes, at_end (λ l x c. Holds store l x c pairs nodes) (suc level) at bounds last_level last last_bounds end.0 end.1 end.2 holds)
descent_held store (suc level) at bounds pairs nodes last_level last last_bounds holds (inr step) =
    let c = child_held store level at bounds pairs nodes step.0 step.1 step.2 step.3 holds step.4 step.5 in
    descent_held store level step.3 (child_bounds step.1 step.2 bounds.upper) c.0 c.1 last_level last last_bounds c.2 step.6

-- Where the change is made below the end of a descent, it is below its beginning.
pub descent_replaced : (was is : Store) (level at : ℕ) (bounds : Bounds) (pairs : List Entry) (nodes : List ℕ) (last_level last : ℕ) (last_bounds : Bounds) (aim : Aim) → Holds was level at bounds pairs nodes → IsDescent was level at bounds last_level last last_bounds → Replaced was is last_level last_level last last_bounds aim → IsFree was aim → Replaced was is level level at bounds aim
descent_replaced was is zero at bounds pairs nodes last_level last last_bounds aim holds descent r free =
    at_end (λ l x c. Replaced was is l l x c aim) last_level last last_bounds zero at bounds (sym descent.0) (sym descent.1) (sym descent.2) r
descent_replaced was is (suc level) at bounds pairs nodes last_level last last_bounds aim holds (inl end) r free =
    at_end (λ l x c. Replaced was is l l x c aim) last_level last last_bounds (suc level) at bounds (sym end.0) (sym end.1) (sym end.2) r
descent_replaced was is (suc level) at bounds pairs nodes last_level last last_bounds aim holds (inr step) r free =
    let c = child_held was level at bounds pairs nodes step.0 step.1 step.2 step.3 holds step.4 step.5 in
    let below : Replaced was is level level step.3 (child_bounds step.1 step.2 bounds.upper) aim = descent_replaced was is level step.3 (child_bounds step.1 step.2 bounds.upper) c.0 c.1 last_level last last_bounds aim c.2 step.6 r free in
    up_replaced was is level step.3 at bounds pairs nodes (step.0 ++ (step.1 ∷ step.2)) step.0 step.1 step.2 aim holds step.4 refl step.5 below free

-- ---- the change is made

pub becomes_changed : (store : Store) (root : ℕ) (old new : Seen) (after : Values) → Changed (laid old store) (laid new store) root old.next new.next after → Becomes store root old new after
becomes_changed store root old new after c = record { content = c.content; elsewhere = c.elsewhere; nodes = c.nodes; left = c.left; used = c.used; levels = λ level tree. few_levels (laid new store) level root root_bounds tree; others = c.others }

-- other trees keep their content where nothing but the nodes of one, its root and what was given changes
pub changed_from : (was is : Store) (root first last : ℕ) (after : Values) → IsTree was root → ((q : ℕ) → first ≤ q → q < last → was q ≡ None) → HasContent is root after → ((at : ℕ) → at ≢ root → (IsNodeOf was root at → ⊥) → (at < first) ⊎ (last ≤ at) → is at ≡ was at) → ((at : ℕ) → IsNodeOf is root at → (at ≡ root) ⊎ (IsNodeOf was root at ⊎ ((first ≤ at) × (at < last)))) → ((at : ℕ) → (at ≡ root) ⊎ (IsNodeOf was root at ⊎ ((first ≤ at) × (at < last))) → is at ≢ None → IsNodeOf is root at) → ((at : ℕ) → first ≤ at → at < last → IsNodeOf is root at) → Changed was is root first last after
changed_from was is root first last after tree free content elsewhere nodes left used = record {
  content = content;
  elsewhere = elsewhere;
  nodes = nodes;
  left = left;
  used = used;
  others = λ other kept apart has none old. HasContent-beside was is root first last tree free elsewhere other kept has none apart old;
}

pub entries_changed : (key : List ℕ) (value : Option (List ℕ)) (content : Values) → map.entries (changed_content key value content) ≡ edited key value (map.entries content)
entries_changed key (Some value) content = insert_entries content key value
entries_changed key None content = remove_entries content key

-- a tree that is filled has the entries of its content as its pairs
pub pairs_of_content : (store : Store) (level root : ℕ) (pairs : List Entry) (nodes : List ℕ) (content : Values) → Holds store level root root_bounds pairs nodes → HasContent store root content → map.entries content ≡ pairs
pairs_of_content store level root pairs nodes content holds has =
    ap (λ (c : Values). map.entries c) (one_content store root content (map.from_sorted pairs) has (HasContent-from_sorted store level root pairs nodes holds))
    ∙ pairs_as_entries store level root root_bounds pairs nodes holds

pub not_given : (first last q : ℕ) → (q < first) ⊎ (last ≤ q) → (first ≤ q) × (q < last) → ⊥
not_given first last q (inl below) given = omega (arith, below, given.0)
not_given first last q (inr past) given = omega (arith, past, given.1)

-- the address of a subtree is among its nodes
root_among : (store : Store) (level at : ℕ) (bounds : Bounds) (pairs : List Entry) (nodes : List ℕ) → Holds store level at bounds pairs nodes → Contains nodes at
root_among store zero at bounds pairs nodes holds = subst (λ (l : List ℕ). Contains l at) (sym holds.3) (Contains-head at [])
root_among store (suc level) at bounds pairs nodes holds = subst (λ (l : List ℕ). Contains l at) (sym holds.4) (Contains-head at holds.1)

-- Where the change is made below the root, the tree has the new content.
pub replaced_changed : (was is : Store) (level new_level root : ℕ) (aim : Aim) (content : Values) → HasContent was root content → Replaced was is level new_level root root_bounds aim → IsFree was aim → Changed was is root aim.first aim.last (changed_content aim.key aim.value content)
replaced_changed was is level new_level root aim content has r free =
    let same : map.entries (changed_content aim.key aim.value content) ≡ r.new_pairs =
    entries_changed aim.key aim.value content ∙ ap (λ (es : List Entry). edited aim.key aim.value es) (pairs_of_content was level root r.old_pairs r.old_nodes content r.holds_was has) ∙ sym r.pairs in
    changed_from was is root aim.first aim.last (changed_content aim.key aim.value content) has.tree (λ q from below. free q (from, below))
    (HasContent-held is new_level root r.new_pairs r.new_nodes (changed_content aim.key aim.value content) r.holds_is same)
    (λ q other none apart. r.elsewhere q (λ c. none ((nodes_of_root was level root root_bounds r.old_pairs r.old_nodes q r.holds_was).0 c)) (not_given aim.first aim.last q apart))
    (λ q node. elim (r.nodes q ((nodes_of_root is new_level root root_bounds r.new_pairs r.new_nodes q r.holds_is).1 node)) [
      | inl old ↦ inr (inl ((nodes_of_root was level root root_bounds r.old_pairs r.old_nodes q r.holds_was).0 old))
      | inr given ↦ inr (inr given)
    ])
    (λ q was_there filled. elim was_there [
      | inl same ↦ subst (IsNodeOf is root) (sym same) ((nodes_of_root is new_level root root_bounds r.new_pairs r.new_nodes root r.holds_is).0 (root_among is new_level root root_bounds r.new_pairs r.new_nodes r.holds_is))
      | inr (inl node) ↦ elim (r.stays q ((nodes_of_root was level root root_bounds r.old_pairs r.old_nodes q r.holds_was).1 node)) [
        | inl new ↦ (nodes_of_root is new_level root root_bounds r.new_pairs r.new_nodes q r.holds_is).0 new
        | inr none ↦ absurd (filled none)
      ]
      | inr (inr given) ↦ (nodes_of_root is new_level root root_bounds r.new_pairs r.new_nodes q r.holds_is).0 (r.uses q given)
    ])
    (λ q from below. (nodes_of_root is new_level root root_bounds r.new_pairs r.new_nodes q r.holds_is).0 (r.uses q (from, below)))
