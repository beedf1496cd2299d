-- What a tree holds: its paths lead to the pairs of its leaves, and its content has these as its entries.
use Rattle.std.proofs.Common.{◌≡◌, ◌≢◌, ℕ, zero, suc, Bool, true, false, cond, List, [], ◌∷◌, ◌++◌, Option, Some, None, refl, sym, ap, subst, ◌∙◌, inl, inr}
use Rattle.std.specs.Prelude.{◌↔◌, not, T, IsTrue}
use Rattle.std.specs.List.{Contains}
use Rattle.std.specs.Ordering.{eq_by_cmp, is_eq, ordering_reverse}
use Rattle.std.specs.declared.cmp.Ordering.{Ordering}
use Rattle.std.specs.declared.cmp.Ordering.TheVariants.{Less, Equal, Greater}
use Rattle.std.specs.Cmp.{alike_right, eq_by_cmp_equiv}
use Rattle.std.specs.FinMap as map
use Rattle.std.specs.FinMap.{find, entries_sorted, same_map, get-empty, get-entries, get-remove, entries-insert, entries-from_sorted}
use Rattle.std.specs.FinMap.Entries.{put, is_sorted-where_key, find-where_key, same_entries}
use Rattle.std.proofs.lemmas.List.Elements.{All-contains, All-from_recursion}
use Rattle.sea_base.specs.Space.{Store}
use Rattle.sea_node.specs.Entries.{Entry, Values, key_order, IsBelow, IsNotAbove, IsRising, edited}
use Rattle.sea_node.proofs.Keys.{key_order_total, same_key, key_order-itself, key_order-back, IsRising-head, IsRising-tail}
use Rattle.sea_tree.specs.Tree.{NodeAt, Bounds, root_bounds, IsWithin, next_key, child_bounds, IsAddress}
use Rattle.sea_tree.specs.Content.{Guides, Leads, LeadsTo, HasContent}
use Rattle.sea_tree.specs.Subtrees.{AllBelow, Holds}
use Rattle.sea_tree.proofs.Holding.{node_held, Holds-from_subtree, subtree_held, AllBelow-pick, pair_below, same_address, one_node, keys_held, Contains-nil, Contains-cases, Contains-head, Contains-later, Contains-picked_pair}

-- ---- paths

leads_to_pair : (store : Store) (level at : ℕ) (bounds : Bounds) (pairs : List Entry) (nodes : List ℕ) (key value : List ℕ) → Holds store level at bounds pairs nodes → Leads store level at key value → Contains pairs (key, value)
leads_to_pair store zero at bounds pairs nodes key value holds leads =
    let same = (one_node store at 0 0 leads.0 holds.0 leads.1 holds.1.0).1 in
    subst (λ (es : List Entry). Contains es (key, value)) (same ∙ sym holds.2) leads.2
leads_to_pair store (suc level) at bounds pairs nodes key value holds leads =
    let same = (one_node store at (suc level) (suc level) leads.0 holds.0 leads.1 holds.2.0).1 in
    let child = leads.2.0 in
    let guides = leads.2.1 in
    let split : holds.0 ≡ guides.before ++ guides.entry ∷ guides.after = sym same ∙ guides.split in
    let p = AllBelow-pick (Holds store level) guides.before guides.entry guides.after bounds.upper pairs holds.1 (subst (λ (es : List Entry). AllBelow (Holds store level) es bounds.upper pairs holds.1) split holds.3) in
    let is_child = same_address guides.entry.1 child p.child guides.address p.address in
    let below = leads_to_pair store level p.child (child_bounds guides.entry guides.after bounds.upper) p.pairs_here p.nodes_here key value p.here (subst (λ (c : ℕ). Leads store level c key value) is_child leads.2.2) in
    Contains-picked_pair (Holds store level) guides.before guides.entry guides.after bounds.upper pairs holds.1 p (key, value) below

last_within : (key : List ℕ) (after : List Entry) (upper : Option (List ℕ)) → IsWithin key (next_key after upper) → IsWithin key (next_key after None)
last_within key [] upper within = tt
last_within key (e ∷ after) upper within = within

-- where a key stands between the bounds of a child, it is that child to which the key guides
pub guided : (entries before : List Entry) (entry : Entry) (after : List Entry) (upper : Option (List ℕ)) (key : List ℕ) (child : ℕ) → entries ≡ before ++ entry ∷ after → IsAddress entry.1 child → IsNotAbove entry.0 key → IsWithin key (next_key after upper) → Guides entries key child
guided entries before entry after upper key child split address not_above within =
    record { before = before; entry = entry; after = after; split = split; not_above = not_above; last = last_within key after upper within; address = address }

pair_led_to : (store : Store) (level at : ℕ) (bounds : Bounds) (pairs : List Entry) (nodes : List ℕ) (key value : List ℕ) → Holds store level at bounds pairs nodes → Contains pairs (key, value) → Leads store level at key value
pair_led_to store zero at bounds pairs nodes key value holds has =
    (holds.0, holds.1.0, subst (λ (es : List Entry). Contains es (key, value)) holds.2 has)
pair_led_to store (suc level) at bounds pairs nodes key value holds has =
    let f = pair_below (Holds store level) bounds.upper (key, value) holds.0 pairs holds.1 holds.3 has in
    let b = child_bounds f.entry f.after bounds.upper in
    let within = keys_held store level f.child b f.pairs f.nodes f.here in
    let not_above = All-contains (λ (e : Entry). IsNotAbove b.lower e.0) f.pairs (key, value) within.lower f.has in
    let below = All-contains (λ (e : Entry). IsWithin e.0 b.upper) f.pairs (key, value) within.upper f.has in
    (holds.0, holds.2.0, (f.child, guided holds.0 f.before f.entry f.after bounds.upper key f.child f.split f.address not_above below, pair_led_to store level f.child b f.pairs f.nodes key value f.here f.has))

-- paths lead to the pairs of a subtree, and to no other
pub pairs_held : (store : Store) (level at : ℕ) (bounds : Bounds) (pairs : List Entry) (nodes : List ℕ) (key value : List ℕ) → Holds store level at bounds pairs nodes → Leads store level at key value ↔ Contains pairs (key, value)
pairs_held store level at bounds pairs nodes key value holds =
    (leads_to_pair store level at bounds pairs nodes key value holds, pair_led_to store level at bounds pairs nodes key value holds)

leads_from_node : (store : Store) (level at : ℕ) (key value : List ℕ) → Leads store level at key value → (entries : List Entry) × NodeAt store at level entries
leads_from_node store zero at key value leads = (leads.0, leads.1)
leads_from_node store (suc level) at key value leads = (leads.0, leads.1)

-- the same from a root
pub pairs_of_root : (store : Store) (level root : ℕ) (bounds : Bounds) (pairs : List Entry) (nodes : List ℕ) (key value : List ℕ) → Holds store level root bounds pairs nodes → LeadsTo store root key value ↔ Contains pairs (key, value)
pairs_of_root store level root bounds pairs nodes key value holds =
    let own = node_held store level root bounds pairs nodes holds in
    let both = pairs_held store level root bounds pairs nodes key value holds in (
      λ leads.
          let first = leads_from_node store leads.0 root key value leads.1 in
          both.0 (subst (λ (l : ℕ). Leads store l root key value) (one_node store root leads.0 level first.0 own.entries first.1 own.node.0).0 leads.1),
      λ has. (level, both.1 has),
    )

-- no path leads from an empty root
pub leads_nowhere : (store : Store) (root : ℕ) (key value : List ℕ) → store root ≡ None → LeadsTo store root key value → ⊥
leads_nowhere store root key value none leads = let e = (leads_from_node store leads.0 root key value leads.1).1.here in cc

-- ---- entries and finite maps

told : (b : Bool) → T b → IsTrue b
told true h = refl
told false h = absurd h

shown : (b : Bool) → IsTrue b → T b
shown true h = tt
shown false h = absurd (let e : ◌≡◌ {A = Bool} false true = h in cc)

pub entries_rise : (content : Values) → IsRising (map.entries content)
entries_rise content = told _ (entries_sorted content)

pub entries_of_sorted : (pairs : List Entry) → IsRising pairs → map.entries (map.from_sorted {R = key_order} pairs) ≡ pairs
entries_of_sorted pairs rising = entries-from_sorted key_order pairs (shown _ rising)

pub get_found : (content : Values) (key : List ℕ) → map.get content key ≡ find key_order key (map.entries content)
get_found content key = get-entries content key

pub insert_entries : (content : Values) (key value : List ℕ) → map.entries (map.insert content key value) ≡ put key_order key value (map.entries content)
insert_entries content key value = entries-insert key_order_total content key value

found_contained : (key value : List ℕ) (entries : List Entry) → find key_order key entries ≡ Some value → Contains entries (key, value)
found_contained key value [] found = absurd cc
found_contained key value (e ∷ entries) found = by (eq_by_cmp key_order key e.0) refl (found_contained key value entries) found
  where
    tied : (o : Ordering) → is_eq o ≡ true → o ≡ Equal
    tied Less e = absurd cc
    tied Equal e = refl
    tied Greater e = absurd cc

    by : (b : Bool) → eq_by_cmp key_order key e.0 ≡ b → (find key_order key entries ≡ Some value → Contains entries (key, value)) → cond b (Some e.1) (find key_order key entries) ≡ Some value → Contains (e ∷ entries) (key, value)
    by true is later found =
        let same_keys : e.0 ≡ key = sym (same_key key e.0 (tied (key_order key e.0) is)) in
        let same_values : e.1 ≡ value = (cc) in
        subst (Contains (e ∷ entries)) (λ i. (same_keys i, same_values i)) (Contains-head e entries)
    by false is later found = Contains-later e entries (key, value) (later found)

contained_found : (key value : List ℕ) (entries : List Entry) → IsRising entries → Contains entries (key, value) → find key_order key entries ≡ Some value
contained_found key value [] rising has = absurd (Contains-nil (key, value) has)
contained_found key value (e ∷ entries) rising has = elim (Contains-cases e entries (key, value) has) [
  | inl same ↦
      let itself : key_order key e.0 ≡ Equal = subst (λ (k : List ℕ). key_order key k ≡ Equal) (ap (λ (x : Entry). x.0) (sym same)) (key_order-itself key) in
      ap (λ (o : Ordering). cond (is_eq o) (Some e.1) (find key_order key entries)) itself ∙ ap (λ (x : Entry). Some x.1) same
  | inr later ↦
      let below : IsBelow e.0 key = All-contains (λ (f : Entry). IsBelow e.0 f.0) entries (key, value) (All-from_recursion (λ (f : Entry). IsBelow e.0 f.0) entries (IsRising-head e entries rising)) later in
      let above : key_order key e.0 ≡ Greater = key_order-back key e.0 ∙ ap ordering_reverse below in
      ap (λ (o : Ordering). cond (is_eq o) (Some e.1) (find key_order key entries)) above ∙ contained_found key value entries (IsRising-tail e entries rising) later
]

-- among entries that rise, the value found under a key is the one that stands with it
pub find_contains : (key value : List ℕ) (entries : List Entry) → IsRising entries → (find key_order key entries ≡ Some value) ↔ Contains entries (key, value)
find_contains key value entries rising = (found_contained key value entries, contained_found key value entries rising)

pub get_contains : (content : Values) (key value : List ℕ) → (map.get content key ≡ Some value) ↔ Contains (map.entries content) (key, value)
get_contains content key value =
    let both = find_contains key value (map.entries content) (entries_rise content) in
    (λ got. both.0 (sym (get_found content key) ∙ got), λ has. get_found content key ∙ both.1 has)

same_options : {X : Type 0} (a b : Option X) → ((v : X) → (a ≡ Some v) ↔ (b ≡ Some v)) → a ≡ b
same_options None None h = refl
same_options None (Some w) h = (h w).1 refl
same_options (Some v) b h = sym ((h v).0 refl)

-- entries that rise are the same where they have the same pairs
pub same_pairs : (es fs : List Entry) → IsRising es → IsRising fs → ((key value : List ℕ) → Contains es (key, value) ↔ Contains fs (key, value)) → es ≡ fs
same_pairs es fs rising_e rising_f both = same_entries key_order key_order_total same_key es fs (shown _ rising_e) (shown _ rising_f) (λ key.
    same_options (find key_order key es) (find key_order key fs) (λ value. (
      λ found. contained_found key value fs rising_f ((both key value).0 (found_contained key value es found)),
      λ found. contained_found key value es rising_e ((both key value).1 (found_contained key value fs found)),
    )))

turned : {X : Type 0} (b : Bool) (x y : X) → cond (not b) x y ≡ cond b y x
turned true x y = refl
turned false x y = refl

pub remove_entries : (content : Values) (key : List ℕ) → map.entries (map.remove content key) ≡ edited key None (map.entries content)
remove_entries content key =
    let es = map.entries content in
    let kept : List ℕ → Bool = λ (k : List ℕ). not (eq_by_cmp key_order key k) in
    same_entries key_order key_order_total same_key (map.entries (map.remove content key)) (edited key None es) (entries_sorted (map.remove content key)) (is_sorted-where_key key_order kept es (entries_sorted content)) (λ q.
    sym (get_found (map.remove content key) q) ∙ get-remove key_order_total content key q ∙ ap (cond (eq_by_cmp key_order q key) None) (get_found content q)
    ∙ ap (λ (b : Bool). cond b None (find key_order q es)) ((eq_by_cmp_equiv key_order_total).symm q key) ∙ sym (turned (eq_by_cmp key_order key q) (find key_order q es) None)
    ∙ sym (find-where_key key_order kept q (λ x t. ap (λ (o : Ordering). not (is_eq o)) (sym (alike_right key_order_total q x key t))) es))

-- ---- the content of a tree

-- a tree that is filled holds the entries of its content
pub content_held : (store : Store) (root : ℕ) (content : Values) → HasContent store root content → store root ≢ None → (level : ℕ) × (nodes : List ℕ) × Holds store level root root_bounds (map.entries content) nodes
content_held store root content has filled = elim has.tree [
  | inl none ↦ absurd (filled none)
  | inr is ↦
      let s = Holds-from_subtree store is.0 root root_bounds is.1 in
      let rising = (keys_held store is.0 root root_bounds s.0 s.1 s.2).rising in
      let same : s.0 ≡ map.entries content = same_pairs s.0 (map.entries content) rising (entries_rise content) (λ key value.
      let paths = pairs_of_root store is.0 root root_bounds s.0 s.1 key value s.2 in
      let gets = get_contains content key value in
      (λ h. gets.0 ((has.pairs key value).0 (paths.1 h)), λ h. paths.0 ((has.pairs key value).1 (gets.1 h)))) in
      (is.0, s.1, subst (λ (ps : List Entry). Holds store is.0 root root_bounds ps s.1) same s.2)
]

-- and the content that has its pairs as entries is its content
pub HasContent-held : (store : Store) (level root : ℕ) (pairs : List Entry) (nodes : List ℕ) (content : Values) → Holds store level root root_bounds pairs nodes → map.entries content ≡ pairs → HasContent store root content
HasContent-held store level root pairs nodes content holds same = record {
  tree = inr (level, subtree_held store level root root_bounds pairs nodes holds);
  pairs = λ key value.
      let paths = pairs_of_root store level root root_bounds pairs nodes key value holds in
      let gets = get_contains content key value in (
        λ leads. gets.1 (subst (λ (es : List Entry). Contains es (key, value)) (sym same) (paths.0 leads)),
        λ got. paths.1 (subst (λ (es : List Entry). Contains es (key, value)) same (gets.0 got)),
      );
}

-- the pairs of a subtree are the entries of the map that is made of them
pub pairs_as_entries : (store : Store) (level at : ℕ) (bounds : Bounds) (pairs : List Entry) (nodes : List ℕ) → Holds store level at bounds pairs nodes → map.entries (map.from_sorted {R = key_order} pairs) ≡ pairs
pairs_as_entries store level at bounds pairs nodes holds = entries_of_sorted pairs (keys_held store level at bounds pairs nodes holds).rising

pub HasContent-from_sorted : (store : Store) (level root : ℕ) (pairs : List Entry) (nodes : List ℕ) → Holds store level root root_bounds pairs nodes → HasContent store root (map.from_sorted pairs)
HasContent-from_sorted store level root pairs nodes holds =
    HasContent-held store level root pairs nodes (map.from_sorted pairs) holds (pairs_as_entries store level root root_bounds pairs nodes holds)

-- an empty tree has no pair
pub HasContent-empty : (store : Store) (root : ℕ) → store root ≡ None → HasContent store root map.empty
HasContent-empty store root none = record {
  tree = inl none;
  pairs = λ key value. (
    λ leads. absurd (leads_nowhere store root key value none leads),
    λ got. absurd (let nothing : map.get (map.empty {X = List ℕ} {R = key_order}) key ≡ None = get-empty key_order key in cc),
  );
}

-- a tree has one content
pub one_content : (store : Store) (root : ℕ) (a b : Values) → HasContent store root a → HasContent store root b → a ≡ b
one_content store root a b first second = same_map key_order_total same_key a b (λ key. same_options (map.get a key) (map.get b key) (λ value. (
  λ got. (second.pairs key value).0 ((first.pairs key value).1 got),
  λ got. (first.pairs key value).0 ((second.pairs key value).1 got),
)))

pub only_empty : (store : Store) (root : ℕ) (content : Values) → store root ≡ None → HasContent store root content → content ≡ map.empty
only_empty store root content none has = one_content store root content map.empty has (HasContent-empty store root none)
