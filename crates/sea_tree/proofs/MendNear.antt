-- Entries after one edit: they are a node in its place but for their number and their size. Of two parts each
-- is a node in its place.
use Rattle.std.proofs.Common.{◌≡◌, ℕ, ◌+◌, ◌≤◌, Bool, false, cond, not, List, [], ◌∷◌, ◌++◌, length, Option, Some, None, IfSome, refl, sym, ap, subst, ◌∙◌, arith, length-append, append_assoc}
use Rattle.std.specs.List.{All, AllByRecursion}
use Rattle.std.specs.Ordering.{eq_by_cmp, is_eq, ordering_reverse}
use Rattle.std.specs.declared.cmp.Ordering.{Ordering}
use Rattle.std.specs.declared.cmp.Ordering.TheVariants.{Less, Greater}
use Rattle.std.specs.FinMap.Entries.{put, by_order}
use Rattle.std.proofs.lemmas.List.Elements.{All-nil, All-cons, All-head, All-tail, All-append, All-weaker, All-from_recursion}
use Rattle.sea_base.specs.Name.{IsName}
use Rattle.sea_node.specs.Entries.{Entry, key_order, IsBelow, IsNotAbove, IsRising, size, entry_size, edited, entry_put}
use Rattle.sea_node.specs.Node.{IsNode}
use Rattle.sea_node.proofs.Keys.{IsBelowAll, AreBelow, key_order-itself, key_order-back, IsBelow-trans, IsNotAbove-below, IsNotAbove-itself, IsNotAbove-trans, not_above_then_below, IsBelowAll-trans, IsRising-cons, IsRising-head, IsRising-tail, IsRising-append, IsRising-split}
use Rattle.sea_node.proofs.Nodes.{size-append, size-cons, size-le, entry_size-leaf, entry_size-inner}
use Rattle.sea_node.proofs.Edits.{All-edited, IsRising-edited, size-edited, length-entry_bytes}
use Rattle.sea_tree.specs.declared.edit.Edit.TheVariants.{Pair, Moved}
use Rattle.sea_tree.specs.Tree.{Bounds, IsWithin, IsInPlace, first_key, next_key}
use Rattle.sea_tree.specs.Mending.{moved, after_edit, IsNearPlace, IsPart}
use Rattle.sea_tree.proofs.Apart.{IsWithin-below}

-- ---- what holds of each of two lists

pub All-left : (P : Entry → Type 0) (es fs : List Entry) → All P (es ++ fs) → All P es
All-left P [] fs all = All-nil P
All-left P (e ∷ es) fs all = All-cons P e es (All-head P e (es ++ fs) all) (All-left P es fs (All-tail P e (es ++ fs) all))

pub All-right : (P : Entry → Type 0) (es fs : List Entry) → All P (es ++ fs) → All P fs
All-right P [] fs all = all
All-right P (e ∷ es) fs all = All-right P es fs (All-tail P e (es ++ fs) all)

-- ---- a pair that comes or goes

-- a key above the first one leaves it the first
first_stays : (key : List ℕ) (value : Option (List ℕ)) (e : Entry) (entries : List Entry) → IsBelow e.0 key → (rest : List Entry) × (edited key value (e ∷ entries) ≡ e ∷ rest)
first_stays key (Some v) e entries below =
    let above : key_order key e.0 ≡ Greater = key_order-back key e.0 ∙ ap ordering_reverse below in
    (put key_order key v entries, ap (λ (o : Ordering). by_order o ((key, v) ∷ e ∷ entries) ((e.0, v) ∷ entries) (e ∷ put key_order key v entries)) above)
first_stays key None e entries below =
    let above : key_order key e.0 ≡ Greater = key_order-back key e.0 ∙ ap ordering_reverse below in
    (edited key None entries, ap (λ (o : Ordering). cond (not (is_eq o)) (e ∷ edited key None entries) (edited key None entries)) above)

first_after : (key : List ℕ) (value : Option (List ℕ)) (entries : List Entry) (lower : List ℕ) → 1 ≤ length entries → first_key entries ≡ lower → IsBelow lower key → (1 ≤ length (edited key value entries)) × (first_key (edited key value entries) ≡ lower)
first_after key value [] lower some first below = absurd (omega arith)
first_after key value (e ∷ entries) lower some first below =
    let stays = first_stays key value e entries (subst (λ (k : List ℕ). IsBelow k key) (sym first) below) in
    (omega (arith, ap length stays.1), ap first_key stays.1 ∙ first)

always : {A : Type 0} (Q : A → Type 0) (value : Option A) → ((a : A) → Q a) → IfSome value Q
always Q (Some a) f = f a
always Q None f = tt

-- how many bytes come in
pub put_leaf : (key : List ℕ) (value : Option (List ℕ)) → IsName key → IfSome value (λ v. length v ≤ 1024) → length (entry_put key value) ≤ 1091
put_leaf key (Some v) name short = omega (arith, length-entry_bytes (key, v), entry_size-leaf (key, v) name short)
put_leaf key None name short = omega arith

put_inner : (key : List ℕ) (value : Option (List ℕ)) → IsName key → IfSome value (λ v. length v ≡ 8) → length (entry_put key value) ≤ 75
put_inner key (Some v) name short = omega (arith, length-entry_bytes (key, v), entry_size-inner (key, v) name short)
put_inner key None name short = omega arith

-- A node in its place is near it after a pair came or went: in a leaf any, above the leaves one behind the first.
pub IsNearPlace-edited : (level : ℕ) (bounds : Bounds) (key : List ℕ) (value : Option (List ℕ)) (before : List Entry) → IsNode level before → IsInPlace level bounds before → IsName key → IfSome value (λ v. length v ≤ 1024) → IsNotAbove bounds.lower key → IsWithin key bounds.upper → (1 ≤ level → IsBelow bounds.lower key × IfSome value (λ v. length v ≡ 8)) → IsNearPlace level bounds (after_edit (Pair key value) before)
IsNearPlace-edited level bounds key value before node place name short lower upper above = record {
  level_fits = node.level_fits;
  children = λ h. All-edited (λ (e : Entry). length e.1 ≡ 8) key value before node.rising (node.children h).1 (above h).1;
  keys = All-edited (λ (e : Entry). IsName e.0) key value before node.rising node.keys (always (λ v. IsName key) value (λ v. name));
  values = All-edited (λ (e : Entry). length e.1 ≤ 1024) key value before node.rising node.values short;
  rising = IsRising-edited key value before node.rising;
  lower = All-edited (λ (e : Entry). IsNotAbove bounds.lower e.0) key value before node.rising place.lower (always (λ v. IsNotAbove bounds.lower key) value (λ v. lower));
  upper = All-edited (λ (e : Entry). IsWithin e.0 bounds.upper) key value before node.rising place.upper (always (λ v. IsWithin key bounds.upper) value (λ v. upper));
  first = λ h. first_after key value before bounds.lower node.some (place.first h) (above h).0;
  near = omega (arith, node.fits, size-edited key value before node.rising, put_leaf key value name short);
}

-- above the leaves it has grown by 75 bytes at most
pub size-edited_inner : (level : ℕ) (key : List ℕ) (value : Option (List ℕ)) (before : List Entry) → IsNode level before → IsName key → IfSome value (λ v. length v ≡ 8) → size (after_edit (Pair key value) before) ≤ size before + 75
size-edited_inner level key value before node name short =
    omega (arith, size-edited key value before node.rising, put_inner key value name short)

-- ---- an entry that takes another key

-- the key that an entry has after one was moved
abbrev moved_entry : List ℕ → List ℕ → Entry → Entry
moved_entry from to e = cond (eq_by_cmp key_order from e.0) (to, e.1) e

moved-append : (from to : List ℕ) (es fs : List Entry) → moved from to (es ++ fs) ≡ moved from to es ++ moved from to fs
moved-append from to [] fs = refl
moved-append from to (e ∷ es) fs = ap (λ (r : List Entry). moved_entry from to e ∷ r) (moved-append from to es fs)

other_stays : (from to : List ℕ) (e : Entry) (o : Ordering) → is_eq o ≡ false → key_order from e.0 ≡ o → moved_entry from to e ≡ e
other_stays from to e o differs is = ap (λ (p : Ordering). cond (is_eq p) (to, e.1) e) is ∙ ap (λ (b : Bool). cond b (to, e.1) e) differs

moved_below : (from to : List ℕ) (es : List Entry) → AllByRecursion (λ (e : Entry). IsBelow e.0 from) es → moved from to es ≡ es
moved_below from to [] all = refl
moved_below from to (e ∷ es) all =
    let here : moved_entry from to e ≡ e = other_stays from to e Greater refl (key_order-back from e.0 ∙ ap ordering_reverse all.0) in
    let rest = moved_below from to es all.1 in
    λ i. here i ∷ rest i

moved_above : (from to : List ℕ) (es : List Entry) → IsBelowAll from es → moved from to es ≡ es
moved_above from to [] all = refl
moved_above from to (e ∷ es) all =
    let here : moved_entry from to e ≡ e = other_stays from to e Less refl all.0 in
    let rest = moved_above from to es all.1 in
    λ i. here i ∷ rest i

-- the keys before one of several that rise are below it
pub before_below : (a : List Entry) (e : Entry) (b : List Entry) → AreBelow a (e ∷ b) → AllByRecursion (λ (x : Entry). IsBelow x.0 e.0) a
before_below [] e b below = tt
before_below (x ∷ a) e b below = (below.0.0, before_below a e b below.1)

-- only the entry with the key takes the other
pub moved_split : (from to value : List ℕ) (a b : List Entry) → IsRising (a ++ ((from, value) ∷ b)) → moved from to (a ++ ((from, value) ∷ b)) ≡ a ++ ((to, value) ∷ b)
moved_split from to value a b rising =
    let parts = IsRising-split a ((from, value) ∷ b) rising in
    let first = moved_below from to a (before_below a (from, value) b parts.2) in
    let here : moved_entry from to (from, value) ≡ (to, value) = ap (λ (o : Ordering). cond (is_eq o) (to, value) (from, value)) (key_order-itself from) in
    let rest = moved_above from to b (IsRising-head (from, value) b parts.1) in
    moved-append from to a ((from, value) ∷ b) ∙ (λ i. first i ++ (here i ∷ rest i))

-- a key below the next one is below all that follow
pub below_all_next : (key : List ℕ) (b : List Entry) (upper : Option (List ℕ)) → IsRising b → IsWithin key (next_key b upper) → IsBelowAll key b
below_all_next key [] upper rising within = tt
below_all_next key (e ∷ b) upper rising within = (within, IsBelowAll-trans key e.0 b within (IsRising-head e b rising))

-- and below what bounds them all
pub within_all : (key : List ℕ) (b : List Entry) (upper : Option (List ℕ)) → All (λ e. IsWithin e.0 upper) b → IsWithin key (next_key b upper) → IsWithin key upper
within_all key [] upper all within = within
within_all key (e ∷ b) upper all within = IsWithin-below key e.0 upper within (All-head (λ (x : Entry). IsWithin x.0 upper) e b all)

-- one key replaced by another between its neighbours
rekeyed : (left : Entry) (from to value : List ℕ) (a b : List Entry) → IsRising (a ++ (left ∷ ((from, value) ∷ b))) → IsBelow left.0 to → IsBelowAll to b → IsRising (a ++ (left ∷ ((to, value) ∷ b)))
rekeyed left from to value a b rising below above =
    let parts = IsRising-split a (left ∷ ((from, value) ∷ b)) rising in
    let rest : IsRising b = IsRising-tail (from, value) b (IsRising-tail left ((from, value) ∷ b) parts.1) in
    let right : IsRising (left ∷ ((to, value) ∷ b)) = IsRising-cons left ((to, value) ∷ b) (below, IsBelowAll-trans left.0 to b below above) (IsRising-cons (to, value) b above rest) in
    IsRising-append a (left ∷ ((to, value) ∷ b)) parts.0 right (replaced a parts.2)
  where
    replaced : (a : List Entry) → AreBelow a (left ∷ ((from, value) ∷ b)) → AreBelow a (left ∷ ((to, value) ∷ b))
    replaced [] all = tt
    replaced (x ∷ a) all = ((all.0.0, (IsBelow-trans x.0 left.0 to all.0.0 below, all.0.1.1)), replaced a all.1)

All-rekeyed : (P : Entry → Type 0) (a : List Entry) (left old new : Entry) (b : List Entry) → All P (a ++ (left ∷ (old ∷ b))) → P new → All P (a ++ (left ∷ (new ∷ b)))
All-rekeyed P a left old new b all here =
    let right = All-right P a (left ∷ (old ∷ b)) all in
    let from = All-tail P left (old ∷ b) right in
    All-append P a (left ∷ (new ∷ b)) (All-left P a (left ∷ (old ∷ b)) all) (All-cons P left (new ∷ b) (All-head P left (old ∷ b) right) (All-cons P new b here (All-tail P old b from)))

first_of : (a : List Entry) (left : Entry) (es fs : List Entry) → first_key (a ++ (left ∷ es)) ≡ first_key (a ++ (left ∷ fs))
first_of [] left es fs = refl
first_of (x ∷ a) left es fs = refl

some_of : (a : List Entry) (left : Entry) (es : List Entry) → 1 ≤ length (a ++ (left ∷ es))
some_of a left es = omega (arith, length-append a (left ∷ es))

size_rekeyed : (a : List Entry) (left old new : Entry) (b : List Entry) → size (a ++ (left ∷ (new ∷ b))) + entry_size old ≡ size (a ++ (left ∷ (old ∷ b))) + entry_size new
size_rekeyed a left old new b =
    omega (arith, size-append a (left ∷ (new ∷ b)), size-append a (left ∷ (old ∷ b)), size-cons left (new ∷ b), size-cons left (old ∷ b), size-cons new b, size-cons old b)

near_rekeyed : (level : ℕ) (bounds : Bounds) (a : List Entry) (left : Entry) (from to value : List ℕ) (b : List Entry) → IsNode level (a ++ (left ∷ ((from, value) ∷ b))) → IsInPlace level bounds (a ++ (left ∷ ((from, value) ∷ b))) → IsName to → IsBelow left.0 to → IsWithin to (next_key b bounds.upper) → IsNearPlace level bounds (a ++ (left ∷ ((to, value) ∷ b)))
near_rekeyed level bounds a left from to value b node place name below within =
    let old : Entry = (from, value) in
    let new : Entry = (to, value) in
    let rest : IsRising b = IsRising-tail old b (IsRising-tail left (old ∷ b) (IsRising-split a (left ∷ (old ∷ b)) node.rising).1) in
    let above : IsBelowAll to b = below_all_next to b bounds.upper rest within in
    let value_at : (P : Entry → Type 0) → All P (a ++ (left ∷ (old ∷ b))) → P old = λ P all. All-head P old b (All-tail P left (old ∷ b) (All-right P a (left ∷ (old ∷ b)) all)) in
    let low : IsNotAbove bounds.lower to = IsNotAbove-trans bounds.lower left.0 to (All-head (λ (e : Entry). IsNotAbove bounds.lower e.0) left (old ∷ b) (All-right (λ (e : Entry). IsNotAbove bounds.lower e.0) a (left ∷ (old ∷ b)) place.lower)) (IsNotAbove-below left.0 to below) in
    let high : IsWithin to bounds.upper = within_all to b bounds.upper (All-tail (λ (e : Entry). IsWithin e.0 bounds.upper) old b (All-tail (λ (e : Entry). IsWithin e.0 bounds.upper) left (old ∷ b) (All-right (λ (e : Entry). IsWithin e.0 bounds.upper) a (left ∷ (old ∷ b)) place.upper))) within in
    let short : length value ≤ 1024 = value_at (λ (e : Entry). length e.1 ≤ 1024) node.values in
    record {
      level_fits = node.level_fits;
      children = λ h. All-rekeyed (λ (e : Entry). length e.1 ≡ 8) a left old new b (node.children h).1 (value_at (λ (e : Entry). length e.1 ≡ 8) (node.children h).1);
      keys = All-rekeyed (λ (e : Entry). IsName e.0) a left old new b node.keys name;
      values = All-rekeyed (λ (e : Entry). length e.1 ≤ 1024) a left old new b node.values short;
      rising = rekeyed left from to value a b node.rising below above;
      lower = All-rekeyed (λ (e : Entry). IsNotAbove bounds.lower e.0) a left old new b place.lower low;
      upper = All-rekeyed (λ (e : Entry). IsWithin e.0 bounds.upper) a left old new b place.upper high;
      first = λ h. (some_of a left (new ∷ b), first_of a left (new ∷ b) (old ∷ b) ∙ place.first h);
      near = omega (arith, node.fits, size_rekeyed a left old new b, entry_size-leaf new name short);
    }

-- one entry of a node that takes another key
pub moved-at : (level : ℕ) (before a : List Entry) (left : Entry) (from to value : List ℕ) (b : List Entry) → before ≡ a ++ (left ∷ ((from, value) ∷ b)) → IsNode level before → moved from to before ≡ a ++ (left ∷ ((to, value) ∷ b))
moved-at level before a left from to value b split node =
    let merged : before ≡ (a ++ (left ∷ [])) ++ ((from, value) ∷ b) = split ∙ sym (append_assoc a (left ∷ []) ((from, value) ∷ b)) in
    ap (moved from to) merged ∙ moved_split from to value (a ++ (left ∷ [])) b (subst IsRising merged node.rising) ∙ append_assoc a (left ∷ []) ((to, value) ∷ b)

-- A node in its place is near it after an entry behind the first took another key, between its neighbours.
pub IsNearPlace-moved : (level : ℕ) (bounds : Bounds) (before a : List Entry) (left : Entry) (from to value : List ℕ) (b : List Entry) → before ≡ a ++ (left ∷ ((from, value) ∷ b)) → IsNode level before → IsInPlace level bounds before → IsName to → IsBelow left.0 to → IsWithin to (next_key b bounds.upper) → IsNearPlace level bounds (after_edit (Moved from to) before)
IsNearPlace-moved level bounds before a left from to value b split node place name below within =
    let near = near_rekeyed level bounds a left from to value b (subst (IsNode level) split node) (subst (IsInPlace level bounds) split place) name below within in
    subst (IsNearPlace level bounds) (sym (moved-at level before a left from to value b split node)) near

-- it has grown by 75 bytes at most, too
pub size-moved_inner : (level : ℕ) (before a : List Entry) (left : Entry) (from to value : List ℕ) (b : List Entry) → before ≡ a ++ (left ∷ ((from, value) ∷ b)) → IsNode level before → 1 ≤ level → IsName to → size (after_edit (Moved from to) before) ≤ size before + 75
size-moved_inner level before a left from to value b split node above name =
    let old : Entry = (from, value) in
    let new : Entry = (to, value) in
    let eights : All (λ (e : Entry). length e.1 ≡ 8) (a ++ (left ∷ (old ∷ b))) = subst (All (λ (e : Entry). length e.1 ≡ 8)) split (node.children above).1 in
    let eight : length value ≡ 8 = All-head (λ (e : Entry). length e.1 ≡ 8) old b (All-tail (λ (e : Entry). length e.1 ≡ 8) left (old ∷ b) (All-right (λ (e : Entry). length e.1 ≡ 8) a (left ∷ (old ∷ b)) eights)) in
    let now : size (moved from to before) ≡ size (a ++ (left ∷ (new ∷ b))) = ap size (moved-at level before a left from to value b split node) in
    let then : size before ≡ size (a ++ (left ∷ (old ∷ b))) = ap size split in
    omega (arith, now, then, size_rekeyed a left old new b, entry_size-inner new name eight)

-- ---- parts

inner_sizes : (entries : List Entry) → All (λ e. length e.1 ≡ 8) entries → All (λ e. IsName e.0) entries → All (λ e. entry_size e ≤ 75) entries
inner_sizes entries values keys k d within = entry_size-inner _ (keys k d within) (values k d within)

-- entries near their place that are enough and fit are a node
pub IsNode-near : (level : ℕ) (bounds : Bounds) (entries : List Entry) → IsNearPlace level bounds entries → 1 ≤ length entries → (1 ≤ level → 2 ≤ length entries) → size entries ≤ 4064 → IsNode level entries
IsNode-near level bounds entries near some two fits = record {
  level_fits = near.level_fits;
  some = some;
  children = λ h. (two h, near.children h);
  keys = near.keys;
  values = near.values;
  rising = near.rising;
  fits = fits;
}

some_filled : (entries : List Entry) → 1016 ≤ size entries → 1 ≤ length entries
some_filled [] filled = absurd (omega arith)
some_filled (e ∷ entries) filled = omega arith

-- above the leaves filled entries are many
two_filled : (entries : List Entry) → All (λ e. length e.1 ≡ 8) entries → All (λ e. IsName e.0) entries → 1016 ≤ size entries → 14 ≤ length entries
two_filled entries values keys filled = omega (arith, size-le 75 entries (inner_sizes entries values keys))

-- Filled entries near their place that fit are a node.
pub IsNode-filled : (level : ℕ) (bounds : Bounds) (entries : List Entry) → IsNearPlace level bounds entries → IsPart entries → IsNode level entries
IsNode-filled level bounds entries near part =
    IsNode-near level bounds entries near (some_filled entries part.0) (λ h. omega (arith, two_filled entries (near.children h) near.keys part.0)) part.1

pub IsInPlace-near : (level : ℕ) (bounds : Bounds) (entries : List Entry) → IsNearPlace level bounds entries → bounds.least ≤ size entries → IsInPlace level bounds entries
IsInPlace-near level bounds entries near filled = record { filled = filled; lower = near.lower; upper = near.upper; first = λ h. (near.first h).1 }

-- the bounds of two parts of a node's entries, the second from its first key on
abbrev pub left_bounds : Bounds → List Entry → Bounds
left_bounds bounds right = record { least = 1016; lower = bounds.lower; upper = Some (first_key right) }

abbrev pub right_bounds : Bounds → List Entry → Bounds
right_bounds bounds right = record { least = 1016; lower = first_key right; upper = bounds.upper }

-- Each of two parts is a node in its place, and the key between them is one that a parent may have.
pub record Halves (level : ℕ) (bounds : Bounds) (left right : List Entry) : Type 0 where
  pub left_node : IsNode level left
  pub right_node : IsNode level right
  pub left_place : IsInPlace level (left_bounds bounds right) left
  pub right_place : IsInPlace level (right_bounds bounds right) right
  pub name : IsName (first_key right)
  pub above : IsBelow bounds.lower (first_key right)
  pub within : IsWithin (first_key right) bounds.upper
  pub next : (upper : Option (List ℕ)) → next_key right upper ≡ Some (first_key right)

pub halves : (level : ℕ) (bounds : Bounds) (left right : List Entry) → IsNearPlace level bounds (left ++ right) → IsPart left → IsPart right → Halves level bounds left right
halves level bounds left [] near first second = absurd (omega (arith, second.0))
halves level bounds [] right near first second = absurd (omega (arith, first.0))
halves level bounds (l ∷ left) (r ∷ right) near first second =
    let es = l ∷ left in
    let fs = r ∷ right in
    let parts = IsRising-split es fs near.rising in
    let names = All-right (λ (e : Entry). IsName e.0) es fs near.keys in
    let lowers = All-left (λ (e : Entry). IsNotAbove bounds.lower e.0) es fs near.lower in
    let uppers = All-right (λ (e : Entry). IsWithin e.0 bounds.upper) es fs near.upper in
    let eights_left : 1 ≤ level → All (λ (e : Entry). length e.1 ≡ 8) es = λ h. All-left (λ (e : Entry). length e.1 ≡ 8) es fs (near.children h) in
    let eights_right : 1 ≤ level → All (λ (e : Entry). length e.1 ≡ 8) fs = λ h. All-right (λ (e : Entry). length e.1 ≡ 8) es fs (near.children h) in
    let names_left = All-left (λ (e : Entry). IsName e.0) es fs near.keys in
    let below : All (λ (e : Entry). IsBelow e.0 r.0) es = All-from_recursion (λ (e : Entry). IsBelow e.0 r.0) es (before_below es r right parts.2) in
    let above : All (λ (e : Entry). IsNotAbove r.0 e.0) fs = All-cons (λ (e : Entry). IsNotAbove r.0 e.0) r right (IsNotAbove-itself r.0) (All-weaker (λ (e : Entry). IsBelow r.0 e.0) (λ (e : Entry). IsNotAbove r.0 e.0) (λ e. IsNotAbove-below r.0 e.0) right (All-from_recursion (λ (e : Entry). IsBelow r.0 e.0) right (IsRising-head r right parts.1))) in
    record {
      left_node = record {
        level_fits = near.level_fits;
        some = omega arith;
        children = λ h. (omega (arith, two_filled es (eights_left h) names_left first.0), eights_left h);
        keys = names_left;
        values = All-left (λ (e : Entry). length e.1 ≤ 1024) es fs near.values;
        rising = parts.0;
        fits = first.1;
      };
      right_node = record {
        level_fits = near.level_fits;
        some = omega arith;
        children = λ h. (omega (arith, two_filled fs (eights_right h) names second.0), eights_right h);
        keys = names;
        values = All-right (λ (e : Entry). length e.1 ≤ 1024) es fs near.values;
        rising = parts.1;
        fits = second.1;
      };
      left_place = record { filled = first.0; lower = lowers; upper = below; first = λ h. (near.first h).1 };
      right_place = record { filled = second.0; lower = above; upper = uppers; first = λ h. refl };
      name = All-head (λ (e : Entry). IsName e.0) r right names;
      above = not_above_then_below bounds.lower l.0 r.0 (All-head (λ (e : Entry). IsNotAbove bounds.lower e.0) l left lowers) (All-head (λ (e : Entry). IsBelow e.0 r.0) l left below);
      within = All-head (λ (e : Entry). IsWithin e.0 bounds.upper) r right uppers;
      next = λ upper. refl;
    }
