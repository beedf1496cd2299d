-- The pairs that a walk takes, node by node.
use Rattle.std.proofs.Common.{◌≡◌, ℕ, zero, suc, ◌+◌, ◌-◌, ◌<◌, ◌≤◌, ◌^◌, Bool, true, false, cond, List, [], ◌∷◌, ◌++◌, map, length, get_or, take, drop, Some, refl, sym, ap, subst, ◌∙◌, arith, append_assoc, length-append, take-append-drop, IsTrue, inl, inr}
use Rattle.std.specs.Prelude.{T, nat_le, nat_lt, ◌↔◌}
use Rattle.std.proofs.lemmas.List.{append-nil, take_all, take_at, take-append-le, length-take, length-take-le, map-append, length-map, take-map, take_more, drop_more, get_or_default}
use Rattle.std.proofs.lemmas.Bool.{cases_lt}
use Rattle.std.proofs.lemmas.List.Elements.{filter-append}
use Rattle.std.proofs.lemmas.List.Concat.{flat_map-append}
use Rattle.std.proofs.lemmas.Bool.Decides.{nat_tests}
use Rattle.std.specs.Ordering.{nat_cmp}
use Rattle.std.specs.FinMap.{entries, entries_sorted}
use Rattle.std.specs.FinMap.Entries.{below_all, is_sorted, is_sorted-where_key}
use Rattle.sea_ptree.specs.declared.kind.Kind.{Kind}
use Rattle.sea_ptree.specs.declared.link.Link.{Link}
use Rattle.sea_ptree.specs.Blocks.{Image, Held, Keeps}
use Rattle.sea_ptree.specs.Node.{Entry}
use Rattle.sea_ptree.specs.Run.{Update, Rises, from_key, pairs_from, puts, TakesFrom}
use Rattle.sea_ptree.specs.Tree.{Item, pairs, entry_of, Holds, NodeAt, Has, link_of, Content, IsTreeOf}
use Rattle.sea_ptree.specs.View.{Parts}
use Rattle.sea_ptree.proofs.Checks.{Next}
use Rattle.sea_ptree.proofs.Guiding.{one_node}
use Rattle.sea_ptree.proofs.Items.{all_pairs, AllUnder, AllStand, picked}
use Rattle.sea_ptree.proofs.Lookups.{held_lie, item_held, stands_at, on_way}
use Rattle.sea_ptree.proofs.Searches.{parts_guide}
use Rattle.sea_ptree.proofs.Rising.{Lie, Lie-split, first_of, second_of, both, less_told, less_shown}

-- ---- updates that rise

below_front : (key : ℕ) (xs ys : List Update) → IsTrue (below_all nat_cmp key (xs ++ ys)) → IsTrue (below_all nat_cmp key xs)
below_front key [] ys h = refl
below_front key (x ∷ xs) ys h = both _ _ (first_of _ _ h) (below_front key xs ys (second_of _ _ h))

pub rises_front : (xs ys : List Update) → Rises (xs ++ ys) → Rises xs
rises_front [] ys h = refl
rises_front (x ∷ xs) ys h = both _ _ (below_front x.0 xs ys (first_of _ _ h)) (rises_front xs ys (second_of _ _ h))

below_last : (key : ℕ) (front : List Update) (last : Update) → IsTrue (below_all nat_cmp key (front ++ last ∷ [])) → key < last.0
below_last key [] last h = less_told key last.0 (first_of _ _ h)
below_last key (x ∷ front) last h = below_last key front last (second_of _ _ h)

below_push : (key : ℕ) (xs : List Update) (u : Update) → IsTrue (below_all nat_cmp key xs) → key < u.0 → IsTrue (below_all nat_cmp key (xs ++ u ∷ []))
below_push key [] u h lt = both _ _ (less_shown key u.0 lt) refl
below_push key (x ∷ xs) u h lt = both _ _ (first_of _ _ h) (below_push key xs u (second_of _ _ h) lt)

-- one more behind the last
pub rises_more : (front : List Update) (last u : Update) → Rises (front ++ last ∷ []) → last.0 < u.0 → Rises ((front ++ last ∷ []) ++ u ∷ [])
rises_more [] last u h lt = both _ _ (both _ _ (less_shown last.0 u.0 lt) refl) refl
rises_more (x ∷ front) last u h lt =
    let less : x.0 < u.0 = let before = below_last x.0 front last (first_of _ _ h) in omega arith in
    both _ _ (below_push x.0 (front ++ last ∷ []) u (first_of _ _ h) less) (rises_more front last u (second_of _ _ h) lt)

pub rises_last : (front : List Update) (last u : Update) → Rises ((front ++ last ∷ []) ++ u ∷ []) → last.0 < u.0
rises_last [] last u h = less_told last.0 u.0 (first_of _ _ (first_of _ _ h))
rises_last (x ∷ front) last u h = rises_last front last u (second_of _ _ h)

-- ---- pairs from a key on

abbrev pub wanted : ℕ → List Entry → List Update
wanted from ps = puts (from_key from ps)

pub wanted-append : (from : ℕ) (ps rs : List Entry) → wanted from (ps ++ rs) ≡ wanted from ps ++ wanted from rs
wanted-append from ps rs = ap puts (filter-append (λ e. nat_le from e.0) ps rs) ∙ map-append (λ (e : Entry). (e.0, Some e.1)) (from_key from ps) (from_key from rs)

pub wanted_under : (from : ℕ) (ps : List Entry) → AllUnder from ps → wanted from ps ≡ []
wanted_under from [] all = refl
wanted_under from (e ∷ ps) all = ap (λ b. puts (cond b (e ∷ from_key from ps) (from_key from ps))) (not_le from e.0 all.0) ∙ wanted_under from ps all.1
  where
    not_le : (a b : ℕ) → b < a → nat_le a b ≡ false
    not_le a b h = grind (arith, nat_tests)

pub wanted_one : (from : ℕ) (e : Entry) → from ≤ e.0 → wanted from (e ∷ []) ≡ (e.0, Some e.1) ∷ []
wanted_one from e le = ap (λ b. puts (cond b (e ∷ []) [])) (is_le from e.0 le)
  where
    is_le : (a b : ℕ) → a ≤ b → nat_le a b ≡ true
    is_le a b h = grind (arith, nat_tests)

-- ---- a node, item by item

-- what a run has behind the items before an index
abbrev pub WalkedTo : Kind → Image → Link → ℕ → ℕ → List Update → ℕ → ℕ → List Update → Type 0
WalkedTo kind image link from limit old level index new =
    (items : List (Item level)) → Holds kind image level link items → Rises (old ++ wanted from (all_pairs level items)) → new ≡ take limit (old ++ wanted from (all_pairs level (take index items)))

-- the items of a node at an index
record ItemAt (level : ℕ) (items : List (Item level)) (index : ℕ) (e : Entry) : Type 0 where
  item : Item level
  entry_is : entry_of level item ≡ e
  before : List (Item level)
  after : List (Item level)
  split : items ≡ before ++ item ∷ after
  front : take index items ≡ before
  more : take (index + 1) items ≡ before ++ item ∷ []

item_at : (kind : Kind) (image : Image) (level : ℕ) (link : Link) (items : List (Item level)) (es : List Entry) (index : ℕ) (e : Entry) → Holds kind image level link items → NodeAt kind image level link es → index < length es → Next es index e → ItemAt level items index e
item_at kind image level link items es index e holds node lt next =
    let same = one_node kind image level link (map (entry_of level) items) es holds.node node in
    let p = picked level items (take index es) e (drop (index + 1) es) (same ∙ sym (take-append-drop index es) ∙ ap (λ (r : List Entry). take index es ++ r) next.rest) in
    let len : length p.front ≡ index = omega (arith, sym (length-map p.front (entry_of level)), ap length p.front_is, length-take-le index es (omega arith)) in
    record {
      item = p.item;
      entry_is = p.item_is;
      before = p.front;
      after = p.back;
      split = p.split;
      front = ap (take index) p.split ∙ take_at p.front (p.item ∷ p.back) index len;
      more = ap (take (index + 1)) (p.split ∙ sym (append_assoc p.front (p.item ∷ []) p.back)) ∙ take_at (p.front ++ p.item ∷ []) p.back (index + 1) (omega (arith, length-append p.front (p.item ∷ []), len));
    }

pairs_more : (level : ℕ) (before : List (Item level)) (x : Item level) → all_pairs level (before ++ x ∷ []) ≡ all_pairs level before ++ pairs level x
pairs_more level before x = flat_map-append (pairs level) before (x ∷ []) ∙ ap (λ (r : List Entry). all_pairs level before ++ r) (append-nil (pairs level x))

-- a front that is shorter than its limit is all
whole : {A : Type 0} (n : ℕ) (xs : List A) → length (take n xs) < n → take n xs ≡ xs
whole n xs lt = take_all n xs (omega (arith, length-take n xs))

-- one item more, which the run takes in
walked_more : (kind : Kind) (image : Image) (link : Link) (from limit : ℕ) (old : List Update) (level index : ℕ) (mid new : List Update) (es : List Entry) (e : Entry) → NodeAt kind image level link es → index < length es → Next es index e
    → length mid < limit → WalkedTo kind image link from limit old level index mid
    → ((items before : List (Item level)) (x : Item level) (after : List (Item level)) → Holds kind image level link items → items ≡ before ++ x ∷ after → entry_of level x ≡ e → TakesFrom from limit (pairs level x) mid new)
    → WalkedTo kind image link from limit old level (index + 1) new
walked_more kind image link from limit old level index mid new es e node lt next few walked takes items holds rising =
    let at = item_at kind image level link items es index e holds node lt next in
    let so_far : mid ≡ old ++ wanted from (all_pairs level at.before) =
    let is = walked items holds rising ∙ ap (λ (xs : List (Item level)). take limit (old ++ wanted from (all_pairs level xs))) at.front in
    is ∙ whole limit (old ++ wanted from (all_pairs level at.before)) (omega (arith, ap length is)) in
    let then : old ++ wanted from (all_pairs level (take (index + 1) items)) ≡ mid ++ wanted from (pairs level at.item) =
    ap (λ (xs : List (Item level)). old ++ wanted from (all_pairs level xs)) at.more ∙ ap (λ (ps : List Entry). old ++ wanted from ps) (pairs_more level at.before at.item) ∙ ap (λ (us : List Update). old ++ us) (wanted-append from (all_pairs level at.before) (pairs level at.item))
    ∙ sym (append_assoc old (wanted from (all_pairs level at.before)) (wanted from (pairs level at.item))) ∙ ap (λ (us : List Update). us ++ wanted from (pairs level at.item)) (sym so_far) in
    let all : old ++ wanted from (all_pairs level items) ≡ (mid ++ wanted from (pairs level at.item)) ++ wanted from (all_pairs level at.after) =
    ap (λ (xs : List (Item level)). old ++ wanted from (all_pairs level xs)) (at.split ∙ sym (append_assoc at.before (at.item ∷ []) at.after))
    ∙ ap (λ (ps : List Entry). old ++ wanted from ps) (flat_map-append (pairs level) (at.before ++ at.item ∷ []) at.after)
    ∙ ap (λ (us : List Update). old ++ us) (wanted-append from (all_pairs level (at.before ++ at.item ∷ [])) (all_pairs level at.after))
    ∙ sym (append_assoc old (wanted from (all_pairs level (at.before ++ at.item ∷ []))) (wanted from (all_pairs level at.after)))
    ∙ ap (λ (us : List Update). us ++ wanted from (all_pairs level at.after)) (ap (λ (xs : List (Item level)). old ++ wanted from (all_pairs level xs)) (sym at.more) ∙ then) in
    takes items at.before at.item at.after holds at.split at.entry_is (rises_front (mid ++ wanted from (pairs level at.item)) (wanted from (all_pairs level at.after)) (subst Rises all rising)) ∙ ap (take limit) (sym then)

pub walked_child : (kind : Kind) (image : Image) (link : Link) (from limit : ℕ) (old : List Update) (level index : ℕ) (mid new : List Update) (es : List Entry) (e : Entry) → NodeAt kind image (suc level) link es → index < length es → Next es index e
    → length mid < limit → WalkedTo kind image link from limit old (suc level) index mid
    → ((items : List (Item level)) → Holds kind image level (link_of e.1) items → TakesFrom from limit (all_pairs level items) mid new)
    → WalkedTo kind image link from limit old (suc level) (index + 1) new
walked_child kind image link from limit old level index mid new es e node lt next few walked below =
    walked_more kind image link from limit old (suc level) index mid new es e node lt next few walked (λ items before x after holds split is.
    let all = subst (AllStand kind image (suc level)) split holds.stand in
    let lie = subst (λ (xs : List (Item (suc level))). Lie 0 (2 ^ 64) (all_pairs (suc level) xs)) split (held_lie kind image (suc level) link items holds) in
    let apart = Lie-split 0 (2 ^ 64) (all_pairs (suc level) before) (pairs (suc level) x ++ all_pairs (suc level) after) (subst (Lie 0 (2 ^ 64)) (flat_map-append (pairs (suc level)) before (x ∷ after)) lie) in
    let here = Lie-split apart.mid (2 ^ 64) (pairs (suc level) x) (all_pairs (suc level) after) apart.back in
    below x.1 (subst (λ (f : Entry). Holds kind image level (link_of f.1) x.1) is (item_held kind image level x apart.mid here.mid (stands_at kind image (suc level) before x after all) here.front)))

pub walked_put : (kind : Kind) (image : Image) (link : Link) (from limit : ℕ) (old : List Update) (index : ℕ) (mid : List Update) (es : List Entry) (e : Entry) → NodeAt kind image 0 link es → index < length es → Next es index e
    → length mid < limit → WalkedTo kind image link from limit old 0 index mid → from ≤ e.0 → WalkedTo kind image link from limit old 0 (index + 1) (mid ++ (e.0, Some e.1) ∷ [])
walked_put kind image link from limit old index mid es e node lt next few walked le =
    walked_more kind image link from limit old 0 index mid (mid ++ (e.0, Some e.1) ∷ []) es e node lt next few walked (λ items before x after holds split is _.
    let one : mid ++ wanted from (x ∷ []) ≡ mid ++ (e.0, Some e.1) ∷ [] = ap (λ (f : Entry). mid ++ wanted from (f ∷ [])) is ∙ ap (λ (us : List Update). mid ++ us) (wanted_one from e le) in
    sym (take_all limit (mid ++ (e.0, Some e.1) ∷ []) (omega (arith, length-append mid ((e.0, Some e.1) ∷ [])))) ∙ ap (take limit) (sym one))

-- a pair that is not wanted, or that doesn't rise
pub walked_past : (kind : Kind) (image : Image) (link : Link) (from limit : ℕ) (old : List Update) (index : ℕ) (mid : List Update) (es : List Entry) (e : Entry) → NodeAt kind image 0 link es → index < length es → Next es index e
    → length mid < limit → WalkedTo kind image link from limit old 0 index mid → (from ≤ e.0 → Rises (mid ++ (e.0, Some e.1) ∷ []) → ⊥) → WalkedTo kind image link from limit old 0 (index + 1) mid
walked_past kind image link from limit old index mid es e node lt next few walked not =
    walked_more kind image link from limit old 0 index mid mid es e node lt next few walked (λ items before x after holds split is rising. past x is rising)
  where
    past : (x : Entry) → x ≡ e → Rises (mid ++ wanted from (x ∷ [])) → mid ≡ take limit (mid ++ wanted from (x ∷ []))
    past x is rising = elim (cases_lt e.0 from) [
      | inl lt' ↦ (
          let none : wanted from (x ∷ []) ≡ [] = ap (λ (f : Entry). wanted from (f ∷ [])) is ∙ wanted_under from (e ∷ []) (lt', tt) in
          sym (take_all limit mid (omega arith)) ∙ ap (take limit) (sym (append-nil mid) ∙ ap (λ (us : List Update). mid ++ us) (sym none))
          )
      | inr le ↦ absurd (not le (subst Rises (ap (λ (f : Entry). mid ++ wanted from (f ∷ [])) is ∙ ap (λ (us : List Update). mid ++ us) (wanted_one from e le)) rising))
    ]

-- the entry at an index
there : (xs : List Entry) (index : ℕ) → index < length xs → (e : Entry) × ((d : Entry) → get_or xs index d ≡ e)
there [] index lt = absurd (omega arith)
there (x ∷ xs) index lt = (get_or (x ∷ xs) index x, λ d. get_or_default (x ∷ xs) index d x lt)

next_at : (xs : List Entry) (index : ℕ) (e : Entry) → index < length xs → ((d : Entry) → get_or xs index d ≡ e) → Next xs index e
next_at xs index e lt is = record {
  more = take_more xs index e lt ∙ ap (λ (x : Entry). take index xs ++ x ∷ []) (is e);
  rest = drop_more xs index e lt ∙ ap (λ (x : Entry). x ∷ drop (index + 1) xs) (is e);
}

pub next_has : (es : List Entry) (index : ℕ) (e : Entry) → Next es index e → Has es e
next_has es index e next = record { before = take index es; after = drop (index + 1) es; split = sym (take-append-drop index es) ∙ ap (λ (r : List Entry). take index es ++ r) next.rest }

-- the last update of a run
pub is_last : (xs : List Update) (last : Update) → 0 < length xs → ((d : Update) → last ≡ get_or xs (length xs - 1) d) → xs ≡ take (length xs - 1) xs ++ last ∷ []
is_last xs last some is =
    sym (take_all (length xs - 1 + 1) xs (omega arith)) ∙ take_more xs (length xs - 1) last (omega arith) ∙ ap (λ (u : Update). take (length xs - 1) xs ++ u ∷ []) (sym (is last))

pub rises_iff : (xs : List Update) (last u : Update) → Rises xs → 0 < length xs → ((d : Update) → last ≡ get_or xs (length xs - 1) d) → IsTrue (nat_lt last.0 u.0) ↔ Rises (xs ++ u ∷ [])
rises_iff xs last u rising some is =
    let whole = is_last xs last some is in (
      λ lt. subst (λ (ys : List Update). Rises (ys ++ u ∷ [])) (sym whole) (rises_more (take (length xs - 1) xs) last u (subst Rises whole rising) (lt_told last.0 u.0 lt)),
      λ rises. lt_shown last.0 u.0 (rises_last (take (length xs - 1) xs) last u (subst (λ (ys : List Update). Rises (ys ++ u ∷ [])) whole rises)),
    )
  where
    lt_told : (a b : ℕ) → IsTrue (nat_lt a b) → a < b
    lt_told a b h = grind (arith, nat_tests)

    lt_shown : (a b : ℕ) → a < b → IsTrue (nat_lt a b)
    lt_shown a b h = grind (arith, nat_tests)

-- the same at a level by another name, over what the call before left
pub walked_step : (kind : Kind) (old mid : Held) (up level : ℕ) (link child : Link) (from limit : ℕ) (first : List Update) (index : ℕ) (now new : List Update) (es : List Entry) (e : Entry) → Keeps old mid → suc level ≡ up → child ≡ link_of e.1 → NodeAt kind old.image up link es → index < length es → Next es index e
    → length now < limit → WalkedTo kind old.image link from limit first up index now → ((items : List (Item level)) → Holds kind mid.image level child items → TakesFrom from limit (all_pairs level items) now new) → WalkedTo kind old.image link from limit first up (index + 1) new
walked_step kind old mid up level link child from limit first index now new es e kept is leads_to node lt next few walked below =
    subst (λ (l : ℕ). WalkedTo kind old.image link from limit first l (index + 1) new) is
    (walked_child kind old.image link from limit first level index now new es e (subst (λ (l : ℕ). NodeAt kind old.image l link es) (sym is) node) lt next few (subst (λ (l : ℕ). WalkedTo kind old.image link from limit first l index now) (sym is) walked)
    (λ items holds. below items (subst (λ (c : Link). Holds kind mid.image level c items) (sym leads_to) (subst (λ (i : Image). Holds kind i level (link_of e.1) items) (sym kept.image) holds))))

pub walked_leaf : (kind : Kind) (image : Image) (link : Link) (from limit : ℕ) (old : List Update) (level index : ℕ) (mid : List Update) (es : List Entry) (e : Entry) → level ≡ 0 → NodeAt kind image level link es → index < length es → Next es index e
    → length mid < limit → WalkedTo kind image link from limit old level index mid → from ≤ e.0 → WalkedTo kind image link from limit old level (index + 1) (mid ++ (e.0, Some e.1) ∷ [])
walked_leaf kind image link from limit old level index mid es e is node lt next few walked le =
    subst (λ (l : ℕ). WalkedTo kind image link from limit old l (index + 1) (mid ++ (e.0, Some e.1) ∷ [])) (sym is)
    (walked_put kind image link from limit old index mid es e (subst (λ (l : ℕ). NodeAt kind image l link es) is node) lt next few (subst (λ (l : ℕ). WalkedTo kind image link from limit old l index mid) is walked) le)

pub walked_by : (kind : Kind) (image : Image) (link : Link) (from limit : ℕ) (old : List Update) (level index : ℕ) (mid : List Update) (es : List Entry) (e : Entry) → level ≡ 0 → NodeAt kind image level link es → index < length es → Next es index e
    → length mid < limit → WalkedTo kind image link from limit old level index mid → (from ≤ e.0 → Rises (mid ++ (e.0, Some e.1) ∷ []) → ⊥) → WalkedTo kind image link from limit old level (index + 1) mid
walked_by kind image link from limit old level index mid es e is node lt next few walked not =
    subst (λ (l : ℕ). WalkedTo kind image link from limit old l (index + 1) mid) (sym is)
    (walked_past kind image link from limit old index mid es e (subst (λ (l : ℕ). NodeAt kind image l link es) is node) lt next few (subst (λ (l : ℕ). WalkedTo kind image link from limit old l index mid) is walked) not)

-- the first item to be read: those before it are below the wanted keys
pub walked_none : (kind : Kind) (image : Image) (link : Link) (from limit : ℕ) (old : List Update) (level count : ℕ) (es : List Entry) → NodeAt kind image level link es → length old ≤ limit → Parts from es count → WalkedTo kind image link from limit old level (count - 1) old
walked_none kind image link from limit old level count es node few parts items holds rising =
    let none : wanted from (all_pairs level (take (count - 1) items)) ≡ [] = wanted_under from (all_pairs level (take (count - 1) items)) (by (count - 1) refl) in
    sym (take_all limit old few) ∙ ap (take limit) (sym (append-nil old) ∙ ap (λ (us : List Update). old ++ us) (sym none))
  where
    own : List Entry
    own = map (entry_of level) items

    own_parts : Parts from own count
    own_parts = subst (λ (xs : List Entry). Parts from xs count) (sym (one_node kind image level link own es holds.node node)) parts

    by : (n : ℕ) → count - 1 ≡ n → AllUnder from (all_pairs level (take n items))
    by zero is = tt
    by (suc n) is =
        let lt : count - 1 < length own = omega (arith, own_parts.within) in
        let at = there own (count - 1) lt in
        let guides = parts_guide from own count at.0 (omega arith) own_parts (next_at own (count - 1) at.0 lt at.1) in
        let way = on_way kind image level link from items at.0 holds guides.0 in
        let len : length way.before ≡ count - 1 = way.index_is ∙ guides.1 in
        subst (λ (xs : List (Item level)). AllUnder from (all_pairs level xs)) (sym (ap (λ (k : ℕ). take k items) (sym is) ∙ ap (take (count - 1)) way.split ∙ take_at way.before (way.item ∷ way.after) (count - 1) len)) way.parts.under

-- the limit is reached
pub walked_full : (kind : Kind) (image : Image) (link : Link) (from limit : ℕ) (old : List Update) (level index : ℕ) (new : List Update) → limit ≤ length new → WalkedTo kind image link from limit old level index new → (items : List (Item level)) → Holds kind image level link items → TakesFrom from limit (all_pairs level items) old new
walked_full kind image link from limit old level index new full walked items holds rising =
    let is = walked items holds rising in
    let here = old ++ wanted from (all_pairs level (take index items)) in
    let all : old ++ wanted from (all_pairs level items) ≡ here ++ wanted from (all_pairs level (drop index items)) =
    ap (λ (xs : List (Item level)). old ++ wanted from (all_pairs level xs)) (sym (take-append-drop index items)) ∙ ap (λ (ps : List Entry). old ++ wanted from ps) (flat_map-append (pairs level) (take index items) (drop index items))
    ∙ ap (λ (us : List Update). old ++ us) (wanted-append from (all_pairs level (take index items)) (all_pairs level (drop index items))) ∙ sym (append_assoc old (wanted from (all_pairs level (take index items))) (wanted from (all_pairs level (drop index items)))) in
    is ∙ sym (ap (take limit) all ∙ take-append-le limit here (wanted from (all_pairs level (drop index items))) (omega (arith, ap length is, length-take limit here)))

-- all items were read
pub walked_all : (kind : Kind) (image : Image) (link : Link) (from limit : ℕ) (old : List Update) (level index : ℕ) (new : List Update) (es : List Entry) → NodeAt kind image level link es → length es ≤ index → WalkedTo kind image link from limit old level index new → (items : List (Item level)) → Holds kind image level link items → TakesFrom from limit (all_pairs level items) old new
walked_all kind image link from limit old level index new es node end walked items holds rising =
    let same = ap length (one_node kind image level link (map (entry_of level) items) es holds.node node) in
    walked items holds rising ∙ ap (λ (xs : List (Item level)). take limit (old ++ wanted from (all_pairs level xs))) (take_all index items (omega (arith, same, length-map items (entry_of level))))

-- ---- the whole tree

t_true : (b : Bool) → T b → b ≡ true
t_true true h = refl
t_true false h = absurd h

rises_puts : (es : List Entry) → IsTrue (is_sorted nat_cmp es) → Rises (puts es)
rises_puts [] h = refl
rises_puts (e ∷ es) h = both _ _ (below_puts es (first_of _ _ h)) (rises_puts es (second_of _ _ h))
  where
    below_puts : (fs : List Entry) → IsTrue (below_all nat_cmp e.0 fs) → IsTrue (below_all nat_cmp e.0 (puts fs))
    below_puts [] h = refl
    below_puts (f ∷ fs) h = both _ _ (first_of _ _ h) (below_puts fs (second_of _ _ h))

pub tree_pairs : (kind : Kind) (image : Image) (height level : ℕ) (link : Link) (from limit : ℕ) (old new : List Update) → suc level ≡ height → old ≡ [] → ((items : List (Item level)) → Holds kind image level link items → TakesFrom from limit (all_pairs level items) old new)
    → (content : Content) (places : List ℕ) → IsTreeOf kind image height link content places → new ≡ puts (take limit (pairs_from from content))
tree_pairs kind image height level link from limit old new is none taken content places =
    subst (λ (h : ℕ). IsTreeOf kind image h link content places → new ≡ puts (take limit (pairs_from from content))) is (λ tree.
    let es = entries content in
    let same : wanted from (all_pairs level tree.0) ≡ puts (pairs_from from content) = ap (wanted from) (sym tree.3) in
    let rising : Rises (puts (pairs_from from content)) = rises_puts (pairs_from from content) (t_true _ (is_sorted-where_key nat_cmp (λ k. nat_le from k) es (entries_sorted content))) in
    let all : old ++ wanted from (all_pairs level tree.0) ≡ puts (pairs_from from content) = ap (λ (us : List Update). us ++ wanted from (all_pairs level tree.0)) none ∙ same in
    taken tree.0 tree.1 (subst Rises (sym all) rising) ∙ ap (take limit) all ∙ take-map (λ (e : Entry). (e.0, Some e.1)) limit (pairs_from from content))

pub no_pairs : (kind : Kind) (image : Image) (height : ℕ) (link : Link) (from limit : ℕ) (new : List Update) → height ≡ 0 → new ≡ [] → (content : Content) (places : List ℕ) → IsTreeOf kind image height link content places → new ≡ puts (take limit (pairs_from from content))
no_pairs kind image height link from limit new is none content places =
    subst (λ (h : ℕ). IsTreeOf kind image h link content places → new ≡ puts (take limit (pairs_from from content))) (sym is) (λ tree.
    none ∙ sym (ap (λ (es : List Entry). puts (take limit (from_key from es))) tree.2 ∙ ap puts (take_all limit [] (omega arith))))
