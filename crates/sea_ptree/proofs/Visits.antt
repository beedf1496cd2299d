-- Which nodes a walk reads, entry by entry.
use Rattle.std.proofs.Common.{◌≡◌, ℕ, zero, suc, ◌+◌, ◌-◌, ◌<◌, ◌≤◌, List, [], ◌∷◌, ◌++◌, length, get_or, take, drop, refl, sym, ap, subst, ◌∙◌, arith, inl, inr, length-drop, take-append-drop}
use Rattle.std.proofs.lemmas.List.{take_all, take_more, drop_more, drop-drop}
use Rattle.sea_ptree.specs.declared.kind.Kind.{Kind}
use Rattle.sea_ptree.specs.declared.link.Link.{Link}
use Rattle.sea_ptree.specs.Blocks.{Image, Held, Keeps}
use Rattle.sea_ptree.specs.Merging.{Towards}
use Rattle.sea_ptree.specs.Node.{Entry}
use Rattle.sea_ptree.specs.Run.{Update}
use Rattle.sea_ptree.specs.Tree.{NodeAt, link_of}
use Rattle.sea_ptree.specs.View.{Parts}
use Rattle.sea_ptree.specs.Walking.{TakesPair, Through, WalksNode, WalksBelow, Walks}
use Rattle.sea_ptree.proofs.Checks.{Next}
use Rattle.sea_ptree.proofs.Guiding.{one_node}

-- ---- entries one after the other

pub through_more : (Step : Entry → List Update → List Update → Type 0) (limit : ℕ) (xs : List Entry) (e : Entry) (old mid new : List Update) → Through Step limit xs old mid → length mid < limit → Step e mid new → Through Step limit (xs ++ e ∷ []) old new
through_more Step limit [] e old mid new is few step =
    inr (subst (λ (m : List Update). length m < limit) is few, (new, subst (λ (m : List Update). Step e m new) is step, refl))
through_more Step limit (x ∷ xs) e old mid new (inl (full, is)) few step = absurd (omega (arith, ap length is))
through_more Step limit (x ∷ xs) e old mid new (inr (less, (m, first, rest))) few step = inr (less, (m, first, through_more Step limit xs e m mid new rest few step))

stay : (Step : Entry → List Update → List Update → Type 0) (limit : ℕ) (ys : List Entry) (old : List Update) → limit ≤ length old → Through Step limit ys old old
stay Step limit [] old full = refl
stay Step limit (y ∷ ys) old full = inl (full, refl)

pub through_full : (Step : Entry → List Update → List Update → Type 0) (limit : ℕ) (xs ys : List Entry) (old new : List Update) → limit ≤ length new → Through Step limit xs old new → Through Step limit (xs ++ ys) old new
through_full Step limit [] ys old new full is = subst (λ (m : List Update). Through Step limit ys m new) is (stay Step limit ys new full)
through_full Step limit (x ∷ xs) ys old new full (inl (f, is)) = inl (f, is)
through_full Step limit (x ∷ xs) ys old new full (inr (less, (m, first, rest))) = inr (less, (m, first, through_full Step limit xs ys m new full rest))

-- the entries from an index on, one more of them
slice_more : (es : List Entry) (start index : ℕ) (e : Entry) → start ≤ index → index < length es → Next es index e → take (index + 1 - start) (drop start es) ≡ take (index - start) (drop start es) ++ e ∷ []
slice_more es start index e le lt next =
    let k : index + 1 - start ≡ index - start + 1 = omega (arith, le) in
    let inside : index - start < length (drop start es) = omega (arith, length-drop start es) in
    let at : start + (index - start) ≡ index = omega (arith, le) in
    let there : drop (index - start) (drop start es) ≡ drop index es = drop-drop (index - start) start es ∙ ap (λ n. drop n es) at in
    let head : get_or (drop start es) (index - start) e ∷ drop (index - start + 1) (drop start es) ≡ e ∷ drop (index + 1) es = sym (drop_more (drop start es) (index - start) e inside) ∙ there ∙ next.rest in
    let same : get_or (drop start es) (index - start) e ≡ e = cc in
    ap (λ n. take n (drop start es)) k ∙ take_more (drop start es) (index - start) e inside ∙ ap (λ (x : Entry). take (index - start) (drop start es) ++ x ∷ []) same

-- ---- one step, at any level

abbrev pub step_of : Kind → Image → ℕ → ℕ → ℕ → Entry → List Update → List Update → Type 0
step_of kind image from limit zero e old new = TakesPair from e old new
step_of kind image from limit (suc level) e old new = WalksBelow kind image from limit level (link_of e.1) old new

pub takes_at : (kind : Kind) (image : Image) (from limit level : ℕ) (e : Entry) (old new : List Update) → level ≡ 0 → TakesPair from e old new → step_of kind image from limit level e old new
takes_at kind image from limit level e old new is takes = subst (λ (l : ℕ). step_of kind image from limit l e old new) (sym is) takes

pub walks_on : (kind : Kind) (old mid : Held) (from limit up level : ℕ) (child : Link) (e : Entry) (now new : List Update) → Keeps old mid → suc level ≡ up → child ≡ link_of e.1 → WalksBelow kind mid.image from limit level child now new → step_of kind old.image from limit up e now new
walks_on kind old mid from limit up level child e now new kept is leads walks =
    subst (λ (l : ℕ). step_of kind old.image from limit l e now new) is
    (subst (λ (l : Link). WalksBelow kind old.image from limit level l now new) leads (subst (λ (i : Image). WalksBelow kind i from limit level child now new) kept.image walks))

-- what a walk has read of a node between two of its entries
abbrev pub ReadTo : Kind → Image → Link → ℕ → ℕ → ℕ → ℕ → ℕ → List Update → List Update → Type 0
ReadTo kind image link from limit level start index old new =
    (es : List Entry) → NodeAt kind image level link es → Through (step_of kind image from limit level) limit (take (index - start) (drop start es)) old new

pub read_none : (kind : Kind) (image : Image) (link : Link) (from limit level start : ℕ) (run : List Update) → ReadTo kind image link from limit level start start run run
read_none kind image link from limit level start run es node =
    let none : 0 ≡ start - start = omega arith in
    subst (λ n. Through (step_of kind image from limit level) limit (take n (drop start es)) run run) none refl

pub read_more : (kind : Kind) (image : Image) (link : Link) (from limit level start index : ℕ) (es : List Entry) (e : Entry) (old mid new : List Update) → NodeAt kind image level link es → Next es index e → start ≤ index → index < length es → length mid < limit
    → ReadTo kind image link from limit level start index old mid → step_of kind image from limit level e mid new → ReadTo kind image link from limit level start (index + 1) old new
read_more kind image link from limit level start index es e old mid new node next le lt few read step fs at =
    let same : es ≡ fs = one_node kind image level link es fs node at in
    subst (λ (xs : List Entry). Through (step_of kind image from limit level) limit (take (index + 1 - start) (drop start xs)) old new) same
    (subst (λ (xs : List Entry). Through (step_of kind image from limit level) limit xs old new) (sym (slice_more es start index e le lt next))
    (through_more (step_of kind image from limit level) limit (take (index - start) (drop start es)) e old mid new (read es node) few step))

-- ---- the whole node

node_walked : (kind : Kind) (image : Image) (link : Link) (from limit level : ℕ) (old new : List Update) → WalksNode (step_of kind image from limit level) kind image level link from limit old new → WalksBelow kind image from limit level link old new
node_walked kind image link from limit zero old new walks = record { entries = walks.entries; index = walks.index; node = walks.node; toward = walks.toward; through = walks.through }
node_walked kind image link from limit (suc level) old new walks = record { entries = walks.entries; index = walks.index; node = walks.node; toward = walks.toward; through = walks.through }

to_start : (from : ℕ) (es : List Entry) (count start : ℕ) → Parts from es count → start ≡ count - 1 → Towards from es start
to_start from es count start parts is = record { count = count; index_is = is; parts = parts }

-- the limit is reached
pub read_full : (kind : Kind) (image : Image) (link : Link) (from limit level count start index : ℕ) (es : List Entry) (old new : List Update) → NodeAt kind image level link es → Parts from es count → start ≡ count - 1 → limit ≤ length new
    → ReadTo kind image link from limit level start index old new → WalksBelow kind image from limit level link old new
read_full kind image link from limit level count start index es old new node parts is full read =
    node_walked kind image link from limit level old new (record {
      entries = es;
      index = start;
      node = node;
      toward = to_start from es count start parts is;
      through = subst (λ (xs : List Entry). Through (step_of kind image from limit level) limit xs old new) (take-append-drop (index - start) (drop start es))
          (through_full (step_of kind image from limit level) limit (take (index - start) (drop start es)) (drop (index - start) (drop start es)) old new full (read es node));
    })

-- all entries were read
pub read_all : (kind : Kind) (image : Image) (link : Link) (from limit level count start index : ℕ) (es : List Entry) (old new : List Update) → NodeAt kind image level link es → Parts from es count → start ≡ count - 1 → length es ≤ index
    → ReadTo kind image link from limit level start index old new → WalksBelow kind image from limit level link old new
read_all kind image link from limit level count start index es old new node parts is end read =
    node_walked kind image link from limit level old new (record {
      entries = es;
      index = start;
      node = node;
      toward = to_start from es count start parts is;
      through = subst (λ (xs : List Entry). Through (step_of kind image from limit level) limit xs old new) (take_all (index - start) (drop start es) (omega (arith, length-drop start es))) (read es node);
    })

-- ---- the whole tree

pub walks_root : (kind : Kind) (image : Image) (from limit height level : ℕ) (link from_link : Link) (none old new : List Update) → suc level ≡ height → from_link ≡ link → old ≡ none → WalksBelow kind image from limit level from_link old new → Walks kind image from limit height link none new
walks_root kind image from limit height level link from_link none old new is leads empty walks =
    subst (λ (h : ℕ). Walks kind image from limit h link none new) is (subst (λ (l : Link). WalksBelow kind image from limit level l none new) leads (subst (λ (m : List Update). WalksBelow kind image from limit level from_link m new) empty walks))

pub walks_nowhere : (kind : Kind) (image : Image) (from limit height : ℕ) (link : Link) (none new : List Update) → height ≡ 0 → new ≡ none → Walks kind image from limit height link none new
walks_nowhere kind image from limit height link none new is same = subst (λ (h : ℕ). Walks kind image from limit h link none new) (sym is) same
