-- A search by halves among entries whose keys rise.
use Rattle.std.proofs.Common.{◌≡◌, ℕ, ◌+◌, ◌-◌, ◌*◌, ◌<◌, ◌≤◌, ◌^◌, List, [], ◌∷◌, ◌++◌, length, take, drop, sym, ap, subst, ◌∙◌, arith, take-append-drop}
use Rattle.std.specs.List.{AllByRecursion}
use Rattle.sea_ptree.specs.Node.{Entry, Fits, entry_bytes}
use Rattle.sea_ptree.specs.Tree.{IsBelowNext, Guides}
use Rattle.std.specs.Prelude.{slice_range}
use Rattle.std.proofs.lemmas.List.{length-take-le}
use Rattle.sea_ptree.specs.declared.kind.Kind.{Kind}
use Rattle.sea_ptree.specs.declared.view.View.{View}
use Rattle.sea_ptree.specs.View.{Views, Parts}
use Rattle.sea_ptree.proofs.Checks.{Next, next_read}
use Rattle.sea_ptree.proofs.Fronts.{spelled_read}
use Rattle.sea_ptree.proofs.Rising.{Lie, Lie-split, rising_from_zero}

abbrev pub AreUpto : ℕ → List Entry → Type 0
AreUpto key es = AllByRecursion (λ e. e.0 ≤ key) es

-- the keys before one index are not above a key, and those from another on are above it
pub record Narrows (key : ℕ) (es : List Entry) (low high : ℕ) : Type 0 where
  pub within : high ≤ length es
  pub upto : AreUpto key (take low es)
  pub above : IsBelowNext key (drop high es)

all_upto : (key low high : ℕ) (es : List Entry) → Lie low high es → high ≤ key + 1 → AreUpto key es
all_upto key low high [] lie le = tt
all_upto key low high (e ∷ es) lie le = (omega (arith, bound es lie.1), all_upto key (e.0 + 1) high es lie.1 le)
  where
    bound : (fs : List Entry) {n : ℕ} → Lie n high fs → n ≤ high
    bound [] lie = lie
    bound (f ∷ fs) lie = omega (arith, bound fs lie.1)

-- the entries up to an index, whose key is not above
pub low_moves : (key : ℕ) (es : List Entry) (low high index : ℕ) (e : Entry) → Lie 0 (2 ^ 64) es → Narrows key es low high → Next es index e → index < high → e.0 ≤ key → Narrows key es (index + 1) high
low_moves key es low high index e lie narrows next lt le =
    let parts = Lie-split 0 (2 ^ 64) (take index es) (e ∷ drop (index + 1) es) (subst (Lie 0 (2 ^ 64)) (sym (take-append-drop index es) ∙ ap (λ (r : List Entry). take index es ++ r) next.rest) lie) in
    record {
      within = narrows.within;
      upto = subst (AreUpto key) (sym next.more) (all_more (take index es) (all_upto key 0 parts.mid (take index es) parts.front (omega (arith, parts.back.0))));
      above = narrows.above;
    }
  where
    all_more : (xs : List Entry) → AreUpto key xs → AreUpto key (xs ++ e ∷ [])
    all_more [] all = (le, tt)
    all_more (x ∷ xs) all = (all.0, all_more xs all.1)

pub high_moves : (key : ℕ) (es : List Entry) (low high index : ℕ) (e : Entry) → Narrows key es low high → Next es index e → index < high → key < e.0 → Narrows key es low index
high_moves key es low high index e narrows next lt less = record {
  within = omega (arith, narrows.within);
  upto = narrows.upto;
  above = subst (IsBelowNext key) (sym next.rest) less;
}

pub narrowed : (key : ℕ) (es : List Entry) (low high : ℕ) → low ≡ high → Narrows key es low high → Parts key es low
narrowed key es low high same narrows = record {
  within = omega (arith, narrows.within);
  upto = narrows.upto;
  next = subst (λ (n : ℕ). IsBelowNext key (drop n es)) (sym same) narrows.above;
}

-- ---- a node in its block

pub view_rising : (kind : Kind) (level : ℕ) (view : View) (es : List Entry) → Views kind level view es → Lie 0 (2 ^ 64) es
view_rising kind level view es views = rising_from_zero es views.spells.node.fits views.spells.node.rising

pub view_next : (kind : Kind) (level : ℕ) (view : View) (es : List Entry) (index : ℕ) (e : Entry) → Views kind level view es → length view.block ≡ 4096 → index < length es → Fits e → slice_range view.block (32 + 28 * index) (60 + 28 * index) ≡ entry_bytes e → Next es index e
view_next kind level view es index e views len lt fits here =
    next_read view.block (length es) index es e len views.spells.node.room (spelled_read kind level view.block es views.spells) lt fits here

pub parts_none : (key : ℕ) (es : List Entry) (count : ℕ) → count ≡ 0 → Parts key es count → IsBelowNext key es
parts_none key es count none parts = subst (λ (n : ℕ). IsBelowNext key (drop n es)) none parts.next

pub parts_guide : (key : ℕ) (es : List Entry) (count : ℕ) (e : Entry) → 0 < count → Parts key es count → Next es (count - 1) e → (guides : Guides key es e) × (length guides.before ≡ count - 1)
parts_guide key es count e some parts next =
    let index : count - 1 + 1 ≡ count = omega arith in (
      record {
        before = take (count - 1) es;
        after = drop count es;
        split = sym (take-append-drop (count - 1) es) ∙ ap (λ (r : List Entry). take (count - 1) es ++ r) (next.rest ∙ ap (λ (n : ℕ). e ∷ drop n es) index);
        not_above = last (take (count - 1) es) (subst (AreUpto key) (ap (λ (n : ℕ). take n es) (sym index) ∙ next.more) parts.upto);
        next = parts.next;
      },
      length-take-le (count - 1) es (omega (arith, parts.within)),
    )
  where
    last : (xs : List Entry) → AreUpto key (xs ++ e ∷ []) → e.0 ≤ key
    last [] all = all.0
    last (x ∷ xs) all = last xs all.1
