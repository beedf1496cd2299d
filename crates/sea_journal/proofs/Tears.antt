-- Bytes that were torn in a range.
use Rattle.std.proofs.Common.{◌≡◌, ℕ, ◌+◌, ◌-◌, ◌≤◌, List, take, drop, Option, Some, None, refl, sym, ap, ◌∙◌, subst, inl, inr, arith}
use Rattle.std.proofs.lemmas.List.{take-take, drop-drop}
use Rattle.sea_device.specs.declared.device.Device.{Ghosts}
use Rattle.sea_device.specs.Device.{IsImage, Torn, ChangesWithin, Follows, Elapses}
use Rattle.sea_device.specs.Calls.{OnlyRead}
use Rattle.sea_journal.specs.Changes.{ToldBy, ChangesBy}

-- nothing was torn
pub Torn-none : (at count blocks : ℕ) (b : List ℕ) → IsImage blocks b → Torn at count b b
Torn-none at count blocks b image = record { size = refl; before = refl; after = refl; fits = image.fits }

-- a wider range
pub Torn-wider : (at count from many : ℕ) (x y : List ℕ) → from ≤ at → at + count ≤ from + many → Torn at count x y → Torn from many x y
Torn-wider at count from many x y low high torn =
    let rest = from + many - (at + count) in
    let behind : (b : List ℕ) → drop (from + many) b ≡ drop rest (drop (at + count) b) =
    λ b. ap (λ (n : ℕ). drop n b) (omega arith) ∙ sym (drop-drop rest (at + count) b) in
    record {
      size = torn.size;
      before = sym (take-take from at y low) ∙ ap (take from) torn.before ∙ take-take from at x low;
      after = behind y ∙ ap (drop rest) torn.after ∙ sym (behind x);
      fits = torn.fits;
    }

-- torn twice
pub Torn-more : (at count : ℕ) (x y z : List ℕ) → Torn at count x y → Torn at count y z → Torn at count x z
Torn-more at count x y z first second = record {
  size = second.size ∙ first.size;
  before = second.before ∙ first.before;
  after = second.after ∙ first.after;
  fits = second.fits;
}

-- a write's change of told bytes, as a step
pub told_by : (at count : ℕ) (x y : Option (List ℕ)) → ChangesWithin at count x y → ToldBy (Torn at count) x y
told_by at count None None changes = tt
told_by at count None (Some y) changes = changes
told_by at count (Some x) None changes = changes
told_by at count (Some x) (Some y) changes = changes

told-wider : (s r : List ℕ → List ℕ → Type 0) → ((x y : List ℕ) → s x y → r x y) → (x y : Option (List ℕ)) → ToldBy s x y → ToldBy r x y
told-wider s r each None None by = tt
told-wider s r each None (Some y) by = by
told-wider s r each (Some x) None by = by
told-wider s r each (Some x) (Some y) by = each x y by

told-then : (s r q : List ℕ → List ℕ → Type 0) → ((x y z : List ℕ) → s x y → r y z → q x z) → (x y z : Option (List ℕ)) → ToldBy s x y → ToldBy r y z → ToldBy q x z
told-then s r q both None None None first second = tt
told-then s r q both None None (Some z) first second = second
told-then s r q both None (Some y) z first second = absurd first
told-then s r q both (Some x) None z first second = absurd first
told-then s r q both (Some x) (Some y) None first second = second
told-then s r q both (Some x) (Some y) (Some z) first second = both x y z first second

told-none : (s : List ℕ → List ℕ → Type 0) (x : Option (List ℕ)) → ((b : List ℕ) → x ≡ Some b → s b b) → ToldBy s x x
told-none s None each = tt
told-none s (Some b) each = each b refl

module _ {D : Type 0} {g : Ghosts D} where
  -- reads change nothing
  pub by_reads : (at count : ℕ) (old new : D) → ((b : List ℕ) → g.contents old ≡ Some b → IsImage (g.size old) b) → ((c : List ℕ) → g.may_leave old c → IsImage (g.size old) c) → OnlyRead g old new → ChangesBy (Torn at count) g old new
  by_reads at count old new whole images read = record {
    size = read.size;
    told = read.told;
    contents = subst (ToldBy (Torn at count) (g.contents old)) (sym read.contents) (told-none (Torn at count) (g.contents old) (λ b is. Torn-none at count (g.size old) b (whole b is)));
    images = λ c left. let before = (read.images c).1 left in (c, before, Torn-none at count (g.size old) c (images c before));
    later = read.time.later;
    moments = λ t c le left. elim (read.time.nothing_else t c le left) [
      | inl past ↦ inl past
      | inr now ↦ (let before = (read.images c).1 now in inr (c, before, Torn-none at count (g.size old) c (images c before)))
    ];
    keeps = read.time.keeps;
  }

  -- a sync leaves nothing that wasn't possible before
  pub by_sync : (at count : ℕ) (old new : D) → ((b : List ℕ) → g.contents old ≡ Some b → IsImage (g.size old) b) → ((c : List ℕ) → g.may_leave old c → IsImage (g.size old) c) → g.size new ≡ g.size old → g.contents new ≡ g.contents old → g.tells_images new ≡ g.tells_images old → ((c : List ℕ) → g.may_leave new c → g.may_leave old c) → Elapses (g.clock old) (g.clock new) (g.left_since old) (g.left_since new) (g.may_leave new) → ChangesBy (Torn at count) g old new
  by_sync at count old new whole images size contents told fewer time = record {
    size = size;
    told = told;
    contents = subst (ToldBy (Torn at count) (g.contents old)) (sym contents) (told-none (Torn at count) (g.contents old) (λ b is. Torn-none at count (g.size old) b (whole b is)));
    images = λ c left. (c, fewer c left, Torn-none at count (g.size old) c (images c (fewer c left)));
    later = time.later;
    moments = λ t c le left. elim (time.nothing_else t c le left) [
      | inl past ↦ inl past
      | inr now ↦ inr (c, fewer c now, Torn-none at count (g.size old) c (images c (fewer c now)))
    ];
    keeps = time.keeps;
  }

  -- a write changes its range
  pub by_write : (at count : ℕ) (old new : D) → g.size new ≡ g.size old → g.tells_images new ≡ g.tells_images old → ChangesWithin at count (g.contents old) (g.contents new) → Follows (Torn at count) (g.may_leave old) (g.may_leave new) → Elapses (g.clock old) (g.clock new) (g.left_since old) (g.left_since new) (g.may_leave new) → ChangesBy (Torn at count) g old new
  by_write at count old new size told changes follows time = record {
    size = size;
    told = told;
    contents = told_by at count (g.contents old) (g.contents new) changes;
    images = follows;
    later = time.later;
    moments = λ t c le left. elim (time.nothing_else t c le left) [ inl past ↦ inl past | inr now ↦ inr (follows c now) ];
    keeps = time.keeps;
  }

  -- a step that allows more
  pub ChangesBy-wider : (s r : List ℕ → List ℕ → Type 0) → ((x y : List ℕ) → s x y → r x y) → (old new : D) → ChangesBy s g old new → ChangesBy r g old new
  ChangesBy-wider s r each old new by = record {
    size = by.size;
    told = by.told;
    contents = told-wider s r each (g.contents old) (g.contents new) by.contents;
    images = λ c left. let from = by.images c left in (from.0, from.1, each from.0 c from.2);
    later = by.later;
    moments = λ t c le left. elim (by.moments t c le left) [ inl past ↦ inl past | inr from ↦ inr (from.0, from.1, each from.0 c from.2) ];
    keeps = by.keeps;
  }

  -- one step after the other
  pub ChangesBy-then : (s r q : List ℕ → List ℕ → Type 0) → ((x y z : List ℕ) → s x y → r y z → q x z) → ((x y : List ℕ) → s x y → q x y) → (d e f : D) → ChangesBy s g d e → ChangesBy r g e f → ChangesBy q g d f
  ChangesBy-then s r q both each d e f first second =
      record {
        size = second.size ∙ first.size;
        told = second.told ∙ first.told;
        contents = told-then s r q both (g.contents d) (g.contents e) (g.contents f) first.contents second.contents;
        images = λ c left. from c (second.images c left);
        later = omega (arith, first.later, second.later);
        moments = λ t c le left. elim (second.moments t c (omega (arith, first.later)) left) [
          | inl past ↦ elim (first.moments t c le past) [ inl past' ↦ inl past' | inr by ↦ inr (by.0, by.1, each by.0 c by.2) ]
          | inr by ↦ inr (from c by)
        ];
        keeps = λ t c le past. second.keeps t c (omega (arith, first.later)) (first.keeps t c le past);
      }
    where
      from : (c : List ℕ) → ((y : List ℕ) × g.may_leave e y × r y c) → (x : List ℕ) × g.may_leave d x × q x c
      from c by = let before = first.images by.0 by.1 in (before.0, before.1, both before.0 by.0 c before.2 by.2)

  -- and both in one range
  pub InRange-then : (at count : ℕ) (d e f : D) → ChangesBy (Torn at count) g d e → ChangesBy (Torn at count) g e f → ChangesBy (Torn at count) g d f
  InRange-then at count = ChangesBy-then (Torn at count) (Torn at count) (Torn at count) (Torn-more at count) (λ x y torn. torn)

  pub InRange-wider : (at count from many : ℕ) (old new : D) → from ≤ at → at + count ≤ from + many → ChangesBy (Torn at count) g old new → ChangesBy (Torn from many) g old new
  InRange-wider at count from many old new low high = ChangesBy-wider (Torn at count) (Torn from many) (λ x y. Torn-wider at count from many x y low high) old new
