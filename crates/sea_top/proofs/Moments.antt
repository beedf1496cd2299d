-- What crashes during a run may leave: its opening writes nothing, and then it writes behind the trail alone.
use Rattle.std.proofs.Common.{◌≡◌, ◌⊎◌, ℕ, ◌≤◌, Bool, List, take, ap, ◌∙◌, inl, inr, arith}
use Rattle.std.specs.Prelude.{Option}
use Rattle.sea_device.specs.declared.device.Device.{Ghosts}
use Rattle.sea_device.specs.Device.{Elapses}
use Rattle.sea_device.specs.Calls.{OnlyRead}
use Rattle.sea_top.specs.Crash.{ChangesBehind, SameFront}

-- Till a moment of the call each image might have been left before, and since then it has the front of this one.
pub record KeepsFront (at : ℕ) (image : List ℕ) (before : List ℕ → Type 0) (start now : ℕ) (since : ℕ → List ℕ → Type 0) : Type 0 where
  pub opened : ℕ
  pub after_start : start ≤ opened
  pub before_return : opened ≤ now
  pub opening : (c : List ℕ) → since start c → before c ⊎ since opened c
  pub moments : (c : List ℕ) → since opened c → SameFront at image c

module _ {D : Type 0} (g : Ghosts D) where
  -- a sync adds nothing to what a crash may leave
  pub synced_moments : (old synced : D) → ((c : List ℕ) → g.may_leave synced c → g.may_leave old c) → Elapses (g.clock old) (g.clock synced) (g.left_since old) (g.left_since synced) (g.may_leave synced) → ((c : List ℕ) → g.left_since old (g.clock old) c → g.may_leave old c) → (c : List ℕ) → g.left_since synced (g.clock old) c → g.may_leave old c
  synced_moments old synced images time only c left =
      elim (time.nothing_else (g.clock old) c (omega arith) left) [
        | inl past ↦ only c past
        | inr now ↦ images c now
      ]

  -- nor does the reading behind it
  pub read_moments : (old synced read : D) → ((c : List ℕ) → g.may_leave synced c → g.may_leave old c) → Elapses (g.clock old) (g.clock synced) (g.left_since old) (g.left_since synced) (g.may_leave synced) → OnlyRead g synced read → ((c : List ℕ) → g.left_since old (g.clock old) c → g.may_leave old c) → (c : List ℕ) → g.left_since read (g.clock old) c → g.may_leave old c
  read_moments old synced read images time only_read only c left =
      elim (only_read.time.nothing_else (g.clock old) c time.later left) [
        | inl past ↦ synced_moments old synced images time only c past
        | inr now ↦ images c ((only_read.images c).1 now)
      ]

  -- till the sync each image might have been left before, and since then it has the front of the one that was stable
  pub written_moments : (at : ℕ) (image : List ℕ) (old synced read new : D) → ((c : List ℕ) → g.may_leave synced c → g.may_leave old c) → Elapses (g.clock old) (g.clock synced) (g.left_since old) (g.left_since synced) (g.may_leave synced) → OnlyRead g synced read → ((d : D) (c : List ℕ) → g.left_since d (g.clock d) c → g.may_leave d c) → ((c : List ℕ) → g.may_leave read c → c ≡ image) → ChangesBehind at g read new → KeepsFront at image (g.may_leave old) (g.clock old) (g.clock new) (g.left_since new)
  written_moments at image old synced read new images time only_read only_now only behind =
      let read_later = only_read.time.later in
      record {
        opened = g.clock synced;
        after_start = time.later;
        before_return = omega (arith, read_later, behind.later);
        opening = λ c left. elim (behind.later_ones (g.clock old) (g.clock synced) c time.later read_later left) [
          | inl past ↦ inl (read_moments old synced read images time only_read (only_now old) c past)
          | inr later ↦ inr later
        ];
        moments = λ c left. elim (behind.moments (g.clock synced) c read_later left) [
          | inl past ↦ ap (take at) (still c (only_read.time.nothing_else (g.clock synced) c (omega arith) past))
          | inr now ↦ now.2 ∙ ap (take at) (only now.0 now.1)
        ];
      }
    where
      still : (c : List ℕ) → g.left_since synced (g.clock synced) c ⊎ g.may_leave read c → c ≡ image
      still c (inl past) = only c ((only_read.images c).0 (only_now synced c past))
      still c (inr now) = only c now

  pub written_images : (at : ℕ) (image : List ℕ) (read new : D) → ((c : List ℕ) → g.may_leave read c → c ≡ image) → ChangesBehind at g read new → (c : List ℕ) → g.may_leave new c → SameFront at image c
  written_images at image read new only behind c left =
      let from = behind.images c left in from.2 ∙ ap (take at) (only from.0 from.1)
