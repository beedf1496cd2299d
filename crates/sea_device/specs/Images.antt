-- What a crash may leave is a whole image, and the bytes now are among it.
use Rattle.std.proofs.Common.{ℕ, zero, suc, ◌+◌, ◌-◌, ◌*◌, ◌<◌, ◌≤◌, List, ◌++◌, length, get_or, take, drop, refl, sym, ◌∙◌, ap, subst, inl, inr, arith}
use Rattle.std.proofs.lemmas.Bool.{cases_lt}
use Rattle.std.proofs.lemmas.List.{get_or-take, get_or-drop, get_or_past, get_or_append_left, get_or-append_right, length-take, length-drop, length-append, take_at, drop_at, length-take-le, append_assoc}
use Rattle.sea_device.specs.Device.{IsImage, Torn, overwritten}
use Rattle.sea_device.specs.Moments.{Change, Wrote, Synced, bytes_after, MayLeaveAfter, bytes_at, MayLeaveAt}

abbrev pub AreBytes : List ℕ → Type 0
AreBytes bytes = (i : ℕ) → get_or bytes i 0 < 256

pub AreBytes-take : (n : ℕ) (bytes : List ℕ) → AreBytes bytes → AreBytes (take n bytes)
AreBytes-take n bytes fits i =
    elim (cases_lt i n) [
      | inl lt ↦ rw (get_or-take n bytes i 0 lt) (fits i)
      | inr le ↦ rw (get_or_past (take n bytes) i 0 (omega (arith, length-take n bytes)))
          (omega arith)
    ]

pub AreBytes-drop : (n : ℕ) (bytes : List ℕ) → AreBytes bytes → AreBytes (drop n bytes)
AreBytes-drop n bytes fits i = rw get_or-drop (fits (n + i))

pub AreBytes-append : (xs ys : List ℕ) → AreBytes xs → AreBytes ys → AreBytes (xs ++ ys)
AreBytes-append xs ys fx fy i =
    elim (cases_lt i (length xs)) [
      | inl lt ↦ rw (get_or_append_left xs ys 0 i lt) (fx i)
      | inr le ↦ rw (get_or-append_right xs ys (length xs) i 0 refl le) (fy (i - length xs))
    ]

-- a write lies within so many bytes, and writes bytes
abbrev pub IsSafe : ℕ → Change → Type 0
IsSafe size (Wrote at bytes) = (at + length bytes ≤ size) × AreBytes bytes
IsSafe size Synced = Unit {0}

-- A write leaves the old bytes, with any in its range.
pub overwritten_torn : (at : ℕ) (bytes old : List ℕ) → at + length bytes ≤ length old
    → AreBytes bytes → AreBytes old → Torn at (length bytes) old (overwritten at bytes old)
overwritten_torn at bytes old within fb fo =
    let front = length-take-le at old (omega arith) in
    let behind = drop (at + length bytes) old in
    record {
      size = length-append (take at old ++ bytes) behind
          ∙ omega (arith, length-append (take at old) bytes, length-drop (at + length bytes) old);
      before = ap (take at) (append_assoc (take at old) bytes behind)
          ∙ take_at (take at old) (bytes ++ behind) at front;
      after = drop_at (take at old ++ bytes) behind (at + length bytes)
          (omega (arith, length-append (take at old) bytes));
      fits = AreBytes-append (take at old ++ bytes) behind
          (AreBytes-append (take at old) bytes (AreBytes-take at old fo) fb)
          (AreBytes-drop (at + length bytes) old fo);
    }

pub IsImage-from_torn : (blocks at count : ℕ) (old new : List ℕ) → IsImage blocks old
    → Torn at count old new → IsImage blocks new
IsImage-from_torn blocks at count old new image torn =
    record { size = torn.size ∙ image.size; fits = torn.fits }

-- so each image stays whole
after_image : (blocks : ℕ) (x : Change) (old : List ℕ) → IsSafe (4096 * blocks) x
    → IsImage blocks old → IsImage blocks (bytes_after x old)
after_image blocks (Wrote at bytes) old safe image =
    IsImage-from_torn blocks at (length bytes) old (overwritten at bytes old) image
    (overwritten_torn at bytes old (omega (arith, safe.0, image.size)) safe.1 image.fits)
after_image blocks Synced old safe image = image

pub bytes_image : (blocks : ℕ) (start : List ℕ) (history : ℕ → Change) → IsImage blocks start
    → ((j : ℕ) → IsSafe (4096 * blocks) (history j)) → (k : ℕ)
    → IsImage blocks (bytes_at start history k)
bytes_image blocks start history first safe zero = first
bytes_image blocks start history first safe (suc k) =
    after_image blocks (history k) (bytes_at start history k) (safe k)
    (bytes_image blocks start history first safe k)

after_leaves_image : (blocks : ℕ) (x : Change) (old : List ℕ) (before : List ℕ → Type 0)
    (c : List ℕ) → IsImage blocks old → ((d : List ℕ) → before d → IsImage blocks d)
    → MayLeaveAfter x old before c → IsImage blocks c
after_leaves_image blocks (Wrote at bytes) old before c image each left =
    IsImage-from_torn blocks at (length bytes) left.0 c (each left.0 left.1) left.2
after_leaves_image blocks Synced old before c image each left =
    subst (IsImage blocks) (sym left) image

pub leaves_image : (blocks : ℕ) (start : List ℕ) (history : ℕ → Change) → IsImage blocks start
    → ((j : ℕ) → IsSafe (4096 * blocks) (history j)) → (k : ℕ) (c : List ℕ)
    → MayLeaveAt start history k c → IsImage blocks c
leaves_image blocks start history first safe zero c left = subst (IsImage blocks) (sym left) first
leaves_image blocks start history first safe (suc k) c left =
    after_leaves_image blocks (history k) (bytes_at start history k) (MayLeaveAt start history k) c
    (bytes_image blocks start history first safe k)
    (leaves_image blocks start history first safe k) left

-- The bytes now are among what a crash may leave.
after_now : (blocks : ℕ) (x : Change) (old : List ℕ) (before : List ℕ → Type 0)
    → IsSafe (4096 * blocks) x → IsImage blocks old → before old
    → MayLeaveAfter x old before (bytes_after x old)
after_now blocks (Wrote at bytes) old before safe image here =
    (old, here, overwritten_torn at bytes old (omega (arith, safe.0, image.size)) safe.1 image.fits)
after_now blocks Synced old before safe image here = refl

pub leaves_now : (blocks : ℕ) (start : List ℕ) (history : ℕ → Change) → IsImage blocks start
    → ((j : ℕ) → IsSafe (4096 * blocks) (history j)) → (k : ℕ)
    → MayLeaveAt start history k (bytes_at start history k)
leaves_now blocks start history first safe zero = refl
leaves_now blocks start history first safe (suc k) =
    after_now blocks (history k) (bytes_at start history k) (MayLeaveAt start history k) (safe k)
    (bytes_image blocks start history first safe k)
    (leaves_now blocks start history first safe k)
