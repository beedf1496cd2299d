-- A crash leaves the stable bytes, with any unsynced blocks laid over them.
use Rattle.std.proofs.Common.{◌≡◌, ℕ, zero, suc, ◌+◌, ◌*◌, ◌≤◌, List, length, refl, inl, inr, arith}
use Rattle.sea_device.specs.Device.{IsImage, overwritten}
use Rattle.sea_device.specs.Moments.{Change, Wrote, Synced, stable_after, MayLeaveAfter, IsUnsyncedAfter, bytes_at, stable_at, MayLeaveAt, IsUnsyncedAt}
use Rattle.sea_device.specs.Images.{AreBytes, IsSafe, leaves_image}
use Rattle.sea_device.specs.Laws.{first_image, all_safe}
use Rattle.sea_device.specs.declared.call_log.CallLog.{CallLog}
use Rattle.sea_device.specs.Past.{changes_of, stable_of, MayLeaveOf, IsUnsyncedOf}
use Rattle.sea_device.proofs.Grows.{Torn-same}
use Rattle.sea_device.proofs.Torn.{torn_inside, torn_both}

-- the stable bytes themselves
after_stable : (blocks : ℕ) (x : Change) (old stable : List ℕ) (before : List ℕ → Type 0) → IsImage blocks stable → before stable → MayLeaveAfter x old before (stable_after x old stable)
after_stable blocks (Wrote at bytes) old stable before image here = (stable, here, Torn-same at (length bytes) stable image.fits)
after_stable blocks Synced old stable before image here = refl

leaves_stable : (blocks : ℕ) (start : List ℕ) (history : ℕ → Change) → IsImage blocks start → ((j : ℕ) → IsSafe (4096 * blocks) (history j)) → (k : ℕ) → MayLeaveAt start history k (stable_at start history k)
leaves_stable blocks start history first safe zero = refl
leaves_stable blocks start history first safe (suc k) =
    let here = leaves_stable blocks start history first safe k in
    after_stable blocks (history k) (bytes_at start history k) (stable_at start history k) (MayLeaveAt start history k) (leaves_image blocks start history first safe k (stable_at start history k) here) here

-- an unsynced block lies on the device
after_within : (size block : ℕ) (x : Change) (before : Type 0) → IsSafe size x → (before → 4096 * block + 4096 ≤ size) → IsUnsyncedAfter block x before → 4096 * block + 4096 ≤ size
after_within size block (Wrote at bytes) before safe earlier (inl here) = omega (arith, here.1, safe.0)
after_within size block (Wrote at bytes) before safe earlier (inr past) = earlier past
after_within size block Synced before safe earlier never = absurd never

unsynced_within : (size : ℕ) (history : ℕ → Change) → ((j : ℕ) → IsSafe size (history j)) → (k block : ℕ) → IsUnsyncedAt history k block → 4096 * block + 4096 ≤ size
unsynced_within size history safe zero block never = absurd never
unsynced_within size history safe (suc k) block written =
    after_within size block (history k) (IsUnsyncedAt history k block) (safe k) (unsynced_within size history safe k block) written

-- one more unsynced block
after_laid : (blocks block : ℕ) (bytes : List ℕ) (x : Change) (old c : List ℕ) (before : List ℕ → Type 0) (earlier : Type 0) → length bytes ≡ 4096 → AreBytes bytes → 4096 * block + 4096 ≤ 4096 * blocks → ((d : List ℕ) → before d → IsImage blocks d) → (earlier → (d : List ℕ) → before d → before (overwritten (4096 * block) bytes d)) → IsUnsyncedAfter block x earlier → MayLeaveAfter x old before c → MayLeaveAfter x old before (overwritten (4096 * block) bytes c)
after_laid blocks block bytes (Wrote at put) old c before earlier size fits within image more (inl here) left =
    let whole = image left.0 left.1 in
    (left.0, left.1, torn_inside at (length put) (4096 * block) bytes left.0 c fits left.2 here.0 (omega (arith, here.1)) (omega (arith, left.2.size, whole.size)))
after_laid blocks block bytes (Wrote at put) old c before earlier size fits within image more (inr past) left =
    let whole = image left.0 left.1 in
    (overwritten (4096 * block) bytes left.0, more past left.0 left.1, torn_both at (length put) (4096 * block) bytes left.0 c fits whole.fits left.2 (omega (arith, whole.size)))
after_laid blocks block bytes Synced old c before earlier size fits within image more never left = absurd never

leaves_laid : (blocks : ℕ) (start : List ℕ) (history : ℕ → Change) → IsImage blocks start → ((j : ℕ) → IsSafe (4096 * blocks) (history j)) → (k block : ℕ) (bytes : List ℕ) → length bytes ≡ 4096 → AreBytes bytes → IsUnsyncedAt history k block → (c : List ℕ) → MayLeaveAt start history k c → MayLeaveAt start history k (overwritten (4096 * block) bytes c)
leaves_laid blocks start history first safe zero block bytes size fits never c left = absurd never
leaves_laid blocks start history first safe (suc k) block bytes size fits written c left =
    after_laid blocks block bytes (history k) (bytes_at start history k) c (MayLeaveAt start history k) (IsUnsyncedAt history k block) size fits
    (unsynced_within (4096 * blocks) history safe (suc k) block written) (leaves_image blocks start history first safe k)
    (λ past d before. leaves_laid blocks start history first safe k block bytes size fits past d before) written left

-- the same of a log
pub stable_left : (blocks : ℕ) (r : CallLog) → length r.start.items ≡ 4096 * blocks → (k : ℕ) → MayLeaveOf r k (stable_of r k)
stable_left blocks r size = leaves_stable blocks r.start.items (changes_of r) (first_image blocks r size) (all_safe blocks r size)

pub block_within : (blocks : ℕ) (r : CallLog) → length r.start.items ≡ 4096 * blocks → (k block : ℕ) → IsUnsyncedOf r k block → 4096 * block + 4096 ≤ 4096 * blocks
block_within blocks r size = unsynced_within (4096 * blocks) (changes_of r) (all_safe blocks r size)

pub laid_left : (blocks : ℕ) (r : CallLog) → length r.start.items ≡ 4096 * blocks → (k block : ℕ) (bytes : List ℕ) → length bytes ≡ 4096 → AreBytes bytes → IsUnsyncedOf r k block → (c : List ℕ) → MayLeaveOf r k c → MayLeaveOf r k (overwritten (4096 * block) bytes c)
laid_left blocks r size = leaves_laid blocks r.start.items (changes_of r) (first_image blocks r size) (all_safe blocks r size)
