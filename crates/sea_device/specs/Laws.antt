-- What the laws of a device need of the one that tells all.
use Rattle.std.specs.Prelude.{◌≡◌, ℕ, ◌+◌, ◌-◌, ◌*◌, ◌≤◌, List, length, slice_index_or, Some}
use Rattle.std.proofs.Common.{drop, subst, arith}
use Rattle.std.proofs.lemmas.List.{length-take, length-drop}
use Rattle.sea_device.specs.Device.{IsImage}
use Rattle.sea_device.specs.Images.{AreBytes, AreBytes-take, AreBytes-drop, IsSafe, bytes_image, leaves_image, leaves_now}
use Rattle.sea_device.specs.declared.call_log.Call.{Call}
use Rattle.sea_device.specs.declared.call_log.Call.TheVariants.{Write, Sync}
use Rattle.sea_device.specs.declared.call_log.CallLog.{CallLog}
use Rattle.sea_device.specs.CallLog.{change, end_of, end_in}
use Rattle.sea_device.specs.Past.{now_of, changes_of, bytes_of, MayLeaveOf, LeftSinceOf}

safe_call : (size : ℕ) (written : List ℕ) (call : Call) → end_of call ≤ size
    → end_in call ≤ length written → AreBytes written → IsSafe size (change written call)
safe_call size written (Write at from len) on_device in_written fits =
    let part = drop from written in (
      omega (arith, length-take (from + len - from) part, length-drop from written),
      AreBytes-take (from + len - from) part (AreBytes-drop from written fits),
    )
safe_call size written Sync on_device in_written fits = tt

-- a log begins with a whole image, and all its writes lie within it
pub first_image : (blocks : ℕ) (r : CallLog) → length r.start.items ≡ 4096 * blocks
    → IsImage blocks r.start.items
first_image blocks r size = record { size = size; fits = r.start_fits }

pub all_safe : (blocks : ℕ) (r : CallLog) → length r.start.items ≡ 4096 * blocks → (k : ℕ)
    → IsSafe (4096 * blocks) (changes_of r k)
all_safe blocks r size k =
    let on_device = r.on_device k in
    safe_call (4096 * blocks) r.written.items (slice_index_or r.calls.items k Sync) (omega arith)
    (r.in_written k) r.written_fits

pub image_of : (blocks : ℕ) (r : CallLog) → length r.start.items ≡ 4096 * blocks → (k : ℕ)
    → IsImage blocks (bytes_of r k)
image_of blocks r size =
    bytes_image blocks r.start.items (changes_of r) (first_image blocks r size)
    (all_safe blocks r size)

pub left_image : (blocks : ℕ) (r : CallLog) → length r.start.items ≡ 4096 * blocks
    → (k : ℕ) (c : List ℕ) → MayLeaveOf r k c → IsImage blocks c
left_image blocks r size =
    leaves_image blocks r.start.items (changes_of r) (first_image blocks r size)
    (all_safe blocks r size)

pub left_now : (blocks : ℕ) (r : CallLog) → length r.start.items ≡ 4096 * blocks → (k : ℕ)
    → MayLeaveOf r k (bytes_of r k)
left_now blocks r size =
    leaves_now blocks r.start.items (changes_of r) (first_image blocks r size)
    (all_safe blocks r size)

-- the laws themselves
pub whole_law : (blocks : ℕ) (r : CallLog) (bytes b : List ℕ)
    → length r.start.items ≡ 4096 * blocks → bytes ≡ bytes_of r (now_of r) → Some bytes ≡ Some b
    → IsImage blocks b
whole_law blocks r bytes b size now is =
    let same : bytes_of r (now_of r) ≡ b = cc in
    subst (IsImage blocks) same (image_of blocks r size (now_of r))

pub now_law : (blocks : ℕ) (r : CallLog) (bytes b : List ℕ) → length r.start.items ≡ 4096 * blocks
    → bytes ≡ bytes_of r (now_of r) → Some bytes ≡ Some b → MayLeaveOf r (now_of r) b
now_law blocks r bytes b size now is =
    let same : bytes_of r (now_of r) ≡ b = cc in
    subst (MayLeaveOf r (now_of r)) same (left_now blocks r size (now_of r))

pub counts_law : (r : CallLog) (t : ℕ) (c : List ℕ) → t ≤ now_of r → MayLeaveOf r (now_of r) c
    → LeftSinceOf r t c
counts_law r t c le left = (now_of r, le, omega arith, left)

pub only_law : (r : CallLog) (c : List ℕ) → LeftSinceOf r (now_of r) c → MayLeaveOf r (now_of r) c
only_law r c left =
    let here : left.0 ≡ now_of r = omega arith in
    let P : ℕ → Type 0 = λ k. MayLeaveOf r k c in subst P here left.3
