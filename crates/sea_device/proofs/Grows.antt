-- A log, one change further.
use Rattle.std.proofs.Common.{◌≡◌, ◌⊎◌, ℕ, zero, suc, ◌*◌, ◌<◌, ◌≤◌, List, length, refl, sym, ◌∙◌, ap, subst, inl, inr, arith, add-one}
use Rattle.std.proofs.lemmas.Bool.{cases_lt}
use Rattle.sea_device.specs.Device.{Torn, Elapses, Follows, Reaches}
use Rattle.sea_device.specs.Moments.{Change, Wrote, Synced, bytes_after, MayLeaveAfter, bytes_at, MayLeaveAt}
use Rattle.sea_device.specs.Images.{AreBytes}
use Rattle.sea_device.specs.Laws.{left_image, left_now}
use Rattle.sea_device.specs.declared.call_log.CallLog.{CallLog}
use Rattle.sea_device.specs.Past.{now_of, changes_of, bytes_of, MayLeaveOf, LeftSinceOf, GoesOn}

-- Two histories that agree below n agree up to moment n.
abbrev Agree : ℕ → (ℕ → Change) → (ℕ → Change) → Type 0
Agree n h g = (k : ℕ) → k < n → h k ≡ g k

bytes_agree : (a b : List ℕ) (h g : ℕ → Change) (n : ℕ) → a ≡ b → Agree n h g → (k : ℕ) → k ≤ n → bytes_at a h k ≡ bytes_at b g k
bytes_agree a b h g n first same zero le = first
bytes_agree a b h g n first same (suc k) le =
    ap (λ (x : Change). bytes_after x (bytes_at a h k)) (same k (omega arith)) ∙ ap (bytes_after (g k)) (bytes_agree a b h g n first same k (omega arith))

after_agree : (x : Change) (old new : List ℕ) (P Q : List ℕ → Type 0) (c : List ℕ) → old ≡ new → ((d : List ℕ) → P d → Q d) → MayLeaveAfter x old P c → MayLeaveAfter x new Q c
after_agree (Wrote at bytes) old new P Q c same each left = (left.0, each left.0 left.1, left.2)
after_agree Synced old new P Q c same each left = left ∙ same

leave_agree : (a b : List ℕ) (h g : ℕ → Change) (n : ℕ) → a ≡ b → Agree n h g → (k : ℕ) → k ≤ n → (c : List ℕ) → MayLeaveAt a h k c → MayLeaveAt b g k c
leave_agree a b h g n first same zero le c left = left ∙ first
leave_agree a b h g n first same (suc k) le c left =
    let P : Change → Type 0 = λ x. MayLeaveAfter x (bytes_at a h k) (MayLeaveAt a h k) c in
    after_agree (g k) (bytes_at a h k) (bytes_at b g k) (MayLeaveAt a h k) (MayLeaveAt b g k) c (bytes_agree a b h g n first same k (omega arith)) (leave_agree a b h g n first same k (omega arith)) (subst P (same k (omega arith)) left)

-- up to the old moment both logs tell the same
pub same_bytes : (old new : CallLog) (x : Change) → GoesOn old new x → (k : ℕ) → k ≤ now_of old → bytes_of new k ≡ bytes_of old k
same_bytes old new x on k le =
    bytes_agree new.start.items old.start.items (changes_of new) (changes_of old) (now_of old) (ap (λ v. v.items) on.start) on.before k le

pub keeps : (old new : CallLog) (x : Change) → GoesOn old new x → (k : ℕ) → k ≤ now_of old → (c : List ℕ) → MayLeaveOf old k c → MayLeaveOf new k c
keeps old new x on k le =
    leave_agree old.start.items new.start.items (changes_of old) (changes_of new) (now_of old) (sym (ap (λ v. v.items) on.start)) (λ j lt. sym (on.before j lt)) k le

pub kept : (old new : CallLog) (x : Change) → GoesOn old new x → (k : ℕ) → k ≤ now_of old → (c : List ℕ) → MayLeaveOf new k c → MayLeaveOf old k c
kept old new x on k le =
    leave_agree new.start.items old.start.items (changes_of new) (changes_of old) (now_of old) (ap (λ v. v.items) on.start) on.before k le

-- and the new moment is the old one after the change
pub new_bytes : (old new : CallLog) (x : Change) → GoesOn old new x → bytes_of new (now_of new) ≡ bytes_after x (bytes_of old (now_of old))
new_bytes old new x on =
    let n = now_of old in
    ap (bytes_of new) (on.count ∙ add-one n) ∙ ap (λ (y : Change). bytes_after y (bytes_of new n)) on.last ∙ ap (bytes_after x) (same_bytes old new x on n (omega arith))

pub leaves_new : (old new : CallLog) (x : Change) → GoesOn old new x → (c : List ℕ) → MayLeaveAfter x (bytes_of old (now_of old)) (MayLeaveOf old (now_of old)) c → MayLeaveOf new (now_of new) c
leaves_new old new x on c left =
    let n = now_of old in
    let step = after_agree x (bytes_of old n) (bytes_of new n) (MayLeaveOf old n) (MayLeaveOf new n) c (sym (same_bytes old new x on n (omega arith))) (keeps old new x on n (omega arith)) left in
    let P : Change → Type 0 = λ y. MayLeaveAfter y (bytes_of new n) (MayLeaveOf new n) c in
    let Q : ℕ → Type 0 = λ k. MayLeaveOf new k c in
    subst Q (sym (on.count ∙ add-one n)) (subst P (sym on.last) step)

pub left_new : (old new : CallLog) (x : Change) → GoesOn old new x → (c : List ℕ) → MayLeaveOf new (now_of new) c → MayLeaveAfter x (bytes_of old (now_of old)) (MayLeaveOf old (now_of old)) c
left_new old new x on c left =
    let n = now_of old in
    let P : Change → Type 0 = λ y. MayLeaveAfter y (bytes_of new n) (MayLeaveOf new n) c in
    let Q : ℕ → Type 0 = λ k. MayLeaveOf new k c in
    after_agree x (bytes_of new n) (bytes_of old n) (MayLeaveOf new n) (MayLeaveOf old n) c (same_bytes old new x on n (omega arith)) (kept old new x on n (omega arith)) (subst P on.last (subst Q (on.count ∙ add-one n) left))

pub goes_on_elapses : (old new : CallLog) (x : Change) → GoesOn old new x → Elapses (now_of old) (now_of new) (LeftSinceOf old) (LeftSinceOf new) (MayLeaveOf new (now_of new))
goes_on_elapses old new x on =
    record {
      later = omega (arith, on.count);
      nothing_else = λ t c le since.
          elim (cases_lt (now_of old) since.0) as (λ _. LeftSinceOf old t c ⊎ MayLeaveOf new (now_of new) c) [
            | inl lt ↦ inr (let here : since.0 ≡ now_of new = omega (arith, on.count) in let Q : ℕ → Type 0 = λ k. MayLeaveOf new k c in subst Q here since.3)
            | inr ge ↦ inl (since.0, since.1, ge, kept old new x on since.0 ge c since.3)
          ];
      keeps = λ t c le past. (past.0, past.1, omega (arith, on.count), keeps old new x on past.0 past.2 c past.3);
    }

-- nothing changed
pub Torn-same : (at count : ℕ) (bytes : List ℕ) → AreBytes bytes → Torn at count bytes bytes
Torn-same at count bytes fits = record { size = refl; before = refl; after = refl; fits = fits }

pub Follows-same : (blocks at count : ℕ) (r : CallLog) → length r.start.items ≡ 4096 * blocks → Follows (Torn at count) (MayLeaveOf r (now_of r)) (MayLeaveOf r (now_of r))
Follows-same blocks at count r size c left = (c, left, Torn-same at count c (left_image blocks r size (now_of r) c left).fits)

-- a write
pub write_follows : (old new : CallLog) (at : ℕ) (bytes : List ℕ) → GoesOn old new (Wrote at bytes) → Follows (Torn at (length bytes)) (MayLeaveOf old (now_of old)) (MayLeaveOf new (now_of new))
write_follows old new at bytes on c left = left_new old new (Wrote at bytes) on c left

pub write_reaches : (old new : CallLog) (at : ℕ) (bytes : List ℕ) → GoesOn old new (Wrote at bytes) → Reaches (Torn at (length bytes)) (MayLeaveOf old (now_of old)) (MayLeaveOf new (now_of new))
write_reaches old new at bytes on c d before torn = leaves_new old new (Wrote at bytes) on c (d, before, torn)

pub write_keeps : (blocks : ℕ) (old new : CallLog) (at : ℕ) (bytes : List ℕ) → length old.start.items ≡ 4096 * blocks → GoesOn old new (Wrote at bytes) → (c : List ℕ) → MayLeaveOf old (now_of old) c → MayLeaveOf new (now_of new) c
write_keeps blocks old new at bytes size on c left =
    write_reaches old new at bytes on c c left (Torn-same at (length bytes) c (left_image blocks old size (now_of old) c left).fits)

-- a sync
pub sync_keeps : (blocks : ℕ) (old new : CallLog) → length old.start.items ≡ 4096 * blocks → GoesOn old new Synced → (c : List ℕ) → MayLeaveOf new (now_of new) c → MayLeaveOf old (now_of old) c
sync_keeps blocks old new size on c left =
    subst (MayLeaveOf old (now_of old)) (sym (left_new old new Synced on c left)) (left_now blocks old size (now_of old))
