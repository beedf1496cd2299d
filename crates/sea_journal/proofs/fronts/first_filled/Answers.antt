use Rattle.std.proofs.Common.{◌≡◌, ◌*◌, ◌+◌, ◌<◌, ◌↔◌, ℕ, IsTrue, List, subst, ◌∙◌, arith}
use Rattle.sea_journal.specs.Mkfs.{IsBlank}
use Rattle.sea_journal.proofs.Calls.{IfSome-from, IfSome-at}
use Rattle.sea_journal.proofs.Blanks.{BlankBefore, all_blank, least_next}
use Rattle.sea_journal.proofs.fronts.first_filled.Goals as goal

pub returns-then-not-branch-2-clause-found : goal.returns-then-not-branch-2-clause-found
returns-then-not-branch-2-clause-found g c =
    IfSome-from (g.D.Device.contents c.args.device.now) _ (λ image told.
    let s = c.loop-segment.segment in
    let within : s < c.args.segments = omega arith in
    let blank = IfSome-at (BlankBefore s) image told c.loop-segment.invariant.blank in
    let exact = IfSome-at (λ (i : List ℕ). IsTrue c.in_ok-is_blank-2.field-0 ↔ IsBlank i (1 + 2048 * s)) image (c.loop-segment.invariant.only_read.contents ∙ told) c.in_ok-is_blank-2.ensures.exact in
    least_next c.args.segments s image within blank (λ zeros. let yes : IsTrue c.in_ok-is_blank-2.field-0 = exact.1 zeros in cc))

pub returns-clause-found : goal.returns-clause-found
returns-clause-found g c =
    IfSome-from (g.D.Device.contents c.args.device.now) _ (λ image told.
    let all : c.loop-segment.segment ≡ c.args.segments = omega arith in
    all_blank c.args.segments image (subst (λ (n : ℕ). BlankBefore n image) all (IfSome-at (BlankBefore c.loop-segment.segment) image told c.loop-segment.invariant.blank)))
