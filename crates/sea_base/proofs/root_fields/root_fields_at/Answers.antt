use Rattle.std.proofs.Common.{◌≡◌, ◌+◌, ◌∙◌, List, ℕ, length, replicate, arith, ap, subst, sym, refl}
use Rattle.std.specs.Prelude.{slice_range}
use Rattle.std.proofs.lemmas.Bool.{false≢true}
use Rattle.sea_base.proofs.Slices.{length-slice, zeros_long}
use Rattle.sea_base.specs.RootFields.{IsRoot, IsTail, root_bytes}
use Rattle.sea_base.specs.declared.place.Root.{Root}
use Rattle.sea_base.specs.declared.place.Tail.{Tail}
use Rattle.sea_base.proofs.RootFields.{RootFit, roots_read, zeros_between, same_fields, root_fit}
use Rattle.sea_base.proofs.root_fields.root_fields_at.Goals as goal
use Rattle.sea_base.proofs.root_fields.root_fields_at.Goals.{else-is_zero-via-then-is_zero+then-is_tail+else-is_root, else-is_zero-via-then-is_zero+else-is_tail, else-is_zero-via-else-is_zero}

four_zeros : (xs : List ℕ) → length xs ≡ 4 → xs ≡ replicate (length xs) 0 → xs ≡ replicate 4 0
four_zeros xs len e = e ∙ ap (λ (n : ℕ). replicate n 0) len

pub returns-then-is_root : goal.returns-then-is_root
returns-then-is_root c =
    let fields = slice_range c.args.bytes.now c.args.at (c.args.at + 56) in
    let tail : Tail = record { seq = c.u64_at.result; place = record { 0 = c.u32_at.result } } in
    let root : Root = record { lba = c.proot_at.result; owners = c.proot_at-2.result; next = record { 0 = c.u64_at-2.result } } in
    let len : length fields ≡ 56 = length-slice c.args.bytes.now c.args.at (c.args.at + 56) (omega arith) c.requires ∙ omega arith in
    let zero = four_zeros (slice_range fields 12 16) (length-slice fields 12 16 (omega arith) (omega arith)) (c.if-is_zero.ensures.0 refl) in
    record {
      is_tail = c.if-is_tail.ensures.0 refl;
      is_root = c.if-is_root.ensures.0 refl;
      spelled = roots_read fields tail root len c.u64_at.ensures.spelled c.u32_at.ensures.spelled zero c.proot_at.ensures.spelled c.proot_at-2.ensures.spelled c.u64_at-2.ensures.spelled;
    }

pub returns-else-is_zero : goal.returns-else-is_zero
returns-else-is_zero c = λ tail root found.
    let fields = slice_range c.args.bytes.now c.args.at (c.args.at + 56) in
    let read_tail : Tail = record { seq = c.u64_at.result; place = record { 0 = c.u32_at.result } } in
    let read_root : Root = record { lba = c.proot_at.result; owners = c.proot_at-2.result; next = record { 0 = c.u64_at-2.result } } in
    let len : length fields ≡ 56 = length-slice c.args.bytes.now c.args.at (c.args.at + 56) (omega arith) c.requires ∙ omega arith in
    let zero = zeros_between fields tail root found.spelled in
    let spelled = roots_read fields read_tail read_root len c.u64_at.ensures.spelled c.u32_at.ensures.spelled zero c.proot_at.ensures.spelled c.proot_at-2.ensures.spelled c.u64_at-2.ensures.spelled in
    let fit : RootFit read_tail read_root = record {
      seq = omega arith;
      place = omega arith;
      lba = record { block = c.proot_at.ensures.block; height = c.proot_at.ensures.height; sum = c.proot_at.ensures.sum };
      owners = record { block = c.proot_at-2.ensures.block; height = c.proot_at-2.ensures.height; sum = c.proot_at-2.ensures.sum };
      next = omega arith;
    } in
    let same = same_fields fields tail read_tail root read_root (root_fit tail root found.is_tail found.is_root) fit found.spelled spelled in
    elim c.else-is_zero.branch [
      | else-is_zero-via-then-is_zero+then-is_tail+else-is_root w ↦ false≢true (w.if-is_root.ensures.1 (subst IsRoot same.1 found.is_root))
      | else-is_zero-via-then-is_zero+else-is_tail w ↦ false≢true (w.if-is_tail.ensures.1 (subst IsTail same.0 found.is_tail))
      | else-is_zero-via-else-is_zero w ↦ false≢true (w.if-is_zero.ensures.1 (zeros_long (slice_range fields 12 16) 4 zero))
    ]
