use Rattle.std.proofs.Common.{◌≡◌, ◌+◌, ◌-◌, ◌++◌, ℕ, List, length, arith, ap, sym, refl, ◌∙◌}
use Rattle.std.proofs.lemmas.Bool.{false≢true}
use Rattle.std.proofs.lemmas.List.{take_rest}
use Rattle.sea_base.specs.Field.{big_endian}
use Rattle.sea_base.proofs.Slices.{length-slice}
use Rattle.sea_record.specs.declared.record.Change.{Change}
use Rattle.sea_record.specs.Entries.{change_bytes}
use Rattle.sea_record.proofs.EntryBytes.{change_fields, change_read, length-change_bytes, front_fits}
use Rattle.sea_record.proofs.entry.ChangeEntry.read.Goals as goal
use Rattle.sea_record.proofs.entry.ChangeEntry.read.Goals.{then-bytes-end-via-then-bytes-end, then-bytes-end-via-else-bytes-end+then-not-is_splice}

pub returns-then-bytes-lt-CHANGE_BYTES : goal.returns-then-bytes-lt-CHANGE_BYTES
returns-then-bytes-lt-CHANGE_BYTES c = λ x rest fits e. omega (arith, front_fits c.args.bytes.now (change_bytes x) rest e, length-change_bytes x)

pub returns-then-bytes-end : goal.returns-then-bytes-end
returns-then-bytes-end c = λ x rest fits e.
    let fields = change_fields c.args.bytes.now x rest e in
    let cut = c.u16_at-cut.ensures.only x.delta.cut (omega (arith, fits.splice.0)) fields.cut in
    let gone = c.u16_at-gone.ensures.only x.delta.gone (omega (arith, fits.splice.0)) fields.gone in
    let count = c.u16_at-count.ensures.only (length x.delta.put) (omega (arith, fits.splice.1)) fields.count in
    elim c.then-bytes-end.branch [
      | then-bytes-end-via-then-bytes-end w ↦ omega (arith, fields.long, count, w.if-bytes-end.true)
      | then-bytes-end-via-else-bytes-end+then-not-is_splice w ↦ false≢true (w.if-not-is_splice.ensures.1 (omega (arith, cut, gone, fits.splice.0), omega (arith, cut, count, fits.splice.1)))
    ]

pub returns : goal.returns
returns c =
    let bytes = c.args.bytes.now in
    let end = 14 + c.u16_at-count.result in
    let change : Change = record { at = record { 0 = c.u64_at.result }; delta = record { cut = c.u16_at-cut.result; gone = c.u16_at-gone.result; put = c.in_ok-put.put } } in
    let len : length c.in_ok-put.put ≡ end - 14 = ap length c.in_ok-put.ensures ∙ length-slice bytes 14 end (omega arith) (omega (arith, c.if-bytes-end.false)) in
    let splice = c.if-not-is_splice.ensures.0 refl in
    let count = c.u16_at-count.ensures.spelled ∙ ap (big_endian 2) (omega arith) in
    let whole = change_read bytes change end (omega arith) (omega (arith, c.if-bytes-end.false)) c.u64_at.ensures.spelled c.u16_at-cut.ensures.spelled c.u16_at-gone.ensures.spelled count c.in_ok-put.ensures in (
      record { at = omega arith; splice = (splice.0, omega (arith, splice.1, len)) },
      whole ∙ ap (λ (r : List ℕ). change_bytes change ++ r) (sym (take_rest bytes end)),
    )
