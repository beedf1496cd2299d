use Rattle.std.proofs.Common.{◌≡◌, add-one}
use Rattle.sea_script.specs.Reading.{IsRow}
use Rattle.sea_script.proofs.Rows.{all_at, all_more, all_taken, no_row, other_bytes, same_bytes}
use Rattle.sea_script.proofs.table.row_in.Goals as goal

pub loop-row-preserved : goal.loop-row-preserved
loop-row-preserved c =
    rw add-one
    (all_more (λ row. c.args.word.now ≡ row.0.now → ⊥) c.args.rows.now c.loop-row.row-index no_row c.loop-row-test.true c.loop-row.invariant (other_bytes c.as_bytes.result.now c.args.word.now _ c.if-eq.ensures c.as_bytes.ensures.value))

pub returns-then-eq : goal.returns-then-eq
returns-then-eq c =
    (all_at IsRow c.args.rows.now c.loop-row.row-index no_row c.requires c.loop-row-test.true, same_bytes c.as_bytes.result.now c.args.word.now _ c.if-eq.ensures c.as_bytes.ensures.value)

pub returns : goal.returns
returns c =
    all_taken (λ row. c.args.word.now ≡ row.0.now → ⊥) c.args.rows.now c.loop-row.row-index c.loop-row-test.false c.loop-row.invariant
