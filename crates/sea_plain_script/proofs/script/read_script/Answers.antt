use Rattle.std.proofs.Common.{◌+◌, length, ap, sym, ◌∙◌, arith}
use Rattle.sea_plain_script.proofs.Scripts.{all_read, lines_few, next_line, fault_of_line, only_memory}
use Rattle.sea_plain_script.specs.ScriptReading.{fault_at, left}
use Rattle.sea_plain_script.specs.Script.{lines}
use Rattle.sea_plain_script.proofs.script.read_script.Goals as goal

pub overflow_add-number : goal.overflow_add-number
overflow_add-number c = omega (arith, c.loop-line.invariant.counted, ap length c.in-Some.ensures.steps, lines_few c.args.input.now)

pub returns-in-Err-clause-refused : goal.returns-in-Err-clause-refused
returns-in-Err-clause-refused c =
    rw c.at_line-in-Err.ensures (fault_of_line c.args.input.now c.loop-line.number c.in-Some.line.now (left c.next.new.self) c.loop-line.plan c.add_line.new.plan c.in-Err.fault c.if-input-gt-INPUT_BYTES.false (sym c.loop-line.invariant.left_is ∙ c.in-Some.ensures.steps) c.loop-line.invariant.asked c.loop-line.invariant.few c.in-Err.ensures)

pub returns-in-Err-clause-only : goal.returns-in-Err-clause-only
returns-in-Err-clause-only c =
    let refusal = fault_of_line c.args.input.now c.loop-line.number c.in-Some.line.now (left c.next.new.self) c.loop-line.plan c.add_line.new.plan c.in-Err.fault c.if-input-gt-INPUT_BYTES.false (sym c.loop-line.invariant.left_is ∙ c.in-Some.ensures.steps) c.loop-line.invariant.asked c.loop-line.invariant.few c.in-Err.ensures in
    λ plan script. c.at_line-in-Err.ensures ∙ only_memory c.args.input.now (fault_at (c.loop-line.number + 1) c.in-Err.fault) refusal plan script

pub loop-line-preserved : goal.loop-line-preserved
loop-line-preserved c =
    let stepped = c.in-Some.ensures.steps in
    let next = next_line (lines c.args.input.now) c.loop-line.number c.in-Some.line.now (left c.next.new.self) c.loop-line.plan c.add_line.new.plan tt (sym c.loop-line.invariant.left_is ∙ stepped) c.loop-line.invariant.asked c.loop-line.invariant.few c.in_default-add_line.ensures in
    record {
      counted = omega (arith, c.loop-line.invariant.counted, ap length stepped);
      left_is = next.0;
      asked = next.1;
      few = next.2;
    }

pub returns-clause-only : goal.returns-clause-only
returns-clause-only c = λ plan script. all_read (lines c.args.input.now) c.loop-line.number c.loop-line.plan plan (omega (arith, c.loop-line.invariant.counted, ap length c.in_default.ensures.steps.0)) c.loop-line.invariant.asked script.asked
