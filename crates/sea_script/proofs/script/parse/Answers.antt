use Rattle.std.proofs.Common.{◌≡◌, ◌+◌, length, ap, sym, ◌∙◌, arith}
use Rattle.sea_script.specs.Reading.{left}
use Rattle.sea_script.specs.ReadingLines.{fault_at}
use Rattle.sea_script.specs.Script.{IsScript, lines}
use Rattle.sea_script.proofs.Scripts.{fault_of_line, lines_few, next_line, one_script, only_memory, whole_script}
use Rattle.sea_script.proofs.script.parse.Goals as goal

pub overflow_add-number : goal.overflow_add-number
overflow_add-number c = omega (arith, c.loop-line.invariant.counted, ap length c.in-Some.ensures.steps, lines_few c.args.input.now)

pub returns-in-Err-clause-refused : goal.returns-in-Err-clause-refused
returns-in-Err-clause-refused c =
    rw c.at_line.ensures
    (fault_of_line c.args.scheduled c.args.input.now c.loop-line.number c.in-Some.line.now (left c.next.new.self) c.loop-line.draft c.add_line.new.self c.in-Err.fault c.if-input-gt-INPUT_BYTES.false (sym c.loop-line.invariant.left_is ∙ c.in-Some.ensures.steps) c.loop-line.invariant.give c.in-Err.ensures)

pub returns-in-Err-clause-only : goal.returns-in-Err-clause-only
returns-in-Err-clause-only c =
    let refusal = fault_of_line c.args.scheduled c.args.input.now c.loop-line.number c.in-Some.line.now (left c.next.new.self) c.loop-line.draft c.add_line.new.self c.in-Err.fault c.if-input-gt-INPUT_BYTES.false (sym c.loop-line.invariant.left_is ∙ c.in-Some.ensures.steps) c.loop-line.invariant.give c.in-Err.ensures in
    λ script is. c.at_line.ensures ∙ only_memory c.args.scheduled c.args.input.now (fault_at (c.loop-line.number + 1) c.in-Err.fault) refusal script is

pub loop-line-preserved : goal.loop-line-preserved
loop-line-preserved c =
    let stepped = c.in-Some.ensures.steps in
    let next = next_line c.args.scheduled (lines c.args.input.now) c.loop-line.number c.in-Some.line.now (left c.next.new.self) c.loop-line.draft c.add_line.new.self (sym c.loop-line.invariant.left_is ∙ stepped) c.loop-line.invariant.give c.in_default-add_line.ensures in
    record {
      counted = omega (arith, c.loop-line.invariant.counted, ap length stepped);
      left_is = next.0;
      give = next.1;
    }

pub returns-in-Ok-clause-only : goal.returns-in-Ok-clause-only
returns-in-Ok-clause-only c =
    let all : c.loop-line.number ≡ length (lines c.args.input.now) = omega (arith, c.loop-line.invariant.counted, ap length c.in_default.ensures.steps.0) in
    let is : IsScript c.args.scheduled c.args.input.now c.in-Ok.script = whole_script c.args.scheduled c.args.input.now c.loop-line.number c.loop-line.draft c.in-Ok.script c.if-input-gt-INPUT_BYTES.false all c.loop-line.invariant.give c.in-Ok.ensures.0 c.in-Ok.ensures.1 in
    λ script other. one_script c.args.scheduled c.args.input.now c.in-Ok.script script is other
