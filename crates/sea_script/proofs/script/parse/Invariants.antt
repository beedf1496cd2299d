use Rattle.std.proofs.Common.{◌≡◌, ◌+◌, length, take, drop}
use Rattle.sea_script.specs.Reading.{left}
use Rattle.sea_script.specs.Script.{AllGive, lines, nothing}
use Rattle.sea_script.proofs.script.parse.Given as goal

abbrev pub invariant-loop-line : goal.invariant-loop-line
invariant-loop-line l = record {
  counted : l.number + length (left l.lines) ≡ length (lines l.input);
  left_is : left l.lines ≡ drop l.number (lines l.input);
  give : AllGive l.scheduled (take l.number (lines l.input)) nothing l.draft;
}

abbrev pub decreases-loop-line : goal.decreases-loop-line
decreases-loop-line l = length (left l.lines)
