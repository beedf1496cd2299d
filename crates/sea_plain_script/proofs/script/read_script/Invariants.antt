use Rattle.std.proofs.Common.{◌≡◌, ◌+◌, ◌≤◌, length, take, drop}
use Rattle.sea_plain_script.specs.ScriptReading.{left}
use Rattle.sea_plain_script.specs.Script.{Ask, lines}
use Rattle.sea_plain_script.proofs.script.read_script.Given as goal

abbrev pub invariant-loop-line : goal.invariant-loop-line
invariant-loop-line l = record {
  counted : l.number + length (left l.lines) ≡ length (lines l.input);
  left_is : left l.lines ≡ drop l.number (lines l.input);
  asked : Ask (take l.number (lines l.input)) l.plan;
  few : length l.plan ≤ 10000;
}

abbrev pub decreases-loop-line : goal.decreases-loop-line
decreases-loop-line l = length (left l.lines)
