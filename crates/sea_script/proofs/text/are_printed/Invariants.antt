use Rattle.std.proofs.Common.{take}
use Rattle.std.specs.List.{AllByRecursion}
use Rattle.sea_script.specs.Script.{IsPrinted}
use Rattle.sea_script.proofs.text.are_printed.Given as goal

abbrev pub invariant-loop-byte : goal.invariant-loop-byte
invariant-loop-byte l = AllByRecursion IsPrinted (take l.byte-index l.line)
