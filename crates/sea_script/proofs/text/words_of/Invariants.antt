use Rattle.std.proofs.Common.{◌≡◌, ◌++◌, length}
use Rattle.sea_script.specs.Reading.{left, seen}
use Rattle.sea_script.specs.Script.{words}
use Rattle.sea_script.proofs.text.words_of.Given as goal

abbrev pub invariant-loop-word : goal.invariant-loop-word
invariant-loop-word l = words l.line ≡ seen l.all.items ++ left l.parts

abbrev pub decreases-loop-word : goal.decreases-loop-word
decreases-loop-word l = length (left l.parts)
