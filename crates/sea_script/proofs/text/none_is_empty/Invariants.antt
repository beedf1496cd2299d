use Rattle.std.proofs.Common.{◌≤◌, length, take}
use Rattle.std.specs.List.{AllByRecursion}
use Rattle.sea_script.proofs.text.none_is_empty.Given as goal

abbrev pub invariant-loop-word : goal.invariant-loop-word
invariant-loop-word l = AllByRecursion (λ word. 1 ≤ length word.now) (take l.word-index l.of)
