use Rattle.std.proofs.Common.{◌≡◌, ◌++◌, drop, length}
use Rattle.std.specs.Prelude.{map}
use Rattle.std.specs.List.{AllByRecursion}
use Rattle.sea_script.specs.Argument.{IsArgument, argument_text, kinds}
use Rattle.sea_script.specs.Reading.{seen}
use Rattle.sea_script.specs.Table.{kinds_for}
use Rattle.sea_script.proofs.argument.Arguments.read.Given as goal

abbrev pub invariant-loop-index : goal.invariant-loop-index
invariant-loop-index l = record {
  good : AllByRecursion IsArgument l.arguments.items;
  kinds : kinds_for l.fn.row.1 (length (seen l.words)) ≡ kinds l.arguments.items ++ drop l.index (kinds_for l.fn.row.1 (length (seen l.words)));
  words : seen l.words ≡ map argument_text l.arguments.items ++ drop l.index (seen l.words);
}
