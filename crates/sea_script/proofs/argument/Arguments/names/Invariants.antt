use Rattle.std.proofs.Common.{◌≡◌, ◌++◌, length}
use Rattle.std.specs.Prelude.{map, replicate}
use Rattle.sea_script.specs.declared.argument.Argument.TheVariants.{Name}
use Rattle.sea_script.specs.declared.table.Kind.TheVariants.{Name as NameKind}
use Rattle.sea_script.specs.Argument.{kinds}
use Rattle.sea_script.proofs.argument.Arguments.names.Given as goal

abbrev pub invariant-loop-names : goal.invariant-loop-names
invariant-loop-names l = record {
  names : kinds l.self ≡ replicate (length l.self) NameKind;
  read : l.fn.self ≡ map Name l.names.items ++ l.self;
}

abbrev pub decreases-loop-names : goal.decreases-loop-names
decreases-loop-names l = length l.self
