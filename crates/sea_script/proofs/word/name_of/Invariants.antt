use Rattle.std.proofs.Common.{◌≡◌, ◌++◌, length}
use Rattle.std.specs.List.{flat_map}
use Rattle.sea_script.specs.Word.{AreBytes, byte_text}
use Rattle.sea_script.proofs.word.name_of.Given as goal

abbrev pub invariant-loop-rest : goal.invariant-loop-rest
invariant-loop-rest l = record {
  bytes : AreBytes l.bytes.items;
  read : l.word ≡ flat_map byte_text l.bytes.items ++ l.rest;
}

abbrev pub decreases-loop-rest : goal.decreases-loop-rest
decreases-loop-rest l = length l.rest
