use Rattle.std.proofs.Common.{take}
use Rattle.sea_script.specs.Reading.{seen}
use Rattle.sea_script.specs.Script.{OneByOne, StandsFor}
use Rattle.sea_script.proofs.event.events.Given as goal

abbrev pub invariant-loop-word : goal.invariant-loop-word
invariant-loop-word l = OneByOne StandsFor (seen (take l.word-index l.words)) l.events
