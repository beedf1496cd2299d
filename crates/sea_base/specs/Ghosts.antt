-- The words of `Calls` at a bound `S: Space`, whose ghost members are one argument.
use Rattle.std.specs.Prelude.{Option, IsTrue}
use Rattle.sea_base.specs.declared.space.SpaceFault.{SpaceFault}
use Rattle.sea_base.specs.declared.space.Space.{Ghosts}
use Rattle.sea_base.specs.Calls.{Continues}

-- a transaction is in the space
abbrev pub IsReady : {S : Type 0} → Ghosts S → S → Type 0
IsReady g space = IsTrue (g.ready space)

-- a call of the space, or several, of which the last ended with this fault, or none
abbrev pub IsCall : {S : Type 0} → Ghosts S → S → S → Option SpaceFault → Type 0
IsCall g old new fault = Continues g.seen g.current g.faults g.tells g.ready g.keeps old new fault
