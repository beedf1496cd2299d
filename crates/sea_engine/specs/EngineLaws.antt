-- What a crash leaves of each engine.
use Rattle.std.specs.Prelude.{ℕ, List}
use Rattle.sea_device.specs.declared.device.Device.{Ghosts as Devices}
use Rattle.sea_journal.specs.Log.{Log, IsClear}
use Rattle.sea_object.specs.Objects.{ObjectMap}
use Rattle.sea_transactions.specs.declared.transactions.Transactions.{Ghosts}
use Rattle.sea_engine.specs.Engine.{HasPast, OpensToPrefix, turns_of}
use Rattle.sea_engine.specs.declared.engine.Engine.{Engine}

-- Each clear image that a crash may leave now opens to the objects after a prefix of the history,
-- with all that is acknowledged.
abbrev pub LeavesPrefix : {D T : Type 0} → Devices D → Ghosts T → Type 0
LeavesPrefix {D} {T} d t = (engine : Engine D T d) (found : ObjectMap) (log : Log) (image : List ℕ)
    → HasPast t found log engine → d.may_leave engine.journal.device image → IsClear log image
    → OpensToPrefix t.lays (turns_of t engine) found image

-- so does the image that the last good sync of records left
abbrev pub AnchorOpens : {D T : Type 0} → Devices D → Ghosts T → Type 0
AnchorOpens {D} {T} d t = (engine : Engine D T d) (found : ObjectMap) (log : Log)
    → HasPast t found log engine → OpensToPrefix t.lays (turns_of t engine) found log.anchor
