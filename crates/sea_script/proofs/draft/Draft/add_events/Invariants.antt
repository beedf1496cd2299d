use Rattle.std.proofs.Common.{◌≡◌, ◌++◌, take}
use Rattle.sea_script.proofs.draft.Draft.add_events.Given as goal

abbrev pub invariant-loop-event : goal.invariant-loop-event
invariant-loop-event l = l.all ≡ l.initial.all ++ take l.event-index l.event-items
