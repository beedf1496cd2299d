use Rattle.std.proofs.Common.{◌≡◌, ◌≤◌, ℕ, length, sym, ap, ◌∙◌, subst, arith}
use Rattle.std.specs.Prelude.{IfSome}
use Rattle.sea_journal.specs.Opening.{HasSpace}
use Rattle.sea_journal.proofs.Calls.{IfSome-from}
use Rattle.sea_engine.specs.Mounting.{HasNoSpace, IsUnopened}
use Rattle.sea_engine.specs.Reading.{IsQuiet}
use Rattle.sea_engine.specs.Replay.{last_number}
use Rattle.sea_engine.proofs.Mounts.{no_space, not_begun}
use Rattle.sea_engine.proofs.Starts.{past_first, sound_first}
use Rattle.sea_engine.proofs.engine.Engine.open.Goals as goal

pub returns-in-Ok-resume-clause-sound : goal.returns-in-Ok-resume-clause-sound
returns-in-Ok-resume-clause-sound g c =
    let records = c.in-Ok.found.0.records in
    let state = g.T.Transactions.state c.in-Ok.found.1 in
    let quiet : IsQuiet (length c.args.plan) records state = subst (λ (n : ℕ). IsQuiet n records state) c.clients.ensures c.in-Ok.ensures.quiet in
    let end : c.last_of-last.result.0 ≡ last_number 0 records = c.last_of-last.ensures ∙ ap (last_number 0) c.items.ensures in
    let upto = quiet.last in
    let last : state.last.0 ≤ c.last_of-last.result.0 = omega (arith, end, upto) in
    sound_first g.T.Transactions _ (c.in-Ok-first_clients.ensures.states state.transaction) c.in-Ok-first_clients.ensures.history records quiet last c.requires.served

pub returns-in-Ok-resume-clause-past : goal.returns-in-Ok-resume-clause-past
returns-in-Ok-resume-clause-past g c = λ image told.
    let both = c.in-Ok.ensures.opens image told in
    past_first g.D.Device g.T.Transactions _ image c.in-Ok.found.0 c.in-Ok.found.2 c.in-Ok-first_clients.ensures.history both.0 (c.in-Ok-resume.ensures.begun image both.1)

pub returns-in-Err-resume-clause-fault : goal.returns-in-Err-resume-clause-fault
returns-in-Err-resume-clause-fault g c =
    let lays = g.T.Transactions.lays in
    let told = g.D.Device.contents c.args.device in
    let before = g.D.Device.faults c.args.device in
    let now = g.D.Device.faults c.in-Err-resume.device in
    let space = HasSpace c.in-Ok.found.0 c.in-Ok.found.2 in
    let none : (space → ⊥) → IfSome told HasNoSpace = λ no. IfSome-from told HasNoSpace (λ image is.
    let both = c.in-Ok.ensures.opens image is in
    no_space image c.in-Ok.found.0 c.in-Ok.found.2 both.0.is_trail c.in-Ok.ensures.can.1 both.2 no) in
    subst (IsUnopened (IfSome told HasNoSpace) lays told before now) (sym c.into.ensures)
    (not_begun (IfSome told HasNoSpace) lays told before now (g.D.Device.faults c.found.new.device) space c.in-Err-resume.fault c.in-Ok.ensures.later none c.in-Err-resume.ensures.cause)
