use Rattle.std.proofs.Common.{◌≡◌, ◌+◌, ◌≤◌, ℕ, refl, sym, ap, ◌∙◌, subst, arith, rules, Option, None}
use Rattle.sea_trail.specs.Trail.{segment_end}
use Rattle.sea_journal.specs.Journal.{HasLog}
use Rattle.sea_journal.specs.Log.{Log}
use Rattle.sea_journal.specs.Room.{Takes}
use Rattle.sea_journal.specs.Rolls.{seq_of}
use Rattle.sea_journal.specs.declared.queue.Queue.{Queue}
use Rattle.sea_journal.specs.declared.roll.Roll.{Roll}
use Rattle.sea_journal.proofs.Journals.{OnErr-here, OnOk-here, has_as_before}
use Rattle.sea_journal.proofs.Rolling.{comes_by, comes_from, comes_unfinished}
use Rattle.sea_journal.proofs.Rooms.{none_empty, takes_some, whole_rest}
use Rattle.sea_journal.proofs.journal.Journal.reserve.Goals as goal

pub returns-then-is_err-clause-log : goal.returns-then-is_err-clause-log
returns-then-is_err-clause-log g c = λ log has.
    let j = c.args.self.now in
    let still = OnErr-here c.finish.result (sym c.is_err.ensures.value ∙ c.if-is_err.true) (c.finish.ensures.err log has) in
    (log, comes_unfinished log j c.finish.new.self has still (λ none. (c.finish.ensures.idle none).1.device) c.finish.ensures.changes (g.met.D.Device.only_now j.device))

pub returns-then-not-takes-clause-log : goal.returns-then-not-takes-clause-log
returns-then-not-takes-clause-log g c = λ log has.
    let j = c.args.self.now in
    let made = OnOk-here c.finish.result (sym c.is_err.ensures.value ∙ c.if-is_err.false) (c.finish.ensures.ok log has) in
    (made.0, comes_by log made.0 j c.finish.new.self has made.1 made.2 (λ none. (c.finish.ensures.idle none).1.device) c.finish.ensures.changes (g.met.D.Device.only_now j.device))

pub returns-then-need-rest-clause-log : goal.returns-then-need-rest-clause-log
returns-then-need-rest-clause-log g c = λ log has.
    let j = c.args.self.now in
    let made = OnOk-here c.finish.result (sym c.is_err.ensures.value ∙ c.if-is_err.false) (c.finish.ensures.ok log has) in
    (made.0, comes_by log made.0 j c.finish.new.self has made.1 made.2 (λ none. (c.finish.ensures.idle none).1.device) c.finish.ensures.changes (g.met.D.Device.only_now j.device))

pub returns-in_default-clause-log : goal.returns-in_default-clause-log
returns-in_default-clause-log g c = λ log has.
    let j = c.args.self.now in
    let made = OnOk-here c.finish.result (sym c.is_err.ensures.value ∙ c.if-is_err.false) (c.finish.ensures.ok log has) in
    (made.0, comes_by log made.0 j c.finish.new.self has made.1 made.2 (λ none. (c.finish.ensures.idle none).1.device) c.finish.ensures.changes (g.met.D.Device.only_now j.device))

pub returns-in_default-clause-fault : goal.returns-in_default-clause-fault
returns-in_default-clause-fault g c =
    let takes : Takes c.args.who c.args.need c.rest-rest.result c.empty-empty.result = search rules in
    let some : 1 ≤ c.empty-empty.result = takes_some c.args.who c.args.need c.rest-rest.result c.empty-empty.result takes c.if-need-rest.false in
    absurd (omega (arith, c.empty-empty.ensures, none_empty c.finish.new.self.table c.in_default.ensures.none))

pub returns-in_err-roll-clause-log : goal.returns-in_err-roll-clause-log
returns-in_err-roll-clause-log g c = λ log has.
    let j = c.args.self.now in
    let opened = OnOk-here c.finish.result (sym c.is_err.ensures.value ∙ c.if-is_err.false) c.finish.ensures.opened in
    let none : j.roll ≡ None = whole_rest j.roll c.finish.new.self.queue c.rest-rest.result c.args.need opened.1 c.rest-rest.ensures c.if-need-rest.false c.requires.need in
    let same = (c.finish.ensures.idle none).1 in
    let there = c.roll.ensures.log log (has_as_before log j c.finish.new.self has same.queue same.device same.table same.roll) in
    (there.0, comes_from log there.0 j c.finish.new.self c.roll.new.self same.device same.table there.1)

pub returns-clause-log : goal.returns-clause-log
returns-clause-log g c = λ log has.
    let j = c.args.self.now in
    let opened = OnOk-here c.finish.result (sym c.is_err.ensures.value ∙ c.if-is_err.false) c.finish.ensures.opened in
    let none : j.roll ≡ None = whole_rest j.roll c.finish.new.self.queue c.rest-rest.result c.args.need opened.1 c.rest-rest.ensures c.if-need-rest.false c.requires.need in
    let same = (c.finish.ensures.idle none).1 in
    let there = c.roll.ensures.log log (has_as_before log j c.finish.new.self has same.queue same.device same.table same.roll) in
    (there.0, comes_from log there.0 j c.finish.new.self c.roll.new.self same.device same.table there.1)

pub roll-requires-clause-number : goal.roll-requires-clause-number
roll-requires-clause-number g c =
    let j = c.args.self.now in
    let opened = OnOk-here c.finish.result (sym c.is_err.ensures.value ∙ c.if-is_err.false) c.finish.ensures.opened in
    let none : j.roll ≡ None = whole_rest j.roll c.finish.new.self.queue c.rest-rest.result c.args.need opened.1 c.rest-rest.ensures c.if-need-rest.false c.requires.need in
    let same = (c.finish.ensures.idle none).1 in
    omega (arith, c.requires.number, ap (λ (o : Option Roll). seq_of o j.queue) none, ap (λ (q : Queue). q.seq) same.queue)
