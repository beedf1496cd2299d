use Rattle.std.proofs.Common.{ℕ, List, [], refl, add-one}
use Rattle.std.specs.Borrow.{Bor}
use Rattle.sea_script.proofs.Events.{event_more, events_all, has_none}
use Rattle.sea_script.proofs.event.events.Goals as goal

pub returns-in-None : goal.returns-in-None
returns-in-None c =
    let d : Bor (List ℕ) = record { ref_ptr = (0, 0); now = [] } in
    (has_none c.args.words.now c.loop-word.word-index d c.loop-word-test.true c.in-None.ensures, refl)

pub loop-word-preserved : goal.loop-word-preserved
loop-word-preserved c =
    let d : Bor (List ℕ) = record { ref_ptr = (0, 0); now = [] } in
    rw (c.in_ok-push-in-Some.ensures.ok, add-one)
    (event_more c.args.words.now c.loop-word.word-index d c.loop-word.events c.in-Some.event c.loop-word-test.true c.loop-word.invariant c.in-Some.ensures)

pub returns : goal.returns
returns c = events_all c.args.words.now c.loop-word.word-index c.loop-word.events c.loop-word-test.false c.loop-word.invariant
