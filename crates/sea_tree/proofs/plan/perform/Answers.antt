use Rattle.sea_base.proofs.Calling.{call_then}
use Rattle.std.proofs.Common.{◌∙◌, ◌+◌, Option, OnOk, sym, subst}
use Rattle.std.proofs.lemmas.Result.{on_ok_weaker}
use Rattle.sea_tree.specs.declared.splice.Splice.{Splice}
use Rattle.sea_tree.specs.Does.{Does, ChangesAtMost}
use Rattle.sea_tree.specs.Plan.{changes_of, count_filled, spliced_before, one_filled}
use Rattle.sea_tree.proofs.Performing.{still_makes, splice_last, splice_few, once_some, once_none, written_some, written_none}
use Rattle.sea_tree.proofs.plan.perform.Goals as goal

pub amend-requires-clause-splice : goal.amend-requires-clause-splice
amend-requires-clause-splice g c = still_makes c.args.plan.writes c.in-Some.field-0 (rw c.in-Some.is at c.requires.spliced) c.in_ok-write_all.ensures.done

pub returns-in-Some-clause-done : goal.returns-in-Some-clause-done
returns-in-Some-clause-done g c =
    subst (λ (s : Option Splice). OnOk c.amend.result (Does (spliced_before s (changes_of c.args.plan.writes)) (g.S.Space.seen c.args.space.now) (g.S.Space.seen c.amend.new.self))) (sym c.in-Some.is)
    (on_ok_weaker c.amend.result (λ a. splice_last c.args.plan.writes c.in-Some.field-0 c.in_ok-write_all.ensures.done a.writes) c.amend.ensures.amended)

pub returns-in-Some-clause-few : goal.returns-in-Some-clause-few
returns-in-Some-clause-few g c =
    subst (λ (s : Option Splice). OnOk c.amend.result (ChangesAtMost (count_filled c.args.plan.writes + one_filled s) (g.S.Space.seen c.args.space.now) (g.S.Space.seen c.amend.new.self))) (sym c.in-Some.is)
    (on_ok_weaker c.amend.result (λ a. splice_few (count_filled c.args.plan.writes) c.in-Some.field-0 c.in_ok-write_all.ensures.few a.writes) c.amend.ensures.amended)

pub returns-in-Some-clause-once : goal.returns-in-Some-clause-once
returns-in-Some-clause-once g c =
    on_ok_weaker c.amend.result (λ a. once_some c.args.plan.writes c.in-Some.field-0 (rw c.in-Some.is at c.requires.spliced) c.in_ok-write_all.ensures.done c.in_ok-write_all.ensures.placed a) c.amend.ensures.amended

pub returns-in-None-clause-once : goal.returns-in-None-clause-once
returns-in-None-clause-once g c = once_none (changes_of c.args.plan.writes) c.in_ok-write_all.ensures.done c.in_ok-write_all.ensures.placed

pub returns-in-Some-clause-unread : goal.returns-in-Some-clause-unread
returns-in-Some-clause-unread g c = on_ok_weaker c.amend.result (λ a q. a.writes.reads q ∙ c.in_ok-write_all.ensures.unread q) c.amend.ensures.amended

pub returns-in-Some-clause-call : goal.returns-in-Some-clause-call
returns-in-Some-clause-call g c = call_then g.S.Space g.met.S.Space.frame c.in_ok-write_all.ensures.call c.amend.ensures.call

pub returns-in-Some-clause-written : goal.returns-in-Some-clause-written
returns-in-Some-clause-written g c =
    on_ok_weaker c.amend.result (λ a. written_some c.args.plan c.in-Some.field-0 c.in-Some.is (rw c.in-Some.is at c.requires.spliced) c.in_ok-write_all.ensures.done c.in_ok-write_all.ensures.placed a) c.amend.ensures.amended

pub returns-in-None-clause-written : goal.returns-in-None-clause-written
returns-in-None-clause-written g c = written_none c.args.plan c.in-None.is c.in_ok-write_all.ensures.placed
