use Rattle.std.proofs.Common.{◌≡◌, ap, sym, ◌∙◌, arith, rules, Option}
use Rattle.sea_base.specs.declared.place.Commit.{Commit}
use Rattle.sea_journal.specs.Rolls.{seq_of}
use Rattle.sea_journal.specs.declared.roll.Roll.{Roll}
use Rattle.sea_journal.proofs.Trials.{bare_is}
use Rattle.sea_journal.proofs.journal_tests.push.Goals as goal

pub push-requires-clause-is_record : goal.push-requires-clause-is_record
push-requires-clause-is_record g c =
    let j = c.reserve.new.self in
    let commit = ap (λ (x : Commit). x.0) c.commit-last.ensures in
    let ready = c.in_ok-reserve.ensures.place.none in
    let seq : c.seq-seq.result ≡ j.queue.seq = c.seq-seq.ensures ∙ ap (λ (o : Option Roll). seq_of o j.queue) ready in
    bare_is j.queue c.args.body c.args.tail c.args.root c.requires (omega arith) (omega arith) (omega (arith, commit)) (omega (arith, seq)) (omega (arith, seq))
    (c.is_tail.ensures.0 (search rules)) (c.is_root.ensures.0 (search rules))
