use Rattle.std.proofs.lemmas.Result.{IfOk-weaker}
use Rattle.sea_journal.specs.Log.{pushed}
use Rattle.sea_journal.specs.Resume.{record_behind}
use Rattle.sea_journal.proofs.Journals.{behind_of, next_behind, of_none, some_queued, written_none}
use Rattle.sea_journal.proofs.Openings.{after_none}
use Rattle.sea_journal.proofs.Pasts.{pushed_is}
use Rattle.sea_journal.proofs.journal.Journal.push.Goals as goal

pub returns-clause-ok : goal.returns-clause-ok
returns-clause-ok g c = λ log has keeps.
    let j = c.args.self.now in
    let q = j.queue in
    let r = record_behind q.place.0 q.seq q.link c.args.body c.args.tail c.args.root in
    let steady = written_none log.next j.roll has.writes c.requires.ready in
    IfOk-weaker c.push.result _ _ (λ _ waits. record {
      is_log = pushed_is log r has.is_log (next_behind log q c.args.body c.args.tail c.args.root has.waits c.requires.is_record) keeps steady;
      waits = waits;
      writes = has.writes;
      table = record { count = has.table.count; trail = has.table.trail; next = has.table.next };
      image = has.image;
      told = has.told;
      after = of_none (pushed log r) has.image steady (after_none log has.image steady has.after);
      images = λ i left. of_none (pushed log r) i steady (behind_of log j has steady i left);
      settled = λ none _. absurd (some_queued log.queued r none);
    }) (c.push.ensures.ok log has.waits)
