use Rattle.std.proofs.Common.{◌≡◌, List, [], length}
use Rattle.sea_top.specs.declared.record.PlainRecord.{PlainRecord}
use Rattle.sea_top.specs.Crash.{IsLog}
use Rattle.sea_top.specs.Queue.{Start, Waits}
use Rattle.sea_top.specs.Trail.{after_pieces, pieces_of}
use Rattle.sea_top.specs.Serving.{Served, Queues}
use Rattle.sea_top.proofs.serving.serve_all.Given as goal

abbrev pub invariant-loop-asked : goal.invariant-loop-asked
invariant-loop-asked l = record {
  served : Served l.plan l.fn.objects l.objects l.fn.queue.rest l.queue.rest l.entries;
  count : length l.entries ≡ l.asked-index;
  logged : (start : Start) → Waits start l.fn.queue [] → (news : List PlainRecord) × Waits start l.queue news × IsLog l.plan l.fn.objects l.entries news × (l.objects ≡ after_pieces (pieces_of news) l.fn.objects);
  place : l.queue.place ≡ l.fn.queue.place;
  queued : Queues l.fn.objects l.objects l.fn.queue l.queue;
}
