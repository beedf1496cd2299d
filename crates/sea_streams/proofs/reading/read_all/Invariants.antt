use Rattle.std.proofs.Common.{◌≡◌, ◌-◌, ◌≤◌, vec_len}
use Rattle.sea_streams.specs.Streams.{Leaves}
use Rattle.sea_streams.proofs.reading.read_all.Given as goal

abbrev pub invariant-loop-buffer : goal.invariant-loop-buffer
invariant-loop-buffer g l = record {
  taken : Leaves l.bytes.items (g.I.Source.remaining l.fn.input) (g.I.Source.remaining l.input);
  short : vec_len l.bytes ≤ 67108865;
  quiet : g.I.Source.faults l.input ≡ g.I.Source.faults l.fn.input;
}

abbrev pub decreases-loop-buffer : goal.decreases-loop-buffer
decreases-loop-buffer g l = 67108865 - vec_len l.bytes
