use Rattle.std.proofs.Common.{◌≡◌, ◌++◌, List, ℕ, take}
use Rattle.std.specs.Prelude.{string_bytes}
use Rattle.std.specs.List.{flat_map}
use Rattle.sea_script.specs.Render.{entry_line}
use Rattle.sea_streams.specs.Streams.{Grows}
use Rattle.sea_streams.proofs.printing.print_history.Given as goal

abbrev pub invariant-loop-entry : goal.invariant-loop-entry
invariant-loop-entry g l = record {
  front : List ℕ;
  lines : flat_map entry_line (take l.entry-index l.entries) ≡ front ++ string_bytes l.text;
  taken : Grows front (g.O.Sink.taken l.fn.out) (g.O.Sink.taken l.out);
  quiet : g.O.Sink.faults l.out ≡ g.O.Sink.faults l.fn.out;
}
