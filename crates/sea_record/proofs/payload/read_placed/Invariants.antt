use Rattle.std.proofs.Common.{◌≡◌, ◌+◌, ◌*◌, length, map, take}
use Rattle.sea_record.specs.Parts.{mark_of}
use Rattle.sea_record.proofs.Payloads.{Cut}
use Rattle.sea_record.proofs.payload.read_placed.Given as goal

abbrev pub invariant-loop-mark : goal.invariant-loop-mark
invariant-loop-mark l = record {
  marks : map mark_of l.placed ≡ take l.mark-index l.marks;
  left : length l.rest + 4096 * l.mark-index ≡ 4096 * length l.marks;
  cut : Cut (λ p. p.block) l.bytes l.placed l.rest;
}
