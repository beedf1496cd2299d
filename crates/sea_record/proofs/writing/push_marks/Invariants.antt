use Rattle.std.proofs.Common.{◌≡◌, ◌++◌, length, take}
use Rattle.std.specs.List.{flat_map}
use Rattle.sea_base.specs.Field.{big_endian}
use Rattle.sea_record.specs.Entries.{mark_bytes}
use Rattle.sea_record.proofs.writing.push_marks.Given as goal

abbrev pub invariant-loop-p : goal.invariant-loop-p
invariant-loop-p l =
    l.bytes.items ≡ l.fn.bytes.items ++ (big_endian 4 (length l.placed) ++ flat_map (λ p. mark_bytes p.at.0 p.version.0 p.sum.0) (take l.p-index l.placed))
