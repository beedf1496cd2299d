use Rattle.std.proofs.Common.{◌≡◌, ◌+◌, ◌*◌, length, take}
use Rattle.std.specs.List.{flat_map}
use Rattle.sea_record.specs.Entries.{change_bytes}
use Rattle.sea_record.proofs.writing.metadata_len.Given as goal

abbrev pub invariant-loop-change : goal.invariant-loop-change
invariant-loop-change l =
    l.len ≡ 12 + 24 * length l.fn.body.placed + 8 * length l.fn.body.dropped + length (flat_map change_bytes (take l.change-index l.change-items))
