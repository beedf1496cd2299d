-- A log of calls as a history of changes.
use Rattle.std.specs.Prelude.{ℕ, ◌+◌, List, slice_index_or, slice_range}
use Rattle.sea_device.specs.declared.call_log.Call.{Call}
use Rattle.sea_device.specs.declared.call_log.Call.TheVariants.{Write, Sync}
use Rattle.sea_device.specs.Moments.{Change, Wrote, Synced}

-- the change that a call made, with the bytes of all writes
abbrev pub change : List ℕ → Call → Change
change written (Write at from len) = Wrote at (slice_range written from (from + len))
change written Sync = Synced

-- each change by its number; past the log nothing changes
abbrev pub history : List ℕ → List Call → ℕ → Change
history written calls k = change written (slice_index_or calls k Sync)

-- where the range of a call ends, on the device
abbrev pub end_of : Call → ℕ
end_of (Write at from len) = at + len
end_of Sync = 0

-- and among the bytes of all writes
abbrev pub end_in : Call → ℕ
end_in (Write at from len) = from + len
end_in Sync = 0
