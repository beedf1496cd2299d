-- What holds of each journal's past.
use Rattle.std.specs.Prelude.{List, ℕ}
use Rattle.sea_journal.specs.Log.{Log, IsLog, IsAfter, IsClear, HasPrefix}

-- A clear image of a crash has the trail of what is stable, and then a prefix of what is queued,
-- where a header that is being written comes last.
abbrev pub ClearHasPrefix : Type 0
ClearHasPrefix = (log : Log) (image : List ℕ) → IsLog log → IsAfter log image → IsClear log image
    → HasPrefix log image

-- the anchor is clear
abbrev pub AnchorIsClear : Type 0
AnchorIsClear = (log : Log) → IsLog log → IsClear log log.anchor
