use Rattle.std.proofs.Common.{List, ℕ, ap, ◌∙◌}
use Rattle.std.specs.Prelude.{slice_range}
use Rattle.sea_record.proofs.ReadRecords.{digest_there}
use Rattle.sea_record.proofs.RecordRules.{fits_of}
use Rattle.sea_record.proofs.header.digest_in.Goals as goal

pub returns : goal.returns
returns c = λ r found.
    c.digest_at.ensures ∙ ap (λ (x : List ℕ). slice_range x 144 176) found.spelled ∙ digest_there r found.behind (fits_of r found.is_record)
