use Rattle.std.proofs.Common.{sym, subst, ◌∙◌}
use Rattle.std.proofs.lemmas.Bool.{false≢true}
use Rattle.sea_record.specs.Record.{IsRecord}
use Rattle.sea_record.proofs.RecordRules.{fits_of}
use Rattle.sea_record.proofs.Records.{same_record}
use Rattle.sea_record.proofs.reading.decode.Goals as goal

pub returns-then-not-keeps-clause-exact : goal.returns-then-not-keeps-clause-exact
returns-then-not-keeps-clause-exact c = λ s found.
    let spelled = rw c.in-Some.is at c.in_ok-record.ensures in
    let same = same_record s c.in-Some.record found.behind spelled.behind (fits_of s found.is_record) spelled.fits (sym found.spelled ∙ spelled.spelled) in
    false≢true (sym c.if-not-keeps.true ∙ c.in_ok-keeps.ensures.1 (subst IsRecord same.0 found.is_record))

pub returns-clause-only : goal.returns-clause-only
returns-clause-only c = λ s found.
    let spelled = rw c.in-Some.is at c.in_ok-record.ensures in
    (same_record s c.in-Some.record found.behind spelled.behind (fits_of s found.is_record) spelled.fits (sym found.spelled ∙ spelled.spelled)).0
