use Rattle.sea_record.proofs.ReadRecords.{digest_there}
use Rattle.sea_record.proofs.RecordRules.{fits_of}
use Rattle.sea_record.proofs.Records.{same_record, length-record_bytes}
use Rattle.sea_record.proofs.law.spelling_laws.Goals as goal

pub returns-clause-apart : goal.returns-clause-apart
returns-clause-apart c = λ r s x y is_r is_s e. same_record r s x y (fits_of r is_r) (fits_of s is_s) e

pub returns-clause-whole : goal.returns-clause-whole
returns-clause-whole c = λ r is. length-record_bytes r (fits_of r is)

pub returns-clause-digest : goal.returns-clause-digest
returns-clause-digest c = λ r x is. digest_there r x (fits_of r is)
