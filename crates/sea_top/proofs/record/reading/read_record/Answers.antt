use Rattle.std.proofs.Common.{refl, ◌∙◌, arith, ap, length, drop, length-append}
use Rattle.std.proofs.lemmas.Bool.{false≢true}
use Rattle.sea_top.specs.Header.{header_bytes}
use Rattle.sea_top.specs.Record.{header_of, digest_of}
use Rattle.sea_top.proofs.RecordBytes.{spelled_parts, IsHeader-header_of}
use Rattle.sea_top.proofs.RecordLengths.{length-header_bytes}
use Rattle.sea_top.proofs.ReadRecord.{told, made_of}
use Rattle.sea_top.proofs.record.reading.read_record.Goals as goal

pub returns-in_default : goal.returns-in_default
returns-in_default c = λ plain found.
    let none = rw c.in_default.is at c.read_header.ensures in
    none (header_of plain (digest_of plain)) _ (IsHeader-header_of plain found.plain_record) (found.spelled ∙ spelled_parts plain found.behind)

pub is_sealed-requires : goal.is_sealed-requires
is_sealed-requires c =
    let begins = c.in-Some.ensures in
    let h = c.in-Some.header in
    omega (arith, ap length begins.1, length-append (header_bytes h) (drop 96 c.args.bytes.now), length-header_bytes h begins.0.previous begins.0.digest)

pub returns-then-not-is_sealed : goal.returns-then-not-is_sealed
returns-then-not-is_sealed c = λ plain found.
    false≢true (c.if-not-is_sealed.ensures.1 (told c.args.bytes.now c.in-Some.header plain c.in-Some.ensures found).is_sealed)

pub returns-in_default-2 : goal.returns-in_default-2
returns-in_default-2 c = λ plain found.
    let none = rw c.in_default-2.is at c.in_ok-pieces.ensures in
    none plain.pieces (told c.args.bytes.now c.in-Some.header plain c.in-Some.ensures found).body

pub returns : goal.returns
returns c =
    let pieces = rw c.in-Some-2.is at c.in_ok-pieces.ensures in
    made_of c.args.bytes.now c.in-Some.header c.in-Some-2.pieces c.in-Some.ensures (record { is_sealed = c.if-not-is_sealed.ensures.0 refl; body = pieces })
