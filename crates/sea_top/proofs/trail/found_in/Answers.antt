use Rattle.std.proofs.Common.{◌≡◌, ℕ, ◌≤◌, List, length, ap, ◌∙◌, arith}
use Rattle.std.specs.Prelude.{slice_range}
use Rattle.std.proofs.lemmas.List.{length-append}
use Rattle.std.proofs.lemmas.Option.{MatchOption-at_some}
use Rattle.sea_top.specs.Record.{blocks_of, spelling, BeginsWith, BeginsWithNone}
use Rattle.sea_top.proofs.DigestField.{digest_field}
use Rattle.sea_top.proofs.RecordBytes.{count_field, length-spelling}
use Rattle.sea_top.proofs.Readings.{blocks_of-some}
use Rattle.sea_top.proofs.trail.found_in.Goals as goal
use Rattle.sea_top.proofs.trail.found_in.Goals.{After-u32_at}

begins : (c : After-u32_at) → BeginsWith c.args.bytes.now c.in-Some.plain
begins c = MatchOption-at_some (BeginsWithNone c.args.bytes.now) (BeginsWith c.args.bytes.now) c.in-Some.plain c.in-Some.is c.in_ok-plain.ensures

counted : (c : After-u32_at) → c.u32_at.result ≡ blocks_of c.in-Some.plain.pieces
counted c =
    let b = begins c in
    let few : blocks_of c.in-Some.plain.pieces ≤ 1024 = b.plain_record.blocks in
    c.u32_at.ensures.only (blocks_of c.in-Some.plain.pieces) (omega arith) (ap (λ (bytes : List ℕ). slice_range bytes 16 20) b.spelled ∙ count_field c.in-Some.plain b.behind b.plain_record)

pub returns-clause-found : goal.returns-clause-found
returns-clause-found c =
    let c' = (goal.at.returns-clause-found c).After-u32_at in
    let b = begins c' in (
      b,
      record {
        plain_record = b.plain_record;
        digest = c.digest_at.ensures ∙ ap (λ (bytes : List ℕ). slice_range bytes 64 96) b.spelled ∙ digest_field c.in-Some.plain b.behind b.plain_record;
        blocks = counted c';
        some = omega (arith, counted c', blocks_of-some c.in-Some.plain.pieces);
      },
    )

pub returns-clause-within : goal.returns-clause-within
returns-clause-within c =
    let c' = (goal.at.returns-clause-within c).After-u32_at in
    let b = begins c' in
    omega (arith, counted c', length-spelling c.in-Some.plain b.plain_record, length-append (spelling c.in-Some.plain) b.behind, ap length b.spelled)
