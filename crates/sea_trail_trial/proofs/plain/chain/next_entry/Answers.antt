use Rattle.std.proofs.Common.{◌≡◌, subst, arith}
use Rattle.std.proofs.lemmas.Option.{MatchOption-at_some, MatchOption-at_none}
use Rattle.sea_record.specs.Record.{BeginsWith, BeginsWithNone}
use Rattle.sea_record.specs.declared.record.Record.{Record}
use Rattle.sea_trail.specs.Trail.{Continues}
use Rattle.sea_trail.proofs.Chains.{blocks-some, same_begun, within}
use Rattle.sea_trail_trial.proofs.plain.chain.next_entry.Goals as goal

pub returns-in_default : goal.returns-in_default
returns-in_default c = λ r continues.
    MatchOption-at_none (BeginsWithNone c.args.bytes.now) (BeginsWith c.args.bytes.now) c.in_default.is c.in_ok-entry.ensures.exact r continues.stands

pub returns-then-not-goes_on : goal.returns-then-not-goes_on
returns-then-not-goes_on c = λ r continues.
    let part = c.args.part.now in
    let begins = MatchOption-at_some (BeginsWithNone c.args.bytes.now) (BeginsWith c.args.bytes.now) c.in-Some.entry c.in-Some.is c.in_ok-entry.ensures.exact in
    let same : r ≡ c.in-Some.entry = same_begun c.args.bytes.now r c.in-Some.entry continues.stands begins in
    let here : Continues c.args.bytes.now part.end.0 part.header.seq part.last c.in-Some.entry = subst (λ (x : Record). Continues c.args.bytes.now part.end.0 part.header.seq part.last x) same continues in
    let no = c.if-not-goes_on.ensures.1 (here.same_segment, here.in_place, here.commit, here.mount, here.prev) in
    cc

pub digest_in-requires : goal.digest_in-requires
digest_in-requires c =
    let begins = MatchOption-at_some (BeginsWithNone c.args.bytes.now) (BeginsWith c.args.bytes.now) c.in-Some.entry c.in-Some.is c.in_ok-entry.ensures.exact in
    omega (arith, within c.args.bytes.now c.in-Some.entry begins, blocks-some c.in-Some.entry)
