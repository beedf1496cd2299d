use Rattle.std.proofs.Common.{subst, arith}
use Rattle.sea_trail.proofs.Told.{is_open}
use Rattle.sea_trail_trial.specs.Plain.{IsNewestOf}
use Rattle.sea_trail_trial.proofs.PlainHeaders.{found_of}
use Rattle.sea_trail_trial.proofs.plain.read_plainly.Goals as goal

pub chain_of-requires-clause-few : goal.chain_of-requires-clause-few
chain_of-requires-clause-few c =
    let is = subst (IsNewestOf c.args.image.now c.in_ok-segments.segments) c.in-Some.is c.in_ok-header.ensures in
    omega (arith, is.numbered.has.within, c.in_ok-segments.ensures.room.0.1)

pub chain_of-requires-clause-within : goal.chain_of-requires-clause-within
chain_of-requires-clause-within c =
    let is = subst (IsNewestOf c.args.image.now c.in_ok-segments.segments) c.in-Some.is c.in_ok-header.ensures in
    omega (arith, is.numbered.has.within, c.in_ok-segments.ensures.room.1)

pub chain_of-requires-clause-stands : goal.chain_of-requires-clause-stands
chain_of-requires-clause-stands c =
    let is = subst (IsNewestOf c.args.image.now c.in_ok-segments.segments) c.in-Some.is c.in_ok-header.ensures in
    is.numbered.has.stands

pub closed_of-requires-clause-open_part : goal.closed_of-requires-clause-open_part
closed_of-requires-clause-open_part c =
    let is = subst (IsNewestOf c.args.image.now c.in_ok-segments.segments) c.in-Some.is c.in_ok-header.ensures in
    is_open c.args.image.now c.in_ok-segments.segments (found_of c.in-Some.header) c.in_ok-newest.newest c.in_ok-segments.ensures.told is c.in_ok-newest.ensures.header c.in_ok-newest.ensures.chain

pub trail_of-requires-clause-open_part : goal.trail_of-requires-clause-open_part
trail_of-requires-clause-open_part c =
    let is = subst (IsNewestOf c.args.image.now c.in_ok-segments.segments) c.in-Some.is c.in_ok-header.ensures in
    is_open c.args.image.now c.in_ok-segments.segments (found_of c.in-Some.header) c.in_ok-newest.newest c.in_ok-segments.ensures.told is c.in_ok-newest.ensures.header c.in_ok-newest.ensures.chain
