use Rattle.std.proofs.Common.{◌<◌, sym, subst, arith}
use Rattle.sea_segment.specs.declared.header.Header.{Header}
use Rattle.sea_trail.specs.Parts.{IsFit}
use Rattle.sea_trail.proofs.Ranges.{in_range}
use Rattle.sea_trail.proofs.Telling.{IfSome-at}
use Rattle.sea_trail.proofs.scanning.scan.Given.{Over}
use Rattle.sea_trail.proofs.scanning.scan.Goals as goal
use Rattle.sea_trail.proofs.scanning.scan.Goals.{After-header-2-1}

fit : (g : Over) (c : After-header-2-1 g) → IsFit c.in_ok-segments.segments c.in-Some.header
fit g c = IfSome-at (IsFit c.in_ok-segments.segments) c.in-Some.header c.in-Some.is c.in_ok-survey.ensures.fits.newest

pub read_part-requires-clause-few : goal.read_part-requires-clause-few
read_part-requires-clause-few g c = omega (arith, (fit g c).within, c.in_ok-segments.ensures.room.0.1)

pub read_part-requires-clause-within : goal.read_part-requires-clause-within
read_part-requires-clause-within g c =
    omega (arith, (fit g c).within, c.in_ok-segments.ensures.room.1, c.in_ok-survey.ensures.read.size, c.in_ok-segments.ensures.read.size)

pub read_part-requires-clause-fit : goal.read_part-requires-clause-fit
read_part-requires-clause-fit g c = ((fit g c).header, (fit g c).link)

pub returns-clause-range : goal.returns-clause-range
returns-clause-range g c =
    let segments = c.in_ok-segments.segments in
    let size = g.D.Device.size c.args.device.now in
    let newest = c.in_ok-newest.newest in
    let trail = c.in_ok-trail.ensures in
    let found = IfSome-at (IsFit segments) c.in-Some.header c.in-Some.is c.in_ok-survey.ensures.fits.newest in
    let within : newest.header.segment < segments = subst (λ (h : Header). h.segment < segments) (sym c.in_ok-newest.ensures.header) found.within in
    in_range segments size newest c.in_ok-trail.trail c.in_ok-segments.ensures.room.0 c.in_ok-segments.ensures.room.1 within
    c.in_ok-newest.ensures.range c.if-tail-newest.false trail.segments trail.fields
