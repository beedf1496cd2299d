use Rattle.std.proofs.Common.{ℕ, ◌+◌, ◌≤◌, List, MatchOption, length, refl, ap, ◌∙◌, arith}
use Rattle.std.proofs.lemmas.Option.{MatchOption-at_some, MatchOption-at_none}
use Rattle.sea_top.specs.declared.record.Piece.{Piece}
use Rattle.sea_top.specs.declared.trail.Found.{Found}
use Rattle.sea_top.specs.Trail.{Continues, NoneContinues, IsFound, after_pieces}
use Rattle.sea_top.proofs.Readings.{IfSome-from, IfSome-at}
use Rattle.sea_top.proofs.ReadingOn.{OnlyRead-more}
use Rattle.sea_top.proofs.TrailSoFar.{HasRead, HasRead-more, HasRead-all}
use Rattle.sea_top.proofs.Queues.{length-digest_of}
use Rattle.sea_top.proofs.trail.read_trail.Goals as goal

pub loop-trail-preserved : goal.loop-trail-preserved
loop-trail-preserved g c =
    let trail = c.loop-trail.trail in
    let found = c.in-Some.found in
    let before = c.loop-trail.invariant in
    let parts = IfSome-at (λ (f : Found). IsFound f × (trail.end + f.blocks ≤ g.D.Device.size c.loop-trail.device)) found c.in-Some.is c.in_ok-found.ensures.parts in
    let some : 1 ≤ found.blocks = parts.0.some in
    record {
      read_so_far = IfSome-from (g.D.Device.contents c.args.device.now) _ (λ image told.
          let continues = MatchOption-at_some (NoneContinues image trail.end trail.commit trail.previous.0) (λ (f : Found). Continues image trail.end trail.commit trail.previous.0 f.plain) found c.in-Some.is (IfSome-at (λ (image : List ℕ). MatchOption c.in_ok-found.field-0 (NoneContinues image trail.end trail.commit trail.previous.0) (λ (f : Found). Continues image trail.end trail.commit trail.previous.0 f.plain)) image (before.only_read.contents ∙ told) c.in_ok-found.ensures.found) in
          HasRead-more trail _ image found (IfSome-at (HasRead trail) image told before.read_so_far) continues parts.0 refl refl refl (c.in_ok-lay_pieces.ensures ∙ ap (λ (pieces : List Piece). after_pieces pieces trail.objects) c.items.ensures));
      only_read = OnlyRead-more c.args.device.now c.loop-trail.device c.next_record.new.device before.only_read c.next_record.ensures.read;
      later = omega arith;
      within = omega (arith, parts.1, before.only_read.size);
      some = omega (arith, before.some);
      counted = omega arith;
      digest = ap length parts.0.digest ∙ length-digest_of found.plain;
    }

pub returns-clause-trail : goal.returns-clause-trail
returns-clause-trail g c =
    let trail = c.loop-trail.trail in
    IfSome-from (g.D.Device.contents c.args.device.now) _ (λ image told.
    HasRead-all trail image (IfSome-at (HasRead trail) image told c.loop-trail.invariant.read_so_far) (MatchOption-at_none (NoneContinues image trail.end trail.commit trail.previous.0) (λ (f : Found). Continues image trail.end trail.commit trail.previous.0 f.plain) c.in_default.is (IfSome-at (λ (image : List ℕ). MatchOption c.in_ok-found.field-0 (NoneContinues image trail.end trail.commit trail.previous.0) (λ (f : Found). Continues image trail.end trail.commit trail.previous.0 f.plain)) image (c.loop-trail.invariant.only_read.contents ∙ told) c.in_ok-found.ensures.found)))
