use Rattle.std.proofs.Common.{◌≡◌, ℕ, List, Some, ap, ◌∙◌, take}
use Rattle.std.specs.FinMap.{get, insert}
use Rattle.sea_object.proofs.Lookups.{get-insert_same}
use Rattle.sea_pieces.specs.Addresses.{address_of}
use Rattle.sea_pieces.specs.Store.{versions_of}
use Rattle.sea_pieces.proofs.Meeting.{met_kept, met_more}
use Rattle.sea_pieces.proofs.Noting.{meet_keeps, meets_noted}
use Rattle.sea_pieces.proofs.store.PieceStore.prepare.Goals as goal

pub invariant_of-self : goal.invariant_of-self
invariant_of-self c =
    let s = c.loop-piece.self in
    record {
      versions = s.versions;
      notes = meets_noted c.meet.result s.addresses c.meet.new.self c.piece-item.result.name c.meet.ensures.address c.meet.ensures.met c.meet.ensures.err (versions_of s) s.last s.board s.notes;
    }

pub loop-piece-preserved : goal.loop-piece-preserved
loop-piece-preserved c =
    let s = c.loop-piece.self in
    let inv = c.loop-piece.invariant in
    let name = c.piece-item.result.name in
    let met : c.meet.new.self ≡ insert s.addresses name (address_of s.addresses name) = c.in_ok-meet.ensures.met ∙ ap (insert s.addresses name) c.in_ok-meet.ensures.address in
    let keeps = λ (q : List ℕ) (at : ℕ) (is : get s.addresses q ≡ Some at). ap (λ m. get m q) met ∙ meet_keeps s.addresses name q at is in
    record {
      grows = record {
        versions = inv.grows.versions;
        last = inv.grows.last;
        addresses = λ q at is. keeps q at (inv.grows.addresses q at is);
        board = inv.grows.board;
      };
      settled = inv.settled;
      met = met_more c.meet.new.self c.args.change.now c.loop-piece.piece-index c.piece-item.result c.in_ok-meet.field-0.0 c.loop-piece-test.true c.piece-item.is
          (met_kept s.addresses c.meet.new.self keeps (take c.loop-piece.piece-index c.args.change.now) inv.met)
          (ap (λ m. get m name) c.in_ok-meet.ensures.met ∙ get-insert_same s.addresses name c.in_ok-meet.field-0.0);
    }
