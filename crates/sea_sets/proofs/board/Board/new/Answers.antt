use Rattle.std.proofs.Common.{None, ◌∷◌, ◌≡◌, ap, arith, length, ◌∙◌}
use Rattle.std.specs.Prelude.{slice_get}
use Rattle.std.proofs.lemmas.List.{length-replicate}
use Rattle.sea_sets.specs.Board.{is_open_in}
use Rattle.sea_sets.proofs.Places.{none_open}
use Rattle.sea_sets.proofs.board.Board.new.Goals as goal

pub returns : goal.returns
returns c =
    let count : c.loop.counter ≡ c.args.clients = omega (arith, c.loop.auto, c.loop-test.false) in
    record {
      count = ap length c.loop.invariant ∙ length-replicate c.loop.counter None ∙ count;
      closed = λ client. ap (λ items. is_open_in (slice_get (None ∷ items) client)) c.loop.invariant ∙ none_open c.loop.counter client;
    }
