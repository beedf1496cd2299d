use Rattle.std.proofs.Common.{◌∷◌, [], Some, None, OnOk, sym, subst}
use Rattle.std.proofs.lemmas.Result.{on_ok_weaker}
use Rattle.sea_tree.specs.declared.plan.Write.{Write}
use Rattle.sea_tree.specs.Does.{ChangesAtMost, ArePlaced}
use Rattle.sea_tree.specs.Plan.{change_of, fills}
use Rattle.sea_tree.proofs.Performing.{placed_one}
use Rattle.sea_tree.proofs.Doing.{ChangesAtMost-write, ChangesAtMost-drop}
use Rattle.sea_tree.proofs.plan.carry_out.Goals as goal

pub returns-in-Whole-clause-few : goal.returns-in-Whole-clause-few
returns-in-Whole-clause-few g c =
    subst (λ (w : Write). OnOk c.put.result (ChangesAtMost (fills w) (g.S.Space.seen c.args.space.now) (g.S.Space.seen c.put.new.self))) (sym c.in-Whole.is)
    (on_ok_weaker c.put.result (λ w. ChangesAtMost-write c.in-Whole.at.0 (Some c.in-Whole.block) w.writes) c.put.ensures.placed)

pub returns-in-Gone-clause-few : goal.returns-in-Gone-clause-few
returns-in-Gone-clause-few g c =
    subst (λ (w : Write). OnOk c.drop_at.result (ChangesAtMost (fills w) (g.S.Space.seen c.args.space.now) (g.S.Space.seen c.drop_at.new.self))) (sym c.in-Gone.is)
    (on_ok_weaker c.drop_at.result (λ w. ChangesAtMost-drop c.in-Gone.at.0 w.writes) c.drop_at.ensures.gone)

pub returns-in-Whole-clause-placed : goal.returns-in-Whole-clause-placed
returns-in-Whole-clause-placed g c =
    subst (λ (w : Write). OnOk c.put.result (ArePlaced (change_of w ∷ []) (g.S.Space.seen c.put.new.self))) (sym c.in-Whole.is)
    (on_ok_weaker c.put.result (λ p. placed_one c.in-Whole.at.0 (Some c.in-Whole.block) p) c.put.ensures.placed)

pub returns-in-Gone-clause-placed : goal.returns-in-Gone-clause-placed
returns-in-Gone-clause-placed g c =
    subst (λ (w : Write). OnOk c.drop_at.result (ArePlaced (change_of w ∷ []) (g.S.Space.seen c.drop_at.new.self))) (sym c.in-Gone.is)
    (on_ok_weaker c.drop_at.result (λ p. placed_one c.in-Gone.at.0 None p) c.drop_at.ensures.gone)

pub returns-in-Whole-clause-unread : goal.returns-in-Whole-clause-unread
returns-in-Whole-clause-unread g c = on_ok_weaker c.put.result (λ p. p.writes.reads) c.put.ensures.placed

pub returns-in-Gone-clause-unread : goal.returns-in-Gone-clause-unread
returns-in-Gone-clause-unread g c = on_ok_weaker c.drop_at.result (λ p. p.writes.reads) c.drop_at.ensures.gone
