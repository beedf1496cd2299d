use Rattle.std.proofs.Common.{refl, ap, drop, ◌∙◌, arith}
use Rattle.std.proofs.lemmas.List.{drop-drop, drop_all}
use Rattle.sea_pieces.proofs.Stable.{grows_none, grows_then}
use Rattle.sea_pieces.proofs.store.PieceStore.settle.Goals as goal

pub loop-init : goal.loop-init
loop-init c = record { grows = grows_none c.args.self.now; addresses = refl; late = refl }

pub loop-preserved : goal.loop-preserved
loop-preserved c = record {
  grows = grows_then c.args.self.now c.loop.self c.settle_one.new.self c.loop.invariant.grows c.settle_one.ensures.grows;
  addresses = c.settle_one.ensures.addresses ∙ c.loop.invariant.addresses;
  late = c.in_ok-settle_one.ensures.passed ∙ ap (drop 1) c.loop.invariant.late ∙ drop-drop 1 c.loop.counter c.args.self.now.late;
}

pub returns-clause-settled : goal.returns-clause-settled
returns-clause-settled c = c.loop.invariant.late ∙ drop_all c.loop.counter c.args.self.now.late (omega arith)

pub returns-in_err-settle_one-clause-grows : goal.returns-in_err-settle_one-clause-grows
returns-in_err-settle_one-clause-grows c = grows_then c.args.self.now c.loop.self c.settle_one.new.self c.loop.invariant.grows c.settle_one.ensures.grows

pub returns-in_err-settle_one-clause-addresses : goal.returns-in_err-settle_one-clause-addresses
returns-in_err-settle_one-clause-addresses c = c.settle_one.ensures.addresses ∙ c.loop.invariant.addresses
