use Rattle.std.proofs.lemmas.Result.{on_ok_weaker}
use Rattle.sea_base.proofs.Calling.{call_then}
use Rattle.sea_data.proofs.Finals.{cut_becomes, cut_footprint, cut_form, ceil_low, ceil_high}
use Rattle.sea_data.proofs.cutting.cut.Goals as goal

pub returns-clause-changed : goal.returns-clause-changed
returns-clause-changed g c =
    on_ok_weaker c.drop_blocks.result (λ done. cut_becomes c.args.onode.now c.args.size c.div_ceil-first.result c.div_ceil-end.result (g.S.Space.seen c.args.space.now) (g.S.Space.seen c.clear_old_end.new.space) (g.S.Space.seen c.drop_blocks.new.space) c.requires.range c.div_ceil-end.type_inv (ceil_low c.args.size c.div_ceil-first.result c.div_ceil-first.ensures) (ceil_high c.args.size c.div_ceil-first.result c.div_ceil-first.ensures) (ceil_low c.args.onode.now.size c.div_ceil-end.result c.div_ceil-end.ensures) (ceil_high c.args.onode.now.size c.div_ceil-end.result c.div_ceil-end.ensures) c.in_ok-clear_old_end.ensures.done done) c.drop_blocks.ensures.done

pub returns-clause-footprint : goal.returns-clause-footprint
returns-clause-footprint g c =
    on_ok_weaker c.drop_blocks.result (λ done. cut_footprint c.args.onode.now c.args.size c.div_ceil-first.result c.div_ceil-end.result (g.S.Space.seen c.args.space.now) (g.S.Space.seen c.clear_old_end.new.space) (g.S.Space.seen c.drop_blocks.new.space) c.requires.range c.div_ceil-end.type_inv (ceil_low c.args.size c.div_ceil-first.result c.div_ceil-first.ensures) (ceil_high c.args.size c.div_ceil-first.result c.div_ceil-first.ensures) (ceil_low c.args.onode.now.size c.div_ceil-end.result c.div_ceil-end.ensures) (ceil_high c.args.onode.now.size c.div_ceil-end.result c.div_ceil-end.ensures) c.in_ok-clear_old_end.ensures.done done) c.drop_blocks.ensures.done

pub returns-clause-call : goal.returns-clause-call
returns-clause-call g c = call_then g.S.Space g.met.S.Space.frame c.in_ok-clear_old_end.ensures.call c.drop_blocks.ensures.call

pub returns-clause-form : goal.returns-clause-form
returns-clause-form g c =
    on_ok_weaker c.drop_blocks.result (λ done. cut_form c.args.onode.now c.args.size c.div_ceil-first.result c.div_ceil-end.result (g.S.Space.seen c.args.space.now) (g.S.Space.seen c.clear_old_end.new.space) (g.S.Space.seen c.drop_blocks.new.space) c.div_ceil-first.ensures c.div_ceil-end.ensures c.in_ok-clear_old_end.ensures.done done) c.drop_blocks.ensures.done
