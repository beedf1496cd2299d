use Rattle.std.proofs.Common.{◌≡◌, ◌+◌, ◌<◌, ◌≤◌, ◌-◌, ◌^◌, ℕ, length, refl, ap, arith}
use Rattle.std.proofs.lemmas.Result.{err_from_is_err_and}
use Rattle.sea_base.proofs.Calling.{call_then}
use Rattle.sea_object.specs.declared.onode.Onode.{Onode}
use Rattle.sea_object.specs.declared.op.Op.TheVariants.{OmapRmKeys}
use Rattle.sea_object.specs.declared.reply.Item.TheVariants.{Unit as Nothing}
use Rattle.sea_object.specs.Answer as model
use Rattle.sea_object.specs.Objects.{without_keys}
use Rattle.sea_omap.specs.Changes.{removals}
use Rattle.sea_ops.proofs.Asked.{find_fails}
use Rattle.sea_ops.proofs.Keys.{turns_many, failed_many, counts_notes, shrunk_by, takes_keys, omap_root_is}
use Rattle.sea_ops.proofs.Parts.{Omap}
use Rattle.sea_ops.proofs.Turns.{turns_done, no_object, object_since}
use Rattle.sea_ops.proofs.TurnFails.{turn_fails, save_fails}
use Rattle.sea_ops.proofs.omap.omap_remove_keys.Goals as goal

pub returns-in_err-onode-clause-failure : goal.returns-in_err-onode-clause-failure
returns-in_err-onode-clause-failure g c =
    let p = err_from_is_err_and c.from_residual.result c.from_residual.ensures.1 in
    rw (p.1, p.2) (λ store next objects m few. find_fails c.args.name.now (g.S.Space.seen c.args.space.now) (g.S.Space.seen c.find.new.space) c.in_err-onode.field-0.0 c.in_err-onode.ensures.reads c.in_err-onode.ensures.fault store next objects m)

pub returns-in_default-clause-ends : goal.returns-in_default-clause-ends
returns-in_default-clause-ends g c =
    let op = OmapRmKeys c.args.name.now c.args.keys.now in
    no_object (g.S.Space.seen c.args.space.now) (g.S.Space.seen c.find.new.space) c.in_ok-onode.ensures.reads op c.args.name.now (rw c.in_default.is at c.in_ok-onode.ensures.found)
    (λ objects none. ap (model.refusal_at op) none)

pub returns-in_err-gone-clause-failure : goal.returns-in_err-gone-clause-failure
returns-in_err-gone-clause-failure g c =
    let p = err_from_is_err_and c.from_residual-in_err-gone.result c.from_residual-in_err-gone.ensures.1 in
    let f = c.in_err-gone.ensures in
    let a = g.S.Space.seen c.find.new.space in
    let b = g.S.Space.seen c.unset.new.space in
    let x = c.in-Some.onode in
    let root = c.omap_root.result.0 in
    rw (p.1, p.2) (turn_fails Omap (g.S.Space.seen c.args.space.now) a b c.in_ok-onode.ensures.reads c.args.name.now x (rw c.in-Some.is at c.in_ok-onode.ensures.found) c.in_err-gone.field-0.0 f.next.0 (failed_many Omap x root (removals c.args.keys.now) a b c.in_err-gone.field-0.0 (omap_root_is x root c.omap_root.ensures) f.failure))

pub returns-in_err-gone-clause-call : goal.returns-in_err-gone-clause-call
returns-in_err-gone-clause-call g c =
    let p = err_from_is_err_and c.from_residual-in_err-gone.result c.from_residual-in_err-gone.ensures.1 in
    rw (p.1, p.2) (call_then g.S.Space g.met.S.Space.frame c.in_ok-onode.ensures.call c.in_err-gone.ensures.call)

pub returns-in_err-save-clause-failure : goal.returns-in_err-save-clause-failure
returns-in_err-save-clause-failure g c =
    let old = g.S.Space.seen c.args.space.now in
    let a = g.S.Space.seen c.find.new.space in
    let b = g.S.Space.seen c.unset.new.space in
    let new = g.S.Space.seen c.save.new.space in
    let p = err_from_is_err_and c.from_residual-in_err-save.result c.from_residual-in_err-save.ensures.1 in
    let keys = c.args.keys.now in
    let x = c.in-Some.onode in
    let root = c.omap_root.result.0 in
    let did = c.in_ok-gone.ensures in
    let f = c.in_err-save.ensures in
    let count = c.in_ok-gone.gone in
    let told = shrunk_by keys count in
    rw (p.1, p.2) (save_fails Omap old a b c.in_ok-onode.ensures.reads c.args.name.now x (rw c.in-Some.is at c.in_ok-onode.ensures.found) new told (without_keys keys)
    (turns_many Omap x told (without_keys keys) (length keys) a b root (omap_root_is x root c.omap_root.ensures) did.changed did.footprint)
    (counts_notes root (removals keys) _ count a b did.form) did.next.0 (omega (arith, did.next.2, c.requires.count)) f.next.0 c.in_err-save.field-0.0 f.failure)

pub returns-in_err-save-clause-call : goal.returns-in_err-save-clause-call
returns-in_err-save-clause-call g c =
    let p = err_from_is_err_and c.from_residual-in_err-save.result c.from_residual-in_err-save.ensures.1 in
    rw (p.1, p.2) (call_then g.S.Space g.met.S.Space.frame (call_then g.S.Space g.met.S.Space.frame c.in_ok-onode.ensures.call c.in_ok-gone.ensures.call) c.in_err-save.ensures.call)

pub returns-clause-ends : goal.returns-clause-ends
returns-clause-ends g c =
    let old = g.S.Space.seen c.args.space.now in
    let a = g.S.Space.seen c.find.new.space in
    let b = g.S.Space.seen c.unset.new.space in
    let new = g.S.Space.seen c.save.new.space in
    let name = c.args.name.now in
    let keys = c.args.keys.now in
    let x = c.in-Some.onode in
    let y : Onode = record x { keys = c.saturating_sub.result } in
    let root = c.omap_root.result.0 in
    let took = c.in_ok-gone.ensures in
    let did = c.in_ok-save.ensures in
    let reads = c.in_ok-onode.ensures.reads in
    let finds = rw c.in-Some.is at c.in_ok-onode.ensures.found in
    let count = c.in_ok-gone.gone in
    let told = shrunk_by keys count in
    let noted = counts_notes root (removals keys) _ count a b took.form in
    turns_done (OmapRmKeys name keys) name Omap told (without_keys keys) Nothing (takes_keys name keys count) a b new x y
    (record { base = refl; size = refl }) refl took.next.0 did.next.0 (omega (arith, took.next.2, c.requires.count, c.requires.room, reads.next))
    (turns_many Omap x told (without_keys keys) (length keys) a b root (omap_root_is x root c.omap_root.ensures) took.changed took.footprint)
    did.changed did.footprint.own did.notes old reads finds noted
    (λ store next objects m o is shrunk.
    let here = object_since old a new reads name x finds (λ at f e. did.notes at f (noted at f e)) store next objects m in
    (omega (arith, is.keys, shrunk, c.saturating_sub.ensures), omega (arith, here.order.keys, c.saturating_sub.ensures)))

pub returns-clause-call : goal.returns-clause-call
returns-clause-call g c = call_then g.S.Space g.met.S.Space.frame (call_then g.S.Space g.met.S.Space.frame c.in_ok-onode.ensures.call c.in_ok-gone.ensures.call) c.in_ok-save.ensures.call
