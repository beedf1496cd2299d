use Rattle.std.proofs.Common.{◌≡◌, ◌+◌, ◌<◌, ◌≤◌, ◌-◌, ◌^◌, ℕ, length, refl, ap, arith}
use Rattle.std.proofs.lemmas.Result.{err_from_is_err_and}
use Rattle.sea_base.proofs.Calling.{call_then}
use Rattle.sea_object.specs.declared.onode.Onode.{Onode}
use Rattle.sea_object.specs.declared.op.Op.TheVariants.{OmapSetKeys}
use Rattle.sea_object.specs.declared.reply.Item.TheVariants.{Unit as Nothing}
use Rattle.sea_object.specs.declared.reply.Why.TheVariants.{OmapFull}
use Rattle.sea_object.specs.Answer as model
use Rattle.sea_object.specs.Objects.{with_pairs}
use Rattle.sea_omap.specs.Changes.{puts}
use Rattle.sea_ops.proofs.Asked.{find_fails}
use Rattle.sea_ops.proofs.Keys.{turns_many, failed_many, counts_notes, grown_by, puts_keys, keys_full, omap_root_is}
use Rattle.sea_ops.proofs.Parts.{Omap}
use Rattle.sea_ops.proofs.Turns.{turns_done, turns_refused, no_object}
use Rattle.sea_ops.proofs.TurnFails.{turn_fails, save_fails}
use Rattle.sea_ops.proofs.omap.omap_set_keys.Goals as goal

pub returns-in_err-onode-clause-failure : goal.returns-in_err-onode-clause-failure
returns-in_err-onode-clause-failure g c =
    let p = err_from_is_err_and c.from_residual.result c.from_residual.ensures.1 in
    rw (p.1, p.2) (λ store next objects m few. find_fails c.args.name.now (g.S.Space.seen c.args.space.now) (g.S.Space.seen c.find.new.space) c.in_err-onode.field-0.0 c.in_err-onode.ensures.reads c.in_err-onode.ensures.fault store next objects m)

pub returns-in_default-clause-ends : goal.returns-in_default-clause-ends
returns-in_default-clause-ends g c =
    let op = OmapSetKeys c.args.name.now c.args.pairs.now in
    no_object (g.S.Space.seen c.args.space.now) (g.S.Space.seen c.find.new.space) c.in_ok-onode.ensures.reads op c.args.name.now (rw c.in_default.is at c.in_ok-onode.ensures.found)
    (λ objects none. ap (model.refusal_at op) none)

pub returns-in_err-added-clause-failure : goal.returns-in_err-added-clause-failure
returns-in_err-added-clause-failure g c =
    let p = err_from_is_err_and c.from_residual-in_err-added.result c.from_residual-in_err-added.ensures.1 in
    let f = c.in_err-added.ensures in
    let a = g.S.Space.seen c.find.new.space in
    let b = g.S.Space.seen c.set.new.space in
    let x = c.in-Some.onode in
    let root = c.omap_root.result.0 in
    rw (p.1, p.2) (turn_fails Omap (g.S.Space.seen c.args.space.now) a b c.in_ok-onode.ensures.reads c.args.name.now x (rw c.in-Some.is at c.in_ok-onode.ensures.found) c.in_err-added.field-0.0 f.next.0 (failed_many Omap x root (puts c.args.pairs.now) a b c.in_err-added.field-0.0 (omap_root_is x root c.omap_root.ensures) f.failure))

pub returns-in_err-added-clause-call : goal.returns-in_err-added-clause-call
returns-in_err-added-clause-call g c =
    let p = err_from_is_err_and c.from_residual-in_err-added.result c.from_residual-in_err-added.ensures.1 in
    rw (p.1, p.2) (call_then g.S.Space g.met.S.Space.frame c.in_ok-onode.ensures.call c.in_err-added.ensures.call)

pub returns-then-keys-gt-MOST_OMAP_KEYS-clause-ends :
    goal.returns-then-keys-gt-MOST_OMAP_KEYS-clause-ends
returns-then-keys-gt-MOST_OMAP_KEYS-clause-ends g c =
    let a = g.S.Space.seen c.find.new.space in
    let b = g.S.Space.seen c.set.new.space in
    let name = c.args.name.now in
    let pairs = c.args.pairs.now in
    let x = c.in-Some.onode in
    let root = c.omap_root.result.0 in
    let did = c.in_ok-added.ensures in
    let count = c.in_ok-added.added in
    let told = grown_by pairs count in
    turns_refused (OmapSetKeys name pairs) OmapFull Omap told (with_pairs pairs) (g.S.Space.seen c.args.space.now) a b c.in_ok-onode.ensures.reads name x (rw c.in-Some.is at c.in_ok-onode.ensures.found) (counts_notes root (puts pairs) _ count a b did.form) did.next.0
    (turns_many Omap x told (with_pairs pairs) (length pairs) a b root (omap_root_is x root c.omap_root.ensures) did.changed did.footprint)
    (keys_full name pairs count x (omega (arith, c.saturating_add-keys.ensures, c.if-keys-gt-MOST_OMAP_KEYS.true)))

pub returns-then-keys-gt-MOST_OMAP_KEYS-clause-call :
    goal.returns-then-keys-gt-MOST_OMAP_KEYS-clause-call
returns-then-keys-gt-MOST_OMAP_KEYS-clause-call g c = call_then g.S.Space g.met.S.Space.frame c.in_ok-onode.ensures.call c.in_ok-added.ensures.call

pub returns-in_err-save-clause-failure : goal.returns-in_err-save-clause-failure
returns-in_err-save-clause-failure g c =
    let old = g.S.Space.seen c.args.space.now in
    let a = g.S.Space.seen c.find.new.space in
    let b = g.S.Space.seen c.set.new.space in
    let new = g.S.Space.seen c.save.new.space in
    let p = err_from_is_err_and c.from_residual-in_err-save.result c.from_residual-in_err-save.ensures.1 in
    let pairs = c.args.pairs.now in
    let x = c.in-Some.onode in
    let root = c.omap_root.result.0 in
    let did = c.in_ok-added.ensures in
    let f = c.in_err-save.ensures in
    let count = c.in_ok-added.added in
    let told = grown_by pairs count in
    rw (p.1, p.2) (save_fails Omap old a b c.in_ok-onode.ensures.reads c.args.name.now x (rw c.in-Some.is at c.in_ok-onode.ensures.found) new told (with_pairs pairs)
    (turns_many Omap x told (with_pairs pairs) (length pairs) a b root (omap_root_is x root c.omap_root.ensures) did.changed did.footprint)
    (counts_notes root (puts pairs) _ count a b did.form) did.next.0 (omega (arith, did.next.2, c.requires.count)) f.next.0 c.in_err-save.field-0.0 f.failure)

pub returns-in_err-save-clause-call : goal.returns-in_err-save-clause-call
returns-in_err-save-clause-call g c =
    let p = err_from_is_err_and c.from_residual-in_err-save.result c.from_residual-in_err-save.ensures.1 in
    rw (p.1, p.2) (call_then g.S.Space g.met.S.Space.frame (call_then g.S.Space g.met.S.Space.frame c.in_ok-onode.ensures.call c.in_ok-added.ensures.call) c.in_err-save.ensures.call)

pub returns-clause-ends : goal.returns-clause-ends
returns-clause-ends g c =
    let old = g.S.Space.seen c.args.space.now in
    let a = g.S.Space.seen c.find.new.space in
    let b = g.S.Space.seen c.set.new.space in
    let new = g.S.Space.seen c.save.new.space in
    let name = c.args.name.now in
    let pairs = c.args.pairs.now in
    let x = c.in-Some.onode in
    let y : Onode = record x { keys = c.saturating_add-keys.result } in
    let root = c.omap_root.result.0 in
    let put = c.in_ok-added.ensures in
    let did = c.in_ok-save.ensures in
    let reads = c.in_ok-onode.ensures.reads in
    let count = c.in_ok-added.added in
    let told = grown_by pairs count in
    turns_done (OmapSetKeys name pairs) name Omap told (with_pairs pairs) Nothing (puts_keys name pairs count) a b new x y
    (record { base = refl; size = refl }) refl put.next.0 did.next.0 (omega (arith, put.next.2, c.requires.count, c.requires.room, reads.next))
    (turns_many Omap x told (with_pairs pairs) (length pairs) a b root (omap_root_is x root c.omap_root.ensures) put.changed put.footprint)
    did.changed did.footprint.own did.notes old reads (rw c.in-Some.is at c.in_ok-onode.ensures.found) (counts_notes root (puts pairs) _ count a b put.form)
    (λ store next objects m o is grown.
    (omega (arith, is.keys, grown, c.saturating_add-keys.ensures, c.if-keys-gt-MOST_OMAP_KEYS.false), omega (arith, c.if-keys-gt-MOST_OMAP_KEYS.false)))

pub returns-clause-call : goal.returns-clause-call
returns-clause-call g c = call_then g.S.Space g.met.S.Space.frame (call_then g.S.Space g.met.S.Space.frame c.in_ok-onode.ensures.call c.in_ok-added.ensures.call) c.in_ok-save.ensures.call
