use Rattle.std.proofs.Common.{Some, None, refl, sym, ap, subst, ◌∙◌, ℕ}
use Rattle.std.proofs.lemmas.Result.{err_from_is_err_and}
use Rattle.std.specs.FinMap as map
use Rattle.sea_base.specs.Space.{laid}
use Rattle.sea_base.proofs.Calling.{call_then}
use Rattle.sea_base.proofs.Spaces.{only_read-refl, only_read-trans}
use Rattle.sea_object.specs.Answer.{value_item}
use Rattle.sea_object.specs.declared.op.Op.TheVariants.{OmapGet}
use Rattle.sea_object.specs.declared.reply.Item.TheVariants.{Absent}
use Rattle.sea_ops.proofs.Asked.{find_fails, object_fails, path_fails, asks, absent, told, found, meets_tree, omap_at}
use Rattle.sea_tree.specs.Content.{HasContent}
use Rattle.sea_ops.proofs.asking.omap_get.Goals as goal

pub returns-in-None-clause-does : goal.returns-in-None-clause-does
returns-in-None-clause-does g c =
    let old = g.S.Space.seen c.args.space.now in
    let new = g.S.Space.seen c.find.new.space in
    let name = c.args.name.now in
    asks (OmapGet name c.args.key.now) Absent old new c.in_ok-onode.ensures.reads (λ objects. refl) refl (λ o. refl)
    (λ store next objects m.
    absent (OmapGet name c.args.key.now) (laid old store) (map.get objects name)
    (found store next objects old new new c.in_ok-onode.ensures.reads (only_read-refl new) m name None (rw c.in-None.is at c.in_ok-onode.ensures.found)))

pub returns-in_err-value-in-Some-clause-call : goal.returns-in_err-value-in-Some-clause-call
returns-in_err-value-in-Some-clause-call g c =
    let p = err_from_is_err_and c.from_residual-in_err-value-in-Some.result c.from_residual-in_err-value-in-Some.ensures.1 in
    rw (p.1, p.2) (call_then g.S.Space g.met.S.Space.frame c.in_ok-onode.ensures.call c.in_err-value-in-Some.ensures.call)

pub returns-in_err-value-in-Some-clause-reads : goal.returns-in_err-value-in-Some-clause-reads
returns-in_err-value-in-Some-clause-reads g c = only_read-trans c.in_ok-onode.ensures.reads c.in_err-value-in-Some.ensures.reads

pub returns-in_ok-value-in-Some-clause-reads : goal.returns-in_ok-value-in-Some-clause-reads
returns-in_ok-value-in-Some-clause-reads g c = only_read-trans c.in_ok-onode.ensures.reads c.in_ok-value-in-Some.ensures.reads

pub returns-in_ok-value-in-Some-clause-call : goal.returns-in_ok-value-in-Some-clause-call
returns-in_ok-value-in-Some-clause-call g c = call_then g.S.Space g.met.S.Space.frame c.in_ok-onode.ensures.call c.in_ok-value-in-Some.ensures.call

pub returns-in_ok-value-in-Some-clause-does : goal.returns-in_ok-value-in-Some-clause-does
returns-in_ok-value-in-Some-clause-does g c =
    let old = g.S.Space.seen c.args.space.now in
    let mid = g.S.Space.seen c.find.new.space in
    let new = g.S.Space.seen c.get.new.space in
    let name = c.args.name.now in
    let first = c.in_ok-onode.ensures.reads in
    let later = c.in_ok-value-in-Some.ensures.reads in
    let finds = rw c.in-Some.is at c.in_ok-onode.ensures.found in
    asks (OmapGet name c.args.key.now) c.value_item.result old new (only_read-trans first later) (λ objects. refl) refl (λ o. refl)
    (λ store next objects m.
    told (OmapGet name c.args.key.now) c.value_item.result (laid old store) c.in-Some.onode (map.get objects name)
    (found store next objects old mid new first later m name (Some c.in-Some.onode) finds)
    (λ o is. c.value_item.ensures ∙ ap value_item (c.in_ok-value-in-Some.ensures.value store o.omap (meets_tree store next objects old mid new first later m c.omap_root.result.0 o.omap (subst (λ (r : ℕ). HasContent (laid old store) r o.omap) (sym (omap_at store next c.omap_root.result.0 objects old mid new first later m name c.in-Some.onode finds c.omap_root.ensures)) is.omap)))))

pub returns-in_err-onode-clause-failure : goal.returns-in_err-onode-clause-failure
returns-in_err-onode-clause-failure g c =
    let p = err_from_is_err_and c.from_residual.result c.from_residual.ensures.1 in
    rw (p.1, p.2) (find_fails c.args.name.now (g.S.Space.seen c.args.space.now) (g.S.Space.seen c.find.new.space) c.in_err-onode.field-0.0 c.in_err-onode.ensures.reads c.in_err-onode.ensures.fault)

pub returns-in_err-value-in-Some-clause-failure : goal.returns-in_err-value-in-Some-clause-failure
returns-in_err-value-in-Some-clause-failure g c =
    let old = g.S.Space.seen c.args.space.now in
    let mid = g.S.Space.seen c.find.new.space in
    let new = g.S.Space.seen c.get.new.space in
    let name = c.args.name.now in
    let first = c.in_ok-onode.ensures.reads in
    let later = c.in_err-value-in-Some.ensures.reads in
    let finds = rw c.in-Some.is at c.in_ok-onode.ensures.found in
    let p = err_from_is_err_and c.from_residual-in_err-value-in-Some.result c.from_residual-in_err-value-in-Some.ensures.1 in
    rw (p.1, p.2) (λ store next objects m.
    object_fails c.in_err-value-in-Some.field-0.0 (laid old store) c.in-Some.onode (map.get objects name)
    (found store next objects old mid new first later m name (Some c.in-Some.onode) finds)
    (λ o is. path_fails c.in_err-value-in-Some.field-0.0 c.omap_root.result.0 c.args.key.now o.omap mid new store (meets_tree store next objects old mid new first later m c.omap_root.result.0 o.omap (subst (λ (r : ℕ). HasContent (laid old store) r o.omap) (sym (omap_at store next c.omap_root.result.0 objects old mid new first later m name c.in-Some.onode finds c.omap_root.ensures)) is.omap)) c.in_err-value-in-Some.ensures.fault))
