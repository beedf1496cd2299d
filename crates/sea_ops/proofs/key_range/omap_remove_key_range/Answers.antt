use Rattle.std.proofs.Common.{◌-◌, ◌^◌, ℕ, List, length, sym, ap, subst}
use Rattle.std.proofs.lemmas.Result.{err_from_is_err_and}
use Rattle.std.specs.Ordering.{is_lt}
use Rattle.sea_base.proofs.Calling.{call_then}
use Rattle.sea_base.proofs.Spaces.{only_read-trans}
use Rattle.sea_object.specs.declared.op.Op.TheVariants.{OmapRmKeyRange}
use Rattle.sea_object.specs.declared.reply.Item.TheVariants.{Number}
use Rattle.sea_object.specs.Answer as model
use Rattle.sea_ops.specs.Calls.{Does}
use Rattle.sea_ops.proofs.Asked.{find_fails}
use Rattle.sea_ops.proofs.KeyRanges.{takes_none, keys_fail, takes_range, range_refused}
use Rattle.sea_ops.proofs.Keys.{omap_root_is}
use Rattle.sea_ops.proofs.Makes.{fails_since}
use Rattle.sea_ops.proofs.Turns.{no_object}
use Rattle.sea_ops.proofs.key_range.omap_remove_key_range.Goals as goal

pub returns-in_err-onode-clause-failure : goal.returns-in_err-onode-clause-failure
returns-in_err-onode-clause-failure g c =
    let p = err_from_is_err_and c.from_residual.result c.from_residual.ensures.1 in
    rw (p.1, p.2) (λ store next objects m few. find_fails c.args.name.now (g.S.Space.seen c.args.space.now) (g.S.Space.seen c.find.new.space) c.in_err-onode.field-0.0 c.in_err-onode.ensures.reads c.in_err-onode.ensures.fault store next objects m)

pub returns-in_default-clause-ends : goal.returns-in_default-clause-ends
returns-in_default-clause-ends g c =
    let op = OmapRmKeyRange c.args.name.now c.args.from.now c.args.to.now c.args.bound in
    no_object (g.S.Space.seen c.args.space.now) (g.S.Space.seen c.find.new.space) c.in_ok-onode.ensures.reads op c.args.name.now (rw c.in_default.is at c.in_ok-onode.ensures.found)
    (λ objects none. ap (model.refusal_at op) none)

pub returns-then-not-is_below-clause-ends : goal.returns-then-not-is_below-clause-ends
returns-then-not-is_below-clause-ends g c =
    takes_none (g.S.Space.seen c.args.space.now) (g.S.Space.seen c.find.new.space) c.in_ok-onode.ensures.reads c.args.name.now c.in-Some.onode (rw c.in-Some.is at c.in_ok-onode.ensures.found) c.args.from.now c.args.to.now c.args.bound
    (λ less. let told = c.is_below.ensures in let is = c.if-not-is_below.true in let lower = ap is_lt less in cc)

pub returns-in_err-keys-clause-failure : goal.returns-in_err-keys-clause-failure
returns-in_err-keys-clause-failure g c =
    let p = err_from_is_err_and c.from_residual-in_err-keys.result c.from_residual-in_err-keys.ensures.1 in
    let x = c.in-Some.onode in
    let root = c.omap_root.result.0 in
    let f = c.in_err-keys.ensures in
    rw (p.1, p.2) (λ store next objects m few. keys_fail (g.S.Space.seen c.args.space.now) (g.S.Space.seen c.find.new.space) (g.S.Space.seen c.keys_between.new.space) c.in_ok-onode.ensures.reads f.reads c.args.name.now x (rw c.in-Some.is at c.in_ok-onode.ensures.found) root (omap_root_is x root c.omap_root.ensures) c.in_err-keys.field-0.0 f.fault store next objects m)

pub returns-in_err-keys-clause-call : goal.returns-in_err-keys-clause-call
returns-in_err-keys-clause-call g c =
    let p = err_from_is_err_and c.from_residual-in_err-keys.result c.from_residual-in_err-keys.ensures.1 in
    rw (p.1, p.2) (call_then g.S.Space g.met.S.Space.frame c.in_ok-onode.ensures.call c.in_err-keys.ensures.call)

pub returns-in_err-omap_remove_keys-clause-failure : goal.returns-in_err-omap_remove_keys-clause-failure
returns-in_err-omap_remove_keys-clause-failure g c =
    let p = err_from_is_err_and c.from_residual-in_err-omap_remove_keys.result c.from_residual-in_err-omap_remove_keys.ensures.1 in
    rw (p.1, p.2) (fails_since (g.S.Space.seen c.args.space.now) (g.S.Space.seen c.keys_between.new.space) (g.S.Space.seen c.omap_remove_keys.new.space) (only_read-trans c.in_ok-onode.ensures.reads c.in_ok-keys.ensures.reads) (2 ^ 25 - 2 ^ 20) c.in_err-omap_remove_keys.field-0.0 c.in_err-omap_remove_keys.ensures.failure)

pub returns-in_err-omap_remove_keys-clause-call : goal.returns-in_err-omap_remove_keys-clause-call
returns-in_err-omap_remove_keys-clause-call g c =
    let p = err_from_is_err_and c.from_residual-in_err-omap_remove_keys.result c.from_residual-in_err-omap_remove_keys.ensures.1 in
    rw (p.1, p.2) (call_then g.S.Space g.met.S.Space.frame (call_then g.S.Space g.met.S.Space.frame c.in_ok-onode.ensures.call c.in_ok-keys.ensures.call) c.in_err-omap_remove_keys.ensures.call)

pub returns-in-Ok-clause-ends : goal.returns-in-Ok-clause-ends
returns-in-Ok-clause-ends g c =
    let old = g.S.Space.seen c.args.space.now in
    let new = g.S.Space.seen c.omap_remove_keys.new.space in
    let op = OmapRmKeyRange c.args.name.now c.args.from.now c.args.to.now c.args.bound in
    let x = c.in-Some.onode in
    let root = c.omap_root.result.0 in
    let found = c.in_ok-keys.ensures in
    subst (λ (keys : List (List ℕ)). Does op (Number (length keys)) old new) (sym c.items.ensures)
    (takes_range old (g.S.Space.seen c.find.new.space) (g.S.Space.seen c.keys_between.new.space) c.in_ok-onode.ensures.reads found.reads c.args.name.now x (rw c.in-Some.is at c.in_ok-onode.ensures.found) root (omap_root_is x root c.omap_root.ensures)
    c.args.from.now c.args.to.now c.args.bound c.in_ok-keys.keys found.keys new c.in-Ok.field-0 (rw c.in-Ok.is at c.in_ok-omap_remove_keys.ensures.ends))

pub returns-in-Ok-clause-call : goal.returns-in-Ok-clause-call
returns-in-Ok-clause-call g c = call_then g.S.Space g.met.S.Space.frame (call_then g.S.Space g.met.S.Space.frame c.in_ok-onode.ensures.call c.in_ok-keys.ensures.call) c.in_ok-omap_remove_keys.ensures.call

pub returns-clause-ends : goal.returns-clause-ends
returns-clause-ends g c =
    let x = c.in-Some.onode in
    let root = c.omap_root.result.0 in
    let found = c.in_ok-keys.ensures in
    range_refused (g.S.Space.seen c.args.space.now) (g.S.Space.seen c.find.new.space) (g.S.Space.seen c.keys_between.new.space) c.in_ok-onode.ensures.reads found.reads c.args.name.now x (rw c.in-Some.is at c.in_ok-onode.ensures.found) root (omap_root_is x root c.omap_root.ensures)
    c.args.from.now c.args.to.now c.args.bound c.in_ok-keys.keys found.keys (g.S.Space.seen c.omap_remove_keys.new.space) c.in-Err.why (rw c.in-Err.is at c.in_ok-omap_remove_keys.ensures.ends)

pub returns-clause-call : goal.returns-clause-call
returns-clause-call g c = call_then g.S.Space g.met.S.Space.frame (call_then g.S.Space g.met.S.Space.frame c.in_ok-onode.ensures.call c.in_ok-keys.ensures.call) c.in_ok-omap_remove_keys.ensures.call
