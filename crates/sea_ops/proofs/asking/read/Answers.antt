use Rattle.std.proofs.Common.{Some, None, refl, sym, ap, ◌∙◌, take, drop, ℕ, List}
use Rattle.std.proofs.lemmas.Result.{err_from_is_err_and}
use Rattle.std.specs.FinMap as map
use Rattle.sea_base.specs.Space.{Store, laid}
use Rattle.sea_data.specs.Bytes.{bytes_of}
use Rattle.sea_tree.proofs.Walks.{one_store}
use Rattle.sea_base.proofs.Calling.{call_then}
use Rattle.sea_base.proofs.Spaces.{only_read-refl, only_read-trans}
use Rattle.sea_object.specs.declared.op.Op.TheVariants.{Read}
use Rattle.sea_object.specs.declared.reply.Item.TheVariants.{Absent, Bytes}
use Rattle.sea_ops.proofs.Asked.{find_fails, asks, absent, told, found}
use Rattle.sea_ops.proofs.asking.read.Goals as goal

pub returns-in-None-clause-does : goal.returns-in-None-clause-does
returns-in-None-clause-does g c =
    let old = g.S.Space.seen c.args.space.now in
    let new = g.S.Space.seen c.find.new.space in
    let name = c.args.name.now in
    asks (Read name c.args.offset c.args.length) Absent old new c.in_ok-onode.ensures.reads (λ objects. refl) refl (λ o. refl)
    (λ store next objects m.
    absent (Read name c.args.offset c.args.length) (laid old store) (map.get objects name)
    (found store next objects old new new c.in_ok-onode.ensures.reads (only_read-refl new) m name None (rw c.in-None.is at c.in_ok-onode.ensures.found)))

pub returns-in_err-bytes-in-Some-clause-call : goal.returns-in_err-bytes-in-Some-clause-call
returns-in_err-bytes-in-Some-clause-call g c =
    let p = err_from_is_err_and c.from_residual-in_err-bytes-in-Some.result c.from_residual-in_err-bytes-in-Some.ensures.1 in
    rw (p.1, p.2) (call_then g.S.Space g.met.S.Space.frame c.in_ok-onode.ensures.call c.in_err-bytes-in-Some.ensures.call)

pub returns-in_err-bytes-in-Some-clause-reads : goal.returns-in_err-bytes-in-Some-clause-reads
returns-in_err-bytes-in-Some-clause-reads g c = only_read-trans c.in_ok-onode.ensures.reads c.in_err-bytes-in-Some.ensures.reads

pub returns-in_ok-bytes-in-Some-clause-reads : goal.returns-in_ok-bytes-in-Some-clause-reads
returns-in_ok-bytes-in-Some-clause-reads g c = only_read-trans c.in_ok-onode.ensures.reads c.in_ok-bytes-in-Some.ensures.reads

pub returns-in_ok-bytes-in-Some-clause-call : goal.returns-in_ok-bytes-in-Some-clause-call
returns-in_ok-bytes-in-Some-clause-call g c = call_then g.S.Space g.met.S.Space.frame c.in_ok-onode.ensures.call c.in_ok-bytes-in-Some.ensures.call

pub returns-in_ok-bytes-in-Some-clause-does : goal.returns-in_ok-bytes-in-Some-clause-does
returns-in_ok-bytes-in-Some-clause-does g c =
    let old = g.S.Space.seen c.args.space.now in
    let mid = g.S.Space.seen c.find.new.space in
    let new = g.S.Space.seen c.read.new.space in
    let name = c.args.name.now in
    let first = c.in_ok-onode.ensures.reads in
    let later = c.in_ok-bytes-in-Some.ensures.reads in
    let finds = rw c.in-Some.is at c.in_ok-onode.ensures.found in
    asks (Read name c.args.offset c.args.length) (Bytes c.in_ok-bytes-in-Some.bytes) old new (only_read-trans first later) (λ objects. refl) refl (λ o. refl)
    (λ store next objects m.
    told (Read name c.args.offset c.args.length) (Bytes c.in_ok-bytes-in-Some.bytes) (laid old store) c.in-Some.onode (map.get objects name)
    (found store next objects old mid new first later m name (Some c.in-Some.onode) finds)
    (λ o is. ap Bytes (c.in_ok-bytes-in-Some.ensures.bytes store m.agrees ∙ ap (λ (s : Store). take c.args.length (drop c.args.offset (bytes_of s c.in-Some.onode.base.0 c.in-Some.onode.size))) (one_store first store) ∙ ap (λ (bytes : List ℕ). take c.args.length (drop c.args.offset bytes)) (sym is.bytes))))

pub returns-in_err-onode-clause-failure : goal.returns-in_err-onode-clause-failure
returns-in_err-onode-clause-failure g c =
    let p = err_from_is_err_and c.from_residual.result c.from_residual.ensures.1 in
    rw (p.1, p.2) (find_fails c.args.name.now (g.S.Space.seen c.args.space.now) (g.S.Space.seen c.find.new.space) c.in_err-onode.field-0.0 c.in_err-onode.ensures.reads c.in_err-onode.ensures.fault)
