use Rattle.sea_base.proofs.Calling.{call_then}
use Rattle.std.proofs.Common.{[], refl}
use Rattle.std.proofs.lemmas.Result.{err_from_is_err_and}
use Rattle.sea_base.proofs.Spaces.{only_read-trans, known_later}
use Rattle.sea_tree.specs.Tree.{root_bounds}
use Rattle.sea_tree.proofs.PathSteps.{root_fault, comes_first}
use Rattle.sea_tree.proofs.OnPaths.{reads_root}
use Rattle.sea_tree.proofs.Cursors.{path_reads_then, path_fault_then}
use Rattle.sea_tree.proofs.cursor.Cursor.seek.Goals as goal

pub returns-in_err-sight-clause-fault : goal.returns-in_err-sight-clause-fault
returns-in_err-sight-clause-fault g c =
    let p = err_from_is_err_and c.from_residual.result c.from_residual.ensures.1 in
    rw (p.1, p.2) (root_fault (g.S.Space.seen c.args.space.now) (g.S.Space.seen c.look_at_root.new.space) c.args.root.0 c.args.key.now c.in_err-sight.ensures.reads (g.met.S.Space.sound c.look_at_root.new.space) c.in_err-sight.field-0.0 c.in_err-sight.ensures.fault)

pub go_down-requires-clause-found : goal.go_down-requires-clause-found
go_down-requires-clause-found g c =
    let told = rw c.in-Some.is at c.in_ok-sight.ensures.node in
    record {
      looks = record {
        steps = [];
        at = c.args.root.0;
        bounds = root_bounds;
        entries = told.0;
        down = comes_first (g.S.Space.seen c.look_at_root.new.space) c.args.root.0 c.args.key.now [] c.in-Some.sight.lookup.level root_bounds told.0 refl refl told.1 c.in_ok-sight.ensures.known c.bytes.ensures.name;
        upper_is = refl;
        tells = told.2;
      };
      is = rw c.in-Some.is at c.in_ok-sight.ensures.here;
    }

pub returns-in_err-cursor-clause-fault : goal.returns-in_err-cursor-clause-fault
returns-in_err-cursor-clause-fault g c =
    let p = err_from_is_err_and c.from_residual-in_err-cursor.result c.from_residual-in_err-cursor.ensures.1 in
    rw (p.1, p.2) (path_fault_then c.args.root.0 c.args.key.now (g.S.Space.seen c.args.space.now) (g.S.Space.seen c.look_at_root.new.space) (g.S.Space.seen c.go_down.new.space) c.in_err-cursor.field-0.0 c.in_ok-sight.ensures.reads c.in_err-cursor.ensures.fault)

pub returns-in_err-cursor-clause-within : goal.returns-in_err-cursor-clause-within
returns-in_err-cursor-clause-within g c =
    path_reads_then c.args.root.0 c.args.key.now (g.S.Space.seen c.args.space.now) (g.S.Space.seen c.look_at_root.new.space) (g.S.Space.seen c.go_down.new.space) c.in_ok-sight.ensures.reads c.go_down.ensures.reads (reads_root c.args.root.0 c.args.key.now (g.S.Space.seen c.args.space.now) (g.S.Space.seen c.look_at_root.new.space) c.in_ok-sight.ensures.one) c.go_down.ensures.within

pub returns-in_err-cursor-clause-reads : goal.returns-in_err-cursor-clause-reads
returns-in_err-cursor-clause-reads g c = only_read-trans c.in_ok-sight.ensures.reads c.go_down.ensures.reads

pub returns-in_err-cursor-clause-call : goal.returns-in_err-cursor-clause-call
returns-in_err-cursor-clause-call g c =
    let p = err_from_is_err_and c.from_residual-in_err-cursor.result c.from_residual-in_err-cursor.ensures.1 in
    rw (p.1, p.2) (call_then g.S.Space g.met.S.Space.frame c.in_ok-sight.ensures.call c.in_err-cursor.ensures.call)

pub returns-clause-known : goal.returns-clause-known
returns-clause-known g c = known_later c.go_down.ensures.reads c.args.root.0 c.in_ok-sight.ensures.known

pub returns-clause-within : goal.returns-clause-within
returns-clause-within g c =
    path_reads_then c.args.root.0 c.args.key.now (g.S.Space.seen c.args.space.now) (g.S.Space.seen c.look_at_root.new.space) (g.S.Space.seen c.go_down.new.space) c.in_ok-sight.ensures.reads c.go_down.ensures.reads (reads_root c.args.root.0 c.args.key.now (g.S.Space.seen c.args.space.now) (g.S.Space.seen c.look_at_root.new.space) c.in_ok-sight.ensures.one) c.go_down.ensures.within

pub returns-clause-reads : goal.returns-clause-reads
returns-clause-reads g c = only_read-trans c.in_ok-sight.ensures.reads c.go_down.ensures.reads

pub returns-clause-call : goal.returns-clause-call
returns-clause-call g c = call_then g.S.Space g.met.S.Space.frame c.in_ok-sight.ensures.call c.in_ok-cursor.ensures.call
