use Rattle.sea_base.proofs.Calling.{call_then}
use Rattle.std.proofs.Common.{reverse, refl, arith}
use Rattle.std.proofs.lemmas.Result.{err_from_is_err_and}
use Rattle.sea_base.proofs.Spaces.{only_read-trans}
use Rattle.sea_tree.specs.Place.{meant}
use Rattle.sea_tree.proofs.OnPaths.{reads_further}
use Rattle.sea_tree.proofs.Lookups.{found_some, found_further, looks_on_path, look_fault}
use Rattle.sea_tree.proofs.Cursors.{AreTurns-later, turned_on, leaf_reached}
use Rattle.sea_tree.proofs.cursor.go_down.Goals as goal

pub turn_off-requires : goal.turn_off-requires
turn_off-requires g c = found_some (g.S.Space.seen c.down.space) c.args.root.0 c.args.key.now c.down.upper c.down.sight.lookup c.down-test.true c.down.invariant.found.looks

pub returns-in_err-sight-clause-fault : goal.returns-in_err-sight-clause-fault
returns-in_err-sight-clause-fault g c =
    let p = err_from_is_err_and c.from_residual-in_err-sight.result c.from_residual-in_err-sight.ensures.1 in
    rw (p.1, p.2) (look_fault (g.S.Space.seen c.down.space) (g.S.Space.seen c.look_at.new.space) c.args.root.0 c.args.key.now c.down.upper c.down.sight.lookup c.down-test.true c.down.invariant.found.looks c.in_ok-at.at.0 (meant c.in_ok-at.bounds)
    c.in_ok-at.ensures.address c.in_ok-at.ensures.bounds c.look_at.ensures.reads (g.S.Space.seen c.args.space.now) (only_read-trans c.down.invariant.reads c.look_at.ensures.reads) (g.met.S.Space.sound c.look_at.new.space)
    c.in_err-sight.field-0.0 c.in_err-sight.ensures.fault)

pub returns-in_err-sight-clause-within : goal.returns-in_err-sight-clause-within
returns-in_err-sight-clause-within g c =
    reads_further c.args.root.0 c.args.key.now c.in_ok-at.at.0 (g.S.Space.seen c.args.space.now) (g.S.Space.seen c.down.space) (g.S.Space.seen c.look_at.new.space) c.down.invariant.within c.look_at.ensures.one
    (looks_on_path (g.S.Space.seen c.down.space) (g.S.Space.seen c.look_at.new.space) c.args.root.0 c.args.key.now c.down.upper c.down.sight.lookup c.down-test.true c.down.invariant.found.looks c.in_ok-at.at.0 (meant c.in_ok-at.bounds)
    c.in_ok-at.ensures.address c.in_ok-at.ensures.bounds c.look_at.ensures.reads (g.S.Space.seen c.args.space.now) (only_read-trans c.down.invariant.reads c.look_at.ensures.reads) (g.met.S.Space.sound c.look_at.new.space))

pub returns-in_err-sight-clause-reads : goal.returns-in_err-sight-clause-reads
returns-in_err-sight-clause-reads g c = only_read-trans c.down.invariant.reads c.look_at.ensures.reads

pub returns-in_err-sight-clause-call : goal.returns-in_err-sight-clause-call
returns-in_err-sight-clause-call g c =
    let p = err_from_is_err_and c.from_residual-in_err-sight.result c.from_residual-in_err-sight.ensures.1 in
    rw (p.1, p.2) (call_then g.S.Space g.met.S.Space.frame c.down.invariant.call c.in_err-sight.ensures.call)

pub down-preserved-in_ok-sight : goal.down-preserved-in_ok-sight
down-preserved-in_ok-sight g c =
    let before = c.down.invariant in
    let told = c.in_ok-sight.ensures.node in
    record {
      found = found_further (g.S.Space.seen c.down.space) (g.S.Space.seen c.look_at.new.space) c.args.root.0 c.args.key.now c.down.upper c.down.sight.lookup c.down-test.true c.down.invariant.found.looks c.in_ok-at.at.0 (meant c.in_ok-at.bounds)
          c.in_ok-at.ensures.address c.in_ok-at.ensures.bounds c.look_at.ensures.reads c.in_ok-sight.sight told.0 c.in_ok-sight.ensures.level told.1 told.2 c.in_ok-sight.ensures.known c.in_ok-sight.ensures.here;
      turns = AreTurns-later c.look_at.ensures.reads c.args.root.0 (reverse c.turn_off.new.turns.items) c.in_ok-at.bounds.upper
          (turned_on (g.S.Space.seen c.down.space) c.args.root.0 c.args.key.now c.down.upper c.down.sight c.down-test.true before.found c.down.turns.items c.turn_off.new.turns.items (meant c.in_ok-at.bounds) c.in_ok-at.ensures.bounds c.in_ok-at.ensures.turns before.turns);
      within = reads_further c.args.root.0 c.args.key.now c.in_ok-at.at.0 (g.S.Space.seen c.args.space.now) (g.S.Space.seen c.down.space) (g.S.Space.seen c.look_at.new.space) c.down.invariant.within c.look_at.ensures.one
          (looks_on_path (g.S.Space.seen c.down.space) (g.S.Space.seen c.look_at.new.space) c.args.root.0 c.args.key.now c.down.upper c.down.sight.lookup c.down-test.true c.down.invariant.found.looks c.in_ok-at.at.0 (meant c.in_ok-at.bounds)
          c.in_ok-at.ensures.address c.in_ok-at.ensures.bounds c.look_at.ensures.reads (g.S.Space.seen c.args.space.now) (only_read-trans c.down.invariant.reads c.look_at.ensures.reads) (g.met.S.Space.sound c.look_at.new.space));
      reads = (only_read-trans c.down.invariant.reads c.look_at.ensures.reads);
      call = call_then g.S.Space g.met.S.Space.frame before.call c.in_ok-sight.ensures.call;
    }

pub down-preserved : goal.down-preserved
down-preserved g c =
    let before = c.down.invariant in
    let told = c.in_ok-sight.ensures.node in
    record {
      found = found_further (g.S.Space.seen c.down.space) (g.S.Space.seen c.look_at.new.space) c.args.root.0 c.args.key.now c.down.upper c.down.sight.lookup c.down-test.true c.down.invariant.found.looks c.in_ok-at.at.0 (meant c.in_ok-at.bounds)
          c.in_ok-at.ensures.address c.in_ok-at.ensures.bounds c.look_at.ensures.reads c.in_ok-sight.sight told.0 c.in_ok-sight.ensures.level told.1 told.2 c.in_ok-sight.ensures.known c.in_ok-sight.ensures.here;
      turns = AreTurns-later c.look_at.ensures.reads c.args.root.0 (reverse c.turn_off.new.turns.items) c.in_ok-at.bounds.upper
          (turned_on (g.S.Space.seen c.down.space) c.args.root.0 c.args.key.now c.down.upper c.down.sight c.down-test.true before.found c.down.turns.items c.turn_off.new.turns.items (meant c.in_ok-at.bounds) c.in_ok-at.ensures.bounds c.in_ok-at.ensures.turns before.turns);
      within = reads_further c.args.root.0 c.args.key.now c.in_ok-at.at.0 (g.S.Space.seen c.args.space.now) (g.S.Space.seen c.down.space) (g.S.Space.seen c.look_at.new.space) c.down.invariant.within c.look_at.ensures.one
          (looks_on_path (g.S.Space.seen c.down.space) (g.S.Space.seen c.look_at.new.space) c.args.root.0 c.args.key.now c.down.upper c.down.sight.lookup c.down-test.true c.down.invariant.found.looks c.in_ok-at.at.0 (meant c.in_ok-at.bounds)
          c.in_ok-at.ensures.address c.in_ok-at.ensures.bounds c.look_at.ensures.reads (g.S.Space.seen c.args.space.now) (only_read-trans c.down.invariant.reads c.look_at.ensures.reads) (g.met.S.Space.sound c.look_at.new.space));
      reads = (only_read-trans c.down.invariant.reads c.look_at.ensures.reads);
      call = call_then g.S.Space g.met.S.Space.frame before.call c.in_ok-sight.ensures.call;
    }

pub returns-clause-leaf : goal.returns-clause-leaf
returns-clause-leaf g c =
    leaf_reached (g.S.Space.seen c.down.space) c.args.root.0 c.args.key.now c.down.sight (record { root = c.args.root; turns = c.down.turns; leaf = c.in-Some.leaf; upper = c.down.upper }) refl (omega (arith, c.down-test.false)) c.down.invariant.found (rw c.in-Some.is at c.in_ok-leaf.ensures.some) c.down.invariant.turns
