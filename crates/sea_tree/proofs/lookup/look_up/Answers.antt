use Rattle.sea_base.proofs.Calling.{call_then}
use Rattle.std.proofs.Common.{[], refl, arith}
use Rattle.std.proofs.lemmas.Result.{err_from_is_err_and}
use Rattle.sea_base.proofs.Spaces.{only_read-trans, known_later}
use Rattle.sea_tree.specs.Tree.{root_bounds}
use Rattle.sea_tree.specs.Place.{meant}
use Rattle.sea_tree.proofs.PathSteps.{root_fault, comes_first}
use Rattle.sea_tree.proofs.OnPaths.{reads_root, reads_further}
use Rattle.sea_tree.proofs.Lookups.{found_some, found_further, looks_on_path, look_fault, leaf_held, whole_leaf}
use Rattle.sea_tree.proofs.lookup.look_up.Goals as goal

pub returns-in_err-sight-clause-fault : goal.returns-in_err-sight-clause-fault
returns-in_err-sight-clause-fault g c =
    let p = err_from_is_err_and c.from_residual.result c.from_residual.ensures.1 in
    rw (p.1, p.2) (root_fault (g.S.Space.seen c.args.space.now) (g.S.Space.seen c.look_at_root.new.space) c.args.root.0 c.args.key.now c.in_err-sight.ensures.reads (g.met.S.Space.sound c.look_at_root.new.space) c.in_err-sight.field-0.0 c.in_err-sight.ensures.fault)

pub down-init : goal.down-init
down-init g c =
    let seen = g.S.Space.seen c.look_at_root.new.space in
    let told = rw c.in-Some.is at c.in_ok-sight.ensures.node in
    record {
      down = record {
        looks = record {
          steps = [];
          at = c.args.root.0;
          bounds = root_bounds;
          entries = told.0;
          down = comes_first seen c.args.root.0 c.args.key.now [] c.in-Some.sight.lookup.level root_bounds told.0 refl refl told.1 c.in_ok-sight.ensures.known c.bytes.ensures.name;
          upper_is = refl;
          tells = told.2;
        };
        is = rw c.in-Some.is at c.in_ok-sight.ensures.here;
      };
      root = c.in_ok-sight.ensures.known;
      within = reads_root c.args.root.0 c.args.key.now (g.S.Space.seen c.args.space.now) seen c.in_ok-sight.ensures.one;
      reads = c.in_ok-sight.ensures.reads;
      call = c.in_ok-sight.ensures.call;
    }

pub child_of-bounds-requires : goal.child_of-bounds-requires
child_of-bounds-requires g c = found_some (g.S.Space.seen c.down.space) c.args.root.0 c.args.key.now c.down.upper c.down.sight.lookup c.down-test.true c.down.invariant.down.looks

pub returns-in_err-sight-2-clause-fault : goal.returns-in_err-sight-2-clause-fault
returns-in_err-sight-2-clause-fault g c =
    let p = err_from_is_err_and c.from_residual-in_err-sight-2.result c.from_residual-in_err-sight-2.ensures.1 in
    let before = c.down.invariant in
    rw (p.1, p.2) (look_fault (g.S.Space.seen c.down.space) (g.S.Space.seen c.look_at.new.space) c.args.root.0 c.args.key.now c.down.upper c.down.sight.lookup c.down-test.true before.down.looks c.child_of-bounds.result.0.0 (meant c.child_of-bounds.result.1)
    c.child_of-bounds.ensures.address c.child_of-bounds.ensures.bounds c.look_at.ensures.reads (g.S.Space.seen c.args.space.now) (only_read-trans before.reads c.look_at.ensures.reads) (g.met.S.Space.sound c.look_at.new.space)
    c.in_err-sight-2.field-0.0 c.in_err-sight-2.ensures.fault)

pub returns-in_err-sight-2-clause-reads : goal.returns-in_err-sight-2-clause-reads
returns-in_err-sight-2-clause-reads g c = only_read-trans c.down.invariant.reads c.look_at.ensures.reads

pub down-preserved-in_ok-sight-2 : goal.down-preserved-in_ok-sight-2
down-preserved-in_ok-sight-2 g c =
    let before = c.down.invariant in
    let told = c.in_ok-sight-2.ensures.node in
    record {
      down = found_further (g.S.Space.seen c.down.space) (g.S.Space.seen c.look_at.new.space) c.args.root.0 c.args.key.now c.down.upper c.down.sight.lookup c.down-test.true before.down.looks c.child_of-bounds.result.0.0 (meant c.child_of-bounds.result.1)
          c.child_of-bounds.ensures.address c.child_of-bounds.ensures.bounds c.look_at.ensures.reads c.in_ok-sight-2.sight told.0 c.in_ok-sight-2.ensures.level told.1 told.2 c.in_ok-sight-2.ensures.known c.in_ok-sight-2.ensures.here;
      root = known_later c.look_at.ensures.reads c.args.root.0 before.root;
      within = reads_further c.args.root.0 c.args.key.now c.child_of-bounds.result.0.0 (g.S.Space.seen c.args.space.now) (g.S.Space.seen c.down.space) (g.S.Space.seen c.look_at.new.space) before.within c.look_at.ensures.one
          (looks_on_path (g.S.Space.seen c.down.space) (g.S.Space.seen c.look_at.new.space) c.args.root.0 c.args.key.now c.down.upper c.down.sight.lookup c.down-test.true before.down.looks c.child_of-bounds.result.0.0 (meant c.child_of-bounds.result.1)
          c.child_of-bounds.ensures.address c.child_of-bounds.ensures.bounds c.look_at.ensures.reads (g.S.Space.seen c.args.space.now) (only_read-trans before.reads c.look_at.ensures.reads) (g.met.S.Space.sound c.look_at.new.space));
      reads = only_read-trans before.reads c.look_at.ensures.reads;
      call = call_then g.S.Space g.met.S.Space.frame before.call c.in_ok-sight-2.ensures.call;
    }

pub down-preserved : goal.down-preserved
down-preserved g c =
    let before = c.down.invariant in
    let told = c.in_ok-sight-2.ensures.node in
    record {
      down = found_further (g.S.Space.seen c.down.space) (g.S.Space.seen c.look_at.new.space) c.args.root.0 c.args.key.now c.down.upper c.down.sight.lookup c.down-test.true before.down.looks c.child_of-bounds.result.0.0 (meant c.child_of-bounds.result.1)
          c.child_of-bounds.ensures.address c.child_of-bounds.ensures.bounds c.look_at.ensures.reads c.in_ok-sight-2.sight told.0 c.in_ok-sight-2.ensures.level told.1 told.2 c.in_ok-sight-2.ensures.known c.in_ok-sight-2.ensures.here;
      root = known_later c.look_at.ensures.reads c.args.root.0 before.root;
      within = reads_further c.args.root.0 c.args.key.now c.child_of-bounds.result.0.0 (g.S.Space.seen c.args.space.now) (g.S.Space.seen c.down.space) (g.S.Space.seen c.look_at.new.space) before.within c.look_at.ensures.one
          (looks_on_path (g.S.Space.seen c.down.space) (g.S.Space.seen c.look_at.new.space) c.args.root.0 c.args.key.now c.down.upper c.down.sight.lookup c.down-test.true before.down.looks c.child_of-bounds.result.0.0 (meant c.child_of-bounds.result.1)
          c.child_of-bounds.ensures.address c.child_of-bounds.ensures.bounds c.look_at.ensures.reads (g.S.Space.seen c.args.space.now) (only_read-trans before.reads c.look_at.ensures.reads) (g.met.S.Space.sound c.look_at.new.space));
      reads = only_read-trans before.reads c.look_at.ensures.reads;
      call = call_then g.S.Space g.met.S.Space.frame before.call c.in_ok-sight-2.ensures.call;
    }

pub returns-clause-leaf : goal.returns-clause-leaf
returns-clause-leaf g c = leaf_held (g.S.Space.seen c.down.space) c.args.root.0 c.args.key.now c.down.upper c.down.sight c.value_of.result (omega (arith, c.down-test.false)) c.down.invariant.down c.value_of.ensures

pub returns-clause-whole : goal.returns-clause-whole
returns-clause-whole g c =
    let seen = g.S.Space.seen c.down.space in
    let end = c.down.invariant in
    let leaf = leaf_held seen c.args.root.0 c.args.key.now c.down.upper c.down.sight c.value_of.result (omega (arith, c.down-test.false)) end.down c.value_of.ensures in
    whole_leaf (g.S.Space.seen c.args.space.now) seen c.args.root.0 c.args.key.now _ end.reads (g.met.S.Space.sound c.down.space) leaf

pub returns-in_err-sight-clause-within : goal.returns-in_err-sight-clause-within
returns-in_err-sight-clause-within g c = reads_root c.args.root.0 c.args.key.now (g.S.Space.seen c.args.space.now) (g.S.Space.seen c.look_at_root.new.space) c.in_err-sight.ensures.one

pub returns-in_default-clause-within : goal.returns-in_default-clause-within
returns-in_default-clause-within g c = reads_root c.args.root.0 c.args.key.now (g.S.Space.seen c.args.space.now) (g.S.Space.seen c.look_at_root.new.space) c.in_ok-sight.ensures.one

pub returns-in_err-sight-2-clause-within : goal.returns-in_err-sight-2-clause-within
returns-in_err-sight-2-clause-within g c =
    let before = c.down.invariant in
    reads_further c.args.root.0 c.args.key.now c.child_of-bounds.result.0.0 (g.S.Space.seen c.args.space.now) (g.S.Space.seen c.down.space) (g.S.Space.seen c.look_at.new.space) before.within c.look_at.ensures.one
    (looks_on_path (g.S.Space.seen c.down.space) (g.S.Space.seen c.look_at.new.space) c.args.root.0 c.args.key.now c.down.upper c.down.sight.lookup c.down-test.true before.down.looks c.child_of-bounds.result.0.0 (meant c.child_of-bounds.result.1)
    c.child_of-bounds.ensures.address c.child_of-bounds.ensures.bounds c.look_at.ensures.reads (g.S.Space.seen c.args.space.now) (only_read-trans before.reads c.look_at.ensures.reads) (g.met.S.Space.sound c.look_at.new.space))

pub returns-in_err-sight-2-clause-call : goal.returns-in_err-sight-2-clause-call
returns-in_err-sight-2-clause-call g c =
    let p = err_from_is_err_and c.from_residual-in_err-sight-2.result c.from_residual-in_err-sight-2.ensures.1 in
    rw (p.1, p.2) (call_then g.S.Space g.met.S.Space.frame c.down.invariant.call c.in_err-sight-2.ensures.call)
