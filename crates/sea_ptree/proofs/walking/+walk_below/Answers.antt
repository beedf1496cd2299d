use Rattle.std.proofs.Common.{◌<◌, ◌+◌, ◌-◌, ℕ, length-append, [], ◌∷◌, ◌++◌, Some, length, refl, sym, subst, ap, ◌∙◌, arith, inl, inr}
use Rattle.std.proofs.lemmas.Bool.{false≢true}
use Rattle.std.proofs.lemmas.Result.{err_from_is_err_and}
use Rattle.sea_ptree.specs.Blocks.{Keeps}
use Rattle.sea_ptree.specs.Tree.{Has}
use Rattle.sea_ptree.proofs.Reaching.{fault_here, fault_step, want_here, keeps_on}
use Rattle.sea_ptree.proofs.Searches.{view_next}
use Rattle.sea_ptree.proofs.Visits.{ReadTo, read_none, read_more, read_full, read_all, takes_at, walks_on}
use Rattle.sea_ptree.proofs.Walks.{WalkedTo, next_has, walked_none, walked_full, walked_all, walked_step, walked_leaf, walked_by}
use Rattle.sea_ptree.proofs.walking.+walk_below.Goals as goal
use Rattle.sea_ptree.proofs.walking.+walk_below.Goals.{then-level-gt0+in_ok-walk_below, else-level-gt0+then-key-from+then-is_below+in_ok-push, else-level-gt0+else-key-from, else-key-from-via-then-key-from+else-is_below, else-key-from-via-else-key-from}

pub returns-in_err-view-clause-fault : goal.returns-in_err-view-clause-fault
returns-in_err-view-clause-fault g t c =
    let p = err_from_is_err_and c.from_residual.result c.from_residual.ensures.1 in
    rw (p.1, p.2) (fault_here Has c.args.kind (g.B.Blocks.held c.args.blocks.now) (g.B.Blocks.held c.read.new.blocks) c.args.level c.args.link c.in_err-view.field-0.0 c.in_err-view.ensures.fault)

pub loop-index-init : goal.loop-index-init
loop-index-init g t c =
    let n = c.in_ok-view.ensures.node in
    record {
      few = c.requires.few;
      walked = λ told. subst (λ (i : ℕ). WalkedTo c.args.kind (g.B.Blocks.held c.args.blocks.now).image c.args.link c.args.from c.args.limit c.args.run.now c.args.level i c.args.run.now) (sym c.saturating_sub-start.ensures)
          (walked_none c.args.kind (g.B.Blocks.held c.args.blocks.now).image c.args.link c.args.from c.args.limit c.args.run.now c.args.level c.count_upto.result n.0 (n.2 told) c.requires.few (c.count_upto.ensures.split c.args.kind c.args.level n.0 n.1));
      reads = λ told. read_none c.args.kind (g.B.Blocks.held c.args.blocks.now).image c.args.link c.args.from c.args.limit c.args.level c.saturating_sub-start.result c.args.run.now;
      kept = c.in_ok-view.ensures.kept.0;
      counted = c.in_ok-view.ensures.kept.1;
    }

pub returns-then-items-limit-clause-few : goal.returns-then-items-limit-clause-few
returns-then-items-limit-clause-few g t c = c.loop-index.invariant.few

pub returns-then-items-limit-clause-taken : goal.returns-then-items-limit-clause-taken
returns-then-items-limit-clause-taken g t c told =
    walked_full c.args.kind (g.B.Blocks.held c.args.blocks.now).image c.args.link c.args.from c.args.limit c.args.run.now c.args.level c.loop-index.index c.loop-index.run (omega (arith, c.if-items-limit.true, ap length c.items.ensures.items)) (c.loop-index.invariant.walked told)

pub returns-then-items-limit-clause-walks : goal.returns-then-items-limit-clause-walks
returns-then-items-limit-clause-walks g t c told =
    let n = c.in_ok-view.ensures.node in
    read_full c.args.kind (g.B.Blocks.held c.args.blocks.now).image c.args.link c.args.from c.args.limit c.args.level c.count_upto.result c.saturating_sub-start.result c.loop-index.index n.0 c.args.run.now c.loop-index.run (n.2 told) (c.count_upto.ensures.split c.args.kind c.args.level n.0 n.1) c.saturating_sub-start.ensures
    (omega (arith, c.if-items-limit.true, ap length c.items.ensures.items)) (c.loop-index.invariant.reads told)

pub returns-then-items-limit-clause-kept : goal.returns-then-items-limit-clause-kept
returns-then-items-limit-clause-kept g t c = (c.loop-index.invariant.kept, c.loop-index.invariant.counted)

pub returns-in_err-push-clause-fault : goal.returns-in_err-push-clause-fault
returns-in_err-push-clause-fault g t c =
    let p = err_from_is_err_and c.from_residual-in_err-push.result c.from_residual-in_err-push.ensures.1 in
    rw (p.1, p.2) (want_here Has c.args.kind (g.B.Blocks.held c.args.blocks.now) (g.B.Blocks.held c.loop-index.blocks) c.args.level c.args.link c.loop-index.invariant.counted)

pub returns-clause-few : goal.returns-clause-few
returns-clause-few g t c = c.loop-index.invariant.few

pub returns-clause-taken : goal.returns-clause-taken
returns-clause-taken g t c told =
    let n = c.in_ok-view.ensures.node in
    walked_all c.args.kind (g.B.Blocks.held c.args.blocks.now).image c.args.link c.args.from c.args.limit c.args.run.now c.args.level c.loop-index.index c.loop-index.run n.0 (n.2 told) (omega (arith, c.loop-index-test.false, n.1.count)) (c.loop-index.invariant.walked told)

pub returns-clause-walks : goal.returns-clause-walks
returns-clause-walks g t c told =
    let n = c.in_ok-view.ensures.node in
    read_all c.args.kind (g.B.Blocks.held c.args.blocks.now).image c.args.link c.args.from c.args.limit c.args.level c.count_upto.result c.saturating_sub-start.result c.loop-index.index n.0 c.args.run.now c.loop-index.run (n.2 told) (c.count_upto.ensures.split c.args.kind c.args.level n.0 n.1) c.saturating_sub-start.ensures
    (omega (arith, c.loop-index-test.false, n.1.count)) (c.loop-index.invariant.reads told)

pub returns-clause-kept : goal.returns-clause-kept
returns-clause-kept g t c = (c.loop-index.invariant.kept, c.loop-index.invariant.counted)

pub returns-in_err-walk_below-clause-fault : goal.returns-in_err-walk_below-clause-fault
returns-in_err-walk_below-clause-fault g t c =
    let p = err_from_is_err_and c.from_residual-in_err-walk_below.result c.from_residual-in_err-walk_below.ensures.1 in
    let n = c.in_ok-view.ensures.node in
    let before = c.loop-index.invariant in
    let next = view_next c.args.kind c.args.level c.in_ok-view.view n.0 c.loop-index.index c.entry_at-key.result n.1 c.entry_at-key.ensures.length (omega (arith, c.loop-index-test.true, n.1.count)) c.entry_at-key.ensures.fits c.entry_at-key.ensures.spelled in
    rw (p.1, p.2) (fault_step Has c.args.kind (g.B.Blocks.held c.args.blocks.now) (g.B.Blocks.held c.loop-index.blocks) (g.B.Blocks.held c.walk_below.new.blocks) c.args.level (c.args.level - 1) c.args.link c.of.result n.0 c.entry_at-key.result c.in_err-walk_below.field-0.0 (omega arith) c.of.ensures
    before.kept before.counted n.2 (next_has n.0 c.loop-index.index c.entry_at-key.result next) c.in_err-walk_below.ensures.fault)

pub returns-in_err-walk_below-clause-kept : goal.returns-in_err-walk_below-clause-kept
returns-in_err-walk_below-clause-kept g t c =
    let p = err_from_is_err_and c.from_residual-in_err-walk_below.result c.from_residual-in_err-walk_below.ensures.1 in
    rw (p.1) (keeps_on (g.B.Blocks.held c.args.blocks.now) (g.B.Blocks.held c.loop-index.blocks) (g.B.Blocks.held c.walk_below.new.blocks) c.loop-index.invariant.kept c.in_err-walk_below.ensures.kept)

pub returns-in_err-push-clause-kept : goal.returns-in_err-push-clause-kept
returns-in_err-push-clause-kept g t c =
    let p = err_from_is_err_and c.from_residual-in_err-push.result c.from_residual-in_err-push.ensures.1 in
    rw (p.1) c.loop-index.invariant.kept

pub loop-index-preserved : goal.loop-index-preserved
loop-index-preserved g t c =
    let n = c.in_ok-view.ensures.node in
    let old = g.B.Blocks.held c.args.blocks.now in
    let mid = g.B.Blocks.held c.loop-index.blocks in
    let before = c.loop-index.invariant in
    let e = c.entry_at-key.result in
    let lt : c.loop-index.index < length n.0 = omega (arith, c.loop-index-test.true, n.1.count) in
    let next = view_next c.args.kind c.args.level c.in_ok-view.view n.0 c.loop-index.index c.entry_at-key.result n.1 c.entry_at-key.ensures.length (omega (arith, c.loop-index-test.true, n.1.count)) c.entry_at-key.ensures.fits c.entry_at-key.ensures.spelled in
    let few : length c.loop-index.run < c.args.limit = omega (arith, c.if-items-limit.false, ap length c.items.ensures.items) in
    elim c.if-level-gt0.branch [
      | then-level-gt0+in_ok-walk_below w ↦ record {
        few = omega (arith, ap length w.run-is, w.in_ok-walk_below.ensures.few);
        walked = λ told. subst (WalkedTo c.args.kind old.image c.args.link c.args.from c.args.limit c.args.run.now c.args.level (c.loop-index.index + 1)) (sym w.run-is)
            (walked_step c.args.kind old mid c.args.level (c.args.level - 1) c.args.link w.of.result c.args.from c.args.limit c.args.run.now c.loop-index.index c.loop-index.run w.walk_below.new.run n.0 c.entry_at-key.result before.kept (omega (arith, w.if-level-gt0.true)) w.of.ensures (n.2 told) lt next few (before.walked told)
            (w.in_ok-walk_below.ensures.taken (before.kept.tells ∙ told)));
        reads = λ told. subst (ReadTo c.args.kind old.image c.args.link c.args.from c.args.limit c.args.level c.saturating_sub-start.result (c.loop-index.index + 1) c.args.run.now) (sym w.run-is)
            (read_more c.args.kind old.image c.args.link c.args.from c.args.limit c.args.level c.saturating_sub-start.result c.loop-index.index n.0 c.entry_at-key.result c.args.run.now c.loop-index.run w.walk_below.new.run (n.2 told) next c.loop-index.auto.index lt few (before.reads told)
            (walks_on c.args.kind old mid c.args.from c.args.limit c.args.level (c.args.level - 1) w.of.result c.entry_at-key.result c.loop-index.run w.walk_below.new.run before.kept (omega (arith, w.if-level-gt0.true)) w.of.ensures (w.in_ok-walk_below.ensures.walks (before.kept.tells ∙ told))));
        kept = subst (λ b. Keeps old (g.B.Blocks.held b)) (sym w.blocks-is) (keeps_on old mid (g.B.Blocks.held w.walk_below.new.blocks) before.kept w.in_ok-walk_below.ensures.kept.0);
        counted = ap (λ b. (g.B.Blocks.held b).faults) w.blocks-is ∙ w.in_ok-walk_below.ensures.kept.1 ∙ before.counted;
      }
      | else-level-gt0+then-key-from+then-is_below+in_ok-push w ↦ record {
        few = omega (arith, ap length w.run-is, ap length w.in_ok-push.ensures.ok, length-append c.loop-index.run ((e.0, Some e.1) ∷ []));
        walked = λ told. subst (WalkedTo c.args.kind old.image c.args.link c.args.from c.args.limit c.args.run.now c.args.level (c.loop-index.index + 1)) (sym (w.run-is ∙ w.in_ok-push.ensures.ok))
            (walked_leaf c.args.kind old.image c.args.link c.args.from c.args.limit c.args.run.now c.args.level c.loop-index.index c.loop-index.run n.0 c.entry_at-key.result (omega (arith, w.if-level-gt0.false)) (n.2 told) lt next few (before.walked told) w.if-key-from.true);
        reads = λ told. subst (ReadTo c.args.kind old.image c.args.link c.args.from c.args.limit c.args.level c.saturating_sub-start.result (c.loop-index.index + 1) c.args.run.now) (sym (w.run-is ∙ w.in_ok-push.ensures.ok))
            (read_more c.args.kind old.image c.args.link c.args.from c.args.limit c.args.level c.saturating_sub-start.result c.loop-index.index n.0 c.entry_at-key.result c.args.run.now c.loop-index.run (c.loop-index.run ++ (e.0, Some e.1) ∷ []) (n.2 told) next c.loop-index.auto.index lt few (before.reads told)
            (takes_at c.args.kind old.image c.args.from c.args.limit c.args.level c.entry_at-key.result c.loop-index.run (c.loop-index.run ++ (e.0, Some e.1) ∷ []) (omega (arith, w.if-level-gt0.false)) (inl (w.if-key-from.true, (w.is_below.ensures (Some e.1)).0 w.if-is_below.true, refl))));
        kept = subst (λ b. Keeps old (g.B.Blocks.held b)) (sym w.blocks-is) before.kept;
        counted = ap (λ b. (g.B.Blocks.held b).faults) w.blocks-is ∙ before.counted;
      }
      | else-level-gt0+else-key-from w ↦ record {
        few = omega (arith, ap length w.run-is, before.few);
        walked = λ told. subst (WalkedTo c.args.kind old.image c.args.link c.args.from c.args.limit c.args.run.now c.args.level (c.loop-index.index + 1)) (sym w.run-is)
            (walked_by c.args.kind old.image c.args.link c.args.from c.args.limit c.args.run.now c.args.level c.loop-index.index c.loop-index.run n.0 c.entry_at-key.result (omega (arith, w.if-level-gt0.false)) (n.2 told) lt next few (before.walked told) (λ le rises. elim w.else-key-from.branch [
              | else-key-from-via-then-key-from+else-is_below w' ↦ false≢true (sym w'.if-is_below.false ∙ (w'.is_below.ensures (Some e.1)).1 rises)
              | else-key-from-via-else-key-from w' ↦ omega (arith, w'.if-key-from.false)
            ]));
        reads = λ told. subst (ReadTo c.args.kind old.image c.args.link c.args.from c.args.limit c.args.level c.saturating_sub-start.result (c.loop-index.index + 1) c.args.run.now) (sym w.run-is)
            (read_more c.args.kind old.image c.args.link c.args.from c.args.limit c.args.level c.saturating_sub-start.result c.loop-index.index n.0 c.entry_at-key.result c.args.run.now c.loop-index.run c.loop-index.run (n.2 told) next c.loop-index.auto.index lt few (before.reads told)
            (takes_at c.args.kind old.image c.args.from c.args.limit c.args.level c.entry_at-key.result c.loop-index.run c.loop-index.run (omega (arith, w.if-level-gt0.false)) (inr (
              λ le rises. elim w.else-key-from.branch [
                | else-key-from-via-then-key-from+else-is_below w' ↦ false≢true (sym w'.if-is_below.false ∙ (w'.is_below.ensures (Some e.1)).1 rises)
                | else-key-from-via-else-key-from w' ↦ omega (arith, w'.if-key-from.false)
              ],
              refl,
            ))));
        kept = subst (λ b. Keeps old (g.B.Blocks.held b)) (sym w.blocks-is) before.kept;
        counted = ap (λ b. (g.B.Blocks.held b).faults) w.blocks-is ∙ before.counted;
      }
    ]
