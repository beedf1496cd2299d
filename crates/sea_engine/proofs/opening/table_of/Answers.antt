use Rattle.std.proofs.Common.{◌+◌, List, [], length, drop, sym, ap, ◌∙◌, subst}
use Rattle.std.proofs.lemmas.Bool.{false≢true}
use Rattle.std.proofs.lemmas.List.{drop_more, drop_all, length-replicate}
use Rattle.sea_segment.specs.Table.{fresh}
use Rattle.sea_segment.specs.declared.state.Segment.{Segment}
use Rattle.sea_trail.specs.Trail.{AreHeaders}
use Rattle.sea_journal.specs.Resume.{opened}
use Rattle.sea_journal.specs.Rolls.{InTable}
use Rattle.sea_journal.proofs.Tables.{length-with_state}
use Rattle.sea_engine.specs.Mounting.{UsesNoOther}
use Rattle.sea_engine.proofs.Tables.{Covers, covers_none, covers_skipped, covers_closed, covers_all, covers_only}
use Rattle.sea_engine.proofs.opening.table_of.Goals as goal

pub loop-header-init : goal.loop-header-init
loop-header-init c = record {
  count = ap (λ (x : List Segment). length x) c.in_ok-table.ensures ∙ length-replicate c.args.trail.now.segments fresh;
  covers = λ image are. subst (λ (x : List Segment). Covers image c.args.trail.now x c.items-headers.result.now) (sym c.in_ok-table.ensures) (covers_none image c.args.trail.now c.items-headers.result.now are);
}

pub loop-header-preserved-then-not-is_from_tail : goal.loop-header-preserved-then-not-is_from_tail
loop-header-preserved-then-not-is_from_tail c = record {
  count = c.loop-header.invariant.count;
  covers = λ image are.
      covers_skipped image c.args.trail.now c.loop-header.table _ _ _ (drop_more c.items-headers.result.now c.loop-header.header-index _ c.loop-header-test.true) (c.loop-header.invariant.covers image are) (λ from. false≢true (sym c.if-not-is_from_tail.true ∙ c.is_from_tail.ensures.1 from));
}

pub loop-header-preserved : goal.loop-header-preserved
loop-header-preserved c = record {
  count = ap (λ (x : List Segment). length x) c.set.ensures ∙ length-with_state c.loop-header.table _ _ ∙ c.loop-header.invariant.count;
  covers = λ image are.
      subst (λ (x : List Segment). Covers image c.args.trail.now x (drop (c.loop-header.header-index + 1) c.items-headers.result.now)) (sym c.set.ensures)
      (covers_closed image c.args.trail.now c.loop-header.table _ _ _ (drop_more c.items-headers.result.now c.loop-header.header-index _ c.loop-header-test.true) (c.loop-header.invariant.covers image are) c.loop-header.invariant.count (c.is_from_tail.ensures.0 c.if-not-is_from_tail.false));
}

pub returns-clause-in_table : goal.returns-clause-in_table
returns-clause-in_table c = λ image is.
    let t = c.args.trail.now in
    let headers : AreHeaders image 0 t.segments c.items-headers.result.now = subst (AreHeaders image 0 t.segments) (sym c.items-headers.ensures) is.headers in
    let left : Covers image t c.loop-header.table [] = subst (Covers image t c.loop-header.table) (drop_all c.loop-header.header-index c.items-headers.result.now c.loop-header-test.false) (c.loop-header.invariant.covers image headers) in
    subst (InTable (opened image t)) (sym c.set-2.ensures) (covers_all image t c.loop-header.table c.loop-header.invariant.count c.requires is left)

pub returns-clause-no_other : goal.returns-clause-no_other
returns-clause-no_other c = λ image is.
    let t = c.args.trail.now in
    let headers : AreHeaders image 0 t.segments c.items-headers.result.now = subst (AreHeaders image 0 t.segments) (sym c.items-headers.ensures) is.headers in
    let left : Covers image t c.loop-header.table [] = subst (Covers image t c.loop-header.table) (drop_all c.loop-header.header-index c.items-headers.result.now c.loop-header-test.false) (c.loop-header.invariant.covers image headers) in
    subst (UsesNoOther image t) (sym c.set-2.ensures) (covers_only image t c.loop-header.table c.loop-header.invariant.count c.requires is left)
