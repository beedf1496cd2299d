use Rattle.std.proofs.Common.{◌-◌, Some, None, ◌∙◌, arith}
use Rattle.std.proofs.lemmas.Result.{err_from_is_err_and, on_ok_weaker}
use Rattle.sea_ptree.specs.Faults.{IsWhole}
use Rattle.sea_ptree.specs.Tree.{Guides}
use Rattle.sea_ptree.proofs.Guiding.{leads_nowhere, found_none, found_some}
use Rattle.sea_ptree.proofs.Lookups.{held_nowhere}
use Rattle.sea_ptree.proofs.Reaching.{fault_here}
use Rattle.sea_ptree.proofs.Steps.{leads_step, content_step, whole_step, whole_end, leads_end, content_end}
use Rattle.sea_ptree.proofs.lookup.+slot_below.Goals as goal

pub returns-in_err-view-clause-fault : goal.returns-in_err-view-clause-fault
returns-in_err-view-clause-fault g t c =
    let p = err_from_is_err_and c.from_residual.result c.from_residual.ensures.1 in
    rw (p.1, p.2) (fault_here (Guides c.args.key) c.args.kind (g.B.Blocks.held c.args.blocks.now) (g.B.Blocks.held c.read.new.blocks) c.args.level c.args.link c.in_err-view.field-0.0 c.in_err-view.ensures.fault)

pub returns-in_default-clause-leads : goal.returns-in_default-clause-leads
returns-in_default-clause-leads g t c told =
    let n = c.in_ok-view.ensures.node in
    leads_nowhere c.args.kind (g.B.Blocks.held c.args.blocks.now).image c.args.level c.args.link c.args.key n.0 (n.2 told) (c.in_default.ensures c.args.kind c.args.level n.0 n.1)

pub returns-in_default-clause-content : goal.returns-in_default-clause-content
returns-in_default-clause-content g t c told =
    let n = c.in_ok-view.ensures.node in
    held_nowhere c.args.kind (g.B.Blocks.held c.args.blocks.now).image c.args.level c.args.link c.args.key n.0 (n.2 told) (c.in_default.ensures c.args.kind c.args.level n.0 n.1)

pub returns-in_default-clause-whole : goal.returns-in_default-clause-whole
returns-in_default-clause-whole g t c told =
    let n = c.in_ok-view.ensures.node in
    whole_end c.args.kind (g.B.Blocks.held c.args.blocks.now).image c.args.level c.args.link c.args.key n.0 (n.2 told) (c.in_default.ensures c.args.kind c.args.level n.0 n.1)

pub returns-then-level-gt0-clause-leads : goal.returns-then-level-gt0-clause-leads
returns-then-level-gt0-clause-leads g t c told =
    let n = c.in_ok-view.ensures.node in
    let kept = c.in_ok-view.ensures.kept in
    leads_step c.args.kind (g.B.Blocks.held c.args.blocks.now) (g.B.Blocks.held c.read.new.blocks) c.args.level (c.args.level - 1) c.args.link c.of.result c.args.key n.0 (c.in-Some.at, c.in-Some.slot) c.slot_below.result kept (omega arith) c.of.ensures (n.2 told)
    (c.in-Some.ensures c.args.kind c.args.level n.0 n.1) (c.slot_below.ensures.leads (kept.0.tells ∙ told))

pub returns-then-level-gt0-clause-content : goal.returns-then-level-gt0-clause-content
returns-then-level-gt0-clause-content g t c told =
    let n = c.in_ok-view.ensures.node in
    let kept = c.in_ok-view.ensures.kept in
    content_step c.args.kind (g.B.Blocks.held c.args.blocks.now) (g.B.Blocks.held c.read.new.blocks) c.args.level (c.args.level - 1) c.args.link c.of.result c.args.key n.0 (c.in-Some.at, c.in-Some.slot) c.slot_below.result kept (omega arith) c.of.ensures (n.2 told)
    (c.in-Some.ensures c.args.kind c.args.level n.0 n.1) (c.slot_below.ensures.content (kept.0.tells ∙ told))

pub returns-then-level-gt0-clause-whole : goal.returns-then-level-gt0-clause-whole
returns-then-level-gt0-clause-whole g t c told =
    let n = c.in_ok-view.ensures.node in
    let kept = c.in_ok-view.ensures.kept in
    on_ok_weaker c.slot_below.result (λ (below : IsWhole (Guides c.args.key) c.args.kind (g.B.Blocks.held c.read.new.blocks).image (c.args.level - 1) c.of.result).
    whole_step c.args.kind (g.B.Blocks.held c.args.blocks.now) (g.B.Blocks.held c.read.new.blocks) c.args.level (c.args.level - 1) c.args.link c.of.result c.args.key n.0 (c.in-Some.at, c.in-Some.slot) kept (omega arith) c.of.ensures (n.2 told)
    (c.in-Some.ensures c.args.kind c.args.level n.0 n.1) below) (c.slot_below.ensures.whole (kept.0.tells ∙ told))

pub returns-then-at-key-clause-leads : goal.returns-then-at-key-clause-leads
returns-then-at-key-clause-leads g t c told =
    let n = c.in_ok-view.ensures.node in
    leads_end c.args.kind (g.B.Blocks.held c.args.blocks.now).image c.args.level c.args.link c.args.key n.0 (c.in-Some.at, c.in-Some.slot) None (omega arith) (n.2 told) (c.in-Some.ensures c.args.kind c.args.level n.0 n.1) (found_none c.args.key c.in-Some.at c.in-Some.slot c.if-at-key.true)

pub returns-then-at-key-clause-content : goal.returns-then-at-key-clause-content
returns-then-at-key-clause-content g t c told =
    let n = c.in_ok-view.ensures.node in
    content_end c.args.kind (g.B.Blocks.held c.args.blocks.now).image c.args.level c.args.link c.args.key n.0 (c.in-Some.at, c.in-Some.slot) None (omega arith) (n.2 told) (c.in-Some.ensures c.args.kind c.args.level n.0 n.1) (found_none c.args.key c.in-Some.at c.in-Some.slot c.if-at-key.true)

pub returns-clause-leads : goal.returns-clause-leads
returns-clause-leads g t c told =
    let n = c.in_ok-view.ensures.node in
    leads_end c.args.kind (g.B.Blocks.held c.args.blocks.now).image c.args.level c.args.link c.args.key n.0 (c.in-Some.at, c.in-Some.slot) (Some c.in-Some.slot) (omega arith) (n.2 told) (c.in-Some.ensures c.args.kind c.args.level n.0 n.1) (found_some c.args.key c.in-Some.at c.in-Some.slot c.if-at-key.false)

pub returns-clause-content : goal.returns-clause-content
returns-clause-content g t c told =
    let n = c.in_ok-view.ensures.node in
    content_end c.args.kind (g.B.Blocks.held c.args.blocks.now).image c.args.level c.args.link c.args.key n.0 (c.in-Some.at, c.in-Some.slot) (Some c.in-Some.slot) (omega arith) (n.2 told) (c.in-Some.ensures c.args.kind c.args.level n.0 n.1) (found_some c.args.key c.in-Some.at c.in-Some.slot c.if-at-key.false)
