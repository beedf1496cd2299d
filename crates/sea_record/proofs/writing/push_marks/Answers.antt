use Rattle.std.proofs.Common.{◌++◌, length, ap, ◌∙◌}
use Rattle.sea_base.specs.Field.{big_endian}
use Rattle.sea_record.specs.Entries.{mark_bytes}
use Rattle.sea_record.specs.Parts.{spelled_mark}
use Rattle.sea_record.specs.declared.entry.Mark.{Mark}
use Rattle.sea_record.specs.declared.record.Placed.{Placed}
use Rattle.sea_record.proofs.EntryLists.{pushed_none, pushed_more, pushed_all}
use Rattle.sea_record.proofs.writing.push_marks.Goals as goal

pub loop-p-init : goal.loop-p-init
loop-p-init c =
    pushed_none (λ (p : Placed). mark_bytes p.at.0 p.version.0 p.sum.0) c.args.bytes.now.items (big_endian 4 (length c.args.placed.now)) c.push_u32.new.bytes.items c.in_ok-push_u32.ensures

pub loop-p-preserved : goal.loop-p-preserved
loop-p-preserved c =
    pushed_more (λ (p : Placed). mark_bytes p.at.0 p.version.0 p.sum.0) c.args.bytes.now.items (big_endian 4 (length c.args.placed.now)) c.loop-p.bytes.items c.push.new.bytes.items c.args.placed.now c.loop-p.p-index c.p-item.result
    c.loop-p-test.true c.p-item.is c.loop-p.invariant (c.in_ok-push.ensures ∙ ap (λ (m : Mark). c.loop-p.bytes.items ++ spelled_mark m) c.mark.ensures)

pub returns : goal.returns
returns c =
    pushed_all (λ (p : Placed). mark_bytes p.at.0 p.version.0 p.sum.0) c.args.bytes.now.items (big_endian 4 (length c.args.placed.now)) c.loop-p.bytes.items c.args.placed.now c.loop-p.p-index c.loop-p-test.false c.loop-p.invariant
