use Rattle.std.proofs.Common.{◌+◌, cond, Some, drop, sym, ap, ◌∙◌}
use Rattle.sea_plain.specs.Scan.{newest}
use Rattle.sea_plain.proofs.Scan.{newest_more}
use Rattle.sea_plain.proofs.plain.bytes_of.Goals as goal

pub returns-then-eq : goal.returns-then-eq
returns-then-eq c =
    let entry = c.loop-other-item.result in
    let rest = newest c.args.name.now (drop (c.loop-other.other-index + 1) c.args.written.now) in
    ap Some c.bytes.ensures
    ∙ ap (λ b. cond b (Some entry.1) rest) c.if-eq.ensures
    ∙ sym (newest_more c.args.name.now c.args.written.now c.loop-other.other-index entry c.loop-other-test.true c.loop-other-item.is)
    ∙ c.loop-other.invariant

pub loop-other-preserved : goal.loop-other-preserved
loop-other-preserved c =
    let entry = c.loop-other-item.result in
    let rest = newest c.args.name.now (drop (c.loop-other.other-index + 1) c.args.written.now) in
    ap (λ b. cond b (Some entry.1) rest) c.if-eq.ensures
    ∙ sym (newest_more c.args.name.now c.args.written.now c.loop-other.other-index entry c.loop-other-test.true c.loop-other-item.is)
    ∙ c.loop-other.invariant
