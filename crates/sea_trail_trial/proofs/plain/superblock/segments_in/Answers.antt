use Rattle.std.proofs.Common.{◌≡◌, ◌≤◌, ◌∙◌, arith}
use Rattle.sea_segment.proofs.Supers.{same_super}
use Rattle.sea_trail_trial.proofs.plain.superblock.segments_in.Goals as goal

pub returns-then-not-is_segment_count-clause-refused : goal.returns-then-not-is_segment_count-clause-refused
returns-then-not-is_segment_count-clause-refused c = λ format segments is.
    let found = c.in-Some.found in
    let same = same_super c.args.block.now format found.format segments found.segments is.spells c.in-Some.ensures.some in
    let one : format ≡ 1 = same.0 ∙ c.if-found-ne-FORMAT.false in
    let count = is.count one in
    let low : 6 ≤ found.segments = omega (arith, same.1, count.0) in
    let high : found.segments ≤ 8191 = omega (arith, same.1, count.1) in
    let no = c.if-not-is_segment_count.ensures.1 (low, high) in
    cc
