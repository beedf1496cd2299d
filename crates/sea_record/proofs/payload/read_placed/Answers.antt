use Rattle.std.proofs.Common.{◌≡◌, ◌≤◌, ◌++◌, List, [], ◌∷◌, length, map, get_or, arith, ap, sym, ◌∙◌}
use Rattle.std.proofs.lemmas.List.{take_all, take_more, map-append}
use Rattle.sea_record.specs.declared.entry.Mark.{Mark}
use Rattle.sea_record.specs.declared.record.Placed.{Placed}
use Rattle.sea_record.specs.Parts.{mark_of}
use Rattle.sea_record.proofs.Payloads.{cut_none, cut_more, left_more, cut_all}
use Rattle.sea_record.proofs.payload.read_placed.Goals as goal

pub loop-mark-init : goal.loop-mark-init
loop-mark-init c = record {
  marks = ap (map mark_of) c.new-placed.ensures;
  left = omega arith;
  cut = cut_none (λ p. p.block) c.args.bytes.now c.new-placed.result c.new-placed.ensures;
}

pub loop-mark-preserved : goal.loop-mark-preserved
loop-mark-preserved c =
    let rest = c.loop-mark.rest.now in
    let i = c.loop-mark.mark-index in
    let none : Mark = record { at = record { 0 = 0 }; version = record { 0 = 0 }; sum = record { 0 = 0 } } in
    let mark : Mark = get_or c.args.marks.now i none in
    let placed : Placed = record { at = mark.at; version = mark.version; sum = mark.sum; block = c.in_ok-new.field-0 } in
    let e : c.push.new.self ≡ c.loop-mark.placed ++ placed ∷ [] = c.in_ok-push.ensures.ok in
    let long : 4096 ≤ length rest = omega (arith, c.loop-mark.invariant.left, c.loop-mark-test.true) in
    record {
      marks = ap (map mark_of) e ∙ map-append mark_of c.loop-mark.placed (placed ∷ []) ∙ ap (λ (ms : List Mark). ms ++ mark ∷ []) c.loop-mark.invariant.marks ∙ sym (take_more c.args.marks.now i none c.loop-mark-test.true);
      left = left_more rest c.split_at.result.1.now i (length c.args.marks.now) c.split_at.ensures.back long c.loop-mark.invariant.left;
      cut = cut_more (λ p. p.block) c.args.bytes.now rest c.split_at.result.1.now c.loop-mark.placed c.push.new.self placed e c.loop-mark.invariant.cut long (c.in_ok-new.ensures ∙ c.split_at.ensures.front) c.split_at.ensures.back;
    }

pub returns-clause-marks : goal.returns-clause-marks
returns-clause-marks c =
    c.loop-mark.invariant.marks ∙ take_all c.loop-mark.mark-index c.args.marks.now c.loop-mark-test.false

pub returns-clause-bytes : goal.returns-clause-bytes
returns-clause-bytes c =
    cut_all (λ p. p.block) c.args.bytes.now c.loop-mark.placed c.loop-mark.rest.now c.loop-mark.invariant.cut (omega (arith, c.loop-mark.invariant.left, c.loop-mark-test.false, c.loop-mark.auto.mark-index-end))

pub returns-clause-blocks : goal.returns-clause-blocks
returns-clause-blocks c = c.loop-mark.invariant.cut.blocks
