use Rattle.std.proofs.Common.{ap, ◌∙◌, arith}
use Rattle.std.proofs.lemmas.List.{with_items_is}
use Rattle.sea_object.specs.Answer.{written}
use Rattle.sea_object.proofs.Writes.{written_grown}
use Rattle.sea_pieces.proofs.content.write_at.Goals as goal

pub returns-clause-ok : goal.returns-clause-ok
returns-clause-ok c =
    with_items_is c.resize.new.self c.overwrite.new.bytes (omega arith)
    ∙ c.overwrite.ensures
    ∙ ap (written c.args.offset c.args.source.now) (c.as_mut_slice.ensures.value ∙ c.in_ok-resize.ensures.items)
    ∙ written_grown c.args.offset c.args.bytes.now.len c.max.result c.args.source.now c.args.bytes.now.items (omega arith) (omega arith)
