use Rattle.std.proofs.Common.{ap, sym, ◌∙◌}
use Rattle.std.specs.FinMap as map
use Rattle.std.specs.Prelude.{option_map}
use Rattle.sea_plain.specs.declared.reply.Item.TheVariants.{Bytes}
use Rattle.sea_plain.specs.Answer.{read_item}
use Rattle.sea_plain.specs.Scan.{newest}
use Rattle.sea_plain.proofs.Scan.{plain_object, get_newest}
use Rattle.sea_plain.proofs.plain.Plain.read.Goals as goal

pub returns-in_default : goal.returns-in_default
returns-in_default c =
    let name = c.args.name.now in
    ap (λ found. read_item c.args.offset c.args.length (option_map plain_object found)) (c.in_default.ensures ∙ ap (newest name) c.as_slice.ensures.value)
    ∙ ap (read_item c.args.offset c.args.length) (sym (get_newest c.self.inside.written.items name) ∙ ap (λ m. map.get m name) c.self.view_is)

pub returns : goal.returns
returns c =
    let name = c.args.name.now in
    ap Bytes (c.in_ok-from_vec.ensures ∙ c.in_ok-read.ensures)
    ∙ ap (λ found. read_item c.args.offset c.args.length (option_map plain_object found)) (c.in-Some.ensures ∙ ap (newest name) c.as_slice.ensures.value)
    ∙ ap (read_item c.args.offset c.args.length) (sym (get_newest c.self.inside.written.items name) ∙ ap (λ m. map.get m name) c.self.view_is)
